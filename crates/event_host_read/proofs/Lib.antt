pub mod ShownLaws
pub mod ReadLaws
