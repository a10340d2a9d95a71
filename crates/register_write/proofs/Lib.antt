pub mod MarkLaws
pub mod ModeLaws
pub mod WriteLaws
