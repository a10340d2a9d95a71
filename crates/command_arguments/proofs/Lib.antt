pub mod ArgumentLaws
pub mod HeldLaws
