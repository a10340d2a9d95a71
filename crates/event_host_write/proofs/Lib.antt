pub mod WorkLaws
pub mod WriteLaws
