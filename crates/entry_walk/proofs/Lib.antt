pub mod TypeLaws
pub mod NumberLaws
