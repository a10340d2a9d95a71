pub mod ConfigLaws
