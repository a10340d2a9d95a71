pub mod ByteLaws
