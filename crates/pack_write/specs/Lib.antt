pub mod Puts
pub mod Errors
