-- The single-clock rule.
pub mod Laws
pub mod Rule
pub mod Calls
