pub mod Entries
pub mod Journal
pub mod Demand
pub mod Account
