pub mod Layout
pub mod Outcome
pub mod Write
pub mod Read
pub mod Find
pub mod Packs
pub mod Examples
