-- What an edition decides, and that no call but a start changes it.
pub mod Block0
pub mod Recast
pub mod Front
pub mod Kept
pub mod Rule
