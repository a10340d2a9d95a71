-- Every event keeps a machine well formed.
pub mod Parts
pub mod Timer
pub mod Memory
pub mod Checksum
pub mod Fifo
pub mod Commands
pub mod Registers
pub mod Frames
pub mod Modes
pub mod Events
pub mod Kept
