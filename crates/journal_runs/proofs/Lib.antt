pub mod Promised
pub mod Kept
pub mod SingleClock
pub mod Editions
pub mod LostSum
