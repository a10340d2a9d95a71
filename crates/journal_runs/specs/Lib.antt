pub mod Promised
pub mod Run
pub mod SingleClock
pub mod Editions
pub mod LostSum
