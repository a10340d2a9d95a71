pub mod Trailer
pub mod Offsets
pub mod Judged
