pub mod Bits
pub mod Text
