pub mod FixedBits
pub mod Edition
