pub mod Append
pub mod Below
pub mod Both
pub mod Bytes
pub mod ConstantArms
