pub mod Answer
pub mod Check
pub mod Shipped
pub mod Examples
