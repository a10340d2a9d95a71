pub mod View
pub mod Parts
pub mod Formed
pub mod Turns
pub mod Meets
pub mod LostSum
pub mod Answers
