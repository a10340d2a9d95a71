-- Many clocks at once.
pub mod Round
pub mod Timer
pub mod Pieces
pub mod Six
pub mod Rule
