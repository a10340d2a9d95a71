pub mod TimerLaws
pub mod BatchLaws
pub mod ClockLaws
pub mod ModeLaws
pub mod StandLaws
pub mod Reaching
