pub mod TurnLaws
pub mod StoreLaws
pub mod PowerLaws
pub mod FlagLaws
pub mod RingLaws
pub mod StageLaws
pub mod MeetLaws
pub mod ByteLaws
