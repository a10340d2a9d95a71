pub mod ParityLaws
pub mod CrcLaws
