pub mod FrontLaws
pub mod CrcLaws
pub mod FrameLaws
pub mod SentLaws
