pub mod AbsorbLaws
