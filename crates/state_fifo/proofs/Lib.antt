pub mod AlertLaws
pub mod FifoLaws
pub mod OfferLaws
