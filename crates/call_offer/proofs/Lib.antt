mod Added
pub mod OfferLaws
