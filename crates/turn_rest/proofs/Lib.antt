pub mod Awakened
pub mod HeldLoad
pub mod RecordLaws
pub mod RestLaws
pub mod SweepLaws
pub mod TidyLaws
