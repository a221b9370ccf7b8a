pub mod AddedLaws
pub mod Lengths
