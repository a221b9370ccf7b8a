pub mod Meaning
pub mod Blamed
