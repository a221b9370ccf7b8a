pub mod Rule7
pub mod Offends
