pub mod Counted
pub mod Search
mod Namings
