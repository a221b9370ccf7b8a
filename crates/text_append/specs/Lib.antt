pub mod Added
pub mod Refusal
