pub mod Written
pub mod Transcribed
