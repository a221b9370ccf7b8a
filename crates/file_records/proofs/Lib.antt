pub mod Rows
pub mod CodeLaws
mod Words
pub mod Once
