pub mod Panel
pub mod Words
