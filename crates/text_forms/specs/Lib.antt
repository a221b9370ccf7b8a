pub mod Usage
pub mod Table
pub mod Meant
pub mod Whole
