pub mod Shown
pub mod Meaning
pub mod Worked
