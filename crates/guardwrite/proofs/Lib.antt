pub mod ToldLaws
pub mod Worked
