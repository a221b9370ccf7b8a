pub mod Said
pub mod Telling
pub mod Worked
