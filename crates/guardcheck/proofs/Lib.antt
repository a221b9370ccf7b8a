mod SpreadLaws
pub mod ShownLaws
pub mod Worked
