pub mod Heard
pub mod SmallLaws
pub mod ShownLaws
pub mod Worked
