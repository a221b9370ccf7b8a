pub mod StatusLaws
pub mod Rest
pub mod Safe
pub mod Fine
pub mod States
pub mod Walk
pub mod Worked
