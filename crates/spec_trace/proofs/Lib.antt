pub mod Worked
pub mod Single
pub mod Called
pub mod Followed
pub mod CountLaws
pub mod TallyLaws
