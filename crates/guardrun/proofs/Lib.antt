mod SpokenLaws
pub mod EndLaws
pub mod Worked
