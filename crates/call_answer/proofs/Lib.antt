pub mod Heard
pub mod EndLaws
