pub mod PrintLaws
pub mod Lengths
pub mod FileLaws
