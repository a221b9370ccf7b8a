mod LineLaws
pub mod Lengths
pub mod Unled
