pub mod Wholes
pub mod PhaseLaws
