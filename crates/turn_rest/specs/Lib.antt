pub mod Rest
pub mod Swept
