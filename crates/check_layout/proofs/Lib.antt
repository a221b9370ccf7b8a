pub mod Frame
pub mod Rows
mod Fields
pub mod Unfit
