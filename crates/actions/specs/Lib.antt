pub mod Sets
pub mod Opened
