pub mod Lists
pub mod Spots
pub mod Bytes
pub mod Records
pub mod Steps
pub mod Tree
pub mod Opened
pub mod Parts
