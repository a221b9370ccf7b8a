pub mod Run
pub mod Memory
pub mod Choices
pub mod Paths
pub mod Beneath
pub mod Rising
