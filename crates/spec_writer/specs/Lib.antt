pub mod Writing
pub mod Lent
pub mod Promises
