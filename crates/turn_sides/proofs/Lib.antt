pub mod StatusBytes
pub mod Nodes
