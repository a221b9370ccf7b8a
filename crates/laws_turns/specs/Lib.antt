pub mod Cells
pub mod Counts
pub mod Leaves
pub mod Calls
