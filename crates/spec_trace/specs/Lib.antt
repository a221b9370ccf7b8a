pub mod Counts
pub mod Tallies
pub mod Traces
pub mod Opened
pub mod Worked
