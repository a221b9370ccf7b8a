pub mod Orders
pub mod Demand
pub mod Premise
pub mod Worked
pub mod Runs
pub mod RightFirst
