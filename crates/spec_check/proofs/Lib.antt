pub mod Ahead
pub mod Kept
pub mod InsFits
pub mod Under
pub mod Numbers
pub mod Passed
pub mod Rows
pub mod Examples
