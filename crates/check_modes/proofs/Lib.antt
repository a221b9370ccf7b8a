pub mod Words
pub mod Table
pub mod ModeSteps
pub mod Final
