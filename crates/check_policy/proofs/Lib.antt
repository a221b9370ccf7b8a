pub mod Answers
mod InOrder
mod NoStep
