pub mod CarryLaws
pub mod TailLaws
