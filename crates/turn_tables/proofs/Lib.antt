pub mod FileNodes
pub mod EntryLaws
pub mod FillLaws
pub mod LinkLaws
pub mod TableLaws
