pub mod CellLaws
pub mod ToldLaws
