pub mod MarkLaws
pub mod ScanLaws
pub mod NumberLaws
pub mod TakenLaws
pub mod Once
