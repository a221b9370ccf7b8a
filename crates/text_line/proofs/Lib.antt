pub mod SlotLaws
pub mod LineLaws
