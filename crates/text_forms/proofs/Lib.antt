pub mod TableLaws
pub mod FormLaws
pub mod FieldLaws
pub mod SlotLaws
