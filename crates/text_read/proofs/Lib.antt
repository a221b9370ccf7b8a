pub mod WrittenLaws
pub mod FitLaws
pub mod LeadLaws
pub mod StoreLaws
pub mod CopyLaws
pub mod ReadLaws
pub mod SpellLaws
