pub mod CallLaws
mod RunLaws
pub mod SpellLaws
