pub mod RunLaws
pub mod LoopLaws
pub mod OpenLaws
