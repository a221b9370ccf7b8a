pub mod Quiet
pub mod LeafSteps
pub mod LeafRuns
pub mod LeafStarts
pub mod LeafCells
