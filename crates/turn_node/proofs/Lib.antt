pub mod Parts
pub mod PairTurns
pub mod LeafTurns
pub mod OnWay
pub mod InsertTurns
pub mod NodeTurns
