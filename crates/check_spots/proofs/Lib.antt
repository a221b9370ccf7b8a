mod ByKind
mod LeafLoops
mod AllLeaves
