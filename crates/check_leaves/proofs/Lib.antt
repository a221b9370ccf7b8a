pub mod LeafLaws
mod WalkLaws
