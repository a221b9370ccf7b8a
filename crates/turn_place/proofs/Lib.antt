pub mod LeafPlaces
pub mod Ways
pub mod SidePlaces
