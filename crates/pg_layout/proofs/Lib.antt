-- Lemmas of this crate.
pub mod KeyedPlaces
mod PlacesInTrees
pub mod TextLines
pub mod PlainBytes
pub mod Given
pub mod GivenArrays
pub mod Computing
