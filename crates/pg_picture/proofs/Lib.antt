-- Lemmas of this crate.
pub mod Appending
pub mod Ranges
pub mod PiecesOfLines
pub mod MarksOfRectangles
pub mod FittingTables
pub mod Pictures
pub mod Separators
pub mod PlacesOfTexts
pub mod FirstPlaces
pub mod OwnersOfPlaces
pub mod WalksOfRows
pub mod Owners
pub mod DrawnRectangles
pub mod Computing
pub mod StraightColumns
mod Rulesets
