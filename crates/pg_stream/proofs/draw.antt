-- Lemmas on open cells, and on the lines and separators that are drawn of them.
pub mod Steps
pub mod LinesOfSlots
pub mod OpenLists
pub mod PartsOfLines
pub mod OwnersOfCells
pub mod Beginning
pub mod SingleLines
