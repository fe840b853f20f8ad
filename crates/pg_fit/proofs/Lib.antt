-- Lemmas of this crate.
pub mod FilledLines
pub mod NarrowedWidths
pub mod LawsOfCuts
pub mod LawsOfTexts
pub mod LawsOfControls
pub mod LawsOfEscapes
pub mod OverlaidTexts
