-- Lemmas of this crate.
pub mod RowParts
pub mod CanDraw
