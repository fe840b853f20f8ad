-- Lemmas of this crate.
pub mod CompactRows
pub mod CompactPictures
mod Rulesets
