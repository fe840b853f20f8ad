-- Lemmas of this crate.
pub mod Computing
pub mod LineWords
