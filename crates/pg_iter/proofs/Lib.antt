-- Lemmas of this crate.
pub mod IterTables
