-- Lemmas of this crate.
pub mod ScriptTables
