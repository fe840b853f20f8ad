-- Lemmas of this crate.
mod Alike
