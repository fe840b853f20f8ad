-- Lemmas of this crate.
pub mod EqualLines
pub mod OneStyle
pub mod Lookups
pub mod CoveredPlaces
mod SpanCrossings
pub mod SettingsLaw
pub mod Computing
mod Rulesets
