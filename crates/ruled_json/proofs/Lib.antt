mod Views
mod Flat
mod Tables
pub mod StreamedLines
