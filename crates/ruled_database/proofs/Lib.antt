pub mod Reading
mod Tabling
