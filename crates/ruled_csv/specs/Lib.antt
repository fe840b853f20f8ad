pub mod Kept
pub mod Rows
pub mod Quotes
pub mod Faults
pub mod Reading
pub mod Inside
