pub mod Cuts
pub mod Ends
pub mod Parts
pub mod Rows
