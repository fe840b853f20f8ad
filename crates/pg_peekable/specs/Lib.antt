pub mod Grids
pub mod Inside
