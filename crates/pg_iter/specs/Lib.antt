pub mod IterGrids
