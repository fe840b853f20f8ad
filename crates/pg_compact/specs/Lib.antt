pub mod CompactGrids
pub mod RowEdges
pub mod Inside
