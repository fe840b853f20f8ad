-- Lemmas of this crate.
mod SettingLaws
mod DrawnCells
mod ColorsOfLines
mod PictureColors
pub mod Computing
mod RowsPieces
mod RowsConfig
mod RowsFits
mod RowsPictures
mod WorkedTables
