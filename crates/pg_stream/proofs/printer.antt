-- Lemmas on a printer of rows: before its first row, in a row, behind the last one, and on the rows that fit.
pub mod RowsOfTables
pub mod WholePictures
pub mod RowsPrinted
pub mod RowsAppended
pub mod Ending
pub mod SingleRowsPrinted
pub mod MakingPrinters
