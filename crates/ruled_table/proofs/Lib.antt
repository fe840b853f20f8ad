pub mod LentTexts
pub mod Tables
pub mod RowsInParts
pub mod WordsOfColumns
pub mod PointedTexts
