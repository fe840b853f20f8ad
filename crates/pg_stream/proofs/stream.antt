-- Lemmas on streams of rows.
pub mod StreamedRows
pub mod StreamedResults
pub mod OwnRows
