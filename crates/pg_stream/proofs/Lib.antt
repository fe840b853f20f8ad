-- Lemmas that other crates cite; the others stand in the modules that they serve.
pub mod DrawnLines
pub mod PicturesOfRows
pub mod SizedRows
