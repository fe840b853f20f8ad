pub mod Draft
pub mod Samples
pub mod Script
pub mod Statement
pub mod Told
pub mod Words
