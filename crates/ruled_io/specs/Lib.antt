pub mod Faults
pub mod Formats
pub mod Input
pub mod Reading
pub mod Requests
pub mod Runs
pub mod Stream
