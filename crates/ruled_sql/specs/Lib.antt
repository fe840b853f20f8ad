pub mod Answers
pub mod Filled
pub mod Lacks
