pub mod Trees
pub mod Definitions
pub mod Tables
pub mod Listings
