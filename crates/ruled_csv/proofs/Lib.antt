pub mod KeptTexts
pub mod Scans
pub mod Readers
pub mod TextFaults
