pub mod Ledger
pub mod Streams
