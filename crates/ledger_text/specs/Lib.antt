pub mod Lines
pub mod Ledger
