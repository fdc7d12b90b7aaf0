pub mod Counts
pub mod Migration
