pub mod Maps
pub mod Decimals
