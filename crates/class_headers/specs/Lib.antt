pub mod Cases
pub mod Cycles
pub mod Headers
pub mod Search
pub mod SuperTypes
