pub mod Modes
pub mod Numbers
pub mod Requests
pub mod Usage
