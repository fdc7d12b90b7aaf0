pub mod Numbers
pub mod Lines
pub mod Forms
pub mod Certificates
pub mod Causes
pub mod Listings
