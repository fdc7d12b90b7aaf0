pub mod Bodies
pub mod Members
pub mod Membership
pub mod Results
pub mod Signatures
