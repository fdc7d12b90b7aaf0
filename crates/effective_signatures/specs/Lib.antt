pub mod Sets
pub mod Targets
pub mod Effective
pub mod SignedMethods
