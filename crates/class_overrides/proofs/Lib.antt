pub mod CarriedMethods
pub mod Lists
pub mod OverrideSteps
pub mod Walks
mod NoneAlike
pub use Rattle.class_members.proofs.Elements
