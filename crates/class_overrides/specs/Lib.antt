pub mod CarriedMethods
pub mod Cases
pub mod Steps
pub use Rattle.class_members.specs.Results
