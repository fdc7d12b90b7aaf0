pub mod Cases
pub mod Core
pub mod Declarations
pub mod Modifiers
pub mod UnknownNames
pub use Rattle.refusal_order.specs.Refusals
