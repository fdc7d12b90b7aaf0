pub mod Stores
pub use Rattle.refusal_order.specs.Refusals
