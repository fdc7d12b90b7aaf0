pub mod MethodBodies
pub use Rattle.class_order.specs.Modifiers
