pub mod Drafts
pub mod LostObjects
pub use Rattle.settled_heaps.specs.Settled
