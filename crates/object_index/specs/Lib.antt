pub mod ObjectIndexes
pub use Rattle.frame_owners.specs.FrameOwners
