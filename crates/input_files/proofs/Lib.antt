pub mod LaterStops
pub mod PlaceLaws
pub use Rattle.source_files.proofs.LaterCounts
