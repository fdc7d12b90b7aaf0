pub mod Moves
pub mod Frames
pub use Rattle.ledger_frames.specs.Choosing
pub use Rattle.ledger_frames.specs.Configuration
pub use Rattle.ledger_frames.specs.Frames as LedgerFramesFrames
pub use Rattle.ledger_frames.specs.Operations
