pub mod Results
mod SignedProgram
pub use Rattle.well_formed_programs.proofs.SignedTwice
