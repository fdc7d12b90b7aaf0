pub mod Refusals
pub mod Programs
pub use Rattle.program_reading.specs.Inputs
pub use Rattle.program_reading.specs.SignedPrograms
