pub mod Faults
pub mod Traces
pub use Rattle.obligation_paths.specs.Paths
