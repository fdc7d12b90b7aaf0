pub mod Ends
pub use Rattle.accepted_programs.specs.Completions
pub use Rattle.accepted_programs.specs.Coverage
pub use Rattle.accepted_programs.specs.Exceptions
pub use Rattle.accepted_programs.specs.TreeOrder
