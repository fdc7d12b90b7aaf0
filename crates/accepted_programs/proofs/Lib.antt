pub mod Alike
pub mod Depths
pub mod Lists
pub use Rattle.flow_rules.proofs.CallNames
pub use Rattle.flow_rules.proofs.Elements
pub use Rattle.must_call_types.proofs.SignedTables
