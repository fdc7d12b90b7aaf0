pub mod BodyReports
pub mod ProgramReports
pub use Rattle.obligation_flow.specs.Faults
pub use Rattle.java_cfg.specs.Limits
pub use Rattle.graph_limits.specs.ListedFields
