pub mod Certificates
pub mod Checks
pub mod Generated
pub use Rattle.program_faults.specs.ProgramReports
pub use Rattle.certificates.specs.Certificates as ProgramCertificates
pub use Rattle.command_programs.specs.Programs
pub use Rattle.command_programs.specs.Refusals
