-- What is said of a program whose certificate is asked for.
use Rattle.std.specs.Prelude.{◌≤◌, ℕ, Bool, true, false, List, [], length}
use Rattle.program_model.specs.declared.kinds.BodyId.{BodyId}
use Rattle.program_model.specs.declared.program.Program.{Program}
use Rattle.flow_certs.specs.Certificates.{IsCertificate}
use Rattle.program_faults.specs.BodyReports.{HasFaults}
use Rattle.program_faults.specs.ProgramReports.{IsFaultCount, IsFaulty}
use Rattle.certificates.specs.declared.program.Certified.{Certified}
use Rattle.certificates.specs.declared.program.Certified.TheVariants as certified

-- the most bytes that a certificate may have
abbrev pub max_certificate : ℕ
max_certificate = 67108864

-- no body passes a limit, and no path in a body breaks a rule
pub record IsFaultless (p : Program) : Type 0 where
  pub counted : IsFaultCount p 0
  pub none : IsFaulty p → ⊥

-- whether no path in a body breaks a rule; where none does, the body passes no limit
abbrev pub IsBodyVerdict : Program → BodyId → Bool → Type 0
IsBodyVerdict p b true = HasFaults p b []
IsBodyVerdict p b false = IsFaulty p

abbrev pub IsVerdict : Program → Bool → Type 0
IsVerdict p true = IsFaultless p
IsVerdict p false = IsFaulty p

-- the text is a certificate that is not too long
abbrev pub IsShortCertificate : Program → List ℕ → Type 0
IsShortCertificate p text = IsCertificate p text × (length text ≤ max_certificate)

abbrev pub IsWritten : Program → Certified → Type 0
IsWritten p (certified.Written text) = IsShortCertificate p text
IsWritten p certified.TooLong = Unit {0}
IsWritten p certified.Faulty = ⊥

abbrev pub IsCertified : Program → Certified → Type 0
IsCertified p (certified.Written text) = IsFaultless p × IsShortCertificate p text
IsCertified p certified.TooLong = IsFaultless p
IsCertified p certified.Faulty = IsFaulty p
