-- Why a text is not taken as a certificate.
use Rattle.std.specs.Prelude.{◌≡◌, ℕ, ◌+◌, ◌<◌, ◌⊎◌, Option, Some, None, List}
use Rattle.rlc_base.specs.declared.code.Code.{Code}
use Rattle.rlc_base.specs.declared.code.Code.TheVariants as refused
use Rattle.rlc_base.specs.declared.faults.Refusal.{Refusal}
use Rattle.rlc_base.specs.declared.faults.Stop.{Stop}
use Rattle.rlc_base.specs.declared.faults.Stop.TheVariants as stops
use Rattle.breadth_first.specs.Searches.{IsAt}
use Rattle.program_model.specs.declared.kinds.BodyId.{BodyId}
use Rattle.program_model.specs.declared.program.Program.{Program}
use Rattle.control_actions.specs.Remaining.{Todo}
use Rattle.java_cfg.specs.Graphs.{IsGraphOf}
use Rattle.java_cfg.specs.Limits.{PassesLimit}
use Rattle.java_cfg.specs.declared.arc.Arc.{Arc}
use Rattle.flow_certs.specs.declared.pair.Pair.{Pair}
use Rattle.flow_certs.specs.Certificates.{AreCertificate, AreCertified, HaveBirths, IsClosed}
use Rattle.flow_certs.specs.Forms.{Section, body_count, body_id, first_wrong, sections}

-- column 1 of a line of the file
abbrev pub refusal_at : Code → ℕ → ℕ → Refusal
refusal_at code file line = record { code = code; pos = record { file = file; line = line; col = 1 } }

-- the text is not of the form
pub record IsBadText (p : Program) (file : ℕ) (bytes : List ℕ) (r : Refusal) : Type 0 where
  pub line : ℕ
  pub wrong : first_wrong p bytes ≡ Some line
  pub is : r ≡ refusal_at refused.BadCert file line

-- The first line of a body's part at which its pairs are no certificate: that of the body where a birth is missing, and else the line of
-- the first pair that is not closed.
pub data IsOpenLine (p : Program) (b : BodyId) (rows : List (List Arc)) (line : ℕ) (pairs : List Pair) : ℕ → Type 0 where
  birth : (HaveBirths p b rows pairs → ⊥) → IsOpenLine p b rows line pairs line
  pair : (j : ℕ) (x : Pair) → HaveBirths p b rows pairs → IsAt pairs j x → (IsClosed p b rows pairs x → ⊥)
      → ((i : ℕ) (y : Pair) → i < j → IsAt pairs i y → IsClosed p b rows pairs y) → IsOpenLine p b rows line pairs (line + 1 + j)

-- the pairs are a certificate, or the first line at which they are none
abbrev pub IsFirstOpenLine : Program → BodyId → List (List Arc) → ℕ → List Pair → Option ℕ → Type 0
IsFirstOpenLine p b rows line pairs None = AreCertificate p b rows pairs
IsFirstOpenLine p b rows line pairs (Some open_at) = IsOpenLine p b rows line pairs open_at

-- a body passes no limit on controls and places, and its pairs are no certificate of it
pub record IsOpenBody (p : Program) (b : BodyId) (line : ℕ) (pairs : List Pair) (open_at : ℕ) : Type 0 where
  pub small : (r : Refusal) → PassesLimit p b r → ⊥
  pub nodes : List (List Todo)
  pub rows : List (List Arc)
  pub graph : IsGraphOf p b nodes rows
  pub opens : IsOpenLine p b rows line pairs open_at

-- why the pairs of a body, whose line has that number, are not taken
abbrev pub IsPartStop : Program → ℕ → BodyId → ℕ → List Pair → Stop → Type 0
IsPartStop p file b line pairs (stops.Refused r) = (open_at : ℕ) × (IsOpenBody p b line pairs open_at × (r ≡ refusal_at refused.CertOpen file open_at))
IsPartStop p file b line pairs (stops.TooMuch r) = PassesLimit p b r
IsPartStop p file b line pairs stops.NoMemory = Unit {0}

-- the text is of the form, and the pairs of some body, the first such, are no certificate of it
pub record IsOpenText (p : Program) (file : ℕ) (bytes : List ℕ) (r : Refusal) : Type 0 where
  pub form : first_wrong p bytes ≡ None
  pub number : ℕ
  pub within : number < body_count p
  pub section : Section
  pub at : IsAt (sections p bytes) number section
  pub before : AreCertified p (sections p bytes) number
  pub line : ℕ
  pub opens : IsOpenBody p (body_id number) section.line section.pairs line
  pub is : r ≡ refusal_at refused.CertOpen file line

-- the text is of the form, and some body passes a limit on controls and places, where the parts of those before it are certificates
pub record IsLimitedText (p : Program) (bytes : List ℕ) (r : Refusal) : Type 0 where
  pub form : first_wrong p bytes ≡ None
  pub number : ℕ
  pub within : number < body_count p
  pub before : AreCertified p (sections p bytes) number
  pub limit : PassesLimit p (body_id number) r

-- why the text of this file is not taken
abbrev pub IsCertificateStop : Program → ℕ → List ℕ → Stop → Type 0
IsCertificateStop p file bytes (stops.Refused r) = IsBadText p file bytes r ⊎ IsOpenText p file bytes r
IsCertificateStop p file bytes (stops.TooMuch r) = IsLimitedText p bytes r
IsCertificateStop p file bytes stops.NoMemory = Unit {0}
