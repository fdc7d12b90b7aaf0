-- A program with a certificate passes no limit on controls and places, and no path in it breaks a rule.
use Rattle.std.proofs.Common.{◌<◌, ℕ, List, length}
use Rattle.rlc_base.specs.declared.faults.Refusal.{Refusal}
use Rattle.program_model.specs.declared.program.Program.{Program}
use Rattle.java_cfg.specs.Limits.{PassesLimit}
use Rattle.flow_certs.specs.Certificates.{IsCertificate}
use Rattle.flow_certs.proofs.CertificateLaws.{faultless, limitless}
use Rattle.program_faults.specs.ProgramReports.{IsFaulty, body_id}

pub certified_small : (p : Program) (bytes : List ℕ) → IsCertificate p bytes → (i : ℕ) → i < length p.bodies.items → (r : Refusal) → PassesLimit p (body_id i) r → ⊥
certified_small p bytes is i inside r = limitless p bytes is (body_id i) r inside

pub certified_none : (p : Program) (bytes : List ℕ) → IsCertificate p bytes → IsFaulty p → ⊥
certified_none p bytes is x = faultless p bytes is x.body x.origin x.rule x.at x.names x.faulty
