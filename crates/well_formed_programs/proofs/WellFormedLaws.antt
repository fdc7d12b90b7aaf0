-- A valid program whose annotations are read is well formed where nothing refuses it.
use Rattle.std.proofs.Common.{◌≡◌, []}
use Rattle.program_model.specs.declared.program.Program.{Program}
use Rattle.program_model.specs.Validity.{HasBodies, IsValid}
use Rattle.must_call_types.specs.SignedMethods.{IsSignedMethod}
use Rattle.must_call_types.specs.AnnotationCases.{annotation_cases}
use Rattle.must_call_types.specs.WellFormed.{IsWellFormed}
use Rattle.must_call_types.specs.Signed.{IsSigned}
use Rattle.must_call_types.proofs.SignedTables.{before}
use Rattle.signature_rules.specs.RulePasses.{HasNoRuleCase}
use Rattle.well_formed_programs.proofs.Assigned.{unassigned}
use Rattle.well_formed_programs.proofs.Interests.{signed_interest}

pub well_formed : (typed p : Program) → IsSigned typed p → annotation_cases p ≡ [] → HasNoRuleCase p → IsValid p → HasBodies p → IsWellFormed p
well_formed typed p signed annotations rules valid bodies =
    record {
      valid = valid;
      bodies = bodies;
      interests = λ m x found. (
          let old = before (IsSignedMethod p.names typed.fields.items typed.classes.items) typed.methods.items p.methods.items m.0 x signed.methods found in
          signed_interest p typed.fields.items typed.classes.items old.0 x old.2);
      unassigned = λ n b found. unassigned p n b annotations found (valid.typed.bodies n b found).method;
      aliases = rules.aliases;
      overrides = rules.overrides;
      owning = rules.owning;
      resets = rules.resets;
    }
