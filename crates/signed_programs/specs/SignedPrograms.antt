-- The program with its annotations read, and the rules on its signatures.
use Rattle.std.specs.Prelude.{◌≡◌, [], Some}
use Rattle.rlc_base.specs.declared.faults.Stop.{Stop}
use Rattle.rlc_base.specs.declared.faults.Stop.TheVariants as stops
use Rattle.program_model.specs.declared.kinds.FieldId.{FieldId}
use Rattle.program_model.specs.declared.program.Field.{Field}
use Rattle.program_model.specs.declared.program.Program.{Program}
use Rattle.program_model.specs.Lookups.{field_at}
use Rattle.program_model.specs.Validity.{IsListedField}
use Rattle.must_call_types.specs.AnnotationCases.{annotation_cases}
use Rattle.must_call_types.specs.Signed.{IsSignatureStop, IsSigned}
use Rattle.signature_rules.specs.RulePasses.{rule_refusal}

-- the program with the sets and signatures that its annotations say, of which none is refused
pub record IsAnnotated (typed p : Program) : Type 0 where
  pub signed : IsSigned typed p
  pub right : annotation_cases p ≡ []

-- the class of each field lists it
abbrev pub HasListedFields : Program → Type 0
HasListedFields p = (f : FieldId) (x : Field) → field_at p f ≡ Some x → IsListedField p f x

-- the first rule on signatures refuses that has a case; or memory ran out
abbrev pub IsRuleStop : Program → Stop → Type 0
IsRuleStop p (stops.Refused r) = rule_refusal p ≡ Some r
IsRuleStop p (stops.TooMuch r) = ⊥
IsRuleStop p stops.NoMemory = Unit {0}

-- the annotations refuse, and else a rule on signatures
pub data IsSigningStop (typed : Program) (stop : Stop) : Type 0 where
  by_annotations : (left : Program) → IsSignatureStop typed left stop → IsSigningStop typed stop
  by_rules : (p : Program) → IsAnnotated typed p → IsRuleStop p stop → IsSigningStop typed stop
