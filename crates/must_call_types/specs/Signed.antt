-- The program once its annotations are read: must-call sets, effective signatures and the table of names.
use Rattle.std.specs.Prelude.{◌≡◌, Some, map, All}
use Rattle.std.specs.List.{AllZip}
use Rattle.rlc_base.specs.declared.faults.Stop.{Stop}
use Rattle.rlc_base.specs.declared.faults.Stop.TheVariants as stops
use Rattle.annotation_rules.specs.Refusals.{least}
use Rattle.annotation_rules.specs.AnnotationCases.{annotation_cases}
use Rattle.program_model.specs.declared.program.Program.{Program}
use Rattle.must_call_types.specs.NameTable.{IsNameStop, IsNameTable}
use Rattle.must_call_types.specs.MustSets.{but_set, with_own_set, IsMustSet}
use Rattle.effective_signatures.specs.SignedMethods.{IsSignedMethod}

-- the program with its sets, signatures and table of names; all else stays
pub record IsSigned (p signed : Program) : Type 0 where
  pub names : IsNameTable p signed.names
  pub classes : map but_set signed.classes.items ≡ map (λ k. but_set (with_own_set signed.names k)) p.classes.items
  pub sets : All (IsMustSet signed.classes.items) signed.classes.items
  pub methods : AllZip (IsSignedMethod signed.names p.fields.items p.classes.items) p.methods.items signed.methods.items
  pub fields : signed.fields ≡ p.fields
  pub bodies : signed.bodies ≡ p.bodies
  pub ignored : signed.ignored ≡ p.ignored
  pub exact : signed.exact ≡ p.exact
  pub core : signed.core ≡ p.core

-- Why a program is stopped: its names are too many, or, with its sets and signatures read, this is the least of the cases of its
-- annotations, or memory ran out.
abbrev pub IsSignatureStop : Program → Program → Stop → Type 0
IsSignatureStop p signed (stops.Refused r) = IsSigned p signed × (least (annotation_cases signed) ≡ Some r)
IsSignatureStop p signed (stops.TooMuch r) = IsNameStop p (stops.TooMuch r)
IsSignatureStop p signed stops.NoMemory = Unit {0}
