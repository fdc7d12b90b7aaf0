-- The table of names: those of must-call sets, promises and preconditions, each once at its first place.
use Rattle.std.specs.Prelude.{◌≡◌, ℕ, ◌+◌, ◌*◌, ◌^◌, nat_lt, Option, Some, None, List, [], ◌∷◌, ◌++◌, length, fold, if◌then◌else◌}
use Rattle.std.specs.List.{flat_map}
use Rattle.std.specs.List.Sorted.{IsNonDecreasingBy, IsPermutation}
use Rattle.rlc_base.specs.Names.{with_name}
use Rattle.rlc_base.specs.declared.code.Code.TheVariants as refused
use Rattle.rlc_base.specs.declared.faults.Stop.{Stop}
use Rattle.rlc_base.specs.declared.faults.Stop.TheVariants as stops
use Rattle.rlc_base.specs.declared.place.Pos.{Pos}
use Rattle.program_model.specs.declared.program.Program.{Program}
use Rattle.program_model.specs.declared.program.Class.{Class}
use Rattle.program_model.specs.declared.program.Field.{Field}
use Rattle.program_model.specs.declared.program.Method.{Method}
use Rattle.program_model.specs.declared.program.ParamSig.{ParamSig}
use Rattle.program_model.specs.declared.program.RawAnno.{RawAnno}
use Rattle.annotation_kinds.specs.Annotations.{names_listed}

abbrev pub annotations_of : Method → List RawAnno
annotations_of m = m.annos.items ++ flat_map (λ (x : ParamSig). x.annos.items) (m.sig.receiver ∷ m.sig.params.items)

-- the annotations of classes, members and parameters
abbrev pub annotations : Program → List RawAnno
annotations p =
    flat_map (λ (k : Class). k.annos.items) p.classes.items
    ++ flat_map (λ (x : Field). x.annos.items) p.fields.items
    ++ flat_map annotations_of p.methods.items

-- places in the order of files, lines and columns
abbrev pub place_number : Pos → ℕ
place_number pos = (pos.file * 2 ^ 32 + pos.line) * 2 ^ 32 + pos.col

abbrev pub place_of_annotation : RawAnno → ℕ
place_of_annotation a = place_number a.pos

-- these are the annotations in the order of files and places
pub record IsInTextOrder (annos ordered : List RawAnno) : Type 0 where
  pub same : IsPermutation annos ordered
  pub order : IsNonDecreasingBy place_of_annotation ordered

-- the table with the names that an annotation lists
abbrev pub with_names : List (List ℕ) → RawAnno → List (List ℕ)
with_names table a = fold with_name table (names_listed a)

-- where an annotation brings one name more than 128
abbrev pub past_limit : List (List ℕ) → List RawAnno → Option Pos
past_limit table [] = None
past_limit table (a ∷ annos) = if nat_lt 128 (length (with_names table a)) then Some a.pos else past_limit (with_names table a) annos

-- the names that the program lists, of which there are at most 128
pub record IsNameTable (p : Program) (table : List (List ℕ)) : Type 0 where
  pub ordered : List RawAnno
  pub order : IsInTextOrder (annotations p) ordered
  pub few : past_limit [] ordered ≡ None
  pub listed : table ≡ fold with_names [] ordered

-- the program lists more than 128 names, and the annotation at this place brings the 129th
pub record IsPastNames (p : Program) (pos : Pos) : Type 0 where
  pub ordered : List RawAnno
  pub order : IsInTextOrder (annotations p) ordered
  pub past : past_limit [] ordered ≡ Some pos

-- the stop says that the program lists too many names, or that memory ran out
abbrev pub IsNameStop : Program → Stop → Type 0
IsNameStop p (stops.TooMuch r) = (r.code ≡ refused.TooManyNames) × IsPastNames p r.pos
IsNameStop p (stops.Refused r) = ⊥
IsNameStop p stops.NoMemory = Unit {0}

-- the same of the annotations in their order
abbrev pub IsPastStop : List RawAnno → Stop → Type 0
IsPastStop ordered (stops.TooMuch r) = (r.code ≡ refused.TooManyNames) × (past_limit [] ordered ≡ Some r.pos)
IsPastStop ordered (stops.Refused r) = ⊥
IsPastStop ordered stops.NoMemory = Unit {0}
