-- The refusals of the pass over the names of classes, and of too many classes.
use Rattle.std.specs.Prelude.{◌≡◌, ℕ, false, Option, Some, None, List, [], ◌∷◌, flat_map, slice_get, Contains}
use Rattle.rlc_base.specs.declared.code.Code.TheVariants as refused
use Rattle.rlc_base.specs.declared.faults.Refusal.{Refusal}
use Rattle.rlc_base.specs.declared.faults.Stop.{Stop}
use Rattle.rlc_base.specs.declared.faults.Stop.TheVariants as stops
use Rattle.refusal_order.specs.Refusals.{is_before, least, refused_at}
use Rattle.class_names.specs.ClassNames.{doubles}
use Rattle.class_order.specs.Declarations.{Declaration, class_names, place_of}

-- a pass stops for the least of its cases
abbrev pub IsCause : List Refusal → Stop → Type 0
IsCause cases (stops.Refused r) = least cases ≡ Some r
IsCause cases (stops.TooMuch r) = ⊥
IsCause cases stops.NoMemory = Unit {0}

-- none where no refusal is due, and else one of those, before which none comes
abbrev pub IsLeast : (Refusal → Type 0) → Option Refusal → Type 0
IsLeast P None = (r : Refusal) → P r → ⊥
IsLeast P (Some r) = P r × ((s : Refusal) → P s → is_before s r ≡ false)

-- one of the elements has the case
abbrev pub IsAmong : {X : Type 0} → (X → Refusal → Type 0) → List X → Refusal → Type 0
IsAmong {X} P xs r = (x : X) × Contains xs x × P x r

-- ---- two classes of one qualified name

abbrev pub double_at : Option Declaration → List Refusal
double_at None = []
double_at (Some d) = refused_at refused.DoubleClass (place_of d) ∷ []

abbrev pub double_case : List Declaration → ℕ → List Refusal
double_case order n = double_at (slice_get order n)

-- each class whose qualified name an earlier class has, at its name
abbrev pub double_cases : List Declaration → List Refusal
double_cases order = flat_map (double_case order) (doubles (class_names order))

-- ---- too many classes

abbrev pub too_many_at : Option Declaration → List Refusal
too_many_at None = []
too_many_at (Some d) = refused_at refused.TooManyClasses (place_of d) ∷ []

-- the first class past 4,096, at its name
abbrev pub too_many_cases : List Declaration → List Refusal
too_many_cases order = too_many_at (slice_get order 4096)
