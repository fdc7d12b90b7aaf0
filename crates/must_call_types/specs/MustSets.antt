-- Must-call sets with their inheritance (Checker Framework manual, Must Call Checker).
use Rattle.std.specs.Prelude.{◌≡◌, ◌⊎◌, ◌<◌, ℕ, List, ◌++◌, length, fold, slice_get, slice_index_or, All}
use Rattle.std.specs.FinSet as set
use Rattle.program_model.specs.declared.kinds.ClassId.{ClassId}
use Rattle.program_model.specs.declared.program.Class.{Class}
use Rattle.program_model.specs.Lookups.{optional}
use Rattle.program_model.specs.NameSets.{Names, no_names}
use Rattle.annotation_rules.specs.MustCallSets.{must_in}
use Rattle.effective_signatures.specs.Sets.{own_or, own_set}

-- the classes and interfaces that a class names as its super types
abbrev pub named_supers : Class → List ClassId
named_supers k = optional k.sup ++ k.faces.items

abbrev pub set_at : List Class → ClassId → Names
set_at classes c = must_in (slice_get classes c.0)

abbrev pub with_set : List Class → Names → ClassId → Names
with_set classes names d = set.union names (set_at classes d)

abbrev pub join_sets : List Class → List ClassId → Names
join_sets classes ds = fold (with_set classes) no_names ds

-- the set of its own, and where it has no annotation the union of those of its super class and its interfaces
abbrev pub inherited_or_own : List Class → Class → Names
inherited_or_own classes k = own_or k.own_must (join_sets classes (named_supers k))

abbrev pub IsMustSet : List Class → Class → Type 0
IsMustSet classes k = k.must ≡ inherited_or_own classes k

-- a class but for its must-call set
abbrev pub but_set : Class → Class
but_set k = record k { must = no_names }

-- the class with the set of its own annotation
abbrev pub with_own_set : List (List ℕ) → Class → Class
with_own_set table k = record k { own_must = own_set table k.annos.items }

abbrev pub settled : List Class → Class → Class
settled classes k = record k { must = inherited_or_own classes k }

-- each class has more above it than each of its super types
abbrev pub IsGraded : List Class → Type 0
IsGraded classes = (i : ℕ) (k : Class) → i < length classes → All (λ d. (e : Class) → d.0 < length classes → length (slice_index_or classes d.0 e).above.items < length (slice_index_or classes i k).above.items) (named_supers (slice_index_or classes i k))

-- fewer are above it, or as many, and it comes before i
abbrev pub IsDue : ℕ → ℕ → ℕ → ℕ → Type 0
IsDue size i j above = (above < size) ⊎ ((above ≡ size) × (j < i))

-- the classes that come before i, or have fewer above them, have their sets
abbrev pub IsSettledTo : List Class → ℕ → ℕ → Type 0
IsSettledTo classes size i =
    (j : ℕ) (k : Class) → j < length classes → IsDue size i j (length (slice_index_or classes j k).above.items) → IsMustSet classes (slice_index_or classes j k)
