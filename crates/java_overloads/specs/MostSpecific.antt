-- The most specific method, as a fact of all methods that are applicable (JLS 15.12.2.5).
use Rattle.std.specs.Prelude.{◌≡◌, true, List, Contains}
use Rattle.program_model.specs.declared.kinds.MethodId.{MethodId}
use Rattle.program_model.specs.declared.kinds.VType.{VType}
use Rattle.program_model.specs.declared.program.Program.{Program}
use Rattle.program_model.specs.Lookups.{method_at}
use Rattle.java_overloads.specs.declared.choices.Choice.{Choice}
use Rattle.java_overloads.specs.declared.choices.Choice.TheVariants as choices
use Rattle.java_overloads.specs.Overloads.{gives_under, is_narrower, takes, throws_under}

-- one of the methods, which takes the arguments
pub record IsApplicable (p : Program) (candidates : List MethodId) (arguments : List VType) (m : MethodId) : Type 0 where
  pub among : Contains candidates m
  pub taken : takes p arguments (method_at p m) ≡ true

-- it is applicable, and more specific than each that is
pub record IsMostSpecific (p : Program) (candidates : List MethodId) (arguments : List VType) (m : MethodId) : Type 0 where
  pub is_applicable : IsApplicable p candidates arguments m
  pub narrowest : (n : MethodId) → IsApplicable p candidates arguments n → is_narrower p (method_at p m) (method_at p n) ≡ true

-- it is most specific, and its result is under that of each that is
pub record IsPreferred (p : Program) (candidates : List MethodId) (arguments : List VType) (m : MethodId) : Type 0 where
  pub is_most_specific : IsMostSpecific p candidates arguments m
  pub least_result : (n : MethodId) → IsMostSpecific p candidates arguments n → gives_under p (method_at p m) (method_at p n) ≡ true

-- it declares no checked exception that one of those which are most specific does not
abbrev pub ThrowsLeast : Program → List MethodId → List VType → MethodId → Type 0
ThrowsLeast p candidates arguments m = (n : MethodId) → IsMostSpecific p candidates arguments n → throws_under p (method_at p m) (method_at p n) ≡ true

-- a preferred one, which throws least where one of those preferred does
pub record IsMeant (p : Program) (candidates : List MethodId) (arguments : List VType) (m : MethodId) : Type 0 where
  pub is_preferred : IsPreferred p candidates arguments m
  pub throws_least : (n : MethodId) → IsPreferred p candidates arguments n → ThrowsLeast p candidates arguments n → ThrowsLeast p candidates arguments m

-- no method is applicable; or some are, and none is preferred; or the chosen one is meant
abbrev pub IsChoice : Program → List MethodId → List VType → Choice → Type 0
IsChoice p candidates arguments choices.NotApplicable = (m : MethodId) → IsApplicable p candidates arguments m → ⊥
IsChoice p candidates arguments choices.NotSpecific = ((m : MethodId) × IsApplicable p candidates arguments m) × ((m : MethodId) → IsPreferred p candidates arguments m → ⊥)
IsChoice p candidates arguments (choices.Chosen m) = IsMeant p candidates arguments m
