-- Values that are no objects of a class, in temps, static fields and arrays. Objects of class `String` are excepted: they may stand where texts do.
use Rattle.std.specs.Prelude.{◌≡◌, ℕ, Bool, true, Option, Some, None, List, All}
use Rattle.ledger_state.specs.declared.array.ArrayObject.{ArrayObject}
use Rattle.ledger_state.specs.declared.locals.Locals.{Locals}
use Rattle.ledger_state.specs.declared.object.StoredStatic.{StoredStatic}
use Rattle.ledger_state.specs.declared.value.Value.{Value}
use Rattle.ledger_state.specs.Locals.{temp_value}
use Rattle.ledger_state.specs.Values.{number_of}

-- the number, where there is one, is among these
abbrev pub is_among : (ℕ → Bool) → Option ℕ → Bool
is_among these None = true
is_among these (Some n) = these n

-- the value is no object of a class, but one of `texts`
abbrev pub IsNoObjectBut : (ℕ → Bool) → Value → Type 0
IsNoObjectBut texts v = is_among texts (number_of v) ≡ true

-- the temp of the depth holds none
abbrev pub temp_holds_none : (ℕ → Bool) → Locals → ℕ → Type 0
temp_holds_none texts l d = IsNoObjectBut texts (temp_value l d)

-- no static field holds one
abbrev pub StaticsHoldNone : (ℕ → Bool) → List StoredStatic → Type 0
StaticsHoldNone texts statics = All (λ s. IsNoObjectBut texts s.value) statics

-- no element of an array is one
abbrev pub ElementsHoldNone : (ℕ → Bool) → ArrayObject → Type 0
ElementsHoldNone texts a = All (IsNoObjectBut texts) a.elements

abbrev pub ArraysHoldNone : (ℕ → Bool) → List ArrayObject → Type 0
ArraysHoldNone texts arrays = All (ElementsHoldNone texts) arrays
