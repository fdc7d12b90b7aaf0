-- What an action gives; and that a node is one level deeper than the deepest of its parts, and none is deeper than the limit.
use Rattle.std.specs.Prelude.{◌≡◌, ℕ, ◌+◌, nat_lt, if◌then◌else◌, Result, Ok, Err}
use Rattle.java_values.specs.declared.levels.BuildFail.{BuildFail}
use Rattle.java_values.specs.declared.levels.BuildFail.TheVariants as fails
use Rattle.java_values.specs.NestedTrees.{Nested}

-- What is made; or it would be too deep for the limit; or a value is not of the kind that was wanted.
pub data Outcome (A : Type 0) : Type 0 where
  Made : (a : A) → Outcome A
  TooDeep : Outcome A
  Misfit : Outcome A

-- the result is this outcome; want of memory says nothing
abbrev pub Gives : {A B : Type 0} → (A → B) → Result A BuildFail → Outcome B → Type 0
Gives view (Ok a) o = o ≡ Made (view a)
Gives view (Err (fails.TooDeep pos)) o = o ≡ TooDeep
Gives view (Err fails.NoMemory) o = Unit {0}

-- each value is of the kind that is wanted
abbrev pub IsNoMisfit : {A : Type 0} → Outcome A → Type 0
IsNoMisfit (Made a) = Unit {0}
IsNoMisfit TooDeep = Unit {0}
IsNoMisfit Misfit = ⊥

infixl 10 ◌>>=◌
abbrev pub ◌>>=◌ : {A B : Type 0} → Outcome A → (A → Outcome B) → Outcome B
Made a >>= f = f a
TooDeep >>= f = TooDeep
Misfit >>= f = Misfit

-- the depth of what has parts of at most this depth
abbrev pub deeper : ℕ → ℕ → Outcome ℕ
deeper limit depth = if nat_lt depth limit then Made (depth + 1) else TooDeep

-- the tree, where its parts have at most this depth
abbrev pub node : {A : Type 0} → ℕ → ℕ → A → Outcome (Nested A)
node limit depth tree = deeper limit depth >>= (λ d. Made (record { tree = tree; depth = d }))
