-- What is done to the items of a list one after another, and stops at the first to which it can't be done.
use Rattle.std.specs.Prelude.{◌≡◌, List, [], ◌∷◌, ◌++◌, Result, Ok, Err, Vec}
use Rattle.rlc_base.specs.declared.faults.Stop.{Stop}
use Rattle.rlc_base.specs.declared.faults.Stop.TheVariants as stops

-- each item was done, in its order
abbrev pub AreDone : {A B : Type 0} → (A → B → Type 0) → List A → List B → Type 0
AreDone Done [] [] = Unit {0}
AreDone Done (x ∷ xs) (y ∷ ys) = Done x y × AreDone Done xs ys
AreDone Done [] (y ∷ ys) = ⊥
AreDone Done (x ∷ xs) [] = ⊥

-- the first items were done, and the one behind them stops it
pub record IsFirstStop {A B : Type 0} (Done : A → B → Type 0) (Stops : A → Stop → Type 0) (items : List A) (stop : Stop) : Type 0 where
  pub before : List A
  pub done : List B
  pub at : A
  pub behind : List A
  pub split : items ≡ before ++ at ∷ behind
  pub are_done : AreDone Done before done
  pub stops : Stops at stop

-- why not all items were done; want of memory is always a reason
abbrev pub IsStopInTurn : {A B : Type 0} → (A → B → Type 0) → (A → Stop → Type 0) → List A → Stop → Type 0
IsStopInTurn Done Stops items (stops.Refused r) = IsFirstStop Done Stops items (stops.Refused r)
IsStopInTurn Done Stops items (stops.TooMuch r) = IsFirstStop Done Stops items (stops.TooMuch r)
IsStopInTurn Done Stops items stops.NoMemory = Unit {0}

-- what is answered
abbrev pub IsInTurn : {A B Z : Type 0} → (A → B → Type 0) → (A → Stop → Type 0) → List A → Result (Vec B Z) Stop → Type 0
IsInTurn Done Stops items (Ok done) = AreDone Done items done.items
IsInTurn Done Stops items (Err stop) = IsStopInTurn Done Stops items stop
