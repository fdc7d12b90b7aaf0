-- The call of a super constructor, and what steps lead to.
use Rattle.std.specs.Prelude.{◌≡◌, ℕ, Bool, true, false, Some, slice_get}
use Rattle.control_actions.specs.declared.action.Action.{Action}
use Rattle.control_actions.specs.declared.action.Action.TheVariants as actions
use Rattle.accepted_programs.specs.Paths.{Move, Relation}

-- a constructor of the super class is called
abbrev pub is_super : Action → Bool
is_super (actions.Super m d n) = true
is_super a = false

-- steps lead from the one control to the other
pub data LeadsTo {K : Type 0} (r : Relation K) (first : K) : K → Type 0 where
  here : LeadsTo r first first
  on : {k : K} → (i : ℕ) (t : Move K) → LeadsTo r first k → slice_get (r.next k) i ≡ Some t → LeadsTo r first t.to
