-- What the end of a body asks of a fact whose object does not move as its result, or moves as an alias.
use Rattle.std.proofs.Common.{◌≡◌, ◌⊎◌, inl, inr, Bool, true, false, true≢false, ◌&&◌, Some, None, refl, sym, ap, if◌then◌else◌}
use Rattle.std.specs.FinSet as set
use Rattle.rlc_base.proofs.SetLaws.{within_empty, within_from_minus}
use Rattle.program_model.specs.declared.kinds.BodyId.{BodyId}
use Rattle.program_model.specs.declared.program.Program.{Program}
use Rattle.ownership_rules.specs.Bodies.{alias_position, method_of}
use Rattle.ownership_rules.specs.MustCallSets.{is_empty, is_heavy_as, must_of}
use Rattle.ownership_rules.specs.Signatures.{is_present}
use Rattle.control_actions.specs.declared.action.Action.TheVariants as actions
use Rattle.control_actions.specs.declared.action.Completion.{Completion}
use Rattle.control_actions.specs.declared.action.Completion.TheVariants as completions
use Rattle.control_actions.specs.declared.action.Edge.{Edge}
use Rattle.control_actions.specs.declared.fact.Fact.{Fact}
use Rattle.control_actions.specs.declared.fact.Mode.TheVariants as modes
use Rattle.control_actions.specs.declared.fact.Origin.{Origin}
use Rattle.control_actions.specs.declared.fact.Outcome.TheVariants.{Fault, Gone}
use Rattle.control_actions.specs.declared.fact.Rule.TheVariants as rules
use Rattle.control_actions.specs.declared.place.Place.TheVariants as places
use Rattle.ownership_rules.specs.Facts.{Names, has, is_alias, missing, owes}
use Rattle.place_laws.specs.Promises.{broken_promise, promised_at_end}
use Rattle.ownership_rules.specs.MovesAtReturns.{heavy_result, kept_alias, moved_at_return, owned_result, owning_result_in, result_type}
use Rattle.ownership_rules.specs.declared.moved.Moved.{Moved}
use Rattle.ownership_rules.specs.declared.moved.Moved.TheVariants as moves
use Rattle.place_laws.specs.Ends.{after_return, alias_never_returned, constructor_throws, exit_rule, promise_at_end}
use Rattle.place_laws.specs.Flow.{flow}
use Rattle.fact_laws.specs.Outcomes.{IsFault}
use Rattle.fact_laws.proofs.Going.{held_is_other}

module _ (p : Program) (b : BodyId) (o : Origin) (c : Completion) (f : Fact) where
  abbrev promised : Names
  promised = promised_at_end p b o.kind f.places (actions.End c)

  -- the frame owes nothing, gives up nothing, and has kept its promises
  abbrev Ends : Type 0
  Ends = (owes o f ≡ false) × (constructor_throws p b o c f ≡ false) × (set.is_subset promised f.called ≡ true)

  all_called : is_empty (set.difference promised f.called) ≡ true → set.is_subset promised f.called ≡ true
  all_called none = within_from_minus promised f.called (within_empty (set.difference promised f.called) none)

  -- it has kept its promises
  asked : (z : Bool) → is_empty (set.difference promised f.called) ≡ z → IsFault (promise_at_end (if z then None else Some (set.difference promised f.called))) ⊎ (set.is_subset promised f.called ≡ true)
  asked true is = inr (all_called is)
  asked false is = inl tt

  at_promise : owes o f ≡ false → constructor_throws p b o c f ≡ false → (z : Bool) → is_empty (set.difference promised f.called) ≡ z
      → IsFault (promise_at_end (if z then None else Some (set.difference promised f.called))) ⊎ Ends
  at_promise owed throws true is = inr (owed, throws, all_called is)
  at_promise owed throws false is = inl tt

  at_throw : owes o f ≡ false → (z : Bool) → constructor_throws p b o c f ≡ z
      → IsFault (if z then Fault rules.CtorThrow (missing o f) else promise_at_end (broken_promise p b o (actions.End c) f)) ⊎ Ends
  at_throw owed true is = inl tt
  at_throw owed false is = at_promise owed is (is_empty (set.difference promised f.called)) refl

  at_debt : (z : Bool) → owes o f ≡ z → IsFault (if z then Fault (exit_rule c) (missing o f)
      else (if constructor_throws p b o c f then Fault rules.CtorThrow (missing o f) else promise_at_end (broken_promise p b o (actions.End c) f))) ⊎ Ends
  at_debt true is = inl tt
  at_debt false is = at_throw is (constructor_throws p b o c f) refl

  at_left : (z : Bool) → IsFault (if z then Fault rules.AliasKept (must_of p o.class) else (if owes o f then Fault (exit_rule c) (missing o f)
      else (if constructor_throws p b o c f then Fault rules.CtorThrow (missing o f) else promise_at_end (broken_promise p b o (actions.End c) f)))) ⊎ Ends
  at_left true = inl tt
  at_left false = at_debt (owes o f) refl

  at_return : (x : Moved) → moved_at_return p b o (actions.End c) f ≡ x → (moved_at_return p b o (actions.End c) f ≡ moves.Moves → ⊥) → IsFault (after_return p b o c f x) ⊎ Ends
  at_return moves.Stays is stays = at_left (alias_never_returned p b o c f)
  at_return moves.Moves is stays = absurd (stays is)
  at_return (moves.Bad rule) is stays = inl tt

  kept_at_return : (x : Moved) → moved_at_return p b o (actions.End c) f ≡ x → (moved_at_return p b o (actions.End c) f ≡ moves.Moves → f.mode ≡ modes.Alias)
      → IsFault (after_return p b o c f x) ⊎ (set.is_subset promised f.called ≡ true)
  kept_at_return moves.Stays is alias = elim (at_left (alias_never_returned p b o c f)) [ inl fault ↦ inl fault | inr good ↦ inr good.2 ]
  kept_at_return moves.Moves is alias = at_alias (is_alias f.mode) (ap is_alias (alias is))
    where
      at_alias : (z : Bool) → z ≡ true → IsFault (if z then promise_at_end (broken_promise p b o (actions.End c) f) else Gone) ⊎ (set.is_subset promised f.called ≡ true)
      at_alias true one = asked (is_empty (set.difference promised f.called)) refl
      at_alias false one = absurd (true≢false (sym one))
  kept_at_return (moves.Bad rule) is alias = inl tt

pub ends : (p : Program) (b : BodyId) (o : Origin) (c : Completion) (e : Edge) (f : Fact) → (moved_at_return p b o (actions.End c) f ≡ moves.Moves → ⊥)
    → IsFault (flow p b o (actions.End c) e f)
    ⊎ ((owes o f ≡ false) × (constructor_throws p b o c f ≡ false) × (set.is_subset (promised_at_end p b o.kind f.places (actions.End c)) f.called ≡ true))
ends p b o c e f stays = at_return p b o c f (moved_at_return p b o (actions.End c) f) refl stays

pub promises_kept : (p : Program) (b : BodyId) (o : Origin) (c : Completion) (e : Edge) (f : Fact) → (moved_at_return p b o (actions.End c) f ≡ moves.Moves → f.mode ≡ modes.Alias)
    → IsFault (flow p b o (actions.End c) e f) ⊎ (set.is_subset (promised_at_end p b o.kind f.places (actions.End c)) f.called ≡ true)
promises_kept p b o c e f alias = kept_at_return p b o c f (moved_at_return p b o (actions.End c) f) refl alias

-- ---- what a field owns is no result

module _ (p : Program) (b : BodyId) (o : Origin) (f : Fact) (held : f.mode ≡ modes.Held) where
  alias : kept_alias f ≡ moves.Moves → ⊥
  alias same =
      let bad : moves.Bad rules.AliasKept ≡ moves.Moves = rw held at same in
      cc

  owned : owned_result p b o f ≡ moves.Moves → ⊥
  owned same =
      let bad : moves.Bad rules.NotOwned ≡ moves.Moves = rw (held_is_other p o f held) at same in
      cc

  heavy_stays : heavy_result p b o f ≡ moves.Moves → ⊥
  heavy_stays is = go (is_present (alias_position p b)) (owning_result_in (method_of p b)) is
    where
      go : (x y : Bool) → (if x then kept_alias f else (if y then owned_result p b o f else moves.Stays)) ≡ moves.Moves → ⊥
      go true y same = alias same
      go false true same = owned same
      go false false same = cc

pub held_stays_here : (p : Program) (b : BodyId) (o : Origin) (c : Completion) (f : Fact) → f.mode ≡ modes.Held → moved_at_return p b o (actions.End c) f ≡ moves.Moves → ⊥
held_stays_here p b o (completions.Break pos) f held is = cc
held_stays_here p b o (completions.ReturnValue d pos) f held is = go (has f.places (places.Temp d) && is_heavy_as p o.class (result_type p b)) is
  where
    go : (x : Bool) → (if x then heavy_result p b o f else moves.Stays) ≡ moves.Moves → ⊥
    go true same = heavy_stays p b o f held same
    go false same = cc
held_stays_here p b o c f held is = cc
