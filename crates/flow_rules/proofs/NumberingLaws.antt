-- No rule reads the number of a fact's origin, and none changes it.
use Rattle.std.proofs.Common.{◌≡◌, ℕ, Bool, true, false, Option, Some, None, refl, ap, ◌∙◌}
use Rattle.std.specs.Prelude.{if◌then◌else◌}
use Rattle.program_model.specs.declared.kinds.BodyId.{BodyId}
use Rattle.program_model.specs.declared.kinds.FieldId.{FieldId}
use Rattle.program_model.specs.declared.program.Program.{Program}
use Rattle.control_actions.specs.declared.action.Action.{Action}
use Rattle.control_actions.specs.declared.action.Action.TheVariants as actions
use Rattle.control_actions.specs.declared.action.Completion.{Completion}
use Rattle.control_actions.specs.declared.action.Completion.TheVariants as completions
use Rattle.obligation_facts.specs.Callees.{callee}
use Rattle.control_actions.specs.declared.action.Edge.{Edge}
use Rattle.control_actions.specs.declared.action.Edge.TheVariants as edges
use Rattle.control_actions.specs.declared.fact.Fact.{Fact}
use Rattle.control_actions.specs.declared.fact.Origin.{Origin}
use Rattle.control_actions.specs.declared.fact.Outcome.{Outcome}
use Rattle.control_actions.specs.declared.fact.Outcome.TheVariants.{Next, Gone, Fault}
use Rattle.obligation_facts.specs.Facts.{Names, PlaceSet, leave}
use Rattle.alias_sets.specs.PlaceRows.{places_after}
use Rattle.called_methods.specs.CalledRows.{called_after}
use Rattle.called_methods.specs.Preconditions.{precondition_missing}
use Rattle.must_call_sets.specs.Bodies.{reset_in}
use Rattle.owning_fields.specs.Stores.{stored}
use Rattle.ownership_rules.specs.MovesAtCalls.{moved_at_call}
use Rattle.ownership_rules.specs.MovesAtReturns.{moved_at_return}
use Rattle.ownership_rules.specs.declared.moved.Moved.{Moved}
use Rattle.ownership_rules.specs.declared.moved.Moved.TheVariants.{Stays, Moves, Bad}
use Rattle.must_call_reset.specs.Resets.{reset_at, reset_of}
use Rattle.must_call_reset.specs.declared.reset_move.ResetMove.{ResetMove}
use Rattle.must_call_reset.specs.declared.reset_move.ResetMove.TheVariants as resets
use Rattle.flow_rules.specs.Calls.{after_move, after_reset, at_move, at_precondition, at_reset, called, given_away, with_called}
use Rattle.flow_rules.specs.Ends.{after_return, ended, left_at_end, promise_at_end}
use Rattle.flow_rules.specs.Flow.{cast, flow, placed, raised, tested, turn, turned}
use Rattle.flow_rules.specs.Numbering.{numbered, numbered_outcome}
use Rattle.flow_rules.specs.declared.turn.Turn.{Turn}
use Rattle.flow_rules.specs.declared.turn.Turn.TheVariants.{Unchanged, Leaves, Decided}

-- a choice of two outcomes
choice-numbered : (n : ℕ) (b : Bool) (x y : Outcome) → numbered_outcome n (if b then x else y) ≡ (if b then numbered_outcome n x else numbered_outcome n y)
choice-numbered n true x y = refl
choice-numbered n false x y = refl

leave-numbered : (n : ℕ) (o : Origin) (f : Fact) (held : PlaceSet) → leave o (numbered n f) held ≡ numbered_outcome n (leave o f held)
leave-numbered n o f held = simp choice-numbered refl

promise-numbered : (n : ℕ) (x : Option Names) → numbered_outcome n (promise_at_end x) ≡ promise_at_end x
promise-numbered n None = refl
promise-numbered n (Some names) = refl

left-numbered : (n : ℕ) (p : Program) (b : BodyId) (o : Origin) (c : Completion) (f : Fact) → left_at_end p b o c (numbered n f) ≡ numbered_outcome n (left_at_end p b o c f)
left-numbered n p b o c f = simp (choice-numbered, promise-numbered) refl

return-numbered : (n : ℕ) (p : Program) (b : BodyId) (o : Origin) (c : Completion) (f : Fact) (m : Moved) → after_return p b o c (numbered n f) m ≡ numbered_outcome n (after_return p b o c f m)
return-numbered n p b o c f Stays = left-numbered n p b o c f
return-numbered n p b o c f Moves = simp (choice-numbered, promise-numbered) refl
return-numbered n p b o c f (Bad rule) = refl

moved-numbered : (n : ℕ) (p : Program) (b : BodyId) (o : Origin) (c : Completion) (f : Fact) → moved_at_return p b o (actions.End c) (numbered n f) ≡ moved_at_return p b o (actions.End c) f
moved-numbered n p b o (completions.ReturnValue d pos) f = refl
moved-numbered n p b o _ f = refl

ended-numbered : (n : ℕ) (p : Program) (b : BodyId) (o : Origin) (c : Completion) (f : Fact) → ended p b o c (numbered n f) ≡ numbered_outcome n (ended p b o c f)
ended-numbered n p b o c f =
    ap (after_return p b o c (numbered n f)) (moved-numbered n p b o c f) ∙ return-numbered n p b o c f (moved_at_return p b o (actions.End c) f)

stored-numbered : (n : ℕ) (p : Program) (b : BodyId) (o : Origin) (g : FieldId) (d : ℕ) (f : Fact) → stored p b o g d (numbered n f) ≡ numbered_outcome n (stored p b o g d f)
stored-numbered n p b o g d f = simp choice-numbered refl

reset-numbered : (n : ℕ) (p : Program) (o : Origin) (f : Fact) (r : ResetMove) → after_reset p o (numbered n f) r ≡ numbered_outcome n (after_reset p o f r)
reset-numbered n p o f resets.Untouched = refl
reset-numbered n p o f resets.Emptied = refl
reset-numbered n p o f (resets.Bad rule) = refl

target-numbered : (n : ℕ) (p : Program) (b : BodyId) (o : Origin) (a : Action) (k : Option ℕ) (f : Fact) → reset_at p b o a k (numbered n f) ≡ reset_at p b o a k f
target-numbered n p b o a None f = refl
target-numbered n p b o a (Some k) f = refl

at_reset-numbered : (n : ℕ) (p : Program) (b : BodyId) (o : Origin) (a : Action) (f : Fact) → at_reset p b o a (numbered n f) ≡ numbered_outcome n (at_reset p b o a f)
at_reset-numbered n p b o a f =
    ap (after_reset p o (numbered n f)) (target-numbered n p b o a (reset_in (callee p a)) f) ∙ reset-numbered n p o f (reset_of p b o a f)

names-tested : (n : ℕ) (p : Program) (b : BodyId) (d : ℕ) (e : Edge) (f : Fact) → called_after p b (actions.Test d) e (numbered n f) ≡ called_after p b (actions.Test d) e f
names-tested n p b d edges.Null f = refl
names-tested n p b d _ f = refl

names-numbered : (n : ℕ) (p : Program) (b : BodyId) (a : Action) (e : Edge) (f : Fact) → called_after p b a e (numbered n f) ≡ called_after p b a e f
names-numbered n p b (actions.Test d) e f = names-tested n p b d e f
names-numbered n p b (actions.Call m d k form) e f = refl
names-numbered n p b (actions.New m d k) e f = refl
names-numbered n p b (actions.Super m d k) e f = refl
names-numbered n p b _ e f = refl

after_move-numbered : (n : ℕ) (p : Program) (b : BodyId) (o : Origin) (a : Action) (e : Edge) (f : Fact) → after_move p b o a e (numbered n f) ≡ numbered_outcome n (after_move p b o a e f)
after_move-numbered n p b o a e f =
    ap (λ c. at_reset p b o a (with_called (numbered n f) c)) (names-numbered n p b a e f)
    ∙ at_reset-numbered n p b o a (with_called f (called_after p b a e f))

at_move-numbered : (n : ℕ) (p : Program) (b : BodyId) (o : Origin) (a : Action) (e : Edge) (f : Fact) (m : Moved) → at_move p b o a e (numbered n f) m ≡ numbered_outcome n (at_move p b o a e f m)
at_move-numbered n p b o a e f Stays = after_move-numbered n p b o a e f
at_move-numbered n p b o a e f Moves = after_move-numbered n p b o a e (given_away f)
at_move-numbered n p b o a e f (Bad rule) = refl

precondition-numbered : (n : ℕ) (p : Program) (b : BodyId) (o : Origin) (a : Action) (e : Edge) (f : Fact) (x : Option Names) → at_precondition p b o a e (numbered n f) x ≡ numbered_outcome n (at_precondition p b o a e f x)
precondition-numbered n p b o a e f None = at_move-numbered n p b o a e f (moved_at_call p o a e f)
precondition-numbered n p b o a e f (Some names) = refl

called-numbered : (n : ℕ) (p : Program) (b : BodyId) (o : Origin) (a : Action) (e : Edge) (f : Fact) → called p b o a e (numbered n f) ≡ numbered_outcome n (called p b o a e f)
called-numbered n p b o a e f = precondition-numbered n p b o a e f (precondition_missing p a f)

-- ---- turns

abbrev numbered_turn : ℕ → Turn → Turn
numbered_turn n Unchanged = Unchanged
numbered_turn n (Leaves f) = Leaves (numbered n f)
numbered_turn n (Decided x) = Decided (numbered_outcome n x)

choice-turned : (n : ℕ) (b : Bool) (x y : Turn) → numbered_turn n (if b then x else y) ≡ (if b then numbered_turn n x else numbered_turn n y)
choice-turned n true x y = refl
choice-turned n false x y = refl

turned-numbered : (n : ℕ) (x : Outcome) → turned (numbered_outcome n x) ≡ numbered_turn n (turned x)
turned-numbered n (Next f) = refl
turned-numbered n Gone = refl
turned-numbered n (Fault rule names) = refl

call-numbered : (n : ℕ) (p : Program) (b : BodyId) (o : Origin) (a : Action) (e : Edge) (f : Fact) → turned (called p b o a e (numbered n f)) ≡ numbered_turn n (turned (called p b o a e f))
call-numbered n p b o a e f = ap turned (called-numbered n p b o a e f) ∙ turned-numbered n (called p b o a e f)

tested-numbered : (n : ℕ) (p : Program) (b : BodyId) (d : ℕ) (e : Edge) (f : Fact) → tested p b d e (numbered n f) ≡ numbered_turn n (tested p b d e f)
tested-numbered n p b d edges.Null f = simp choice-turned refl
tested-numbered n p b d _ f = refl

cast-numbered : (n : ℕ) (e : Edge) (f : Fact) → cast e (numbered n f) ≡ numbered_turn n (cast e f)
cast-numbered n e f = simp choice-turned refl

raised-numbered : (n : ℕ) (p : Program) (e : Edge) (f : Fact) → raised p e (numbered n f) ≡ numbered_turn n (raised p e f)
raised-numbered n p e f = simp choice-turned refl

turn-numbered : (n : ℕ) (p : Program) (b : BodyId) (o : Origin) (a : Action) (e : Edge) (f : Fact) → turn p b o a e (numbered n f) ≡ numbered_turn n (turn p b o a e f)
turn-numbered n p b o (actions.Test d) e f = tested-numbered n p b d e f
turn-numbered n p b o (actions.Cast t d) e f = cast-numbered n e f
turn-numbered n p b o (actions.PutOwn g d) e f = ap Decided (stored-numbered n p b o g d f)
turn-numbered n p b o (actions.Call m d k form) e f = call-numbered n p b o (actions.Call m d k form) e f
turn-numbered n p b o (actions.New m d k) e f = call-numbered n p b o (actions.New m d k) e f
turn-numbered n p b o (actions.Super m d k) e f = call-numbered n p b o (actions.Super m d k) e f
turn-numbered n p b o (actions.Raise d c) e f = raised-numbered n p e f
turn-numbered n p b o (actions.End c) e f = ap Decided (ended-numbered n p b o c f)
turn-numbered n p b o _ e f = refl

placed-numbered : (n : ℕ) (o : Origin) (f : Fact) (held : PlaceSet) (t : Turn) → placed o (numbered n f) held (numbered_turn n t) ≡ numbered_outcome n (placed o f held t)
placed-numbered n o f held Unchanged = refl
placed-numbered n o f held (Leaves g) = leave-numbered n o g held
placed-numbered n o f held (Decided x) = refl

-- the rules make of a fact with a number what they make of it without one, with that number
pub flow-numbered : (n : ℕ) (p : Program) (b : BodyId) (o : Origin) (a : Action) (e : Edge) (f : Fact) → flow p b o a e (numbered n f) ≡ numbered_outcome n (flow p b o a e f)
flow-numbered n p b o a e f =
    let held : PlaceSet = places_after p b a e f.places in
    ap (placed o (numbered n f) held) (turn-numbered n p b o a e f) ∙ placed-numbered n o f held (turn p b o a e f)
