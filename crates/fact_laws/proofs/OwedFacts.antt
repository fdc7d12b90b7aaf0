-- An owned fact whose need is not met goes on, or a rule is broken.
use Rattle.std.proofs.Common.{◌≡◌, ◌⊎◌, inl, inr, ℕ, ◌+◌, Bool, true, false, not, Option, Some, None, refl, sym, ap, ◌∙◌, subst, true≢false, eqb, arith}
use Rattle.std.specs.FinSet as set
use Rattle.std.proofs.lemmas.Cmp.{nat_cmp_total}
use Rattle.std.proofs.lemmas.Grind.{common_steps}
use Rattle.std.proofs.lemmas.Bool.{and_parts, not-true}
use Rattle.program_model.specs.declared.kinds.BodyId.{BodyId}
use Rattle.program_model.specs.declared.kinds.ClassId.{ClassId}
use Rattle.program_model.specs.declared.program.Program.{Program}
use Rattle.ownership_rules.specs.Bodies.{reset_in}
use Rattle.java_control.specs.PlaceNumbers.{number_of}
use Rattle.java_control.specs.Sources.{is_null_pointer}
use Rattle.control_actions.specs.declared.action.Action.{Action}
use Rattle.control_actions.specs.declared.action.Action.TheVariants as actions
use Rattle.control_actions.specs.declared.action.Edge.{Edge}
use Rattle.control_actions.specs.declared.action.Edge.TheVariants as edges
use Rattle.control_actions.specs.declared.fact.Fact.{Fact}
use Rattle.control_actions.specs.declared.fact.Mode.{Mode}
use Rattle.control_actions.specs.declared.fact.Mode.TheVariants as modes
use Rattle.control_actions.specs.declared.fact.Origin.{Origin}
use Rattle.control_actions.specs.declared.place.Place.{Place}
use Rattle.control_actions.specs.declared.place.Place.TheVariants as places
use Rattle.ownership_rules.specs.Callees.{callee}
use Rattle.ownership_rules.specs.Facts.{Names, PlaceSet, has, is_met, is_nowhere, leave, mode_at, need, without}
use Rattle.place_laws.specs.PlaceRows.{places_after}
use Rattle.place_laws.specs.CalledRows.{called_after}
use Rattle.place_laws.specs.Preconditions.{precondition_missing}
use Rattle.ownership_rules.specs.MovesAtCalls.{moved_at_call}
use Rattle.ownership_rules.specs.declared.moved.Moved.{Moved}
use Rattle.ownership_rules.specs.declared.moved.Moved.TheVariants as moves
use Rattle.place_laws.specs.Calls.{at_move, at_precondition, called, with_called}
use Rattle.place_laws.specs.Flow.{flow, placed, raised, turned}
use Rattle.ledger_state.specs.declared.object.Object.{Object}
use Rattle.place_laws.specs.Obligations.{is_unmet}
use Rattle.rlc_base.proofs.SetLaws.{within_trans}
use Rattle.fact_laws.specs.Outcomes.{After, IsCallRow, IsNotNull, IsPlainRow}

not_true : (b : Bool) → (b ≡ true → ⊥) → b ≡ false
not_true true n = absurd (n refl)
not_true false n = refl

pub owed : (x : Object) (o : Origin) (f : Fact) → is_unmet x ≡ true → set.is_subset x.must (need o f) ≡ true → set.is_subset f.called x.called ≡ true → is_met o f ≡ false
owed x o f unmet needed known = not_true (is_met o f) (λ met.
    let within : set.is_subset x.must x.called ≡ true = within_trans x.must (need o f) x.called needed (within_trans (need o f) f.called x.called met known) in
    true≢false (sym within ∙ not-true (set.is_subset x.must x.called) (and_parts x.finished (not (set.is_subset x.must x.called)) unmet).1))

own_stays : (m : Mode) (held : PlaceSet) → m ≡ modes.Own → mode_at m held ≡ modes.Own
own_stays m held own = rw own refl

-- the fact is at other places
pub leaves : (P : Fact → Type 0) (o : Origin) (f : Fact) (held : PlaceSet) → f.mode ≡ modes.Own → is_met o f ≡ false
    → (is_nowhere held ≡ false → P (record f { places = held; mode = modes.Own })) → After P (leave o f held)
leaves P o f held own unmet good = go (is_nowhere held) refl
  where
    go : (b : Bool) → is_nowhere held ≡ b → After P (leave o f held)
    go true e = rw (e, own, unmet) tt
    go false e = rw e (subst (λ (m : Mode). P (record f { places = held; mode = m })) (sym (own_stays f.mode held own)) (good e))

other_stays : (held : PlaceSet) (d : ℕ) (q : Place) → has held (places.Temp d) ≡ false → has held q ≡ true → has (without held (places.Temp d)) q ≡ true
other_stays held d q out is = go (eqb (number_of q) (177 + d)) refl
  where
    go : (b : Bool) → eqb (number_of q) (177 + d) ≡ b → has (without held (places.Temp d)) q ≡ true
    go true e = absurd (grind (arith, common_steps, out, is, e))
    go false e = grind (arith, common_steps, set.contains-remove nat_cmp_total held (177 + d) (number_of q), is, e)

-- ---- steps that call nothing

goes_by_places : (P : Fact → Type 0) (p : Program) (b : BodyId) (o : Origin) (a : Action) (e : Edge) (f : Fact) → f.mode ≡ modes.Own → is_met o f ≡ false
    → (is_nowhere (places_after p b a e f.places) ≡ false → P (record f { places = places_after p b a e f.places; mode = modes.Own }))
    → After P (leave o f (places_after p b a e f.places))
goes_by_places P p b o a e f own unmet good = leaves P o f (places_after p b a e f.places) own unmet good

raised_row : (P : Fact → Type 0) (p : Program) (b : BodyId) (o : Origin) (d : ℕ) (c : Option ClassId) (e : Edge) (f : Fact) → f.mode ≡ modes.Own → is_met o f ≡ false
    → (is_nowhere (places_after p b (actions.Raise d c) e f.places) ≡ false → P (record f { places = places_after p b (actions.Raise d c) e f.places; mode = modes.Own }))
    → (((q : Place) → has f.places q ≡ true → has (places_after p b (actions.Raise d c) e f.places) q ≡ true) → P f)
    → After P (flow p b o (actions.Raise d c) e f)
raised_row P p b o d c e f own unmet good stays = go (is_null_pointer p e) refl
  where
    go : (x : Bool) → is_null_pointer p e ≡ x → After P (placed o f (places_after p b (actions.Raise d c) e f.places) (raised p e f))
    go true is = rw is (leaves P o f (without f.places (places.Temp d)) own unmet (λ some. subst (λ (held : PlaceSet). P (record f { places = held; mode = modes.Own })) (same is) (good (ap is_nowhere (same is) ∙ some))))
      where
        same : is_null_pointer p e ≡ true → places_after p b (actions.Raise d c) e f.places ≡ without f.places (places.Temp d)
        same is = rw is refl
    go false is = rw is (stays (λ q h. rw is h))

pub plain_row : (P : Fact → Type 0) (p : Program) (b : BodyId) (o : Origin) (a : Action) (e : Edge) (f : Fact)
    → IsPlainRow a → f.mode ≡ modes.Own → is_met o f ≡ false → IsNotNull f a e
    → (is_nowhere (places_after p b a e f.places) ≡ false → P (record f { places = places_after p b a e f.places; mode = modes.Own }))
    → (((q : Place) → has f.places q ≡ true → has (places_after p b a e f.places) q ≡ true) → P f)
    → After P (flow p b o a e f)
plain_row P p b o actions.Skip e f k own unmet safe good stays = stays (λ q h. h)
plain_row P p b o (actions.Copy x y) e f k own unmet safe good stays = goes_by_places P p b o (actions.Copy x y) e f own unmet good
plain_row P p b o (actions.Move x y) e f k own unmet safe good stays = goes_by_places P p b o (actions.Move x y) e f own unmet good
plain_row P p b o (actions.Plain x v) e f k own unmet safe good stays = goes_by_places P p b o (actions.Plain x v) e f own unmet good
plain_row P p b o (actions.Drop s) e f k own unmet safe good stays = goes_by_places P p b o (actions.Drop s) e f own unmet good
plain_row P p b o (actions.Settle d c) e f k own unmet safe good stays = goes_by_places P p b o (actions.Settle d c) e f own unmet good
plain_row P p b o (actions.Enter clause x d n) e f k own unmet safe good stays = goes_by_places P p b o (actions.Enter clause x d n) e f own unmet good
plain_row P p b o (actions.Test d) edges.Null f k own unmet safe good stays = rw safe (stays (λ q h. other_stays f.places d q safe h))
plain_row P p b o (actions.Test d) e f k own unmet safe good stays = goes_by_places P p b o (actions.Test d) e f own unmet good
plain_row P p b o (actions.Op op d n) e f k own unmet safe good stays = goes_by_places P p b o (actions.Op op d n) e f own unmet good
plain_row P p b o (actions.Get g d this) e f k own unmet safe good stays = goes_by_places P p b o (actions.Get g d this) e f own unmet good
plain_row P p b o (actions.Put g d this) e f k own unmet safe good stays = goes_by_places P p b o (actions.Put g d this) e f own unmet good
plain_row P p b o (actions.Cast t d) (edges.Throws c) f k own unmet safe good stays = goes_by_places P p b o (actions.Cast t d) (edges.Throws c) f own unmet good
plain_row P p b o (actions.Cast t d) e f k own unmet safe good stays = stays (λ q h. h)
plain_row P p b o (actions.Raise d c) e f k own unmet safe good stays = raised_row P p b o d c e f own unmet good stays
plain_row P p b o (actions.PutOwn g d) e f k own unmet safe good stays = absurd k
plain_row P p b o (actions.Call m d n form) e f k own unmet safe good stays = absurd k
plain_row P p b o (actions.New m d n) e f k own unmet safe good stays = absurd k
plain_row P p b o (actions.Super m d n) e f k own unmet safe good stays = absurd k
plain_row P p b o (actions.End c) e f k own unmet safe good stays = absurd k

-- ---- calls

called_fact : (P : Fact → Type 0) (p : Program) (b : BodyId) (o : Origin) (a : Action) (e : Edge) (f : Fact) (held : PlaceSet)
    → reset_in (callee p a) ≡ None → f.mode ≡ modes.Own → is_met o (with_called f (called_after p b a e f)) ≡ false
    → (moved_at_call p o a e f ≡ moves.Moves → ⊥)
    → (is_nowhere held ≡ false → P (record f { places = held; mode = modes.Own; called = called_after p b a e f }))
    → After P (placed o f held (turned (called p b o a e f)))
called_fact P p b o a e f held reset own unmet stays good = go (precondition_missing p a f)
  where
    moved : (x : Moved) → moved_at_call p o a e f ≡ x → After P (placed o f held (turned (at_move p b o a e f x)))
    moved moves.Stays is = rw reset (leaves P o (with_called f (called_after p b a e f)) held own unmet good)
    moved moves.Moves is = absurd (stays is)
    moved (moves.Bad rule) is = tt

    go : (x : Option Names) → After P (placed o f held (turned (at_precondition p b o a e f x)))
    go None = moved (moved_at_call p o a e f) refl
    go (Some names) = tt

pub call_row : (P : Fact → Type 0) (p : Program) (b : BodyId) (o : Origin) (a : Action) (e : Edge) (f : Fact)
    → IsCallRow a → reset_in (callee p a) ≡ None → f.mode ≡ modes.Own
    → is_met o (record f { called = called_after p b a e f }) ≡ false
    → (moved_at_call p o a e f ≡ moves.Moves → ⊥)
    → (is_nowhere (places_after p b a e f.places) ≡ false
    → P (record f { places = places_after p b a e f.places; mode = modes.Own; called = called_after p b a e f }))
    → After P (flow p b o a e f)
call_row P p b o (actions.Call m d n form) e f k reset own unmet stays good =
    called_fact P p b o (actions.Call m d n form) e f (places_after p b (actions.Call m d n form) e f.places) reset own unmet stays good
call_row P p b o (actions.New m d n) e f k reset own unmet stays good =
    called_fact P p b o (actions.New m d n) e f (places_after p b (actions.New m d n) e f.places) reset own unmet stays good
call_row P p b o (actions.Super m d n) e f k reset own unmet stays good =
    called_fact P p b o (actions.Super m d n) e f (places_after p b (actions.Super m d n) e f.places) reset own unmet stays good
call_row P p b o actions.Skip e f k reset own unmet stays good = absurd k
call_row P p b o a e f k reset own unmet stays good = absurd k

pub kept_at_other_steps : (p : Program) (b : BodyId) (o : Origin) (a : Action) (e : Edge) (f : Fact) → IsPlainRow a → f.mode ≡ modes.Own → is_met o f ≡ false → IsNotNull f a e
    → After (λ g. (g ≡ record f { places = places_after p b a e f.places; mode = modes.Own })
    ⊎ ((g ≡ f) × ((q : Place) → has f.places q ≡ true → has (places_after p b a e f.places) q ≡ true))) (flow p b o a e f)
kept_at_other_steps p b o a e f row own unmet safe =
    plain_row (λ (g : Fact). (g ≡ record f { places = places_after p b a e f.places; mode = modes.Own })
    ⊎ ((g ≡ f) × ((q : Place) → has f.places q ≡ true → has (places_after p b a e f.places) q ≡ true))) p b o a e f row own unmet safe
    (λ some. inl refl) (λ stay. inr (refl, stay))

pub kept_at_calls : (p : Program) (b : BodyId) (o : Origin) (a : Action) (e : Edge) (f : Fact) → IsCallRow a → reset_in (callee p a) ≡ None → f.mode ≡ modes.Own
    → is_met o (record f { called = called_after p b a e f }) ≡ false → (moved_at_call p o a e f ≡ moves.Moves → ⊥)
    → After (λ g. g ≡ record f { places = places_after p b a e f.places; mode = modes.Own; called = called_after p b a e f }) (flow p b o a e f)
kept_at_calls p b o a e f row reset own unmet stays =
    call_row (λ (g : Fact). g ≡ record f { places = places_after p b a e f.places; mode = modes.Own; called = called_after p b a e f }) p b o a e f row reset own unmet stays (λ some. refl)
