-- The mode in which a fact goes on: lent it is only where it was so before; held in a field of `this` only where it was so before, or where the step stores into an
-- owning field.
use Rattle.std.proofs.Common.{◌≡◌, ◌⊎◌, inl, inr, ℕ, Bool, true, false, not, ◌&&◌, ◌||◌, true≢false, Option, Some, None, refl, sym, subst, ap, ◌∙◌}
use Rattle.std.specs.Prelude.{if◌then◌else◌}
use Rattle.program_model.specs.declared.kinds.BodyId.{BodyId}
use Rattle.program_model.specs.declared.kinds.FieldId.{FieldId}
use Rattle.program_model.specs.declared.program.Program.{Program}
use Rattle.java_control.specs.Owned.{place_of_field}
use Rattle.java_control.specs.Sources.{is_null_pointer, is_throws}
use Rattle.control_actions.specs.declared.action.Action.{Action}
use Rattle.control_actions.specs.declared.action.Action.TheVariants as actions
use Rattle.control_actions.specs.declared.action.Edge.{Edge}
use Rattle.control_actions.specs.declared.action.Edge.TheVariants as edges
use Rattle.control_actions.specs.declared.fact.Fact.{Fact}
use Rattle.control_actions.specs.declared.fact.Mode.{Mode}
use Rattle.control_actions.specs.declared.fact.Mode.TheVariants as modes
use Rattle.control_actions.specs.declared.fact.Origin.{Origin}
use Rattle.control_actions.specs.declared.fact.Outcome.{Outcome}
use Rattle.control_actions.specs.declared.fact.Outcome.TheVariants.{Next, Gone, Fault}
use Rattle.control_actions.specs.declared.fact.Rule.TheVariants as rules
use Rattle.control_actions.specs.declared.place.Place.TheVariants as places
use Rattle.place_laws.specs.Calls.{after_move, after_reset, at_move, at_precondition, called, given_away, with_called}
use Rattle.place_laws.specs.Flow.{cast, flow, null_tested, placed, raised, tested, turn, turned}
use Rattle.ownership_rules.specs.MustCallSets.{beyond_type, fits_type, must_of}
use Rattle.ownership_rules.specs.Signatures.{field_type}
use Rattle.ownership_rules.specs.Facts.{Names, PlaceSet, has, has_part, is_held, is_lent, is_met, is_nowhere, leave, missing, mode_at, owes, without}
use Rattle.place_laws.specs.PlaceRows.{places_after}
use Rattle.place_laws.specs.CalledRows.{called_after}
use Rattle.place_laws.specs.Preconditions.{precondition_missing}
use Rattle.must_call_reset.specs.Resets.{reset_of}
use Rattle.must_call_reset.specs.declared.reset_move.ResetMove.{ResetMove}
use Rattle.must_call_reset.specs.declared.reset_move.ResetMove.TheVariants as resets
use Rattle.place_laws.specs.OwningFieldsStores.{heavy_stored, is_heavy_store, keeps_other, lacks_reset, may_store, object_stored, stored, stored_over, with_field}
use Rattle.ownership_rules.specs.MovesAtCalls.{moved_at_call}
use Rattle.ownership_rules.specs.MovesAtReturns.{moved_at_return}
use Rattle.ownership_rules.specs.declared.moved.Moved.{Moved}
use Rattle.ownership_rules.specs.declared.moved.Moved.TheVariants.{Stays, Moves, Bad}
use Rattle.fact_laws.proofs.Flows.{IfNext, end_none}

-- the step stores into an owning field of `this`
abbrev pub stores_own : Action → Bool
stores_own (actions.PutOwn g d) = true
stores_own a = false

lent_left : (m : Mode) (held : PlaceSet) → is_lent (mode_at m held) ≡ true → is_lent m ≡ true
lent_left modes.Own held is = is
lent_left modes.None held is = is
lent_left modes.Held held is = go (has held places.This || has_part held) is
  where
    go : (b : Bool) → is_lent (if b then modes.Held else modes.None) ≡ true → false ≡ true
    go true one = one
    go false one = one
lent_left modes.Lent held is = refl
lent_left modes.Alias held is = is

held_left : (m : Mode) (held : PlaceSet) → is_held (mode_at m held) ≡ true → is_held m ≡ true
held_left modes.Own held is = is
held_left modes.None held is = is
held_left modes.Held held is = refl
held_left modes.Lent held is = is
held_left modes.Alias held is = is

module _ (p : Program) (b : BodyId) (o : Origin) (f : Fact) where
  -- the fact is in such a mode; the test says whether the step stores into an owning field
  abbrev pub InMode : Bool → Fact → Type 0
  InMode stores g = (is_lent g.mode ≡ true → is_lent f.mode ≡ true) × (is_held g.mode ≡ true → (is_held f.mode ≡ true) ⊎ (stores ≡ true))

  same_mode : (stores : Bool) (g : Fact) → g.mode ≡ f.mode → InMode stores g
  same_mode stores g same = ((λ is. ap is_lent (sym same) ∙ is), (λ is. inl (ap is_held (sym same) ∙ is)))

  at_places : (stores : Bool) (g : Fact) (held : PlaceSet) → InMode stores g → IfNext (InMode stores) (leave o g held)
  at_places stores g held mode = go (is_nowhere held) (owes o g)
    where
      go : (x y : Bool) → IfNext (InMode stores) (if x then (if y then Fault rules.Lost (missing o g) else Gone) else Next (record g { places = held; mode = mode_at g.mode held }))
      go true true = tt
      go true false = tt
      go false y = ((λ is. mode.0 (lent_left g.mode held is)), (λ is. mode.1 (held_left g.mode held is)))

  -- ---- calls

  reset_mode : (g : Fact) → InMode false g → (r : ResetMove) → IfNext (InMode false) (after_reset p o g r)
  reset_mode g mode resets.Untouched = mode
  reset_mode g mode resets.Emptied = mode
  reset_mode g mode (resets.Bad rule) = tt

  move_mode : (a : Action) (e : Edge) (g : Fact) → InMode false g → IfNext (InMode false) (after_move p b o a e g)
  move_mode a e g mode = reset_mode (with_called g (called_after p b a e g)) mode (reset_of p b o a (with_called g (called_after p b a e g)))

  moved_mode : (a : Action) (e : Edge) (m : Moved) → IfNext (InMode false) (at_move p b o a e f m)
  moved_mode a e Stays = move_mode a e f (same_mode false f refl)
  moved_mode a e Moves = move_mode a e (given_away f) ((λ is. absurd (true≢false (sym is))), (λ is. absurd (true≢false (sym is))))
  moved_mode a e (Bad rule) = tt

  called_mode : (a : Action) (e : Edge) → IfNext (InMode false) (called p b o a e f)
  called_mode a e = go (precondition_missing p a f)
    where
      go : (x : Option Names) → IfNext (InMode false) (at_precondition p b o a e f x)
      go None = moved_mode a e (moved_at_call p o a e f)
      go (Some names) = tt

  -- ---- stores into owning fields

  heavy_mode : (g : FieldId) → IfNext (InMode true) (heavy_stored p b o g f)
  heavy_mode g = go (keeps_other p b o) (not (may_store p b o f)) (not (fits_type p o.class (field_type p g)))
    where
      go : (x y z : Bool) → IfNext (InMode true) (if x then Fault rules.AliasKept (must_of p o.class) else (if y then Fault rules.NotOwned (must_of p o.class)
          else (if z then Fault rules.Narrow (beyond_type p o.class (field_type p g)) else Next (with_field p g modes.Held f))))
      go true y z = tt
      go false true z = tt
      go false false true = tt
      go false false false = ((λ is. absurd (true≢false (sym is))), (λ is. inr refl))

  object_mode : (g : FieldId) → IfNext (InMode true) (object_stored p b o g f)
  object_mode g = go (has f.places (place_of_field p g)) (is_heavy_store p o g)
    where
      go : (x y : Bool) → IfNext (InMode true) (if x then Next f else (if y then heavy_stored p b o g f else Next (with_field p g f.mode f)))
      go true y = same_mode true f refl
      go false true = heavy_mode g
      go false false = same_mode true f refl

  over_mode : (g : FieldId) → IfNext (InMode true) (stored_over p o g f)
  over_mode g = go (has f.places (place_of_field p g)) (is_held f.mode && not (is_met o f))
    where
      go : (x y : Bool) → IfNext (InMode true) (if x then (if y then Fault rules.Overwritten (missing o f) else leave o f (without f.places (place_of_field p g))) else Next f)
      go true true = tt
      go true false = at_places true f (without f.places (place_of_field p g)) (same_mode true f refl)
      go false y = same_mode true f refl

  stored_mode : (g : FieldId) (d : ℕ) → IfNext (InMode true) (stored p b o g d f)
  stored_mode g d = go (lacks_reset p b g f) (has f.places (places.Temp d))
    where
      go : (x y : Bool) → IfNext (InMode true) (if x then Fault rules.ResetMissing (must_of p o.class) else (if y then object_stored p b o g f else stored_over p o g f))
      go true y = tt
      go false true = object_mode g
      go false false = over_mode g

  -- ---- the rows

  module _ (held : PlaceSet) where
    here : IfNext (InMode false) (leave o f held)
    here = at_places false f held (same_mode false f refl)

    itself : InMode false f
    itself = same_mode false f refl

    turned_mode : (x : Outcome) → IfNext (InMode false) x → IfNext (InMode false) (placed o f held (turned x))
    turned_mode (Next g) mode = at_places false g held mode
    turned_mode Gone mode = tt
    turned_mode (Fault rule names) mode = tt

    null_mode : (d : ℕ) → IfNext (InMode false) (placed o f held (null_tested p b d f))
    null_mode d = go (not (has f.places (places.Temp d))) (is_held f.mode) refl refl
      where
        go : (x y : Bool) → not (has f.places (places.Temp d)) ≡ x → is_held f.mode ≡ y → IfNext (InMode false) (placed o f held (null_tested p b d f))
        go true y elsewhere mode = rw elsewhere itself
        go false true there mode = rw (there, mode) (at_places false (with_called f _) held (same_mode false f refl))
        go false false there mode = rw (there, mode) tt

    tested_mode : (d : ℕ) (e : Edge) → IfNext (InMode false) (placed o f held (tested p b d e f))
    tested_mode d edges.Go = here
    tested_mode d edges.Null = null_mode d
    tested_mode d edges.NonNull = here
    tested_mode d edges.True = here
    tested_mode d edges.False = here
    tested_mode d (edges.Throws c) = here

    cast_mode : (e : Edge) → IfNext (InMode false) (placed o f held (cast e f))
    cast_mode e = go (is_throws e) refl
      where
        go : (x : Bool) → is_throws e ≡ x → IfNext (InMode false) (placed o f held (cast e f))
        go true throws = rw throws here
        go false throws = rw throws itself

    raised_mode : (e : Edge) → IfNext (InMode false) (placed o f held (raised p e f))
    raised_mode e = go (is_null_pointer p e) refl
      where
        go : (x : Bool) → is_null_pointer p e ≡ x → IfNext (InMode false) (placed o f held (raised p e f))
        go true null = rw null here
        go false null = rw null itself

    row_mode : (a : Action) (e : Edge) → IfNext (InMode (stores_own a)) (placed o f held (turn p b o a e f))
    row_mode actions.Skip e = itself
    row_mode (actions.Copy x y) e = here
    row_mode (actions.Move x y) e = here
    row_mode (actions.Plain x value) e = here
    row_mode (actions.Drop s) e = here
    row_mode (actions.Settle d c) e = here
    row_mode (actions.Enter clause x d from) e = here
    row_mode (actions.Test d) e = tested_mode d e
    row_mode (actions.Op k d n) e = here
    row_mode (actions.Get g d this) e = here
    row_mode (actions.Put g d this) e = here
    row_mode (actions.Cast t d) e = cast_mode e
    row_mode (actions.PutOwn g d) e = stored_mode g d
    row_mode (actions.Call m d n form) e = turned_mode (called p b o (actions.Call m d n form) e f) (called_mode (actions.Call m d n form) e)
    row_mode (actions.New m d n) e = turned_mode (called p b o (actions.New m d n) e f) (called_mode (actions.New m d n) e)
    row_mode (actions.Super m d n) e = turned_mode (called p b o (actions.Super m d n) e f) (called_mode (actions.Super m d n) e)
    row_mode (actions.Raise d c) e = raised_mode e
    row_mode (actions.End c) e = end_none (InMode false) p b o f c (moved_at_return p b o (actions.End c) f)

  pub next_mode : (a : Action) (e : Edge) (g : Fact) → flow p b o a e f ≡ Next g
      → (is_lent g.mode ≡ true → is_lent f.mode ≡ true) × (is_held g.mode ≡ true → (is_held f.mode ≡ true) ⊎ (stores_own a ≡ true))
  next_mode a e g next = subst (IfNext (InMode (stores_own a))) next (row_mode (places_after p b a e f.places) a e)
