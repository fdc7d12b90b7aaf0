-- A fact that goes on is in mode Alias only where it was so before, and stays in a place that the step leaves alone. In an alias constructor it is held
-- in a field of `this` only where it was so before, or where it is that of the aliased argument.
use Rattle.std.proofs.Common.{◌≡◌, ◌⊎◌, inl, inr, ℕ, ◌<◌, Bool, true, false, not, ◌&&◌, ◌||◌, true≢false, Option, Some, None, refl, sym, subst, ap, ◌∙◌}
use Rattle.std.specs.Prelude.{if◌then◌else◌}
use Rattle.program_model.specs.declared.kinds.BodyId.{BodyId}
use Rattle.program_model.specs.declared.kinds.FieldId.{FieldId}
use Rattle.program_model.specs.declared.program.Program.{Program}
use Rattle.program_model.specs.declared.tree.Body.{Body}
use Rattle.program_model.specs.Lookups.{body_at}
use Rattle.java_control.specs.Owned.{field_number, place_of_field}
use Rattle.java_control.specs.PlaceNumbers.{IsSmall, number_of}
use Rattle.java_control.specs.Sources.{is_null_pointer, is_throws}
use Rattle.control_actions.specs.declared.action.Action.{Action}
use Rattle.control_actions.specs.declared.action.Action.TheVariants as actions
use Rattle.control_actions.specs.declared.action.Edge.{Edge}
use Rattle.control_actions.specs.declared.action.Edge.TheVariants as edges
use Rattle.control_actions.specs.declared.fact.Fact.{Fact}
use Rattle.control_actions.specs.declared.fact.Mode.{Mode}
use Rattle.control_actions.specs.declared.fact.Mode.TheVariants as modes
use Rattle.control_actions.specs.declared.fact.Origin.{Origin}
use Rattle.control_actions.specs.declared.fact.Outcome.{Outcome}
use Rattle.control_actions.specs.declared.fact.Outcome.TheVariants.{Next, Gone, Fault}
use Rattle.control_actions.specs.declared.fact.Rule.TheVariants as rules
use Rattle.control_actions.specs.declared.place.Place.{Place}
use Rattle.control_actions.specs.declared.place.Place.TheVariants as places
use Rattle.ownership_rules.specs.Bodies.{alias_position, is_alias_constructor}
use Rattle.ownership_rules.specs.MustCallSets.{beyond_type, fits_type, must_of}
use Rattle.ownership_rules.specs.Signatures.{field_type}
use Rattle.must_call_reset.specs.Resets.{reset_of}
use Rattle.must_call_reset.specs.declared.reset_move.ResetMove.{ResetMove}
use Rattle.must_call_reset.specs.declared.reset_move.ResetMove.TheVariants as resets
use Rattle.ownership_rules.specs.Facts.{Names, PlaceSet, has, has_part, is_alias, is_held, is_met, is_nowhere, is_origin_at, leave, missing, mode_at, owes, without}
use Rattle.ownership_rules.specs.SmallActions.{IsSmallAction}
use Rattle.place_laws.specs.PlaceRows.{places_after}
use Rattle.place_laws.specs.CalledRows.{called_after}
use Rattle.place_laws.specs.Preconditions.{precondition_missing}
use Rattle.place_laws.specs.OwningFieldsStores.{heavy_stored, is_heavy_store, keeps_other, lacks_reset, may_store, object_stored, stored, stored_over, with_field}
use Rattle.ownership_rules.specs.MovesAtCalls.{moved_at_call}
use Rattle.ownership_rules.specs.MovesAtReturns.{moved_at_return}
use Rattle.ownership_rules.specs.declared.moved.Moved.{Moved}
use Rattle.ownership_rules.specs.declared.moved.Moved.TheVariants.{Stays, Moves, Bad}
use Rattle.place_laws.specs.Calls.{after_move, after_reset, at_move, at_precondition, called, given_away, with_called}
use Rattle.place_laws.specs.Flow.{cast, flow, null_tested, placed, raised, tested, turn, turned}
use Rattle.fact_laws.proofs.Flows.{IfNext, end_none}
use Rattle.fact_laws.proofs.Places.{no_field}
use Rattle.fact_laws.proofs.Staying.{IsStill, LeavesIt, joined_still, left_still, places_still}

mode_left : (m : Mode) (held : PlaceSet) → is_alias (mode_at m held) ≡ true → is_alias m ≡ true
mode_left modes.Own held is = is
mode_left modes.None held is = is
mode_left modes.Held held is = go (has held places.This || has_part held) is
  where
    go : (b : Bool) → is_alias (if b then modes.Held else modes.None) ≡ true → false ≡ true
    go true one = one
    go false one = one
mode_left modes.Lent held is = is
mode_left modes.Alias held is = is

held_left : (m : Mode) (held : PlaceSet) → is_held (mode_at m held) ≡ true → is_held m ≡ true
held_left modes.Own held is = is
held_left modes.None held is = is
held_left modes.Held held is = refl
held_left modes.Lent held is = is
held_left modes.Alias held is = is

no_other : (c l : Bool) → (c && not l) ≡ false → c ≡ true → l ≡ true
no_other true true is one = refl
no_other true false is one = absurd (true≢false is)
no_other false l is one = absurd (true≢false (sym one))

module _ (q : Place) (low : number_of q < 161) (p : Program) (b : BodyId) (o : Origin) (f : Fact) where
  -- in an alias constructor it is held in a field of `this` only where `f` is, or it is that of the aliased argument
  abbrev pub HeldSo : Fact → Type 0
  HeldSo g = is_alias_constructor p b ≡ true → is_held g.mode ≡ true → (is_held f.mode ≡ true) ⊎ (is_origin_at o.kind (alias_position p b) ≡ true)

  -- it is in mode Alias only where `f` is
  abbrev InMode : Fact → Type 0
  InMode g = (is_alias g.mode ≡ true → is_alias f.mode ≡ true) × HeldSo g

  -- a fact in the same mode
  same_mode : (g : Fact) → g.mode ≡ f.mode → InMode g
  same_mode g same = ((λ is. ap is_alias (sym same) ∙ is), (λ in' is. inl (ap is_held (sym same) ∙ is)))

  -- and it is in the place where `f` is
  abbrev StaysSo : Fact → Type 0
  StaysSo g = InMode g × IsStill q low f.places g.places

  itself : StaysSo f
  itself = (same_mode f refl, λ is. is)

  at_places : (g : Fact) (held : PlaceSet) → IsStill q low f.places held → InMode g → IfNext StaysSo (leave o g held)
  at_places g held still mode = go (is_nowhere held) (owes o g)
    where
      go : (x y : Bool) → IfNext StaysSo (if x then (if y then Fault rules.Lost (missing o g) else Gone) else Next (record g { places = held; mode = mode_at g.mode held }))
      go true true = tt
      go true false = tt
      go false y = (((λ is. mode.0 (mode_left g.mode held is)), (λ in' is. mode.1 in' (held_left g.mode held is))), still)

  -- ---- calls

  reset_mode : (g : Fact) → InMode g → (r : ResetMove) → IfNext InMode (after_reset p o g r)
  reset_mode g mode resets.Untouched = mode
  reset_mode g mode resets.Emptied = mode
  reset_mode g mode (resets.Bad rule) = tt

  move_mode : (a : Action) (e : Edge) (g : Fact) → InMode g → IfNext InMode (after_move p b o a e g)
  move_mode a e g mode = reset_mode (with_called g (called_after p b a e g)) mode (reset_of p b o a (with_called g (called_after p b a e g)))

  moved_mode : (a : Action) (e : Edge) (m : Moved) → IfNext InMode (at_move p b o a e f m)
  moved_mode a e Stays = move_mode a e f (same_mode f refl)
  moved_mode a e Moves = move_mode a e (given_away f) ((λ is. absurd (true≢false (sym is))), (λ in' is. absurd (true≢false (sym is))))
  moved_mode a e (Bad rule) = tt

  called_mode : (a : Action) (e : Edge) → IfNext InMode (called p b o a e f)
  called_mode a e = go (precondition_missing p a f)
    where
      go : (x : Option Names) → IfNext InMode (at_precondition p b o a e f x)
      go None = moved_mode a e (moved_at_call p o a e f)
      go (Some names) = tt

  -- ---- stores into owning fields

  heavy_stays : (g : FieldId) → IfNext StaysSo (heavy_stored p b o g f)
  heavy_stays g = go (keeps_other p b o) refl (not (may_store p b o f)) (not (fits_type p o.class (field_type p g)))
    where
      go : (x : Bool) → keeps_other p b o ≡ x → (y z : Bool) → IfNext StaysSo (if x then Fault rules.AliasKept (must_of p o.class) else (if y then Fault rules.NotOwned (must_of p o.class)
          else (if z then Fault rules.Narrow (beyond_type p o.class (field_type p g)) else Next (with_field p g modes.Held f))))
      go true is y z = tt
      go false is true z = tt
      go false is false true = tt
      go false is false false = (
        ((λ one. absurd (true≢false (sym one))), (λ in' one. inr (no_other (is_alias_constructor p b) (is_origin_at o.kind (alias_position p b)) is in'))),
        joined_still q low f.places (place_of_field p g),
      )

  object_stays : (g : FieldId) → IfNext StaysSo (object_stored p b o g f)
  object_stays g = go (has f.places (place_of_field p g)) (is_heavy_store p o g)
    where
      go : (x y : Bool) → IfNext StaysSo (if x then Next f else (if y then heavy_stored p b o g f else Next (with_field p g f.mode f)))
      go true y = itself
      go false true = heavy_stays g
      go false false = (same_mode f refl, joined_still q low f.places (place_of_field p g))

  over_stays : (g : FieldId) → IfNext StaysSo (stored_over p o g f)
  over_stays g = go (has f.places (place_of_field p g)) (is_held f.mode && not (is_met o f))
    where
      go : (x y : Bool) → IfNext StaysSo (if x then (if y then Fault rules.Overwritten (missing o f) else leave o f (without f.places (place_of_field p g))) else Next f)
      go true true = tt
      go true false = at_places f (without f.places (place_of_field p g)) (left_still q low f.places (place_of_field p g) (no_field q low (field_number p g))) (same_mode f refl)
      go false y = itself

  stored_stays : (g : FieldId) (d : ℕ) → IfNext StaysSo (stored p b o g d f)
  stored_stays g d = go (lacks_reset p b g f) (has f.places (places.Temp d))
    where
      go : (x y : Bool) → IfNext StaysSo (if x then Fault rules.ResetMissing (must_of p o.class) else (if y then object_stored p b o g f else stored_over p o g f))
      go true y = tt
      go false true = object_stays g
      go false false = over_stays g

  -- ---- the rows

  module _ (held : PlaceSet) (still : IsStill q low f.places held) where
    here : IfNext StaysSo (leave o f held)
    here = at_places f held still (same_mode f refl)

    turned_stays : (x : Outcome) → IfNext InMode x → IfNext StaysSo (placed o f held (turned x))
    turned_stays (Next g) mode = at_places g held still mode
    turned_stays Gone mode = tt
    turned_stays (Fault rule names) mode = tt

    null_stays : (d : ℕ) → IfNext StaysSo (placed o f held (null_tested p b d f))
    null_stays d = go (not (has f.places (places.Temp d))) (is_held f.mode) refl refl
      where
        go : (x y : Bool) → not (has f.places (places.Temp d)) ≡ x → is_held f.mode ≡ y → IfNext StaysSo (placed o f held (null_tested p b d f))
        go true y elsewhere mode = rw elsewhere itself
        go false true there mode = rw (there, mode) (at_places (with_called f _) held still (same_mode f refl))
        go false false there mode = rw (there, mode) tt

    tested_stays : (d : ℕ) (e : Edge) → IfNext StaysSo (placed o f held (tested p b d e f))
    tested_stays d edges.Go = here
    tested_stays d edges.Null = null_stays d
    tested_stays d edges.NonNull = here
    tested_stays d edges.True = here
    tested_stays d edges.False = here
    tested_stays d (edges.Throws c) = here

    cast_stays : (e : Edge) → IfNext StaysSo (placed o f held (cast e f))
    cast_stays e = go (is_throws e) refl
      where
        go : (x : Bool) → is_throws e ≡ x → IfNext StaysSo (placed o f held (cast e f))
        go true throws = rw throws here
        go false throws = rw throws itself

    raised_stays : (e : Edge) → IfNext StaysSo (placed o f held (raised p e f))
    raised_stays e = go (is_null_pointer p e) refl
      where
        go : (x : Bool) → is_null_pointer p e ≡ x → IfNext StaysSo (placed o f held (raised p e f))
        go true null = rw null here
        go false null = rw null itself

    row_stays : (a : Action) (e : Edge) → IfNext StaysSo (placed o f held (turn p b o a e f))
    row_stays actions.Skip e = itself
    row_stays (actions.Copy x y) e = here
    row_stays (actions.Move x y) e = here
    row_stays (actions.Plain x value) e = here
    row_stays (actions.Drop s) e = here
    row_stays (actions.Settle d c) e = here
    row_stays (actions.Enter clause x d from) e = here
    row_stays (actions.Test d) e = tested_stays d e
    row_stays (actions.Op k d n) e = here
    row_stays (actions.Get g d this) e = here
    row_stays (actions.Put g d this) e = here
    row_stays (actions.Cast t d) e = cast_stays e
    row_stays (actions.PutOwn g d) e = stored_stays g d
    row_stays (actions.Call m d n form) e = turned_stays (called p b o (actions.Call m d n form) e f) (called_mode (actions.Call m d n form) e)
    row_stays (actions.New m d n) e = turned_stays (called p b o (actions.New m d n) e f) (called_mode (actions.New m d n) e)
    row_stays (actions.Super m d n) e = turned_stays (called p b o (actions.Super m d n) e f) (called_mode (actions.Super m d n) e)
    row_stays (actions.Raise d c) e = raised_stays e
    row_stays (actions.End c) e = end_none StaysSo p b o f c (moved_at_return p b o (actions.End c) f)

  -- a step that neither sets nor empties the place
  pub next_stays : (x : Body) (a : Action) (e : Edge) (g : Fact) → body_at p b ≡ Some x → IsSmall q → IsSmallAction p a → LeavesIt x a q → flow p b o a e f ≡ Next g
      → ((is_alias g.mode ≡ true → is_alias f.mode ≡ true) × HeldSo g) × (has f.places q ≡ true → has g.places q ≡ true)
  next_stays x a e g at small fits leaves next =
      subst (IfNext StaysSo) next (row_stays (places_after p b a e f.places) (places_still q low p b x at e f.places small a fits leaves) a e)
