-- A call that creates the obligation of `this` anew leaves no fact a place of a field of `this`, so that of what a field holds no fact says so behind it but those which it bears.
use Rattle.std.specs.Prelude.{if◌then◌else◌, ◌&&◌, ◌||◌}
use Rattle.std.proofs.Common.{◌≡◌, ◌⊎◌, inl, inr, ap, refl, sym, subst, ◌∙◌, ℕ, zero, suc, ◌+◌, ◌<◌, ◌≤◌, Bool, true, false, true≢false, not, None, arith, eq-eqb}
use Rattle.std.proofs.lemmas.Bool.{cases_lt}
use Rattle.program_model.specs.declared.kinds.BodyId.{BodyId}
use Rattle.program_model.specs.declared.program.Program.{Program}
use Rattle.java_control.specs.Calls.{is_reset_of_this}
use Rattle.java_control.specs.PlaceNumbers.{IsSmall, number_of}
use Rattle.java_control.specs.Sources.{is_part, is_place}
use Rattle.control_actions.specs.declared.action.Action.{Action}
use Rattle.control_actions.specs.declared.action.Action.TheVariants as actions
use Rattle.control_actions.specs.declared.action.Edge.{Edge}
use Rattle.control_actions.specs.declared.fact.Fact.{Fact}
use Rattle.control_actions.specs.declared.fact.Mode.{Mode}
use Rattle.control_actions.specs.declared.fact.Mode.TheVariants as modes
use Rattle.control_actions.specs.declared.fact.Origin.{Origin}
use Rattle.control_actions.specs.declared.fact.Outcome.{Outcome}
use Rattle.control_actions.specs.declared.fact.Outcome.TheVariants.{Next, Gone, Fault}
use Rattle.control_actions.specs.declared.place.Place.{Place}
use Rattle.control_actions.specs.declared.place.Place.TheVariants as places
use Rattle.control_actions.specs.declared.fact.Rule.TheVariants as rules
use Rattle.ownership_rules.specs.Facts.{PlaceSet, has, has_field_from, has_part, is_held, is_nowhere, leave, missing, mode_at, owes, with_place, without, without_fields, without_fields_from, without_parts, without_temps}
use Rattle.ownership_rules.specs.SmallActions.{IsSmallAction}
use Rattle.place_laws.specs.Flow.{flow, placed, turned}
use Rattle.place_laws.specs.Calls.{called}
use Rattle.place_laws.specs.PlaceRows.{places_after}
use Rattle.place_laws.specs.Aliases.{gives_alias}
use Rattle.place_laws.proofs.SetLaws.{has_temps, has_with, has_without, without_within}
use Rattle.fact_laws.proofs.Flows.{IfNext}
use Rattle.fact_laws.specs.Outcomes.{IsCallRow}
use Rattle.fact_laws.specs.Going.{is_in_this}

-- ---- the places of fields are emptied

emptied_after : (held : PlaceSet) (k j n : ℕ) → has held (places.Field k) ≡ false → has (without_fields_from held j n) (places.Field k) ≡ false
unfolding without_fields_from
emptied_after held k j zero none = none
emptied_after held k j (suc n) none = emptied_after (without held (places.Field j)) k (j + 1) n (go (has (without held (places.Field j)) (places.Field k)) refl)
  where
    go : (b : Bool) → has (without held (places.Field j)) (places.Field k) ≡ b → has (without held (places.Field j)) (places.Field k) ≡ false
    go true is = absurd (true≢false (sym (without_within held (places.Field j) (number_of (places.Field k)) is) ∙ none))
    go false is = is

field_emptied : (held : PlaceSet) (k j n : ℕ) → j ≤ k → k < j + n → k < 16 → j + n ≤ 16 → has (without_fields_from held j n) (places.Field k) ≡ false
unfolding without_fields_from
field_emptied held k j zero above below small fits = absurd (omega (arith, above, below))
field_emptied held k j (suc n) above below small fits = go (cases_lt j k) (λ later. field_emptied (without held (places.Field j)) k (j + 1) n later (omega (arith, below)) small (omega (arith, fits)))
  where
    go : (j < k) ⊎ (k ≤ j) → (j + 1 ≤ k → has (without_fields_from (without held (places.Field j)) (j + 1) n) (places.Field k) ≡ false) → has (without_fields_from (without held (places.Field j)) (j + 1) n) (places.Field k) ≡ false
    go (inl later) on = on (omega (arith, later))
    go (inr here) on =
        let same : j ≡ k = omega (arith, above, here) in
        emptied_after (without held (places.Field j)) k (j + 1) n
        (has_without held (places.Field j) (places.Field k) (omega (arith, small, same)) small ∙ ap (λ (b : Bool). not b && has held (places.Field k)) (eq-eqb j k same))

pub parts_emptied : (held : PlaceSet) (q : Place) → is_part q ≡ true → IsSmall q → has (without_parts held) q ≡ false
parts_emptied held (places.Field k) part small = has_without (without_fields held) places.Super (places.Field k) tt small ∙ field_emptied held k 0 16 (omega arith) (omega (arith, small)) small (omega arith)
parts_emptied held places.Super part small = has_without (without_fields held) places.Super places.Super tt tt
parts_emptied held (places.Var i) part small = absurd (true≢false (sym part))
parts_emptied held places.This part small = absurd (true≢false (sym part))
parts_emptied held (places.Temp d) part small = absurd (true≢false (sym part))

-- ---- calls

module _ (p : Program) (b : BodyId) (e : Edge) (held : PlaceSet) (q : Place) (part : is_part q ≡ true) (small : IsSmall q) where
  no_temp : (d : ℕ) → is_place (places.Temp d) q ≡ false
  no_temp d = go q part
    where
      go : (z : Place) → is_part z ≡ true → is_place (places.Temp d) z ≡ false
      go (places.Field k) is = refl
      go places.Super is = refl
      go (places.Var i) is = absurd (true≢false (sym is))
      go places.This is = absurd (true≢false (sym is))
      go (places.Temp f) is = absurd (true≢false (sym is))

  not_both : (x y : Bool) → y ≡ false → (x && y) ≡ false
  not_both true y none = none
  not_both false y none = refl

  left_empty : (d n : ℕ) → d < 64 → d + n ≤ 64 → has (without (without_temps (without_parts held) d n) (places.Temp d)) q ≡ false
  left_empty d n first fits =
      has_without (without_temps (without_parts held) d n) (places.Temp d) q first small
      ∙ not_both (not (is_place (places.Temp d) q)) (has (without_temps (without_parts held) d n) q)
      (has_temps (without_parts held) d n q fits small ∙ not_both _ (has (without_parts held) q) (parts_emptied held q part small))

  alias_empty : (d n : ℕ) (alias : Bool) → d < 64 → d + n ≤ 64
      → has (if alias then with_place (without (without_temps (without_parts held) d n) (places.Temp d)) (places.Temp d) else without (without_temps (without_parts held) d n) (places.Temp d)) q ≡ false
  alias_empty d n true first fits =
      has_with (without (without_temps (without_parts held) d n) (places.Temp d)) (places.Temp d) q first small
      ∙ ap (λ (c : Bool). c || has (without (without_temps (without_parts held) d n) (places.Temp d)) q) (no_temp d) ∙ left_empty d n first fits
  alias_empty d n false first fits = left_empty d n first fits

  -- a call that creates the obligation of `this` anew leaves nothing in its fields
  pub reset_empties_fields : (a : Action) → IsSmallAction p a → is_reset_of_this p a ≡ true → has (places_after p b a e held) q ≡ false
  reset_empties_fields actions.Skip fits never = absurd (true≢false (sym never))
  reset_empties_fields (actions.Call m d n form) fits is = rw is (alias_empty d n (gives_alias p (actions.Call m d n form) e held) fits.0 fits.1)
  reset_empties_fields a fits never = absurd (true≢false (sym never))

-- so none of its parts is left
no_field_left : (held : PlaceSet) (k n : ℕ) → k + n ≤ 16 → ((q : Place) → is_part q ≡ true → IsSmall q → has held q ≡ false) → has_field_from held k n ≡ false
unfolding has_field_from
no_field_left held k zero fits none = refl
no_field_left held k (suc n) fits none = ap (λ (c : Bool). c || has_field_from held (k + 1) n) (none (places.Field k) refl (omega (arith, fits))) ∙ no_field_left held (k + 1) n (omega (arith, fits)) none

pub no_part_left : (p : Program) (b : BodyId) (a : Action) (e : Edge) (held : PlaceSet) → IsSmallAction p a → is_reset_of_this p a ≡ true → has_part (places_after p b a e held) ≡ false
no_part_left p b a e held fits is =
    ap (λ (c : Bool). c || has (places_after p b a e held) places.Super) (no_field_left (places_after p b a e held) 0 16 (omega arith) none) ∙ none places.Super refl tt
  where
    none : (q : Place) → is_part q ≡ true → IsSmall q → has (places_after p b a e held) q ≡ false
    none q part small = reset_empties_fields p b e held q part small a fits is

-- ---- what a call leaves in mode Held

-- what is held in this way is in `this` or a part of it
abbrev IsHeldInside : PlaceSet → Fact → Type 0
IsHeldInside held g = is_held g.mode ≡ true → is_in_this held ≡ true

held_inside : (m : Mode) (held : PlaceSet) → is_held (mode_at m held) ≡ true → is_in_this held ≡ true
held_inside modes.Held held is = go (is_in_this held) refl
  where
    go : (c : Bool) → is_in_this held ≡ c → is_in_this held ≡ true
    go true inside = inside
    go false outside = absurd (true≢false (sym (let never : false ≡ true = rw outside at is in never)))
held_inside modes.Own held is = absurd (true≢false (sym is))
held_inside modes.None held is = absurd (true≢false (sym is))
held_inside modes.Lent held is = absurd (true≢false (sym is))
held_inside modes.Alias held is = absurd (true≢false (sym is))

leaves_inside : (o : Origin) (g : Fact) (held : PlaceSet) → IfNext (IsHeldInside held) (leave o g held)
leaves_inside o g held = go (is_nowhere held) (owes o g)
  where
    go : (c d : Bool) → IfNext (IsHeldInside held) (if c then (if d then Fault rules.Lost (missing o g) else Gone) else Next (record g { places = held; mode = mode_at g.mode held }))
    go true true = tt
    go true false = tt
    go false d = held_inside g.mode held

placed_inside : (o : Origin) (f : Fact) (held : PlaceSet) (x : Outcome) → IfNext (IsHeldInside held) (placed o f held (turned x))
placed_inside o f held (Next g) = leaves_inside o g held
placed_inside o f held Gone = tt
placed_inside o f held (Fault rule names) = tt

-- a fact that is in mode Held behind a call is in `this`, a field of it or its super class's part
pub call_holds_inside : (p : Program) (b : BodyId) (o : Origin) (a : Action) (e : Edge) (f g : Fact) → IsCallRow a → flow p b o a e f ≡ Next g → is_held g.mode ≡ true → is_in_this (places_after p b a e f.places) ≡ true
call_holds_inside p b o a e f g row next = subst (IfNext (IsHeldInside (places_after p b a e f.places))) next (by_row a row)
  where
    by_row : (c : Action) → IsCallRow c → IfNext (IsHeldInside (places_after p b c e f.places)) (flow p b o c e f)
    by_row actions.Skip never = absurd never
    by_row (actions.Call m d n form) row' = placed_inside o f (places_after p b (actions.Call m d n form) e f.places) (called p b o (actions.Call m d n form) e f)
    by_row (actions.New m d n) row' = placed_inside o f (places_after p b (actions.New m d n) e f.places) (called p b o (actions.New m d n) e f)
    by_row (actions.Super m d n) row' = placed_inside o f (places_after p b (actions.Super m d n) e f.places) (called p b o (actions.Super m d n) e f)
    by_row c never = absurd never

reset_calls : (p : Program) (a : Action) → is_reset_of_this p a ≡ true → IsCallRow a
reset_calls p actions.Skip never = absurd (true≢false (sym never))
reset_calls p (actions.Call m d n form) is = tt
reset_calls p a never = absurd (true≢false (sym never))

-- so behind a call that creates the obligation of `this` anew such a fact is that of `this`, and has no place of a field
pub reset_leaves_this : (p : Program) (b : BodyId) (o : Origin) (a : Action) (e : Edge) (f g : Fact) → IsSmallAction p a → is_reset_of_this p a ≡ true → flow p b o a e f ≡ Next g → is_held g.mode ≡ true
    → has (places_after p b a e f.places) places.This ≡ true
reset_leaves_this p b o a e f g fits is next held = go (has (places_after p b a e f.places) places.This) refl
  where
    go : (c : Bool) → has (places_after p b a e f.places) places.This ≡ c → has (places_after p b a e f.places) places.This ≡ true
    go true this = this
    go false out =
        let none : is_in_this (places_after p b a e f.places) ≡ false = rw (out, no_part_left p b a e f.places fits is) refl in
        absurd (true≢false (sym (call_holds_inside p b o a e f g (reset_calls p a is) next held) ∙ none))
