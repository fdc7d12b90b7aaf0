-- The temps that are known to hold an object of the class or null after a step hold one.
use Rattle.std.proofs.Common.{◌≡◌, ◌∙◌, ap, refl, sym, subst, arith, ℕ, ◌<◌, ◌≤◌, Bool, true, false, ◌&&◌, true≢false, Option, Some, None, List, length, map, max, min, inl, inr, if◌then◌else◌}
use Rattle.std.specs.Prelude.{nat_eq, slice_get}
use Rattle.std.specs.List.{range_with_len}
use Rattle.std.proofs.lemmas.Bool.{cases_lt}
use Rattle.std.proofs.lemmas.Option.{slice_get-get_or, slice_get_past}
use Rattle.std.proofs.lemmas.List.FromFn.{get_or-map-range_with_len, length-map-range_with_len}
use Rattle.program_model.specs.declared.kinds.ClassId.{ClassId}
use Rattle.program_model.specs.declared.kinds.MethodId.{MethodId}
use Rattle.program_model.specs.declared.program.Program.{Program}
use Rattle.program_model.specs.declared.tree.Body.{Body}
use Rattle.program_model.specs.Lookups.{method_at}
use Rattle.control_actions.specs.declared.action.Action.{Action}
use Rattle.control_actions.specs.declared.action.Action.TheVariants as actions
use Rattle.control_actions.specs.declared.action.Edge.{Edge}
use Rattle.control_actions.specs.declared.place.Place.{Place}
use Rattle.control_actions.specs.declared.place.Place.TheVariants as places
use Rattle.java_control.specs.Sources.{emptied, is_throws, source}
use Rattle.ledger_state.specs.Contents.{HeapContents}
use Rattle.ledger_state.specs.Locals.{temp_value}
use Rattle.ledger_state.specs.Values.{value_or_nothing}
use Rattle.ledger_state.specs.declared.locals.Locals.{Locals}
use Rattle.ledger_state.specs.declared.value.Value.{Value}
use Rattle.ledger_state.specs.declared.value.Value.TheVariants as values
use Rattle.ledger_moves.specs.Choosing.{method_body}
use Rattle.ledger_moves.specs.LedgerFramesFrames.{depth_of, is_made, locals_after, made_place, sourced, source_by, value_after}
use Rattle.frame_laws.specs.Places.{place_value}
use Rattle.dispatch_laws.specs.ClassOperands.{GivesClass, OfClass, own_type}
use Rattle.value_laws.specs.Values.{FitsClass, temp_fits_class}
use Rattle.value_laws.specs.Origins.{ComesFromClass, IsCastToClass, MakesClass, TakesClass}
use Rattle.value_laws.specs.ClassValues.{FieldsFitClass, VariablesFitClass}

below_range : (n x : ℕ) → x < 64 → x < n → x < min n 4294967296
below_range n x small inside = omega (arith, small, inside)

value_at : (f : ℕ → Value) (n x : ℕ) → x < 64 → x < n → value_or_nothing (slice_get (map f (range_with_len 0 (min n 4294967296))) x) ≡ f x
value_at f n x small inside =
    let all : List Value = map f (range_with_len 0 (min n 4294967296)) in
    let long : length all ≡ min n 4294967296 = length-map-range_with_len f 0 (min n 4294967296) in
    let there : x < length all = subst (λ (k : ℕ). x < k) (sym long) (below_range n x small inside) in
    ap value_or_nothing (slice_get-get_or all x values.Nothing there) ∙ get_or-map-range_with_len f 0 (min n 4294967296) x x values.Nothing (below_range n x small inside) (omega arith)

nothing_at : (f : ℕ → Value) (n x : ℕ) → n ≤ x → value_or_nothing (slice_get (map f (range_with_len 0 (min n 4294967296))) x) ≡ values.Nothing
nothing_at f n x past =
    let all : List Value = map f (range_with_len 0 (min n 4294967296)) in
    let long : length all ≡ min n 4294967296 = length-map-range_with_len f 0 (min n 4294967296) in
    ap value_or_nothing (slice_get_past all x (omega (arith, past, long)))

no_cast : (t : Bool) (d x : ℕ) → t ≡ false → emptied (t && nat_eq d x) (places.Temp x) ≡ Some (places.Temp x)
no_cast true d x is = absurd (true≢false is)
no_cast false d x is = refl

module _ (p : Program) (bound : ClassId) (K h : HeapContents) (m : MethodId) (b : Body) (l : Locals) (v : Value) (a : Action) (e : Edge) (x : ℕ) (body : method_body p m ≡ Some b) (small : x < 64) where
  -- a temp that the frame has after the step, by its source
  sourced_there : (o : Option Place) → x < max (length l.temps) (depth_of a) → source p b a e (places.Temp x) ≡ o → temp_value (locals_after p h m l a e v) x ≡ sourced p h m l a v (places.Temp x) o
  sourced_there o inside is =
      value_at (λ d. value_after p h m l a e v (places.Temp d)) (max (length l.temps) (depth_of a)) x small inside
      ∙ ap (λ (y : Option Body). sourced p h m l a v (places.Temp x) (source_by p y a e (places.Temp x))) body ∙ ap (sourced p h m l a v (places.Temp x)) is

  module _ (this : OfClass p bound (own_type (method_at p b.method)) → FitsClass p bound K l.this) (variables : VariablesFitClass p bound K b l) (fields : FieldsFitClass p bound K h m b l) (makes : is_throws e ≡ false → MakesClass p bound a → FitsClass p bound K v) (casts : is_throws e ≡ false → IsCastToClass p bound a x → FitsClass p bound K (temp_value l x)) where
    place_none : (y : Place) → GivesClass p bound b y (temp_fits_class p bound K l) → FitsClass p bound K (place_value p h m l y)
    place_none (places.Var i) gives = variables i gives
    place_none (places.Field k) gives = fields k gives
    place_none (places.Temp d) gives = gives
    place_none places.This gives = this gives
    place_none places.Super gives = absurd gives

    made_none : (t : Bool) → FitsClass p bound K v → FitsClass p bound K (if t then v else values.Nothing)
    made_none true none = none
    made_none false none = tt

    source_none : (o : Option Place) → ComesFromClass p bound b (temp_fits_class p bound K l) ((is_throws e ≡ false) × MakesClass p bound a) o → FitsClass p bound K (sourced p h m l a v (places.Temp x) o)
    source_none None none = made_none (is_made (made_place a) (places.Temp x)) (makes none.0 none.1)
    source_none (Some y) none = place_none y none

    cast_source : (c : Action) → is_throws e ≡ false → IsCastToClass p bound c x → source p b c e (places.Temp x) ≡ Some (places.Temp x)
    cast_source (actions.Cast t d) goes is = no_cast (is_throws e) d x goes
    cast_source actions.Skip goes is = absurd is
    cast_source c goes is = absurd is

    inside_none : x < max (length l.temps) (depth_of a) → TakesClass p bound b a e (temp_fits_class p bound K l) x → temp_fits_class p bound K (locals_after p h m l a e v) x
    inside_none inside (inl comes) = subst (FitsClass p bound K) (sym (sourced_there (source p b a e (places.Temp x)) inside refl)) (source_none (source p b a e (places.Temp x)) comes)
    inside_none inside (inr cast) = subst (FitsClass p bound K) (sym (sourced_there (Some (places.Temp x)) inside (cast_source a cast.0 cast.1))) (casts cast.0 cast.1)

    pub after_none : TakesClass p bound b a e (temp_fits_class p bound K l) x → temp_fits_class p bound K (locals_after p h m l a e v) x
    after_none takes = elim (cases_lt x (max (length l.temps) (depth_of a))) [
      | inl inside ↦ inside_none inside takes
      | inr past ↦ subst (FitsClass p bound K) (sym (nothing_at (λ d. value_after p h m l a e v (places.Temp d)) (max (length l.temps) (depth_of a)) x past)) tt
    ]
