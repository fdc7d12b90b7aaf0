-- The temps that hold `this` after a step.
use Rattle.std.proofs.Common.{◌≡◌, ◌∙◌, ap, sym, subst, arith, ℕ, ◌<◌, ◌≤◌, Bool, true, Option, Some, List, length, map, max, min, inl, inr}
use Rattle.std.specs.Prelude.{nat_eq, slice_get}
use Rattle.std.specs.List.{range_with_len}
use Rattle.std.proofs.lemmas.Bool.{cases_lt}
use Rattle.std.proofs.lemmas.Bool.Decides.{nat_tests}
use Rattle.std.proofs.lemmas.Option.{slice_get-get_or, slice_get_past}
use Rattle.std.proofs.lemmas.List.FromFn.{get_or-map-range_with_len, length-map-range_with_len}
use Rattle.program_model.specs.declared.kinds.MethodId.{MethodId}
use Rattle.program_model.specs.declared.program.Program.{Program}
use Rattle.program_model.specs.declared.tree.Body.{Body}
use Rattle.control_actions.specs.declared.action.Action.{Action}
use Rattle.control_actions.specs.declared.action.Action.TheVariants as actions
use Rattle.control_actions.specs.declared.action.Edge.{Edge}
use Rattle.control_actions.specs.declared.place.Place.{Place}
use Rattle.control_actions.specs.declared.place.Place.TheVariants as places
use Rattle.java_control.specs.Sources.{source, source_or_itself}
use Rattle.ledger_state.specs.Contents.{HeapContents}
use Rattle.ledger_state.specs.Locals.{temp_value}
use Rattle.ledger_state.specs.Values.{value_or_nothing}
use Rattle.ledger_state.specs.declared.locals.Locals.{Locals}
use Rattle.ledger_state.specs.declared.value.Value.{Value}
use Rattle.ledger_state.specs.declared.value.Value.TheVariants as values
use Rattle.ledger_moves.specs.Choosing.{method_body}
use Rattle.ledger_moves.specs.LedgerFramesFrames.{depth_of, locals_after, sourced, source_by, value_after}
use Rattle.fact_laws.specs.StepTargets.{after}
use Rattle.fact_laws.proofs.TargetSources.{comes_from}
use Rattle.frame_laws.specs.Frames.{holds_this}

itself : (x : ℕ) → nat_eq x x ≡ true
itself x = grind (arith, nat_tests)

-- ---- values

below_range : (n x : ℕ) → x < 64 → x < n → x < min n 4294967296
below_range n x small inside = omega (arith, small, inside)

value_at : (f : ℕ → Value) (n x : ℕ) → x < 64 → x < n → value_or_nothing (slice_get (map f (range_with_len 0 (min n 4294967296))) x) ≡ f x
value_at f n x small inside =
    let all : List Value = map f (range_with_len 0 (min n 4294967296)) in
    let long : length all ≡ min n 4294967296 = length-map-range_with_len f 0 (min n 4294967296) in
    let there : x < length all = subst (λ (k : ℕ). x < k) (sym long) (below_range n x small inside) in
    ap value_or_nothing (slice_get-get_or all x values.Nothing there) ∙ get_or-map-range_with_len f 0 (min n 4294967296) x x values.Nothing (below_range n x small inside) (omega arith)

nothing_at : (f : ℕ → Value) (n x : ℕ) → n ≤ x → value_or_nothing (slice_get (map f (range_with_len 0 (min n 4294967296))) x) ≡ values.Nothing
nothing_at f n x past =
    let all : List Value = map f (range_with_len 0 (min n 4294967296)) in
    let long : length all ≡ min n 4294967296 = length-map-range_with_len f 0 (min n 4294967296) in
    ap value_or_nothing (slice_get_past all x (omega (arith, past, long)))

module _ (p : Program) (h : HeapContents) (m : MethodId) (b : Body) (l : Locals) (v : Value) (body : method_body p m ≡ Some b) where
  -- a temp that the frame has after the step, by its source
  sourced_there : (a : Action) (e : Edge) (x : ℕ) (o : Option Place) → x < 64 → x < max (length l.temps) (depth_of a) → source p b a e (places.Temp x) ≡ o
      → temp_value (locals_after p h m l a e v) x ≡ sourced p h m l a v (places.Temp x) o
  sourced_there a e x o small inside is =
      value_at (λ d. value_after p h m l a e v (places.Temp d)) (max (length l.temps) (depth_of a)) x small inside
      ∙ ap (λ (y : Option Body). sourced p h m l a v (places.Temp x) (source_by p y a e (places.Temp x))) body ∙ ap (sourced p h m l a v (places.Temp x)) is

  -- a temp that is its own source keeps its value
  same_value : (a : Action) (e : Edge) (x : ℕ) → x < 64 → source p b a e (places.Temp x) ≡ Some (places.Temp x) → temp_value (locals_after p h m l a e v) x ≡ temp_value l x
  same_value a e x small is = elim (cases_lt x (max (length l.temps) (depth_of a))) [
    | inl inside ↦ sourced_there a e x (Some (places.Temp x)) small inside is
    | inr past ↦
        nothing_at (λ d. value_after p h m l a e v (places.Temp d)) (max (length l.temps) (depth_of a)) x past
        ∙ sym (ap value_or_nothing (slice_get_past l.temps x (omega (arith, past))))
  ]

  -- what is known to hold `this` after the step does
  pub step_keeps : (a : Action) (e : Edge) (x : ℕ) → after a (holds_this l) x → holds_this (locals_after p h m l a e v) x
  step_keeps a e x has small = elim (comes_from p b (holds_this l) x small a e has) [
    | inl copy ↦
        subst (λ (c : Action). temp_value (locals_after p h m l c e v) x ≡ l.this) (sym copy)
        (sourced_there (actions.Copy (places.Temp x) places.This) e x (Some places.This) small (omega arith) (ap (λ (t : Bool). source_or_itself t places.This (places.Temp x)) (itself x)))
    | inr kept ↦ same_value a e x small kept.1 ∙ kept.0 small
  ]
