-- Where the value of a variable or temp comes from that is an object after a step: from its source, or the step made it.
use Rattle.std.proofs.Common.{◌≡◌, ◌∙◌, ap, refl, sym, arith, subst, ℕ, ◌<◌, min, max, Bool, true, false, true≢false, Option, Some, None, List, length, map, slice_get, if◌then◌else◌}
use Rattle.std.specs.List.{range_with_len}
use Rattle.std.proofs.lemmas.List.FromFn.{get_or-map-range_with_len, length-map-range_with_len}
use Rattle.std.proofs.lemmas.Option.{slice_get-get_or, slice_get_within}
use Rattle.program_model.specs.declared.kinds.MethodId.{MethodId}
use Rattle.program_model.specs.declared.program.Program.{Program}
use Rattle.program_model.specs.declared.tree.Body.{Body}
use Rattle.control_actions.specs.declared.action.Action.{Action}
use Rattle.control_actions.specs.declared.action.Edge.{Edge}
use Rattle.control_actions.specs.declared.place.Place.{Place}
use Rattle.control_actions.specs.declared.place.Place.TheVariants as places
use Rattle.java_control.specs.PlaceNumbers.{IsSmall}
use Rattle.java_control.specs.Sources.{source}
use Rattle.ledger_state.specs.Contents.{HeapContents}
use Rattle.ledger_state.specs.Heaps.{root_of}
use Rattle.ledger_state.specs.Values.{value_or_nothing}
use Rattle.ledger_state.specs.declared.locals.Locals.{Locals}
use Rattle.ledger_state.specs.declared.value.Value.{Value}
use Rattle.ledger_state.specs.declared.value.Value.TheVariants as values
use Rattle.place_laws.specs.Places.{place_value}
use Rattle.ledger_frames.specs.Choosing.{method_body}
use Rattle.ledger_frames.specs.Frames.{depth_of, is_made, locals_after, made_place, source_by, sourced, value_after}
use Rattle.place_laws.specs.Places.{is_local}

fits_range : (n i : ℕ) → i < 4294967296 → i < n → i < min n 4294967296
fits_range n i small below = omega (arith, small, below)

made_at : (f : ℕ → Value) (n i : ℕ) → i < 4294967296 → i < n → value_or_nothing (slice_get (map f (range_with_len 0 (min n 4294967296))) i) ≡ f i
made_at f n i small below =
    let all : List Value = map f (range_with_len 0 (min n 4294967296)) in
    let long : length all ≡ min n 4294967296 = length-map-range_with_len f 0 (min n 4294967296) in
    let inside : i < length all = subst (λ (k : ℕ). i < k) (sym long) (fits_range n i small below) in
    ap value_or_nothing (slice_get-get_or all i values.Nothing inside) ∙ get_or-map-range_with_len f 0 (min n 4294967296) i i values.Nothing (fits_range n i small below) (omega arith)

no_object : (h : HeapContents) (o : ℕ) → root_of h values.Nothing ≡ Some o → ⊥
no_object h o is = absurd (let never : ◌≡◌ {A = Option ℕ} None (Some o) = is in cc)

-- a place that holds an object is there
object_inside : (h : HeapContents) (vs : List Value) (i o : ℕ) (found : Option Value) → slice_get vs i ≡ found → root_of h (value_or_nothing found) ≡ Some o → i < length vs
object_inside h vs i o None at is = absurd (no_object h o is)
object_inside h vs i o (Some v) at is = slice_get_within vs i v at

counted : (f : ℕ → Value) (n i : ℕ) → i < length (map f (range_with_len 0 (min n 4294967296))) → i < n
counted f n i inside =
    let long = length-map-range_with_len f 0 (min n 4294967296) in
    omega (arith, long, inside)

module _ (p : Program) (h k : HeapContents) (m : MethodId) (x : Body) (l : Locals) (a : Action) (e : Edge) (v : Value) (body : method_body p m ≡ Some x) where
  abbrev after : Locals
  after = locals_after p h m l a e v

  object_there : (q : Place) (o : ℕ) → IsSmall q → is_local q ≡ true → root_of k (place_value p k m after q) ≡ Some o → place_value p k m after q ≡ value_after p h m l a e v q
  object_there (places.Var i) o small local is =
      made_at (λ j. value_after p h m l a e v (places.Var j)) (length l.variables) i (omega (arith, small))
      (counted (λ j. value_after p h m l a e v (places.Var j)) (length l.variables) i (object_inside k after.variables i o (slice_get after.variables i) refl is))
  object_there (places.Temp d) o small local is =
      made_at (λ j. value_after p h m l a e v (places.Temp j)) (max (length l.temps) (depth_of a)) d (omega (arith, small))
      (counted (λ j. value_after p h m l a e v (places.Temp j)) (max (length l.temps) (depth_of a)) d (object_inside k after.temps d o (slice_get after.temps d) refl is))
  object_there places.This o small local is = absurd (true≢false (sym local))
  object_there (places.Field n) o small local is = absurd (true≢false (sym local))
  object_there places.Super o small local is = absurd (true≢false (sym local))

  -- from its source, or it is made
  abbrev pub IsFrom : Place → Option Place → Type 0
  IsFrom q None = (is_made (made_place a) q ≡ true) × (place_value p k m after q ≡ v)
  IsFrom q (Some z) = place_value p k m after q ≡ place_value p h m l z

  from : (q : Place) (o : ℕ) → root_of k (place_value p k m after q) ≡ Some o → (z : Option Place) → place_value p k m after q ≡ sourced p h m l a v q z → IsFrom q z
  from q o is (Some z) same = same
  from q o is None same = go (is_made (made_place a) q) refl same
    where
      go : (b : Bool) → is_made (made_place a) q ≡ b → place_value p k m after q ≡ (if b then v else values.Nothing) → (is_made (made_place a) q ≡ true) × (place_value p k m after q ≡ v)
      go true one same' = (one, same')
      go false one same' = absurd (no_object k o (ap (root_of k) (sym same') ∙ is))

  pub value_is_from : (q : Place) (o : ℕ) → IsSmall q → is_local q ≡ true → root_of k (place_value p k m after q) ≡ Some o → IsFrom q (source p x a e q)
  value_is_from q o small local is =
      from q o is (source p x a e q) (object_there q o small local is ∙ ap (λ (b : Option Body). sourced p h m l a v q (source_by p b a e q)) body)
