-- Objects by their numbers, through changes of a heap.
use Rattle.std.proofs.Common.{◌≡◌, ℕ, zero, suc, ◌+◌, ◌<◌, Bool, true, false, Option, Some, None, List, [], ◌∷◌, ◌++◌, length, slice_get, option_map, nat_eq, refl, ap, ◌∙◌, subst, if◌then◌else◌, arith}
use Rattle.std.proofs.lemmas.Grind.{common_steps}
use Rattle.std.proofs.lemmas.Option.{slice_get_within}
use Rattle.program_model.specs.declared.kinds.ClassId.{ClassId}
use Rattle.rlc_base.proofs.SetLaws.{within_self, within_trans}
use Rattle.ledger_state.specs.Contents.{HeapContents}
use Rattle.ledger_state.specs.Heaps.{append, change_each, changed_from, follow, link_of, linked_by, next_number, object_at, root, root_of, root_within, unfinished, with_objects}
use Rattle.ledger_state.specs.declared.object.Object.{Object}
use Rattle.ledger_state.specs.declared.value.Value.{Value}
use Rattle.ledger_state.specs.declared.value.Value.TheVariants as values
use Rattle.ledger_obligations.specs.Obligations.{is_unmet, lose, lost_object, owner_holds}
use Rattle.heap_laws.specs.Heaps.{Evolves, GoesOn}

changed_get : (f : ℕ → Object → Object) (j i n : ℕ) (xs : List Object) → n ≡ j + i → slice_get (changed_from j f xs) i ≡ option_map (f n) (slice_get xs i)
changed_get f j zero n [] same = refl
changed_get f j (suc i) n [] same = refl
changed_get f j zero n (x ∷ xs) same = let here : j ≡ n = omega arith in ap (λ (m : ℕ). Some (f m x)) here
changed_get f j (suc i) n (x ∷ xs) same = changed_get f (j + 1) i n xs (omega arith)

pub changed_at : (change : ℕ → Object → Object) (h : HeapContents) (k : ℕ) → object_at (change_each change h) k ≡ option_map (change k) (object_at h k)
changed_at f h zero = refl
changed_at f h (suc i) = changed_get f 1 i (suc i) h.objects (omega arith)

changed_length : (f : ℕ → Object → Object) (j : ℕ) (xs : List Object) → length (changed_from j f xs) ≡ length xs
changed_length f j [] = refl
changed_length f j (x ∷ xs) = ap suc (changed_length f (j + 1) xs)

pub changed_count : (change : ℕ → Object → Object) (h : HeapContents) → next_number (change_each change h) ≡ next_number h
changed_count f h = ap (λ (n : ℕ). n + 1) (changed_length f 1 h.objects)

appended_get : (y : Object) (xs : List Object) (i : ℕ) → slice_get (xs ++ y ∷ []) i ≡ (if nat_eq (suc i) (length xs + 1) then Some y else slice_get xs i)
appended_get y [] zero = refl
appended_get y [] (suc i) = grind (arith, common_steps)
appended_get y (x ∷ xs) zero = grind (arith, common_steps)
appended_get y (x ∷ xs) (suc i) = grind (arith, common_steps, appended_get y xs i)

pub appended_at : (h : HeapContents) (c : ClassId) (k : ℕ) → object_at (append h c) k ≡ (if nat_eq k (next_number h) then Some (unfinished c) else object_at h k)
appended_at h c zero = grind (arith, common_steps)
appended_at h c (suc i) = appended_get (unfinished c) h.objects i

pub appended_count : (h : HeapContents) (c : ClassId) → next_number (append h c) ≡ next_number h + 1
appended_count h c = grind (arith, common_steps)

pub in_range : (h : HeapContents) (k : ℕ) (x : Object) → object_at h k ≡ Some x → (0 < k) × (k < next_number h)
in_range h zero x at = absurd (let never : None ≡ Some x = at in cc)
in_range h (suc i) x at = let within = slice_get_within h.objects i x at in (omega arith, omega (arith, within))

same_each : (f : ℕ → Object → Object) (j : ℕ) (xs : List Object) → ((i : ℕ) (x : Object) → slice_get xs i ≡ Some x → f (j + i) x ≡ x) → changed_from j f xs ≡ xs
same_each f j [] each = refl
same_each f j (x ∷ xs) each =
    let head : f j x ≡ x = subst (λ (n : ℕ). f n x ≡ x) (omega arith) (each 0 x refl) in
    let tail : changed_from (j + 1) f xs ≡ xs = same_each f (j + 1) xs (λ i y at. subst (λ (n : ℕ). f n y ≡ y) (omega arith) (each (suc i) y at)) in
    ap (λ (z : Object). z ∷ changed_from (j + 1) f xs) head ∙ ap (λ (zs : List Object). x ∷ zs) tail

pub unchanged : (change : ℕ → Object → Object) (h : HeapContents) → ((k : ℕ) (x : Object) → object_at h k ≡ Some x → change k x ≡ x) → change_each change h ≡ h
unchanged f h each = ap (with_objects h) (same_each f 1 h.objects (λ i x at. subst (λ (n : ℕ). f n x ≡ x) (omega arith) (each (suc i) x at)))

pub not_lost : (held : List (List Value)) (h : HeapContents) → ((k : ℕ) (x : Object) → object_at h k ≡ Some x → is_unmet x ≡ true → owner_holds h held x.owner k ≡ true) → lose held h ≡ h
not_lost held h each = unchanged (lost_object h held) h (λ k x at. go k x (is_unmet x) refl at)
  where
    go : (k : ℕ) (x : Object) (b : Bool) → is_unmet x ≡ b → object_at h k ≡ Some x → lost_object h held k x ≡ x
    go k x true is at = rw (is, each k x at is) refl
    go k x false is at = rw is refl

pub goes_on_self : (x : Object) → GoesOn x x
goes_on_self x = record { class = refl; link = refl; finished = refl; must = refl; called = within_self x.called }

pub goes_on_further : (x y z : Object) → GoesOn x y → GoesOn y z → GoesOn x z
goes_on_further x y z first second = record {
  class = second.class ∙ first.class;
  link = second.link ∙ first.link;
  finished = second.finished ∙ first.finished;
  must = second.must ∙ first.must;
  called = within_trans x.called y.called z.called first.called second.called;
}

pub evolves_self : (h : HeapContents) → Evolves h h
evolves_self h n x at = (x, at, goes_on_self x)

pub evolves_further : (h k j : HeapContents) → Evolves h k → Evolves k j → Evolves h j
evolves_further h k j first second n x at =
    let y = first n x at in
    let z = second n y.0 y.1 in
    (z.0, z.1, goes_on_further x y.0 z.0 y.2 z.2)

-- ---- roots

same_link : (f : ℕ → Object → Object) (k : ℕ) (x : Option Object) → ((n : ℕ) (x : Object) → (f n x).link ≡ x.link) → link_of (option_map (f k) x) ≡ link_of x
same_link f k None keeps = refl
same_link f k (Some x) keeps = ap linked_by (keeps k x)

root_changed_within : (f : ℕ → Object → Object) (h : HeapContents) (n k : ℕ) → ((n : ℕ) (x : Object) → (f n x).link ≡ x.link) → root_within n (change_each f h) k ≡ root_within n h k
root_changed_within f h zero k keeps = refl
root_changed_within f h (suc n) k keeps =
    ap (λ (l : Option ℕ). follow (root_within n (change_each f h)) k l) (ap link_of (changed_at f h k) ∙ same_link f k (object_at h k) keeps)
    ∙ further (link_of (object_at h k)) (λ j. root_changed_within f h n j keeps)
  where
    further : (l : Option ℕ) → ((j : ℕ) → root_within n (change_each f h) j ≡ root_within n h j) → follow (root_within n (change_each f h)) k l ≡ follow (root_within n h) k l
    further None same = refl
    further (Some j) same = same j

pub root_changed : (change : ℕ → Object → Object) (h : HeapContents) (k : ℕ) → ((n : ℕ) (x : Object) → (change n x).link ≡ x.link) → root (change_each change h) k ≡ root h k
root_changed f h k keeps = ap (λ (n : ℕ). root_within n (change_each f h) k) (changed_length f 1 h.objects) ∙ root_changed_within f h (length h.objects) k keeps

pub root_of_value_changed : (change : ℕ → Object → Object) (h : HeapContents) (v : Value) → ((n : ℕ) (x : Object) → (change n x).link ≡ x.link) → root_of (change_each change h) v ≡ root_of h v
root_of_value_changed f h values.Nothing keeps = refl
root_of_value_changed f h (values.Object k) keeps = ap Some (root_changed f h k keeps)
root_of_value_changed f h v keeps = refl
