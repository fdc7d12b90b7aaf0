-- Laws of the table of names: where a name stands in the keys, and that a new name at the end leaves a table.
use Rattle.std.specs.Prelude.{Vec}
use Rattle.std.specs.List.{position_or_len, position, list_any, slice_get}
use Rattle.std.specs.Str.{bytes_eq}
use Rattle.std.proofs.Common.{◌≡◌, ◌⊎◌, lt-ltb, ℕ, zero, suc, add-zero, ltb, ltb-true, ltb-false, Option, Some, None, MatchOption, ap₂, ◌+◌, ◌<◌, ◌≤◌, Bool, true, false, cond, not, ◌||◌, List, [], ◌∷◌, ◌++◌, length, get_or, refl, sym, ap, ◌∙◌, arith, length-append, inl, inr, eq-eqb, ne_eqb}
use Rattle.std.proofs.lemmas.Bool.{cases_lt, cond-true, cond-false, le-ltb}
use Rattle.std.proofs.lemmas.List.{get_or_push, get_or_append_left, length-map, map-append}
use Rattle.std.proofs.lemmas.List.Folds.{position_or_len_push}
use Rattle.std.proofs.lemmas.List.Sums.{prefix_len-le-length, passes_at_first}
use Rattle.std.proofs.lemmas.Option.{slice_get-get_or, slice_get_within, get_or_from_slice_get}
use Rattle.std.proofs.lemmas.Slice.Eq.{bytes_eq-Decides}
use Rattle.indexmap.specs.IndexSet.{insert_key}
use Rattle.rlc_base.specs.Names.{place_of, texts, with_name, Holds, Lacks, IsTable}

-- the place of a name among the keys is its place among the names
pub place_of-texts : {A : Type 0} (name : List ℕ) (keys : List (Vec ℕ A)) → position_or_len (λ k. bytes_eq name k.items) keys ≡ place_of (texts keys) name
place_of-texts name [] = refl
place_of-texts name (k ∷ keys) = λ i. cond (not (bytes_eq name k.items)) (1 + place_of-texts name keys i) 0

pub length-texts : {A : Type 0} (keys : List (Vec ℕ A)) → length (texts keys) ≡ length keys
length-texts keys = length-map keys (λ k. k.items)

-- no element passes a test whose first place is the length
none_step : (here rest : Bool) (m n : ℕ) → cond (not here) (1 + m) 0 ≡ suc n → (m ≡ n → rest ≡ false) → (here || rest) ≡ false
none_step true rest m n h then = absurd (omega arith)
none_step false rest m n h then = then (omega arith)

pub none_passes : {X : Type 0} (p : X → Bool) (xs : List X) → position_or_len p xs ≡ length xs → list_any p xs ≡ false
none_passes p [] h = refl
none_passes p (x ∷ xs) h = none_step (p x) (list_any p xs) (position_or_len p xs) (length xs) h (none_passes p xs)

-- the keys with a new name at their end
pub texts-insert : {A : Type 0} (keys : List (Vec ℕ A)) (key : Vec ℕ A) → Lacks (texts keys) key.items → texts (insert_key (λ v w. bytes_eq v.items w.items) keys key) ≡ texts keys ++ key.items ∷ []
texts-insert keys key new =
    let none = none_passes (λ k. bytes_eq key.items k.items) keys (place_of-texts key.items keys ∙ new ∙ length-texts keys) in
    ap (λ b. texts (cond b keys (keys ++ key ∷ []))) none ∙ map-append (λ k. k.items) keys (key ∷ [])

-- a list of names with a new one at its end
pushed_place : (names : List (List ℕ)) (name : List ℕ) → Lacks names name → place_of (names ++ name ∷ []) name ≡ length names
pushed_place names name new =
    let own = (bytes_eq-Decides name name).1 refl in
    position_or_len_push (bytes_eq name) names name ∙ cond-true _ _ _ (eq-eqb _ _ new) ∙ ap (λ b. length names + cond b 0 1) own ∙ add-zero (length names)

held_place : (names : List (List ℕ)) (name other : List ℕ) → Holds names other → place_of (names ++ name ∷ []) other ≡ place_of names other
held_place names name other held =
    position_or_len_push (bytes_eq other) names name ∙ cond-false _ _ _ (ne_eqb (place_of names other) (length names) (λ same. omega arith))

pub IsTable-push : (names : List (List ℕ)) (name : List ℕ) → IsTable names → Lacks names name → length names < 128 → IsTable (names ++ name ∷ [])
IsTable-push names name table new room = record {
  few = rw length-append (omega arith);
  once = λ k below. elim (cases_lt k (length names)) [
    | inl early ↦
        let own = table.once k early in
        rw (get_or_append_left names (name ∷ []) [] k early)
        (held_place names name (get_or names k []) (omega arith) ∙ own)
    | inr late ↦
        let last : length names ≡ k = omega (arith, length-append names (name ∷ [])) in
        rw (get_or_push names name [] k last) (pushed_place names name new ∙ last)
  ];
}

-- what a search for a key by its bytes says of the names
found_at : (test : Bool) (at len : ℕ) (r : Option ℕ) → ltb at len ≡ test → at ≤ len → r ≡ cond test (Some at) None → MatchOption r (at ≡ len) (λ i. (i ≡ at) × (at < len))
found_at true at len None is within h = cc
found_at true at len (Some i) is within h = (cc, ltb-true at len is)
found_at false at len None is within h = let over : len ≤ at = ltb-false at len is in omega arith
found_at false at len (Some i) is within h = cc

pub found_place : {A : Type 0} (keys : List (Vec ℕ A)) (name : List ℕ) (r : Option ℕ) → r ≡ position (λ k. bytes_eq name k.items) keys → MatchOption r (Lacks (texts keys) name) (λ i. (i ≡ place_of (texts keys) name) × Holds (texts keys) name)
found_place keys name r h =
    let names = place_of-texts name keys in
    let len = length-texts keys in
    let within = prefix_len-le-length (λ k. not (bytes_eq name k.items)) keys in
    found_at _ (place_of (texts keys) name) (length (texts keys)) r refl (rw (len, ← names) within) (h ∙ ap₂ (λ at n. cond (ltb at n) (Some at) None) names (sym len))

-- ---- for callers: what a table says of a name's number

pub holds_or_lacks : (names : List (List ℕ)) (name : List ℕ) → Holds names name ⊎ Lacks names name
holds_or_lacks names name =
    let within : place_of names name ≤ length names = prefix_len-le-length (λ k. not (bytes_eq name k)) names in
    elim (cases_lt (place_of names name) (length names)) [ inl held ↦ inl held | inr past ↦ inr (omega arith) ]

-- the name at the place of a name that is held is that name
pub held_text : (names : List (List ℕ)) (name : List ℕ) → Holds names name → slice_get names (place_of names name) ≡ Some name
held_text names name held =
    let passes = passes_at_first (bytes_eq name) names [] held in
    slice_get-get_or names (place_of names name) [] held ∙ ap Some (sym ((bytes_eq-Decides name (get_or names (place_of names name) [])).0 passes))

-- the new name stands at the old length
pub pushed_text : (names : List (List ℕ)) (name : List ℕ) → slice_get (names ++ name ∷ []) (length names) ≡ Some name
pushed_text [] name = refl
pushed_text (x ∷ names) name = pushed_text names name

pub text_before_push : (names : List (List ℕ)) (name : List ℕ) (k : ℕ) → k < length names → slice_get (names ++ name ∷ []) k ≡ slice_get names k
text_before_push [] name k below = absurd (omega arith)
text_before_push (x ∷ names) name zero below = refl
text_before_push (x ∷ names) name (suc k) below = text_before_push names name k (omega arith)

-- in a table the number of the name at k is k
pub number_of_text : (names : List (List ℕ)) (name : List ℕ) (k : ℕ) → IsTable names → slice_get names k ≡ Some name → place_of names name ≡ k
number_of_text names name k table at =
    sym (ap (place_of names) (get_or_from_slice_get names k name [] at)) ∙ table.once k (slice_get_within names k name at)

pub held_from_text : (names : List (List ℕ)) (name : List ℕ) (k : ℕ) → IsTable names → slice_get names k ≡ Some name → Holds names name
held_from_text names name k table at =
    let same = number_of_text names name k table at in
    let within = slice_get_within names k name at in
    omega (arith, same, within)

-- two names with one number are equal
pub one_number : (names : List (List ℕ)) (a b : List ℕ) → Holds names a → place_of names a ≡ place_of names b → a ≡ b
one_number names a b held same =
    let at_a = held_text names a held in
    let held_b : Holds names b = omega (arith, same, held) in
    let at_b = held_text names b held_b in
    let both : Some a ≡ Some b = sym at_a ∙ ap (slice_get names) same ∙ at_b in
    cc

-- a table once a name is taken in: the two cases, and what stays
pub with_name-cases : (names : List (List ℕ)) (name : List ℕ) → (Holds names name × (with_name names name ≡ names)) ⊎ (Lacks names name × (with_name names name ≡ names ++ name ∷ []))
with_name-cases names name = elim (holds_or_lacks names name) [
  | inl held ↦ inl (held, cond-true _ _ _ (lt-ltb _ _ held))
  | inr new ↦ inr (new, cond-false _ _ _ (le-ltb (place_of names name) (length names) (omega (arith, new))))
]

pub IsTable-with_name : (names : List (List ℕ)) (name : List ℕ) → IsTable names → (Lacks names name → length names < 128) → IsTable (with_name names name)
IsTable-with_name names name table room = elim (with_name-cases names name) [
  | inl held ↦ rw held.1 table
  | inr new ↦ rw new.1 (IsTable-push names name table new.0 (room new.0))
]

pub holds_with_name : (names : List (List ℕ)) (name : List ℕ) → Holds (with_name names name) name
holds_with_name names name = elim (with_name-cases names name) [
  | inl held ↦ rw held.1 held.0
  | inr new ↦ rw new.1 (let place = pushed_place names name new.0 in omega (arith, place, length-append names (name ∷ [])))
]

pub text_with_name : (names : List (List ℕ)) (name : List ℕ) (k : ℕ) → k < length names → slice_get (with_name names name) k ≡ slice_get names k
text_with_name names name k below = elim (with_name-cases names name) [
  | inl held ↦ ap (λ t. slice_get t k) held.1
  | inr new ↦ ap (λ t. slice_get t k) new.1 ∙ text_before_push names name k below
]

pub place_with_name : (names : List (List ℕ)) (name other : List ℕ) → Holds names other → place_of (with_name names name) other ≡ place_of names other
place_with_name names name other held = elim (with_name-cases names name) [
  | inl same ↦ ap (λ t. place_of t other) same.1
  | inr new ↦ ap (λ t. place_of t other) new.1 ∙ held_place names name other held
]

pub found_text : {A : Type 0} (keys : List (Vec ℕ A)) (name : List ℕ) (at : ℕ) → (at ≡ place_of (texts keys) name) × Holds (texts keys) name → slice_get (texts keys) at ≡ Some name
found_text keys name at found = ap (slice_get (texts keys)) found.0 ∙ held_text (texts keys) name found.1
