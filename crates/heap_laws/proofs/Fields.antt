-- What the fields hold after a store.
use Rattle.std.proofs.Common.{◌≡◌, ◌⊎◌, inl, inr, ℕ, suc, ◌+◌, Bool, true, false, ◌&&◌, cond, Option, Some, None, List, [], ◌∷◌, find, option_map, nat_eq, refl, sym, ap, ◌∙◌, add-one, eq-eqb, eqb-true}
use Rattle.std.specs.List.{position_from}
use Rattle.std.specs.Option.{unwrap_or}
use Rattle.std.proofs.lemmas.Bool.{and_parts}
use Rattle.program_model.specs.declared.kinds.FieldId.{FieldId}
use Rattle.program_model.specs.declared.program.Program.{Program}
use Rattle.program_model.specs.Lookups.{field_at}
use Rattle.ledger_state.specs.Contents.{HeapContents}
use Rattle.ledger_state.specs.Fields.{default_in, field_of, field_value}
use Rattle.ledger_state.specs.Heaps.{change_some, is_field_of, put_at, put_field, stored, value_stored}
use Rattle.ledger_state.specs.declared.object.Object.{Object}
use Rattle.ledger_state.specs.declared.object.StoredField.{StoredField}
use Rattle.ledger_state.specs.declared.value.Value.{Value}
use Rattle.ledger_state.specs.declared.value.Value.TheVariants as values
use Rattle.ledger_state.specs.declared.entry.Owner.{Owner}
use Rattle.ledger_state.specs.declared.entry.Owner.TheVariants as owners
use Rattle.ledger_obligations.specs.Obligations.{displaced, displaces, given_up, moved_in, moved_where, moves_in, released_where, stored_owning, with_owner}
use Rattle.ledger_state.specs.Heaps.{root_of}

pub same_field : (f g : FieldId) (n : ℕ) → f.0 ≡ g.0 → f ≡ g
same_field f g n is = ap (λ (k : ℕ). (let z : FieldId = record { 0 = k } in z)) is

-- ---- lists of stored fields

abbrev put : ℕ → FieldId → Value → List StoredField → List StoredField
put w f v xs = put_at (position_from (is_field_of w f) 0 xs) (stored w f v) xs

position_shift : {X : Type 0} (test : X → Bool) (i : ℕ) (xs : List X) → position_from test (i + 1) xs ≡ option_map suc (position_from test i xs)
position_shift test i [] = refl
position_shift test i (x ∷ xs) = go (test x) (position_shift test (i + 1) xs)
  where
    go : (b : Bool) → position_from test (i + 1 + 1) xs ≡ option_map suc (position_from test (i + 1) xs)
        → cond b (Some (i + 1)) (position_from test (i + 1 + 1) xs) ≡ option_map suc (cond b (Some i) (position_from test (i + 1) xs))
    go true rest = ap Some (add-one i)
    go false rest = rest

put_past : (s x : StoredField) (xs : List StoredField) (o : Option ℕ) → put_at (option_map suc o) s (x ∷ xs) ≡ x ∷ put_at o s xs
put_past s x xs None = refl
put_past s x xs (Some i) = refl

put_other_first : (w : ℕ) (f : FieldId) (v : Value) (x : StoredField) (xs : List StoredField) → is_field_of w f x ≡ false → put w f v (x ∷ xs) ≡ x ∷ put w f v xs
put_other_first w f v x xs is =
    ap (λ (b : Bool). put_at (cond b (Some 0) (position_from (is_field_of w f) 1 xs)) (stored w f v) (x ∷ xs)) is
    ∙ ap (λ (o : Option ℕ). put_at o (stored w f v) (x ∷ xs)) (position_shift (is_field_of w f) 0 xs)
    ∙ put_past (stored w f v) x xs (position_from (is_field_of w f) 0 xs)

put_same_first : (w : ℕ) (f : FieldId) (v : Value) (x : StoredField) (xs : List StoredField) → is_field_of w f x ≡ true → put w f v (x ∷ xs) ≡ stored w f v ∷ xs
put_same_first w f v x xs is = ap (λ (b : Bool). put_at (cond b (Some 0) (position_from (is_field_of w f) 1 xs)) (stored w f v) (x ∷ xs)) is

is_itself : (w : ℕ) (f : FieldId) (v : Value) → is_field_of w f (stored w f v) ≡ true
is_itself w f v = rw (eq-eqb w w refl, eq-eqb f.0 f.0 refl) refl

find_here : (test : StoredField → Bool) (x : StoredField) (xs : List StoredField) → test x ≡ true → find test (x ∷ xs) ≡ Some x
find_here test x xs is = ap (λ (b : Bool). cond b (Some x) (find test xs)) is

find_past : (test : StoredField → Bool) (x : StoredField) (xs : List StoredField) → test x ≡ false → find test (x ∷ xs) ≡ find test xs
find_past test x xs is = ap (λ (b : Bool). cond b (Some x) (find test xs)) is

found_here : (w : ℕ) (f : FieldId) (v : Value) (xs : List StoredField) → find (is_field_of w f) (put w f v xs) ≡ Some (stored w f v)
found_here w f v [] = find_here (is_field_of w f) (stored w f v) [] (is_itself w f v)
found_here w f v (x ∷ xs) = go (is_field_of w f x) refl (found_here w f v xs)
  where
    go : (b : Bool) → is_field_of w f x ≡ b → find (is_field_of w f) (put w f v xs) ≡ Some (stored w f v) → find (is_field_of w f) (put w f v (x ∷ xs)) ≡ Some (stored w f v)
    go true is rest = ap (find (is_field_of w f)) (put_same_first w f v x xs is) ∙ find_here (is_field_of w f) (stored w f v) xs (is_itself w f v)
    go false is rest = ap (find (is_field_of w f)) (put_other_first w f v x xs is) ∙ find_past (is_field_of w f) x (put w f v xs) is ∙ rest

-- one that is the field is no other field
same_test : (w u : ℕ) (f g : FieldId) (v : Value) (x : StoredField) → is_field_of w f x ≡ true → is_field_of u g (stored w f v) ≡ false → is_field_of u g x ≡ false
same_test w u f g v x is other =
    let parts = and_parts (nat_eq x.holder w) (nat_eq x.field.0 f.0) is in
    ap (λ (n : ℕ). nat_eq n u && nat_eq x.field.0 g.0) (eqb-true x.holder w parts.0) ∙ ap (λ (n : ℕ). nat_eq w u && nat_eq n g.0) (eqb-true x.field.0 f.0 parts.1) ∙ other

found_other : (w u : ℕ) (f g : FieldId) (v : Value) (xs : List StoredField) → is_field_of u g (stored w f v) ≡ false → find (is_field_of u g) (put w f v xs) ≡ find (is_field_of u g) xs
found_other w u f g v [] other = find_past (is_field_of u g) (stored w f v) [] other
found_other w u f g v (x ∷ xs) other = go (is_field_of w f x) refl (found_other w u f g v xs other)
  where
    go : (b : Bool) → is_field_of w f x ≡ b → find (is_field_of u g) (put w f v xs) ≡ find (is_field_of u g) xs → find (is_field_of u g) (put w f v (x ∷ xs)) ≡ find (is_field_of u g) (x ∷ xs)
    go true is rest =
        ap (find (is_field_of u g)) (put_same_first w f v x xs is) ∙ find_past (is_field_of u g) (stored w f v) xs other
        ∙ sym (find_past (is_field_of u g) x xs (same_test w u f g v x is other))
    go false is rest = ap (find (is_field_of u g)) (put_other_first w f v x xs is) ∙ ap (λ (o : Option StoredField). cond (is_field_of u g x) (Some x) o) rest

-- ---- heaps

abbrev value_in : Program → ℕ → FieldId → List StoredField → Value
value_in p w f xs = unwrap_or (value_stored (find (is_field_of w f) xs)) (default_in (field_at p f))

value_here : (p : Program) (w : ℕ) (f : FieldId) (v : Value) (xs : List StoredField) → value_in p w f (put w f v xs) ≡ v
value_here p w f v xs = ap (λ (o : Option StoredField). unwrap_or (value_stored o) (default_in (field_at p f))) (found_here w f v xs)

value_other : (p : Program) (w u : ℕ) (f g : FieldId) (v : Value) (xs : List StoredField) → is_field_of u g (stored w f v) ≡ false → value_in p u g (put w f v xs) ≡ value_in p u g xs
value_other p w u f g v xs other = ap (λ (o : Option StoredField). unwrap_or (value_stored o) (default_in (field_at p g))) (found_other w u f g v xs other)

abbrev IsSame : ℕ → ℕ → FieldId → FieldId → Type 0
IsSame w u f g = (u ≡ w) × (g ≡ f)

same_or_other : (w u : ℕ) (f g : FieldId) (v : Value) → (is_field_of u g (stored w f v) ≡ false) ⊎ IsSame w u f g
same_or_other w u f g v = go (is_field_of u g (stored w f v)) refl
  where
    go : (b : Bool) → is_field_of u g (stored w f v) ≡ b → (is_field_of u g (stored w f v) ≡ false) ⊎ IsSame w u f g
    go false is = inl is
    go true is = let parts = and_parts (nat_eq w u) (nat_eq f.0 g.0) is in inr (sym (eqb-true w u parts.0), sym (same_field f g 0 (eqb-true f.0 g.0 parts.1)))

some_fields : (r : Option ℕ) (change : Object → Object) (h : HeapContents) → (change_some r change h).fields ≡ h.fields
some_fields None change h = refl
some_fields (Some k) change h = refl

released_fields : (b : Bool) (r : Option ℕ) (h : HeapContents) → (released_where b r h).fields ≡ h.fields
released_fields true r h = some_fields r given_up h
released_fields false r h = refl

moved_fields : (b : Bool) (r : Option ℕ) (o : Owner) (h : HeapContents) → (moved_where b r o h).fields ≡ h.fields
moved_fields true r o h = some_fields r (with_owner o) h
moved_fields false r o h = refl

module _ (p : Program) (h : HeapContents) (w : ℕ) (f : FieldId) (bound : Bool) (v : Value) where
  both_fields : (moved_in p h w f bound v).fields ≡ h.fields
  both_fields =
      moved_fields (moves_in p h f bound v) (root_of h v) (owners.Field w f) (displaced p h w f v)
      ∙ released_fields (displaces h w f (field_of p h (values.Object w) f) v) (root_of h (field_of p h (values.Object w) f)) h

  pub holds_here : field_value p (stored_owning p h w f bound v) w f ≡ v
  holds_here = value_here p w f v (moved_in p h w f bound v).fields

  pub holds_other : (u : ℕ) (g : FieldId) → ((u ≡ w) × (g ≡ f) → ⊥) → field_value p (stored_owning p h w f bound v) u g ≡ field_value p h u g
  holds_other u g other = elim (same_or_other w u f g v) [
    | inl apart ↦ value_other p w u f g v (moved_in p h w f bound v).fields apart ∙ ap (value_in p u g) both_fields
    | inr same ↦ absurd (other same)
  ]

pub plain_holds : (p : Program) (h : HeapContents) (w u : ℕ) (f g : FieldId) (v : Value)
    → (field_value p (put_field w f v h) u g ≡ field_value p h u g) ⊎ ((u ≡ w) × (g ≡ f) × (field_value p (put_field w f v h) u g ≡ v))
plain_holds p h w u f g v = elim (same_or_other w u f g v) [
  | inl apart ↦ inl (value_other p w u f g v h.fields apart)
  | inr same ↦ inr (same.0, same.1, ap (λ (n : ℕ). value_in p n g (put w f v h.fields)) same.0 ∙ ap (λ (k : FieldId). value_in p w k (put w f v h.fields)) same.1 ∙ value_here p w f v h.fields)
]
