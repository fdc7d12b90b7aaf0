-- Look-ups and stores by the index are those of the list of stored fields.
use Rattle.std.proofs.Common.{◌≡◌, inl, inr, ℕ, suc, ◌+◌, Bool, true, false, cond, ◌&&◌, Option, Some, None, List, [], ◌∷◌, nat_eq, refl, sym, ap, ap₂, ◌∙◌, true≢false, eqb-true, eq-eqb, arith, if◌then◌else◌}
use Rattle.std.proofs.lemmas.Bool.{cases_Bool}
use Rattle.std.specs.List.{AllZip, find, position_from}
use Rattle.std.specs.Map.{lookup}
use Rattle.std.specs.Option.{option_map}
use Rattle.indexmap.specs.IndexMap.{insert_entry}
use Rattle.ledger_state.specs.declared.object.StoredField.{StoredField}
use Rattle.ledger_state.specs.declared.stored_fields.ObjectField.{ObjectField}
use Rattle.ledger_state.specs.declared.value.Value.{Value}
use Rattle.ledger_state.specs.Heaps.{is_field_of, put_at, stored, value_stored}
use Rattle.ledger_state.specs.StoredFields.{field_of_entry, fields_of, is_same_field}

-- the two tests

equal_swap : (a b : ℕ) → nat_eq a b ≡ nat_eq b a
equal_swap a b = elim (cases_Bool (nat_eq a b)) [
  | inl same ↦ same ∙ sym (eq-eqb b a (sym (eqb-true a b same)))
  | inr other ↦ elim (cases_Bool (nat_eq b a)) [
    | inl same ↦ absurd (true≢false (sym (eq-eqb a b (sym (eqb-true b a same))) ∙ other))
    | inr also ↦ other ∙ sym also
  ]
]

same_tests : (place : ObjectField) (e : ObjectField × Value) → is_field_of place.holder place.field (field_of_entry e) ≡ is_same_field place e.0
same_tests place e = ap₂ (λ (a b : Bool). a && b) (equal_swap e.0.holder place.holder) (equal_swap e.0.field.0 place.field.0)

same_place : (a b : ObjectField) → is_same_field a b ≡ true → b ≡ a
same_place a b is =
    go (nat_eq a.holder b.holder) refl (nat_eq a.field.0 b.field.0) refl is
  where
    go : (p : Bool) → nat_eq a.holder b.holder ≡ p → (q : Bool) → nat_eq a.field.0 b.field.0 ≡ q → (p && q) ≡ true → b ≡ a
    go true one true two both =
        let holders = eqb-true a.holder b.holder one in
        let fields = eqb-true a.field.0 b.field.0 two in
        (λ i. record { holder = sym holders i; field = record { 0 = sym fields i } })
    go true one false two both = absurd (true≢false (sym both))
    go false one q two both = absurd (true≢false (sym both))

-- a look-up

pub value_found : (place : ObjectField) (es : List (ObjectField × Value)) → value_stored (find (is_field_of place.holder place.field) (fields_of es)) ≡ lookup (is_same_field place) es
value_found place [] = refl
value_found place (e ∷ es) = rw (same_tests place e) (go (is_same_field place e.0) (value_found place es))
  where
    go : (b : Bool) → value_stored (find (is_field_of place.holder place.field) (fields_of es)) ≡ lookup (is_same_field place) es
        → value_stored (cond b (Some (field_of_entry e)) (find (is_field_of place.holder place.field) (fields_of es))) ≡ cond b (Some e.1) (lookup (is_same_field place) es)
    go true rest = refl
    go false rest = rest

-- a store

module _ {X : Type 0} (test : X → Bool) where
  -- places are counted from one further
  one_further : (i : ℕ) (xs : List X) → position_from test (i + 1) xs ≡ option_map suc (position_from test i xs)
  one_further i [] = refl
  one_further i (x ∷ xs) = go (test x) (one_further (i + 1) xs)
    where
      go : (b : Bool) → position_from test (i + 1 + 1) xs ≡ option_map suc (position_from test (i + 1) xs)
          → cond b (Some (i + 1)) (position_from test (i + 1 + 1) xs) ≡ option_map suc (cond b (Some i) (position_from test (i + 1) xs))
      go true rest = ap Some (omega arith)
      go false rest = rest

put_behind : {X : Type 0} (r : Option ℕ) (x y : X) (ys : List X) → put_at (option_map suc r) x (y ∷ ys) ≡ y ∷ put_at r x ys
put_behind None x y ys = refl
put_behind (Some i) x y ys = refl

pub value_put : (place : ObjectField) (v : Value) (es : List (ObjectField × Value))
    → fields_of (insert_entry is_same_field es place v)
    ≡ put_at (position_from (is_field_of place.holder place.field) 0 (fields_of es)) (stored place.holder place.field v) (fields_of es)
value_put place v [] = refl
value_put place v (e ∷ es) = rw (same_tests place e) (go (is_same_field place e.0) refl (value_put place v es))
  where
    go : (b : Bool) → is_same_field place e.0 ≡ b
        → fields_of (insert_entry is_same_field es place v) ≡ put_at (position_from (is_field_of place.holder place.field) 0 (fields_of es)) (stored place.holder place.field v) (fields_of es)
        → fields_of (if b then (e.0, v) ∷ es else e ∷ insert_entry is_same_field es place v)
        ≡ put_at (cond b (Some 0) (position_from (is_field_of place.holder place.field) 1 (fields_of es))) (stored place.holder place.field v) (field_of_entry e ∷ fields_of es)
    go true here rest = ap (λ (k : ObjectField). field_of_entry (k, v) ∷ fields_of es) (same_place place e.0 here)
    go false here rest =
        ap (λ (xs : List StoredField). field_of_entry e ∷ xs) rest
        ∙ sym (put_behind (position_from (is_field_of place.holder place.field) 0 (fields_of es)) (stored place.holder place.field v) (field_of_entry e) (fields_of es))
        ∙ ap (λ (r : Option ℕ). put_at r (stored place.holder place.field v) (field_of_entry e ∷ fields_of es)) (sym (one_further (is_field_of place.holder place.field) 0 (fields_of es)))

-- a copy

pub same_entries : (es fs : List (ObjectField × Value)) → AllZip (λ (p q : ObjectField × Value). (q.0 ≡ p.0) × (q.1 ≡ p.1)) es fs → fs ≡ es
same_entries [] [] same = refl
same_entries [] (f ∷ fs) same = absurd same
same_entries (e ∷ es) [] same = absurd same
same_entries (e ∷ es) (f ∷ fs) same = λ i. (same.0.0 i, same.0.1 i) ∷ same_entries es fs same.1 i
