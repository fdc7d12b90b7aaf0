-- Each name of the type of an owning field is promised on it by a must-call method of the class.
use Rattle.std.proofs.Common.{◌≡◌, inl, inr, ℕ, zero, suc, ◌+◌, ◌<◌, Bool, true, false, not, Option, Some, None, IsSomeAnd, List, [], ◌∷◌, ◌++◌, length, option_map, slice_get, refl, sym, ap, ◌∙◌, true≢false, if◌then◌else◌, arith}
use Rattle.std.specs.FinSet as set
use Rattle.std.specs.List.{All, flat_map, range_with_len}
use Rattle.std.proofs.lemmas.List.Elements.{All-head, All-tail}
use Rattle.std.proofs.lemmas.List.FromFn.{get_or-range_with_len, length-range_with_len}
use Rattle.std.proofs.lemmas.Option.{slice_get-get_or, slice_get-map, slice_get_within}
use Rattle.rlc_base.specs.declared.name_id.NameId.{NameId}
use Rattle.rlc_base.proofs.SetLaws.{member_of-empty, union_member}
use Rattle.program_model.specs.NameSets.{names_of_all, when}
use Rattle.program_model.specs.declared.kinds.ClassId.{ClassId}
use Rattle.program_model.specs.declared.kinds.FieldId.{FieldId}
use Rattle.program_model.specs.declared.kinds.MethodId.{MethodId}
use Rattle.program_model.specs.declared.program.Class.{Class}
use Rattle.program_model.specs.declared.program.Field.{Field}
use Rattle.program_model.specs.declared.program.Method.{Method}
use Rattle.program_model.specs.declared.program.Program.{Program}
use Rattle.program_model.specs.Lookups.{class_at, field_at, method_at}
use Rattle.program_model.specs.Overrides.{methods_in}
use Rattle.program_model.specs.Validity.{IsMethodOf}
use Rattle.must_call_sets.specs.MustCallSets.{must_of, must_of_type}
use Rattle.must_call_sets.specs.OwningCases.{field_ids, finalized, finalized_by, has_no_finalizer, is_misshapen, owning_cases_in, owning_cases_of}
use Rattle.must_call_sets.specs.Signatures.{has_name, is_must_call_method, is_of_field, promised_names}
use Rattle.rlc_base.specs.declared.code.Code.TheVariants as refused
use Rattle.rlc_base.specs.declared.faults.Refusal.{Refusal}
use Rattle.refusal_order.specs.Refusals.{refused_at, where_true}
use Rattle.value_laws.specs.Accept.{Accept}
use Rattle.value_laws.specs.FieldContents.{promised_on}

-- ---- lists

pub parts_empty : {X : Type 0} (xs ys : List X) → xs ++ ys ≡ [] → (xs ≡ []) × (ys ≡ [])
parts_empty [] ys is = (refl, is)
parts_empty (x ∷ xs) ys is = absurd (let never : x ∷ (xs ++ ys) ≡ [] = is in cc)

no_element : {X : Type 0} (n : ℕ) (x : X) → slice_get [] n ≡ Some x → ⊥
no_element zero x is = let never : None ≡ Some x = is in cc
no_element (suc n) x is = let never : None ≡ Some x = is in cc

pub none_at : {X Y : Type 0} (f : X → List Y) (xs : List X) (n : ℕ) (x : X) → flat_map f xs ≡ [] → slice_get xs n ≡ Some x → f x ≡ []
none_at f [] n x is at = absurd (no_element n x at)
none_at f (y ∷ ys) zero x is at = let same : y ≡ x = (let both : Some y ≡ Some x = at in cc) in ap f (sym same) ∙ (parts_empty (f y) (flat_map f ys) is).0
none_at f (y ∷ ys) (suc n) x is at = none_at f ys n x (parts_empty (f y) (flat_map f ys) is).1 at

pub numbered : (n i : ℕ) → i < n → slice_get (range_with_len 0 n) i ≡ Some i
numbered n i small =
    let long = length-range_with_len 0 n in
    let inside : i < length (range_with_len 0 n) = omega (arith, long, small) in
    slice_get-get_or (range_with_len 0 n) i 0 inside ∙ ap Some (get_or-range_with_len 0 n i 0 small ∙ (let same : 0 + i ≡ i = omega arith in same))

not_false : (b : Bool) → not b ≡ false → b ≡ true
not_false true is = refl
not_false false is = absurd (true≢false is)

-- ---- the rule

-- a must-call method of the class promises the name on the field
pub record IsPromised (p : Program) (c : ClassId) (f : FieldId) (n : ℕ) : Type 0 where
  pub method : MethodId
  pub declared : Method
  pub at : method_at p method ≡ Some declared
  pub class : declared.class ≡ c
  pub name : NameId
  pub interest : declared.sig.interest ≡ Some name
  pub needed : set.contains (must_of p c) name.0 ≡ true
  pub promised : set.contains (promised_on f declared) n ≡ true

module _ (p : Program) (ac : Accept p) where
  abbrev field_with : ℕ → FieldId
  field_with n = record { 0 = n }

  pub listed : (f : FieldId) (x : Field) → field_at p f ≡ Some x → slice_get (field_ids p) f.0 ≡ Some f
  listed f x at =
      let inside = slice_get_within p.fields.items f.0 x at in
      slice_get-map field_with (range_with_len 0 (length p.fields.items)) f.0 ∙ ap (option_map field_with) (numbered (length p.fields.items) f.0 inside)

  -- a list that has no element but for a test, and is empty
  not_refused : (b : Bool) (r : Refusal) (rest : List Refusal) → (if b then r ∷ [] else []) ++ rest ≡ [] → b ≡ false
  not_refused true r rest is = absurd (let never : r ∷ rest ≡ [] = is in cc)
  not_refused false r rest is = refl

  has_finalizer : (f : FieldId) (x : Field) → x.owning ≡ true → (if x.owning then owning_cases_of p f x else []) ≡ [] → has_no_finalizer p f x ≡ false
  has_finalizer f x owning none =
      not_refused (has_no_finalizer p f x) (refused_at refused.NoFinalizer x.pos) (where_true (is_misshapen p f x) refused.OwningFieldShape x.pos)
      (sym (ap (λ (b : Bool). if b then owning_cases_of p f x else []) owning) ∙ none)

  -- all that the field's type asks for is promised
  pub owned_names : (f : FieldId) (x : Field) → field_at p f ≡ Some x → x.owning ≡ true → set.is_subset (must_of_type p x.vtype) (finalized p x.class f) ≡ true
  owned_names f x at owning =
      let none = none_at (λ (g : FieldId). owning_cases_in p g (field_at p g)) (field_ids p) f.0 f ac.well_formed.owning (listed f x at) in
      not_false (set.is_subset (must_of_type p x.vtype) (finalized p x.class f)) (has_finalizer f x owning (sym (ap (owning_cases_in p f) at) ∙ none))

  -- the shape of the field is not refused
  pub well_shaped : (f : FieldId) (x : Field) → field_at p f ≡ Some x → x.owning ≡ true → is_misshapen p f x ≡ false
  well_shaped f x at owning =
      let none = none_at (λ (g : FieldId). owning_cases_in p g (field_at p g)) (field_ids p) f.0 f ac.well_formed.owning (listed f x at) in
      let cases : owning_cases_of p f x ≡ [] = sym (ap (λ (b : Bool). if b then owning_cases_of p f x else []) owning) ∙ (sym (ap (owning_cases_in p f) at) ∙ none) in
      alone (is_misshapen p f x) (parts_empty (where_true (has_no_finalizer p f x) refused.NoFinalizer x.pos) (where_true (is_misshapen p f x) refused.OwningFieldShape x.pos) cases).1
    where
      alone : (b : Bool) → (if b then refused_at refused.OwningFieldShape x.pos ∷ [] else []) ≡ [] → b ≡ false
      alone true is = absurd (let never : refused_at refused.OwningFieldShape x.pos ∷ [] ≡ [] = is in cc)
      alone false is = refl

  by_method : (c : ClassId) (f : FieldId) (n : ℕ) (m : MethodId) (o : Option Method) → method_at p m ≡ o → IsSomeAnd o (λ x. x.class ≡ c) → set.contains (finalized_by p c f o) n ≡ true → IsPromised p c f n
  by_method c f n m None at own is = absurd own
  by_method c f n m (Some d) at own is = go (is_must_call_method p c d) refl is
    where
      by_name : (i : Option NameId) → d.sig.interest ≡ i → has_name (must_of p c) i ≡ true → set.contains (promised_on f d) n ≡ true → IsPromised p c f n
      by_name None same has promised = absurd (true≢false (sym has))
      by_name (Some i) same has promised = record { method = m; declared = d; at = at; class = own; name = i; interest = same; needed = has; promised = promised }

      go : (b : Bool) → is_must_call_method p c d ≡ b → set.contains (when b (promised_names (λ t. is_of_field t f) d.sig.promises.items)) n ≡ true → IsPromised p c f n
      go true has promised = by_name d.sig.interest refl has promised
      go false has promised = absurd (true≢false (sym promised ∙ member_of-empty n))

  by_methods : (c : ClassId) (f : FieldId) (n : ℕ) (ms : List MethodId) → All (IsMethodOf p c) ms → set.contains (names_of_all (λ m. finalized_by p c f (method_at p m)) ms) n ≡ true → IsPromised p c f n
  by_methods c f n [] own is = absurd (true≢false (sym is ∙ member_of-empty n))
  by_methods c f n (m ∷ ms) own is =
      elim (union_member (finalized_by p c f (method_at p m)) (names_of_all (λ k. finalized_by p c f (method_at p k)) ms) n is) [
        | inl here ↦ by_method c f n m (method_at p m) refl (All-head (IsMethodOf p c) m ms own) here
        | inr later ↦ by_methods c f n ms (All-tail (IsMethodOf p c) m ms own) later
      ]

  pub is_promised : (c : ClassId) (f : FieldId) (n : ℕ) → set.contains (finalized p c f) n ≡ true → IsPromised p c f n
  is_promised c f n is = go (class_at p c) refl is
    where
      go : (k : Option Class) → class_at p c ≡ k → set.contains (names_of_all (λ m. finalized_by p c f (method_at p m)) (methods_in k)) n ≡ true → IsPromised p c f n
      go None at has = absurd (true≢false (sym has ∙ member_of-empty n))
      go (Some k) at has = by_methods c f n k.methods.items (ac.well_formed.valid.typed.members c k at).methods has
