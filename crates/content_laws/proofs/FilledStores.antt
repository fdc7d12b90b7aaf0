-- Which owning field a step within a frame stores, and what holds nothing.
pub use Rattle.content_laws.proofs.ContentStores.{IsAliasForm, alias_form}
use Rattle.std.proofs.Common.{◌≡◌, ◌⊎◌, inl, inr, ℕ, ◌+◌, Bool, true, false, true≢false, Option, Some, None, List, [], ◌∷◌, nat_eq, refl, sym, ap, ◌∙◌, subst, arith, eqb-true, if◌then◌else◌}
use Rattle.std.specs.List.{All, find}
use Rattle.std.specs.Option.{unwrap_or}
use Rattle.std.proofs.lemmas.Bool.{and_parts}
use Rattle.std.proofs.lemmas.List.Elements.{All-head, All-tail}
use Rattle.rlc_base.specs.declared.place.Pos.{Pos}
use Rattle.program_model.specs.declared.kinds.ClassId.{ClassId}
use Rattle.program_model.specs.declared.kinds.FieldId.{FieldId}
use Rattle.program_model.specs.declared.kinds.MethodId.{MethodId}
use Rattle.program_model.specs.declared.kinds.VType.{VType}
use Rattle.program_model.specs.declared.kinds.VType.TheVariants as types
use Rattle.program_model.specs.declared.program.Field.{Field}
use Rattle.program_model.specs.declared.program.Method.{Method}
use Rattle.program_model.specs.declared.program.Program.{Program}
use Rattle.program_model.specs.Lookups.{field_at, method_at}
use Rattle.java_control.specs.Owned.{is_owning, is_owning_field}
use Rattle.control_actions.specs.declared.action.Action.{Action}
use Rattle.control_actions.specs.declared.action.Action.TheVariants as actions
use Rattle.ledger_state.specs.Contents.{HeapContents}
use Rattle.ledger_state.specs.Fields.{default_in, field_value}
use Rattle.ledger_state.specs.Heaps.{is_field_of, next_number, value_stored}
use Rattle.ledger_state.specs.Locals.{temp_value}
use Rattle.ledger_state.specs.Values.{default_of, number_of}
use Rattle.ledger_state.specs.declared.locals.Locals.{Locals}
use Rattle.ledger_state.specs.declared.object.StoredField.{StoredField}
use Rattle.ledger_state.specs.declared.value.Value.{Value}
use Rattle.ledger_state.specs.declared.value.Value.TheVariants as values
use Rattle.ledger_obligations.specs.Obligations.{stored_owning}
use Rattle.ledger_steps.specs.declared.store.Store.{Store}
use Rattle.ledger_steps.specs.InnerSteps.{heap_stored, inner, is_bound, store_into, store_of, store_unless, stored_by, thrown_heap}
use Rattle.covering_laws.proofs.Fields.{holds_here, holds_other, plain_holds, same_field}
use Rattle.covering_laws.specs.Ranges.{FieldsInRange, IsStoredInRange}

no_object : (v : Value) (k : ℕ) → number_of v ≡ Some k → v ≡ values.Object k
no_object (values.Object j) k is = let one : j ≡ k = (let both : Some j ≡ Some k = is in cc) in ap values.Object one
no_object values.Nothing k is = absurd (let never : None ≡ Some k = is in cc)
no_object v k is = absurd (let never : None ≡ Some k = is in cc)

-- ---- a store

-- the step stores this owning field of this object
abbrev pub IsStore : Locals → Action → ℕ → FieldId → Type 0
IsStore l a u g = (d : ℕ) × (a ≡ actions.PutOwn g d) × (l.this ≡ values.Object u)

into_is : (w : Option ℕ) (f : FieldId) (v : Value) (s : Store) → store_into w f v ≡ Some s → (w ≡ Some s.holder) × (f ≡ s.field) × (v ≡ s.value)
into_is None f v s is = absurd (let never : None ≡ Some s = is in cc)
into_is (Some w) f v s is =
    let one : record { holder = w; field = f; value = v } ≡ s = (let both : ◌≡◌ {A = Option Store} (Some (record { holder = w; field = f; value = v })) (Some s) = is in cc) in
    (ap (λ (z : Store). Some z.holder) one, ap (λ (z : Store). z.field) one, ap (λ (z : Store). z.value) one)

-- what another operator than `=` stores into an owning field is no object
abbrev pub StoresNoObject : Program → Locals → Action → Type 0
StoresNoObject p l a = (f : FieldId) (d w : ℕ) (this : Bool) → a ≡ actions.Put f d this → is_owning p f ≡ true → number_of (temp_value l d) ≡ Some w → number_of (temp_value l (d + 1)) ≡ None

store_is : (p : Program) (l : Locals) (a : Action) (s : Store) → StoresNoObject p l a → store_of l a ≡ Some s → is_owning p s.field ≡ true → IsStore l a s.holder s.field ⊎ (number_of s.value ≡ None)
store_is p l actions.Skip s texts is owning = absurd (let never : None ≡ Some s = is in cc)
store_is p l (actions.PutOwn f d) s texts is owning =
    let its = into_is (number_of l.this) f (temp_value l d) s is in
    inl (d, ap (λ (g : FieldId). actions.PutOwn g d) its.1, no_object l.this s.holder its.0)
store_is p l (actions.Put f d this) s texts is owning =
    let its = into_is (number_of (temp_value l d)) f (temp_value l (d + 1)) s is in
    inr (ap number_of (sym its.2) ∙ texts f d s.holder this refl (ap (is_owning p) its.1 ∙ owning) its.0)
store_is p l a s texts is owning = absurd (let never : None ≡ Some s = is in cc)

unless_is : (e : Option ClassId) (s : Option Store) (t : Store) → store_unless e s ≡ Some t → s ≡ Some t
unless_is None s t is = is
unless_is (Some e) s t is = absurd (let never : None ≡ Some t = is in cc)

module _ (p : Program) (m : Option Method) (l : Locals) (k : HeapContents) (u : ℕ) (g : FieldId) (x : Field) (declared : field_at p g ≡ Some x) (owning : x.owning ≡ true) where
  is_owned : is_owning p g ≡ true
  is_owned = ap is_owning_field declared ∙ owning

  -- the field holds what it held, or what is stored
  one_store : (s : Store) → (field_value p (stored_by p m l s k) u g ≡ field_value p k u g) ⊎ ((u ≡ s.holder) × (g ≡ s.field) × (field_value p (stored_by p m l s k) u g ≡ s.value))
  one_store s = go (is_owning p s.field) refl
    where
      same : (b c : Bool) → nat_eq u s.holder ≡ b → nat_eq g.0 s.field.0 ≡ c → ((u ≡ s.holder) × (g ≡ s.field)) ⊎ ((u ≡ s.holder) × (g ≡ s.field) → ⊥)
      same true true here there = inl (eqb-true u s.holder here, same_field g s.field 0 (eqb-true g.0 s.field.0 there))
      same true false here there = inr (λ both. true≢false (sym (ap (λ (f : FieldId). nat_eq g.0 f.0) (sym both.1) ∙ same_number g.0) ∙ there))
        where
          same_number : (n : ℕ) → nat_eq n n ≡ true
          same_number n = grind (arith)
      same false c here there = inr (λ both. true≢false (sym (ap (nat_eq u) (sym both.0) ∙ same_number u) ∙ here))
        where
          same_number : (n : ℕ) → nat_eq n n ≡ true
          same_number n = grind (arith)

      here_now : (u ≡ s.holder) × (g ≡ s.field) → field_value p (stored_owning p k s.holder s.field (is_bound k m l s.value) s.value) u g ≡ s.value
      here_now both = ap (λ (n : ℕ). field_value p (stored_owning p k s.holder s.field (is_bound k m l s.value) s.value) n g) both.0
          ∙ ap (field_value p (stored_owning p k s.holder s.field (is_bound k m l s.value) s.value) s.holder) both.1 ∙ holds_here p k s.holder s.field (is_bound k m l s.value) s.value

      go : (b : Bool) → is_owning p s.field ≡ b → (field_value p (stored_by p m l s k) u g ≡ field_value p k u g) ⊎ ((u ≡ s.holder) × (g ≡ s.field) × (field_value p (stored_by p m l s k) u g ≡ s.value))
      go true own = elim (same (nat_eq u s.holder) (nat_eq g.0 s.field.0) refl refl) [
        | inl both ↦ inr (both.0, both.1, rw own (here_now both))
        | inr other ↦ inl (rw own (holds_other p k s.holder s.field (is_bound k m l s.value) s.value u g other))
      ]
      go false own = elim (plain_holds p k s.holder u s.field g s.value) [
        | inl still ↦ inl (rw own still)
        | inr put ↦ inr (put.0, put.1, rw own put.2)
      ]

-- an owning field holds after a step within a frame what it held, or the step stores it, or it holds no object
pub inner_owning : (p : Program) (h : HeapContents) (m : MethodId) (l : Locals) (e : Option ClassId) (a : Action) (pos : Pos) (held : List (List Value)) → StoresNoObject p l a → (u : ℕ) (g : FieldId) (x : Field)
    → field_at p g ≡ Some x → x.owning ≡ true
    → (field_value p (inner p h m l e a pos held).heap u g ≡ field_value p h u g) ⊎ (IsStore l a u g ⊎ (number_of (field_value p (inner p h m l e a pos held).heap u g) ≡ None))
inner_owning p h m l e a pos held texts u g x declared owning = by_store (store_unless e (store_of l a)) refl
  where
    thrown : (c : Option ClassId) → field_value p (thrown_heap p c h) u g ≡ field_value p h u g
    thrown None = refl
    thrown (Some c) = refl

    by_store : (s : Option Store) → store_unless e (store_of l a) ≡ s
        → (field_value p (heap_stored p (method_at p m) l (store_unless e (store_of l a)) (thrown_heap p e h)) u g ≡ field_value p h u g)
        ⊎ (IsStore l a u g ⊎ (number_of (field_value p (heap_stored p (method_at p m) l (store_unless e (store_of l a)) (thrown_heap p e h)) u g) ≡ None))
    by_store None is = inl (ap (λ (s : Option Store). field_value p (heap_stored p (method_at p m) l s (thrown_heap p e h)) u g) is ∙ thrown e)
    by_store (Some s) is = elim (one_store p (method_at p m) l (thrown_heap p e h) u g x declared owning s) [
      | inl same ↦ inl (ap (λ (t : Option Store). field_value p (heap_stored p (method_at p m) l t (thrown_heap p e h)) u g) is ∙ same ∙ thrown e)
      | inr here ↦ inr (elim (store_is p l a s texts (unless_is e (store_of l a) s is) (ap (is_owning p) (sym here.1) ∙ ap is_owning_field declared ∙ owning)) [
        | inl store ↦ inl (subst (λ (n : ℕ). IsStore l a n g) (sym here.0) (subst (IsStore l a s.holder) (sym here.1) store))
        | inr none ↦ inr (ap (λ (t : Option Store). number_of (field_value p (heap_stored p (method_at p m) l t (thrown_heap p e h)) u g)) is ∙ ap number_of here.2 ∙ none)
      ])
    ]

-- ---- a new object

default_none : (t : VType) (c : ℕ) → default_of t ≡ values.Object c → ⊥
default_none (types.Primitive t) c is = cc
default_none types.Str c is = cc
default_none (types.Arr e) c is = cc
default_none (types.Obj d) c is = cc
default_none types.NullType c is = cc

pub in_none : (f : Option Field) (c : ℕ) → default_in f ≡ values.Object c → ⊥
in_none None c is = cc
in_none (Some f) c is = default_none f.vtype c is

found_none : (h : HeapContents) (w : ℕ) (f : FieldId) (xs : List StoredField) → All (IsStoredInRange h) xs → w ≡ next_number h → find (is_field_of w f) xs ≡ None
found_none h w f [] all new = refl
found_none h w f (s ∷ xs) all new = go (is_field_of w f s) refl (found_none h w f xs (All-tail (IsStoredInRange h) s xs all) new)
  where
    go : (b : Bool) → is_field_of w f s ≡ b → find (is_field_of w f) xs ≡ None → (if b then Some s else find (is_field_of w f) xs) ≡ None
    go true is none =
        let same = eqb-true s.holder w (and_parts (nat_eq s.holder w) (nat_eq s.field.0 f.0) is).0 in
        let below = (All-head (IsStoredInRange h) s xs all).0.1 in
        absurd (omega (arith, same, below, new))
    go false is none = none

-- a field of an object that is made next holds none
pub new_holds_none : (p : Program) (h : HeapContents) (w : ℕ) (f : FieldId) (c : ℕ) → FieldsInRange h → w ≡ next_number h → field_value p h w f ≡ values.Object c → ⊥
new_holds_none p h w f c ranges new is =
    in_none (field_at p f) c (sym (ap (λ (s : Option StoredField). unwrap_or (value_stored s) (default_in (field_at p f))) (found_none h w f h.fields ranges new)) ∙ is)
