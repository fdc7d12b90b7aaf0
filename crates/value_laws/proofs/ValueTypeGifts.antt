-- What a call of the library gives is no object where its result is of no class type.
use Rattle.std.proofs.Common.{◌≡◌, ◌∙◌, refl, sym, subst, ℕ, zero, suc, ◌-◌, true, false, true≢false, Option, Some, None, List, length, IsSomeAnd, Bool, ap}
use Rattle.std.specs.Prelude.{slice_get, ℤ}
use Rattle.program_model.specs.declared.kinds.ClassId.{ClassId}
use Rattle.program_model.specs.declared.kinds.MethodId.{MethodId}
use Rattle.program_model.specs.declared.kinds.MethodKind.{MethodKind}
use Rattle.program_model.specs.declared.kinds.MethodKind.TheVariants as kinds
use Rattle.program_model.specs.declared.kinds.VType.{VType}
use Rattle.program_model.specs.declared.kinds.VType.TheVariants as types
use Rattle.program_model.specs.declared.program.Method.{Method}
use Rattle.program_model.specs.declared.program.Program.{Program}
use Rattle.program_model.specs.declared.program.Sig.{Sig}
use Rattle.program_model.specs.Lookups.{method_at}
use Rattle.program_model.specs.Validity.{IsOfKind, IsTypedProgram}
use Rattle.control_actions.specs.declared.action.Action.{Action}
use Rattle.control_actions.specs.declared.action.Action.TheVariants as actions
use Rattle.stub_conduct.specs.declared.choice.Choice.{Choice}
use Rattle.stub_conduct.specs.declared.choice.Conduct.{Conduct}
use Rattle.stub_conduct.specs.declared.choice.Conduct.TheVariants as conducts
use Rattle.stub_conduct.specs.Conducts.{beyond, by_way, conduct, conduct_in, existing, existing_result, existing_way, given, given_result, instead, instead_result, null_way, plain, throw_or, thrown}
use Rattle.ledger_state.specs.declared.array.ArrayObject.{ArrayObject}
use Rattle.ledger_state.specs.declared.locals.Locals.{Locals}
use Rattle.ledger_state.specs.declared.value.Value.{Value}
use Rattle.ledger_state.specs.declared.value.Value.TheVariants as values
use Rattle.ledger_state.specs.Contents.{HeapContents}
use Rattle.ledger_steps.specs.LedgerCallsCalls.{position_of}
use Rattle.ledger_steps.specs.Conducts.{conduct_value, fits_type, given_value, on_this, plainly, positions, result_in, settled, settled_by}
use Rattle.dispatch_laws.specs.Operands.{MakesText, NoObject, result_of}
use Rattle.dispatch_laws.specs.Values.{IsNoObjectBut}

-- the conduct gives no object, and no argument, which may be one
abbrev GivesNone : Conduct → Type 0
GivesNone (conducts.Fresh e) = ⊥
GivesNone (conducts.Existing j) = ⊥
GivesNone conducts.Argument = ⊥
GivesNone d = Unit {0}

-- ---- by the type of the result

module _ (p : Program) where
  of_type : (t : VType) (v : ℤ) → NoObject (Some t) → GivesNone (given p t v)
  of_type (types.Primitive k) v none = tt
  of_type types.Str v none = tt
  of_type (types.Arr e) v none = tt
  of_type (types.Obj c) v none = absurd (true≢false none)
  of_type types.NullType v none = tt

  of_result : (t : Option VType) (v : ℤ) → NoObject t → GivesNone (given_result p t v)
  of_result None v none = absurd none
  of_result (Some t) v none = of_type t v none

  instead_of_type : (alias : Option ℕ) (t : VType) (v : ℤ) → NoObject (Some t) → GivesNone (instead p alias t v)
  instead_of_type alias (types.Primitive k) v none = tt
  instead_of_type alias types.Str v none = tt
  instead_of_type alias (types.Arr e) v none = tt
  instead_of_type alias (types.Obj c) v none = absurd (true≢false none)
  instead_of_type alias types.NullType v none = tt

  instead_of : (s : Sig) (t : Option VType) (v : ℤ) → NoObject t → GivesNone (instead_result p s t v)
  instead_of s None v none = absurd none
  instead_of s (Some t) v none = instead_of_type s.alias t v none

  existing_of_type : (s : Sig) (t : VType) (v : ℤ) → NoObject (Some t) → GivesNone (existing p s t v)
  existing_of_type s (types.Primitive k) v none = tt
  existing_of_type s types.Str v none = tt
  existing_of_type s (types.Arr e) v none = tt
  existing_of_type s (types.Obj c) v none = absurd (true≢false none)
  existing_of_type s types.NullType v none = tt

  existing_of : (s : Sig) (t : Option VType) (v : ℤ) → NoObject t → GivesNone (existing_result p s t v)
  existing_of s None v none = absurd none
  existing_of s (Some t) v none = existing_of_type s t v none

  -- ---- by the kind of the method: a constructor has no result

  no_result : (t : Option VType) → t ≡ None → NoObject t → ⊥
  no_result t is none = subst NoObject is none

  module _ (m : Method) (none : NoObject m.sig.result) where
    plainly_of : (k : MethodKind) (v : ℤ) → IsOfKind k m.sig → GivesNone (plain p k m v)
    plainly_of kinds.Ctor v kind = no_result m.sig.result kind none
    plainly_of kinds.Instance v kind = of_result m.sig.result v none
    plainly_of kinds.Static v kind = of_result m.sig.result v none
    plainly_of kinds.Constant v kind = of_result m.sig.result v none

    null_of : (k : MethodKind) (v : ℤ) → IsOfKind k m.sig → GivesNone (null_way p k m v)
    null_of kinds.Ctor v kind = no_result m.sig.result kind none
    null_of kinds.Instance v kind = instead_of m.sig m.sig.result v none
    null_of kinds.Static v kind = instead_of m.sig m.sig.result v none
    null_of kinds.Constant v kind = instead_of m.sig m.sig.result v none

    there_of : (k : MethodKind) (v : ℤ) → IsOfKind k m.sig → GivesNone (existing_way p k m v)
    there_of kinds.Ctor v kind = no_result m.sig.result kind none
    there_of kinds.Instance v kind = existing_of m.sig m.sig.result v none
    there_of kinds.Static v kind = existing_of m.sig m.sig.result v none
    there_of kinds.Constant v kind = existing_of m.sig m.sig.result v none

    module _ (kind : IsOfKind m.kind m.sig) where
      beyond_of : (k : ℕ) (v : ℤ) → GivesNone (beyond p m k v)
      beyond_of zero v = null_of m.kind v kind
      beyond_of (suc zero) v = there_of m.kind v kind
      beyond_of (suc (suc k)) v = plainly_of m.kind v kind

      throws_of : (c : Option ClassId) (k : ℕ) (v : ℤ) → GivesNone (throw_or p m c k v)
      throws_of (Some c) k v = tt
      throws_of None k v = beyond_of (k - length (thrown p m.kind m)) v

      by_way_of : (way : ℕ) (v : ℤ) → GivesNone (by_way p m way v)
      by_way_of zero v = plainly_of m.kind v kind
      by_way_of (suc k) v = throws_of (slice_get (thrown p m.kind m) k) k v

  -- ---- by a choice

  module _ (typed : IsTypedProgram p) where
    conduct_gives : (x : Option Method) (m : MethodId) (c : Choice) → method_at p m ≡ x → NoObject (result_of x) → GivesNone (conduct_in p x c)
    conduct_gives None m c at none = absurd none
    conduct_gives (Some x) m c at none = by_way_of x none (typed.methods m x at).kind c.way c.value

    module _ (h : HeapContents) (arrays : List ArrayObject) (m : MethodId) (none : NoObject (result_of (method_at p m))) where
      plainly_gives : (c : Choice) → GivesNone (plainly p m c)
      plainly_gives c = conduct_gives (method_at p m) m (record c { way = 0 }) refl none

      -- an object is of no such type
      no_object_fits : (x : Option Method) (k : ℕ) → NoObject (result_of x) → fits_type p h arrays (result_in x) (values.Object k) ≡ false
      no_object_fits None k kind = absurd kind
      no_object_fits (Some x) k kind = go x.sig.result kind
        where
          go : (t : Option VType) → NoObject t → fits_type p h arrays t (values.Object k) ≡ false
          go None kind = refl
          go (Some (types.Primitive u)) kind = refl
          go (Some types.Str) kind = refl
          go (Some (types.Arr e)) kind = refl
          go (Some (types.Obj c)) kind = absurd (true≢false kind)
          go (Some types.NullType) kind = refl

      settles : (c : Choice) (at : ℕ → Value) (d : Conduct) → GivesNone d → GivesNone (settled_by p h arrays m (method_at p m) c at d)
      settles c at (conducts.Existing k) gives = absurd gives
      settles c at conducts.Argument gives = absurd gives
      settles c at (conducts.Throws e) gives = tt
      settles c at (conducts.Fresh e) gives = absurd gives
      settles c at conducts.Null gives = tt
      settles c at (conducts.Value z) gives = tt
      settles c at conducts.Nothing gives = tt

      settled_gives : (c : Choice) (at : ℕ → Value) → GivesNone (settled p h arrays m c at)
      settled_gives c at = settles c at (conduct p m c) (conduct_gives (method_at p m) m c refl none)

  on_this_gives : (a : Action) (d : Conduct) → GivesNone d → GivesNone (on_this a d)
  on_this_gives (actions.Super m d n) (conducts.Fresh e) gives = absurd gives
  on_this_gives (actions.Super m d n) conducts.Null gives = tt
  on_this_gives (actions.Super m d n) (conducts.Existing j) gives = gives
  on_this_gives (actions.Super m d n) c gives = gives
  on_this_gives actions.Skip d gives = gives
  on_this_gives a d gives = gives

-- ---- a constructor of `String`

-- what the conduct gives is an object of class `String`
abbrev GivesText : Program → Conduct → Type 0
GivesText p (conducts.Fresh e) = e ≡ p.core.string
GivesText p (conducts.Throws e) = Unit {0}
GivesText p d = ⊥

module _ (p : Program) where
  module _ (m : Method) (kind : m.kind ≡ kinds.Ctor) (of : m.class ≡ p.core.string) where
    text_beyond : (k : ℕ) (v : ℤ) → GivesText p (beyond p m k v)
    text_beyond zero v = subst (λ (j : MethodKind). GivesText p (null_way p j m v)) (sym kind) of
    text_beyond (suc zero) v = subst (λ (j : MethodKind). GivesText p (existing_way p j m v)) (sym kind) of
    text_beyond (suc (suc k)) v = subst (λ (j : MethodKind). GivesText p (plain p j m v)) (sym kind) of

    text_throws : (c : Option ClassId) (k : ℕ) (v : ℤ) → GivesText p (throw_or p m c k v)
    text_throws (Some c) k v = tt
    text_throws None k v = text_beyond (k - length (thrown p m.kind m)) v

    text_by_way : (way : ℕ) (v : ℤ) → GivesText p (by_way p m way v)
    text_by_way zero v = subst (λ (j : MethodKind). GivesText p (plain p j m v)) (sym kind) of
    text_by_way (suc k) v = text_throws (slice_get (thrown p m.kind m) k) k v

  text_conduct : (x : Option Method) (c : Choice) → IsSomeAnd x (λ x. (x.kind ≡ kinds.Ctor) × (x.class ≡ p.core.string)) → GivesText p (conduct_in p x c)
  text_conduct None c text = absurd text
  text_conduct (Some x) c text = text_by_way x text.0 text.1 c.way c.value

  text_settles : (h : HeapContents) (arrays : List ArrayObject) (m : MethodId) (x : Option Method) (c : Choice) (at : ℕ → Value) (d : Conduct) → GivesText p d → GivesText p (settled_by p h arrays m x c at d)
  text_settles h arrays m x c at (conducts.Existing k) gives = absurd gives
  text_settles h arrays m x c at conducts.Argument gives = absurd gives
  text_settles h arrays m x c at (conducts.Throws e) gives = tt
  text_settles h arrays m x c at (conducts.Fresh e) gives = gives
  text_settles h arrays m x c at conducts.Null gives = absurd gives
  text_settles h arrays m x c at (conducts.Value z) gives = absurd gives
  text_settles h arrays m x c at conducts.Nothing gives = absurd gives

  text_settled : (h : HeapContents) (arrays : List ArrayObject) (m : MethodId) (c : Choice) (at : ℕ → Value) → MakesText p m → GivesText p (settled p h arrays m c at)
  text_settled h arrays m c at text = text_settles h arrays m (method_at p m) c at (conduct p m c) (text_conduct (method_at p m) c text)

-- ---- the value

-- the objects of class `String` are these
module _ (texts : ℕ → Bool) where
  given_none : (count : ℕ) (t : Option VType) (z : ℤ) → IsNoObjectBut texts (given_value count t z)
  given_none count (Some (types.Arr e)) z = refl
  given_none count (Some types.Str) z = refl
  given_none count None z = refl
  given_none count (Some t) z = refl

  value_none : (count : ℕ) (m : Option Method) (at : ℕ → Value) (k : ℕ) (d : Conduct) → ((e : ClassId) → d ≡ conducts.Throws e → ⊥) → GivesNone d → IsNoObjectBut texts (conduct_value count m at k d)
  value_none count m at k (conducts.Throws e) normal gives = absurd (normal e refl)
  value_none count m at k (conducts.Fresh e) normal gives = absurd gives
  value_none count m at k conducts.Null normal gives = refl
  value_none count m at k (conducts.Existing j) normal gives = absurd gives
  value_none count m at k conducts.Argument normal gives = absurd gives
  value_none count m at k (conducts.Value z) normal gives = given_none count (result_in m) z
  value_none count m at k conducts.Nothing normal gives = refl

  pub library_value_none : (p : Program) → IsTypedProgram p → (h : HeapContents) (arrays : List ArrayObject) (m : MethodId) (choice : Choice) (l : Locals) (a : Action) (d : Conduct) (count k : ℕ)
      → d ≡ on_this a (settled p h arrays m choice (position_of None l a)) → ((e : ClassId) → d ≡ conducts.Throws e → ⊥)
      → NoObject (result_of (method_at p m)) → IsNoObjectBut texts (conduct_value count (method_at p m) (positions l a k d) k d)
  library_value_none p typed h arrays m choice l a d count k is normal none =
      value_none count (method_at p m) (positions l a k d) k d normal
      (subst GivesNone (sym is) (on_this_gives p a (settled p h arrays m choice (position_of None l a)) (settled_gives p typed h arrays m none choice (position_of None l a))))

  -- the value of a `new String(..)` is the object that it makes
  text_value : (p : Program) (count : ℕ) (m : Option Method) (at : ℕ → Value) (k : ℕ) (d : Conduct) → ((e : ClassId) → d ≡ conducts.Throws e → ⊥) → ((e : ClassId) → d ≡ conducts.Fresh e → e ≡ p.core.string → texts k ≡ true)
      → GivesText p d → IsNoObjectBut texts (conduct_value count m at k d)
  text_value p count m at k (conducts.Throws e) normal fresh gives = absurd (normal e refl)
  text_value p count m at k (conducts.Fresh e) normal fresh gives = fresh e refl gives
  text_value p count m at k conducts.Null normal fresh gives = absurd gives
  text_value p count m at k (conducts.Existing j) normal fresh gives = absurd gives
  text_value p count m at k conducts.Argument normal fresh gives = absurd gives
  text_value p count m at k (conducts.Value z) normal fresh gives = absurd gives
  text_value p count m at k conducts.Nothing normal fresh gives = absurd gives

  pub library_text : (p : Program) (h : HeapContents) (arrays : List ArrayObject) (m : MethodId) (choice : Choice) (l : Locals) (a : Action) (d : Conduct) (count k j i : ℕ) (c : MethodId) → a ≡ actions.New c j i
      → d ≡ on_this a (settled p h arrays m choice (position_of None l a)) → ((e : ClassId) → d ≡ conducts.Throws e → ⊥) → ((e : ClassId) → d ≡ conducts.Fresh e → e ≡ p.core.string → texts k ≡ true)
      → MakesText p m → IsNoObjectBut texts (conduct_value count (method_at p m) (positions l a k d) k d)
  library_text p h arrays m choice l a d count k j i c new is normal fresh text =
      text_value p count (method_at p m) (positions l a k d) k d normal fresh
      (subst (GivesText p) (sym (is ∙ ap (λ (b : Action). on_this b (settled p h arrays m choice (position_of None l a))) new)) (text_settled p h arrays m choice (position_of None l a) text))
