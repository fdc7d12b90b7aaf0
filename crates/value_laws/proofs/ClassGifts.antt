-- A call of the library makes an object of the class or null where the method's result is of a type under the class, or it is a constructor of such a class.
use Rattle.std.proofs.Common.{◌≡◌, ◌∙◌, ◌⊎◌, inl, inr, refl, sym, subst, ℕ, zero, suc, ◌-◌, Bool, true, false, ◌&&◌, not, nat_eq, true≢false, cond, Option, Some, None, List, [], ◌∷◌, length, map}
use Rattle.std.specs.Prelude.{slice_get, ℤ, pos, negsuc, if◌then◌else◌}
use Rattle.std.specs.List.{filter, range_with_len}
use Rattle.std.proofs.lemmas.Bool.{and_parts}
use Rattle.program_model.specs.declared.kinds.ClassId.{ClassId}
use Rattle.program_model.specs.declared.kinds.MethodId.{MethodId}
use Rattle.program_model.specs.declared.kinds.MethodKind.{MethodKind}
use Rattle.program_model.specs.declared.kinds.MethodKind.TheVariants as kinds
use Rattle.program_model.specs.declared.kinds.VType.{VType}
use Rattle.program_model.specs.declared.kinds.VType.TheVariants as types
use Rattle.program_model.specs.declared.program.Method.{Method}
use Rattle.program_model.specs.declared.program.Program.{Program}
use Rattle.program_model.specs.declared.program.Sig.{Sig}
use Rattle.program_model.specs.Hierarchy.{IsUnder, above, itself}
use Rattle.program_model.specs.Lookups.{class_at, method_at}
use Rattle.program_model.specs.SuperTests.{is_under}
use Rattle.program_model.specs.Validity.{IsOfKind, IsTypedProgram}
use Rattle.program_model.proofs.HierarchyLaws.{is_under_law}
use Rattle.control_actions.specs.declared.action.Action.{Action}
use Rattle.control_actions.specs.declared.action.Action.TheVariants as actions
use Rattle.ledger_steps.specs.Bodies.{constructs, is_constructor_kind}
use Rattle.stub_conduct.specs.declared.choice.Choice.{Choice}
use Rattle.stub_conduct.specs.declared.choice.Conduct.{Conduct}
use Rattle.stub_conduct.specs.declared.choice.Conduct.TheVariants as conducts
use Rattle.stub_conduct.specs.Conducts.{argument_or_null, beyond, by_way, class_count, class_of_number, class_or, conduct, conduct_in, existing, existing_class, existing_result, existing_way, fits, given, given_result, instead, instead_result, is_stand_in, library_in, null_way, picked, plain, stand_ins, throw_or, thrown}
use Rattle.ledger_state.specs.declared.array.ArrayObject.{ArrayObject}
use Rattle.ledger_state.specs.declared.locals.Locals.{Locals}
use Rattle.ledger_state.specs.declared.value.Value.{Value}
use Rattle.ledger_state.specs.declared.value.Value.TheVariants as values
use Rattle.ledger_state.specs.Classes.{is_instance, is_under_class}
use Rattle.ledger_state.specs.Contents.{HeapContents}
use Rattle.ledger_steps.specs.LedgerCallsCalls.{position_of}
use Rattle.ledger_steps.specs.Conducts.{argument_of, conduct_value, fits_type, made_by_new, on_this, plainly, positions, result_in, settled, settled_by}
use Rattle.dispatch_laws.specs.ClassOperands.{IsOfClass, OfClass, own_type, result_of}
use Rattle.value_laws.specs.Objects.{KeepsClasses, object_class}
use Rattle.value_laws.specs.Values.{FitsClass, HasClassUnder}

-- ---- classes

under_all : (p : Program) (c d e : ClassId) → IsUnder p c d → IsUnder p d e → IsUnder p c e
under_all p c d e (itself x) rest = rest
under_all p c d e (above x y z direct more) rest = above x y e direct (under_all p y z e more rest)

-- a class under one below it is below it
pub under_fits : (p : Program) (bound : ClassId) → IsTypedProgram p → (c d : ClassId) → is_under p c d ≡ true → IsOfClass p bound (types.Obj d) → IsOfClass p bound (types.Obj c)
under_fits p bound typed c d is to =
    (is_under_law p typed.hierarchy c bound).1 (under_all p c d bound ((is_under_law p typed.hierarchy c d).0 is) ((is_under_law p typed.hierarchy d bound).0 to))

-- what is of the class fits, as the heap goes on
pub fits_still : (p : Program) (bound : ClassId) (h k : HeapContents) (v : Value) → KeepsClasses h k → FitsClass p bound h v → FitsClass p bound k v
fits_still p bound h k values.Nothing keeps fits = tt
fits_still p bound h k values.Null keeps fits = tt
fits_still p bound h k values.Text keeps fits = tt
fits_still p bound h k (values.Number z) keeps fits = fits
fits_still p bound h k (values.Object n) keeps fits = go (object_class h n) refl fits
  where
    go : (c : Option ClassId) → object_class h n ≡ c → HasClassUnder p bound c → HasClassUnder p bound (object_class k n)
    go None is fits' = absurd fits'
    go (Some c) is fits' = subst (HasClassUnder p bound) (sym (keeps n c is)) fits'
fits_still p bound h k (values.Array a) keeps fits = tt

-- an object of a class under one below it fits
pub of_class_under : (p : Program) (bound : ClassId) → IsTypedProgram p → (h : HeapContents) (n : ℕ) (c : ClassId) → is_under_class p (object_class h n) c ≡ true → IsOfClass p bound (types.Obj c) → FitsClass p bound h (values.Object n)
of_class_under p bound typed h n c is to = go (object_class h n) is
  where
    go : (d : Option ClassId) → is_under_class p d c ≡ true → HasClassUnder p bound d
    go None is' = absurd (true≢false (sym is'))
    go (Some d) is' = under_fits p bound typed d c is' to

-- what is of a type under the class fits
pub instance_fits : (p : Program) (bound : ClassId) → IsTypedProgram p → (h : HeapContents) (arrays : List ArrayObject) (t : VType) (v : Value) → IsOfClass p bound t → is_instance p h arrays t v ≡ true → FitsClass p bound h v
instance_fits p bound typed h arrays (types.Obj c) (values.Number z) to is = absurd (true≢false (sym is))
instance_fits p bound typed h arrays (types.Obj c) (values.Object k) to is = of_class_under p bound typed h k c is to
instance_fits p bound typed h arrays (types.Obj c) values.Nothing to is = tt
instance_fits p bound typed h arrays (types.Obj c) values.Null to is = tt
instance_fits p bound typed h arrays (types.Obj c) values.Text to is = tt
instance_fits p bound typed h arrays (types.Obj c) (values.Array a) to is = tt
instance_fits p bound typed h arrays (types.Primitive k) v to is = absurd to
instance_fits p bound typed h arrays types.Str v to is = absurd to
instance_fits p bound typed h arrays (types.Arr e) v to is = absurd to
instance_fits p bound typed h arrays types.NullType v to is = absurd (true≢false (sym is))

fitting_fits : (p : Program) (bound : ClassId) → IsTypedProgram p → (h : HeapContents) (arrays : List ArrayObject) (t : Option VType) (v : Value) → OfClass p bound t → fits_type p h arrays t v ≡ true → FitsClass p bound h v
fitting_fits p bound typed h arrays None v to is = absurd to
fitting_fits p bound typed h arrays (Some t) v to is = instance_fits p bound typed h arrays t v to is

-- ---- conducts

-- the conduct gives an object of the class or null, and no object or argument that was there
abbrev GivesFresh : Program → ClassId → Conduct → Type 0
GivesFresh p bound (conducts.Fresh e) = IsOfClass p bound (types.Obj e)
GivesFresh p bound (conducts.Value z) = ⊥
GivesFresh p bound conducts.Argument = ⊥
GivesFresh p bound (conducts.Existing k) = ⊥
GivesFresh p bound (conducts.Throws e) = Unit {0}
GivesFresh p bound conducts.Null = Unit {0}
GivesFresh p bound conducts.Nothing = Unit {0}

-- or one that was there, before it is seen whether it is of the result's type. (A constructor gives none.)
abbrev MayGive : Program → ClassId → Bool → Conduct → Type 0
MayGive p bound constructor (conducts.Fresh e) = IsOfClass p bound (types.Obj e)
MayGive p bound constructor (conducts.Value z) = ⊥
MayGive p bound constructor conducts.Argument = constructor ≡ false
MayGive p bound constructor (conducts.Existing k) = constructor ≡ false
MayGive p bound constructor (conducts.Throws e) = Unit {0}
MayGive p bound constructor conducts.Null = Unit {0}
MayGive p bound constructor conducts.Nothing = Unit {0}

-- or one of that type
abbrev Gives : Program → ClassId → HeapContents → Option Method → (ℕ → Value) → Conduct → Type 0
Gives p bound h x at (conducts.Fresh e) = IsOfClass p bound (types.Obj e)
Gives p bound h x at (conducts.Value z) = ⊥
Gives p bound h x at conducts.Argument = (constructs x ≡ false) × FitsClass p bound h (argument_of x at)
Gives p bound h x at (conducts.Existing k) = FitsClass p bound h (values.Object k)
Gives p bound h x at (conducts.Throws e) = Unit {0}
Gives p bound h x at conducts.Null = Unit {0}
Gives p bound h x at conducts.Nothing = Unit {0}

fresh_gives : (p : Program) (bound : ClassId) (h : HeapContents) (x : Option Method) (at : ℕ → Value) (d : Conduct) → GivesFresh p bound d → Gives p bound h x at d
fresh_gives p bound h x at (conducts.Value z) gives = absurd gives
fresh_gives p bound h x at conducts.Argument gives = absurd gives
fresh_gives p bound h x at (conducts.Throws e) gives = tt
fresh_gives p bound h x at (conducts.Fresh e) gives = gives
fresh_gives p bound h x at conducts.Null gives = tt
fresh_gives p bound h x at (conducts.Existing k) gives = absurd gives
fresh_gives p bound h x at conducts.Nothing gives = tt

fresh_may : (p : Program) (bound : ClassId) (b : Bool) (d : Conduct) → GivesFresh p bound d → MayGive p bound b d
fresh_may p bound b (conducts.Value z) gives = absurd gives
fresh_may p bound b conducts.Argument gives = absurd gives
fresh_may p bound b (conducts.Throws e) gives = tt
fresh_may p bound b (conducts.Fresh e) gives = gives
fresh_may p bound b conducts.Null gives = tt
fresh_may p bound b (conducts.Existing k) gives = absurd gives
fresh_may p bound b conducts.Nothing gives = tt

-- a result of a type under the class, of a method; or a constructor of a class under it
abbrev pub MakesObject : Program → ClassId → Method → MethodKind → Type 0
MakesObject p bound m k = (OfClass p bound m.sig.result × (is_constructor_kind k ≡ false)) ⊎ ((is_constructor_kind k ≡ true) × OfClass p bound (own_type (Some m)))

module _ (p : Program) (bound : ClassId) (typed : IsTypedProgram p) where
  -- ---- the class that is picked

  abbrev IsNumberUnder : ClassId → ℕ → Type 0
  IsNumberUnder c n = is_under p (class_of_number n) c ≡ true

  stand_under : (c : ClassId) (n : ℕ) → is_stand_in p c n ≡ true → IsNumberUnder c n
  stand_under c n is =
      (and_parts (not (nat_eq n c.0) && library_in (class_at p (class_of_number n))) (is_under p (class_of_number n) c)
      (and_parts (not (nat_eq n c.0) && library_in (class_at p (class_of_number n)) && is_under p (class_of_number n) c) (fits p (class_of_number n) c) is).0).1

  kept_under : (c : ClassId) (xs : List ℕ) (i : ℕ) (d : ClassId) → slice_get (map class_of_number (filter (is_stand_in p c) xs)) i ≡ Some d → is_under p d c ≡ true
  kept_under c [] i d at = absurd (none_at i at)
    where
      none_at : (j : ℕ) → slice_get (map class_of_number []) j ≡ Some d → ⊥
      none_at zero is = let never : None ≡ Some d = is in cc
      none_at (suc j) is = let never : None ≡ Some d = is in cc
  kept_under c (x ∷ xs) i d at = go (is_stand_in p c x) refl i at (λ j later. kept_under c xs j d later)
    where
      go : (b : Bool) → is_stand_in p c x ≡ b → (j : ℕ) → slice_get (map class_of_number (cond b (x ∷ filter (is_stand_in p c) xs) (filter (is_stand_in p c) xs))) j ≡ Some d
          → ((k : ℕ) → slice_get (map class_of_number (filter (is_stand_in p c) xs)) k ≡ Some d → is_under p d c ≡ true) → is_under p d c ≡ true
      go false other j at' rest = rest j at'
      go true is zero at' rest = subst (λ (e : ClassId). is_under p e c ≡ true) (let one : class_of_number x ≡ d = (let both : Some (class_of_number x) ≡ Some d = at' in cc) in one) (stand_under c x is)
      go true is (suc j) at' rest = rest j at'

  picked_fits : (c : ClassId) (v : ℤ) → IsOfClass p bound (types.Obj c) → IsOfClass p bound (types.Obj (picked p c v))
  picked_fits c (negsuc n) to = to
  picked_fits c (pos zero) to = to
  picked_fits c (pos (suc i)) to = go (slice_get (map class_of_number (stand_ins p c)) i) refl
    where
      go : (x : Option ClassId) → slice_get (map class_of_number (stand_ins p c)) i ≡ x → IsOfClass p bound (types.Obj (class_or c x))
      go None at = to
      go (Some d) at = under_fits p bound typed d c (kept_under c (range_with_len 0 (class_count p)) i d at) to

  -- ---- by the type of the result

  of_type : (t : VType) (v : ℤ) → IsOfClass p bound t → GivesFresh p bound (given p t v)
  of_type (types.Primitive k) v to = absurd to
  of_type types.Str v to = absurd to
  of_type (types.Arr e) v to = absurd to
  of_type (types.Obj c) v to = picked_fits c v to
  of_type types.NullType v to = tt

  of_result : (t : Option VType) (v : ℤ) → OfClass p bound t → GivesFresh p bound (given_result p t v)
  of_result None v to = absurd to
  of_result (Some t) v to = of_type t v to

  argument_or_none : (alias : Option ℕ) → MayGive p bound false (argument_or_null alias)
  argument_or_none None = tt
  argument_or_none (Some k) = refl

  instead_of_type : (alias : Option ℕ) (t : VType) (v : ℤ) → IsOfClass p bound t → MayGive p bound false (instead p alias t v)
  instead_of_type alias (types.Primitive k) v to = absurd to
  instead_of_type alias types.Str v to = absurd to
  instead_of_type alias (types.Arr e) v to = absurd to
  instead_of_type alias (types.Obj c) v to = argument_or_none alias
  instead_of_type alias types.NullType v to = tt

  instead_of : (s : Sig) (t : Option VType) (v : ℤ) → OfClass p bound t → MayGive p bound false (instead_result p s t v)
  instead_of s None v to = absurd to
  instead_of s (Some t) v to = instead_of_type s.alias t v to

  existing_of_class : (owning : Bool) (alias : Option ℕ) (c : ClassId) (v : ℤ) → IsOfClass p bound (types.Obj c) → MayGive p bound false (existing_class p owning alias c v)
  existing_of_class false None c (pos n) to = refl
  existing_of_class false None c (negsuc n) to = picked_fits c (negsuc n) to
  existing_of_class false (Some k) c v to = picked_fits c v to
  existing_of_class true alias c v to = picked_fits c v to

  existing_of_type : (s : Sig) (t : VType) (v : ℤ) → IsOfClass p bound t → MayGive p bound false (existing p s t v)
  existing_of_type s (types.Primitive k) v to = absurd to
  existing_of_type s types.Str v to = absurd to
  existing_of_type s (types.Arr e) v to = absurd to
  existing_of_type s (types.Obj c) v to = existing_of_class s.owning_result s.alias c v to
  existing_of_type s types.NullType v to = tt

  existing_of : (s : Sig) (t : Option VType) (v : ℤ) → OfClass p bound t → MayGive p bound false (existing_result p s t v)
  existing_of s None v to = absurd to
  existing_of s (Some t) v to = existing_of_type s t v to

  -- ---- by the kind of the method

  module _ (m : Method) where
    result_here : (k : MethodKind) → is_constructor_kind k ≡ false → MakesObject p bound m k → OfClass p bound m.sig.result
    result_here k other (inl to) = to.0
    result_here k other (inr constructor) = absurd (true≢false (sym constructor.0 ∙ other))

    own_here : (k : MethodKind) → is_constructor_kind k ≡ true → MakesObject p bound m k → IsOfClass p bound (types.Obj m.class)
    own_here k is (inl to) = absurd (true≢false (sym is ∙ to.1))
    own_here k is (inr constructor) = constructor.1

    plainly_of : (k : MethodKind) (v : ℤ) → MakesObject p bound m k → GivesFresh p bound (plain p k m v)
    plainly_of kinds.Ctor v makes = own_here kinds.Ctor refl makes
    plainly_of kinds.Instance v makes = of_result m.sig.result v (result_here kinds.Instance refl makes)
    plainly_of kinds.Static v makes = of_result m.sig.result v (result_here kinds.Static refl makes)
    plainly_of kinds.Constant v makes = of_result m.sig.result v (result_here kinds.Constant refl makes)

    null_of : (k : MethodKind) (v : ℤ) → MakesObject p bound m k → MayGive p bound (is_constructor_kind k) (null_way p k m v)
    null_of kinds.Ctor v makes = own_here kinds.Ctor refl makes
    null_of kinds.Instance v makes = instead_of m.sig m.sig.result v (result_here kinds.Instance refl makes)
    null_of kinds.Static v makes = instead_of m.sig m.sig.result v (result_here kinds.Static refl makes)
    null_of kinds.Constant v makes = instead_of m.sig m.sig.result v (result_here kinds.Constant refl makes)

    there_of : (k : MethodKind) (v : ℤ) → MakesObject p bound m k → MayGive p bound (is_constructor_kind k) (existing_way p k m v)
    there_of kinds.Ctor v makes = own_here kinds.Ctor refl makes
    there_of kinds.Instance v makes = existing_of m.sig m.sig.result v (result_here kinds.Instance refl makes)
    there_of kinds.Static v makes = existing_of m.sig m.sig.result v (result_here kinds.Static refl makes)
    there_of kinds.Constant v makes = existing_of m.sig m.sig.result v (result_here kinds.Constant refl makes)

    module _ (makes : MakesObject p bound m m.kind) where
      beyond_of : (k : ℕ) (v : ℤ) → MayGive p bound (is_constructor_kind m.kind) (beyond p m k v)
      beyond_of zero v = null_of m.kind v makes
      beyond_of (suc zero) v = there_of m.kind v makes
      beyond_of (suc (suc k)) v = fresh_may p bound (is_constructor_kind m.kind) (plain p m.kind m v) (plainly_of m.kind v makes)

      throws_of : (c : Option ClassId) (k : ℕ) (v : ℤ) → MayGive p bound (is_constructor_kind m.kind) (throw_or p m c k v)
      throws_of (Some c) k v = tt
      throws_of None k v = beyond_of (k - length (thrown p m.kind m)) v

      by_way_of : (way : ℕ) (v : ℤ) → MayGive p bound (is_constructor_kind m.kind) (by_way p m way v)
      by_way_of zero v = fresh_may p bound (is_constructor_kind m.kind) (plain p m.kind m v) (plainly_of m.kind v makes)
      by_way_of (suc k) v = throws_of (slice_get (thrown p m.kind m) k) k v

  -- ---- by a choice

  -- what the library makes is an object of the class or null
  abbrev pub IsMaking : Option Method → Type 0
  IsMaking None = ⊥
  IsMaking (Some m) = MakesObject p bound m m.kind

  conduct_gives : (x : Option Method) (c : Choice) → IsMaking x → MayGive p bound (constructs x) (conduct_in p x c)
  conduct_gives None c makes = absurd makes
  conduct_gives (Some m) c makes = by_way_of m makes c.way c.value

  plain_gives : (x : Option Method) (c : Choice) → IsMaking x → GivesFresh p bound (conduct_in p x (record c { way = 0 }))
  plain_gives None c makes = absurd makes
  plain_gives (Some m) c makes = plainly_of m m.kind c.value makes

  -- where it is no constructor, the result is of a type under the class
  pub made_result : (x : Option Method) → IsMaking x → constructs x ≡ false → OfClass p bound (result_in x)
  made_result None makes other = absurd makes
  made_result (Some m) makes other = result_here m m.kind other makes

  module _ (h : HeapContents) (arrays : List ArrayObject) (m : MethodId) (makes : IsMaking (method_at p m)) (c : Choice) (at : ℕ → Value) where
    where_it_fits : (b : Bool) (d : Conduct) → (b ≡ true → Gives p bound h (method_at p m) at d) → Gives p bound h (method_at p m) at (if b then d else plainly p m c)
    where_it_fits true d gives = gives refl
    where_it_fits false d gives = fresh_gives p bound h (method_at p m) at (plainly p m c) (plain_gives (method_at p m) c makes)

    settles : (d : Conduct) → MayGive p bound (constructs (method_at p m)) d → Gives p bound h (method_at p m) at (settled_by p h arrays m (method_at p m) c at d)
    settles (conducts.Existing k) gives =
        where_it_fits (fits_type p h arrays (result_in (method_at p m)) (values.Object k)) (conducts.Existing k)
        (λ fits'. fitting_fits p bound typed h arrays (result_in (method_at p m)) (values.Object k) (made_result (method_at p m) makes gives) fits')
    settles conducts.Argument gives =
        where_it_fits (fits_type p h arrays (result_in (method_at p m)) (argument_of (method_at p m) at)) conducts.Argument
        (λ fits'. (gives, fitting_fits p bound typed h arrays (result_in (method_at p m)) (argument_of (method_at p m) at) (made_result (method_at p m) makes gives) fits'))
    settles (conducts.Throws e) gives = tt
    settles (conducts.Fresh e) gives = gives
    settles conducts.Null gives = tt
    settles (conducts.Value z) gives = absurd gives
    settles conducts.Nothing gives = tt

    settled_gives : Gives p bound h (method_at p m) at (settled p h arrays m c at)
    settled_gives = settles (conduct p m c) (conduct_gives (method_at p m) c makes)

  on_this_gives : (h : HeapContents) (x : Option Method) (at : ℕ → Value) (a : Action) (d : Conduct) → Gives p bound h x at d → Gives p bound h x at (on_this a d)
  on_this_gives h x at (actions.Super m d n) (conducts.Fresh e) gives = tt
  on_this_gives h x at (actions.Super m d n) conducts.Null gives = tt
  on_this_gives h x at (actions.Super m d n) (conducts.Existing j) gives = gives
  on_this_gives h x at (actions.Super m d n) c gives = gives
  on_this_gives h x at actions.Skip d gives = gives
  on_this_gives h x at a d gives = gives

  -- a constructor has no result
  pub no_constructor : (m : MethodId) → OfClass p bound (result_of (method_at p m)) → constructs (method_at p m) ≡ false
  no_constructor m to = go (method_at p m) refl to
    where
      by_kind : (k : MethodKind) (s : Sig) → IsOfKind k s → OfClass p bound s.result → is_constructor_kind k ≡ false
      by_kind kinds.Ctor s none to' = absurd (subst (OfClass p bound) none to')
      by_kind kinds.Instance s none to' = refl
      by_kind kinds.Static s none to' = refl
      by_kind kinds.Constant s none to' = refl

      go : (x : Option Method) → method_at p m ≡ x → OfClass p bound (result_of x) → constructs x ≡ false
      go None at to' = refl
      go (Some x) at to' = by_kind x.kind x.sig (typed.methods m x at).kind to'

  -- a result of a type under the class, and a constructor of a class under it, make an object of the class or null
  pub result_makes : (m : MethodId) → OfClass p bound (result_of (method_at p m)) → IsMaking (method_at p m)
  result_makes m to = go (method_at p m) to (no_constructor m to)
    where
      go : (x : Option Method) → OfClass p bound (result_of x) → constructs x ≡ false → IsMaking x
      go None to' other = absurd to'
      go (Some x) to' other = inl (to', other)

  pub constructor_makes : (x : Option Method) → constructs x ≡ true → OfClass p bound (own_type x) → IsMaking x
  constructor_makes None is to = absurd to
  constructor_makes (Some m) is to = inr (is, to)

-- ---- the value

module _ (p : Program) (bound : ClassId) (h g : HeapContents) (keeps : KeepsClasses h g) (count : ℕ) (m : Option Method) (l : Locals) (a : Action) (k : ℕ) where
  argument_fits : (made : Option ℕ) → made ≡ None → FitsClass p bound h (argument_of m (position_of None l a)) → FitsClass p bound g (argument_of m (position_of made l a))
  argument_fits made none fits' = subst (λ (o : Option ℕ). FitsClass p bound g (argument_of m (position_of o l a))) (sym none) (fits_still p bound h g (argument_of m (position_of None l a)) keeps fits')

  -- only a constructor makes the object of a `new`
  none_made : (o : Option ℕ) → ((c : ℕ) → o ≡ Some c → constructs m ≡ true) → constructs m ≡ false → o ≡ None
  none_made None made other = refl
  none_made (Some c) made other = absurd (true≢false (sym (made c refl) ∙ other))

  value_fits : (d : Conduct) → Gives p bound h m (position_of None l a) d → ((c : ℕ) → made_by_new a k d ≡ Some c → constructs m ≡ true) → ((e : ClassId) → d ≡ conducts.Throws e → ⊥)
      → ((e : ClassId) → d ≡ conducts.Fresh e → object_class g k ≡ Some e) → FitsClass p bound g (conduct_value count m (positions l a k d) k d)
  value_fits (conducts.Throws e) gives made normal fresh = absurd (normal e refl)
  value_fits (conducts.Fresh e) gives made normal fresh = subst (HasClassUnder p bound) (sym (fresh e refl)) gives
  value_fits conducts.Null gives made normal fresh = tt
  value_fits (conducts.Existing j) gives made normal fresh = fits_still p bound h g (values.Object j) keeps gives
  value_fits conducts.Argument gives made normal fresh = argument_fits (made_by_new a k conducts.Argument) (none_made (made_by_new a k conducts.Argument) made gives.0) gives.1
  value_fits (conducts.Value z) gives made normal fresh = absurd gives
  value_fits conducts.Nothing gives made normal fresh = tt

-- `g` is the heap after the call
pub library_value_fits : (p : Program) (bound : ClassId) (typed : IsTypedProgram p) (h g : HeapContents) (arrays : List ArrayObject) (m : MethodId) (choice : Choice) (l : Locals) (a : Action) (d : Conduct) (count k : ℕ)
    → d ≡ on_this a (settled p h arrays m choice (position_of None l a)) → IsMaking p bound typed (method_at p m) → KeepsClasses h g → ((c : ℕ) → made_by_new a k d ≡ Some c → constructs (method_at p m) ≡ true)
    → ((e : ClassId) → d ≡ conducts.Throws e → ⊥) → ((e : ClassId) → d ≡ conducts.Fresh e → object_class g k ≡ Some e) → FitsClass p bound g (conduct_value count (method_at p m) (positions l a k d) k d)
library_value_fits p bound typed h g arrays m choice l a d count k is makes keeps made normal fresh =
    value_fits p bound h g keeps count (method_at p m) l a k d
    (subst (Gives p bound h (method_at p m) (position_of None l a)) (sym is)
    (on_this_gives p bound typed h (method_at p m) (position_of None l a) a (settled p h arrays m choice (position_of None l a)) (settled_gives p bound typed h arrays m makes choice (position_of None l a))))
    made normal fresh
