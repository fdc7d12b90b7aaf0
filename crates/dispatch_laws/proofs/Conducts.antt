-- What the library makes is of classes of which there may be objects.
use Rattle.std.proofs.Common.{◌≡◌, ℕ, zero, suc, ◌-◌, ◌<◌, Bool, true, false, not, Option, Some, None, List, [], ◌∷◌, ◌++◌, map, filter, length, slice_get, refl, subst, if◌then◌else◌, ℤ, pos, negsuc, arith}
use Rattle.std.specs.List.{All, range_with_len}
use Rattle.std.proofs.lemmas.Bool.{and_parts, or_left}
use Rattle.std.proofs.lemmas.List.Elements.{All-append, All-cons, All-nil}
use Rattle.std.proofs.lemmas.Option.{get_or_from_slice_get}
use Rattle.program_model.specs.declared.kinds.ClassId.{ClassId}
use Rattle.program_model.specs.declared.kinds.MethodId.{MethodId}
use Rattle.program_model.specs.declared.kinds.MethodKind.{MethodKind}
use Rattle.program_model.specs.declared.kinds.MethodKind.TheVariants as methods
use Rattle.program_model.specs.declared.kinds.VType.{VType}
use Rattle.program_model.specs.declared.kinds.VType.TheVariants as types
use Rattle.program_model.specs.declared.program.Class.{Class}
use Rattle.program_model.specs.declared.program.Method.{Method}
use Rattle.program_model.specs.declared.program.Program.{Program}
use Rattle.program_model.specs.declared.program.Sig.{Sig}
use Rattle.program_model.specs.Lookups.{class_at, method_at}
use Rattle.program_model.specs.Overrides.{is_abstract, is_library, is_library_in}
use Rattle.agreement.specs.LibraryClasses.{GivesLibraryClasses, ThrowsMadeClasses}
use Rattle.agreement.specs.PlainForms.{may_be_made}
use Rattle.control_actions.specs.declared.action.Action.{Action}
use Rattle.control_actions.specs.declared.action.Action.TheVariants as actions
use Rattle.stub_conduct.specs.declared.choice.Choice.{Choice}
use Rattle.stub_conduct.specs.declared.choice.Conduct.{Conduct}
use Rattle.stub_conduct.specs.declared.choice.Conduct.TheVariants as conducts
use Rattle.stub_conduct.specs.Conducts as stubs
use Rattle.stub_conduct.specs.Conducts.{argument_or_null, beyond, by_way, class_of_number, class_or, conduct, conduct_in, existing_class, existing_result, existing_way, given, given_result, instead_result, is_stand_in, library_in, null_way, picked, plain, stand_ins, throw_or, thrown}
use Rattle.ledger_state.specs.Contents.{HeapContents}
use Rattle.ledger_state.specs.declared.array.ArrayObject.{ArrayObject}
use Rattle.ledger_state.specs.declared.value.Value.{Value}
use Rattle.ledger_state.specs.declared.value.Value.TheVariants as values
use Rattle.agreement.specs.Obligations.{is_library_method}
use Rattle.agreement.specs.Conducts.{argument_of, fits_type, on_this, plainly, result_in, settled, settled_by}
use Rattle.dispatch_laws.specs.MadeClasses.{HasMadeClass}

same_library : (x : Option Class) → library_in x ≡ true → is_library_in x ≡ true
same_library None is = is
same_library (Some k) is = is

module _ (p : Program) (gives : GivesLibraryClasses p) (roots : ThrowsMadeClasses p) where
  abbrev IsLibrary : ClassId → Type 0
  IsLibrary c = is_library p c ≡ true

  abbrev IsMade : ClassId → Type 0
  IsMade c = may_be_made p c ≡ true

  of_library : (c : ClassId) → IsLibrary c → IsMade c
  of_library c lib = or_left (is_library p c) (not (is_abstract p c)) lib

  abbrev Makes : Conduct → Type 0
  Makes d = HasMadeClass p d

  -- of the class of a result, where it is of one, there may be objects
  abbrev IsOfMade : Option VType → Type 0
  IsOfMade r = (c : ClassId) → r ≡ Some (types.Obj c) → IsMade c

  -- ---- classes that objects may have

  stand_in_library : (c : ClassId) (n : ℕ) → is_stand_in p c n ≡ true → IsLibrary (class_of_number n)
  stand_in_library c n is = same_library (class_at p (class_of_number n)) (and_parts _ (library_in (class_at p (class_of_number n))) (and_parts _ _ (and_parts _ (stubs.fits p (class_of_number n) c) is).0).0).1

  among_library : (c : ClassId) (ns : List ℕ) (i : ℕ) (d : ClassId) → slice_get (map class_of_number (filter (is_stand_in p c) ns)) i ≡ Some d → IsLibrary d
  among_library c [] i d is = absurd (let never : None ≡ Some d = is in cc)
  among_library c (n ∷ ns) i d is = go (is_stand_in p c n) refl (among_library c ns) i is
    where
      here : is_stand_in p c n ≡ true → ((j : ℕ) (e : ClassId) → slice_get (map class_of_number (filter (is_stand_in p c) ns)) j ≡ Some e → IsLibrary e)
          → (j : ℕ) → slice_get (class_of_number n ∷ map class_of_number (filter (is_stand_in p c) ns)) j ≡ Some d → IsLibrary d
      here one further zero same = subst IsLibrary (let some : Some (class_of_number n) ≡ Some d = same in cc) (stand_in_library c n one)
      here one further (suc j) same = further j d same

      go : (b : Bool) → is_stand_in p c n ≡ b → ((j : ℕ) (e : ClassId) → slice_get (map class_of_number (filter (is_stand_in p c) ns)) j ≡ Some e → IsLibrary e)
          → (j : ℕ) → slice_get (map class_of_number (if b then n ∷ filter (is_stand_in p c) ns else filter (is_stand_in p c) ns)) j ≡ Some d → IsLibrary d
      go true one further j same = here one further j same
      go false one further j same = further j d same

  picked_made : (c : ClassId) (z : ℤ) → IsMade c → IsMade (picked p c z)
  picked_made c (negsuc n) made = made
  picked_made c (pos zero) made = made
  picked_made c (pos (suc n)) made = go (slice_get (map class_of_number (stand_ins p c)) n) refl
    where
      go : (x : Option ClassId) → slice_get (map class_of_number (stand_ins p c)) n ≡ x → IsMade (class_or c x)
      go None is = made
      go (Some d) is = of_library d (among_library c (range_with_len 0 (stubs.class_count p)) n d is)

  -- ---- results

  given_own : (t : VType) (z : ℤ) → IsOfMade (Some t) → Makes (given p t z)
  given_own (types.Primitive t) z of = tt
  given_own (types.Obj c) z of = picked_made c z (of c refl)
  given_own t z of = tt

  result_own : (r : Option VType) (z : ℤ) → IsOfMade r → Makes (given_result p r z)
  result_own None z of = tt
  result_own (Some t) z of = given_own t z of

  argument_own : (a : Option ℕ) → Makes (argument_or_null a)
  argument_own None = tt
  argument_own (Some k) = tt

  instead_own : (s : Sig) (r : Option VType) (z : ℤ) → Makes (instead_result p s r z)
  instead_own s None z = tt
  instead_own s (Some (types.Primitive t)) z = tt
  instead_own s (Some (types.Obj c)) z = argument_own s.alias
  instead_own s (Some t) z = tt

  class_own : (owning : Bool) (a : Option ℕ) (c : ClassId) (z : ℤ) → IsMade c → Makes (existing_class p owning a c z)
  class_own false None c (pos n) made = tt
  class_own false None c (negsuc n) made = picked_made c (negsuc n) made
  class_own false (Some k) c z made = picked_made c z made
  class_own true a c z made = picked_made c z made

  existing_own : (s : Sig) (r : Option VType) (z : ℤ) → IsOfMade r → Makes (existing_result p s r z)
  existing_own s None z of = tt
  existing_own s (Some (types.Primitive t)) z of = tt
  existing_own s (Some (types.Obj c)) z of = class_own s.owning_result s.alias c z (of c refl)
  existing_own s (Some t) z of = tt

  -- ---- the ways of a method of the library

  module _ (m : Method) (own : IsMade m.class) (of : IsOfMade m.sig.result) (throws : All IsMade m.sig.throws.items) where
    plain_own : (k : MethodKind) (z : ℤ) → Makes (plain p k m z)
    plain_own methods.Ctor z = own
    plain_own methods.Instance z = result_own m.sig.result z of
    plain_own methods.Static z = result_own m.sig.result z of
    plain_own methods.Constant z = result_own m.sig.result z of

    null_own : (k : MethodKind) (z : ℤ) → Makes (null_way p k m z)
    null_own methods.Ctor z = own
    null_own methods.Instance z = instead_own m.sig m.sig.result z
    null_own methods.Static z = instead_own m.sig m.sig.result z
    null_own methods.Constant z = instead_own m.sig m.sig.result z

    existing_way_own : (k : MethodKind) (z : ℤ) → Makes (existing_way p k m z)
    existing_way_own methods.Ctor z = own
    existing_way_own methods.Instance z = existing_own m.sig m.sig.result z of
    existing_way_own methods.Static z = existing_own m.sig m.sig.result z of
    existing_way_own methods.Constant z = existing_own m.sig m.sig.result z of

    beyond_own : (k : ℕ) (z : ℤ) → Makes (beyond p m k z)
    beyond_own zero z = null_own m.kind z
    beyond_own (suc zero) z = existing_way_own m.kind z
    beyond_own (suc (suc k)) z = plain_own m.kind z

    with_roots : All IsMade (m.sig.throws.items ++ p.core.runtime_exception ∷ p.core.error ∷ [])
    with_roots =
        All-append IsMade m.sig.throws.items (p.core.runtime_exception ∷ p.core.error ∷ []) throws
        (All-cons IsMade p.core.runtime_exception (p.core.error ∷ []) (roots 1 p.core.object (omega arith))
        (All-cons IsMade p.core.error [] (roots 0 p.core.object (omega arith)) (All-nil IsMade)))

    all_thrown : (k : MethodKind) → All IsMade (thrown p k m)
    all_thrown methods.Constant = All-nil IsMade
    all_thrown methods.Instance = with_roots
    all_thrown methods.Static = with_roots
    all_thrown methods.Ctor = with_roots

    throw_own : (cs : List ClassId) → All IsMade cs → (c : Option ClassId) (i : ℕ) → slice_get cs i ≡ c → (k : ℕ) (z : ℤ) → Makes (throw_or p m c k z)
    throw_own cs all None i at k z = beyond_own (k - length (thrown p m.kind m)) z
    throw_own cs all (Some c) i at k z = picked_made c z (subst IsMade (get_or_from_slice_get cs i c c at) (all i c (inside i cs c at)))
      where
        inside : (i : ℕ) (cs : List ClassId) (c : ClassId) → slice_get cs i ≡ Some c → i < length cs
        inside i [] c at = absurd (let never : None ≡ Some c = at in cc)
        inside zero (x ∷ cs) c at = omega arith
        inside (suc i) (x ∷ cs) c at = let further = inside i cs c at in omega (arith, further)

    way_own : (k : ℕ) (z : ℤ) → Makes (by_way p m k z)
    way_own zero z = plain_own m.kind z
    way_own (suc k) z = throw_own (thrown p m.kind m) (all_thrown m.kind) (slice_get (thrown p m.kind m) k) k refl k z

  -- ---- what it comes to at a call

  method_own : (n : MethodId) (x : Option Method) → method_at p n ≡ x → is_library_method p x ≡ true → (c : Choice) → Makes (conduct_in p x c)
  method_own n None at lib c = tt
  method_own n (Some m) at lib c = way_own m (of_library m.class lib) (λ d is. of_library d (gives.results n m d at lib is)) (λ k d below. of_library _ (gives.throws n m at lib k d below)) c.way c.value

  module _ (h : HeapContents) (arrays : List ArrayObject) (n : MethodId) (c : Choice) (at : ℕ → Value) (lib : is_library_method p (method_at p n) ≡ true) where
    plainly_own : Makes (plainly p n c)
    plainly_own = method_own n (method_at p n) refl lib (record c { way = 0 })

    settled_own : (d : Conduct) → Makes d → Makes (settled_by p h arrays n (method_at p n) c at d)
    settled_own (conducts.Throws e) own = own
    settled_own (conducts.Existing k) own = go (fits_type p h arrays (result_in (method_at p n)) (values.Object k))
      where
        go : (b : Bool) → Makes (if b then conducts.Existing k else plainly p n c)
        go true = tt
        go false = plainly_own
    settled_own conducts.Argument own = go (fits_type p h arrays (result_in (method_at p n)) (argument_of (method_at p n) at))
      where
        go : (b : Bool) → Makes (if b then conducts.Argument else plainly p n c)
        go true = tt
        go false = plainly_own
    settled_own d own = own

  on_this_own : (a : Action) (d : Conduct) → Makes d → Makes (on_this a d)
  on_this_own actions.Skip d own = own
  on_this_own (actions.Super m k n) (conducts.Fresh e) own = tt
  on_this_own (actions.Super m k n) d own = own
  on_this_own a d own = own

pub library_makes_made_classes : (p : Program) → GivesLibraryClasses p → ThrowsMadeClasses p → (h : HeapContents) (arrays : List ArrayObject) (m : MethodId) (choice : Choice) (at : ℕ → Value) (a : Action)
    → is_library_method p (method_at p m) ≡ true → HasMadeClass p (on_this a (settled p h arrays m choice at))
library_makes_made_classes p gives roots h arrays m choice at a lib =
    on_this_own p gives roots a (settled p h arrays m choice at) (settled_own p gives roots h arrays m choice at lib (conduct p m choice) (method_own p gives roots m (method_at p m) refl lib choice))
