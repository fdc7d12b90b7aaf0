-- What the library makes fits what its signature declares.
use Rattle.std.proofs.Common.{◌≡◌, ℕ, zero, suc, ◌-◌, Bool, true, false, Option, Some, None, List, [], ◌∷◌, map, filter, length, slice_get, refl, sym, ap, ◌∙◌, subst, if◌then◌else◌, ℤ, pos, negsuc}
use Rattle.std.specs.List.{range_with_len}
use Rattle.std.proofs.lemmas.Bool.{and_parts}
use Rattle.program_model.specs.declared.kinds.ClassId.{ClassId}
use Rattle.program_model.specs.declared.kinds.MethodId.{MethodId}
use Rattle.program_model.specs.declared.kinds.MethodKind.{MethodKind}
use Rattle.program_model.specs.declared.kinds.MethodKind.TheVariants as methods
use Rattle.program_model.specs.declared.kinds.VType.{VType}
use Rattle.program_model.specs.declared.kinds.VType.TheVariants as types
use Rattle.program_model.specs.declared.program.Class.{Class}
use Rattle.program_model.specs.declared.program.Method.{Method}
use Rattle.program_model.specs.declared.program.Program.{Program}
use Rattle.program_model.specs.declared.program.Sig.{Sig}
use Rattle.program_model.specs.Lookups.{class_at, method_at}
use Rattle.ledger_obligations.specs.Bodies.{is_constructor_kind}
use Rattle.ledger_obligations.specs.MustCallSets as sets
use Rattle.ledger_obligations.specs.MustCallSets.{Names, fits, must_of}
use Rattle.rlc_base.proofs.SetLaws.{within_self}
use Rattle.std.specs.FinSet as set
use Rattle.control_actions.specs.declared.action.Action.{Action}
use Rattle.control_actions.specs.declared.action.Action.TheVariants as actions
use Rattle.stub_conduct.specs.declared.choice.Choice.{Choice}
use Rattle.stub_conduct.specs.declared.choice.Conduct.{Conduct}
use Rattle.stub_conduct.specs.declared.choice.Conduct.TheVariants as conducts
use Rattle.stub_conduct.specs.Conducts as stubs
use Rattle.stub_conduct.specs.Conducts.{argument_or_null, beyond, by_way, class_of_number, class_or, conduct, conduct_in, existing_class, existing_result, existing_way, given, given_result, instead_result, is_stand_in, null_way, picked, plain, stand_ins, throw_or, thrown}
use Rattle.ledger_state.specs.Contents.{HeapContents}
use Rattle.ledger_state.specs.declared.array.ArrayObject.{ArrayObject}
use Rattle.ledger_state.specs.declared.value.Value.{Value}
use Rattle.ledger_state.specs.declared.value.Value.TheVariants as values
use Rattle.heap_laws.specs.Fitting.{FitsKind, FitsMethod}
use Rattle.ledger_steps.specs.Conducts.{argument_of, fits_type, on_this, plainly, result_in, settled, settled_by}

same_must : (x : Option Class) → stubs.must_in x ≡ sets.must_in x
same_must None = refl
same_must (Some k) = refl

same_fits : (p : Program) (c d : ClassId) → stubs.fits p c d ≡ true → fits p c d ≡ true
same_fits p c d is =
    ap (λ (s : Names). set.is_subset s (must_of p d)) (sym (same_must (class_at p c)))
    ∙ ap (λ (s : Names). set.is_subset (stubs.must_in (class_at p c)) s) (sym (same_must (class_at p d))) ∙ is

stand_in_fits : (p : Program) (c : ClassId) (n : ℕ) → is_stand_in p c n ≡ true → fits p (class_of_number n) c ≡ true
stand_in_fits p c n is = same_fits p (class_of_number n) c (and_parts _ (stubs.fits p (class_of_number n) c) is).1

among_fits : (p : Program) (c : ClassId) (ns : List ℕ) (i : ℕ) (d : ClassId) → slice_get (map class_of_number (filter (is_stand_in p c) ns)) i ≡ Some d → fits p d c ≡ true
among_fits p c [] i d is = absurd (let never : None ≡ Some d = is in cc)
among_fits p c (n ∷ ns) i d is = go (is_stand_in p c n) refl (among_fits p c ns) i is
  where
    here : is_stand_in p c n ≡ true → ((j : ℕ) (e : ClassId) → slice_get (map class_of_number (filter (is_stand_in p c) ns)) j ≡ Some e → fits p e c ≡ true)
        → (j : ℕ) → slice_get (class_of_number n ∷ map class_of_number (filter (is_stand_in p c) ns)) j ≡ Some d → fits p d c ≡ true
    here one further zero same = subst (λ (e : ClassId). fits p e c ≡ true) (let some : Some (class_of_number n) ≡ Some d = same in cc) (stand_in_fits p c n one)
    here one further (suc j) same = further j d same

    go : (b : Bool) → is_stand_in p c n ≡ b → ((j : ℕ) (e : ClassId) → slice_get (map class_of_number (filter (is_stand_in p c) ns)) j ≡ Some e → fits p e c ≡ true)
        → (j : ℕ) → slice_get (map class_of_number (if b then n ∷ filter (is_stand_in p c) ns else filter (is_stand_in p c) ns)) j ≡ Some d → fits p d c ≡ true
    go true one further j same = here one further j same
    go false one further j same = further j d same

picked_fits : (p : Program) (c : ClassId) (z : ℤ) → fits p (picked p c z) c ≡ true
picked_fits p c (negsuc n) = within_self (must_of p c)
picked_fits p c (pos zero) = within_self (must_of p c)
picked_fits p c (pos (suc n)) = go (slice_get (map class_of_number (stand_ins p c)) n) refl
  where
    go : (x : Option ClassId) → slice_get (map class_of_number (stand_ins p c)) n ≡ x → fits p (class_or c x) c ≡ true
    go None is = within_self (must_of p c)
    go (Some d) is = among_fits p c (range_with_len 0 (stubs.class_count p)) n d is

-- what is made fits the result
abbrev pub FitsResult : Program → Option VType → Conduct → Type 0
FitsResult p r (conducts.Fresh e) = (c : ClassId) × (r ≡ Some (types.Obj c)) × (fits p e c ≡ true)
FitsResult p r d = Unit {0}

given_fits : (p : Program) (t : VType) (z : ℤ) → FitsResult p (Some t) (given p t z)
given_fits p (types.Primitive t) z = tt
given_fits p (types.Obj c) z = (c, refl, picked_fits p c z)
given_fits p t z = tt

result_fits : (p : Program) (r : Option VType) (z : ℤ) → FitsResult p r (given_result p r z)
result_fits p None z = tt
result_fits p (Some t) z = given_fits p t z

no_kind : (p : Program) (k : MethodKind) (m : Method) (d : Conduct) → is_constructor_kind k ≡ false → FitsResult p m.sig.result d → FitsKind p k m d
no_kind p k m (conducts.Throws e) is fits' = tt
no_kind p k m (conducts.Fresh e) is fits' = rw is fits'
no_kind p k m d is fits' = tt

plain_fits : (p : Program) (k : MethodKind) (m : Method) (z : ℤ) → FitsKind p k m (plain p k m z)
plain_fits p methods.Ctor m z = refl
plain_fits p methods.Instance m z = no_kind p methods.Instance m (given_result p m.sig.result z) refl (result_fits p m.sig.result z)
plain_fits p methods.Static m z = no_kind p methods.Static m (given_result p m.sig.result z) refl (result_fits p m.sig.result z)
plain_fits p methods.Constant m z = no_kind p methods.Constant m (given_result p m.sig.result z) refl (result_fits p m.sig.result z)

argument_fits : (p : Program) (r : Option VType) (a : Option ℕ) → FitsResult p r (argument_or_null a)
argument_fits p r None = tt
argument_fits p r (Some k) = tt

instead_fits : (p : Program) (s : Sig) (r : Option VType) (z : ℤ) → FitsResult p r (instead_result p s r z)
instead_fits p s None z = tt
instead_fits p s (Some (types.Primitive t)) z = tt
instead_fits p s (Some (types.Obj c)) z = argument_fits p (Some (types.Obj c)) s.alias
instead_fits p s (Some t) z = tt

null_fits : (p : Program) (k : MethodKind) (m : Method) (z : ℤ) → FitsKind p k m (null_way p k m z)
null_fits p methods.Ctor m z = refl
null_fits p methods.Instance m z = no_kind p methods.Instance m (instead_result p m.sig m.sig.result z) refl (instead_fits p m.sig m.sig.result z)
null_fits p methods.Static m z = no_kind p methods.Static m (instead_result p m.sig m.sig.result z) refl (instead_fits p m.sig m.sig.result z)
null_fits p methods.Constant m z = no_kind p methods.Constant m (instead_result p m.sig m.sig.result z) refl (instead_fits p m.sig m.sig.result z)

class_fits : (p : Program) (owning : Bool) (a : Option ℕ) (c : ClassId) (z : ℤ) → FitsResult p (Some (types.Obj c)) (existing_class p owning a c z)
class_fits p false None c (pos n) = tt
class_fits p false None c (negsuc n) = (c, refl, picked_fits p c (negsuc n))
class_fits p false (Some k) c z = (c, refl, picked_fits p c z)
class_fits p true a c z = (c, refl, picked_fits p c z)

existing_fits : (p : Program) (s : Sig) (r : Option VType) (z : ℤ) → FitsResult p r (existing_result p s r z)
existing_fits p s None z = tt
existing_fits p s (Some (types.Primitive t)) z = tt
existing_fits p s (Some (types.Obj c)) z = class_fits p s.owning_result s.alias c z
existing_fits p s (Some t) z = tt

existing_way_fits : (p : Program) (k : MethodKind) (m : Method) (z : ℤ) → FitsKind p k m (existing_way p k m z)
existing_way_fits p methods.Ctor m z = refl
existing_way_fits p methods.Instance m z = no_kind p methods.Instance m (existing_result p m.sig m.sig.result z) refl (existing_fits p m.sig m.sig.result z)
existing_way_fits p methods.Static m z = no_kind p methods.Static m (existing_result p m.sig m.sig.result z) refl (existing_fits p m.sig m.sig.result z)
existing_way_fits p methods.Constant m z = no_kind p methods.Constant m (existing_result p m.sig m.sig.result z) refl (existing_fits p m.sig m.sig.result z)

beyond_fits : (p : Program) (m : Method) (k : ℕ) (z : ℤ) → FitsKind p m.kind m (beyond p m k z)
beyond_fits p m zero z = null_fits p m.kind m z
beyond_fits p m (suc zero) z = existing_way_fits p m.kind m z
beyond_fits p m (suc (suc k)) z = plain_fits p m.kind m z

throw_fits : (p : Program) (m : Method) (c : Option ClassId) (k : ℕ) (z : ℤ) → FitsKind p m.kind m (throw_or p m c k z)
throw_fits p m None k z = beyond_fits p m (k - length (thrown p m.kind m)) z
throw_fits p m (Some c) k z = tt

way_fits : (p : Program) (m : Method) (k : ℕ) (z : ℤ) → FitsKind p m.kind m (by_way p m k z)
way_fits p m zero z = plain_fits p m.kind m z
way_fits p m (suc k) z = throw_fits p m (slice_get (thrown p m.kind m) k) k z

conduct_fits : (p : Program) (x : Option Method) (c : Choice) → FitsMethod p x (conduct_in p x c)
conduct_fits p None c = tt
conduct_fits p (Some m) c = way_fits p m c.way c.value

unmade : (p : Program) (x : Option Method) (d : Conduct) → ((e : ClassId) → d ≡ conducts.Fresh e → ⊥) → FitsMethod p x d
unmade p None (conducts.Throws e) never = tt
unmade p None (conducts.Fresh e) never = never e refl
unmade p None d never = tt
unmade p (Some m) (conducts.Throws e) never = tt
unmade p (Some m) (conducts.Fresh e) never = absurd (never e refl)
unmade p (Some m) d never = tt

settled_by_fits : (p : Program) (h : HeapContents) (arrays : List ArrayObject) (m : MethodId) (c : Choice) (at : ℕ → Value) (d : Conduct) → FitsMethod p (method_at p m) d
    → FitsMethod p (method_at p m) (settled_by p h arrays m (method_at p m) c at d)
settled_by_fits p h arrays m c at (conducts.Throws e) fits' = fits'
settled_by_fits p h arrays m c at (conducts.Existing k) fits' = go (fits_type p h arrays (result_in (method_at p m)) (values.Object k))
  where
    go : (b : Bool) → FitsMethod p (method_at p m) (if b then conducts.Existing k else plainly p m c)
    go true = unmade p (method_at p m) (conducts.Existing k) (λ e is. cc)
    go false = conduct_fits p (method_at p m) (record c { way = 0 })
settled_by_fits p h arrays m c at conducts.Argument fits' = go (fits_type p h arrays (result_in (method_at p m)) (argument_of (method_at p m) at))
  where
    go : (b : Bool) → FitsMethod p (method_at p m) (if b then conducts.Argument else plainly p m c)
    go true = unmade p (method_at p m) conducts.Argument (λ e is. cc)
    go false = conduct_fits p (method_at p m) (record c { way = 0 })
settled_by_fits p h arrays m c at d fits' = fits'

settled_fits : (p : Program) (h : HeapContents) (arrays : List ArrayObject) (m : MethodId) (c : Choice) (at : ℕ → Value) → FitsMethod p (method_at p m) (settled p h arrays m c at)
settled_fits p h arrays m c at = settled_by_fits p h arrays m c at (conduct p m c) (conduct_fits p (method_at p m) c)

on_this_fits : (p : Program) (x : Option Method) (a : Action) (d : Conduct) → FitsMethod p x d → FitsMethod p x (on_this a d)
on_this_fits p x actions.Skip d fits' = fits'
on_this_fits p x (actions.Super m k n) (conducts.Fresh e) fits' = unmade p x conducts.Nothing (λ c is. cc)
on_this_fits p x (actions.Super m k n) d fits' = fits'
on_this_fits p x a d fits' = fits'

pub made_object_fits : (p : Program) (h : HeapContents) (arrays : List ArrayObject) (m : MethodId) (choice : Choice) (at : ℕ → Value) (a : Action)
    → FitsMethod p (method_at p m) (on_this a (settled p h arrays m choice at))
made_object_fits p h arrays m choice at a = on_this_fits p (method_at p m) a (settled p h arrays m choice at) (settled_fits p h arrays m choice at)
