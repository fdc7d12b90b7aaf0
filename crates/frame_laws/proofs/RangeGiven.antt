-- What a call of the library gives is in range.
use Rattle.std.proofs.Common.{◌≡◌, ℕ, zero, suc, ◌-◌, ◌≤◌, length, slice_get, Bool, true, false, Option, Some, None, List, refl, sym, subst, true≢false, if◌then◌else◌}
use Rattle.std.specs.Prelude.{ℤ}
use Rattle.program_model.specs.declared.kinds.ClassId.{ClassId}
use Rattle.program_model.specs.declared.kinds.MethodId.{MethodId}
use Rattle.program_model.specs.declared.kinds.MethodKind.{MethodKind}
use Rattle.program_model.specs.declared.kinds.MethodKind.TheVariants as methods
use Rattle.program_model.specs.declared.kinds.VType.{VType}
use Rattle.program_model.specs.declared.kinds.VType.TheVariants as types
use Rattle.program_model.specs.declared.program.Method.{Method}
use Rattle.program_model.specs.declared.program.Program.{Program}
use Rattle.program_model.specs.Lookups.{method_at}
use Rattle.control_actions.specs.declared.action.Action.{Action}
use Rattle.control_actions.specs.declared.action.Action.TheVariants as actions
use Rattle.ledger_steps.specs.Bodies.{constructs, is_constructor_kind}
use Rattle.stub_conduct.specs.Conducts.{beyond, by_way, conduct, conduct_in, existing_way, given, given_result, null_way, plain, throw_or, thrown}
use Rattle.stub_conduct.specs.declared.choice.Choice.{Choice}
use Rattle.stub_conduct.specs.declared.choice.Conduct.{Conduct}
use Rattle.stub_conduct.specs.declared.choice.Conduct.TheVariants as conducts
use Rattle.ledger_state.specs.Classes.{class_in, is_under_class}
use Rattle.ledger_state.specs.Contents.{HeapContents}
use Rattle.ledger_state.specs.Heaps.{next_number, object_at}
use Rattle.ledger_state.specs.Values.{number_of}
use Rattle.ledger_state.specs.declared.array.ArrayObject.{ArrayObject}
use Rattle.ledger_state.specs.declared.object.Object.{Object}
use Rattle.ledger_state.specs.declared.value.Value.{Value}
use Rattle.ledger_state.specs.declared.value.Value.TheVariants as values
use Rattle.ledger_state.specs.declared.locals.Locals.{Locals}
use Rattle.ledger_steps.specs.LedgerCallsCalls.{alias_position, operand_of, receiver_or}
use Rattle.ledger_steps.specs.Conducts.{argument_of, conduct_value, fits_type, given_value, made_by_new, on_this, plainly, positions, result_in, settled, settled_by, value_at}
use Rattle.agreement.proofs.ObjectLaws.{in_range}
use Rattle.agreement.specs.Ranges.{IsInRange, IsNumber, LocalsInRange}
use Rattle.frame_laws.proofs.RangeValues.{none_in_range, nothing_in_range, operand_in_range, value_stays}

-- ---- an existing object is there

given_no_existing : (p : Program) (t : VType) (z : ℤ) (j : ℕ) → given p t z ≡ conducts.Existing j → ⊥
given_no_existing p (types.Primitive t) z j is = cc
given_no_existing p types.Str z j is = cc
given_no_existing p (types.Arr e) z j is = cc
given_no_existing p (types.Obj c) z j is = cc
given_no_existing p types.NullType z j is = cc

result_no_existing : (p : Program) (t : Option VType) (z : ℤ) (j : ℕ) → given_result p t z ≡ conducts.Existing j → ⊥
result_no_existing p None z j is = cc
result_no_existing p (Some t) z j is = given_no_existing p t z j is

plain_no_existing : (p : Program) (k : MethodKind) (m : Method) (z : ℤ) (j : ℕ) → plain p k m z ≡ conducts.Existing j → ⊥
plain_no_existing p methods.Ctor m z j is = cc
plain_no_existing p methods.Instance m z j is = result_no_existing p m.sig.result z j is
plain_no_existing p methods.Static m z j is = result_no_existing p m.sig.result z j is
plain_no_existing p methods.Constant m z j is = result_no_existing p m.sig.result z j is

plainly_no_existing : (p : Program) (m : MethodId) (c : Choice) (j : ℕ) → plainly p m c ≡ conducts.Existing j → ⊥
plainly_no_existing p m c j is = go (method_at p m) is
  where
    go : (x : Option Method) → conduct_in p x (record c { way = 0 }) ≡ conducts.Existing j → ⊥
    go None same = cc
    go (Some x) same = plain_no_existing p x.kind x c.value j same

instance_there : (p : Program) (h : HeapContents) (arrays : List ArrayObject) (t : Option VType) (k : ℕ) → fits_type p h arrays t (values.Object k) ≡ true → IsNumber h k
instance_there p h arrays None k is = absurd (true≢false (sym is))
instance_there p h arrays (Some (types.Obj c)) k is = go (object_at h k) refl is
  where
    go : (x : Option Object) → object_at h k ≡ x → is_under_class p (class_in x) c ≡ true → IsNumber h k
    go None at same = absurd (true≢false (sym same))
    go (Some x) at same = in_range h k x at
instance_there p h arrays (Some (types.Primitive t)) k is = absurd (true≢false (sym is))
instance_there p h arrays (Some types.Str) k is = absurd (true≢false (sym is))
instance_there p h arrays (Some (types.Arr e)) k is = absurd (true≢false (sym is))
instance_there p h arrays (Some types.NullType) k is = absurd (true≢false (sym is))

module _ (p : Program) (h : HeapContents) (arrays : List ArrayObject) (m : MethodId) (x : Option Method) (c : Choice) (at : ℕ → Value) (j : ℕ) where
  by_there : (d : Conduct) → settled_by p h arrays m x c at d ≡ conducts.Existing j → IsNumber h j
  by_there conducts.Null is = absurd (let never : conducts.Null ≡ conducts.Existing j = is in cc)
  by_there (conducts.Existing k) is = go (fits_type p h arrays (result_in x) (values.Object k)) refl is
    where
      go : (b : Bool) → fits_type p h arrays (result_in x) (values.Object k) ≡ b → (if b then conducts.Existing k else plainly p m c) ≡ conducts.Existing j → IsNumber h j
      go true fits same = subst (IsNumber h) (let both : conducts.Existing k ≡ conducts.Existing j = same in (let one : k ≡ j = cc in one)) (instance_there p h arrays (result_in x) k fits)
      go false fits same = absurd (plainly_no_existing p m c j same)
  by_there conducts.Argument is = go (fits_type p h arrays (result_in x) (argument_of x at)) is
    where
      go : (b : Bool) → (if b then conducts.Argument else plainly p m c) ≡ conducts.Existing j → IsNumber h j
      go true same = absurd (let never : conducts.Argument ≡ conducts.Existing j = same in cc)
      go false same = absurd (plainly_no_existing p m c j same)
  by_there (conducts.Throws e) is = absurd (let never : conducts.Throws e ≡ conducts.Existing j = is in cc)
  by_there (conducts.Fresh e) is = absurd (let never : conducts.Fresh e ≡ conducts.Existing j = is in cc)
  by_there (conducts.Value z) is = absurd (let never : conducts.Value z ≡ conducts.Existing j = is in cc)
  by_there conducts.Nothing is = absurd (let never : conducts.Nothing ≡ conducts.Existing j = is in cc)

on_this_existing : (a : Action) (d : Conduct) (j : ℕ) → on_this a d ≡ conducts.Existing j → d ≡ conducts.Existing j
on_this_existing actions.Skip d j is = is
on_this_existing (actions.Super m k n) conducts.Null j is = is
on_this_existing (actions.Super m k n) (conducts.Fresh e) j is = absurd (let never : conducts.Nothing ≡ conducts.Existing j = is in cc)
on_this_existing (actions.Super m k n) d j is = is
on_this_existing a d j is = is

pub existing_there : (p : Program) (h : HeapContents) (arrays : List ArrayObject) (m : MethodId) (c : Choice) (at : ℕ → Value) (a : Action) (j : ℕ)
    → on_this a (settled p h arrays m c at) ≡ conducts.Existing j → IsNumber h j
existing_there p h arrays m c at a j is = by_there p h arrays m (method_at p m) c at j _ (on_this_existing a (settled p h arrays m c at) j is)

-- ---- values that are given

given_none : (count : ℕ) (t : Option VType) (z : ℤ) → number_of (given_value count t z) ≡ None
given_none count (Some (types.Arr e)) z = refl
given_none count (Some types.Str) z = refl
given_none count None z = refl
given_none count t z = refl

module _ (k : HeapContents) (count : ℕ) (m : Option Method) (at : ℕ → Value) (n : ℕ) where
  pub given_in_range : (d : Conduct) → ((e : ClassId) → d ≡ conducts.Throws e → IsNumber k n) → ((e : ClassId) → d ≡ conducts.Fresh e → IsNumber k n)
      → ((j : ℕ) → d ≡ conducts.Existing j → IsNumber k j) → (d ≡ conducts.Argument → IsInRange k (argument_of m at)) → IsInRange k (conduct_value count m at n d)
  given_in_range conducts.Null thrown fresh there argument j is = absurd (let never : None ≡ Some j = is in cc)
  given_in_range (conducts.Throws e) thrown fresh there argument j is = subst (IsNumber k) (let both : Some n ≡ Some j = is in (let one : n ≡ j = cc in one)) (thrown e refl)
  given_in_range (conducts.Fresh e) thrown fresh there argument j is = subst (IsNumber k) (let both : Some n ≡ Some j = is in (let one : n ≡ j = cc in one)) (fresh e refl)
  given_in_range (conducts.Existing i) thrown fresh there argument j is = subst (IsNumber k) (let both : Some i ≡ Some j = is in (let one : i ≡ j = cc in one)) (there i refl)
  given_in_range conducts.Argument thrown fresh there argument j is = argument refl j is
  given_in_range (conducts.Value z) thrown fresh there argument j is = none_in_range k (given_value count (result_in m) z) (given_none count (result_in m) z) j is
  given_in_range conducts.Nothing thrown fresh there argument j is = nothing_in_range k j is

-- ---- arguments

-- the conduct gives no argument
abbrev GivesNoArgument : Conduct → Type 0
GivesNoArgument conducts.Argument = ⊥
GivesNoArgument d = Unit {0}

-- a constructor gives the object that it makes, or throws
module _ (p : Program) (m : Method) where
  plain_gives : (k : MethodKind) (z : ℤ) → is_constructor_kind k ≡ true → GivesNoArgument (plain p k m z)
  plain_gives methods.Ctor z makes = tt
  plain_gives methods.Instance z makes = absurd (true≢false (sym makes))
  plain_gives methods.Static z makes = absurd (true≢false (sym makes))
  plain_gives methods.Constant z makes = absurd (true≢false (sym makes))

  null_gives : (k : MethodKind) (z : ℤ) → is_constructor_kind k ≡ true → GivesNoArgument (null_way p k m z)
  null_gives methods.Ctor z makes = tt
  null_gives methods.Instance z makes = absurd (true≢false (sym makes))
  null_gives methods.Static z makes = absurd (true≢false (sym makes))
  null_gives methods.Constant z makes = absurd (true≢false (sym makes))

  existing_gives : (k : MethodKind) (z : ℤ) → is_constructor_kind k ≡ true → GivesNoArgument (existing_way p k m z)
  existing_gives methods.Ctor z makes = tt
  existing_gives methods.Instance z makes = absurd (true≢false (sym makes))
  existing_gives methods.Static z makes = absurd (true≢false (sym makes))
  existing_gives methods.Constant z makes = absurd (true≢false (sym makes))

  module _ (makes : is_constructor_kind m.kind ≡ true) where
    beyond_gives : (k : ℕ) (z : ℤ) → GivesNoArgument (beyond p m k z)
    beyond_gives zero z = null_gives m.kind z makes
    beyond_gives (suc zero) z = existing_gives m.kind z makes
    beyond_gives (suc (suc k)) z = plain_gives m.kind z makes

    throws_gives : (c : Option ClassId) (k : ℕ) (z : ℤ) → GivesNoArgument (throw_or p m c k z)
    throws_gives (Some c) k z = tt
    throws_gives None k z = beyond_gives (k - length (thrown p m.kind m)) z

    way_gives : (way : ℕ) (z : ℤ) → GivesNoArgument (by_way p m way z)
    way_gives zero z = plain_gives m.kind z makes
    way_gives (suc k) z = throws_gives (slice_get (thrown p m.kind m) k) k z

conduct_gives : (p : Program) (x : Option Method) (c : Choice) → constructs x ≡ true → GivesNoArgument (conduct_in p x c)
conduct_gives p None c makes = tt
conduct_gives p (Some x) c makes = way_gives p x makes c.way c.value

module _ (p : Program) (h : HeapContents) (arrays : List ArrayObject) (m : MethodId) (makes : constructs (method_at p m) ≡ true) where
  either_gives : (t : Bool) (d e : Conduct) → GivesNoArgument d → GivesNoArgument e → GivesNoArgument (if t then d else e)
  either_gives true d e first second = first
  either_gives false d e first second = second

  settles : (c : Choice) (at : ℕ → Value) (d : Conduct) → GivesNoArgument d → GivesNoArgument (settled_by p h arrays m (method_at p m) c at d)
  settles c at (conducts.Existing k) gives =
      either_gives (fits_type p h arrays (result_in (method_at p m)) (values.Object k)) (conducts.Existing k) (plainly p m c) tt (conduct_gives p (method_at p m) (record c { way = 0 }) makes)
  settles c at conducts.Argument gives = absurd gives
  settles c at (conducts.Throws e) gives = tt
  settles c at (conducts.Fresh e) gives = tt
  settles c at conducts.Null gives = tt
  settles c at (conducts.Value z) gives = tt
  settles c at conducts.Nothing gives = tt

on_this_gives : (a : Action) (d : Conduct) → GivesNoArgument d → GivesNoArgument (on_this a d)
on_this_gives actions.Skip d gives = gives
on_this_gives (actions.Super m k n) (conducts.Fresh e) gives = tt
on_this_gives (actions.Super m k n) conducts.Null gives = tt
on_this_gives (actions.Super m k n) d gives = gives
on_this_gives a d gives = gives

-- a call of a constructor gives no argument
pub no_argument : (p : Program) (h : HeapContents) (arrays : List ArrayObject) (m : MethodId) (c : Choice) (at : ℕ → Value) (a : Action) → constructs (method_at p m) ≡ true
    → on_this a (settled p h arrays m c at) ≡ conducts.Argument → ⊥
no_argument p h arrays m c at a makes is =
    subst GivesNoArgument is (on_this_gives a (settled p h arrays m c at) (settles p h arrays m makes c at (conduct p m c) (conduct_gives p (method_at p m) c makes)))

-- what the positions of a call are is in range, where the call makes no object
module _ (h k : HeapContents) (grows : next_number h ≤ next_number k) (l : Locals) (in' : LocalsInRange h l) (a : Action) (n : ℕ) (d : Conduct) (other : made_by_new a n d ≡ None) where
  operand_stays : (i : ℕ) → IsInRange k (operand_of l a i)
  operand_stays i = value_stays h k grows (operand_of l a i) (operand_in_range h l in' a i)

  position_in_range : (i : ℕ) → IsInRange k (positions l a n d i)
  position_in_range zero = subst (λ (made : Option ℕ). IsInRange k (receiver_or made l a)) (sym other) (operand_stays 0)
  position_in_range (suc i) = operand_stays (suc i)

  pub argument_in_range : (m : Option Method) → IsInRange k (argument_of m (positions l a n d))
  argument_in_range m = go (alias_position m)
    where
      go : (x : Option ℕ) → IsInRange k (value_at (positions l a n d) x)
      go None = nothing_in_range k
      go (Some i) = position_in_range i
