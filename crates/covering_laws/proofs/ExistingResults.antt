-- An object that was there is given by the library as the result of a method of a class type that is not owning alone.
use Rattle.std.specs.Prelude.{ℤ, pos, negsuc, if◌then◌else◌}
use Rattle.std.proofs.Common.{◌≡◌, ℕ, zero, suc, ◌-◌, Bool, true, false, Option, Some, None, List, length, slice_get, refl}
use Rattle.program_model.specs.declared.kinds.ClassId.{ClassId}
use Rattle.program_model.specs.declared.kinds.MethodId.{MethodId}
use Rattle.program_model.specs.declared.kinds.MethodKind.{MethodKind}
use Rattle.program_model.specs.declared.kinds.MethodKind.TheVariants as kinds
use Rattle.program_model.specs.declared.kinds.VType.{VType}
use Rattle.program_model.specs.declared.kinds.VType.TheVariants as types
use Rattle.program_model.specs.declared.program.Method.{Method}
use Rattle.program_model.specs.declared.program.Program.{Program}
use Rattle.program_model.specs.Lookups.{method_at}
use Rattle.control_actions.specs.declared.action.Action.{Action}
use Rattle.control_actions.specs.declared.action.Action.TheVariants as actions
use Rattle.stub_conduct.specs.Conducts.{argument_or_null, beyond, by_way, conduct, conduct_in, existing, existing_class, existing_result, existing_way, given, given_result, instead, instead_result, null_way, plain, throw_or, thrown}
use Rattle.stub_conduct.specs.declared.choice.Choice.{Choice}
use Rattle.stub_conduct.specs.declared.choice.Conduct.{Conduct}
use Rattle.stub_conduct.specs.declared.choice.Conduct.TheVariants as conducts
use Rattle.ledger_state.specs.Contents.{HeapContents}
use Rattle.ledger_state.specs.declared.array.ArrayObject.{ArrayObject}
use Rattle.ledger_state.specs.declared.value.Value.{Value}
use Rattle.ledger_state.specs.declared.value.Value.TheVariants as values
use Rattle.ledger_steps.specs.Conducts.{argument_of, fits_type, on_this, plainly, result_in, settled, settled_by}

-- the result of the method is not owning, no alias, and of a class type
pub record GivesUnowned (m : Option Method) : Type 0 where
  pub method : Method
  pub is : m ≡ Some method
  pub class : ClassId
  pub result : method.sig.result ≡ Some (types.Obj class)
  pub unowned : method.sig.owning_result ≡ false
  pub alias : method.sig.alias ≡ None

-- the conduct gives an object that was there only where the method's result is such
abbrev pub MayGive : Option Method → Conduct → Type 0
MayGive m (conducts.Existing k) = GivesUnowned m
MayGive m conducts.Null = Unit {0}
MayGive m d = Unit {0}

module _ (p : Program) (m : Method) where
  abbrev May : Conduct → Type 0
  May d = MayGive (Some m) d

  given_may : (t : VType) (v : ℤ) → May (given p t v)
  given_may (types.Primitive k) v = tt
  given_may types.Str v = tt
  given_may (types.Arr e) v = tt
  given_may (types.Obj c) v = tt
  given_may types.NullType v = tt

  result_may : (t : Option VType) (v : ℤ) → May (given_result p t v)
  result_may None v = tt
  result_may (Some t) v = given_may t v

  plain_may : (k : MethodKind) (v : ℤ) → May (plain p k m v)
  plain_may kinds.Ctor v = tt
  plain_may kinds.Instance v = result_may m.sig.result v
  plain_may kinds.Static v = result_may m.sig.result v
  plain_may kinds.Constant v = result_may m.sig.result v

  argument_may : (alias : Option ℕ) → May (argument_or_null alias)
  argument_may None = tt
  argument_may (Some k) = tt

  instead_may : (alias : Option ℕ) (t : VType) (v : ℤ) → May (instead p alias t v)
  instead_may alias (types.Primitive k) v = tt
  instead_may alias types.Str v = tt
  instead_may alias (types.Arr e) v = tt
  instead_may alias (types.Obj c) v = argument_may alias
  instead_may alias types.NullType v = tt

  instead_result_may : (t : Option VType) (v : ℤ) → May (instead_result p m.sig t v)
  instead_result_may None v = tt
  instead_result_may (Some t) v = instead_may m.sig.alias t v

  null_may : (k : MethodKind) (v : ℤ) → May (null_way p k m v)
  null_may kinds.Ctor v = tt
  null_may kinds.Instance v = instead_result_may m.sig.result v
  null_may kinds.Static v = instead_result_may m.sig.result v
  null_may kinds.Constant v = instead_result_may m.sig.result v

  class_may : (c : ClassId) → m.sig.result ≡ Some (types.Obj c) → (owning : Bool) → m.sig.owning_result ≡ owning → (alias : Option ℕ) → m.sig.alias ≡ alias → (v : ℤ) → May (existing_class p owning alias c v)
  class_may c result false own None none (pos n) = record { method = m; is = refl; class = c; result = result; unowned = own; alias = none }
  class_may c result false own None none (negsuc n) = tt
  class_may c result false own (Some k) some v = tt
  class_may c result true own alias is v = tt

  existing_may : (t : VType) → m.sig.result ≡ Some t → (v : ℤ) → May (existing p m.sig t v)
  existing_may (types.Primitive k) result v = tt
  existing_may types.Str result v = tt
  existing_may (types.Arr e) result v = tt
  existing_may (types.Obj c) result v = class_may c result m.sig.owning_result refl m.sig.alias refl v
  existing_may types.NullType result v = tt

  existing_result_may : (t : Option VType) → m.sig.result ≡ t → (v : ℤ) → May (existing_result p m.sig t v)
  existing_result_may None result v = tt
  existing_result_may (Some t) result v = existing_may t result v

  there_may : (k : MethodKind) (v : ℤ) → May (existing_way p k m v)
  there_may kinds.Ctor v = tt
  there_may kinds.Instance v = existing_result_may m.sig.result refl v
  there_may kinds.Static v = existing_result_may m.sig.result refl v
  there_may kinds.Constant v = existing_result_may m.sig.result refl v

  beyond_may : (k : ℕ) (v : ℤ) → May (beyond p m k v)
  beyond_may zero v = null_may m.kind v
  beyond_may (suc zero) v = there_may m.kind v
  beyond_may (suc (suc k)) v = plain_may m.kind v

  throw_may : (c : Option ClassId) (k : ℕ) (v : ℤ) → May (throw_or p m c k v)
  throw_may (Some c) k v = tt
  throw_may None k v = beyond_may (k - length (thrown p m.kind m)) v

  way_may : (way : ℕ) (v : ℤ) → May (by_way p m way v)
  way_may zero v = plain_may m.kind v
  way_may (suc k) v = throw_may (slice_get (thrown p m.kind m) k) k v

module _ (p : Program) (h : HeapContents) (arrays : List ArrayObject) (m : MethodId) where
  conduct_may : (x : Option Method) (c : Choice) → MayGive x (conduct_in p x c)
  conduct_may None c = tt
  conduct_may (Some x) c = way_may p x c.way c.value

  either_may : (b : Bool) (d e : Conduct) → MayGive (method_at p m) d → MayGive (method_at p m) e → MayGive (method_at p m) (if b then d else e)
  either_may true d e first second = first
  either_may false d e first second = second

  plainly_may : (c : Choice) → MayGive (method_at p m) (plainly p m c)
  plainly_may c = conduct_may (method_at p m) (record c { way = 0 })

  settled_may : (c : Choice) (at : ℕ → Value) (d : Conduct) → MayGive (method_at p m) d → MayGive (method_at p m) (settled_by p h arrays m (method_at p m) c at d)
  settled_may c at (conducts.Existing k) may =
      either_may (fits_type p h arrays (result_in (method_at p m)) (values.Object k)) (conducts.Existing k) (plainly p m c) may (plainly_may c)
  settled_may c at conducts.Argument may =
      either_may (fits_type p h arrays (result_in (method_at p m)) (argument_of (method_at p m) at)) conducts.Argument (plainly p m c) tt (plainly_may c)
  settled_may c at (conducts.Throws e) may = tt
  settled_may c at (conducts.Fresh e) may = tt
  settled_may c at conducts.Null may = tt
  settled_may c at (conducts.Value z) may = tt
  settled_may c at conducts.Nothing may = tt

on_this_may : (m : Option Method) (a : Action) (d : Conduct) → MayGive m d → MayGive m (on_this a d)
on_this_may m actions.Skip d may = may
on_this_may m (actions.Super k d' n) conducts.Null may = tt
on_this_may m (actions.Super k d' n) (conducts.Fresh e) may = tt
on_this_may m (actions.Super k d' n) d may = may
on_this_may m a d may = may

-- what a call of the library gives by a choice
pub library_may_give : (p : Program) (h : HeapContents) (arrays : List ArrayObject) (m : MethodId) (c : Choice) (at : ℕ → Value) (a : Action) → MayGive (method_at p m) (on_this a (settled p h arrays m c at))
library_may_give p h arrays m c at a =
    on_this_may (method_at p m) a (settled p h arrays m c at) (settled_may p h arrays m c at (conduct p m c) (conduct_may p h arrays m (method_at p m) c))
