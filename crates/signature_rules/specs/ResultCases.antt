-- Which overriding methods give less than their callers own: callers of the one own what something must be called on, and on what the other
-- gives nothing need be called by its type, though it may be an object that owes a call. No rule of bodies asks that such an object is the other
-- method's to give (the rule is this checker's own).
use Rattle.std.specs.Prelude.{Bool, true, false, ◌&&◌, ◌||◌, not, Option, Some, None, List}
use Rattle.std.specs.List.{flat_map, list_all, list_any}
use Rattle.rlc_base.specs.declared.code.Code.TheVariants as refused
use Rattle.rlc_base.specs.declared.faults.Refusal.{Refusal}
use Rattle.program_model.specs.declared.kinds.ClassId.{ClassId}
use Rattle.program_model.specs.declared.kinds.VType.{VType}
use Rattle.program_model.specs.declared.kinds.VType.TheVariants as types
use Rattle.program_model.specs.declared.program.Class.{Class}
use Rattle.program_model.specs.declared.program.Method.{Method}
use Rattle.program_model.specs.declared.program.Program.{Program}
use Rattle.program_model.specs.Lookups.{method_at}
use Rattle.program_model.specs.NameSets.{is_empty}
use Rattle.program_model.specs.Overrides.{are_alike, methods_of}
use Rattle.program_model.specs.SuperTests.{has_class, is_under}
use Rattle.must_call_sets.specs.Bodies.{is_instance_kind}
use Rattle.must_call_sets.specs.MustCallSets.{must_of_optional}
use Rattle.must_call_reset.specs.OwningCases.{gives_as_alias}
use Rattle.refusal_order.specs.Refusals.{where_true}

-- ---- objects that owe nothing

-- no call is asked of objects of the class, and no method or constructor gives them as aliases
abbrev pub owes_nothing : Program → Class → Bool
owes_nothing p k = is_empty k.must && not (list_any (gives_as_alias k) p.methods.items)

-- the type is a class that `String` is not under, and so it is with objects of this class, and of each class under it
abbrev pub all_owe_nothing : Program → Option VType → Bool
all_owe_nothing p (Some (types.Obj c)) = not (is_under p p.core.string c) && list_all (λ (k : Class). not (has_class k.above.items c) || owes_nothing p k) p.classes.items
all_owe_nothing p t = false

-- ---- two methods of a class

-- the instance method gives its callers what something must be called on
abbrev pub gives_obligation : Program → Method → Bool
gives_obligation p n = is_instance_kind n.kind && n.sig.owning_result && not (is_empty (must_of_optional p n.sig.result))

-- the method is alike to `n`, nothing must be called on what it gives, but that may owe a call
abbrev pub may_lose : Program → Method → Option Method → Bool
may_lose p n None = false
may_lose p n (Some m) = are_alike m n && is_empty (must_of_optional p m.sig.result) && not (all_owe_nothing p m.sig.result)

-- the class declares such a method
abbrev pub declares_losing : Program → Method → ClassId → Bool
declares_losing p n c = list_any (λ m. may_lose p n (method_at p m)) (methods_of p c)

-- the class, or one above it, declares such a method beside this one, which gives an obligation
abbrev pub is_lost_beside : Program → Class → Option Method → Bool
is_lost_beside p k None = false
is_lost_beside p k (Some n) = gives_obligation p n && list_any (declares_losing p n) k.above.items

abbrev pub are_lost_beside : Program → Class → ClassId → Bool
are_lost_beside p k d = list_any (λ n. is_lost_beside p k (method_at p n)) (methods_of p d)

-- the class has two such methods, by itself or from above
abbrev pub has_lost_result : Program → Class → Bool
has_lost_result p k = list_any (are_lost_beside p k) k.above.items

abbrev pub result_cases_in : Program → Class → List Refusal
result_cases_in p k = where_true (has_lost_result p k) refused.BadOwningOverride k.pos

-- all cases
abbrev pub result_cases : Program → List Refusal
result_cases p = flat_map (result_cases_in p) p.classes.items
