-- The refusals of a class's overriding methods (JLS 8.4.8.1 to 8.4.8.3) and of its methods without a body (JLS 8.1.1.1).
use Rattle.std.specs.Prelude.{Bool, true, false, ◌&&◌, ◌||◌, not, Option, Some, None, List, [], ◌++◌, flat_map, if◌then◌else◌}
use Rattle.std.specs.List.{list_any}
use Rattle.std.specs.Option.{is_some}
use Rattle.rlc_base.specs.declared.code.Code.TheVariants as refused
use Rattle.rlc_base.specs.declared.faults.Refusal.{Refusal}
use Rattle.program_model.specs.declared.kinds.ClassId.{ClassId}
use Rattle.program_model.specs.declared.kinds.MethodId.{MethodId}
use Rattle.program_model.specs.declared.kinds.MethodKind.{MethodKind}
use Rattle.program_model.specs.declared.kinds.MethodKind.TheVariants as methods
use Rattle.program_model.specs.declared.program.Class.{Class}
use Rattle.program_model.specs.declared.program.Method.{Method}
use Rattle.program_model.specs.declared.program.Program.{Program}
use Rattle.program_model.specs.Lookups.{class_at, method_at}
use Rattle.program_model.specs.Overrides.{Overriding, is_interface, is_static_kind, method_run, methods_of, overrides_in}
use Rattle.refusal_order.specs.Refusals.{where_true}
use Rattle.class_members.specs.Results.{is_result_under, throws_no_more}

-- ---- overriding methods

-- both are static, or neither is (JLS 8.4.8.1, 8.4.8.2)
abbrev pub are_static_alike : Method → Method → Bool
are_static_alike m n = if is_static_kind m.kind then is_static_kind n.kind else not (is_static_kind n.kind)

-- `m` may override `n`: neither the results (JLS 8.4.5), the throws clauses nor `static` differ, and `n` is not final
-- (JLS 8.4.3.3)
abbrev pub may_override : Program → Method → Method → Bool
may_override p m n = is_result_under p m.sig.result n.sig.result && throws_no_more p m n && are_static_alike m n && not n.is_final

abbrev pub override_case : Program → Overriding → List Refusal
override_case p o = where_true (not (may_override p o.by o.overridden)) refused.BadOverride o.pos

-- the overridings by what the class declares or runs that may not be
abbrev pub override_cases : Program → ClassId → List Refusal
override_cases p c = flat_map (override_case p) (overrides_in p c)

-- ---- methods without a body

abbrev pub is_instance_kind : MethodKind → Bool
is_instance_kind methods.Instance = true
is_instance_kind _ = false

-- an abstract method: of an interface each is (JLS 9.4)
abbrev pub is_abstract_method : Program → Method → Bool
is_abstract_method p n = is_instance_kind n.kind && not n.is_private && (n.is_abstract || is_interface p n.class)

abbrev pub lacks_by : Program → ClassId → Option Method → Bool
lacks_by p c None = false
lacks_by p c (Some n) = is_abstract_method p n && not (is_some (method_run p n c))

-- the class has no body for the abstract method
abbrev pub lacks : Program → ClassId → MethodId → Bool
lacks p c n = lacks_by p c (method_at p n)

-- the class has no body for an abstract method of `d`
abbrev pub lacks_of : Program → ClassId → ClassId → Bool
lacks_of p c d = list_any (lacks p c) (methods_of p d)

abbrev pub body_case : Program → ClassId → Option Class → List Refusal
body_case p c None = []
body_case p c (Some k) = where_true (not k.is_abstract && list_any (lacks_of p c) k.above.items) refused.NotAbstract k.pos

-- a class that is not abstract has no body for an abstract method that it or a class above it declares (JLS 8.1.1.1)
abbrev pub body_cases : Program → ClassId → List Refusal
body_cases p c = body_case p c (class_at p c)

-- ---- both

-- the refusals of a class or interface that are due to the methods which it declares or has from above
abbrev pub class_cases : Program → ClassId → List Refusal
class_cases p c = override_cases p c ++ body_cases p c
