-- The rules of method calls (JLS 15.12.3) and of instance creations (JLS 15.9), where overload resolution names the method or
-- constructor, and all arguments have types.
use Rattle.std.specs.Prelude.{Bool, true, false, cond, Option, Some, None}
use Rattle.rlc_base.specs.declared.place.Pos.{Pos}
use Rattle.rlc_base.specs.declared.code.Code.TheVariants as codes_of
use Rattle.program_model.specs.declared.kinds.ClassId.{ClassId}
use Rattle.program_model.specs.declared.kinds.MethodId.{MethodId}
use Rattle.program_model.specs.declared.kinds.MethodKind.{MethodKind}
use Rattle.program_model.specs.declared.kinds.MethodKind.TheVariants as methods
use Rattle.program_model.specs.declared.kinds.VType.{VType}
use Rattle.program_model.specs.declared.program.Program.{Program}
use Rattle.program_model.specs.declared.program.Class.{Class}
use Rattle.program_model.specs.declared.program.Method.{Method}
use Rattle.program_model.specs.Lookups.{class_at, method_at}
use Rattle.java_conversions.specs.Types.{type_of_class}
use Rattle.java_typed_trees.specs.declared.facts.Facts.{Facts}
use Rattle.java_typed_trees.specs.declared.facts.StaticType.{StaticType}
use Rattle.java_typed_trees.specs.declared.facts.StaticType.TheVariants as static_types
use Rattle.java_typed_trees.specs.declared.facts.Answer.{Answer}
use Rattle.java_typed_trees.specs.declared.facts.Answer.TheVariants as answers
use Rattle.java_typed_trees.specs.declared.shapes.Shape.TheVariants as shapes
use Rattle.java_typed_trees.specs.declared.shapes.CallShape.{CallShape}
use Rattle.java_typed_trees.specs.declared.shapes.CallShape.TheVariants as calls
use Rattle.java_typed_trees.specs.Answers.{mismatch, of_one, type_of, value_at}
use Rattle.java_member_rules.specs.Names.{result_in}

-- the result of a method, or none (JLS 15.12.3)
abbrev pub result_type : Option VType → StaticType
result_type None = static_types.Void
result_type (Some t) = static_types.Value t

abbrev pub call_as : Program → Pos → CallShape → MethodId → Answer
call_as p place form m = answers.Is (shapes.Call form m) (record { static_type = result_type (result_in (method_at p m)); constant = None; pos = place })

abbrev pub is_static_kind : MethodKind → Bool
is_static_kind methods.Static = true
is_static_kind k = false

abbrev pub is_static_method : Option Method → Bool
is_static_method None = false
is_static_method (Some m) = is_static_kind m.kind

-- `m(..)`: a static method, or one of `this` where there is one
abbrev pub unqualified_call_by : Program → Bool → Pos → MethodId → Answer
unqualified_call_by p has_this place m = cond (is_static_method (method_at p m)) (call_as p place calls.Static m) (cond has_this (call_as p place calls.This m) (mismatch place))

abbrev pub target_form : Bool → CallShape
target_form true = calls.This
target_form false = calls.Other

-- static members are not named through an expression
abbrev pub object_call_of : Program → Bool → Pos → MethodId → Answer
object_call_of p is_this place m = cond (is_static_method (method_at p m)) (mismatch place) (call_as p place (target_form is_this) m)

-- `e.m(..)`, and whether e is `this`
abbrev pub object_call_by : Program → Bool → Pos → MethodId → Facts → Answer
object_call_by p is_this place m e = of_one place (type_of e) (λ t. object_call_of p is_this place m)

-- `C.m(..)`: a static method
abbrev pub class_call_by : Program → Pos → MethodId → Answer
class_call_by p place m = cond (is_static_method (method_at p m)) (call_as p place calls.Static m) (mismatch place)

-- `super.m(..)`: an instance method that has a body, called on `this`
abbrev pub super_call_of : Program → Bool → Bool → Pos → MethodId → Answer
super_call_of p has_this has_body place m = cond has_this (cond has_body (call_as p place calls.Super m) (answers.Wrong codes_of.NotAbstract place)) (mismatch place)

abbrev pub super_call_by : Program → Bool → Bool → Pos → MethodId → Answer
super_call_by p has_this has_body place m = cond (is_static_method (method_at p m)) (mismatch place) (super_call_of p has_this has_body place m)

abbrev pub is_abstract_class : Option Class → Bool
is_abstract_class None = false
is_abstract_class (Some k) = k.is_abstract

-- `new C(..)`: of a class that is not abstract (JLS 15.9.1)
abbrev pub new_object_by : Program → Pos → ClassId → MethodId → Answer
new_object_by p place c m = cond (is_abstract_class (class_at p c)) (answers.Wrong codes_of.NotAbstract place) (answers.Is (shapes.NewObject c m) (value_at place (type_of_class p c)))
