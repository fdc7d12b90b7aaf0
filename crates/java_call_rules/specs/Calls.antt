-- Method calls (JLS 15.12) and instance creations (JLS 15.9), by the typings of their parts.
use Rattle.std.specs.Prelude.{ℕ, Bool, false, cond, not, ◌||◌, Option, Some, None, List, []}
use Rattle.rlc_base.specs.declared.place.Pos.{Pos}
use Rattle.rlc_base.specs.declared.code.Code.TheVariants as codes_of
use Rattle.program_model.specs.declared.kinds.ClassId.{ClassId}
use Rattle.program_model.specs.declared.kinds.MethodId.{MethodId}
use Rattle.program_model.specs.declared.kinds.VType.{VType}
use Rattle.program_model.specs.declared.program.Method.{Method}
use Rattle.program_model.specs.declared.program.Program.{Program}
use Rattle.program_model.specs.Lookups.{class_at, method_at}
use Rattle.program_model.specs.Overrides.{is_interface, is_library, super_in}
use Rattle.program_model.specs.Typing.{class_of}
use Rattle.java_syntax.specs.declared.names.Name.{Name}
use Rattle.class_members.specs.Members.{constructors_of, methods_named}
use Rattle.java_overloads.specs.declared.choices.Choice.{Choice}
use Rattle.java_overloads.specs.declared.choices.Choice.TheVariants as choices
use Rattle.java_typed_trees.specs.declared.facts.Answer.{Answer}
use Rattle.java_typed_trees.specs.declared.facts.Answer.TheVariants as answers
use Rattle.java_typed_trees.specs.declared.facts.Facts.{Facts}
use Rattle.java_typed_trees.specs.Answers.{of_one, type_of}
use Rattle.java_typed_trees.specs.ExpressionTrees.{and_expression}
use Rattle.java_member_rules.specs.Calls.{class_call_by, is_abstract_class, new_object_by, object_call_by, super_call_by, unqualified_call_by}
use Rattle.java_call_rules.specs.declared.overloads.MethodResolution.{MethodResolution}
use Rattle.java_call_rules.specs.declared.overloads.MethodResolution.TheVariants as resolutions
use Rattle.java_expression_parts.specs.Arguments.{argument_types, applicable_to}
use Rattle.java_expression_parts.specs.WrittenTypes.{class_of_name}
use Rattle.java_expression_parts.specs.Surroundings.{Surroundings}
use Rattle.java_expression_parts.specs.TypedParts.{Typing, have_types, operand, typing_by}
use Rattle.java_overloads.specs.Overloads.{choice_among}
use Rattle.java_expression_parts.specs.CallParts.{argument_trees, with_implied_this}

-- ---- which method

-- which of the methods or constructors the arguments mean: the most specific of those that take them (JLS 15.12.2)
abbrev pub choice_for : Program → List MethodId → List (List VType) → Choice
choice_for p candidates arguments = choice_among p (applicable_to p candidates arguments)

-- the one method that is meant; else none is applicable, or none most specific
abbrev pub resolution_in : Pos → Choice → MethodResolution
resolution_in place choices.NotApplicable = resolutions.NoMethod (answers.Wrong codes_of.NoSuchMethod place)
resolution_in place choices.NotSpecific = resolutions.NoMethod (answers.Wrong codes_of.Ambiguous place)
resolution_in place (choices.Chosen m) = resolutions.Method m

-- the method that these candidates and arguments mean, where each argument has a type
abbrev pub resolution : Program → Pos → List MethodId → List Typing → MethodResolution
resolution p place candidates arguments = cond (have_types arguments) (resolution_in place (choice_for p candidates (argument_types arguments))) (resolutions.NoMethod (answers.Silent place))

-- the rule of the method that is meant
abbrev pub by_resolution : MethodResolution → (MethodId → Answer) → Answer
by_resolution (resolutions.Method m) rule = rule m
by_resolution (resolutions.NoMethod given) rule = given

abbrev pub of_method : Program → Pos → List MethodId → List Typing → (MethodId → Answer) → Answer
of_method p place candidates arguments rule = by_resolution (resolution p place candidates arguments) rule

-- the methods of the name that are members of the class, if there is one
abbrev pub members_named : Surroundings → List ℕ → Option ClassId → List MethodId
members_named s name None = []
members_named s name (Some c) = methods_named s.context.program s.context.class' c name

-- ---- the forms of a call (JLS 15.12.1)

-- `m(..)`: a member of the class
abbrev pub call_by : Surroundings → Pos → List ℕ → List Typing → Answer
call_by s place name arguments = of_method s.context.program place (members_named s name (Some s.context.class')) arguments (unqualified_call_by s.context.program s.context.has_this place)

-- `C.m(..)`: a member of the class `c`
abbrev pub class_call : Surroundings → Pos → List ℕ → ClassId → List Typing → Answer
class_call s place name c arguments = of_method s.context.program place (members_named s name (Some c)) arguments (class_call_by s.context.program place)

-- `e.m(..)`: a member of the class of e's type. One of a primitive type and `null` have no methods, and an array has those of
-- Object (JLS 10.7)
abbrev pub object_call : Surroundings → Bool → Pos → List ℕ → Facts → List Typing → Answer
object_call s is_this place name e arguments = of_one place (type_of e) (λ t. of_method s.context.program place (members_named s name (class_of s.context.program t)) arguments (λ m. object_call_by s.context.program is_this place m e))

-- the method has a body, as a call by `super` counts it: each method of a stub has one
abbrev pub is_bodied : Program → Option Method → Bool
is_bodied p None = false
is_bodied p (Some m) = is_library p m.class || not (m.is_abstract || is_interface p m.class)

-- the direct super class of the class in which the expression stands
abbrev pub super_class : Surroundings → Option ClassId
super_class s = super_in (class_at s.context.program s.context.class')

-- `super.m(..)`: a member of the super class
abbrev pub super_by : Surroundings → Pos → List ℕ → List Typing → Answer
super_by s place name arguments = of_method s.context.program place (members_named s name (super_class s)) arguments (λ m. super_call_by s.context.program s.context.has_this (is_bodied s.context.program (method_at s.context.program m)) place m)

-- ---- instance creations

-- a class that is abstract is refused whatever the arguments are
abbrev pub new_of : Surroundings → Pos → Option ClassId → List Typing → Answer
new_of s place None arguments = answers.Silent place
new_of s place (Some c) arguments = cond (is_abstract_class (class_at s.context.program c)) (answers.Wrong codes_of.NotAbstract place) (of_method s.context.program place (constructors_of s.context.program s.context.class' c) arguments (new_object_by s.context.program place c))

-- `new C(..)`; silent where the name of the class is refused
abbrev pub new_by : Surroundings → Pos → Name → List Typing → Answer
new_by s place c arguments = new_of s place (class_of_name s c.text) arguments

-- ---- typings

-- a member of `this` without a written target, or of the super class, over its arguments
abbrev pub call_typing : Surroundings → Pos → Answer → List Typing → Typing
call_typing s place given arguments = typing_by given (with_implied_this s place given (argument_trees s.context.program given arguments))

abbrev pub unqualified_call_typing : Surroundings → Pos → List ℕ → List Typing → Typing
unqualified_call_typing s place name arguments = call_typing s place (call_by s place name arguments) arguments

abbrev pub super_call_typing : Surroundings → Pos → List ℕ → List Typing → Typing
super_call_typing s place name arguments = call_typing s place (super_by s place name arguments) arguments

-- a member of a class: its parts are the arguments
abbrev pub class_call_typing : Surroundings → Pos → List ℕ → ClassId → List Typing → Typing
class_call_typing s place name c arguments = typing_by (class_call s place name c arguments) (argument_trees s.context.program (class_call s place name c arguments) arguments)

-- a member of a value, which is a part too
abbrev pub object_call_typing : Surroundings → Bool → Pos → List ℕ → Typing → List Typing → Typing
object_call_typing s is_this place name t arguments = typing_by (object_call s is_this place name (operand t) arguments) (and_expression t.tree (argument_trees s.context.program (object_call s is_this place name (operand t) arguments) arguments))

abbrev pub new_typing : Surroundings → Pos → Name → List Typing → Typing
new_typing s place c arguments = typing_by (new_by s place c arguments) (argument_trees s.context.program (new_by s place c arguments) arguments)
