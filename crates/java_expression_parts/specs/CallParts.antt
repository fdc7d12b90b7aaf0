-- The parts of the typed trees of calls and of instance creations: the target, written or implied, and the arguments.
use Rattle.std.specs.Prelude.{Bool, true, false, cond, Option, Some, None, List, [], map}
use Rattle.rlc_base.specs.declared.place.Pos.{Pos}
use Rattle.program_model.specs.declared.kinds.MethodId.{MethodId}
use Rattle.program_model.specs.declared.kinds.VType.{VType}
use Rattle.program_model.specs.declared.program.Method.{Method}
use Rattle.program_model.specs.declared.program.Program.{Program}
use Rattle.program_model.specs.Lookups.{method_at}
use Rattle.java_typed_trees.specs.declared.facts.Answer.{Answer}
use Rattle.java_typed_trees.specs.declared.facts.Answer.TheVariants as answers
use Rattle.java_typed_trees.specs.declared.shapes.Shape.{Shape}
use Rattle.java_typed_trees.specs.declared.shapes.Shape.TheVariants as shapes
use Rattle.java_typed_trees.specs.declared.shapes.CallShape.{CallShape}
use Rattle.java_typed_trees.specs.declared.shapes.CallShape.TheVariants as calls
use Rattle.java_typed_trees.specs.ExpressionTrees.{ExprTrees, and_expression, expressions}
use Rattle.java_member_rules.specs.Names.{implied_this}
use Rattle.java_expression_parts.specs.Arguments.{in_contexts}
use Rattle.java_expression_parts.specs.Surroundings.{Surroundings}
use Rattle.java_expression_parts.specs.TypedParts.{Typing, trees_in}

-- the method or constructor that is meant
abbrev pub method_of_shape : Shape → Option MethodId
method_of_shape (shapes.Call form m) = Some m
method_of_shape (shapes.NewObject c m) = Some m
method_of_shape shape = None

abbrev pub method_in : Answer → Option MethodId
method_in (answers.Is shape facts) = method_of_shape shape
method_in (answers.Wrong code place) = None
method_in (answers.Silent place) = None

abbrev pub parameters_in : Option Method → List VType
parameters_in None = []
parameters_in (Some m) = map (λ x. x.vtype) m.sig.params.items

abbrev pub parameters_of : Program → Option MethodId → List VType
parameters_of p None = []
parameters_of p (Some m) = parameters_in (method_at p m)

-- the arguments of the method or constructor, each in the context of its parameter
abbrev pub trees_for : Program → Option MethodId → List Typing → ExprTrees
trees_for p m arguments = expressions (in_contexts (parameters_of p m) (trees_in arguments))

abbrev pub argument_trees : Program → Answer → List Typing → ExprTrees
argument_trees p given arguments = trees_for p (method_in given) arguments

abbrev pub has_implied_this : CallShape → Bool
has_implied_this calls.Static = false
has_implied_this calls.This = true
has_implied_this calls.Super = true
has_implied_this calls.Other = false

abbrev pub implies_this : Shape → Bool
implies_this (shapes.Field f) = true
implies_this (shapes.Call form m) = has_implied_this form
implies_this shape = false

abbrev pub is_implied : Answer → Bool
is_implied (answers.Is shape facts) = implies_this shape
is_implied (answers.Wrong code place) = false
is_implied (answers.Silent place) = false

-- the parts of a member of `this` that is named without a target: the implied `this`, and these
abbrev pub with_implied_this : Surroundings → Pos → Answer → ExprTrees → ExprTrees
with_implied_this s place given ts = cond (is_implied given) (and_expression (implied_this s.context.class' place) ts) ts
