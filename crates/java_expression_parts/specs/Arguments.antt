-- The arguments of calls and instance creations. A conditional over references has there the type of the parameter, where its
-- second and third operand suit that (JLS 15.12.2.2, 15.25): so a method takes it where it takes both.
use Rattle.std.specs.Prelude.{ℕ, zero, suc, Bool, true, false, cond, ◌&&◌, Option, Some, None, List, [], ◌∷◌, ◌++◌, map, filter, length, nat_eq, zip}
use Rattle.std.specs.List.{list_all}
use Rattle.program_model.specs.declared.kinds.MethodId.{MethodId}
use Rattle.program_model.specs.declared.kinds.VType.{VType}
use Rattle.program_model.specs.declared.program.Method.{Method}
use Rattle.program_model.specs.declared.program.ParamSig.{ParamSig}
use Rattle.program_model.specs.declared.program.Program.{Program}
use Rattle.program_model.specs.Lookups.{method_at}
use Rattle.java_conversions.specs.Conversions.{fits}
use Rattle.java_conversions.specs.Types.{is_reference}
use Rattle.java_typed_trees.specs.declared.shapes.Shape.{Shape}
use Rattle.java_typed_trees.specs.declared.shapes.Shape.TheVariants as shapes
use Rattle.java_typed_trees.specs.ExpressionTrees.{ExprTree, ExprTrees, Node, no_expression, and_expression}
use Rattle.java_expression_parts.specs.TypedParts.{Typing}

abbrev pub is_conditional : Shape → Bool
is_conditional shapes.Conditional = true
is_conditional s = false

-- a conditional that takes the type of its context (JLS 15.25): of a reference type, and so are its operands
abbrev pub is_poly_conditional : Shape → VType → Bool
is_poly_conditional shape t = is_conditional shape && is_reference t

-- ---- which methods take them

abbrev mutual
  -- the types of the values that the expression may give: of a conditional over references those of its second and third
  -- operand. None for an expression without a type
  pub value_types : ExprTree → List VType
  value_types (Node shape None place parts) = []
  value_types (Node shape (Some t) place parts) = cond (is_poly_conditional shape t) (value_types_at 1 parts ++ value_types_at 2 parts) (t ∷ [])

  -- those of the part with this number, from 0, if there is one
  pub value_types_at : ℕ → ExprTrees → List VType
  value_types_at n no_expression = []
  value_types_at zero (and_expression t ts) = value_types t
  value_types_at (suc n) (and_expression t ts) = value_types_at n ts

-- the types of the values of each argument
abbrev pub argument_types : List Typing → List (List VType)
argument_types arguments = map (λ a. value_types a.tree) arguments

-- each value of each argument may be passed for its parameter in a strict invocation context (JLS 5.3)
abbrev pub each_value_fits : Program → List (List VType) → List ParamSig → Bool
each_value_fits p arguments params = list_all (λ x. list_all (λ t. fits p t x.1.vtype) x.0) (zip arguments params)

-- the method has as many parameters as there are arguments, and takes each
abbrev pub takes_values : Program → List (List VType) → Option Method → Bool
takes_values p arguments None = false
takes_values p arguments (Some m) = nat_eq (length arguments) (length m.sig.params.items) && each_value_fits p arguments m.sig.params.items

-- those that take the arguments (JLS 15.12.2.2)
abbrev pub applicable_to : Program → List MethodId → List (List VType) → List MethodId
applicable_to p candidates arguments = filter (λ m. takes_values p arguments (method_at p m)) candidates

-- ---- the type that the parameter gives

abbrev pub takes_context : Shape → Option VType → Bool
takes_context shape None = false
takes_context shape (Some t) = is_poly_conditional shape t

abbrev mutual
  -- the typed tree where the context wants this type
  pub in_context : VType → ExprTree → ExprTree
  in_context wanted (Node shape t place parts) = cond (takes_context shape t) (Node shape (Some wanted) place (operands_in_context wanted parts)) (Node shape t place parts)

  -- the parts of such a conditional: all but the first are in its context (JLS 15.25.3)
  pub operands_in_context : VType → ExprTrees → ExprTrees
  operands_in_context wanted no_expression = no_expression
  operands_in_context wanted (and_expression condition ts) = and_expression condition (all_in_context wanted ts)

  pub all_in_context : VType → ExprTrees → ExprTrees
  all_in_context wanted no_expression = no_expression
  all_in_context wanted (and_expression t ts) = and_expression (in_context wanted t) (all_in_context wanted ts)

-- the arguments, each where its parameter's type is wanted
abbrev pub in_contexts : List VType → List ExprTree → List ExprTree
in_contexts [] ts = ts
in_contexts (wanted ∷ more) [] = []
in_contexts (wanted ∷ more) (t ∷ ts) = in_context wanted t ∷ in_contexts more ts

-- the argument where its parameter's type is wanted, if there is one
abbrev pub in_context_if : Option VType → ExprTree → ExprTree
in_context_if None t = t
in_context_if (Some wanted) t = in_context wanted t
