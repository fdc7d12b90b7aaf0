-- How names, types and operations are put together, the operators by their levels.
use Rattle.std.specs.Prelude.{ℕ, nat_lt, if◌then◌else◌, List, [], ◌∷◌, ◌++◌, reverse, Option, Some, None, true, false}
use Rattle.java_syntax.specs.declared.names.Name.{Name}
use Rattle.java_syntax.specs.declared.names.Typ.{Typ}
use Rattle.java_syntax.specs.declared.names.TypeName.TheVariants.{Primitive, Named}
use Rattle.java_syntax.specs.declared.operators.InfixOperator.{InfixOperator}
use Rattle.java_syntax.specs.declared.operators.InfixOperator.TheVariants as operator
use Rattle.java_syntax.specs.Derives.{Lexeme}
use Rattle.java_syntax.specs.ExpressionTrees.{ExprTree}
use Rattle.java_values.specs.NestedTrees.{Nested, IdentifiersTree, OpenOperationTree, ParenthesizedTree, NamesInside, ArrayInside, ExpressionInside}
use Rattle.java_values.specs.Outcomes.{Outcome, Made, Misfit, ◌>>=◌}
use Rattle.java_nodes.specs.Nodes.{identifier_node, call_node, method_call_node, field_access_node, infix_node}
use Rattle.java_nodes.specs.Operators.{primitive_name}

-- names and types

abbrev pub name_at : Lexeme → Name
name_at t = record { text = t.text; pos = t.pos }

-- a further identifier of a name, behind a dot
abbrev pub extended : Name → Lexeme → Name
extended name t = record { text = name.text ++ 46 ∷ t.text; pos = name.pos }

abbrev pub with_identifier : IdentifiersTree → Name → IdentifiersTree
with_identifier names name = record { first = names.first; more = names.more ++ name ∷ [] }

abbrev pub primitive_at : Lexeme → Typ
primitive_at t = record { name = Primitive (primitive_name t.text); is_array = false; pos = t.pos }

abbrev pub type_named : Name → Typ
type_named name = record { name = Named name.text; is_array = false; pos = name.pos }

-- the further identifiers of a name, each behind its dot
abbrev pub dots : List Name → List ℕ
dots [] = []
dots (name ∷ names) = 46 ∷ name.text ++ dots names

-- identifiers as a type
abbrev pub type_of : IdentifiersTree → Typ
type_of names = record { name = Named (names.first.text ++ dots names.more); is_array = false; pos = names.first.pos }

abbrev pub array_type : Typ → Typ
array_type typ = record typ { is_array = true }

-- each further identifier is a field
abbrev pub fields_of : ℕ → Nested ExprTree → List Name → Outcome (Nested ExprTree)
fields_of limit e [] = Made e
fields_of limit e (name ∷ names) = field_access_node limit e name.text name.pos >>= (λ x. fields_of limit x names)

-- identifiers as an expression
abbrev pub name_expression : ℕ → IdentifiersTree → Outcome (Nested ExprTree)
name_expression limit names = identifier_node limit names.first.text names.first.pos >>= (λ e. fields_of limit e names.more)

-- the last of the further identifiers, which come last first, names the method
abbrev pub called : ℕ → Name → List Name → Nested (List ExprTree) → Outcome (Nested ExprTree)
called limit first [] arguments = call_node limit first.text arguments first.pos
called limit first (last ∷ before) arguments = name_expression limit (record { first = first; more = reverse before }) >>= (λ target. method_call_node limit target last.text arguments last.pos)

abbrev pub named_call : ℕ → IdentifiersTree → Nested (List ExprTree) → Outcome (Nested ExprTree)
named_call limit names arguments = called limit names.first (reverse names.more) arguments

-- an identifier, or a call of the method of that name
abbrev pub head_node : ℕ → Name → Option (Nested (List ExprTree)) → Outcome (Nested ExprTree)
head_node limit name None = identifier_node limit name.text name.pos
head_node limit name (Some arguments) = call_node limit name.text arguments name.pos

abbrev pub selector_node : ℕ → Nested ExprTree → Name → Option (Nested (List ExprTree)) → Outcome (Nested ExprTree)
selector_node limit target name None = field_access_node limit target name.text name.pos
selector_node limit target name (Some arguments) = method_call_node limit target name.text arguments name.pos

-- what parentheses hold, as a type and as an expression
abbrev pub type_inside : ParenthesizedTree → Outcome Typ
type_inside (NamesInside names) = Made (type_of names)
type_inside (ArrayInside typ) = Made typ
type_inside (ExpressionInside e) = Misfit

abbrev pub expression_inside : ℕ → ParenthesizedTree → Outcome (Nested ExprTree)
expression_inside limit (NamesInside names) = name_expression limit names
expression_inside limit (ArrayInside typ) = Misfit
expression_inside limit (ExpressionInside e) = Made e

-- operators

-- how tight an operator binds (JLS 15.17 to 15.24): the tightest first
abbrev pub level_of : InfixOperator → ℕ
level_of operator.Multiply = 0
level_of operator.Divide = 0
level_of operator.Remainder = 0
level_of operator.Add = 1
level_of operator.Subtract = 1
level_of operator.ShiftLeft = 2
level_of operator.ShiftRight = 2
level_of operator.ShiftRightUnsigned = 2
level_of operator.Less = 3
level_of operator.Greater = 3
level_of operator.LessOrEqual = 3
level_of operator.GreaterOrEqual = 3
level_of operator.Equal = 4
level_of operator.NotEqual = 4
level_of operator.And = 5
level_of operator.Xor = 6
level_of operator.Or = 7
level_of operator.ConditionalAnd = 8
level_of operator.ConditionalOr = 9

-- that of `instanceof` (JLS 15.20)
abbrev pub comparison : ℕ
comparison = 3

abbrev pub loosest : ℕ
loosest = 9

-- an operand, and the operators that wait for more than it, the tightest first
pub record ClosedTree : Type 0 where
  pub operand : Nested ExprTree
  pub waiting : List OpenOperationTree

-- The operand is the right one of the operators that bind at least as tight as this level, from the tightest on: so operators of one level associate to the left.
abbrev pub closed : ℕ → ℕ → Nested ExprTree → List OpenOperationTree → Outcome ClosedTree
closed limit level e [] = Made (record { operand = e; waiting = [] })
closed limit level e (o ∷ os) = if nat_lt level (level_of o.operator) then Made (record { operand = e; waiting = o ∷ os }) else (infix_node limit o.operator o.left e o.pos >>= (λ x. closed limit level x os))
