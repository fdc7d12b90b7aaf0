-- The children of statements and expressions, in the order of their evaluation, and what makes a body's tables trees.
use Rattle.std.specs.Prelude.{◌≡◌, ◌<◌, ℕ, List, [], ◌∷◌, ◌++◌, map, flat_map, length, All, count_by, nat_eq}
use Rattle.program_model.specs.declared.kinds.ExprId.{ExprId}
use Rattle.program_model.specs.declared.kinds.StmtId.{StmtId}
use Rattle.program_model.specs.declared.tree.Body.{Body}
use Rattle.program_model.specs.declared.tree.Declarator.{Declarator}
use Rattle.program_model.specs.declared.tree.ForInitial.{ForInitial}
use Rattle.program_model.specs.declared.tree.ForInitial.TheVariants as initials
use Rattle.program_model.specs.declared.tree.CallTarget.{CallTarget}
use Rattle.program_model.specs.declared.tree.CallTarget.TheVariants as calls
use Rattle.program_model.specs.declared.tree.AssignmentTarget.{AssignmentTarget}
use Rattle.program_model.specs.declared.tree.AssignmentTarget.TheVariants as targets
use Rattle.program_model.specs.declared.tree.ExpressionKind.{ExpressionKind}
use Rattle.program_model.specs.declared.tree.ExpressionKind.TheVariants as expressions
use Rattle.program_model.specs.declared.tree.StatementKind.{StatementKind}
use Rattle.program_model.specs.declared.tree.StatementKind.TheVariants as statements
use Rattle.program_model.specs.Lookups.{optional}

abbrev pub call_target : CallTarget → List ExprId
call_target calls.Static = []
call_target (calls.This e) = e ∷ []
call_target (calls.Super e) = e ∷ []
call_target (calls.Other e) = e ∷ []

abbrev pub assignment_operands : AssignmentTarget → List ExprId
assignment_operands (targets.Local x) = []
assignment_operands (targets.Field e f) = e ∷ []
assignment_operands (targets.StaticField f) = []
assignment_operands (targets.Element a i) = a ∷ i ∷ []

-- the children of an expression
abbrev pub operands : ExpressionKind → List ExprId
operands (expressions.Literal l) = []
operands (expressions.Local x) = []
operands (expressions.This written) = []
operands (expressions.Field e f) = e ∷ []
operands (expressions.StaticField f) = []
operands (expressions.LibraryConstant m) = []
operands (expressions.Unary o e) = e ∷ []
operands (expressions.Binary b) = b.left ∷ b.right ∷ []
operands (expressions.Conditional c a b) = c ∷ a ∷ b ∷ []
operands (expressions.InstanceOf e t) = e ∷ []
operands (expressions.PrimitiveCast e) = e ∷ []
operands (expressions.ReferenceCast e) = e ∷ []
operands (expressions.Assignment x e) = assignment_operands x ++ e ∷ []
operands (expressions.OperatorAssignment a) = a.target ∷ a.value ∷ []
operands (expressions.PostfixStep a) = a.target ∷ a.value ∷ []
operands (expressions.Call c) = call_target c.target ++ c.arguments.items
operands (expressions.NewObject n) = n.arguments.items
operands (expressions.NewArray e) = e ∷ []
operands (expressions.Element a i) = a ∷ i ∷ []
operands (expressions.Length a) = a ∷ []

abbrev pub initializers : List Declarator → List ExprId
initializers names = flat_map (λ x. optional x.initializer) names

abbrev pub initial_expressions : ForInitial → List ExprId
initial_expressions (initials.Declaration names) = initializers names.items
initial_expressions (initials.Expressions es) = es.items

-- the expressions that are children of a statement
abbrev pub expressions_in : StatementKind → List ExprId
expressions_in (statements.Block ss end) = []
expressions_in statements.Empty = []
expressions_in (statements.LocalDeclaration names) = initializers names.items
expressions_in (statements.Expression e) = e ∷ []
expressions_in (statements.If c a b) = c ∷ []
expressions_in (statements.While c s) = c ∷ []
expressions_in (statements.Do s c) = c ∷ []
expressions_in (statements.For l) = initial_expressions l.initial ++ optional l.condition ++ l.updates.items
expressions_in (statements.Return e) = optional e
expressions_in (statements.Throw e) = e ∷ []
expressions_in statements.Break = []
expressions_in statements.Continue = []
expressions_in (statements.Try t) = map (λ r. r.initializer) t.resources.items
expressions_in (statements.SuperCall c) = c.arguments.items
expressions_in (statements.FieldInitializer e) = e ∷ []

-- the statements that are children of a statement
abbrev pub statements_in : StatementKind → List StmtId
statements_in (statements.Block ss end) = ss.items
statements_in (statements.If c a b) = a ∷ optional b
statements_in (statements.While c s) = s ∷ []
statements_in (statements.Do s c) = s ∷ []
statements_in (statements.For l) = l.body ∷ []
statements_in (statements.Try t) = t.block ∷ map (λ c. c.block) t.catches.items ++ optional t.finally
statements_in _ = []

-- all expressions that stand as a child
abbrev pub expression_children : Body → List ℕ
expression_children b = map (λ e. e.0) (flat_map (λ s. expressions_in s.kind) b.statements.items ++ flat_map (λ e. operands e.kind) b.expressions.items)

-- all statements that stand as a child, and those of the body itself
abbrev pub statement_children : Body → List ℕ
statement_children b = map (λ s. s.0) (b.stmts.items ++ flat_map (λ s. statements_in s.kind) b.statements.items)

-- each number below n stands exactly once
abbrev pub IsEachOnce : ℕ → List ℕ → Type 0
IsEachOnce n numbers = (k : ℕ) → k < n → count_by (λ j. nat_eq j k) numbers ≡ 1

-- the children of a statement are in the tables, and come before it
abbrev pub HasParts : Body → StmtId → StatementKind → Type 0
HasParts b s kind = All (λ t. t.0 < s.0) (statements_in kind) × All (λ e. e.0 < length b.expressions.items) (expressions_in kind)

-- the children of an expression come before it
abbrev pub HasOperands : ExprId → ExpressionKind → Type 0
HasOperands e kind = All (λ o. o.0 < e.0) (operands kind)

-- each node has one parent, or is a statement of the body itself
pub record IsForest (b : Body) : Type 0 where
  pub small : length b.statements.items < 1000000000
  pub short : length b.expressions.items < 1000000000
  pub own : All (λ s. s.0 < length b.statements.items) b.stmts.items
  pub one_parent : IsEachOnce (length b.expressions.items) (expression_children b)
  pub one_block : IsEachOnce (length b.statements.items) (statement_children b)
