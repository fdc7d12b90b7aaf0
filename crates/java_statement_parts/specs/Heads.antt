-- The expressions of statements: conditions, values, expression statements, and the first part of `for` (JLS 14.8 to 14.14).
pub use Rattle.java_statement_scopes.specs.VariableCounts.{start_count}
use Rattle.std.specs.Prelude.{ℕ, Bool, true, false, ◌&&◌, Option, Some, None, List, [], ◌∷◌, ◌++◌, length, map}
use Rattle.std.specs.List.{flat_map}
use Rattle.rlc_base.specs.declared.place.Pos.{Pos}
use Rattle.rlc_base.specs.declared.faults.Refusal.{Refusal}
use Rattle.program_model.specs.declared.kinds.VType.{VType}
use Rattle.java_syntax.specs.ExpressionTrees.{ExprTree}
use Rattle.java_syntax.specs.ExpressionTrees as expr
use Rattle.java_syntax.specs.StatementTrees.{ForStartTree}
use Rattle.java_syntax.specs.StatementTrees as syntax
use Rattle.java_typed_trees.specs.declared.facts.Facts.{Facts}
use Rattle.java_typed_trees.specs.declared.scope.Local.{Local}
use Rattle.java_typed_trees.specs.ExpressionTrees as values
use Rattle.java_typed_trees.specs.StatementTrees.{InitialForm}
use Rattle.java_typed_trees.specs.StatementTrees as typed
use Rattle.java_statement_rules.specs.Surroundings.{Surroundings}
use Rattle.java_typed_expressions.specs.Cases.{cases, value_cases}
use Rattle.java_typed_expressions.specs.Typings.{tree, value_facts}
use Rattle.java_statement_rules.specs.Completions.{is_always_true}
use Rattle.java_statement_rules.specs.Contexts.{StatementContext}
use Rattle.java_statement_rules.specs.StatementCases.{condition_cases, plain_return_cases, return_cases, throw_cases}
use Rattle.java_statement_parts.specs.Declarations.{declaration_cases, declaration_trees, declarators, locals_declared}

-- ---- conditions

-- a condition is a value; the place is that of its statement
abbrev pub required_cases : Surroundings → ExprTree → Pos → List Refusal
required_cases s e place = value_cases s None e ++ condition_cases place (value_facts s None e)

abbrev pub plain_tree : Surroundings → ExprTree → List values.ExprTree
plain_tree s e = tree s None e ∷ []

abbrev pub is_literal : ExprTree → Bool
is_literal (expr.Literal text place) = true
is_literal e = false

-- an expression of these facts is the literal `true`
abbrev pub is_literal_true : ExprTree → Facts → Bool
is_literal_true e f = is_literal e && is_always_true f

-- the condition is the literal `true`: one of the same value that is made of operators or names is evaluated in each run, and counts as one that may be false
abbrev pub is_always : Surroundings → ExprTree → Bool
is_always s e = is_literal_true e (value_facts s None e)

-- a `for` without a condition goes on as with `true` (JLS 14.14.1.2)
abbrev pub goes_on : Surroundings → Option ExprTree → Bool
goes_on s None = true
goes_on s (Some e) = is_always s e

abbrev pub optional_cases : Surroundings → Option ExprTree → Pos → List Refusal
optional_cases s None place = []
optional_cases s (Some e) place = required_cases s e place

abbrev pub optional_tree : Surroundings → Option ExprTree → List values.ExprTree
optional_tree s None = []
optional_tree s (Some e) = plain_tree s e

-- ---- return and throw (JLS 14.17, 14.18)

abbrev pub returning_cases : Surroundings → Option VType → Option ExprTree → Pos → List Refusal
returning_cases s result None place = plain_return_cases place result
returning_cases s result (Some e) place = value_cases s result e ++ return_cases s.context.program place result (value_facts s result e)

-- the type of the result is wanted, where one is given
abbrev pub returned : Surroundings → Option VType → Option ExprTree → List values.ExprTree
returned s result None = []
returned s result (Some e) = tree s result e ∷ []

abbrev pub throwing_cases : Surroundings → ExprTree → Pos → List Refusal
throwing_cases s e place = value_cases s None e ++ throw_cases s.context.program s.context.covered place (value_facts s None e)

-- ---- expressions that are statements (JLS 14.8)

abbrev pub expressions_cases : Surroundings → List ExprTree → List Refusal
expressions_cases s es = flat_map (cases s None) es

abbrev pub expression_trees : Surroundings → List ExprTree → List values.ExprTree
expression_trees s es = map (tree s None) es

-- ---- the first part of `for`

abbrev pub started_locals : StatementContext → ForStartTree → Pos → List Local
started_locals c (syntax.Declaration l) place = locals_declared c l place
started_locals c (syntax.Expressions es) place = []

abbrev pub start_cases : StatementContext → ForStartTree → Pos → List Refusal
start_cases c (syntax.Declaration l) place = declaration_cases c l place
start_cases c (syntax.Expressions es) place = expressions_cases c.surroundings es

abbrev pub start_trees : StatementContext → ForStartTree → Pos → List values.ExprTree
start_trees c (syntax.Declaration l) place = declaration_trees c l place
start_trees c (syntax.Expressions es) place = expression_trees c.surroundings es

abbrev pub start_form : ℕ → ForStartTree → InitialForm
start_form n (syntax.Declaration l) = typed.Declaration (declarators n l.variables)
start_form n (syntax.Expressions es) = typed.Expressions (length es)
