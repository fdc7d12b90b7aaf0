-- The expressions of statements in which nothing is refused are well-formed, and there are as many as the form takes.
use Rattle.std.proofs.Common.{◌≡◌, ℕ, ◌+◌, Option, Some, None, List, [], ◌∷◌, ◌++◌, length, refl, ap, ◌∙◌, arith}
use Rattle.std.specs.Option.{is_some}
use Rattle.std.proofs.lemmas.List.Elements.{All-append, All-nil}
use Rattle.rlc_base.specs.declared.place.Pos.{Pos}
use Rattle.program_model.specs.declared.kinds.VType.{VType}
use Rattle.java_syntax.specs.ExpressionTrees as syntax
use Rattle.java_syntax.specs.StatementTrees.{ForStartTree}
use Rattle.java_syntax.specs.StatementTrees as starts
use Rattle.java_typed_trees.specs.ExpressionTrees.{expressions}
use Rattle.java_typed_trees.specs.WellFormed.{AreWellFormed, count}
use Rattle.java_typed_trees.specs.WellFormedStatements.{initial_count, one_if}
use Rattle.java_call_rules.specs.Surroundings.{Surroundings}
use Rattle.java_variable_rules.proofs.VariableLaws.{AreTyped, IsTyped}
use Rattle.java_statement_parts.specs.Cases.{cases, value_cases}
use Rattle.java_statement_parts.specs.Typings.{value_facts}
use Rattle.java_statement_parts.proofs.Goodness.{nil_left, nil_right}
use Rattle.java_statement_parts.proofs.WellTyped.{well_typed}
use Rattle.java_statement_rules.specs.Contexts.{StatementContext, locals_of}
use Rattle.java_statement_rules.specs.StatementCases.{condition_cases, return_cases, throw_cases}
use Rattle.java_statement_parts.specs.Heads.{expression_trees, expressions_cases, optional_cases, optional_tree, plain_tree, required_cases, returned, returning_cases, start_cases, start_form, start_trees, started_locals, throwing_cases}
use Rattle.java_typing_laws.proofs.DeclarationLaws.{declaration_count, declaration_typed, declaration_well}
use Rattle.java_typing_laws.proofs.Parts.{value_well}

-- ---- conditions

pub required_well : (s : Surroundings) → AreTyped s.context.locals → (e : syntax.ExprTree) (place : Pos) → required_cases s e place ≡ [] → AreWellFormed (expressions (plain_tree s e))
required_well s typed e place none = (value_well s typed None e (nil_left (value_cases s None e) (condition_cases place (value_facts s None e)) none), tt)

pub optional_well : (s : Surroundings) → AreTyped s.context.locals → (e : Option syntax.ExprTree) (place : Pos) → optional_cases s e place ≡ [] → AreWellFormed (expressions (optional_tree s e))
optional_well s typed None place none = tt
optional_well s typed (Some e) place none = required_well s typed e place none

pub optional_count : (s : Surroundings) (e : Option syntax.ExprTree) → count (expressions (optional_tree s e)) ≡ one_if (is_some e)
optional_count s None = refl
optional_count s (Some e) = refl

-- ---- `return` and `throw`

pub returned_well : (s : Surroundings) → AreTyped s.context.locals → (result : Option VType) (e : Option syntax.ExprTree) (place : Pos) → returning_cases s result e place ≡ [] → AreWellFormed (expressions (returned s result e))
returned_well s typed result None place none = tt
returned_well s typed result (Some e) place none = (value_well s typed result e (nil_left (value_cases s result e) (return_cases s.context.program place result (value_facts s result e)) none), tt)

pub returned_count : (s : Surroundings) (result : Option VType) (e : Option syntax.ExprTree) → count (expressions (returned s result e)) ≡ one_if (is_some e)
returned_count s result None = refl
returned_count s result (Some e) = refl

pub thrown_well : (s : Surroundings) → AreTyped s.context.locals → (e : syntax.ExprTree) (place : Pos) → throwing_cases s e place ≡ [] → AreWellFormed (expressions (plain_tree s e))
thrown_well s typed e place none = (value_well s typed None e (nil_left (value_cases s None e) (throw_cases s.context.program s.context.covered place (value_facts s None e)) none), tt)

-- ---- expressions that are statements

pub all_well : (s : Surroundings) → AreTyped s.context.locals → (es : List syntax.ExprTree) → expressions_cases s es ≡ [] → AreWellFormed (expressions (expression_trees s es))
all_well s typed [] none = tt
all_well s typed (e ∷ es) none = (well_typed s typed None e (nil_left (cases s None e) (expressions_cases s es) none), all_well s typed es (nil_right (cases s None e) (expressions_cases s es) none))

all_count : (s : Surroundings) (es : List syntax.ExprTree) → count (expressions (expression_trees s es)) ≡ length es
all_count s [] = refl
all_count s (e ∷ es) = ap (λ n. 1 + n) (all_count s es) ∙ omega arith

-- ---- the first part of `for`

pub start_typed : (c : StatementContext) → AreTyped (locals_of c) → (start : ForStartTree) (place : Pos) → start_cases c start place ≡ [] → AreTyped (locals_of c ++ started_locals c start place)
start_typed c typed (starts.Declaration l) place none = declaration_typed c typed l place none
start_typed c typed (starts.Expressions es) place none = All-append (λ y. IsTyped y.variable.static_type) (locals_of c) [] typed (All-nil (λ y. IsTyped y.variable.static_type))

pub start_well : (c : StatementContext) → AreTyped (locals_of c) → (start : ForStartTree) (place : Pos) → start_cases c start place ≡ [] → AreWellFormed (expressions (start_trees c start place))
start_well c typed (starts.Declaration l) place none = declaration_well c typed l place none
start_well c typed (starts.Expressions es) place none = all_well c.surroundings typed es none

pub start_count : (n : ℕ) (c : StatementContext) (start : ForStartTree) (place : Pos) → count (expressions (start_trees c start place)) ≡ initial_count (start_form n start)
start_count n c (starts.Declaration l) place = declaration_count n c l place
start_count n c (starts.Expressions es) place = all_count c.surroundings es
