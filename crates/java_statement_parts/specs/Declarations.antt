-- Declarations of local variables (JLS 14.4), in a block and at the head of `for`.
use Rattle.std.specs.Prelude.{ℕ, ℤ, ◌+◌, Bool, ◌&&◌, Option, Some, None, List, [], ◌∷◌, ◌++◌, length}
use Rattle.std.specs.Option.{is_some}
use Rattle.rlc_base.specs.declared.place.Pos.{Pos}
use Rattle.rlc_base.specs.declared.faults.Refusal.{Refusal}
use Rattle.java_syntax.specs.ExpressionTrees.{ExprTree}
use Rattle.java_syntax.specs.StatementTrees.{LocalTree, VariableTree}
use Rattle.java_typed_trees.specs.declared.scope.Local.{Local}
use Rattle.java_typed_trees.specs.declared.statements.DeclaratorShape.{DeclaratorShape}
use Rattle.java_typed_trees.specs.ExpressionTrees as typed
use Rattle.java_statement_rules.specs.WrittenTypes.{cast_type, type_cases}
use Rattle.java_statement_rules.specs.Surroundings.{Surroundings}
use Rattle.java_typed_expressions.specs.Cases.{value_cases}
use Rattle.java_typed_expressions.specs.Typings.{tree, value_facts}
use Rattle.java_statement_rules.specs.Contexts.{StatementContext, locals_of, with_local, with_locals}
use Rattle.java_statement_rules.specs.DeclaredVariables.{constant_value, double_cases, has_final, local_variable}
use Rattle.java_statement_rules.specs.StatementCases.{storing_cases}
use Rattle.java_statement_parts.specs.declared.declarations.Declared.{Declared}

-- what all variables of a declaration share: the type that is written, if that is one, whether `final` stands there, and the
-- place of the statement
abbrev pub declared_by : Surroundings → LocalTree → Pos → Declared
declared_by s l place = record { vtype = cast_type s l.typ; is_final = has_final l.modifiers; pos = place }

-- ---- one variable

-- a final variable without an initialiser is assigned later
abbrev pub is_never_assigned : Declared → VariableTree → Bool
is_never_assigned d v = d.is_final && is_some v.initializer

abbrev pub declared_local : ℕ → Declared → VariableTree → Option ℤ → Local
declared_local n d v constant = local_variable n v.name.text d.vtype (is_never_assigned d v) constant

-- where its initialiser stands: the variable is in scope there itself (JLS 6.3), and no constant
abbrev pub in_initializer : StatementContext → Declared → VariableTree → StatementContext
in_initializer c d v = with_local c (declared_local c.next_variable d v None)

abbrev pub initial_constant : Surroundings → Declared → Option ExprTree → Option ℤ
initial_constant s d None = None
initial_constant s d (Some e) = constant_value s.context.program d.is_final d.vtype (value_facts s d.vtype e)

-- the variable as what is behind it sees it
abbrev pub behind_initializer : StatementContext → Declared → VariableTree → Local
behind_initializer c d v = declared_local c.next_variable d v (initial_constant (in_initializer c d v).surroundings d v.initializer)

abbrev pub initializer_cases : Surroundings → Declared → Option ExprTree → List Refusal
initializer_cases s d None = []
initializer_cases s d (Some e) = value_cases s d.vtype e ++ storing_cases s.context.program d.pos d.vtype (value_facts s d.vtype e)

abbrev pub variable_cases : StatementContext → Declared → VariableTree → List Refusal
variable_cases c d v = double_cases d.pos (locals_of c) v.name.text ++ initializer_cases (in_initializer c d v).surroundings d v.initializer

-- the initialiser's tree, if there is one
abbrev pub initializer_tree : Surroundings → Declared → Option ExprTree → List typed.ExprTree
initializer_tree s d None = []
initializer_tree s d (Some e) = tree s d.vtype e ∷ []

-- ---- all of a declaration, each in the scope of those before it

abbrev pub declared_locals : StatementContext → Declared → List VariableTree → List Local
declared_locals c d [] = []
declared_locals c d (v ∷ vs) = behind_initializer c d v ∷ declared_locals (with_local c (behind_initializer c d v)) d vs

abbrev pub variables_cases : StatementContext → Declared → List VariableTree → List Refusal
variables_cases c d [] = []
variables_cases c d (v ∷ vs) = variable_cases c d v ++ variables_cases (with_local c (behind_initializer c d v)) d vs

abbrev pub initializer_trees : StatementContext → Declared → List VariableTree → List typed.ExprTree
initializer_trees c d [] = []
initializer_trees c d (v ∷ vs) = initializer_tree (in_initializer c d v).surroundings d v.initializer ++ initializer_trees (with_local c (behind_initializer c d v)) d vs

-- the names as a typed statement keeps them
abbrev pub declarators : ℕ → List VariableTree → List DeclaratorShape
declarators n [] = []
declarators n (v ∷ vs) = record { variable = n; has_initializer = is_some v.initializer; pos = v.name.pos } ∷ declarators (n + 1) vs

-- ---- a declaration

abbrev pub locals_declared : StatementContext → LocalTree → Pos → List Local
locals_declared c l place = declared_locals c (declared_by c.surroundings l place) l.variables

abbrev pub behind_declaration : StatementContext → LocalTree → Pos → StatementContext
behind_declaration c l place = with_locals c (locals_of c ++ locals_declared c l place) (c.next_variable + length l.variables)

abbrev pub declaration_cases : StatementContext → LocalTree → Pos → List Refusal
declaration_cases c l place = type_cases (cast_type c.surroundings l.typ) l.typ ++ variables_cases c (declared_by c.surroundings l place) l.variables

abbrev pub declaration_trees : StatementContext → LocalTree → Pos → List typed.ExprTree
declaration_trees c l place = initializer_trees c (declared_by c.surroundings l place) l.variables
