-- The variables that a body's statements declare, in the order of the text.
use Rattle.std.specs.Prelude.{◌≡◌, ◌+◌, ℕ, zero, suc, Option, Some, None, List, [], ◌∷◌, ◌++◌, map, flat_map, length}
use Rattle.std.specs.Option.{IsSomeAnd}
use Rattle.program_model.specs.declared.program.Program.{Program}
use Rattle.program_model.specs.declared.tree.Body.{Body}
use Rattle.program_model.specs.declared.tree.TStmt.{TStmt}
use Rattle.program_model.specs.declared.tree.Declarator.{Declarator}
use Rattle.program_model.specs.declared.tree.CatchClause.{CatchClause}
use Rattle.program_model.specs.declared.tree.TryStatement.{TryStatement}
use Rattle.program_model.specs.declared.tree.ForInitial.{ForInitial}
use Rattle.program_model.specs.declared.tree.ForInitial.TheVariants as initials
use Rattle.program_model.specs.declared.tree.TextPart.{TextPart}
use Rattle.program_model.specs.declared.tree.TextPart.TheVariants.{Statement, Variable}
use Rattle.program_model.specs.declared.tree.StatementKind.{StatementKind}
use Rattle.program_model.specs.declared.tree.StatementKind.TheVariants as statements
use Rattle.program_model.specs.Lookups.{method_at, optional, statement_at}
use Rattle.program_model.specs.Trees.{statements_in}

abbrev pub declarator_parts : List Declarator → List TextPart
declarator_parts names = map (λ x. Variable x.variable) names

abbrev pub initial_parts : ForInitial → List TextPart
initial_parts (initials.Declaration names) = declarator_parts names.items
initial_parts (initials.Expressions es) = []

-- a clause's variable stands before its block
abbrev pub clause_parts : CatchClause → List TextPart
clause_parts c = Variable c.variable ∷ Statement c.block ∷ []

abbrev pub try_parts : TryStatement → List TextPart
try_parts t = map (λ r. Variable r.variable) t.resources.items ++ Statement t.block ∷ flat_map clause_parts t.catches.items ++ map Statement (optional t.finally)

-- the parts of a statement in the order of the text. Local declarations (JLS 14.4), the heads of `for` (JLS 14.14.1),
-- resources and catch clauses (JLS 14.20) declare variables, and no other statement does
abbrev pub text_parts : StatementKind → List TextPart
text_parts (statements.LocalDeclaration names) = declarator_parts names.items
text_parts (statements.For l) = initial_parts l.initial ++ Statement l.body ∷ []
text_parts (statements.Try t) = try_parts t
text_parts kind = map Statement (statements_in kind)

abbrev pub parts_at : Option TStmt → List TextPart
parts_at None = []
parts_at (Some x) = text_parts x.kind

-- the variables that a part and all within it declare, down to this depth
abbrev pub variables_of : ℕ → Body → TextPart → List ℕ
variables_of depth b (Variable x) = x ∷ []
variables_of zero b (Statement s) = []
variables_of (suc depth) b (Statement s) = flat_map (variables_of depth b) (parts_at (statement_at b s))

-- the variables that a body's statements declare: in a tree nothing is deeper than there are statements
abbrev pub declared_variables : Body → List ℕ
declared_variables b = flat_map (variables_of (length b.statements.items) b) (map Statement b.stmts.items)

-- these are the numbers from the first up to the end, each once and in order
abbrev pub IsCount : ℕ → ℕ → List ℕ → Type 0
IsCount first end [] = first ≡ end
IsCount first end (x ∷ xs) = (x ≡ first) × IsCount (first + 1) end xs

-- behind the parameters the body's variables are those that its statements declare, each once, in the order of the text
abbrev pub HasVariablesInOrder : Program → Body → Type 0
HasVariablesInOrder p b = IsSomeAnd (method_at p b.method) (λ m. IsCount (length m.sig.params.items) (length b.vars.items) (declared_variables b))
