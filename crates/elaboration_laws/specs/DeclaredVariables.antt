-- The variables that typed statements declare, in the order of the text: of trees what the model says of the statements of a body.
use Rattle.std.specs.Prelude.{ℕ, List, [], ◌∷◌, ◌++◌, map}
use Rattle.java_typed_trees.specs.declared.statements.DeclaratorShape.{DeclaratorShape}
use Rattle.java_typed_trees.specs.declared.statements.ResourceShape.{ResourceShape}
use Rattle.java_typed_trees.specs.StatementTrees.{CatchForm, InitialForm, StatementForm, StmtTree, StmtTrees, Statement, no_statement, and_statement}
use Rattle.java_typed_trees.specs.StatementTrees as forms

-- the lists one behind another
abbrev pub joined : List (List ℕ) → List ℕ
joined [] = []
joined (xs ∷ rest) = xs ++ joined rest

abbrev pub names_of : List DeclaratorShape → List ℕ
names_of names = map (λ x. x.variable) names

-- JLS 14.14.1
abbrev pub names_in : InitialForm → List ℕ
names_in (forms.Declaration names) = names_of names
names_in (forms.Expressions count) = []

abbrev pub resource_names : List ResourceShape → List ℕ
resource_names resources = map (λ r. r.variable) resources

-- each clause's parameter with what its block declares, and then what the statements behind declare
abbrev pub in_clauses : List CatchForm → List (List ℕ) → List ℕ
in_clauses [] rows = joined rows
in_clauses (c ∷ cs) [] = c.variable ∷ in_clauses cs []
in_clauses (c ∷ cs) (block ∷ rows) = c.variable ∷ (block ++ in_clauses cs rows)

-- JLS 14.20
abbrev pub in_try : List ℕ → List CatchForm → List (List ℕ) → List ℕ
in_try resources catches [] = resources
in_try resources catches (block ∷ rows) = resources ++ block ++ in_clauses catches rows

-- what a statement of the form declares with all in it, where the statements in it declare these
abbrev pub declared_by : StatementForm → List (List ℕ) → List ℕ
declared_by (forms.LocalDeclaration names) rows = names_of names
declared_by (forms.For initial has_condition) rows = names_in initial ++ joined rows
declared_by (forms.Try resources catches has_finally) rows = in_try (resource_names resources) catches rows
declared_by form rows = joined rows

abbrev mutual
  pub variables_within : StmtTree → List ℕ
  variables_within (Statement f place es ss) = declared_by f (variables_of_each ss)

  pub variables_of_each : StmtTrees → List (List ℕ)
  variables_of_each no_statement = []
  variables_of_each (and_statement t ts) = variables_within t ∷ variables_of_each ts

-- those of all statements
abbrev pub variables_declared : StmtTrees → List ℕ
variables_declared ts = joined (variables_of_each ts)
