-- Typed statements that are not refused, with as many parts as their forms take.
use Rattle.std.specs.Prelude.{ℕ, ◌+◌, ◌≡◌, ◌≤◌, Bool, true, false, List, count_by, length}
use Rattle.java_typed_trees.specs.declared.statements.DeclaratorShape.{DeclaratorShape}
use Rattle.java_typed_trees.specs.WellFormed.{AreWellFormed, count}
use Rattle.java_typed_trees.specs.StatementTrees.{InitialForm, Declaration, Expressions, StatementForm, StmtTree, StmtTrees, Statement, no_statement, and_statement}
use Rattle.java_typed_trees.specs.StatementTrees as forms

abbrev pub count_statements : StmtTrees → ℕ
count_statements no_statement = 0
count_statements (and_statement t ts) = 1 + count_statements ts

-- 1 where there is one
abbrev pub one_if : Bool → ℕ
one_if true = 1
one_if false = 0

-- how many of the declared variables have an initialiser
abbrev pub initialized : List DeclaratorShape → ℕ
initialized names = count_by (λ x. x.has_initializer) names

abbrev pub initial_count : InitialForm → ℕ
initial_count (Declaration names) = initialized names
initial_count (Expressions n) = n

-- a statement of the form has so many expressions and so many statements as its parts
abbrev pub TakesParts : StatementForm → ℕ → ℕ → Type 0
TakesParts (forms.Block end) e s = e ≡ 0
TakesParts forms.Empty e s = (e ≡ 0) × (s ≡ 0)
TakesParts (forms.LocalDeclaration names) e s = (e ≡ initialized names) × (s ≡ 0)
TakesParts forms.Expression e s = (e ≡ 1) × (s ≡ 0)
TakesParts (forms.If has_else) e s = (e ≡ 1) × (s ≡ 1 + one_if has_else)
TakesParts forms.While e s = (e ≡ 1) × (s ≡ 1)
TakesParts forms.Do e s = (e ≡ 1) × (s ≡ 1)
TakesParts (forms.For initial has_condition) e s = (initial_count initial + one_if has_condition ≤ e) × (s ≡ 1)
TakesParts (forms.Return has_value) e s = (e ≡ one_if has_value) × (s ≡ 0)
TakesParts forms.Throw e s = (e ≡ 1) × (s ≡ 0)
TakesParts forms.Break e s = (e ≡ 0) × (s ≡ 0)
TakesParts forms.Continue e s = (e ≡ 0) × (s ≡ 0)
TakesParts (forms.Try resources catches has_finally) e s = (e ≡ length resources) × (s ≡ 1 + length catches + one_if has_finally)
TakesParts (forms.SuperCall m written) e s = s ≡ 0
TakesParts forms.FieldInitializer e s = (e ≡ 1) × (s ≡ 0)
TakesParts forms.Erroneous e s = ⊥

abbrev mutual
  -- the statement and all in it have types, and the parts that their forms take
  pub IsWellFormedStatement : StmtTree → Type 0
  IsWellFormedStatement (Statement f place es ss) = TakesParts f (count es) (count_statements ss) × AreWellFormed es × AreWellFormedStatements ss

  pub AreWellFormedStatements : StmtTrees → Type 0
  AreWellFormedStatements no_statement = Unit {0}
  AreWellFormedStatements (and_statement t ts) = IsWellFormedStatement t × AreWellFormedStatements ts
