-- The variables whose scope ends with a block or a `for` statement (JLS 6.3), and the places that are emptied together.
use Rattle.std.specs.Prelude.{ℕ, Bool, false, nat_lt, nat_eq, Option, Some, None, List}
use Rattle.std.specs.List.{list_any}
use Rattle.program_model.specs.declared.tree.Body.{Body}
use Rattle.program_model.specs.declared.tree.TStmt.{TStmt}
use Rattle.program_model.specs.declared.tree.Declarator.{Declarator}
use Rattle.program_model.specs.declared.tree.ForInitial.{ForInitial}
use Rattle.program_model.specs.declared.tree.ForInitial.TheVariants as initials
use Rattle.program_model.specs.declared.tree.StatementKind.{StatementKind}
use Rattle.program_model.specs.declared.tree.StatementKind.TheVariants as statements
use Rattle.program_model.specs.Lookups.{statement_at}
use Rattle.control_actions.specs.declared.action.Scope.{Scope}
use Rattle.control_actions.specs.declared.action.Scope.TheVariants as scopes
use Rattle.control_actions.specs.declared.place.Place.{Place}
use Rattle.control_actions.specs.declared.place.Place.TheVariants as places

-- one of the declared names is the variable `x`
abbrev pub is_named : ℕ → List Declarator → Bool
is_named x names = list_any (λ (name : Declarator). nat_eq name.variable x) names

-- the statement is a declaration of the variable (JLS 14.4)
abbrev pub declares : ℕ → StatementKind → Bool
declares x (statements.LocalDeclaration names) = is_named x names.items
declares x _ = false

abbrev pub declares_at : ℕ → Option TStmt → Bool
declares_at x None = false
declares_at x (Some s) = declares x s.kind

abbrev pub head_declares : ℕ → ForInitial → Bool
head_declares x (initials.Declaration names) = is_named x names.items
head_declares x (initials.Expressions es) = false

-- the variable is declared directly in the block, or in the head of the `for`
abbrev pub declares_directly : Body → ℕ → StatementKind → Bool
declares_directly b x (statements.Block ss end) = list_any (λ s. declares_at x (statement_at b s)) ss.items
declares_directly b x (statements.For l) = head_declares x l.initial
declares_directly b x _ = false

abbrev pub declares_directly_at : Body → ℕ → Option TStmt → Bool
declares_directly_at b x None = false
declares_directly_at b x (Some s) = declares_directly b x s.kind

-- the scope has the variable
abbrev pub drops_variable : Body → Scope → ℕ → Bool
drops_variable b (scopes.Declared s) x = declares_directly_at b x (statement_at b s)
drops_variable b (scopes.Variable y) x = nat_eq y x
drops_variable b (scopes.Temp d) x = false
drops_variable b (scopes.TempsAbove d) x = false

-- the scope has the temp of the depth
abbrev pub drops_temp : Scope → ℕ → Bool
drops_temp (scopes.Declared s) d = false
drops_temp (scopes.Variable y) d = false
drops_temp (scopes.Temp e) d = nat_eq e d
drops_temp (scopes.TempsAbove e) d = nat_lt e d

-- the place is one of those that are emptied together
abbrev pub is_dropped : Body → Scope → Place → Bool
is_dropped b x (places.Var i) = drops_variable b x i
is_dropped b x places.This = false
is_dropped b x (places.Field k) = false
is_dropped b x (places.Temp d) = drops_temp x d
is_dropped b x places.Super = false
