-- Statements (JLS 14), and what their parts leave behind them.
use Rattle.std.specs.Prelude.{ℕ, ◌+◌, Option, Some, None, List, [], ◌∷◌, ◌++◌, map, flat_map, reverse, length}
use Rattle.program_model.specs.declared.kinds.ClassId.{ClassId}
use Rattle.program_model.specs.declared.kinds.ExprId.{ExprId}
use Rattle.program_model.specs.declared.kinds.StmtId.{StmtId}
use Rattle.program_model.specs.declared.kinds.VType.{VType}
use Rattle.program_model.specs.declared.kinds.VType.TheVariants as types
use Rattle.program_model.specs.declared.tree.Body.{Body}
use Rattle.program_model.specs.declared.tree.TStmt.{TStmt}
use Rattle.program_model.specs.declared.tree.Declarator.{Declarator}
use Rattle.program_model.specs.declared.tree.Resource.{Resource}
use Rattle.program_model.specs.declared.tree.CatchClause.{CatchClause}
use Rattle.program_model.specs.declared.tree.TryStatement.{TryStatement}
use Rattle.program_model.specs.declared.tree.SuperCall.{SuperCall}
use Rattle.program_model.specs.declared.tree.ForInitial.{ForInitial}
use Rattle.program_model.specs.declared.tree.ForInitial.TheVariants as initials
use Rattle.program_model.specs.declared.tree.StatementKind.{StatementKind}
use Rattle.program_model.specs.declared.tree.StatementKind.TheVariants as statements
use Rattle.program_model.specs.Lookups.{statement_at, type_at, variable_type}
use Rattle.rlc_base.specs.declared.place.Pos.{Pos}
use Rattle.control_actions.specs.declared.place.Place.TheVariants as places
use Rattle.control_actions.specs.declared.action.Action.TheVariants as actions
use Rattle.control_actions.specs.declared.action.Completion.TheVariants as completions
use Rattle.control_actions.specs.declared.action.PlainValue.TheVariants as plain
use Rattle.control_actions.specs.declared.action.TargetForm.TheVariants as forms
use Rattle.control_actions.specs.declared.action.Scope.TheVariants as scopes
use Rattle.control_actions.specs.declared.item.Closing.{Closing}
use Rattle.control_actions.specs.declared.item.Condition.{Condition}
use Rattle.control_actions.specs.declared.item.Condition.TheVariants as conditions
use Rattle.expression_control.specs.Expressions.{type_or_null, evaluations}
use Rattle.control_actions.specs.Remaining.{Todo, Todos, nil, Do, Ev, Act, Cond, NullFork, LoopEnd, For, Leave, Catch, Fin, Close, Out, one, two, cons, expression_place}

-- a variable without an initialiser begins with its type's default value
abbrev pub declarator_with : Body → ℕ → Option ExprId → ℕ → Pos → List Todo
declarator_with b x None d pos = Act (actions.Plain (places.Var x) (plain.Default (type_or_null (variable_type b x)))) pos ∷ []
declarator_with b x (Some e) d pos = Ev e d ∷ Act (actions.Move (places.Var x) (places.Temp d)) pos ∷ []

abbrev pub declarator_front : Body → ℕ → Declarator → List Todo
declarator_front b d x = declarator_with b x.variable x.initializer d x.pos

abbrev pub declaration_front : Body → ℕ → List Declarator → List Todo
declaration_front b d names = flat_map (declarator_front b d) names

-- the value is dropped
abbrev pub expression_statement : ExprId → ℕ → Pos → List Todo
expression_statement e d pos = Ev e d ∷ Act (actions.Drop (scopes.Temp d)) pos ∷ []

-- the expressions at the head of a `for`, each with its own place
abbrev pub head_front : Body → ℕ → List ExprId → List Todo
head_front b d es = flat_map (λ e. expression_statement e d (expression_place b e)) es

abbrev pub initial_front : Body → ℕ → ForInitial → List Todo
initial_front b d (initials.Declaration names) = declaration_front b d names.items
initial_front b d (initials.Expressions es) = head_front b d es.items

abbrev pub list_of_branch : Option StmtId → ℕ → Todos
list_of_branch None d = nil
list_of_branch (Some s) d = one (Do s d)

abbrev pub return_front : Option ExprId → ℕ → Pos → List Todo
return_front None d pos = Out (completions.Return pos) ∷ []
return_front (Some e) d pos = Ev e d ∷ Out (completions.ReturnValue d pos) ∷ []

abbrev pub class_of_type : Option VType → Option ClassId
class_of_type (Some (types.Obj c)) = Some c
class_of_type _ = None

abbrev pub closing_of : StmtId → Resource → Closing
closing_of s r = record { variable = r.variable; close = r.close; pos = r.pos; statement = s }

abbrev pub opens : ℕ → Resource → List Todo
opens d r = Ev r.initializer d ∷ Act (actions.Move (places.Var r.variable) (places.Temp d)) r.pos ∷ []

abbrev pub closes : StmtId → ℕ → Resource → List Todo
closes s d r = Close (closing_of s r) d ∷ Leave (scopes.Variable r.variable) r.pos ∷ []

-- resources are opened in textual order and closed in the opposite order (JLS 14.20.3)
abbrev pub resources_front : StmtId → TryStatement → ℕ → List Todo
resources_front s t d = flat_map (opens d) t.resources.items ++ Do t.block d ∷ flat_map (closes s d) (reverse t.resources.items)

abbrev pub clauses_front : StmtId → List CatchClause → ℕ → List Todo
clauses_front s [] d = []
clauses_front s (c ∷ cs) d = Catch s d ∷ []

abbrev pub finally_front : Option StmtId → ℕ → List Todo
finally_front None d = []
finally_front (Some f) d = Fin f d ∷ []

abbrev pub try_front : StmtId → TryStatement → ℕ → List Todo
try_front s t d = resources_front s t d ++ clauses_front s t.catches.items d ++ finally_front t.finally d

-- the super class's constructor runs on `this` (JLS 8.8.7.1)
abbrev pub super_front : SuperCall → ℕ → Pos → List Todo
super_front c d pos =
    Act (actions.Copy (places.Temp d) places.This) pos ∷ evaluations c.arguments.items (d + 1)
    ++ Act (actions.Super c.constructor d (length c.arguments.items + 1)) pos ∷ Act (actions.Drop (scopes.Temp d)) pos ∷ []

-- the body of a loop runs where its condition is true, and the end of its turn follows
abbrev pub turn_front : Condition → StmtId → StmtId → ℕ → List Todo
turn_front c x w d = Cond c d (two (Do x d) (LoopEnd w d)) nil ∷ []

-- what a statement becomes. A block's end empties the variables that it declares directly (JLS 6.3)
abbrev pub statement_front : StatementKind → Body → StmtId → ℕ → Pos → List Todo
statement_front (statements.Block ss end) b s d pos = map (λ x. Do x d) ss.items ++ Leave (scopes.Declared s) pos ∷ []
statement_front statements.Empty b s d pos = []
statement_front (statements.LocalDeclaration names) b s d pos = declaration_front b d names.items
statement_front (statements.Expression e) b s d pos = expression_statement e d pos
statement_front (statements.If c x y) b s d pos = Cond (conditions.Of c) d (one (Do x d)) (list_of_branch y d) ∷ []
statement_front (statements.While c x) b s d pos = turn_front (conditions.Of c) x s d
statement_front (statements.Do x c) b s d pos = Do x d ∷ LoopEnd s d ∷ []
statement_front (statements.For l) b s d pos = initial_front b d l.initial ++ For s d ∷ Leave (scopes.Declared s) pos ∷ []
statement_front (statements.Return e) b s d pos = return_front e d pos
statement_front (statements.Throw e) b s d pos = Ev e d ∷ Act (actions.Raise d (class_of_type (type_at b e))) pos ∷ []
statement_front statements.Break b s d pos = Out (completions.Break pos) ∷ []
statement_front statements.Continue b s d pos = Out (completions.Continue pos) ∷ []
statement_front (statements.Try t) b s d pos = try_front s t d
statement_front (statements.SuperCall c) b s d pos = super_front c d pos
statement_front (statements.FieldInitializer e) b s d pos = expression_statement e d pos

-- an absent condition has the place of the `for`
abbrev pub for_condition : Option ExprId → Pos → Condition
for_condition None pos = conditions.Absent pos
for_condition (Some e) pos = conditions.Of e

-- one more turn of a `for` whose first part is done (JLS 14.14.1.2)
abbrev pub for_turn : StatementKind → StmtId → ℕ → Pos → List Todo
for_turn (statements.For l) w d pos = turn_front (for_condition l.condition pos) l.body w d
for_turn _ w d pos = []

-- the end of a loop's turn: a `while` begins again, a `do` asks its condition (JLS 14.13), and a `for` runs its updates
abbrev pub loop_turn : StatementKind → Body → StmtId → ℕ → List Todo
loop_turn (statements.While c x) b w d = Do w d ∷ []
loop_turn (statements.Do x c) b w d = Cond (conditions.Of c) d (one (Do w d)) nil ∷ []
loop_turn (statements.For l) b w d = head_front b d l.updates.items ++ For w d ∷ []
loop_turn _ b w d = []

-- a resource that is not null is closed
abbrev pub close_fork : Closing → ℕ → Todo
close_fork r b = NullFork r.pos b nil (cons (Act (actions.Copy (places.Temp b) (places.Var r.variable)) r.pos)
    (two (Act (actions.Call r.close b 1 forms.Other) r.pos) (Act (actions.Drop (scopes.Temp b)) r.pos)))

abbrev pub close_front : Closing → ℕ → List Todo
close_front r b = Act (actions.Copy (places.Temp b) (places.Var r.variable)) r.pos ∷ close_fork r b ∷ []

-- a body's first items: the super call and the field initialisers of a constructor are expanded at once
abbrev pub first_items : StatementKind → StmtId → Pos → List Todo
first_items (statements.SuperCall c) s pos = super_front c 0 pos
first_items (statements.FieldInitializer e) s pos = expression_statement e 0 pos
first_items _ s pos = Do s 0 ∷ []

abbrev pub first_items_at : StmtId → Option TStmt → List Todo
first_items_at s None = Do s 0 ∷ []
first_items_at s (Some x) = first_items x.kind s x.pos

abbrev pub listed_front : Body → List StmtId → List Todo
listed_front b ss = flat_map (λ s. first_items_at s (statement_at b s)) ss

abbrev pub body_front : Body → List Todo
body_front b = listed_front b b.stmts.items
