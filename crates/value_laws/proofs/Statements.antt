-- What a statement becomes works in temps of its depth or more.
use Rattle.std.proofs.Common.{ℕ, ◌+◌, ◌≤◌, Option, Some, None, List, [], ◌∷◌, ◌++◌, length, map, reverse, flat_map, arith}
use Rattle.rlc_base.specs.declared.place.Pos.{Pos}
use Rattle.program_model.specs.Lookups.{statement_at}
use Rattle.program_model.specs.declared.kinds.ExprId.{ExprId}
use Rattle.program_model.specs.declared.kinds.StmtId.{StmtId}
use Rattle.program_model.specs.declared.tree.Body.{Body}
use Rattle.program_model.specs.declared.tree.CatchClause.{CatchClause}
use Rattle.program_model.specs.declared.tree.Declarator.{Declarator}
use Rattle.program_model.specs.declared.tree.ForInitial.{ForInitial}
use Rattle.program_model.specs.declared.tree.ForInitial.TheVariants as initials
use Rattle.program_model.specs.declared.tree.StatementKind.{StatementKind}
use Rattle.program_model.specs.declared.tree.StatementKind.TheVariants as statements
use Rattle.program_model.specs.declared.tree.SuperCall.{SuperCall}
use Rattle.program_model.specs.declared.tree.TStmt.{TStmt}
use Rattle.program_model.specs.declared.tree.TryStatement.{TryStatement}
use Rattle.control_actions.specs.declared.action.Action.TheVariants as actions
use Rattle.control_actions.specs.declared.action.Scope.TheVariants as scopes
use Rattle.control_actions.specs.declared.item.Closing.{Closing}
use Rattle.control_actions.specs.declared.item.Condition.{Condition}
use Rattle.control_actions.specs.declared.item.Condition.TheVariants as conditions
use Rattle.control_actions.specs.declared.place.Place.TheVariants as places
use Rattle.java_control.specs.Expressions.{evaluations}
use Rattle.java_control.specs.Remaining.{Todo, Do, Act, For, Leave, expression_place}
use Rattle.java_control.specs.Statements.{clauses_front, close_front, closes, declarator_front, declarator_with, expression_statement, finally_front, first_items, first_items_at, for_condition, for_turn, head_front, initial_front, list_of_branch, listed_front, loop_turn, opens, resources_front, return_front, statement_front, super_front, try_front, turn_front}
use Rattle.value_laws.specs.Thrown.{AllFrom, AreFrom}
use Rattle.value_laws.proofs.Fronts.{all_both, evaluations_from, further}

module _ (n : ℕ) (b : Body) where
  flat_from : {X : Type 0} (f : X → List Todo) → ((x : X) → AllFrom n (f x)) → (xs : List X) → AllFrom n (flat_map f xs)
  flat_from f each [] = tt
  flat_from f each (x ∷ xs) = all_both n (f x) (flat_map f xs) (each x) (flat_from f each xs)

  statement_expression : (e : ExprId) (d : ℕ) (pos : Pos) → n ≤ d → AllFrom n (expression_statement e d pos)
  statement_expression e d pos deep = (deep, (deep, tt))

  declarator_from : (d : ℕ) → n ≤ d → (x : Declarator) → AllFrom n (declarator_front b d x)
  declarator_from d deep x = go x.initializer
    where
      go : (e : Option ExprId) → AllFrom n (declarator_with b x.variable e d x.pos)
      go None = (tt, tt)
      go (Some e) = (deep, ((tt, deep), tt))

  head_from : (d : ℕ) → n ≤ d → (es : List ExprId) → AllFrom n (head_front b d es)
  head_from d deep es = flat_from (λ e. expression_statement e d (expression_place b e)) (λ e. statement_expression e d (expression_place b e) deep) es

  initial_from : (d : ℕ) → n ≤ d → (x : ForInitial) → AllFrom n (initial_front b d x)
  initial_from d deep (initials.Declaration names) = flat_from (declarator_front b d) (declarator_from d deep) names.items
  initial_from d deep (initials.Expressions es) = head_from d deep es.items

  resources_from : (s : StmtId) (t : TryStatement) (d : ℕ) → n ≤ d → AllFrom n (resources_front s t d)
  resources_from s t d deep =
      all_both n (flat_map (opens d) t.resources.items) (Do t.block d ∷ flat_map (closes s d) (reverse t.resources.items))
      (flat_from (opens d) (λ r. (deep, ((tt, deep), tt))) t.resources.items)
      (deep, flat_from (closes s d) (λ r. (deep, (tt, tt))) (reverse t.resources.items))

  clauses_from : (s : StmtId) (cs : List CatchClause) (d : ℕ) → n ≤ d → AllFrom n (clauses_front s cs d)
  clauses_from s [] d deep = tt
  clauses_from s (c ∷ cs) d deep = (deep, tt)

  finally_from : (f : Option StmtId) (d : ℕ) → n ≤ d → AllFrom n (finally_front f d)
  finally_from None d deep = tt
  finally_from (Some f) d deep = (deep, tt)

  try_from : (s : StmtId) (t : TryStatement) (d : ℕ) → n ≤ d → AllFrom n (try_front s t d)
  try_from s t d deep =
      all_both n (resources_front s t d ++ clauses_front s t.catches.items d) (finally_front t.finally d)
      (all_both n (resources_front s t d) (clauses_front s t.catches.items d) (resources_from s t d deep) (clauses_from s t.catches.items d deep)) (finally_from t.finally d deep)

  return_from : (e : Option ExprId) (d : ℕ) (pos : Pos) → n ≤ d → AllFrom n (return_front e d pos)
  return_from None d pos deep = (tt, tt)
  return_from (Some e) d pos deep = (deep, (tt, tt))

  dos_from : (d : ℕ) → n ≤ d → (ss : List StmtId) → AllFrom n (map (λ x. Do x d) ss)
  dos_from d deep [] = tt
  dos_from d deep (s ∷ ss) = (deep, dos_from d deep ss)

  branch_from : (y : Option StmtId) (d : ℕ) → n ≤ d → AreFrom n (list_of_branch y d)
  branch_from None d deep = tt
  branch_from (Some s) d deep = (deep, tt)

  turn_from : (c : Condition) (x w : StmtId) (d : ℕ) → n ≤ d → AllFrom n (turn_front c x w d)
  turn_from c x w d deep = ((deep, (deep, (deep, tt)), tt), tt)

  pub close_from : (r : Closing) (d : ℕ) → n ≤ d → AllFrom n (close_front r d)
  close_from r d deep = (deep, ((deep, tt, (deep, (deep, (deep, tt)))), tt))

  pub for_turn_from : (j : StatementKind) (w : StmtId) (d : ℕ) (pos : Pos) → n ≤ d → AllFrom n (for_turn j w d pos)
  for_turn_from (statements.Block ss end) w d pos deep = tt
  for_turn_from (statements.For l) w d pos deep = turn_from (for_condition l.condition pos) l.body w d deep
  for_turn_from j w d pos deep = tt

  pub loop_turn_from : (j : StatementKind) (w : StmtId) (d : ℕ) → n ≤ d → AllFrom n (loop_turn j b w d)
  loop_turn_from (statements.Block ss end) w d deep = tt
  loop_turn_from (statements.While c x) w d deep = (deep, tt)
  loop_turn_from (statements.Do x c) w d deep = ((deep, (deep, tt), tt), tt)
  loop_turn_from (statements.For l) w d deep = all_both n (head_front b d l.updates.items) (For w d ∷ []) (head_from d deep l.updates.items) (deep, tt)
  loop_turn_from j w d deep = tt

  super_from : (c : SuperCall) (d : ℕ) (pos : Pos) → n ≤ d → AllFrom n (super_front c d pos)
  super_from c d pos deep =
      all_both n (Act (actions.Copy (places.Temp d) places.This) pos ∷ evaluations c.arguments.items (d + 1))
      (Act (actions.Super c.constructor d (length c.arguments.items + 1)) pos ∷ Act (actions.Drop (scopes.Temp d)) pos ∷ [])
      (deep, evaluations_from n c.arguments.items (d + 1) (further n d deep)) (deep, (deep, tt))

  pub statement_from : (j : StatementKind) (s : StmtId) (d : ℕ) (pos : Pos) → n ≤ d → AllFrom n (statement_front j b s d pos)
  statement_from (statements.Block ss end) s d pos deep = all_both n (map (λ x. Do x d) ss.items) (Leave (scopes.Declared s) pos ∷ []) (dos_from d deep ss.items) (tt, tt)
  statement_from statements.Empty s d pos deep = tt
  statement_from (statements.LocalDeclaration names) s d pos deep = flat_from (declarator_front b d) (declarator_from d deep) names.items
  statement_from (statements.Expression e) s d pos deep = statement_expression e d pos deep
  statement_from (statements.If c x y) s d pos deep = ((deep, (deep, tt), branch_from y d deep), tt)
  statement_from (statements.While c x) s d pos deep = turn_from (conditions.Of c) x s d deep
  statement_from (statements.Do x c) s d pos deep = (deep, (deep, tt))
  statement_from (statements.For l) s d pos deep =
      all_both n (initial_front b d l.initial) (For s d ∷ Leave (scopes.Declared s) pos ∷ []) (initial_from d deep l.initial) (deep, (tt, tt))
  statement_from (statements.Return e) s d pos deep = return_from e d pos deep
  statement_from (statements.Throw e) s d pos deep = (deep, (deep, tt))
  statement_from statements.Break s d pos deep = (tt, tt)
  statement_from statements.Continue s d pos deep = (tt, tt)
  statement_from (statements.Try t) s d pos deep = try_from s t d deep
  statement_from (statements.SuperCall c) s d pos deep = super_from c d pos deep
  statement_from (statements.FieldInitializer e) s d pos deep = statement_expression e d pos deep

first_from : (b : Body) (j : StatementKind) (s : StmtId) (pos : Pos) → AllFrom 0 (first_items j s pos)
first_from b (statements.Block ss end) s pos = (omega arith, tt)
first_from b (statements.SuperCall c) s pos = super_from 0 b c 0 pos (omega arith)
first_from b (statements.FieldInitializer e) s pos = statement_expression 0 b e 0 pos (omega arith)
first_from b j s pos = (omega arith, tt)

first_at : (b : Body) (s : StmtId) (x : Option TStmt) → AllFrom 0 (first_items_at s x)
first_at b s None = (omega arith, tt)
first_at b s (Some x) = first_from b x.kind s x.pos

pub start_from : (b : Body) (ss : List StmtId) → AllFrom 0 (listed_front b ss)
start_from b ss = flat_from 0 b (λ s. first_items_at s (statement_at b s)) (λ s. first_at b s (statement_at b s)) ss
