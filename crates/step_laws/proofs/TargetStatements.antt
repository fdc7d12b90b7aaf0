-- What a statement of a valid program becomes finds `this`, where what follows it does and relies on no temp.
use Rattle.std.proofs.Common.{◌≡◌, ℕ, ◌+◌, Option, Some, None, List, [], ◌∷◌, ◌++◌, IsSomeAnd, length, map, reverse, flat_map, inr, refl, arith}
use Rattle.std.specs.Prelude.{◌⊎◌}
use Rattle.program_model.specs.declared.kinds.ExprId.{ExprId}
use Rattle.program_model.specs.declared.kinds.MethodKind.TheVariants as methods
use Rattle.program_model.specs.declared.kinds.StmtId.{StmtId}
use Rattle.program_model.specs.declared.program.Method.{Method}
use Rattle.program_model.specs.declared.program.Program.{Program}
use Rattle.program_model.specs.declared.tree.Body.{Body}
use Rattle.program_model.specs.declared.tree.CatchClause.{CatchClause}
use Rattle.program_model.specs.declared.tree.Declarator.{Declarator}
use Rattle.program_model.specs.declared.tree.ForInitial.{ForInitial}
use Rattle.program_model.specs.declared.tree.ForInitial.TheVariants as initials
use Rattle.program_model.specs.declared.tree.Resource.{Resource}
use Rattle.program_model.specs.declared.tree.StatementKind.{StatementKind}
use Rattle.program_model.specs.declared.tree.StatementKind.TheVariants as statements
use Rattle.program_model.specs.declared.tree.SuperCall.{SuperCall}
use Rattle.program_model.specs.declared.tree.TryStatement.{TryStatement}
use Rattle.program_model.specs.Lookups.{class_at, method_at}
use Rattle.program_model.specs.Typing.{IsConstruction, IsSuperCall, IsTypedStatement}
use Rattle.rlc_base.specs.declared.place.Pos.{Pos}
use Rattle.java_control.specs.Remaining.{Todo, Do, Act, Leave, For, expression_place}
use Rattle.java_control.specs.Expressions.{evaluations}
use Rattle.java_control.specs.Statements.{clauses_front, close_front, closes, declaration_front, declarator_front, declarator_with, expression_statement, finally_front, for_condition, for_turn, head_front, initial_front, list_of_branch, loop_turn, opens, resources_front, return_front, statement_front, super_front, try_front, turn_front}
use Rattle.control_actions.specs.declared.action.Action.TheVariants as actions
use Rattle.control_actions.specs.declared.action.Scope.TheVariants as scopes
use Rattle.control_actions.specs.declared.item.Closing.{Closing}
use Rattle.control_actions.specs.declared.item.Condition.{Condition}
use Rattle.control_actions.specs.declared.item.Condition.TheVariants as conditions
use Rattle.control_actions.specs.declared.place.Place.TheVariants as places
use Rattle.step_laws.specs.Targets.{FindsThis, ItemsFind, RunsOnThis, below, below_and_at, nowhere_held}
use Rattle.step_laws.proofs.TargetItems.{evaluations_find, finds_aside, from_none, in_three}

-- the items find `this` before whatever does and relies on no temp
abbrev pub Serves : Program → Body → List Todo → Type 1
Serves p b xs = (k : List Todo) (h : ℕ → Type 0) → FindsThis p b k nowhere_held → FindsThis p b (xs ++ k) h

module _ (p : Program) (b : Body) where
  pub none_serves : Serves p b []
  none_serves k h finds = from_none p b k h finds

  pub both_serve : (xs ys : List Todo) → Serves p b xs → Serves p b ys → Serves p b (xs ++ ys)
  both_serve xs ys first second k h finds = in_three p b xs ys k h (first (ys ++ k) h (second k nowhere_held finds))

  flat_serves : {X : Type 0} (f : X → List Todo) → ((x : X) → Serves p b (f x)) → (xs : List X) → Serves p b (flat_map f xs)
  flat_serves f each [] = none_serves
  flat_serves f each (x ∷ xs) = both_serve (f x) (flat_map f xs) (each x) (flat_serves f each xs)

  pub statement_expression : (e : ExprId) (d : ℕ) (pos : Pos) → Serves p b (expression_statement e d pos)
  statement_expression e d pos k h finds = (tt, from_none p b k _ finds)

  declarator_serves : (d : ℕ) (x : Declarator) → Serves p b (declarator_front b d x)
  declarator_serves d x = go x.initializer
    where
      go : (e : Option ExprId) → Serves p b (declarator_with b x.variable e d x.pos)
      go None k h finds = (tt, from_none p b k h finds)
      go (Some e) k h finds = (tt, finds)

  declaration_serves : (d : ℕ) (names : List Declarator) → Serves p b (declaration_front b d names)
  declaration_serves d names = flat_serves (declarator_front b d) (declarator_serves d) names

  head_serves : (d : ℕ) (es : List ExprId) → Serves p b (head_front b d es)
  head_serves d es = flat_serves (λ e. expression_statement e d (expression_place b e)) (λ e. statement_expression e d (expression_place b e)) es

  initial_serves : (d : ℕ) (x : ForInitial) → Serves p b (initial_front b d x)
  initial_serves d (initials.Declaration names) = declaration_serves d names.items
  initial_serves d (initials.Expressions es) = head_serves d es.items

  opens_serves : (d : ℕ) (r : Resource) → Serves p b (opens d r)
  opens_serves d r k h finds = (tt, finds)

  closes_serves : (s : StmtId) (d : ℕ) (r : Resource) → Serves p b (closes s d r)
  closes_serves s d r k h finds = finds

  block_serves : (d : ℕ) (s : StmtId) (xs : List Todo) → Serves p b xs → Serves p b (Do s d ∷ xs)
  block_serves d s xs rest k h finds = rest k nowhere_held finds

  resources_serve : (s : StmtId) (t : TryStatement) (d : ℕ) → Serves p b (resources_front s t d)
  resources_serve s t d =
      both_serve (flat_map (opens d) t.resources.items) (Do t.block d ∷ flat_map (closes s d) (reverse t.resources.items))
      (flat_serves (opens d) (opens_serves d) t.resources.items)
      (block_serves d t.block (flat_map (closes s d) (reverse t.resources.items)) (flat_serves (closes s d) (closes_serves s d) (reverse t.resources.items)))

  clauses_serve : (s : StmtId) (cs : List CatchClause) (d : ℕ) → Serves p b (clauses_front s cs d)
  clauses_serve s [] d k h finds = none_serves k h finds
  clauses_serve s (c ∷ cs) d k h finds = finds

  finally_serves : (f : Option StmtId) (d : ℕ) → Serves p b (finally_front f d)
  finally_serves None d k h finds = none_serves k h finds
  finally_serves (Some f) d k h finds = finds

  try_serves : (s : StmtId) (t : TryStatement) (d : ℕ) → Serves p b (try_front s t d)
  try_serves s t d =
      both_serve (resources_front s t d ++ clauses_front s t.catches.items d) (finally_front t.finally d)
      (both_serve (resources_front s t d) (clauses_front s t.catches.items d) (resources_serve s t d) (clauses_serve s t.catches.items d)) (finally_serves t.finally d)

  return_serves : (e : Option ExprId) (d : ℕ) (pos : Pos) → Serves p b (return_front e d pos)
  return_serves None d pos k h finds = finds_aside p b k nowhere_held finds
  return_serves (Some e) d pos k h finds = finds_aside p b k nowhere_held finds

  dos_serve : (d : ℕ) (ss : List StmtId) → Serves p b (map (λ x. Do x d) ss)
  dos_serve d [] = none_serves
  dos_serve d (s ∷ ss) = block_serves d s (map (λ x. Do x d) ss) (dos_serve d ss)

  branch_finds : (y : Option StmtId) (d : ℕ) (k : List Todo) (h : ℕ → Type 0) → FindsThis p b k nowhere_held → ItemsFind p b (list_of_branch y d) (FindsThis p b k) h
  branch_finds None d k h finds = from_none p b k h finds
  branch_finds (Some s) d k h finds = finds

  turn_serves : (c : Condition) (x w : StmtId) (d : ℕ) → Serves p b (turn_front c x w d)
  turn_serves c x w d k h finds = (finds, from_none p b k (below d h) finds)

  pub close_serves : (r : Closing) (d : ℕ) → Serves p b (close_front r d)
  close_serves r d k h finds = (tt, (from_none p b k _ finds, (tt, (tt, (tt, from_none p b k _ finds)))))

  pub for_turn_serves : (j : StatementKind) (w : StmtId) (d : ℕ) (pos : Pos) → Serves p b (for_turn j w d pos)
  for_turn_serves (statements.Block ss end) w d pos = none_serves
  for_turn_serves (statements.For l) w d pos = turn_serves (for_condition l.condition pos) l.body w d
  for_turn_serves j w d pos = none_serves

  pub loop_turn_serves : (j : StatementKind) (w : StmtId) (d : ℕ) → Serves p b (loop_turn j b w d)
  loop_turn_serves (statements.Block ss end) w d k h finds = none_serves k h finds
  loop_turn_serves (statements.While c x) w d k h finds = finds
  loop_turn_serves (statements.Do x c) w d k h finds = (finds, from_none p b k (below d h) finds)
  loop_turn_serves (statements.For l) w d k h finds = both_serve (head_front b d l.updates.items) (For w d ∷ []) (head_serves d l.updates.items) (λ j g rest. rest) k h finds
  loop_turn_serves j w d k h finds = none_serves k h finds

  -- a body with a super constructor call is a constructor's
  runs_constructor : (c : SuperCall) → IsSuperCall p b c → RunsOnThis p b
  runs_constructor c is = go (method_at p b.method) is
    where
      go : (m : Option Method) → IsSomeAnd m (λ x. (x.kind ≡ methods.Ctor) × IsSomeAnd (class_at p x.class) (λ k. IsSomeAnd k.sup (λ d. IsConstruction p b d c.constructor c.arguments.items)))
          → IsSomeAnd m (λ x. (x.kind ≡ methods.Instance) ⊎ (x.kind ≡ methods.Ctor))
      go None has = absurd has
      go (Some x) has = inr has.0

  module _ (c : SuperCall) (d : ℕ) (pos : Pos) where
    abbrev call_and_drop : List Todo
    call_and_drop = Act (actions.Super c.constructor d (length c.arguments.items + 1)) pos ∷ Act (actions.Drop (scopes.Temp d)) pos ∷ []

    pub super_serves : IsSuperCall p b c → Serves p b (super_front c d pos)
    super_serves is k h finds =
        in_three p b (Act (actions.Copy (places.Temp d) places.This) pos ∷ evaluations c.arguments.items (d + 1)) call_and_drop k h (
          tt,
          evaluations_find p b c.arguments.items (d + 1) (call_and_drop ++ k) (below_and_at d (Unit {0}) h)
              (((omega arith, inr (refl, tt)), runs_constructor c is, omega arith), (tt, from_none p b k _ finds)),
        )

  pub statement_serves : (j : StatementKind) (s : StmtId) (d : ℕ) (pos : Pos) → IsTypedStatement p b j → Serves p b (statement_front j b s d pos)
  statement_serves (statements.Block ss end) s d pos is k h finds = both_serve (map (λ x. Do x d) ss.items) (Leave (scopes.Declared s) pos ∷ []) (dos_serve d ss.items) none_serves k h finds
  statement_serves statements.Empty s d pos is k h finds = none_serves k h finds
  statement_serves (statements.LocalDeclaration names) s d pos is k h finds = declaration_serves d names.items k h finds
  statement_serves (statements.Expression e) s d pos is k h finds = statement_expression e d pos k h finds
  statement_serves (statements.If c x y) s d pos is k h finds = (finds, branch_finds y d k (below d h) finds)
  statement_serves (statements.While c x) s d pos is k h finds = turn_serves (conditions.Of c) x s d k h finds
  statement_serves (statements.Do x c) s d pos is k h finds = finds
  statement_serves (statements.For l) s d pos is k h finds =
      both_serve (initial_front b d l.initial) (For s d ∷ Leave (scopes.Declared s) pos ∷ []) (initial_serves d l.initial) (λ j g rest. rest) k h finds
  statement_serves (statements.Return e) s d pos is k h finds = return_serves e d pos k h finds
  statement_serves (statements.Throw e) s d pos is k h finds = (tt, from_none p b k _ finds)
  statement_serves statements.Break s d pos is k h finds = finds_aside p b k nowhere_held finds
  statement_serves statements.Continue s d pos is k h finds = finds_aside p b k nowhere_held finds
  statement_serves (statements.Try t) s d pos is k h finds = try_serves s t d k h finds
  statement_serves (statements.SuperCall c) s d pos is k h finds = super_serves c d pos is k h finds
  statement_serves (statements.FieldInitializer e) s d pos is k h finds = statement_expression e d pos k h finds
