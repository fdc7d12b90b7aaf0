-- Each step keeps that no exception that the test finds gets out, and that a `finally` whose end is reached can complete normally.
use Rattle.std.proofs.Common.{◌≡◌, ◌∙◌, ◌⊎◌, ◌++◌, ◌∷◌, [], ℕ, List, Bool, true, false, Option, Some, None, inl, inr, refl, sym, ap, subst}
use Rattle.std.specs.Prelude.{◌&&◌}
use Rattle.std.specs.List.{list_all, list_any}
use Rattle.program_model.specs.declared.kinds.ClassId.{ClassId}
use Rattle.program_model.specs.declared.kinds.ExprId.{ExprId}
use Rattle.program_model.specs.declared.kinds.StmtId.{StmtId}
use Rattle.program_model.specs.declared.program.Program.{Program}
use Rattle.program_model.specs.declared.tree.Body.{Body}
use Rattle.program_model.specs.declared.tree.CatchClause.{CatchClause}
use Rattle.program_model.specs.declared.tree.StatementKind.{StatementKind}
use Rattle.program_model.specs.declared.tree.StatementKind.TheVariants as statements
use Rattle.program_model.specs.declared.tree.TExpr.{TExpr}
use Rattle.program_model.specs.declared.tree.TryStatement.{TryStatement}
use Rattle.program_model.specs.declared.tree.TStmt.{TStmt}
use Rattle.program_model.specs.Lookups.{expression_at, optional, statement_at}
use Rattle.program_model.specs.Trees.{expressions_in, operands, statements_in}
use Rattle.rlc_base.specs.declared.place.Pos.{Pos}
use Rattle.control_actions.specs.declared.action.Action.{Action}
use Rattle.control_actions.specs.declared.action.Action.TheVariants as actions
use Rattle.control_actions.specs.declared.item.Condition.{Condition}
use Rattle.control_actions.specs.declared.item.Condition.TheVariants as conditions
use Rattle.java_control.specs.Conditions.{condition_front}
use Rattle.java_control.specs.Control.{expression_ways, for_ways, loop_ways, statement_ways}
use Rattle.java_control.specs.Exceptions.{clauses_in, clauses_of_kind}
use Rattle.java_control.specs.Expressions.{expression_front}
use Rattle.java_control.specs.Statements.{clauses_front, finally_front, for_condition, for_turn, head_front, loop_turn, resources_front, statement_front, try_front}
use Rattle.java_control.specs.Remaining.{Todo, Todos, Do, Ev, Cond, LoopEnd, For, Way, one, nil, skip, todos}
use Rattle.accepted_programs.specs.Completions.{completion}
use Rattle.accepted_programs.specs.Exceptions.{exceptions_in, expression_exceptions, protected_exceptions, statement_exceptions, thrown_by_call, thrown_by_statement}
use Rattle.accepted_programs.specs.TreeOrder.{PartsComeFirst}
use Rattle.accepted_programs.proofs.Depths.{thrown_law, value_law}
use Rattle.exception_laws.proofs.Conditions.{condition_ends}
use Rattle.exception_laws.proofs.ExpressionFronts.{Quiet, quiet_condition, values}
use Rattle.exception_laws.proofs.ExpressionFronts as value_fronts
use Rattle.exception_laws.proofs.Finishes.{Finishes, finishes_done, finishes_instead}
use Rattle.exception_laws.proofs.Handlers.{IsSafe, all_fit, class_out, fit, fits, condition_exceptions, gets_out, in_front, in_front_of, thrown_in}
use Rattle.accepted_programs.proofs.Lists.{None', all_join, alone, and_one, and_two, left, right}
use Rattle.exception_laws.proofs.Outcomes.{Arrival, after, after_all, after_in, after_listed, normally, plainly}
use Rattle.exception_laws.proofs.StatementFronts.{inner, nothing, quiet_head, quiet_protected, quiet_turn, safe_try}
use Rattle.exception_laws.proofs.StatementFronts as statement_fronts
use Rattle.exception_laws.proofs.StatementOutcomes.{for_ends, turn_ends, via_statement}

-- what is left to run lets no exception out that the test finds, and reaches the end of no `finally` that cannot complete normally
pub record Keeps (p : Program) (b : Body) (u : ClassId → Bool) (k : List Todo) : Type 0 where
  pub safe : IsSafe p b u k
  pub finishes : Finishes b (λ q. q normally) k

-- where the action ends the frame by an exception, the test does not find that
abbrev pub EndsWell : (ClassId → Bool) → Action → Type 0
EndsWell u (actions.End c) = None' u (class_out c)
EndsWell u a = Unit {0}

pub record KeepsWay (p : Program) (b : Body) (u : ClassId → Bool) (w : Way) : Type 0 where
  pub to : Keeps p b u w.to
  pub ends : EndsWell u w.action

abbrev pub EachWay : (Way → Type 0) → List Way → Type 0
EachWay P [] = Unit {0}
EachWay P (w ∷ ws) = P w × EachWay P ws

pub each_joined : (P : Way → Type 0) (xs ys : List Way) → EachWay P xs → EachWay P ys → EachWay P (xs ++ ys)
each_joined P [] ys h h' = h'
each_joined P (x ∷ xs) ys h h' = (h.0, each_joined P xs ys h.1 h')

pub skipped : (p : Program) (b : Body) (u : ClassId → Bool) (k : List Todo) → Keeps p b u k → EachWay (KeepsWay p b u) (skip k)
skipped p b u k h = (record { to = h; ends = tt }, tt)

-- items take the place of the first one
pub instead : (p : Program) (b : Body) (u : ClassId → Bool) (x : Todo) (xs k : List Todo) → Quiet false p b (gets_out p b u k) xs → ((q : Arrival → Type 0) → after_all b xs q normally → after b x q normally) → Keeps p b u (x ∷ k) → Keeps p b u (xs ++ k)
instead p b u x xs k quiet less h = record { safe = in_front p b u xs k quiet h.safe.1; finishes = finishes_instead b x xs k quiet.1 less h.finishes }

pub done : (p : Program) (b : Body) (u : ClassId → Bool) (x : Todo) (k : List Todo) → ((q : Arrival → Type 0) → q normally → after b x q normally) → Keeps p b u (x ∷ k) → Keeps p b u k
done p b u x k less h = record { safe = h.safe.1; finishes = finishes_done b x k less h.finishes }

-- ---- statements

try_fits : (p : Program) (b : Body) (s : StmtId) (t : TryStatement) (d : ℕ) → list_all (fits false) (try_front s t d) ≡ true
try_fits p b s t d = all_join (fits false) (resources_front s t d ++ clauses_front s t.catches.items d) (finally_front t.finally d) (all_join (fits false) (resources_front s t d) (clauses_front s t.catches.items d) ((quiet_protected p b (λ c. false) s t d (nothing (protected_exceptions (expression_exceptions p b) (statement_exceptions p b) p t))).1) (clauses_fit t.catches.items)) (finally_fits t.finally)
  where
    clauses_fit : (cs : List CatchClause) → list_all (fits false) (clauses_front s cs d) ≡ true
    clauses_fit [] = refl
    clauses_fit (c ∷ cs) = refl

    finally_fits : (f : Option StmtId) → list_all (fits false) (finally_front f d) ≡ true
    finally_fits None = refl
    finally_fits (Some f) = refl

-- what a statement that is no `try` becomes
keeps_plain : (p : Program) (b : Body) (u : ClassId → Bool) (kind : StatementKind) (s : StmtId) (d : ℕ) (pos : Pos) (k : List Todo) → ((t : TryStatement) → kind ≡ statements.Try t → ⊥) → None' (gets_out p b u k) (thrown_by_statement p b kind ++ values p b (expressions_in kind) ++ inner p b (statements_in kind)) → ((q : Arrival → Type 0) → after_all b (statement_front kind b s d pos) q normally → after b (Do s d) q normally) → Keeps p b u (Do s d ∷ k) → Keeps p b u (statement_front kind b s d pos ++ k)
keeps_plain p b u kind s d pos k other h less keeps = instead p b u (Do s d) (statement_front kind b s d pos) k (statement_fronts.quiet_kind p b (gets_out p b u k) kind s d pos (λ t is. absurd (other t is)) keeps.safe.0.0 h) less keeps

keeps_kind : (p : Program) (b : Body) (u : ClassId → Bool) (kind : StatementKind) (s : StmtId) (x : TStmt) → statement_at b s ≡ Some x → x.kind ≡ kind → (d : ℕ) (pos : Pos) (k : List Todo) → None' (gets_out p b u k) (exceptions_in (expression_exceptions p b) (statement_exceptions p b) (completion b) p b kind) → ((q : Arrival → Type 0) → after_all b (statement_front kind b s d pos) q normally → after b (Do s d) q normally) → Keeps p b u (Do s d ∷ k) → Keeps p b u (statement_front kind b s d pos ++ k)
keeps_kind p b u (statements.Block ss end) s x here is d pos k h less keeps = keeps_plain p b u (statements.Block ss end) s d pos k (λ t e. cc) h less keeps
keeps_kind p b u statements.Empty s x here is d pos k h less keeps = keeps_plain p b u statements.Empty s d pos k (λ t e. cc) h less keeps
keeps_kind p b u (statements.LocalDeclaration names) s x here is d pos k h less keeps = keeps_plain p b u (statements.LocalDeclaration names) s d pos k (λ t e. cc) h less keeps
keeps_kind p b u (statements.Expression e) s x here is d pos k h less keeps = keeps_plain p b u (statements.Expression e) s d pos k (λ t e. cc) h less keeps
keeps_kind p b u (statements.If c y z) s x here is d pos k h less keeps = keeps_plain p b u (statements.If c y z) s d pos k (λ t e. cc) h less keeps
keeps_kind p b u (statements.While c y) s x here is d pos k h less keeps = keeps_plain p b u (statements.While c y) s d pos k (λ t e. cc) h less keeps
keeps_kind p b u (statements.Do y c) s x here is d pos k h less keeps = keeps_plain p b u (statements.Do y c) s d pos k (λ t e. cc) h less keeps
keeps_kind p b u (statements.For l) s x here is d pos k h less keeps = keeps_plain p b u (statements.For l) s d pos k (λ t e. cc) h less keeps
keeps_kind p b u (statements.Return e) s x here is d pos k h less keeps = keeps_plain p b u (statements.Return e) s d pos k (λ t e. cc) h less keeps
keeps_kind p b u (statements.Throw e) s x here is d pos k h less keeps = keeps_plain p b u (statements.Throw e) s d pos k (λ t e. cc) h less keeps
keeps_kind p b u statements.Break s x here is d pos k h less keeps = keeps_plain p b u statements.Break s d pos k (λ t e. cc) h less keeps
keeps_kind p b u statements.Continue s x here is d pos k h less keeps = keeps_plain p b u statements.Continue s d pos k (λ t e. cc) h less keeps
keeps_kind p b u (statements.Try t) s x here is d pos k h less keeps = record {
  safe = safe_try p b u s t (ap clauses_in here ∙ ap clauses_of_kind is) d k h keeps.safe.1;
  finishes = finishes_instead b (Do s d) (try_front s t d) k (try_fits p b s t d) less keeps.finishes;
}
keeps_kind p b u (statements.SuperCall c) s x here is d pos k h less keeps = keeps_plain p b u (statements.SuperCall c) s d pos k (λ t e. cc) h less keeps
keeps_kind p b u (statements.FieldInitializer e) s x here is d pos k h less keeps = keeps_plain p b u (statements.FieldInitializer e) s d pos k (λ t e. cc) h less keeps

pub statement_step : (p : Program) (b : Body) → PartsComeFirst b → (u : ClassId → Bool) (s : StmtId) (d : ℕ) (o : Option TStmt) → statement_at b s ≡ o → (k : List Todo) → Keeps p b u (Do s d ∷ k) → EachWay (KeepsWay p b u) (statement_ways b s d o k)
statement_step p b first u s d None here k h = tt
statement_step p b first u s d (Some x) here k h =
    skipped p b u (statement_front x.kind b s d x.pos ++ k) (keeps_kind p b u x.kind s x here refl d x.pos k (ap (list_any (gets_out p b u k)) (sym (thrown_law p b first s x here)) ∙ h.safe.0.0) (λ q r. via_statement p b first s x here d q r) h)

-- ---- loops

-- what the next turn of a loop throws
quiet_loop : (p : Program) (b : Body) (v : ClassId → Bool) (kind : StatementKind) (w : StmtId) (d : ℕ) → None' v (statement_exceptions p b w) → None' v (exceptions_in (expression_exceptions p b) (statement_exceptions p b) (completion b) p b kind) → Quiet false p b v (loop_turn kind b w d)
quiet_loop p b v (statements.While c y) w d h h' = (alone v (statement_exceptions p b w) h, refl)
quiet_loop p b v (statements.Do y c) w d h h' = statement_fronts.quiet_choice p b v (conditions.Of c) d (one (Do w d)) nil (left v (expression_exceptions p b c) [] (left v (values p b (c ∷ [])) (inner p b (y ∷ [])) h')) (alone v (statement_exceptions p b w) h, refl) (refl, refl)
quiet_loop p b v (statements.For l) w d h h' = value_fronts.quiet_joined false p b v (head_front b d l.updates.items) (For w d ∷ []) (quiet_head false p b v d l.updates.items (statement_fronts.for_parts p b v l h').2) (alone v (statement_exceptions p b w) h, refl)
quiet_loop p b v (statements.Block ss end) w d h h' = (refl, refl)
quiet_loop p b v statements.Empty w d h h' = (refl, refl)
quiet_loop p b v (statements.LocalDeclaration names) w d h h' = (refl, refl)
quiet_loop p b v (statements.Expression e) w d h h' = (refl, refl)
quiet_loop p b v (statements.If c y z) w d h h' = (refl, refl)
quiet_loop p b v (statements.Return e) w d h h' = (refl, refl)
quiet_loop p b v (statements.Throw e) w d h h' = (refl, refl)
quiet_loop p b v statements.Break w d h h' = (refl, refl)
quiet_loop p b v statements.Continue w d h h' = (refl, refl)
quiet_loop p b v (statements.Try t) w d h h' = (refl, refl)
quiet_loop p b v (statements.SuperCall c) w d h h' = (refl, refl)
quiet_loop p b v (statements.FieldInitializer e) w d h h' = (refl, refl)

quiet_for_condition : (p : Program) (b : Body) (v : ClassId → Bool) (e : Option ExprId) (pos : Pos) → None' v (values p b (optional e)) → None' v (condition_exceptions p b (for_condition e pos))
quiet_for_condition p b v None pos h = refl
quiet_for_condition p b v (Some e) pos h = left v (expression_exceptions p b e) [] h

quiet_for_turn : (p : Program) (b : Body) (v : ClassId → Bool) (kind : StatementKind) (w : StmtId) (d : ℕ) (pos : Pos) → None' v (statement_exceptions p b w) → None' v (exceptions_in (expression_exceptions p b) (statement_exceptions p b) (completion b) p b kind) → Quiet false p b v (for_turn kind w d pos)
quiet_for_turn p b v (statements.For l) w d pos h h' =
    let parts = statement_fronts.for_parts p b v l h' in
    quiet_turn p b v (for_condition l.condition pos) l.body w d (quiet_for_condition p b v l.condition pos parts.1) parts.3 h
quiet_for_turn p b v (statements.While c y) w d pos h h' = (refl, refl)
quiet_for_turn p b v (statements.Do y c) w d pos h h' = (refl, refl)
quiet_for_turn p b v (statements.Block ss end) w d pos h h' = (refl, refl)
quiet_for_turn p b v statements.Empty w d pos h h' = (refl, refl)
quiet_for_turn p b v (statements.LocalDeclaration names) w d pos h h' = (refl, refl)
quiet_for_turn p b v (statements.Expression e) w d pos h h' = (refl, refl)
quiet_for_turn p b v (statements.If c y z) w d pos h h' = (refl, refl)
quiet_for_turn p b v (statements.Return e) w d pos h h' = (refl, refl)
quiet_for_turn p b v (statements.Throw e) w d pos h h' = (refl, refl)
quiet_for_turn p b v statements.Break w d pos h h' = (refl, refl)
quiet_for_turn p b v statements.Continue w d pos h h' = (refl, refl)
quiet_for_turn p b v (statements.Try t) w d pos h h' = (refl, refl)
quiet_for_turn p b v (statements.SuperCall c) w d pos h h' = (refl, refl)
quiet_for_turn p b v (statements.FieldInitializer e) w d pos h h' = (refl, refl)

pub loop_step : (p : Program) (b : Body) → PartsComeFirst b → (u : ClassId → Bool) (w : StmtId) (d : ℕ) (o : Option TStmt) → statement_at b w ≡ o → (k : List Todo) → Keeps p b u (LoopEnd w d ∷ k) → EachWay (KeepsWay p b u) (loop_ways b w d o k)
loop_step p b first u w d None here k h = tt
loop_step p b first u w d (Some x) here k h =
    let v : ClassId → Bool = gets_out p b u k in
    skipped p b u (loop_turn x.kind b w d ++ k) (instead p b u (LoopEnd w d) (loop_turn x.kind b w d) k (quiet_loop p b v x.kind w d h.safe.0.0 (ap (list_any v) (sym (thrown_law p b first w x here)) ∙ h.safe.0.0)) (λ q r. turn_ends p b first w x here d q r) h)

pub for_step : (p : Program) (b : Body) → PartsComeFirst b → (u : ClassId → Bool) (w : StmtId) (d : ℕ) (o : Option TStmt) → statement_at b w ≡ o → (k : List Todo) → Keeps p b u (For w d ∷ k) → EachWay (KeepsWay p b u) (for_ways w d o k)
for_step p b first u w d None here k h = tt
for_step p b first u w d (Some x) here k h =
    let v : ClassId → Bool = gets_out p b u k in
    skipped p b u (for_turn x.kind w d x.pos ++ k) (instead p b u (For w d) (for_turn x.kind w d x.pos) k (quiet_for_turn p b v x.kind w d x.pos h.safe.0.0 (ap (list_any v) (sym (thrown_law p b first w x here)) ∙ h.safe.0.0)) (λ q r. for_ends b first w x here d q r) h)

-- ---- expressions and conditions

pub expression_step : (p : Program) (b : Body) → PartsComeFirst b → (u : ClassId → Bool) (e : ExprId) (d : ℕ) (o : Option TExpr) → expression_at b e ≡ o → (k : List Todo) → Keeps p b u (Ev e d ∷ k) → EachWay (KeepsWay p b u) (expression_ways p b e d o k)
expression_step p b first u e d None here k h = tt
expression_step p b first u e d (Some x) here k h =
    let v : ClassId → Bool = gets_out p b u k in
    let front : List Todo = expression_front x.kind p b e x.vtype d x.pos in
    let all : List ClassId = thrown_by_call p x.kind ++ values p b (operands x.kind) in
    let quiet : Quiet false p b v front = value_fronts.quiet_kind false p b v x.kind e x.vtype d x.pos h.safe.0.0 (ap (list_any v) (sym (value_law p b first e x here)) ∙ h.safe.0.0) in
    let plain : list_all (fits true) front ≡ true = (value_fronts.quiet_kind true p b (λ c. false) x.kind e x.vtype d x.pos (nothing (expression_exceptions p b e)) (nothing all)).1 in
    skipped p b u (front ++ k) (instead p b u (Ev e d) front k quiet (λ q r. plainly b front q plain r) h)

pub condition_step : (p : Program) (b : Body) → PartsComeFirst b → (u : ClassId → Bool) (c : Condition) (d : ℕ) (x y : Todos) (k : List Todo) → Keeps p b u (Cond c d x y ∷ k) → EachWay (KeepsWay p b u) (skip (condition_front b c d x y ++ k))
condition_step p b first u c d x y k h =
    let v : ClassId → Bool = gets_out p b u k in
    let test : List ClassId = condition_exceptions p b c in
    let both : None' v (thrown_in p b x ++ thrown_in p b y) = right v test (thrown_in p b x ++ thrown_in p b y) h.safe.0.0 in
    let fx : fit false x ≡ true = and_one (fit false x) (fit false y) h.safe.0.1 in
    let fy : fit false y ≡ true = and_two (fit false x) (fit false y) h.safe.0.1 in
    let quiet : Quiet false p b v (condition_front b c d x y) = quiet_condition false p b first v c d x y (left v test (thrown_in p b x ++ thrown_in p b y) h.safe.0.0) (left v (thrown_in p b x) (thrown_in p b y) both, fx) (right v (thrown_in p b x) (thrown_in p b y) both, fy) in
    skipped p b u (condition_front b c d x y ++ k) (instead p b u (Cond c d x y) (condition_front b c d x y) k quiet (λ q r. condition_ends b c d x y q r) h)

-- one side of a test
side : (p : Program) (b : Body) (u : ClassId → Bool) (item : Todo) (x : Todos) (k : List Todo) → None' (gets_out p b u k) (thrown_in p b x) → fit false x ≡ true → ((q : Arrival → Type 0) → after_in b x q normally → after b item q normally) → Keeps p b u (item ∷ k) → Keeps p b u (todos x ++ k)
side p b u item x k h on less keeps = record {
  safe = in_front_of p b u x k h on keeps.safe.1;
  finishes = finishes_instead b item (todos x) k (all_fit false x on) (λ q r. less q (subst (λ (f : Arrival → Type 0). f normally) (after_listed b x q) r)) keeps.finishes;
}

pub fork_step : (p : Program) (b : Body) (u : ClassId → Bool) (item : Todo) (x y : Todos) (k : List Todo) (first second : Way) → first.to ≡ todos x ++ k → second.to ≡ todos y ++ k → EndsWell u first.action → EndsWell u second.action → None' (gets_out p b u k) (thrown_in p b x ++ thrown_in p b y) → (fit false x && fit false y) ≡ true → ((q : Arrival → Type 0) → after_in b x q normally ⊎ after_in b y q normally → after b item q normally) → Keeps p b u (item ∷ k) → EachWay (KeepsWay p b u) (first ∷ second ∷ [])
fork_step p b u item x y k first second fx sx ef es h on less keeps =
    let v : ClassId → Bool = gets_out p b u k in (
      record { to = subst (λ (z : List Todo). Keeps p b u z) (sym fx) (side p b u item x k (left v (thrown_in p b x) (thrown_in p b y) h) (and_one (fit false x) (fit false y) on) (λ q r. less q (inl r)) keeps); ends = ef },
      (record { to = subst (λ (z : List Todo). Keeps p b u z) (sym sx) (side p b u item y k (right v (thrown_in p b x) (thrown_in p b y) h) (and_two (fit false x) (fit false y) on) (λ q r. less q (inr r)) keeps); ends = es }, tt),
    )
