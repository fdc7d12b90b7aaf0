-- The ways of a control whose first item is such an item. What stands behind that item is `R`, and what the ways leave is `S`.
use Rattle.std.proofs.Common.{◌≡◌, ℕ, ◌+◌, Bool, true, false, Option, Some, None, List, [], ◌∷◌, ◌++◌, map, refl, ap, if◌then◌else◌}
use Rattle.std.proofs.lemmas.List.Elements.{recursion_from_All}
use Rattle.program_model.specs.declared.kinds.BodyId.{BodyId}
use Rattle.program_model.specs.declared.kinds.ClassId.{ClassId}
use Rattle.program_model.specs.declared.kinds.ExprId.{ExprId}
use Rattle.program_model.specs.declared.kinds.StmtId.{StmtId}
use Rattle.program_model.specs.declared.program.Program.{Program}
use Rattle.program_model.specs.declared.tree.Body.{Body}
use Rattle.program_model.specs.declared.tree.CatchClause.{CatchClause}
use Rattle.program_model.specs.declared.tree.TExpr.{TExpr}
use Rattle.program_model.specs.declared.tree.TStmt.{TStmt}
use Rattle.program_model.specs.Heads.{is_head, is_in, is_super_call, is_super_call_kind}
use Rattle.program_model.specs.Lookups.{expression_at, statement_at}
use Rattle.program_model.specs.Trees.{statements_in}
use Rattle.program_model.specs.Validity.{IsValidBody}
use Rattle.rlc_base.specs.declared.place.Pos.{Pos}
use Rattle.java_control.specs.Completions.{at_catch, at_depth, at_loop, at_supp, out}
use Rattle.java_control.specs.Control.{expression_ways, for_ways, loop_ways, statement_ways, ways}
use Rattle.java_control.specs.Exceptions.{action_ways, caught, clauses_in, enters, exceptions_of, goes_on, may_take, takes_wholly, throws}
use Rattle.java_control.specs.Remaining.{Todo, todos, Do, Ev, Act, Cond, NullFork, BoolFork, LoopEnd, For, Leave, Catch, Fin, Close, Finish, Supp, Out, Ended, Way}
use Rattle.java_control.specs.Statements.{close_front, statement_front}
use Rattle.control_actions.specs.declared.action.Action.{Action}
use Rattle.control_actions.specs.declared.action.Action.TheVariants as actions
use Rattle.control_actions.specs.declared.item.Closing.{Closing}
use Rattle.control_actions.specs.declared.action.Completion.{Completion}
use Rattle.control_actions.specs.declared.action.Completion.TheVariants as completions
use Rattle.step_laws.proofs.StartFronts.{calls_this, free_operands, good_condition, good_expression}
use Rattle.step_laws.proofs.StartItems.{AllGood, IsDue, IsFree, IsGood, good_todos}
use Rattle.step_laws.proofs.StartStatements.{HaveNoHead, HavePlainBlocks, clauses_plain, good_for_turn, good_loop_turn, good_statement}

-- the way takes an action that is due, and leaves `S`
abbrev pub LeavesGood : Bool → (List Todo → Type 0) → Way → Type 0
LeavesGood early S w = IsDue early w.action × S w.to

abbrev pub AllLeaveGood : Bool → (List Todo → Type 0) → List Way → Type 0
AllLeaveGood early S [] = Unit {0}
AllLeaveGood early S (w ∷ ws) = LeavesGood early S w × AllLeaveGood early S ws

pub ways_both : (early : Bool) (S : List Todo → Type 0) (vs ws : List Way) → AllLeaveGood early S vs → AllLeaveGood early S ws → AllLeaveGood early S (vs ++ ws)
ways_both early S [] ws first second = second
ways_both early S (v ∷ vs) ws first second = (first.0, ways_both early S vs ws first.1 second)

module _ (p : Program) (b : Body) (n : BodyId) (valid : IsValidBody p n b) (early : Bool) (R S : List Todo → Type 0)
    (cons : (x : Todo) (k : List Todo) → IsGood early b x → R k → R (x ∷ k)) (into : (k : List Todo) → R k → S k) where
  both : (xs k : List Todo) → AllGood early b xs → R k → R (xs ++ k)
  both [] k good rest = rest
  both (x ∷ xs) k good rest = cons x (xs ++ k) good.0 (both xs k good.1 rest)

  front : (xs k : List Todo) → AllGood early b xs → R k → S (xs ++ k)
  front xs k good rest = into (xs ++ k) (both xs k good rest)

  one : (x : Todo) (k : List Todo) → IsGood early b x → R k → S (x ∷ k)
  one x k good rest = into (x ∷ k) (cons x k good rest)

  throwing : (a : Action) (pos : Pos) (k : List Todo) (cs : List ClassId) → IsDue early a → R k → AllLeaveGood early S (map (throws a pos k) cs)
  throwing a pos k [] due rest = tt
  throwing a pos k (c ∷ cs) due rest = ((due, one _ k tt rest), throwing a pos k cs due rest)

  going : (a : Action) (k : List Todo) → IsDue early a → R k → AllLeaveGood early S (goes_on a k)
  going actions.Skip k due rest = ((due, into k rest), tt)
  going (actions.Raise d c) k due rest = tt
  going a k due rest = ((due, into k rest), tt)

  acting : (a : Action) (pos : Pos) (k : List Todo) → IsDue early a → R k → AllLeaveGood early S (action_ways p a pos k)
  acting a pos k due rest = ways_both early S (goes_on a k) (map (throws a pos k) (exceptions_of p a)) (going a k due rest) (throwing a pos k (exceptions_of p a) due rest)

  headless : (s : StmtId) (x : TStmt) → statement_at b s ≡ Some x → HaveNoHead b (statements_in x.kind)
  headless s x at = recursion_from_All (λ t. is_head b t ≡ false) (statements_in x.kind) (valid.statements s x at).headless

  same_kind : (s : StmtId) (x : TStmt) → statement_at b s ≡ Some x → is_super_call b s ≡ is_super_call_kind x.kind
  same_kind s x at = ap (is_in is_super_call_kind) at

  in_statement : (s : StmtId) (d : ℕ) (x : Option TStmt) (k : List Todo) → statement_at b s ≡ x → early ≡ false → is_in is_super_call_kind x ≡ false → R k → AllLeaveGood early S (statement_ways b s d x k)
  in_statement s d None k at late other_kind rest = tt
  in_statement s d (Some x) k at late other_kind rest =
      ((tt, front (statement_front x.kind b s d x.pos) k (good_statement b early late x.kind s d x.pos other_kind (headless s x at)) rest), tt)

  in_expression : (e : ExprId) (d : ℕ) (x : Option TExpr) (k : List Todo) → expression_at b e ≡ x → IsFree early b e → R k → AllLeaveGood early S (expression_ways p b e d x k)
  in_expression e d None k at free rest = tt
  in_expression e d (Some x) k at free rest = ((tt, front _ k (good_expression p b early x.kind e x.vtype d x.pos (calls_this p b x.kind x.vtype (valid.expressions e x at).typed) free (free_operands p b early e x at free)) rest), tt)

  in_loop : (w : StmtId) (d : ℕ) (x : Option TStmt) (k : List Todo) → statement_at b w ≡ x → early ≡ false → R k → AllLeaveGood early S (loop_ways b w d x k)
  in_loop w d None k at late rest = tt
  in_loop w d (Some x) k at late rest = ((tt, front _ k (good_loop_turn b early late x.kind w d (same_kind w x at)) rest), tt)

  in_for : (w : StmtId) (d : ℕ) (x : Option TStmt) (k : List Todo) → statement_at b w ≡ x → early ≡ false → R k → AllLeaveGood early S (for_ways w d x k)
  in_for w d None k at late rest = tt
  in_for w d (Some x) k at late rest = ((tt, front _ k (good_for_turn b early late x.kind w d x.pos (headless w x at)) rest), tt)

  looping : (c : Completion) (w : StmtId) (d : ℕ) (k : List Todo) → early ≡ false → R k → AllLeaveGood early S (at_loop c w d k)
  looping (completions.Break pos) w d k late rest = ((tt, into k rest), tt)
  looping (completions.Continue pos) w d k late rest = ((tt, one _ k late rest), tt)
  looping c w d k late rest = ((tt, one _ k tt rest), tt)

  catching : (s : StmtId) (i : ℕ) (xs : List CatchClause) (d e : ℕ) (t : ClassId) (pos : Pos) (k : List Todo) → early ≡ false → HavePlainBlocks b xs → R k
      → AllLeaveGood early S (caught p b s i xs d e t pos k)
  catching s i [] d e t pos k late plain rest = ((tt, one _ k tt rest), tt)
  catching s i (x ∷ xs) d e t pos k late plain rest =
      go (takes_wholly p t x) (may_take p t x) (tt, into _ (cons _ _ (late, plain.0) (cons _ k tt rest))) (catching s (i + 1) xs d e t pos k late plain.1 rest)
    where
      go : (y z : Bool) → LeavesGood early S (enters b s i d e x k) → AllLeaveGood early S (caught p b s (i + 1) xs d e t pos k)
          → AllLeaveGood early S (if y then enters b s i d e x k ∷ [] else (if z then enters b s i d e x k ∷ caught p b s (i + 1) xs d e t pos k else caught p b s (i + 1) xs d e t pos k))
      go true z here others = (here, tt)
      go false true here others = (here, others)
      go false false here others = others

  plain_clauses : (s : StmtId) (x : Option TStmt) → statement_at b s ≡ x → HavePlainBlocks b (clauses_in x)
  plain_clauses s None at = tt
  plain_clauses s (Some x) at = clauses_plain b x.kind (headless s x at)

  at_catches : (c : Completion) (s : StmtId) (d : ℕ) (k : List Todo) → early ≡ false → R k → AllLeaveGood early S (at_catch c p b s d k)
  at_catches (completions.Break pos) s d k late rest = ((tt, one _ k tt rest), tt)
  at_catches (completions.Throw e t pos) s d k late rest = catching s 0 (clauses_in (statement_at b s)) d e t pos k late (plain_clauses s (statement_at b s) refl) rest
  at_catches c s d k late rest = ((tt, one _ k tt rest), tt)

  at_supps : (waiting c : Completion) (d : ℕ) (k : List Todo) → R k → AllLeaveGood early S (at_supp waiting c d k)
  at_supps (completions.Break pos) c d k rest = ((tt, one _ k tt rest), tt)
  at_supps waiting c d k rest = ((tt, one _ k tt rest), tt)

  closing : (r : Closing) (d : ℕ) → AllGood early b (close_front r d)
  closing r d = (tt, ((tt, (tt, (tt, (tt, tt)))), tt))

  pub going_out : (c : Completion) (x : Todo) (k : List Todo) → IsGood early b x → R k → AllLeaveGood early S (out p b c (x ∷ k))
  going_out c (LoopEnd w d) k good rest = looping c w d k good rest
  going_out c (Leave x pos) k good rest = ((tt, one _ k tt rest), tt)
  going_out c (Catch s d) k good rest = at_catches c s d k good rest
  going_out c (Fin f d) k good rest = ((tt, into _ (cons _ _ good (cons _ k tt rest))), tt)
  going_out c (Close r d) k good rest = ((tt, front (close_front r (d + 1)) (Supp (at_depth c d) d r.statement ∷ k) (closing r (d + 1)) (cons _ k tt rest)), tt)
  going_out c (Finish waiting d f) k good rest = ((tt, one _ k tt rest), tt)
  going_out c (Supp waiting d s) k good rest = at_supps waiting c d k rest
  going_out c x k good rest = ((tt, one _ k tt rest), tt)

  pub first_ways : (x : Todo) (k : List Todo) → IsGood early b x → R k → ((c : Completion) → AllLeaveGood early S (out p b c k)) → AllLeaveGood early S (ways p b (x ∷ k))
  first_ways (Do s d) k good rest outs = in_statement s d (statement_at b s) k refl good.0 good.1 rest
  first_ways (Ev e d) k good rest outs = in_expression e d (expression_at b e) k refl good rest
  first_ways (Act a pos) k good rest outs = acting a pos k good rest
  first_ways (Cond c d x y) k good rest outs = ((tt, front _ k (good_condition p b early x y good.1 good.2 c d good.0) rest), tt)
  first_ways (NullFork pos d x y) k good rest outs =
      ((tt, front (todos x) k (good_todos early b x good.0) rest), ((tt, front (todos y) k (good_todos early b y good.1) rest), tt))
  first_ways (BoolFork pos d x y) k good rest outs =
      ((tt, front (todos x) k (good_todos early b x good.0) rest), ((tt, front (todos y) k (good_todos early b y good.1) rest), tt))
  first_ways (LoopEnd w d) k good rest outs = in_loop w d (statement_at b w) k refl good rest
  first_ways (For w d) k good rest outs = in_for w d (statement_at b w) k refl good rest
  first_ways (Leave x pos) k good rest outs = ((tt, into k rest), tt)
  first_ways (Catch s d) k good rest outs = ((tt, into k rest), tt)
  first_ways (Fin f d) k good rest outs = ((tt, one _ k good rest), tt)
  first_ways (Close r d) k good rest outs = ((tt, front (close_front r d) k (closing r d) rest), tt)
  first_ways (Finish c d f) k good rest outs = ((tt, one _ k tt rest), tt)
  first_ways (Supp c d s) k good rest outs = ((tt, one _ k tt rest), tt)
  first_ways (Out c) k good rest outs = outs c
  first_ways Ended k good rest outs = tt
