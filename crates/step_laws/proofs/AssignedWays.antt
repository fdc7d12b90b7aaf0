-- The steps of a control that has such items alone leave such items, and set neither `this` nor the variable.
use Rattle.std.proofs.Common.{◌≡◌, ℕ, zero, suc, ◌+◌, Bool, true, false, Option, Some, None, List, [], ◌∷◌, ◌++◌, map, slice_get, refl, subst, if◌then◌else◌}
use Rattle.program_model.specs.declared.kinds.ClassId.{ClassId}
use Rattle.program_model.specs.declared.kinds.ExprId.{ExprId}
use Rattle.program_model.specs.declared.kinds.StmtId.{StmtId}
use Rattle.program_model.specs.declared.program.Program.{Program}
use Rattle.program_model.specs.declared.tree.Body.{Body}
use Rattle.program_model.specs.declared.tree.CatchClause.{CatchClause}
use Rattle.program_model.specs.declared.tree.StatementKind.{StatementKind}
use Rattle.program_model.specs.declared.tree.StatementKind.TheVariants as statements
use Rattle.program_model.specs.declared.tree.TExpr.{TExpr}
use Rattle.program_model.specs.declared.tree.TStmt.{TStmt}
use Rattle.program_model.specs.Lookups.{expression_at, statement_at}
use Rattle.program_model.specs.TextOrder.{text_parts}
use Rattle.accepted_programs.specs.Assigned.{assigned_variable}
use Rattle.rlc_base.specs.declared.place.Pos.{Pos}
use Rattle.java_control.specs.Completions.{at_catch, at_depth, at_loop, at_supp, ends, out}
use Rattle.java_control.specs.Control.{expression_ways, for_ways, loop_ways, statement_ways, ways}
use Rattle.java_control.specs.Exceptions.{action_ways, caught, clauses_in, enters, exceptions_of, goes_on, may_take, takes_wholly, throws}
use Rattle.java_control.specs.Remaining.{Todo, todos, Do, Ev, Act, Cond, NullFork, BoolFork, LoopEnd, For, Leave, Catch, Fin, Close, Finish, Supp, Out, Ended, Way}
use Rattle.java_control.specs.Statements.{close_front, first_items, first_items_at, listed_front, statement_front}
use Rattle.control_actions.specs.declared.action.Action.{Action}
use Rattle.control_actions.specs.declared.action.Action.TheVariants as actions
use Rattle.control_actions.specs.declared.action.Completion.{Completion}
use Rattle.control_actions.specs.declared.action.Completion.TheVariants as completions
use Rattle.control_actions.specs.declared.item.Closing.{Closing}
use Rattle.step_laws.proofs.Declared.{AreOtherParts}
use Rattle.step_laws.proofs.AssignedFronts.{good_condition, good_expression, good_for_turn, good_loop_turn, good_statement, good_super}
use Rattle.step_laws.proofs.AssignedItems.{AllGood, good_both, good_todos, touches}
use Rattle.step_laws.proofs.Scopes.{AreOtherClauses, clauses_at, not_dropped}
use Rattle.step_laws.proofs.Unassigned.{IsOther}

-- the way takes an action that sets neither `this` nor the variable, and leaves such items
abbrev pub LeavesGood : Body → ℕ → Way → Type 0
LeavesGood b v w = (touches b v w.action ≡ false) × AllGood b v w.to

abbrev pub AllLeaveGood : Body → ℕ → List Way → Type 0
AllLeaveGood b v [] = Unit {0}
AllLeaveGood b v (w ∷ ws) = LeavesGood b v w × AllLeaveGood b v ws

ways_both : (b : Body) (v : ℕ) (us ws : List Way) → AllLeaveGood b v us → AllLeaveGood b v ws → AllLeaveGood b v (us ++ ws)
ways_both b v [] ws first second = second
ways_both b v (u ∷ us) ws first second = (first.0, ways_both b v us ws first.1 second)

pub way_at : (b : Body) (v : ℕ) (ws : List Way) (i : ℕ) (w : Way) → AllLeaveGood b v ws → slice_get ws i ≡ Some w → LeavesGood b v w
way_at b v [] i w all at = absurd (no_way i w at)
  where
    no_way : (i : ℕ) (w : Way) → slice_get [] i ≡ Some w → ⊥
    no_way zero w is = let never : None ≡ Some w = is in cc
    no_way (suc i) w is = let never : None ≡ Some w = is in cc
way_at b v (u ∷ ws) zero w all at = subst (LeavesGood b v) (let both : Some u ≡ Some w = at in (let same : u ≡ w = cc in same)) all.0
way_at b v (u ∷ ws) (suc i) w all at = way_at b v ws i w all.1 at

module _ (p : Program) (b : Body) (v : ℕ) (assigned : (e : ExprId) (x : TExpr) → expression_at b e ≡ Some x → IsOther v (assigned_variable b x.kind))
    (declared : (s : StmtId) (y : TStmt) → statement_at b s ≡ Some y → AreOtherParts v (text_parts y.kind)) where
  throwing : (a : Action) (pos : Pos) (k : List Todo) (cs : List ClassId) → touches b v a ≡ false → AllGood b v k → AllLeaveGood b v (map (throws a pos k) cs)
  throwing a pos k [] stays good = tt
  throwing a pos k (c ∷ cs) stays good = ((stays, (tt, good)), throwing a pos k cs stays good)

  going : (a : Action) (k : List Todo) → touches b v a ≡ false → AllGood b v k → AllLeaveGood b v (goes_on a k)
  going actions.Skip k stays good = ((stays, good), tt)
  going (actions.Raise d c) k stays good = tt
  going a k stays good = ((stays, good), tt)

  acting : (a : Action) (pos : Pos) (k : List Todo) → touches b v a ≡ false → AllGood b v k → AllLeaveGood b v (action_ways p a pos k)
  acting a pos k stays good = ways_both b v (goes_on a k) (map (throws a pos k) (exceptions_of p a)) (going a k stays good) (throwing a pos k (exceptions_of p a) stays good)

  in_statement : (s : StmtId) (d : ℕ) (x : Option TStmt) (k : List Todo) → statement_at b s ≡ x → AllGood b v k → AllLeaveGood b v (statement_ways b s d x k)
  in_statement s d None k at good = tt
  in_statement s d (Some x) k at good =
      ((refl, good_both b v (statement_front x.kind b s d x.pos) k (good_statement p b v s (not_dropped b v declared s) x.kind d x.pos (declared s x at)) good), tt)

  in_expression : (e : ExprId) (d : ℕ) (x : Option TExpr) (k : List Todo) → expression_at b e ≡ x → AllGood b v k → AllLeaveGood b v (expression_ways p b e d x k)
  in_expression e d None k at good = tt
  in_expression e d (Some x) k at good = ((refl, good_both b v _ k (good_expression p b v x.kind e x.vtype d x.pos (assigned e x at)) good), tt)

  in_loop : (w : StmtId) (d : ℕ) (x : Option TStmt) (k : List Todo) → AllGood b v k → AllLeaveGood b v (loop_ways b w d x k)
  in_loop w d None k good = tt
  in_loop w d (Some x) k good = ((refl, good_both b v _ k (good_loop_turn p b v x.kind w d) good), tt)

  in_for : (w : StmtId) (d : ℕ) (x : Option TStmt) (k : List Todo) → AllGood b v k → AllLeaveGood b v (for_ways w d x k)
  in_for w d None k good = tt
  in_for w d (Some x) k good = ((refl, good_both b v _ k (good_for_turn p b v x.kind w d x.pos) good), tt)

  ending : (c : Completion) → AllLeaveGood b v (ends c)
  ending (completions.Break pos) = tt
  ending (completions.Continue pos) = tt
  ending c = ((refl, (tt, tt)), tt)

  looping : (c : Completion) (w : StmtId) (d : ℕ) (k : List Todo) → AllGood b v k → AllLeaveGood b v (at_loop c w d k)
  looping (completions.Break pos) w d k good = ((refl, good), tt)
  looping c w d k good = ((refl, (tt, good)), tt)

  catching : (s : StmtId) (i : ℕ) (xs : List CatchClause) (d e : ℕ) (t : ClassId) (pos : Pos) (k : List Todo) → AreOtherClauses v xs → AllGood b v k → AllLeaveGood b v (caught p b s i xs d e t pos k)
  catching s i [] d e t pos k others good = ((refl, (tt, good)), tt)
  catching s i (x ∷ xs) d e t pos k others good =
      go (takes_wholly p t x) (may_take p t x) (others.0, (tt, (others.0, good))) (catching s (i + 1) xs d e t pos k others.1 good)
    where
      go : (y z : Bool) → LeavesGood b v (enters b s i d e x k) → AllLeaveGood b v (caught p b s (i + 1) xs d e t pos k)
          → AllLeaveGood b v (if y then enters b s i d e x k ∷ [] else (if z then enters b s i d e x k ∷ caught p b s (i + 1) xs d e t pos k else caught p b s (i + 1) xs d e t pos k))
      go true z here rest = (here, tt)
      go false true here rest = (here, rest)
      go false false here rest = rest

  at_catches : (c : Completion) (s : StmtId) (d : ℕ) (k : List Todo) → AllGood b v k → AllLeaveGood b v (at_catch c p b s d k)
  at_catches (completions.Break pos) s d k good = ((refl, (tt, good)), tt)
  at_catches (completions.Throw e t pos) s d k good = catching s 0 (clauses_in (statement_at b s)) d e t pos k (clauses_at b v declared s) good
  at_catches c s d k good = ((refl, (tt, good)), tt)

  at_supps : (waiting c : Completion) (d : ℕ) (k : List Todo) → AllGood b v k → AllLeaveGood b v (at_supp waiting c d k)
  at_supps (completions.Break pos) c d k good = ((refl, (tt, good)), tt)
  at_supps waiting c d k good = ((refl, (tt, good)), tt)

  closing : (r : Closing) (d : ℕ) → AllGood b v (close_front r d)
  closing r d = (refl, ((tt, (refl, (refl, (refl, tt)))), tt))

  going_out : (c : Completion) (k : List Todo) → AllGood b v k → AllLeaveGood b v (out p b c k)
  going_out c [] good = ending c
  going_out c (LoopEnd w d ∷ k) good = looping c w d k good.1
  going_out c (Leave x pos ∷ k) good = ((good.0, (tt, good.1)), tt)
  going_out c (Catch s d ∷ k) good = at_catches c s d k good.1
  going_out c (Fin f d ∷ k) good = ((refl, (tt, (tt, good.1))), tt)
  going_out c (Close r d ∷ k) good = ((refl, good_both b v (close_front r (d + 1)) (Supp (at_depth c d) d r.statement ∷ k) (closing r (d + 1)) (tt, good.1)), tt)
  going_out c (Finish waiting d f ∷ k) good = ((refl, (tt, good.1)), tt)
  going_out c (Supp waiting d s ∷ k) good = at_supps waiting c d k good.1
  going_out c (x ∷ k) good = ((refl, (tt, good.1)), tt)

  pub all_ways : (k : List Todo) → AllGood b v k → AllLeaveGood b v (ways p b k)
  all_ways [] good = ((refl, (tt, tt)), tt)
  all_ways (Do s d ∷ k) good = in_statement s d (statement_at b s) k refl good.1
  all_ways (Ev e d ∷ k) good = in_expression e d (expression_at b e) k refl good.1
  all_ways (Act a pos ∷ k) good = acting a pos k good.0 good.1
  all_ways (Cond c d x y ∷ k) good = ((refl, good_both b v _ k (good_condition p b v x y good.0.0 good.0.1 c d) good.1), tt)
  all_ways (NullFork pos d x y ∷ k) good =
      ((refl, good_both b v (todos x) k (good_todos b v x good.0.0) good.1), ((refl, good_both b v (todos y) k (good_todos b v y good.0.1) good.1), tt))
  all_ways (BoolFork pos d x y ∷ k) good =
      ((refl, good_both b v (todos x) k (good_todos b v x good.0.0) good.1), ((refl, good_both b v (todos y) k (good_todos b v y good.0.1) good.1), tt))
  all_ways (LoopEnd w d ∷ k) good = in_loop w d (statement_at b w) k good.1
  all_ways (For w d ∷ k) good = in_for w d (statement_at b w) k good.1
  all_ways (Leave x pos ∷ k) good = ((good.0, good.1), tt)
  all_ways (Catch s d ∷ k) good = ((refl, good.1), tt)
  all_ways (Fin f d ∷ k) good = ((refl, (tt, good.1)), tt)
  all_ways (Close r d ∷ k) good = ((refl, good_both b v (close_front r d) k (closing r d) good.1), tt)
  all_ways (Finish c d f ∷ k) good = ((refl, (tt, good.1)), tt)
  all_ways (Supp c d s ∷ k) good = ((refl, (tt, good.1)), tt)
  all_ways (Out c ∷ k) good = going_out c k good.1
  all_ways (Ended ∷ k) good = tt

  good_first : (k : StatementKind) (s : StmtId) (pos : Pos) → AllGood b v (first_items k s pos)
  good_first (statements.Block ss end) s pos = (tt, tt)
  good_first (statements.SuperCall c) s pos = good_super p b v c 0 pos
  good_first (statements.FieldInitializer e) s pos = (tt, (refl, tt))
  good_first k s pos = (tt, tt)

  good_first_at : (s : StmtId) (x : Option TStmt) → AllGood b v (first_items_at s x)
  good_first_at s None = (tt, tt)
  good_first_at s (Some x) = good_first x.kind s x.pos

  pub good_start : (ss : List StmtId) → AllGood b v (listed_front b ss)
  good_start [] = tt
  good_start (s ∷ ss) = good_both b v (first_items_at s (statement_at b s)) (listed_front b ss) (good_first_at s (statement_at b s)) (good_start ss)
