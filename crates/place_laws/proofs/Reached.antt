-- Each control that a body reaches has such items alone, and its steps are well typed.
use Rattle.std.proofs.Common.{◌≡◌, ℕ, zero, suc, ◌+◌, Bool, true, false, Option, Some, None, List, [], ◌∷◌, ◌++◌, map, slice_get, option_map, refl, sym, ap, ◌∙◌, subst, if◌then◌else◌}
use Rattle.std.proofs.lemmas.Option.{slice_get-map}
use Rattle.program_model.specs.declared.kinds.BodyId.{BodyId}
use Rattle.program_model.specs.declared.kinds.ClassId.{ClassId}
use Rattle.program_model.specs.declared.kinds.ExprId.{ExprId}
use Rattle.program_model.specs.declared.kinds.StmtId.{StmtId}
use Rattle.program_model.specs.declared.program.Program.{Program}
use Rattle.program_model.specs.declared.tree.Body.{Body}
use Rattle.program_model.specs.declared.tree.CatchClause.{CatchClause}
use Rattle.program_model.specs.declared.tree.StatementKind.{StatementKind}
use Rattle.program_model.specs.declared.tree.StatementKind.TheVariants as statements
use Rattle.program_model.specs.declared.tree.TExpr.{TExpr}
use Rattle.program_model.specs.declared.tree.TStmt.{TStmt}
use Rattle.program_model.specs.Lookups.{body_at, expression_at, statement_at}
use Rattle.program_model.specs.Validity.{IsTypedProgram, IsValidBody}
use Rattle.rlc_base.specs.declared.place.Pos.{Pos}
use Rattle.java_control.specs.Completions.{at_catch, at_depth, at_loop, at_supp, ends, out}
use Rattle.java_control.specs.Control.{Step, control_place, expression_ways, for_ways, loop_ways, next_of, start_in, start_of, statement_ways, step_at, steps_in, ways}
use Rattle.java_control.specs.Exceptions.{action_ways, caught, clauses_in, enters, exceptions_of, goes_on, may_take, takes_wholly, throws}
use Rattle.java_control.specs.Remaining.{Todo, todos, Do, Ev, Act, Cond, NullFork, BoolFork, LoopEnd, For, Leave, Catch, Fin, Close, Finish, Supp, Out, Ended, Way}
use Rattle.java_control.specs.Statements.{close_front, first_items, first_items_at, listed_front, statement_front}
use Rattle.control_actions.specs.declared.action.Action.{Action}
use Rattle.control_actions.specs.declared.action.Action.TheVariants as actions
use Rattle.control_actions.specs.declared.item.Closing.{Closing}
use Rattle.control_actions.specs.declared.action.Completion.{Completion}
use Rattle.control_actions.specs.declared.action.Completion.TheVariants as completions
use Rattle.step_laws.specs.Paths.{Comes, Move, move_of, on, relation_of, start}
use Rattle.place_laws.specs.Typed.{GivesResult, MovesLocals, NamesMembers}
use Rattle.place_laws.proofs.Fronts.{good_condition, good_expression, good_for_turn, good_loop_turn, good_statement, good_super}
use Rattle.place_laws.proofs.Items.{AllGood, IsWellTyped, good_both, good_todos}

-- the way takes an action that is well typed, and leaves such items
abbrev pub LeavesGood : Program → Body → Way → Type 0
LeavesGood p b w = IsWellTyped p b w.action × AllGood p b w.to

abbrev pub AllLeaveGood : Program → Body → List Way → Type 0
AllLeaveGood p b [] = Unit {0}
AllLeaveGood p b (w ∷ ws) = LeavesGood p b w × AllLeaveGood p b ws

ways_both : (p : Program) (b : Body) (vs ws : List Way) → AllLeaveGood p b vs → AllLeaveGood p b ws → AllLeaveGood p b (vs ++ ws)
ways_both p b [] ws first second = second
ways_both p b (v ∷ vs) ws first second = (first.0, ways_both p b vs ws first.1 second)

way_at : (p : Program) (b : Body) (ws : List Way) (i : ℕ) (w : Way) → AllLeaveGood p b ws → slice_get ws i ≡ Some w → LeavesGood p b w
way_at p b [] i w all at = absurd (no_way i w at)
  where
    no_way : (i : ℕ) (w : Way) → slice_get [] i ≡ Some w → ⊥
    no_way zero w is = let never : None ≡ Some w = is in cc
    no_way (suc i) w is = let never : None ≡ Some w = is in cc
way_at p b (v ∷ ws) zero w all at = subst (LeavesGood p b) (let both : Some v ≡ Some w = at in (let same : v ≡ w = cc in same)) all.0
way_at p b (v ∷ ws) (suc i) w all at = way_at p b ws i w all.1 at

module _ (p : Program) (b : Body) (n : BodyId) (valid : IsValidBody p n b) where
  throwing : (a : Action) (pos : Pos) (k : List Todo) (cs : List ClassId) → IsWellTyped p b a → AllGood p b k → AllLeaveGood p b (map (throws a pos k) cs)
  throwing a pos k [] names good = tt
  throwing a pos k (c ∷ cs) names good = ((names, (tt, good)), throwing a pos k cs names good)

  going : (a : Action) (k : List Todo) → IsWellTyped p b a → AllGood p b k → AllLeaveGood p b (goes_on a k)
  going actions.Skip k names good = ((names, good), tt)
  going (actions.Raise d c) k names good = tt
  going a k names good = ((names, good), tt)

  acting : (a : Action) (pos : Pos) (k : List Todo) → IsWellTyped p b a → AllGood p b k → AllLeaveGood p b (action_ways p a pos k)
  acting a pos k names good = ways_both p b (goes_on a k) (map (throws a pos k) (exceptions_of p a)) (going a k names good) (throwing a pos k (exceptions_of p a) names good)

  in_statement : (s : StmtId) (d : ℕ) (x : Option TStmt) (k : List Todo) → statement_at b s ≡ x → AllGood p b k → AllLeaveGood p b (statement_ways b s d x k)
  in_statement s d None k at good = tt
  in_statement s d (Some x) k at good =
      (((tt, tt), good_both p b (statement_front x.kind b s d x.pos) k (good_statement p b x.kind s d x.pos (valid.statements s x at).typed) good), tt)

  in_expression : (e : ExprId) (d : ℕ) (x : Option TExpr) (k : List Todo) → expression_at b e ≡ x → AllGood p b k → AllLeaveGood p b (expression_ways p b e d x k)
  in_expression e d None k at good = tt
  in_expression e d (Some x) k at good = (((tt, tt), good_both p b _ k (good_expression p b (λ y z there. (valid.expressions y z there).typed) x.kind e x.vtype d x.pos (valid.expressions e x at).typed) good), tt)

  in_loop : (w : StmtId) (d : ℕ) (x : Option TStmt) (k : List Todo) → AllGood p b k → AllLeaveGood p b (loop_ways b w d x k)
  in_loop w d None k good = tt
  in_loop w d (Some x) k good = (((tt, tt), good_both p b _ k (good_loop_turn p b x.kind w d) good), tt)

  in_for : (w : StmtId) (d : ℕ) (x : Option TStmt) (k : List Todo) → AllGood p b k → AllLeaveGood p b (for_ways w d x k)
  in_for w d None k good = tt
  in_for w d (Some x) k good = (((tt, tt), good_both p b _ k (good_for_turn p b x.kind w d x.pos) good), tt)

  ending : (c : Completion) → GivesResult p b c → AllLeaveGood p b (ends c)
  ending (completions.Break pos) gives = tt
  ending (completions.Continue pos) gives = tt
  ending c gives = (((tt, gives), (tt, tt)), tt)

  -- so does a completion whose value has another depth
  at_other_depth : (c : Completion) (d : ℕ) → GivesResult p b c → GivesResult p b (at_depth c d)
  at_other_depth (completions.Break pos) d gives = tt
  at_other_depth (completions.Continue pos) d gives = tt
  at_other_depth (completions.Return pos) d gives = tt
  at_other_depth (completions.ReturnValue k pos) d gives = gives
  at_other_depth (completions.Throw k t pos) d gives = tt

  looping : (c : Completion) (w : StmtId) (d : ℕ) (k : List Todo) → GivesResult p b c → AllGood p b k → AllLeaveGood p b (at_loop c w d k)
  looping (completions.Break pos) w d k gives good = (((tt, tt), good), tt)
  looping (completions.Continue pos) w d k gives good = (((tt, tt), (tt, good)), tt)
  looping c w d k gives good = (((tt, tt), (gives, good)), tt)

  catching : (s : StmtId) (i : ℕ) (xs : List CatchClause) (d e : ℕ) (t : ClassId) (pos : Pos) (k : List Todo) → AllGood p b k → AllLeaveGood p b (caught p b s i xs d e t pos k)
  catching s i [] d e t pos k good = (((tt, tt), (tt, good)), tt)
  catching s i (x ∷ xs) d e t pos k good = go (takes_wholly p t x) (may_take p t x) ((tt, tt), (tt, (tt, good))) (catching s (i + 1) xs d e t pos k good)
    where
      go : (y z : Bool) → LeavesGood p b (enters b s i d e x k) → AllLeaveGood p b (caught p b s (i + 1) xs d e t pos k)
          → AllLeaveGood p b (if y then enters b s i d e x k ∷ [] else (if z then enters b s i d e x k ∷ caught p b s (i + 1) xs d e t pos k else caught p b s (i + 1) xs d e t pos k))
      go true z here rest = (here, tt)
      go false true here rest = (here, rest)
      go false false here rest = rest

  at_catches : (c : Completion) (s : StmtId) (d : ℕ) (k : List Todo) → GivesResult p b c → AllGood p b k → AllLeaveGood p b (at_catch c p b s d k)
  at_catches (completions.Break pos) s d k gives good = (((tt, tt), (tt, good)), tt)
  at_catches (completions.Throw e t pos) s d k gives good = catching s 0 (clauses_in (statement_at b s)) d e t pos k good
  at_catches c s d k gives good = (((tt, tt), (gives, good)), tt)

  at_supps : (waiting c : Completion) (d : ℕ) (k : List Todo) → GivesResult p b c → AllGood p b k → AllLeaveGood p b (at_supp waiting c d k)
  at_supps (completions.Break pos) c d k gives good = (((tt, tt), (at_other_depth c d gives, good)), tt)
  at_supps (completions.Throw e t pos) c d k gives good = (((tt, tt), (tt, good)), tt)
  at_supps waiting c d k gives good = (((tt, tt), (at_other_depth c d gives, good)), tt)

  closing : (r : Closing) (d : ℕ) → AllGood p b (close_front r d)
  closing r d = ((refl, tt), ((tt, ((refl, tt), ((tt, tt), ((tt, tt), tt)))), tt))

  going_out : (c : Completion) (k : List Todo) → GivesResult p b c → AllGood p b k → AllLeaveGood p b (out p b c k)
  going_out c [] gives good = ending c gives
  going_out c (LoopEnd w d ∷ k) gives good = looping c w d k gives good.1
  going_out c (Leave x pos ∷ k) gives good = (((tt, tt), (gives, good.1)), tt)
  going_out c (Catch s d ∷ k) gives good = at_catches c s d k gives good.1
  going_out c (Fin f d ∷ k) gives good = (((tt, tt), (tt, (at_other_depth c d gives, good.1))), tt)
  going_out c (Close r d ∷ k) gives good =
      (((tt, tt), good_both p b (close_front r (d + 1)) (Supp (at_depth c d) d r.statement ∷ k) (closing r (d + 1)) (at_other_depth c d gives, good.1)), tt)
  going_out c (Finish waiting d f ∷ k) gives good = (((tt, tt), (at_other_depth c d gives, good.1)), tt)
  going_out c (Supp waiting d s ∷ k) gives good = at_supps waiting c d k gives good.1
  going_out c (x ∷ k) gives good = (((tt, tt), (gives, good.1)), tt)

  pub all_ways : (k : List Todo) → AllGood p b k → AllLeaveGood p b (ways p b k)
  all_ways [] good = (((tt, tt), (tt, tt)), tt)
  all_ways (Do s d ∷ k) good = in_statement s d (statement_at b s) k refl good.1
  all_ways (Ev e d ∷ k) good = in_expression e d (expression_at b e) k refl good.1
  all_ways (Act a pos ∷ k) good = acting a pos k good.0 good.1
  all_ways (Cond c d x y ∷ k) good = (((tt, tt), good_both p b _ k (good_condition p b x y good.0.0 good.0.1 c d) good.1), tt)
  all_ways (NullFork pos d x y ∷ k) good =
      (((tt, tt), good_both p b (todos x) k (good_todos p b x good.0.0) good.1), (((tt, tt), good_both p b (todos y) k (good_todos p b y good.0.1) good.1), tt))
  all_ways (BoolFork pos d x y ∷ k) good =
      (((tt, tt), good_both p b (todos x) k (good_todos p b x good.0.0) good.1), (((tt, tt), good_both p b (todos y) k (good_todos p b y good.0.1) good.1), tt))
  all_ways (LoopEnd w d ∷ k) good = in_loop w d (statement_at b w) k good.1
  all_ways (For w d ∷ k) good = in_for w d (statement_at b w) k good.1
  all_ways (Leave x pos ∷ k) good = (((tt, tt), good.1), tt)
  all_ways (Catch s d ∷ k) good = (((tt, tt), good.1), tt)
  all_ways (Fin f d ∷ k) good = (((tt, tt), (tt, good.1)), tt)
  all_ways (Close r d ∷ k) good = (((tt, tt), good_both p b (close_front r d) k (closing r d) good.1), tt)
  all_ways (Finish c d f ∷ k) good = (((tt, tt), (good.0, good.1)), tt)
  all_ways (Supp c d s ∷ k) good = (((tt, tt), (good.0, good.1)), tt)
  all_ways (Out c ∷ k) good = going_out c k good.0 good.1
  all_ways (Ended ∷ k) good = tt

  good_first : (k : StatementKind) (s : StmtId) (pos : Pos) → AllGood p b (first_items k s pos)
  good_first (statements.Block ss end) s pos = (tt, tt)
  good_first (statements.SuperCall c) s pos = good_super p b c 0 pos
  good_first (statements.FieldInitializer e) s pos = (tt, ((tt, tt), tt))
  good_first k s pos = (tt, tt)

  good_first_at : (s : StmtId) (x : Option TStmt) → AllGood p b (first_items_at s x)
  good_first_at s None = (tt, tt)
  good_first_at s (Some x) = good_first x.kind s x.pos

  pub good_start : (ss : List StmtId) → AllGood p b (listed_front b ss)
  good_start [] = tt
  good_start (s ∷ ss) = good_both p b (first_items_at s (statement_at b s)) (listed_front b ss) (good_first_at s (statement_at b s)) (good_start ss)

-- ---- reached controls

step_of_way : (pos : Pos) (ws : List Way) (i : ℕ) (t : Step) → slice_get (map (step_at pos) ws) i ≡ Some t → (w : Way) × (slice_get ws i ≡ Some w) × (step_at pos w ≡ t)
step_of_way pos ws i t at = go (slice_get ws i) refl (sym (slice_get-map (step_at pos) ws i) ∙ at)
  where
    go : (w : Option Way) → slice_get ws i ≡ w → option_map (step_at pos) w ≡ Some t → (w : Way) × (slice_get ws i ≡ Some w) × (step_at pos w ≡ t)
    go None before same = absurd (let never : None ≡ Some t = same in cc)
    go (Some w) before same = (w, before, (let both : step_at pos w ≡ t = cc in both))

module _ (p : Program) (typed : IsTypedProgram p) (b : BodyId) (x : Body) (at : body_at p b ≡ Some x) where
  good_step : (k : List Todo) (i : ℕ) (t : Step) → AllGood p x k → slice_get (next_of p b k) i ≡ Some t → IsWellTyped p x t.action × AllGood p x t.to
  unfolding next_of
  good_step k i t good there =
      let w = step_of_way (control_place x k) (ways p x k) i t (ap (λ (y : Option Body). slice_get (steps_in p y k) i) (sym at) ∙ there) in
      let leaves = way_at p x (ways p x k) i w.0 (all_ways p x b (typed.bodies b x at) k good) w.1 in
      subst (λ (s : Step). IsWellTyped p x s.action × AllGood p x s.to) w.2 leaves

  move_back : (k : List Todo) (i : ℕ) (t : Move (List Todo)) → slice_get ((relation_of p b).next k) i ≡ Some t → (s : Step) × (slice_get (next_of p b k) i ≡ Some s) × (move_of s ≡ t)
  move_back k i t there = go (slice_get (next_of p b k) i) refl (sym (slice_get-map move_of (next_of p b k) i) ∙ there)
    where
      go : (s : Option Step) → slice_get (next_of p b k) i ≡ s → option_map move_of s ≡ Some t → (s : Step) × (slice_get (next_of p b k) i ≡ Some s) × (move_of s ≡ t)
      go None before same = absurd (let never : None ≡ Some t = same in cc)
      go (Some s) before same = (s, before, (let both : move_of s ≡ t = cc in both))

  good_move : (k : List Todo) (i : ℕ) (t : Move (List Todo)) → AllGood p x k → slice_get ((relation_of p b).next k) i ≡ Some t → IsWellTyped p x t.action × AllGood p x t.to
  good_move k i t good there =
      let s = move_back k i t there in
      subst (λ (u : Move (List Todo)). IsWellTyped p x u.action × AllGood p x u.to) s.2 (good_step k i s.0 good s.1)

  start_is_good : AllGood p x (start_of p b)
  unfolding start_of
  start_is_good = subst (λ (y : Option Body). AllGood p x (start_in y)) (sym at) (good_start p x b (typed.bodies b x at) x.stmts.items)

  reached_is_good : (k : List Todo) → Comes (relation_of p b) k → AllGood p x k
  reached_is_good k start = start_is_good
  reached_is_good k (on i t before there) = (good_move _ i t (reached_is_good _ before) there).1

pub typed_step : (p : Program) → IsTypedProgram p → (b : BodyId) (x : Body) (k : List Todo) (i : ℕ) (t : Move (List Todo)) → body_at p b ≡ Some x → Comes (relation_of p b) k
    → slice_get ((relation_of p b).next k) i ≡ Some t → MovesLocals t.action × NamesMembers p x t.action
typed_step p typed b x k i t at comes there = (good_move p typed b x at k i t (reached_is_good p typed b x at k comes) there).0
