-- Each control that a body reaches has such items alone, so that its steps set neither `this` nor the variable.
use Rattle.std.proofs.Common.{◌≡◌, ℕ, true, false, Option, Some, None, List, length, map, slice_get, option_map, refl, sym, ap, ◌∙◌, subst}
use Rattle.std.proofs.lemmas.Option.{slice_get-map}
use Rattle.program_model.specs.declared.kinds.BodyId.{BodyId}
use Rattle.program_model.specs.declared.kinds.ExprId.{ExprId}
use Rattle.program_model.specs.declared.kinds.StmtId.{StmtId}
use Rattle.program_model.specs.declared.program.Method.{Method}
use Rattle.program_model.specs.declared.program.Program.{Program}
use Rattle.program_model.specs.declared.tree.Body.{Body}
use Rattle.program_model.specs.declared.tree.TExpr.{TExpr}
use Rattle.program_model.specs.declared.tree.TStmt.{TStmt}
use Rattle.program_model.specs.Lookups.{body_at, expression_at, method_at, statement_at}
use Rattle.program_model.specs.TextOrder.{text_parts}
use Rattle.program_model.specs.Validity.{IsValid}
use Rattle.accepted_programs.specs.Assigned.{assigned_variable, assigns_spoken, is_spoken_variable}
use Rattle.rlc_base.specs.declared.place.Pos.{Pos}
use Rattle.java_control.specs.Control.{Step, control_place, next_of, start_in, start_of, step_at, steps_in, ways}
use Rattle.java_control.specs.Remaining.{Todo, Way}
use Rattle.accepted_programs.specs.Paths.{Comes, Move, move_of, on, relation_of, start}
use Rattle.step_laws.specs.Setting.{sets_this, sets_variable}
use Rattle.step_laws.proofs.Declared.{AreOtherParts, declared_elsewhere, declared_in_body}
use Rattle.step_laws.proofs.AssignedItems.{AllGood, touches}
use Rattle.step_laws.proofs.Unassigned.{IsOther, assigned_in_body, first_false, is_parameter, second_false, unassigned}
use Rattle.step_laws.proofs.AssignedWays.{all_ways, good_start, way_at}

step_of_way : (pos : Pos) (ws : List Way) (i : ℕ) (t : Step) → slice_get (map (step_at pos) ws) i ≡ Some t → (w : Way) × (slice_get ws i ≡ Some w) × (step_at pos w ≡ t)
step_of_way pos ws i t at = go (slice_get ws i) refl (sym (slice_get-map (step_at pos) ws i) ∙ at)
  where
    go : (w : Option Way) → slice_get ws i ≡ w → option_map (step_at pos) w ≡ Some t → (w : Way) × (slice_get ws i ≡ Some w) × (step_at pos w ≡ t)
    go None before same = absurd (let never : None ≡ Some t = same in cc)
    go (Some w) before same = (w, before, (let both : step_at pos w ≡ t = cc in both))

module _ (p : Program) (b : BodyId) (x : Body) (at : body_at p b ≡ Some x) (v : ℕ)
    (assigned : (e : ExprId) (y : TExpr) → expression_at x e ≡ Some y → IsOther v (assigned_variable x y.kind))
    (declared : (s : StmtId) (y : TStmt) → statement_at x s ≡ Some y → AreOtherParts v (text_parts y.kind)) where
  good_step : (k : List Todo) (i : ℕ) (t : Step) → AllGood x v k → slice_get (next_of p b k) i ≡ Some t → (touches x v t.action ≡ false) × AllGood x v t.to
  unfolding next_of
  good_step k i t good there =
      let w = step_of_way (control_place x k) (ways p x k) i t (ap (λ (y : Option Body). slice_get (steps_in p y k) i) (sym at) ∙ there) in
      let leaves = way_at x v (ways p x k) i w.0 (all_ways p x v assigned declared k good) w.1 in
      subst (λ (s : Step). (touches x v s.action ≡ false) × AllGood x v s.to) w.2 leaves

  move_back : (k : List Todo) (i : ℕ) (t : Move (List Todo)) → slice_get ((relation_of p b).next k) i ≡ Some t → (s : Step) × (slice_get (next_of p b k) i ≡ Some s) × (move_of s ≡ t)
  move_back k i t there = go (slice_get (next_of p b k) i) refl (sym (slice_get-map move_of (next_of p b k) i) ∙ there)
    where
      go : (s : Option Step) → slice_get (next_of p b k) i ≡ s → option_map move_of s ≡ Some t → (s : Step) × (slice_get (next_of p b k) i ≡ Some s) × (move_of s ≡ t)
      go None before same = absurd (let never : None ≡ Some t = same in cc)
      go (Some s) before same = (s, before, (let both : move_of s ≡ t = cc in both))

  good_move : (k : List Todo) (i : ℕ) (t : Move (List Todo)) → AllGood x v k → slice_get ((relation_of p b).next k) i ≡ Some t → (touches x v t.action ≡ false) × AllGood x v t.to
  good_move k i t good there =
      let s = move_back k i t there in
      subst (λ (u : Move (List Todo)). (touches x v u.action ≡ false) × AllGood x v u.to) s.2 (good_step k i s.0 good s.1)

  start_is_good : AllGood x v (start_of p b)
  unfolding start_of
  start_is_good = subst (λ (y : Option Body). AllGood x v (start_in y)) (sym at) (good_start p x v assigned declared x.stmts.items)

  reached_is_good : (k : List Todo) → Comes (relation_of p b) k → AllGood x v k
  reached_is_good k start = start_is_good
  reached_is_good k (on i t before there) = (good_move _ i t (reached_is_good _ before) there).1

  stays : (k : List Todo) (i : ℕ) (t : Move (List Todo)) → Comes (relation_of p b) k → slice_get ((relation_of p b).next k) i ≡ Some t → touches x v t.action ≡ false
  stays k i t comes there = (good_move k i t (reached_is_good k comes) there).0

pub spoken_stay : (p : Program) → IsValid p → (b : BodyId) (x : Body) (m : Method) (v : ℕ) → body_at p b ≡ Some x → method_at p x.method ≡ Some m
    → assigns_spoken p x ≡ false → is_spoken_variable m v ≡ true → (k : List Todo) (i : ℕ) (t : Move (List Todo)) → Comes (relation_of p b) k
    → slice_get ((relation_of p b).next k) i ≡ Some t → sets_variable x t.action v ≡ false
spoken_stay p valid b x m v at of free spoken k i t comes there =
    second_false (sets_this t.action) (sets_variable x t.action v) (stays p b x at v (unassigned p x m v of free spoken)
    (declared_elsewhere p b x m v (valid.typed.bodies b x at) (valid.ordered b x at).variables of (is_parameter m v spoken)) k i t comes there)

-- the number behind those of the body's variables is that of none
pub this_stay : (p : Program) → IsValid p → (b : BodyId) (x : Body) → body_at p b ≡ Some x → (k : List Todo) (i : ℕ) (t : Move (List Todo)) → Comes (relation_of p b) k
    → slice_get ((relation_of p b).next k) i ≡ Some t → sets_this t.action ≡ false
this_stay p valid b x at k i t comes there =
    let body = valid.typed.bodies b x at in
    first_false (sets_this t.action) (sets_variable x t.action (length x.vars.items))
    (stays p b x at (length x.vars.items) (λ e y here. assigned_in_body p x y.kind y.vtype (body.expressions e y here).typed) (declared_in_body p b x body (valid.ordered b x at).variables) k i t comes there)
