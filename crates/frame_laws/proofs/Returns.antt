-- How a frame that waits goes on, when the frame above it has ended.
use Rattle.std.proofs.Common.{◌≡◌, ℕ, Bool, true, false, Option, Some, None, List, slice_get, refl, sym, ap, ◌∙◌, subst, if◌then◌else◌}
use Rattle.program_model.specs.declared.kinds.ClassId.{ClassId}
use Rattle.program_model.specs.declared.kinds.MethodId.{MethodId}
use Rattle.program_model.specs.declared.program.Program.{Program}
use Rattle.program_model.specs.Lookups.{method_at}
use Rattle.rlc_base.specs.declared.place.Pos.{Pos}
use Rattle.java_control.specs.Calls.{called_method}
use Rattle.java_control.specs.Control.{Step}
use Rattle.control_actions.specs.declared.action.Edge.{Edge}
use Rattle.control_actions.specs.declared.action.Edge.TheVariants as edges
use Rattle.ledger_steps.specs.LedgerCallsCalls.{is_stray_from, leaves_by}
use Rattle.ledger_moves.specs.Configuration.{Frame}
use Rattle.ledger_moves.specs.Choosing.{frame_steps, goes_by, same_edge}
use Rattle.ledger_moves.specs.Moves.{StrayBack, back_as, back_by, back_from, back_to, by_class, by_edge, return_move}
use Rattle.agreement.specs.Agreement.{Stands}
use Rattle.fact_laws.proofs.CallWays.{one_action}
use Rattle.fact_laws.specs.Outcomes.{IsCallRow}
use Rattle.frame_laws.proofs.Ready.{step_here}
use Rattle.frame_laws.proofs.Unmet.{call_may, row_of}
use Rattle.frame_laws.specs.Nexts.{IsBack}
use Rattle.frame_laws.proofs.Cases.{class_edge, found_in, go_edge}

-- the frame stands at a call that names the method
module _ (p : Program) (caller : Frame) (below : Stands p caller) (named : MethodId) (index : ℕ) (step : Step) (here : slice_get (frame_steps p caller) index ≡ Some step)
    (calls : called_method step.action ≡ Some named) (e : Option ClassId) where
  abbrev steps : List Step
  steps = frame_steps p caller

  row : IsCallRow step.action
  row = row_of step.action named calls

  -- all its steps are steps of the call
  one_call : (j : ℕ) (t : Step) → slice_get steps j ≡ Some t → t.action ≡ step.action
  one_call j t there =
      one_action p below.number caller.control index j step t (step_here p caller below index step here) (step_here p caller below j t there) (call_may step.action row)

  -- the edge by which the call ends
  abbrev IsLeft : Option ClassId → Edge → Type 0
  IsLeft None f = f ≡ edges.Go
  IsLeft (Some c) f = (k : ClassId) × (leaves_by p (method_at p named) c ≡ Some k) × (f ≡ edges.Throws k)

  by_step : (x : Option ClassId) → x ≡ e → (f : Edge) → ((g : Edge) → same_edge f g ≡ true → IsLeft x g) → (t : Option Step) → by_edge f steps ≡ t → IsBack p steps e named (back_by x named t)
  by_step x same f left None found = tt
  by_step x same f left (Some t) found =
      let at = found_in (goes_by f) steps t found in
      let action = one_call at.0 t at.1 in (
        same,
        refl,
        record {
          index = at.0;
          here = at.1;
          row = subst IsCallRow (sym action) row;
          calls = ap called_method action ∙ calls;
          normal = λ none. subst (λ (z : Option ClassId). IsLeft z t.edge) (same ∙ none) (left t.edge at.2);
          thrown = λ c is. subst (λ (z : Option ClassId). IsLeft z t.edge) (same ∙ is) (left t.edge at.2);
        },
      )

  by_leaving : (c : ClassId) → Some c ≡ e → (x : Option ClassId) → leaves_by p (method_at p named) c ≡ x → IsBack p steps e named (back_by (Some c) named (by_class x steps))
  by_leaving c same None is = tt
  by_leaving c same (Some k) is = by_step (Some c) same (edges.Throws k) (λ g one. (k, is, class_edge (Some k) g one)) _ refl

  by_end : (pos : Pos) (x : Option ClassId) → x ≡ e → IsBack p steps e named (back_as p steps pos named x)
  unfolding back_as
  by_end pos None same = by_step None same edges.Go (λ g one. go_edge g one) _ refl
  by_end pos (Some c) same = go (is_stray_from p (method_at p named) c)
    where
      go : (b : Bool) → IsBack p steps e named (if b then StrayBack c pos else back_by (Some c) named (by_class (leaves_by p (method_at p named) c) steps))
      go true = tt
      go false = by_leaving c same (leaves_by p (method_at p named) c) refl

  by_name : (pos : Pos) (m : Option MethodId) → m ≡ Some named → IsBack p steps e named (back_to p steps pos e m)
  unfolding back_to
  by_name pos None one = tt
  by_name pos (Some m) one =
      subst (λ (k : MethodId). IsBack p steps e named (back_as p steps pos k e)) (let same : named ≡ m = (let both : Some m ≡ Some named = one in cc) in same) (by_end pos e refl)

  by_first : (t : Option Step) → slice_get steps 0 ≡ t → IsBack p steps e named (back_from p steps e t)
  by_first None first = tt
  by_first (Some t) first = by_name t.pos (called_method t.action) (ap called_method (one_call 0 t first) ∙ calls)

  pub back_is : IsBack p steps e named (return_move p steps e)
  unfolding return_move
  back_is = by_first (slice_get steps 0) refl
