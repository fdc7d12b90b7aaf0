-- A path that brings a fact to a step brings it on, in a program that is accepted.
use Rattle.std.proofs.Common.{◌≡◌, ℕ, Option, Some, List, slice_get, option_map, refl, sym, ap, ◌∙◌}
use Rattle.std.proofs.lemmas.Option.{slice_get-map}
use Rattle.program_model.specs.declared.kinds.BodyId.{BodyId}
use Rattle.program_model.specs.declared.program.Program.{Program}
use Rattle.program_model.specs.Lookups.{method_at}
use Rattle.ledger_obligations.specs.Bodies.{method_in, method_of}
use Rattle.java_control.specs.Control.{Step, next_of}
use Rattle.java_control.specs.Remaining.{Todo}
use Rattle.control_actions.specs.declared.fact.Fact.{Fact}
use Rattle.control_actions.specs.declared.fact.Origin.{Origin}
use Rattle.control_actions.specs.declared.fact.Outcome.{Outcome}
use Rattle.control_actions.specs.declared.fact.Outcome.TheVariants.{Next, Gone, Fault}
use Rattle.ownership_rules.specs.SmallActions.{IsSmallAction}
use Rattle.value_laws.specs.Flow.{flow}
use Rattle.value_laws.specs.Paths.{Move, Reach, flowed, move_of, relation_of}
use Rattle.value_laws.specs.Accept.{Accept}
use Rattle.value_laws.specs.Configuration.{Frame}
use Rattle.value_laws.specs.Choosing.{frame_steps, steps_by}
use Rattle.value_laws.specs.Agreement.{Stands}
use Rattle.value_laws.specs.PlainForms.{HasPlainForms, IsPlainAction}
use Rattle.value_laws.specs.Outcomes.{After, IsFault}

pub followed : (p : Program) (ac : Accept p) (b : BodyId) (o : Origin) {k : List Todo} (i : ℕ) (t : Move (List Todo)) (f : Fact) (P : Fact → Type 0)
    → Reach p b (relation_of p b) o k f → slice_get ((relation_of p b).next k) i ≡ Some t → After P (flow p b o t.action t.edge f)
    → (g : Fact) × Reach p b (relation_of p b) o t.to g × P g
followed p ac b o {k = k} i t f P reached at after = go (flow p b o t.action t.edge f) refl after
  where
    go : (out : Outcome) → flow p b o t.action t.edge f ≡ out → After P out → (g : Fact) × Reach p b (relation_of p b) o t.to g × P g
    go (Next g) e s = (g, flowed i t reached at e, s)
    go Gone e s = absurd s
    go (Fault rule names) e s = absurd (ac.no_fault b o rule t.pos names (record {
      control = k;
      fact = f;
      reached = reached;
      index = i;
      move = t;
      step = at;
      breaks = e;
      place = refl;
    }))

pub breaks_nothing : (p : Program) (ac : Accept p) (b : BodyId) (o : Origin) {k : List Todo} (i : ℕ) (t : Move (List Todo)) (f : Fact)
    → Reach p b (relation_of p b) o k f → slice_get ((relation_of p b).next k) i ≡ Some t → IsFault (flow p b o t.action t.edge f) → ⊥
breaks_nothing p ac b o {k = k} i t f reached at fault = go (flow p b o t.action t.edge f) refl fault
  where
    go : (out : Outcome) → flow p b o t.action t.edge f ≡ out → IsFault out → ⊥
    go (Next g) e s = s
    go Gone e s = s
    go (Fault rule names) e s = ac.no_fault b o rule t.pos names (record {
      control = k;
      fact = f;
      reached = reached;
      index = i;
      move = t;
      step = at;
      breaks = e;
      place = refl;
    })

pub step_there : (p : Program) (fr : Frame) (st : Stands p fr) (i : ℕ) (t : Step) → slice_get (frame_steps p fr) i ≡ Some t
    → slice_get ((relation_of p st.number).next fr.control) i ≡ Some (move_of t)
step_there p fr st i t here =
    slice_get-map move_of (next_of p st.number fr.control) i
    ∙ ap (option_map move_of) (ap (λ (b : Option BodyId). slice_get (steps_by p b fr.control) i) (sym st.id) ∙ here)

pub same_body : (b c : BodyId) (x : Option BodyId) → x ≡ Some b → x ≡ Some c → b ≡ c
same_body b c x one other = let same : Some b ≡ Some c = sym one ∙ other in cc

-- the method of the body that a frame runs is the frame's
pub method_here : (p : Program) (fr : Frame) (st : Stands p fr) → method_of p st.number ≡ method_at p fr.method
method_here p fr st = ap (method_in p) st.at ∙ ap (method_at p) st.method

module _ (p : Program) (ac : Accept p) (fr : Frame) (st : Stands p fr) (i : ℕ) (s : Step) (here : slice_get (frame_steps p fr) i ≡ Some s) where
  pub small_step : IsSmallAction p s.action
  small_step = (ac.fits st.number).steps i (move_of s) st.control (step_there p fr st i s here)

  pub plain_step : HasPlainForms p → IsPlainAction p s.action
  plain_step forms = forms.steps st.number i (move_of s) st.control (step_there p fr st i s here)
