-- A path that brings a fact to a step brings it on, in a program that is accepted.
use Rattle.std.proofs.Common.{◌≡◌, ℕ, Some, List, slice_get, refl}
use Rattle.program_model.specs.declared.kinds.BodyId.{BodyId}
use Rattle.program_model.specs.declared.program.Program.{Program}
use Rattle.java_control.specs.Remaining.{Todo}
use Rattle.control_actions.specs.declared.fact.Fact.{Fact}
use Rattle.control_actions.specs.declared.fact.Origin.{Origin}
use Rattle.control_actions.specs.declared.fact.Outcome.{Outcome}
use Rattle.control_actions.specs.declared.fact.Outcome.TheVariants.{Next, Gone, Fault}
use Rattle.fact_laws.specs.Flow.{flow}
use Rattle.fact_laws.specs.Accept.{Accept}
use Rattle.fact_laws.specs.Paths.{Move, Reach, flowed, relation_of}
use Rattle.fact_laws.specs.Outcomes.{After, IsFault}

pub followed : (p : Program) (ac : Accept p) (b : BodyId) (o : Origin) {k : List Todo} (i : ℕ) (t : Move (List Todo)) (f : Fact) (P : Fact → Type 0)
    → Reach p b (relation_of p b) o k f → slice_get ((relation_of p b).next k) i ≡ Some t → After P (flow p b o t.action t.edge f)
    → (g : Fact) × Reach p b (relation_of p b) o t.to g × P g
followed p ac b o {k = k} i t f P reached at after = go (flow p b o t.action t.edge f) refl after
  where
    go : (out : Outcome) → flow p b o t.action t.edge f ≡ out → After P out → (g : Fact) × Reach p b (relation_of p b) o t.to g × P g
    go (Next g) e s = (g, flowed i t reached at e, s)
    go Gone e s = absurd s
    go (Fault rule names) e s = absurd (ac.no_fault b o rule t.pos names (record {
      control = k;
      fact = f;
      reached = reached;
      index = i;
      move = t;
      step = at;
      breaks = e;
      place = refl;
    }))

pub breaks_nothing : (p : Program) (ac : Accept p) (b : BodyId) (o : Origin) {k : List Todo} (i : ℕ) (t : Move (List Todo)) (f : Fact)
    → Reach p b (relation_of p b) o k f → slice_get ((relation_of p b).next k) i ≡ Some t → IsFault (flow p b o t.action t.edge f) → ⊥
breaks_nothing p ac b o {k = k} i t f reached at fault = go (flow p b o t.action t.edge f) refl fault
  where
    go : (out : Outcome) → flow p b o t.action t.edge f ≡ out → IsFault out → ⊥
    go (Next g) e s = s
    go Gone e s = s
    go (Fault rule names) e s = ac.no_fault b o rule t.pos names (record {
      control = k;
      fact = f;
      reached = reached;
      index = i;
      move = t;
      step = at;
      breaks = e;
      place = refl;
    })
