-- What a certificate covers has no fault.
use Rattle.std.proofs.Common.{◌≡◌, ℕ, Some, List, slice_get, All, Contains, subst}
use Rattle.std.proofs.lemmas.List.Elements.{All-contains}
use Rattle.rlc_base.specs.declared.place.Pos.{Pos}
use Rattle.program_model.specs.declared.kinds.BodyId.{BodyId}
use Rattle.program_model.specs.declared.program.Program.{Program}
use Rattle.control_actions.specs.declared.fact.Fact.{Fact}
use Rattle.control_actions.specs.declared.fact.Origin.{Origin}
use Rattle.control_actions.specs.declared.fact.Rule.{Rule}
use Rattle.obligation_facts.specs.Facts.{Names}
use Rattle.soundness_laws.specs.Births.{births_at_entry, births_of_step}
use Rattle.soundness_laws.specs.Flow.{flow}
use Rattle.soundness_laws.specs.Paths.{Comes, Faulty, Move, Reach, Relation, start, on, entered, born, flowed}
use Rattle.safety_examples.proofs.Tests.{all_at}
use Rattle.safety_examples.specs.Certificates.{IsCertificate, IsFollowed, IsListed, Placed, placed}

module _ {K : Type 0} (p : Program) (b : BodyId) (r : Relation K) (controls : List K) (facts : List (Placed K)) (certificate : IsCertificate p b r controls facts) where
  pub comes_listed : (k : K) → Comes r k → Contains controls k
  comes_listed k start = certificate.start
  comes_listed k (on {k = before} i t comes at) =
      all_at (λ (x : Move K). Contains controls x.to) (r.next before) i t
      (All-contains (λ c. All (λ (x : Move K). Contains controls x.to) (r.next c)) controls before certificate.steps (comes_listed before comes)) at

  pub reach_listed : (o : Origin) (k : K) (f : Fact) → Reach p b r o k f → Contains facts (placed k o f)
  reach_listed o k f (entered n at) = all_at (IsListed facts r.start) (births_at_entry p b) n (o, f) certificate.entry at
  reach_listed o k f (born {k = before} i n t comes step at) =
      all_at (IsListed facts t.to) (births_of_step p b t.action t.edge t.pos) n (o, f)
      (all_at (λ (x : Move K). All (IsListed facts x.to) (births_of_step p b x.action x.edge x.pos)) (r.next before) i t
      (All-contains (λ c. All (λ (x : Move K). All (IsListed facts x.to) (births_of_step p b x.action x.edge x.pos)) (r.next c)) controls before certificate.births (comes_listed before comes)) step) at
  reach_listed o k f (flowed {k = before} {f = old} i t reached step flows) =
      subst (IsFollowed facts t.to o) flows (followed before old i t (reach_listed o before old reached) step)
    where
      followed : (k : K) (f : Fact) (i : ℕ) (t : Move K) → Contains facts (placed k o f) → slice_get (r.next k) i ≡ Some t → IsFollowed facts t.to o (flow p b o t.action t.edge f)
      followed k f i t listed step =
          all_at (λ (x : Move K). IsFollowed facts x.to o (flow p b o x.action x.edge f)) (r.next k) i t
          (All-contains (λ (y : Placed K). All (λ (x : Move K). IsFollowed facts x.to y.origin (flow p b y.origin x.action x.edge y.fact)) (r.next y.control)) facts (placed k o f) certificate.flows listed) step

  pub no_fault : (o : Origin) (rule : Rule) (at : Pos) (names : Names) → Faulty p b r o rule at names → ⊥
  no_fault o rule at names fault =
      subst (IsFollowed facts fault.move.to o) fault.breaks
      (all_at (λ (x : Move K). IsFollowed facts x.to o (flow p b o x.action x.edge fault.fact)) (r.next fault.control) fault.index fault.move
      (All-contains (λ (y : Placed K). All (λ (x : Move K). IsFollowed facts x.to y.origin (flow p b y.origin x.action x.edge y.fact)) (r.next y.control)) facts (placed fault.control o fault.fact) certificate.flows
      (reach_listed o fault.control fault.fact fault.reached)) fault.step)
