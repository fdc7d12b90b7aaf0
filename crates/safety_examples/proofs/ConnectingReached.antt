-- What holds of the steps of the controls of each body holds of all steps that a body can reach; and no path breaks a rule.
use Rattle.std.proofs.Common.{◌≡◌, ℕ, zero, suc, Some, None, List, slice_get, All}
use Rattle.std.proofs.lemmas.List.Elements.{All-contains}
use Rattle.rlc_base.specs.declared.place.Pos.{Pos}
use Rattle.program_model.specs.declared.kinds.BodyId.{BodyId}
use Rattle.java_control.specs.Control.{next_of}
use Rattle.java_control.specs.Remaining.{Todo}
use Rattle.control_actions.specs.declared.action.Action.{Action}
use Rattle.control_actions.specs.declared.fact.Origin.{Origin}
use Rattle.control_actions.specs.declared.fact.Rule.{Rule}
use Rattle.obligation_facts.specs.Facts.{Names}
use Rattle.soundness_laws.specs.Paths.{Comes, Faulty, Move, relation_of}
use Rattle.safety_examples.specs.Certificates.{IsCertificate, Placed}
use Rattle.safety_examples.specs.ConnectingControls.{close_controls, constructor_controls, main_controls}
use Rattle.safety_examples.specs.ConnectingPrograms.{connecting}
use Rattle.safety_examples.specs.ResettingPrograms.{close_body, constructor_body, main_body}
use Rattle.safety_examples.proofs.Certified.{comes_listed, no_fault}
use Rattle.safety_examples.proofs.Tests.{all_at}
use Rattle.safety_examples.proofs.ConnectingClosePaths.{close_certificate, close_facts}
use Rattle.safety_examples.proofs.ConnectingConstructorPaths.{constructor_certificate, constructor_facts}
use Rattle.safety_examples.proofs.ConnectingMainPaths.{main_certificate, main_facts}
use Rattle.safety_examples.proofs.ConnectingWalks.{AllActions, steps}

-- a number of no body has no step
no_step : (n i : ℕ) (k : List Todo) (t : Move (List Todo)) → slice_get ((steps (record { 0 = suc (suc (suc n)) })).next k) i ≡ Some t → ⊥
unfolding next_of
no_step n i k t at = absurd (let no : None ≡ Some t = at in cc)

of_listed : (P : Action → Type 0) (b : BodyId) (controls : List (List Todo)) (facts : List (Placed (List Todo))) → IsCertificate connecting b (steps b) controls facts → All (AllActions b P) controls
    → (k : List Todo) (i : ℕ) (t : Move (List Todo)) → Comes (steps b) k → slice_get ((steps b).next k) i ≡ Some t → P t.action
of_listed P b controls facts certificate all k i t comes at =
    all_at (λ (x : Move (List Todo)). P x.action) ((steps b).next k) i t
    (All-contains (AllActions b P) controls k all (comes_listed connecting b (steps b) controls facts certificate k comes)) at

-- what holds of the actions at the controls of all three bodies
pub record HoldsOfSteps (P : BodyId → Action → Type 0) : Type 0 where
  pub constructor : All (AllActions constructor_body (P constructor_body)) constructor_controls
  pub close : All (AllActions close_body (P close_body)) close_controls
  pub main : All (AllActions main_body (P main_body)) main_controls

pub reached : (P : BodyId → Action → Type 0) → HoldsOfSteps P → (n : ℕ) (k : List Todo) (i : ℕ) (t : Move (List Todo)) → Comes (steps (record { 0 = n })) k → slice_get ((steps (record { 0 = n })).next k) i ≡ Some t
    → P (record { 0 = n }) t.action
reached P holds zero k i t comes at = of_listed (P constructor_body) constructor_body constructor_controls constructor_facts constructor_certificate holds.constructor k i t comes at
reached P holds (suc zero) k i t comes at = of_listed (P close_body) close_body close_controls close_facts close_certificate holds.close k i t comes at
reached P holds (suc (suc zero)) k i t comes at = of_listed (P main_body) main_body main_controls main_facts main_certificate holds.main k i t comes at
reached P holds (suc (suc (suc n))) k i t comes at = absurd (no_step n i k t at)

faultless : (n : ℕ) (o : Origin) (rule : Rule) (at : Pos) (names : Names) → Faulty connecting (record { 0 = n }) (steps (record { 0 = n })) o rule at names → ⊥
faultless zero o rule at names fault = no_fault connecting constructor_body (steps constructor_body) constructor_controls constructor_facts constructor_certificate o rule at names fault
faultless (suc zero) o rule at names fault = no_fault connecting close_body (steps close_body) close_controls close_facts close_certificate o rule at names fault
faultless (suc (suc zero)) o rule at names fault = no_fault connecting main_body (steps main_body) main_controls main_facts main_certificate o rule at names fault
faultless (suc (suc (suc n))) o rule at names fault = no_step n fault.index fault.control fault.move fault.step

pub connecting_no_fault : (b : BodyId) (o : Origin) (rule : Rule) (at : Pos) (names : Names) → Faulty connecting b (relation_of connecting b) o rule at names → ⊥
connecting_no_fault b o rule at names fault = faultless b.0 o rule at names fault
