-- What is said of all steps of a body, from what is said of those of each control.
use Rattle.std.proofs.Common.{ℕ, List, [], slice_index_or, All, Contains}
use Rattle.std.specs.List.{AllByRecursion}
use Rattle.program_model.specs.declared.kinds.BodyId.{BodyId}
use Rattle.java_control.specs.Remaining.{Todo}
use Rattle.control_actions.specs.declared.action.Action.{Action}
use Rattle.soundness_laws.specs.Births.{births_of_step}
use Rattle.soundness_laws.specs.Flow.{flow}
use Rattle.soundness_laws.specs.Paths.{Move, Relation, relation_of}
use Rattle.safety_examples.specs.Certificates.{IsFollowed, IsListed, Placed}
use Rattle.safety_examples.specs.OpeningPrograms.{opening}
use Rattle.safety_examples.proofs.Tests.{all_of}

abbrev pub steps : BodyId → Relation (List Todo)
steps b = relation_of opening b

abbrev pub control_in : List (List Todo) → ℕ → List Todo
control_in controls n = slice_index_or controls n []

-- what holds of the actions of all steps of a control
abbrev pub AllActions : BodyId → (Action → Type 0) → List Todo → Type 0
AllActions b P k = All (λ (t : Move (List Todo)). P t.action) ((steps b).next k)

module _ (b : BodyId) (controls : List (List Todo)) where
  abbrev pub ComesTo : Move (List Todo) → Type 0
  ComesTo t = Contains controls t.to

  pub comes_to : (n : ℕ) → AllByRecursion ComesTo ((steps b).next (control_in controls n)) → All ComesTo ((steps b).next (control_in controls n))
  comes_to n each = all_of ComesTo ((steps b).next (control_in controls n)) each

  pub acts : (P : Action → Type 0) (n : ℕ) → AllByRecursion (λ (t : Move (List Todo)). P t.action) ((steps b).next (control_in controls n)) → AllActions b P (control_in controls n)
  acts P n each = all_of (λ (t : Move (List Todo)). P t.action) ((steps b).next (control_in controls n)) each

  module _ (facts : List (Placed (List Todo))) where
    abbrev pub Bears : Move (List Todo) → Type 0
    Bears t = All (IsListed facts t.to) (births_of_step opening b t.action t.edge t.pos)

    pub bears : (n : ℕ) → AllByRecursion Bears ((steps b).next (control_in controls n)) → All Bears ((steps b).next (control_in controls n))
    bears n each = all_of Bears ((steps b).next (control_in controls n)) each

    abbrev pub Follows : Placed (List Todo) → Move (List Todo) → Type 0
    Follows x t = IsFollowed facts t.to x.origin (flow opening b x.origin t.action t.edge x.fact)

    pub follows : (x : Placed (List Todo)) → AllByRecursion (Follows x) ((steps b).next x.control) → All (Follows x) ((steps b).next x.control)
    follows x each = all_of (Follows x) ((steps b).next x.control) each
