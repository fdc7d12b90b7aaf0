-- No path in the constructor of the class that is extended breaks a rule.
use Rattle.std.proofs.Common.{◌≡◌, true, List, [], ◌∷◌, All, refl, sym, subst, lit<, arith}
use Rattle.std.specs.FinSet as set
use Rattle.java_control.specs.Control.{next_of, start_of}
use Rattle.java_control.specs.Remaining.{Todo}
use Rattle.control_actions.specs.declared.action.Action.TheVariants as actions
use Rattle.control_actions.specs.declared.action.Completion.TheVariants as completions
use Rattle.control_actions.specs.declared.action.Edge.TheVariants as edges
use Rattle.control_actions.specs.declared.fact.Fact.{Fact}
use Rattle.control_actions.specs.declared.fact.Mode.TheVariants as modes
use Rattle.control_actions.specs.declared.fact.Origin.{Origin}
use Rattle.control_actions.specs.declared.fact.OriginKind.TheVariants as kinds
use Rattle.control_actions.specs.declared.fact.Outcome.TheVariants.{Gone}
use Rattle.obligation_facts.specs.SmallActions.{IsSmallAction}
use Rattle.soundness_laws.specs.Births.{births_at_entry}
use Rattle.soundness_laws.specs.Flow.{flow}
use Rattle.safety_examples.specs.Certificates.{IsCertificate, IsFollowed, IsListed, Placed, placed}
use Rattle.safety_examples.specs.CarefulPrograms.{in_source, no_names}
use Rattle.safety_examples.specs.ExtendingControls.{base_controls}
use Rattle.safety_examples.specs.ExtendingPrograms.{base, base_body, extending}
use Rattle.safety_examples.proofs.Tests.{all_of}
use Rattle.safety_examples.proofs.ExtendingSets.{nothing_promised}
use Rattle.safety_examples.proofs.ExtendingWalks.{AllActions, Bears, ComesTo, Follows, acts, bears, comes_to, control_in, follows, steps}

-- nothing is asked of an object of the class
abbrev pub this_origin : Origin
this_origin = record { kind = kinds.ThisRef; pos = in_source 13 5; class = base; first = no_names; full = no_names }

abbrev pub this_fact : Fact
this_fact = record { origin = 0; places = set.insert set.empty 160; mode = modes.Lent; called = no_names; full = true }

returns_this : flow extending base_body this_origin (actions.End (completions.Return (in_source 13 14))) edges.Go this_fact ≡ Gone
returns_this = simp (nothing_promised no_names) refl

abbrev pub base_facts : List (Placed (List Todo))
base_facts = placed (control_in base_controls 0) this_origin this_fact ∷ []

come : All (λ k. All (ComesTo base_body base_controls) ((steps base_body).next k)) base_controls
unfolding next_of
come = all_of (λ k. All (ComesTo base_body base_controls) ((steps base_body).next k)) base_controls (comes_to base_body base_controls 0 ((1, lit< tt, refl), tt), (comes_to base_body base_controls 1 tt, tt))

born : All (λ k. All (Bears base_body base_controls base_facts) ((steps base_body).next k)) base_controls
unfolding next_of
born = all_of (λ k. All (Bears base_body base_controls base_facts) ((steps base_body).next k)) base_controls (bears base_body base_controls base_facts 0 (λ k d within. absurd (omega arith), tt), (bears base_body base_controls base_facts 1 tt, tt))

followed : All (λ (x : Placed (List Todo)). All (Follows base_body base_controls base_facts x) ((steps base_body).next x.control)) base_facts
unfolding next_of
followed = all_of (λ (x : Placed (List Todo)). All (Follows base_body base_controls base_facts x) ((steps base_body).next x.control)) base_facts
    (follows base_body base_controls base_facts (placed (control_in base_controls 0) this_origin this_fact) (subst (IsFollowed base_facts (control_in base_controls 1) this_origin) (sym returns_this) tt, tt), tt)

pub base_certificate : IsCertificate extending base_body (steps base_body) base_controls base_facts
unfolding start_of
base_certificate = record {
  start = (0, lit< tt, refl);
  steps = come;
  entry = all_of (IsListed base_facts (steps base_body).start) (births_at_entry extending base_body) ((0, lit< tt, refl), tt);
  births = born;
  flows = followed;
}

-- sets of places have room for all places that the steps name
pub base_small : All (AllActions base_body (IsSmallAction extending)) base_controls
unfolding next_of
base_small = all_of (AllActions base_body (IsSmallAction extending)) base_controls (acts base_body base_controls (IsSmallAction extending) 0 (tt, tt), (acts base_body base_controls (IsSmallAction extending) 1 tt, tt))
