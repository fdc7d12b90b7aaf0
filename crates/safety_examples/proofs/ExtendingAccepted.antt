-- The program is accepted, has a `main` that runs, and has what every program of files has.
use Rattle.std.proofs.Common.{◌≡◌, ℕ, zero, suc, true, true≢false, refl, sym, lit<, lit≤}
use Rattle.program_model.specs.declared.kinds.BodyId.{BodyId}
use Rattle.java_control.specs.Owned.{place_of_field}
use Rattle.java_control.specs.PlaceNumbers.{IsSmall}
use Rattle.control_actions.specs.declared.action.Action.{Action}
use Rattle.must_call_sets.specs.Bodies.{has_field_place}
use Rattle.obligation_facts.specs.SmallActions.{IsSmallAction}
use Rattle.soundness_laws.specs.Room.{HasRoom}
use Rattle.soundness_laws.specs.Accept.{Accept}
use Rattle.soundness_laws.specs.AgreementConditions.{MeetsFileConditions}
use Rattle.soundness_laws.specs.Paths.{FitsPlaces, relation_of}
use Rattle.soundness_laws.specs.Safety.{IsMain}
use Rattle.soundness_laws.proofs.Tests.{meets_by_tests}
use Rattle.safety_examples.specs.ExtendingPrograms.{extending, main_method}
use Rattle.safety_examples.proofs.BasePaths.{base_small}
use Rattle.safety_examples.proofs.Covered.{covers_by}
use Rattle.safety_examples.proofs.ExtendingClosePaths.{close_small}
use Rattle.safety_examples.proofs.ExtendingConstructorPaths.{constructor_small}
use Rattle.safety_examples.proofs.ExtendingDeclared.{declares_once}
use Rattle.safety_examples.proofs.ExtendingFormed.{annotations_right, overriding, signed, well_formed}
use Rattle.safety_examples.proofs.ExtendingMainPaths.{main_small}
use Rattle.safety_examples.proofs.ExtendingReached.{HoldsOfSteps, extending_no_fault, reached}
use Rattle.safety_examples.proofs.CarefulSets.{both_light}
use Rattle.safety_examples.proofs.ExtendingValid.{valid_program}

-- the program has one field
one_field : (b : BodyId) (f : ℕ) → has_field_place extending b (record { 0 = f }) ≡ true → IsSmall (place_of_field extending (record { 0 = f }))
one_field b zero has = lit< tt
one_field b (suc f) has = absurd (true≢false (sym has))

room : (n : ℕ) → HasRoom extending (record { 0 = n })
room zero = record { variables = lit≤ tt; fields = λ f has. one_field (record { 0 = zero }) f.0 has }
room (suc zero) = record { variables = lit≤ tt; fields = λ f has. one_field (record { 0 = suc zero }) f.0 has }
room (suc (suc zero)) = record { variables = lit≤ tt; fields = λ f has. one_field (record { 0 = suc (suc zero) }) f.0 has }
room (suc (suc (suc zero))) = record { variables = lit≤ tt; fields = λ f has. one_field (record { 0 = suc (suc (suc zero)) }) f.0 has }
room (suc (suc (suc (suc n)))) = record { variables = lit≤ tt; fields = λ f has. one_field (record { 0 = suc (suc (suc (suc n))) }) f.0 has }

small : HoldsOfSteps (λ (b : BodyId) (a : Action). IsSmallAction extending a)
small = record { constructor = constructor_small; close = close_small; main = main_small; base = base_small }

fits : (b : BodyId) → FitsPlaces extending b (relation_of extending b)
fits b = record { room = room b.0; steps = λ {k} i t comes at. reached (λ (c : BodyId) (a : Action). IsSmallAction extending a) small b.0 k i t comes at }

pub accepted : Accept extending
accepted = record {
  well_formed = well_formed;
  declares_once = declares_once;
  overriding = overriding;
  annotations = annotations_right;
  signatures = signed;
  covers = covers_by extending refl;
  fits = fits;
  no_fault = extending_no_fault;
}

pub has_main : IsMain extending main_method
has_main = (refl, refl)

-- it has what every program of files has
pub extending_files : MeetsFileConditions extending
extending_files = meets_by_tests extending valid_program.typed.hierarchy (record { classes = both_light; above = refl; constructors = refl; resets = refl }) refl
