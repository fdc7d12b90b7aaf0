-- The program is accepted, has a `main` that runs, and has what every program of files has.
use Rattle.std.proofs.Common.{◌≡◌, ℕ, zero, suc, true, true≢false, refl, sym, lit≤}
use Rattle.program_model.specs.declared.kinds.BodyId.{BodyId}
use Rattle.program_model.specs.declared.kinds.FieldId.{FieldId}
use Rattle.java_control.specs.Owned.{place_of_field}
use Rattle.java_control.specs.PlaceNumbers.{IsSmall}
use Rattle.must_call_sets.specs.Bodies.{has_field_place}
use Rattle.obligation_facts.specs.SmallActions.{IsSmallAction}
use Rattle.soundness_laws.specs.Room.{HasRoom}
use Rattle.soundness_laws.specs.Accept.{Accept}
use Rattle.soundness_laws.specs.AgreementConditions.{MeetsFileConditions}
use Rattle.soundness_laws.specs.Paths.{FitsPlaces, relation_of}
use Rattle.soundness_laws.specs.Safety.{IsMain}
use Rattle.soundness_laws.proofs.Tests.{meets_by_tests}
use Rattle.safety_examples.specs.AliasPrograms.{aliasing, main_method}
use Rattle.safety_examples.proofs.AliasDeclared.{declares_once}
use Rattle.safety_examples.proofs.AliasFormed.{annotations_right, overriding, signed, well_formed}
use Rattle.safety_examples.proofs.AliasMainPaths.{main_small}
use Rattle.safety_examples.proofs.AliasReached.{HoldsOfSteps, aliasing_no_fault, reached}
use Rattle.safety_examples.proofs.Covered.{covers_by}
use Rattle.safety_examples.proofs.PassPaths.{pass_small}
use Rattle.safety_examples.proofs.CarefulSets.{both_light}
use Rattle.safety_examples.proofs.AliasValid.{valid_program}

-- no class of the program has a field
no_field : (b : BodyId) (f : FieldId) → has_field_place aliasing b f ≡ true → IsSmall (place_of_field aliasing f)
no_field b f has = absurd (true≢false (sym has))

room : (n : ℕ) → HasRoom aliasing (record { 0 = n })
room zero = record { variables = lit≤ tt; fields = no_field (record { 0 = zero }) }
room (suc zero) = record { variables = lit≤ tt; fields = no_field (record { 0 = suc zero }) }
room (suc (suc n)) = record { variables = lit≤ tt; fields = no_field (record { 0 = suc (suc n) }) }

small : HoldsOfSteps (IsSmallAction aliasing)
small = record { pass = pass_small; main = main_small }

fits : (b : BodyId) → FitsPlaces aliasing b (relation_of aliasing b)
fits b = record { room = room b.0; steps = λ {k} i t comes at. reached (IsSmallAction aliasing) small b.0 k i t comes at }

pub accepted : Accept aliasing
accepted = record {
  well_formed = well_formed;
  declares_once = declares_once;
  overriding = overriding;
  annotations = annotations_right;
  signatures = signed;
  covers = covers_by aliasing refl;
  fits = fits;
  no_fault = aliasing_no_fault;
}

pub has_main : IsMain aliasing main_method
has_main = (refl, refl)

-- it has what every program of files has
pub aliasing_files : MeetsFileConditions aliasing
aliasing_files = meets_by_tests aliasing valid_program.typed.hierarchy (record { classes = both_light; above = refl; constructors = refl; resets = refl }) refl
