-- The program that closes its stream is accepted, and has what every program of files has.
use Rattle.std.proofs.Common.{◌≡◌, ℕ, zero, suc, true, Some, List, refl, slice_get, All, sym, true≢false, lit<, lit≤}
use Rattle.std.specs.List.{AllByRecursion}
use Rattle.std.proofs.lemmas.List.Elements.{All-contains}
use Rattle.program_model.specs.declared.kinds.BodyId.{BodyId}
use Rattle.program_model.specs.declared.kinds.FieldId.{FieldId}
use Rattle.java_control.specs.Control.{next_of}
use Rattle.java_control.specs.Owned.{place_of_field}
use Rattle.java_control.specs.PlaceNumbers.{IsSmall}
use Rattle.java_control.specs.Remaining.{Todo}
use Rattle.must_call_sets.specs.Bodies.{has_field_place}
use Rattle.obligation_facts.specs.SmallActions.{IsSmallAction}
use Rattle.soundness_laws.specs.Room.{HasRoom}
use Rattle.soundness_laws.specs.Accept.{Accept}
use Rattle.soundness_laws.specs.AgreementConditions.{MeetsFileConditions}
use Rattle.soundness_laws.specs.Paths.{Comes, FitsPlaces, Move, relation_of}
use Rattle.soundness_laws.proofs.Tests.{meets_by_tests}
use Rattle.safety_examples.specs.StreamingControls.{controls}
use Rattle.safety_examples.specs.StreamingPrograms.{streaming}
use Rattle.safety_examples.proofs.Covered.{covers_by}
use Rattle.safety_examples.proofs.StreamingFaults.{streaming_no_fault, certificate, control, facts, no_step, relation}
use Rattle.safety_examples.proofs.Certified.{comes_listed}
use Rattle.safety_examples.proofs.StreamingDeclared.{declares_once}
use Rattle.safety_examples.proofs.StreamingFlows.{body}
use Rattle.safety_examples.proofs.StreamingFormed.{annotations_right, overriding, signed, well_formed}
use Rattle.safety_examples.proofs.Tests.{all_at, all_of}
use Rattle.safety_examples.proofs.CarefulSets.{both_light}
use Rattle.safety_examples.proofs.StreamingValid.{valid_program}

-- no class of the program has a field
no_field : (b : BodyId) (f : FieldId) → has_field_place streaming b f ≡ true → IsSmall (place_of_field streaming f)
no_field b f has = absurd (true≢false (sym has))

room : (n : ℕ) → HasRoom streaming (record { 0 = n })
room zero = record { variables = lit≤ tt; fields = no_field (record { 0 = zero }) }
room (suc n) = record { variables = lit≤ tt; fields = no_field (record { 0 = suc n }) }

small_at : (n : ℕ) → AllByRecursion (λ (t : Move (List Todo)). IsSmallAction streaming t.action) (relation.next (control n)) → All (λ (t : Move (List Todo)). IsSmallAction streaming t.action) (relation.next (control n))
small_at n each = all_of (λ (t : Move (List Todo)). IsSmallAction streaming t.action) (relation.next (control n)) each

all_small : All (λ k. All (λ (t : Move (List Todo)). IsSmallAction streaming t.action) (relation.next k)) controls
unfolding next_of
all_small = all_of (λ k. All (λ (t : Move (List Todo)). IsSmallAction streaming t.action) (relation.next k)) controls (small_at 0 (tt, tt), (small_at 1 (tt, tt), (small_at 2 (lit< tt, tt), (small_at 3 ((lit< tt, lit< tt), tt), (small_at 4 (tt, tt), (small_at 5 (tt, tt), (small_at 6 (tt, tt), (small_at 7 ((lit< tt, lit< tt), tt), (small_at 8 ((lit< tt, lit≤ tt), tt), (small_at 9 ((lit< tt, lit< tt), tt), (small_at 10 (tt, tt), (small_at 11 (tt, tt), (small_at 12 (tt, tt), (small_at 13 ((lit< tt, lit< tt), tt), (small_at 14 ((lit< tt, lit≤ tt), ((lit< tt, lit≤ tt), tt)), (small_at 15 (lit< tt, tt), (small_at 16 (tt, tt), (small_at 17 (tt, tt), (small_at 18 (lit< tt, tt), (small_at 19 tt, tt))))))))))))))))))))

small_step : (n : ℕ) (k : List Todo) (i : ℕ) (t : Move (List Todo)) → Comes (relation_of streaming (record { 0 = n })) k → slice_get ((relation_of streaming (record { 0 = n })).next k) i ≡ Some t → IsSmallAction streaming t.action
small_step zero k i t comes at =
    all_at (λ (x : Move (List Todo)). IsSmallAction streaming x.action) (relation.next k) i t
    (All-contains (λ c. All (λ (x : Move (List Todo)). IsSmallAction streaming x.action) (relation.next c)) controls k all_small
    (comes_listed streaming body relation controls facts certificate k comes)) at
small_step (suc n) k i t comes at = absurd (no_step n i k t at)

fits : (b : BodyId) → FitsPlaces streaming b (relation_of streaming b)
fits b = record { room = room b.0; steps = λ {k} i t comes at. small_step b.0 k i t comes at }

pub accepted : Accept streaming
accepted = record {
  well_formed = well_formed;
  declares_once = declares_once;
  overriding = overriding;
  annotations = annotations_right;
  signatures = signed;
  covers = covers_by streaming refl;
  fits = fits;
  no_fault = streaming_no_fault;
}

-- it has what every program of files has
pub streaming_files : MeetsFileConditions streaming
streaming_files = meets_by_tests streaming valid_program.typed.hierarchy (record { classes = both_light; above = refl; constructors = refl; resets = refl }) refl
