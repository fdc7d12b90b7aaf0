-- A body that passes no limit has room in sets of places, and so has a number that names no body.
use Rattle.std.proofs.Common.{◌≡◌, ◌<◌, ap, refl, subst, arith, ℕ, inl, inr, None, List, [], length}
use Rattle.std.specs.Prelude.{Option, filter}
use Rattle.std.specs.List.{Contains}
use Rattle.std.proofs.lemmas.Bool.{cases_lt}
use Rattle.std.proofs.lemmas.Option.{slice_get_past}
use Rattle.rlc_base.specs.declared.code.Code.TheVariants as refused
use Rattle.rlc_base.specs.declared.faults.Refusal.{Refusal}
use Rattle.program_model.specs.declared.kinds.BodyId.{BodyId}
use Rattle.program_model.specs.declared.program.Program.{Program}
use Rattle.program_model.specs.declared.tree.Body.{Body}
use Rattle.program_model.specs.Lookups.{body_at}
use Rattle.breadth_first.proofs.ListLaws.{at_place}
use Rattle.program_faults.specs.Limits.{HasTooManyPlaces, PassesLimit, ReachesMore, class_in, fields, method_in, method_place, owning_count, refusal, steps, too_large, too_many_places, variable_count, variables, variables_in}
use Rattle.java_control.specs.Control.{Step, next_of, steps_in}
use Rattle.java_control.specs.Owned.{fields_in, is_owning}
use Rattle.java_control.specs.Remaining.{Todo}
use Rattle.accepted_programs.specs.Paths.{FitsPlaces, relation_of}
use Rattle.program_faults.specs.ListedFields.{HasListedFields}
use Rattle.program_faults.proofs.StepRooms.{fits_places}
use Rattle.program_faults.specs.ProgramReports.{IsFaultCount, body_id}

-- no body of the program passes a limit on controls and places
abbrev pub PassesNoLimit : Program → Type 0
PassesNoLimit p = (i : ℕ) → i < length p.bodies.items → (r : Refusal) → PassesLimit p (body_id i) r → ⊥

module _ (p : Program) where
  within_limits : (b : BodyId) → ((r : Refusal) → PassesLimit p b r → ⊥) → HasTooManyPlaces p b → ⊥
  within_limits b small many =
      let few : ReachesMore p b 65536 → ⊥ = λ more. small (refusal refused.MethodTooLarge (method_place p b)) (too_large refl more) in
      small (refusal refused.TooManyPlaces (method_place p b)) (too_many_places refl few many)

  no_steps : (b : BodyId) (k : List Todo) → body_at p b ≡ None → next_of p b k ≡ []
  unfolding next_of
  no_steps b k none = ap (λ (x : Option Body). steps_in p x k) none

  not_there : (b : BodyId) → body_at p b ≡ None → HasTooManyPlaces p b → ⊥
  not_there b none (variables many) =
      let bare : variable_count p b ≡ 0 = ap variables_in none in
      absurd (omega (arith, bare, many))
  not_there b none (fields many) =
      let bare : owning_count p b ≡ 0 = ap (λ (x : Option Body). length (filter (is_owning p) (fields_in (class_in p (method_in p x))))) none in
      absurd (omega (arith, bare, many))
  not_there b none (steps control step reached contained large) =
      let inside : Contains [] step = subst (λ (xs : List Step). Contains xs step) (no_steps b control none) contained in
      let below = inside.1 in
      absurd (omega (arith, below))

  few_places : PassesNoLimit p → (b : BodyId) → HasTooManyPlaces p b → ⊥
  few_places small b many = elim (cases_lt b.0 (length p.bodies.items)) [
    | inl inside ↦ within_limits b (small b.0 inside) many
    | inr past ↦ not_there b (slice_get_past p.bodies.items b.0 past) many
  ]

  pub small_fits : HasListedFields p → PassesNoLimit p → (b : BodyId) → FitsPlaces p b (relation_of p b)
  small_fits listed small b = fits_places p b listed (few_places small b)

  pub counted_small : (n : ℕ) → IsFaultCount p n → PassesNoLimit p
  counted_small n h i inside =
      let long = h.has.long in
      let one = at_place h.faults i (omega (arith, inside, long)) in
      (h.has.each i one.0 one.1).small

  pub counted_fits : (n : ℕ) → HasListedFields p → IsFaultCount p n → (b : BodyId) → FitsPlaces p b (relation_of p b)
  counted_fits n listed h = small_fits listed (counted_small n h)
