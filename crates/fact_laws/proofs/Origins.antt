-- Of which origin the facts of reached controls are that hold in a parameter, or in `this`.
use Rattle.std.proofs.Common.{◌≡◌, ap, refl, sym, subst, arith, ℕ, ◌+◌, ◌<◌, ◌≤◌, true, false, Option, Some, List, [], ◌∷◌, IsSomeAnd, length, slice_get}
use Rattle.std.proofs.lemmas.Bool.{eq-eqb}
use Rattle.program_model.specs.declared.kinds.BodyId.{BodyId}
use Rattle.program_model.specs.declared.program.Method.{Method}
use Rattle.program_model.specs.declared.program.ParamSig.{ParamSig}
use Rattle.program_model.specs.declared.program.Program.{Program}
use Rattle.program_model.specs.declared.tree.Body.{Body}
use Rattle.program_model.specs.declared.tree.Var.{Var}
use Rattle.program_model.specs.Lookups.{body_at, method_at}
use Rattle.program_model.specs.Validity.{HasParameters, IsBodyOf}
use Rattle.ownership_rules.specs.Assigned.{is_spoken_variable}
use Rattle.java_control.specs.PlaceNumbers.{IsSmall, number_of}
use Rattle.java_control.specs.Remaining.{Todo}
use Rattle.java_control.specs.Sources.{is_place, is_this_place}
use Rattle.control_actions.specs.declared.action.Action.{Action}
use Rattle.control_actions.specs.declared.action.Action.TheVariants as actions
use Rattle.control_actions.specs.declared.fact.Fact.{Fact}
use Rattle.control_actions.specs.declared.fact.Origin.{Origin}
use Rattle.control_actions.specs.declared.fact.OriginKind.{OriginKind}
use Rattle.control_actions.specs.declared.fact.OriginKind.TheVariants as kinds
use Rattle.control_actions.specs.declared.place.Place.{Place}
use Rattle.control_actions.specs.declared.place.Place.TheVariants as places
use Rattle.ownership_rules.specs.Facts.{has, is_origin_at}
use Rattle.ownership_rules.specs.Room.{variables_in}
use Rattle.place_laws.specs.Paths.{Comes, Move, Reach, born, entered, flowed, on, relation_of, start}
use Rattle.place_laws.specs.Accept.{Accept}
use Rattle.place_laws.specs.Setting.{sets_this, sets_variable}
use Rattle.place_laws.proofs.AssignedReached.{spoken_stay, this_stay}
use Rattle.place_laws.proofs.Unassigned.{is_parameter, second_false}
use Rattle.fact_laws.proofs.ParameterBirths.{entry_birth, step_birth}
use Rattle.fact_laws.proofs.Flows.{next_kept}
use Rattle.fact_laws.proofs.Places.{Avoids}

-- ---- steps that put nothing into the place

unset_avoids : (b : Body) (a : Action) (v : ℕ) → sets_variable b a v ≡ false → Avoids a (places.Var v)
unset_avoids b actions.Skip v stays = tt
unset_avoids b (actions.Copy x y) v stays = stays
unset_avoids b (actions.Move x y) v stays = second_false (is_place y (places.Var v)) (is_place x (places.Var v)) stays
unset_avoids b (actions.Plain x value) v stays = stays
unset_avoids b (actions.Enter clause x first d) v stays = stays
unset_avoids b a v stays = tt

pub not_this : (x : Place) → is_this_place x ≡ false → is_place x places.This ≡ false
not_this (places.Var i) other = refl
not_this places.This other = other
not_this (places.Field k) other = refl
not_this (places.Temp d) other = refl
not_this places.Super other = refl

this_avoids : (a : Action) → sets_this a ≡ false → Avoids a places.This
this_avoids actions.Skip stays = tt
this_avoids (actions.Copy x y) stays = not_this x stays
this_avoids (actions.Move x y) stays = not_this x (second_false (is_this_place y) (is_this_place x) stays)
this_avoids (actions.Plain x value) stays = not_this x stays
this_avoids (actions.Enter clause x first d) stays = refl
this_avoids a stays = tt

-- ---- paths

pub few_parameters : (vars : List Var) (params : List ParamSig) → HasParameters vars params → length params ≤ length vars
few_parameters vars [] has = omega arith
few_parameters [] (x ∷ params) has = absurd has
few_parameters (y ∷ vars) (x ∷ params) has = let less : length params ≤ length vars = few_parameters vars params has.1 in omega (arith, less)

module _ (p : Program) (ac : Accept p) (b : BodyId) (x : Body) (at : body_at p b ≡ Some x) where
  pub few : length x.vars.items ≤ 160
  few = subst (λ (o : Option Body). variables_in o ≤ 160) at (ac.fits b).room.variables

  pub comes : (o : Origin) (k : List Todo) (f : Fact) → Reach p b (relation_of p b) o k f → Comes (relation_of p b) k
  comes o _ f (entered n is) = start
  comes o _ f (born i n t before here is) = on i t before here
  comes o _ g (flowed {k} {f} i t before here is) = on i t (comes o k f before) here

  module _ (q : Place) (small : IsSmall q) (low : number_of q < 161) (P : OriginKind → Type 0) (params : (j : ℕ) → j < 160 → number_of q ≡ j → P (kinds.Param j))
      (this : number_of q ≡ 160 → P kinds.ThisRef)
      (avoids : (k : List Todo) (i : ℕ) (t : Move (List Todo)) → Comes (relation_of p b) k → slice_get ((relation_of p b).next k) i ≡ Some t → Avoids t.action q) where
    origin_is : (o : Origin) (k : List Todo) (f : Fact) → Reach p b (relation_of p b) o k f → has f.places q ≡ true → P o.kind
    origin_is o _ f (entered n is) there = entry_birth q P p low params this b x at few n o f is there
    origin_is o _ f (born {k} i n t before here is) there = step_birth q P p low b t.action t.edge t.pos small ((ac.fits b).steps i t before here) (avoids k i t before here) n o f is there
    origin_is o _ g (flowed {k} {f} i t before here is) there =
        let reached = comes o k f before in
        origin_is o k f before (next_kept q low p b o f t.action t.edge g small ((ac.fits b).steps i t reached here) (avoids k i t reached here) is there)

-- ---- the laws

pub parameters_own : (p : Program) → Accept p → (b : BodyId) (x : Body) (m : Method) (v : ℕ) → body_at p b ≡ Some x → method_at p x.method ≡ Some m → is_spoken_variable m v ≡ true
    → (o : Origin) (k : List Todo) (f : Fact) → Reach p b (relation_of p b) o k f → has f.places (places.Var v) ≡ true → is_origin_at o.kind (Some (v + 1)) ≡ true
parameters_own p ac b x m v at of spoken o k f reach there =
    origin_is p ac b x at (places.Var v) small (omega (arith, small)) (λ (kind : OriginKind). is_origin_at kind (Some (v + 1)) ≡ true)
    (λ j few same. eq-eqb (j + 1) (v + 1) (ap (λ (n : ℕ). n + 1) (sym same))) (λ same. absurd (omega (arith, small, same)))
    (λ c i t comes here. unset_avoids x t.action v (spoken_stay p ac.well_formed.valid b x m v at of (ac.well_formed.unassigned b x at) spoken c i t comes here)) o k f reach there
  where
    small : v < 160
    small =
        let has = subst (λ (y : Option Method). IsSomeAnd y (IsBodyOf b x)) of (ac.well_formed.valid.typed.bodies b x at).method in
        let fit : length m.sig.params.items ≤ length x.vars.items = few_parameters x.vars.items m.sig.params.items has.1 in
        let inside : v < length m.sig.params.items = is_parameter m v spoken in
        let room : length x.vars.items ≤ 160 = few p ac b x at in
        omega (arith, fit, inside, room)

pub this_own : (p : Program) → Accept p → (b : BodyId) (x : Body) → body_at p b ≡ Some x → (o : Origin) (k : List Todo) (f : Fact) → Reach p b (relation_of p b) o k f → has f.places places.This ≡ true
    → is_origin_at o.kind (Some 0) ≡ true
this_own p ac b x at o k f reach there =
    origin_is p ac b x at places.This tt (omega arith) (λ (kind : OriginKind). is_origin_at kind (Some 0) ≡ true) (λ j few same. absurd (omega (arith, few, same))) (λ same. refl)
    (λ c i t comes here. this_avoids t.action (this_stay p ac.well_formed.valid b x at c i t comes here)) o k f reach there
