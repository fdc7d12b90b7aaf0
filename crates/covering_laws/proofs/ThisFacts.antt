-- The facts of `this`, and the places of its fields, where a call creates the obligation of `this` anew.
use Rattle.std.specs.Prelude.{max}
use Rattle.std.proofs.Common.{◌≡◌, inl, inr, Bool, true, false, not, ◌&&◌, ◌||◌, Option, Some, None, refl, sym, ap, ◌∙◌, true≢false}
use Rattle.std.proofs.lemmas.Bool.{and_parts, or_left, or_right}
use Rattle.program_model.specs.declared.program.Method.{Method}
use Rattle.program_model.specs.declared.program.Program.{Program}
use Rattle.program_model.specs.declared.tree.Body.{Body}
use Rattle.program_model.specs.Lookups.{method_at}
use Rattle.ledger_obligations.specs.Bodies.{alias_in, constructs, is_constructor_kind, reset_in}
use Rattle.ownership_rules.specs.Signatures.{is_position, is_present}
use Rattle.ownership_rules.specs.Facts.{has, is_held, is_lent}
use Rattle.java_control.specs.Calls.{is_reset_of_this}
use Rattle.java_control.specs.Sources.{emptied, is_part, is_temp_among, source}
use Rattle.control_actions.specs.declared.action.Action.{Action}
use Rattle.control_actions.specs.declared.action.Action.TheVariants as actions
use Rattle.control_actions.specs.declared.action.Edge.{Edge}
use Rattle.control_actions.specs.declared.fact.Fact.{Fact}
use Rattle.control_actions.specs.declared.fact.Mode.{Mode}
use Rattle.control_actions.specs.declared.fact.Mode.TheVariants as modes
use Rattle.control_actions.specs.declared.fact.Origin.{Origin}
use Rattle.control_actions.specs.declared.place.Place.{Place}
use Rattle.control_actions.specs.declared.place.Place.TheVariants as places
use Rattle.value_laws.specs.Accept.{Accept}
use Rattle.value_laws.specs.Agreement.{Stands}
use Rattle.value_laws.specs.Configuration.{Frame}
use Rattle.value_laws.specs.Paths.{Reach, relation_of}
use Rattle.value_laws.specs.PlaceFacts.{is_field_place}
use Rattle.value_laws.specs.PlacePlaces.{is_local}
use Rattle.value_laws.specs.Renewing.{answers_for_fields}
use Rattle.value_laws.proofs.FactOrigins.{this_own}
use Rattle.value_laws.proofs.LentThis.{this_is_lent_on_paths}
use Rattle.covering_laws.proofs.Bodies.{running_method}
use Rattle.covering_laws.proofs.HeavyFields.{answers_by}
use Rattle.covering_laws.proofs.InFields.{this_kind}

-- a call that creates the obligation of `this` anew moves nothing from place to place
pub reset_source : (p : Program) (b : Body) (a : Action) (e : Edge) (q z : Place) → is_reset_of_this p a ≡ true → source p b a e q ≡ Some z → z ≡ q
reset_source p b actions.Skip e q z never from = absurd (true≢false (sym never))
reset_source p b (actions.Call m d n form) e q z resets from = go (is_temp_among d (max n 1) q || is_reset_of_this p (actions.Call m d n form) && is_part q) from
  where
    go : (c : Bool) → emptied c q ≡ Some z → z ≡ q
    go true none = absurd (let never : None ≡ Some z = none in cc)
    go false some = let both : Some q ≡ Some z = some in (let one : z ≡ q = cc in one)
reset_source p b a e q z never from = absurd (true≢false (sym never))

-- the place of a field is a part of `this`
pub field_is_part : (q : Place) → is_field_place q ≡ true → is_part q ≡ true
field_is_part (places.Field k) is = refl
field_is_part (places.Var i) is = absurd (true≢false (sym is))
field_is_part places.This is = absurd (true≢false (sym is))
field_is_part (places.Temp d) is = absurd (true≢false (sym is))
field_is_part places.Super is = absurd (true≢false (sym is))

pub local_is_no_field : (q : Place) → is_local q ≡ true → is_field_place q ≡ false
local_is_no_field (places.Var i) local = refl
local_is_no_field (places.Temp d) local = refl
local_is_no_field places.This local = absurd (true≢false (sym local))
local_is_no_field (places.Field k) local = absurd (true≢false (sym local))
local_is_no_field places.Super local = absurd (true≢false (sym local))

pub lent_not_held : (m : Mode) → is_lent m ≡ true → is_held m ≡ true → ⊥
lent_not_held modes.Own lent held = true≢false (sym held)
lent_not_held modes.None lent held = true≢false (sym held)
lent_not_held modes.Held lent held = true≢false (sym lent)
lent_not_held modes.Lent lent held = true≢false (sym held)
lent_not_held modes.Alias lent held = true≢false (sym held)

-- in a frame that answers for the fields of `this`, the fact of `this` is in mode Lent
module _ (p : Program) (ac : Accept p) (fr : Frame) (st : Stands p fr) (answers : answers_for_fields (method_at p fr.method) ≡ true) where
  running : (m : Method) × (method_at p fr.method ≡ Some m)
  running = let run = running_method p ac fr st in (run.0, run.1)

  says : (is_constructor_kind running.0.kind || is_position running.0.sig.reset 0) ≡ true
  says = elim (answers_by (method_at p fr.method) answers) [
    | inl alone ↦ or_left (is_constructor_kind running.0.kind) (is_position running.0.sig.reset 0)
        (sym (ap constructs running.1) ∙ (and_parts (constructs (method_at p fr.method)) (not (is_present (alias_in (method_at p fr.method)))) alone).0)
    | inr opens ↦ or_right (is_constructor_kind running.0.kind) (is_position running.0.sig.reset 0)
        (sym (ap (λ (m : Option Method). is_position (reset_in m) 0) running.1) ∙ (and_parts (not (constructs (method_at p fr.method))) (is_position (reset_in (method_at p fr.method)) 0) opens).1)
  ]

  pub lent_in_body : (o : Origin) (f : Fact) → Reach p st.number (relation_of p st.number) o fr.control f → has f.places places.This ≡ true → is_lent f.mode ≡ true
  lent_in_body o f reached is = this_is_lent_on_paths p st.number st.body running.0 st.at (ap (method_at p) st.method ∙ running.1) says o fr.control f reached
      (this_kind o.kind (this_own p ac st.number st.body st.at o fr.control f reached is))
