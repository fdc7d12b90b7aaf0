-- Facts of which nothing is said, since something may be stored into the fields of `this` while the frame runs: they say that a field of `this` holds their object, and go on to say so.
use Rattle.std.proofs.Common.{◌≡◌, true, false, not, ◌&&◌, List, sym, ap, ◌∙◌, true≢false}
use Rattle.std.proofs.lemmas.Bool.{and_parts}
use Rattle.program_model.specs.declared.program.Program.{Program}
use Rattle.program_model.specs.Lookups.{method_at}
use Rattle.ledger_obligations.specs.Bodies.{constructs}
use Rattle.java_control.specs.Calls.{is_reset_of_this}
use Rattle.java_control.specs.Control.{Step}
use Rattle.control_actions.specs.declared.fact.Fact.{Fact}
use Rattle.control_actions.specs.declared.fact.Origin.{Origin}
use Rattle.ownership_rules.specs.Facts.{is_held}
use Rattle.value_laws.specs.Accept.{Accept}
use Rattle.value_laws.specs.Agreement.{Stands}
use Rattle.value_laws.specs.CalledRows.{called_after}
use Rattle.value_laws.specs.Configuration.{Frame}
use Rattle.value_laws.specs.FactGoing.{GoesAs}
use Rattle.value_laws.specs.Paths.{Reach, relation_of}
use Rattle.value_laws.specs.PlaceFacts.{is_idle, is_settled}
use Rattle.value_laws.specs.PlaceRows.{places_after}
use Rattle.value_laws.specs.PlainForms.{HasPlainForms}
use Rattle.value_laws.specs.Renewing.{is_of_heavy_class, reopens}
use Rattle.value_laws.proofs.HeldPlaces.{held_in_this}
use Rattle.value_laws.proofs.OtherPlaces.{stays_aside}
use Rattle.covering_laws.proofs.Bodies.{running_method}
use Rattle.covering_laws.proofs.HeavyFields.{held_mode}
use Rattle.covering_laws.proofs.InFields.{at_place, place_in}
use Rattle.covering_laws.proofs.TopSteps.{IsLocalStep}

-- what it is of
pub idle_parts : (p : Program) (frs : List Frame) (fr : Frame) (f : Fact) → is_idle p frs fr f ≡ true
    → (is_held f.mode ≡ true) × (not (constructs (method_at p fr.method)) ≡ true) × (not (reopens (method_at p fr.method)) ≡ true) × (is_of_heavy_class p (method_at p fr.method) ≡ true) × (not (is_settled p fr frs) ≡ true)
idle_parts p frs fr f is =
    let four = and_parts (is_held f.mode && not (constructs (method_at p fr.method)) && not (reopens (method_at p fr.method)) && is_of_heavy_class p (method_at p fr.method)) (not (is_settled p fr frs)) is in
    let three = and_parts (is_held f.mode && not (constructs (method_at p fr.method)) && not (reopens (method_at p fr.method))) (is_of_heavy_class p (method_at p fr.method)) four.0 in
    let two = and_parts (is_held f.mode && not (constructs (method_at p fr.method))) (not (reopens (method_at p fr.method))) three.0 in
    let one = and_parts (is_held f.mode) (not (constructs (method_at p fr.method))) two.0 in
    (one.0, one.1, two.1, three.1, four.1)

module _ (p : Program) (ac : Accept p) (forms : HasPlainForms p) (fr : Frame) (st : Stands p fr) (s : Step) (r : IsLocalStep p fr st s) where
  -- a fact that says that a field holds its object goes on to do so, but for calls that create the obligation of `this` anew
  pub held_goes : is_reset_of_this p s.action ≡ false → (o : Origin) (f g : Fact) → Reach p st.number (relation_of p st.number) o fr.control f
      → GoesAs f (places_after p st.number s.action s.edge f.places) (called_after p st.number s.action s.edge f) g → is_held f.mode ≡ true → is_held g.mode ≡ true
  held_goes none o f g reached goes held =
      let run = running_method p ac fr st in
      let inside = held_in_this p ac st.number st.body run.0 st.at (ap (method_at p) st.method ∙ run.1) (λ k i t n d comes here is. (forms.stores st.number i t n d comes here is)) o fr.control f reached held in
      let z = place_in f.places inside in
      let later = stays_aside z.0 z.1 z.2 p st.number s.edge f.places s.action r.small r.sets r.moves r.makes (λ resets. absurd (true≢false (sym resets ∙ none))) ∙ z.3 in
      ap is_held (goes.held (held_mode f.mode held) (at_place (places_after p st.number s.action s.edge f.places) z.0 z.1 z.2 later))

  pub idle_stays : is_reset_of_this p s.action ≡ false → (frs : List Frame) → (o : Origin) (f g : Fact) → Reach p st.number (relation_of p st.number) o fr.control f
      → GoesAs f (places_after p st.number s.action s.edge f.places) (called_after p st.number s.action s.edge f) g → is_idle p frs fr f ≡ true → is_held g.mode ≡ true
  idle_stays none frs o f g reached goes idle = held_goes none o f g reached goes (idle_parts p frs fr f idle).0
