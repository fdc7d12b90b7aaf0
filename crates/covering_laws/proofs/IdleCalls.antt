-- Facts of which nothing is said go on so over calls: a frame that has some creates the obligation of `this` not anew.
use Rattle.std.proofs.Common.{◌≡◌, ◌⊎◌, inl, inr, Bool, true, false, not, true≢false, Some, List, refl, sym, ap, ◌∙◌}
use Rattle.program_model.specs.declared.kinds.FieldId.{FieldId}
use Rattle.program_model.specs.declared.program.Method.{Method}
use Rattle.program_model.specs.declared.program.Program.{Program}
use Rattle.program_model.specs.Lookups.{method_at}
use Rattle.program_model.specs.Overrides.{is_library}
use Rattle.ledger_obligations.specs.Bodies.{constructs, has_field_place}
use Rattle.ledger_obligations.specs.MustCallSets.{is_heavy_class}
use Rattle.java_control.specs.Calls.{is_reset_of_this}
use Rattle.java_control.specs.Control.{Step}
use Rattle.control_actions.specs.declared.fact.Fact.{Fact}
use Rattle.control_actions.specs.declared.fact.Origin.{Origin}
use Rattle.ownership_rules.specs.Facts.{is_held}
use Rattle.value_laws.specs.Accept.{Accept}
use Rattle.value_laws.specs.Agreement.{Stands}
use Rattle.value_laws.specs.CalledRows.{called_after}
use Rattle.value_laws.specs.Configuration.{Frame}
use Rattle.value_laws.specs.FactGoing.{GoesAs}
use Rattle.value_laws.specs.Paths.{Reach, relation_of}
use Rattle.value_laws.specs.PlaceFacts.{is_idle, is_settled}
use Rattle.value_laws.specs.PlaceRows.{places_after}
use Rattle.value_laws.specs.PlainForms.{HasPlainForms}
use Rattle.value_laws.specs.Renewing.{HasOwningField, is_of_heavy_class, reopens}
use Rattle.value_laws.proofs.ThisTemps.{none_held}
use Rattle.covering_laws.proofs.Bodies.{running_method}
use Rattle.covering_laws.proofs.HeavyFields.{has_place_here}
use Rattle.covering_laws.proofs.IdleFacts.{idle_parts, idle_stays}
use Rattle.covering_laws.proofs.TopSteps.{IsLocalStep}

-- where the step creates the obligation of `this` anew, in a class with an obligation and owning fields, the frame runs a constructor, or a method that does so
abbrev pub LendsItsOwn : Program → Frame → Step → Type 0
LendsItsOwn p fr s = is_reset_of_this p s.action ≡ true → (m : Method) → method_at p fr.method ≡ Some m → is_heavy_class p m.class ≡ true → HasOwningField p m.class
    → (constructs (method_at p fr.method) ≡ true) ⊎ (reopens (method_at p fr.method) ≡ true)

module _ (p : Program) (ac : Accept p) (forms : HasPlainForms p) (fr : Frame) (st : Stands p fr) (s : Step) (r : IsLocalStep p fr st s) (lending : LendsItsOwn p fr s) where
  pub idle_over_call : (frs : List Frame) (g : Origin) (f f' : Fact) → Reach p st.number (relation_of p st.number) g fr.control f
      → GoesAs f (places_after p st.number s.action s.edge f.places) (called_after p st.number s.action s.edge f) f' → is_idle p frs fr f ≡ true → is_held f'.mode ≡ true
  idle_over_call frs g f f' reached goes is = go (is_reset_of_this p s.action) refl
    where
      parts : (is_held f.mode ≡ true) × (not (constructs (method_at p fr.method)) ≡ true) × (not (reopens (method_at p fr.method)) ≡ true) × (is_of_heavy_class p (method_at p fr.method) ≡ true) × (not (is_settled p fr frs) ≡ true)
      parts = idle_parts p frs fr f is

      go : (b : Bool) → is_reset_of_this p s.action ≡ b → is_held f'.mode ≡ true
      go false none = idle_stays p ac forms fr st s r none frs g f f' reached goes is
      go true resets = absurd (true≢false (sym parts.0 ∙ none_held p ac st.number st.body run.0 st.at (ap (method_at p) st.method ∙ run.1) (λ k i t n d comes here is'. (forms.stores st.number i t n d comes here is')) free g fr.control f reached))
        where
          run : (m : Method) × (method_at p fr.method ≡ Some m) × (is_library p m.class ≡ false)
          run = running_method p ac fr st

          -- no owning field has a place there
          free : (n : FieldId) → has_field_place p st.number n ≡ false
          free n = by (has_field_place p st.number n) refl
            where
              by : (b : Bool) → has_field_place p st.number n ≡ b → has_field_place p st.number n ≡ false
              by false out = out
              by true has' =
                  let place = has_place_here p ac fr st n has' in
                  absurd (elim (lending resets place.method place.named (ap (is_of_heavy_class p) (sym place.named) ∙ parts.3) (n, place.field, place.at, place.owning, place.class)) [
                    | inl makes ↦ true≢false (sym parts.1 ∙ ap not makes)
                    | inr opens ↦ true≢false (sym parts.2 ∙ ap not opens)
                  ])
