-- A store into an owning field stands in a constructor, or in a method that creates the obligation of `this` anew and goes into a field whose type has an obligation, wherever a path
-- brings a fact that has `this` (Checker Framework manual, Resource Leak Checker, "Owning fields").
use Rattle.std.proofs.Common.{◌≡◌, ◌⊎◌, inl, inr, ℕ, Bool, true, false, ◌&&◌, Some, List, slice_get, refl, sym, subst}
use Rattle.std.proofs.lemmas.Bool.{and_parts}
use Rattle.program_model.specs.declared.kinds.BodyId.{BodyId}
use Rattle.program_model.specs.declared.kinds.FieldId.{FieldId}
use Rattle.program_model.specs.declared.program.Program.{Program}
use Rattle.java_control.specs.Remaining.{Todo}
use Rattle.control_actions.specs.declared.action.Action.{Action}
use Rattle.control_actions.specs.declared.action.Action.TheVariants as actions
use Rattle.control_actions.specs.declared.action.Edge.{Edge}
use Rattle.control_actions.specs.declared.fact.Fact.{Fact}
use Rattle.control_actions.specs.declared.fact.Origin.{Origin}
use Rattle.control_actions.specs.declared.place.Place.TheVariants as places
use Rattle.ownership_rules.specs.Bodies.{is_constructor, resets_this}
use Rattle.ownership_rules.specs.Facts.{has}
use Rattle.fact_laws.specs.Accept.{Accept}
use Rattle.fact_laws.specs.Flow.{flow}
use Rattle.fact_laws.specs.Outcomes.{IsFault}
use Rattle.fact_laws.specs.OwningFieldsStores.{has_heavy_type}
use Rattle.fact_laws.specs.Paths.{Move, Reach, relation_of}
use Rattle.frame_laws.proofs.Following.{breaks_nothing}

-- elsewhere the store breaks a rule
outside_faults : (p : Program) (b : BodyId) (o : Origin) (f : FieldId) (d : ℕ) (e : Edge) (g : Fact) → has g.places places.This ≡ true → is_constructor p b ≡ false
    → (resets_this p b && has_heavy_type p f) ≡ false → IsFault (flow p b o (actions.PutOwn f d) e g)
outside_faults p b o f d e g this made reset = rw (this, made, reset) tt

-- So the body is a constructor, or its method creates the obligation of `this` anew and the field's type has an obligation.
pub store_is_plain : (p : Program) → Accept p → (b : BodyId) (o : Origin) {k : List Todo} (i : ℕ) (t : Move (List Todo)) (g : Fact) (f : FieldId) (d : ℕ) → Reach p b (relation_of p b) o k g
    → slice_get ((relation_of p b).next k) i ≡ Some t → t.action ≡ actions.PutOwn f d → has g.places places.This ≡ true
    → (is_constructor p b ≡ true) ⊎ ((resets_this p b ≡ true) × (has_heavy_type p f ≡ true))
store_is_plain p ac b o i t g f d reached at is this = go (is_constructor p b) refl (resets_this p b && has_heavy_type p f) refl
  where
    go : (c : Bool) → is_constructor p b ≡ c → (r : Bool) → (resets_this p b && has_heavy_type p f) ≡ r → (is_constructor p b ≡ true) ⊎ ((resets_this p b ≡ true) × (has_heavy_type p f ≡ true))
    go true made r reset = inl made
    go false made true reset = inr (and_parts (resets_this p b) (has_heavy_type p f) reset)
    go false made false reset = absurd (breaks_nothing p ac b o i t g reached at (subst (λ (a : Action). IsFault (flow p b o a t.edge g)) (sym is) (outside_faults p b o f d t.edge g this made reset)))
