-- What a field of `this` holds, as the target of a call that creates an obligation anew, and stores into owning fields: both stand in a constructor, or in a body that creates the
-- obligation of `this` anew, and there a store goes into a field whose type has an obligation.
use Rattle.std.specs.Prelude.{◌&&◌, ◌||◌}
use Rattle.std.proofs.Common.{◌≡◌, ◌⊎◌, inl, inr, refl, sym, ap, ◌∙◌, ℕ, Bool, true, false, true≢false, not}
use Rattle.program_model.specs.declared.kinds.BodyId.{BodyId}
use Rattle.program_model.specs.declared.kinds.FieldId.{FieldId}
use Rattle.program_model.specs.declared.program.Program.{Program}
use Rattle.control_actions.specs.declared.action.Action.{Action}
use Rattle.control_actions.specs.declared.action.Action.TheVariants as actions
use Rattle.control_actions.specs.declared.action.Edge.{Edge}
use Rattle.control_actions.specs.declared.fact.Fact.{Fact}
use Rattle.control_actions.specs.declared.fact.Mode.{Mode}
use Rattle.control_actions.specs.declared.fact.Mode.TheVariants as modes
use Rattle.control_actions.specs.declared.fact.Origin.{Origin}
use Rattle.control_actions.specs.declared.place.Place.TheVariants as places
use Rattle.ownership_rules.specs.Bodies.{is_constructor, resets_this}
use Rattle.ownership_rules.specs.Facts.{has, is_held}
use Rattle.ownership_rules.specs.MustCallSets.{is_heavy_class}
use Rattle.place_laws.specs.Flow.{flow}
use Rattle.place_laws.specs.OwningFieldsStores.{has_heavy_type, lacks_reset}
use Rattle.fact_laws.specs.Anew.{IsAnswered, MayBeAnew}
use Rattle.fact_laws.specs.Outcomes.{IsFault}

-- the body is a constructor's, or its method creates the obligation of `this` anew
abbrev pub MayReset : Program → BodyId → Type 0
MayReset p b = (is_constructor p b ≡ true) ⊎ (resets_this p b ≡ true)

one_of : (c d : Bool) → not (c || d) ≡ false → (c ≡ true) ⊎ (d ≡ true)
one_of true d is = inl refl
one_of false true is = inr refl
one_of false false is = absurd (true≢false is)

-- what a field of `this` holds may be such a target in these bodies alone, and its class has an obligation
pub held_target : (p : Program) (b : BodyId) (o : Origin) (a : Action) (k : ℕ) (f : Fact) → MayBeAnew p b o a k f → f.mode ≡ modes.Held → (is_heavy_class p o.class ≡ true) × MayReset p b
held_target p b o a k f may held = (heavy may.answered, one_of (is_constructor p b) (resets_this p b) (sym (ap (λ (m : Mode). is_held m && not (is_constructor p b || resets_this p b)) held) ∙ may.announced))
  where
    heavy : IsAnswered f.mode (is_heavy_class p o.class) → is_heavy_class p o.class ≡ true
    heavy (inl lent) = absurd (let never : modes.Held ≡ modes.Lent = sym held ∙ lent in cc)
    heavy (inr owned) = owned.0

-- The object whose obligation a call creates anew is in a fact that says that the frame owns it, and its class has an obligation; or that it is lent; or that a field of `this` holds it,
-- and its class has an obligation, in such a body.
pub target_is_answered : (p : Program) (b : BodyId) (o : Origin) (a : Action) (k : ℕ) (f : Fact) → MayBeAnew p b o a k f
    → ((f.mode ≡ modes.Own) × (is_heavy_class p o.class ≡ true)) ⊎ ((f.mode ≡ modes.Lent) ⊎ ((f.mode ≡ modes.Held) × (is_heavy_class p o.class ≡ true) × MayReset p b))
target_is_answered p b o a k f may = go may.answered
  where
    go : IsAnswered f.mode (is_heavy_class p o.class) → ((f.mode ≡ modes.Own) × (is_heavy_class p o.class ≡ true)) ⊎ ((f.mode ≡ modes.Lent) ⊎ ((f.mode ≡ modes.Held) × (is_heavy_class p o.class ≡ true) × MayReset p b))
    go (inl lent) = inr (inl lent)
    go (inr (heavy, inl own)) = inl (own, heavy)
    go (inr (heavy, inr held)) = let is = held_target p b o a k f may held in inr (inr (held, is.0, is.1))

-- a store into an owning field, where `this` is in the fact, stands in a constructor, or in a method that creates the obligation of `this` anew and into a field whose type has an obligation; or a rule is broken
pub store_is_announced : (p : Program) (b : BodyId) (o : Origin) (g : FieldId) (d : ℕ) (e : Edge) (f : Fact) → has f.places places.This ≡ true
    → IsFault (flow p b o (actions.PutOwn g d) e f) ⊎ ((is_constructor p b ≡ true) ⊎ ((resets_this p b ≡ true) × (has_heavy_type p g ≡ true)))
store_is_announced p b o g d e f this = go (is_constructor p b) refl (resets_this p b) refl (has_heavy_type p g) refl
  where
    go : (c : Bool) → is_constructor p b ≡ c → (r : Bool) → resets_this p b ≡ r → (h : Bool) → has_heavy_type p g ≡ h
        → IsFault (flow p b o (actions.PutOwn g d) e f) ⊎ ((is_constructor p b ≡ true) ⊎ ((resets_this p b ≡ true) × (has_heavy_type p g ≡ true)))
    go true makes r resets h heavy = inr (inl makes)
    go false makes true resets true heavy = inr (inr (resets, heavy))
    go false makes true resets false heavy = inl (let lacks : lacks_reset p b g f ≡ true = rw (this, makes, resets, heavy) refl in rw lacks tt)
    go false makes false resets h heavy = inl (let lacks : lacks_reset p b g f ≡ true = rw (this, makes, resets) refl in rw lacks tt)
