-- Whether a call creates the obligation of a fact's object anew, and that it may.
use Rattle.std.proofs.Common.{◌≡◌, inl, inr, ℕ, Bool, true, false, ◌||◌, Option, Some, None, refl, sym, ap, ◌∙◌, true≢false}
use Rattle.program_model.specs.declared.kinds.BodyId.{BodyId}
use Rattle.program_model.specs.declared.program.Program.{Program}
use Rattle.control_actions.specs.declared.action.Action.{Action}
use Rattle.control_actions.specs.declared.fact.Fact.{Fact}
use Rattle.control_actions.specs.declared.fact.Mode.{Mode}
use Rattle.control_actions.specs.declared.fact.Mode.TheVariants as modes
use Rattle.control_actions.specs.declared.fact.Origin.{Origin}
use Rattle.std.proofs.lemmas.Bool.{or_parts}
use Rattle.ownership_rules.specs.Bodies.{alias_position, reset_in}
use Rattle.ownership_rules.specs.Callees.{callee}
use Rattle.ownership_rules.specs.Facts.{is_origin_at}
use Rattle.ownership_rules.specs.MustCallSets.{is_heavy_class}
use Rattle.must_call_reset.specs.Resets.{is_bad_target, is_hidden_this, is_partial_object, is_unannounced, is_unanswered, reset_at, reset_of, reset_target}
use Rattle.must_call_reset.specs.declared.reset_move.ResetMove.TheVariants as resets
use Rattle.fact_laws.specs.Anew.{IsAnswered, MayBeAnew, holds_target, is_target}

-- ---- the reset

-- an object that is not the target is untouched
pub untouched : (p : Program) (b : BodyId) (o : Origin) (a : Action) (f : Fact) → is_target p a f.places ≡ false → reset_of p b o a f ≡ resets.Untouched
untouched p b o a f out = go (reset_in (callee p a)) out
  where
    go : (k : Option ℕ) → holds_target a f.places k ≡ false → reset_at p b o a k f ≡ resets.Untouched
    go None other = refl
    go (Some k) other = rw other refl

-- the target is that at the position of the signature
pub targeted : (p : Program) (b : BodyId) (o : Origin) (a : Action) (f : Fact) → is_target p a f.places ≡ true
    → (k : ℕ) × (reset_in (callee p a) ≡ Some k) × (reset_of p b o a f ≡ reset_target p b o a k f)
targeted p b o a f is = go (reset_in (callee p a)) refl is
  where
    go : (k : Option ℕ) → reset_in (callee p a) ≡ k → holds_target a f.places k ≡ true → (j : ℕ) × (reset_in (callee p a) ≡ Some j) × (reset_of p b o a f ≡ reset_target p b o a j f)
    go None at here = absurd (true≢false (sym here))
    go (Some k) at here = (k, at, ap (λ (j : Option ℕ). reset_at p b o a j f) at ∙ rw here refl)

answered : (m : Mode) (heavy : Bool) → is_unanswered m heavy ≡ false → IsAnswered m heavy
answered modes.Own true none = inr (refl, inl refl)
answered modes.Own false none = absurd (true≢false none)
answered modes.None heavy none = absurd (true≢false none)
answered modes.Held true none = inr (refl, inr refl)
answered modes.Held false none = absurd (true≢false none)
answered modes.Lent heavy none = inl refl
answered modes.Alias heavy none = absurd (true≢false none)

-- what breaks no rule may be created anew
pub may_be_anew : (p : Program) (b : BodyId) (o : Origin) (a : Action) (k : ℕ) (f : Fact) → is_bad_target p b o a k f ≡ false → is_unannounced p b f ≡ false → MayBeAnew p b o a k f
may_be_anew p b o a k f good said =
    let third = or_parts (is_unanswered f.mode (is_heavy_class p o.class) || is_origin_at o.kind (alias_position p b) || is_partial_object p b o f) (is_hidden_this a k o) good in
    let second = or_parts (is_unanswered f.mode (is_heavy_class p o.class) || is_origin_at o.kind (alias_position p b)) (is_partial_object p b o f) third.0 in
    let first = or_parts (is_unanswered f.mode (is_heavy_class p o.class)) (is_origin_at o.kind (alias_position p b)) second.0 in
    record { answered = answered f.mode (is_heavy_class p o.class) first.0; alias = first.1; whole = second.1; shown = third.1; announced = said }
