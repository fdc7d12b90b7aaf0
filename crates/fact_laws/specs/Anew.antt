-- Facts of the object whose obligation a call creates anew (Checker Framework manual, Resource Leak Checker, "Creating obligations").
use Rattle.std.specs.Prelude.{◌≡◌, ◌⊎◌, ℕ, Bool, true, false, Option, None, Some}
use Rattle.program_model.specs.declared.kinds.BodyId.{BodyId}
use Rattle.program_model.specs.declared.program.Program.{Program}
use Rattle.control_actions.specs.declared.action.Action.{Action}
use Rattle.control_actions.specs.declared.fact.Fact.{Fact}
use Rattle.control_actions.specs.declared.fact.Mode.{Mode}
use Rattle.control_actions.specs.declared.fact.Mode.TheVariants as modes
use Rattle.control_actions.specs.declared.fact.Origin.{Origin}
use Rattle.ownership_rules.specs.Bodies.{alias_position, is_alias_constructor, is_constructor, reset_in, resets_this}
use Rattle.ownership_rules.specs.Callees.{callee, holds_operand}
use Rattle.ownership_rules.specs.Facts.{PlaceSet, is_origin_at, mode_at}
use Rattle.ownership_rules.specs.MustCallSets.{is_heavy_class, no_names}
use Rattle.must_call_reset.specs.Resets.{is_hidden_this, is_partial_object, is_unannounced}

abbrev pub holds_target : Action → PlaceSet → Option ℕ → Bool
holds_target a held None = false
holds_target a held (Some k) = holds_operand a held k

-- these places hold the object whose obligation the call creates anew
abbrev pub is_target : Program → Action → PlaceSet → Bool
is_target p a held = holds_target a held (reset_in (callee p a))

-- somebody answers for the object, whose class has an obligation or not: the frame or a field of `this` owns it, and its class has one; or it is lent
abbrev pub IsAnswered : Mode → Bool → Type 0
IsAnswered m heavy = (m ≡ modes.Lent) ⊎ ((heavy ≡ true) × ((m ≡ modes.Own) ⊎ (m ≡ modes.Held)))

-- The rules let a call create the obligation of the fact's object anew, which is its operand at position `k`: somebody answers for it, it is no aliased
-- argument and nothing of which a constructor has a part alone, it is not `this` under another name, and what a field holds is reset in a constructor, or
-- in a method that says so.
pub record MayBeAnew (p : Program) (b : BodyId) (o : Origin) (a : Action) (k : ℕ) (f : Fact) : Type 0 where
  pub answered : IsAnswered f.mode (is_heavy_class p o.class)
  pub alias : is_origin_at o.kind (alias_position p b) ≡ false
  pub whole : is_partial_object p b o f ≡ false
  pub shown : is_hidden_this a k o ≡ false
  pub announced : is_unannounced p b f ≡ false

-- what a field of `this` holds is created anew by a constructor without an aliased argument, or by a method that creates the obligation of `this` anew
abbrev pub MayRenewFields : Program → BodyId → Type 0
MayRenewFields p b = ((is_constructor p b ≡ true) × (is_alias_constructor p b ≡ false)) ⊎ ((is_constructor p b ≡ false) × (resets_this p b ≡ true))

-- the frame owns the object, whose class has an obligation, or such a body holds it in a field of `this`; or it is lent
abbrev pub IsInHands : Program → BodyId → Mode → Bool → Type 0
IsInHands p b m heavy =
    ((m ≡ modes.Own) × (heavy ≡ true)) ⊎ ((m ≡ modes.Lent) ⊎ ((m ≡ modes.Held) × (heavy ≡ true) × MayRenewFields p b))

-- the fact at these places from now on, its obligation created anew: no name was called, and all that its class asks for is needed
abbrev pub fact_anew : Fact → PlaceSet → Fact
fact_anew f held = record f { places = held; mode = mode_at f.mode held; called = no_names; full = true }

-- the call creates the obligation of the fact's object anew, which it may, and the fact goes on so at these places
pub record GoesAnew (p : Program) (b : BodyId) (o : Origin) (a : Action) (f : Fact) (held : PlaceSet) (g : Fact) : Type 0 where
  pub position : ℕ
  pub target : reset_in (callee p a) ≡ Some position
  pub may : MayBeAnew p b o a position f
  pub anew : g ≡ fact_anew f held
