-- The call that creates an obligation anew, and what it makes of what is known of its target (Checker Framework manual,
-- Resource Leak Checker, "Creating obligations").
use Rattle.std.specs.Prelude.{ℕ, Bool, true, false, ◌&&◌, ◌||◌, not, nat_eq, Option, Some, None, if◌then◌else◌}
use Rattle.program_model.specs.declared.kinds.BodyId.{BodyId}
use Rattle.program_model.specs.declared.program.Program.{Program}
use Rattle.control_actions.specs.declared.action.Action.{Action}
use Rattle.control_actions.specs.declared.fact.Fact.{Fact}
use Rattle.control_actions.specs.declared.fact.Mode.{Mode}
use Rattle.control_actions.specs.declared.fact.Mode.TheVariants as modes
use Rattle.control_actions.specs.declared.fact.Origin.{Origin}
use Rattle.control_actions.specs.declared.fact.Rule.TheVariants as rules
use Rattle.obligation_facts.specs.Callees.{callee, holds_operand, is_this_target}
use Rattle.obligation_facts.specs.Facts.{is_held, is_lent, is_origin_at, is_this_origin}
use Rattle.must_call_sets.specs.MustCallSets.{is_heavy_class}
use Rattle.must_call_sets.specs.Bodies.{is_constructor, is_alias_constructor, is_extended_constructor, alias_position, resets_this, reset_in}
use Rattle.must_call_reset.specs.declared.reset_move.ResetMove.{ResetMove}
use Rattle.must_call_reset.specs.declared.reset_move.ResetMove.TheVariants.{Untouched, Emptied, Bad}

-- nobody of this body answers for the object's obligation
abbrev pub is_unanswered : Mode → Bool → Bool
is_unanswered modes.Own is_heavy = not is_heavy
is_unanswered modes.None is_heavy = true
is_unanswered modes.Held is_heavy = not is_heavy
is_unanswered modes.Lent is_heavy = false
is_unanswered modes.Alias is_heavy = true

-- a constructor that has not the whole of its object: an alias constructor, or that of a class which another class extends
abbrev pub is_partial_constructor : Program → BodyId → Bool
is_partial_constructor p b = is_alias_constructor p b || is_extended_constructor p b

-- the object that such a constructor makes
abbrev pub is_partial_object : Program → BodyId → Origin → Fact → Bool
is_partial_object p b o f = is_partial_constructor p b && (is_lent f.mode || is_held f.mode && is_this_origin o.kind)

-- the target is `this`, written or implied: the receiver of a call whose target has that form or is `super`
abbrev pub is_this_reset : Action → ℕ → Bool
is_this_reset a k = nat_eq k 0 && is_this_target a

-- `this` is reset under another name
abbrev pub is_hidden_this : Action → ℕ → Origin → Bool
is_hidden_this a k o = is_this_origin o.kind && not (is_this_reset a k)

abbrev pub is_bad_target : Program → BodyId → Origin → Action → ℕ → Fact → Bool
is_bad_target p b o a k f =
    is_unanswered f.mode (is_heavy_class p o.class)
    || is_origin_at o.kind (alias_position p b)
    || is_partial_object p b o f
    || is_hidden_this a k o

-- what a field holds is reset in a method that does not say so
abbrev pub is_unannounced : Program → BodyId → Fact → Bool
is_unannounced p b f = is_held f.mode && not (is_constructor p b || resets_this p b)

-- the object is the target, at position k
abbrev pub reset_target : Program → BodyId → Origin → Action → ℕ → Fact → ResetMove
reset_target p b o a k f =
    if is_bad_target p b o a k f then Bad rules.ResetNotOwned
    else (if is_unannounced p b f then Bad rules.ResetMissing else Emptied)

abbrev pub reset_at : Program → BodyId → Origin → Action → Option ℕ → Fact → ResetMove
reset_at p b o a None f = Untouched
reset_at p b o a (Some k) f = if holds_operand a f.places k then reset_target p b o a k f else Untouched

-- what the reset of a call's signature makes of the fact
abbrev pub reset_of : Program → BodyId → Origin → Action → Fact → ResetMove
reset_of p b o a f = reset_at p b o a (reset_in (callee p a)) f
