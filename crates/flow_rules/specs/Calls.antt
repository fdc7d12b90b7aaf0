-- What a call makes of a fact, but for its places: the steps in their order.
use Rattle.std.specs.Prelude.{true, Option, Some, None}
use Rattle.program_model.specs.declared.kinds.BodyId.{BodyId}
use Rattle.program_model.specs.declared.program.Program.{Program}
use Rattle.control_actions.specs.declared.action.Action.{Action}
use Rattle.control_actions.specs.declared.action.Edge.{Edge}
use Rattle.control_actions.specs.declared.fact.Fact.{Fact}
use Rattle.control_actions.specs.declared.fact.Mode.TheVariants as modes
use Rattle.control_actions.specs.declared.fact.Origin.{Origin}
use Rattle.control_actions.specs.declared.fact.Outcome.{Outcome}
use Rattle.control_actions.specs.declared.fact.Outcome.TheVariants.{Next, Fault}
use Rattle.control_actions.specs.declared.fact.Rule.{Rule}
use Rattle.control_actions.specs.declared.fact.Rule.TheVariants as rules
use Rattle.obligation_facts.specs.Facts.{Names, missing}
use Rattle.must_call_sets.specs.MustCallSets.{no_names, must_of, beyond_type}
use Rattle.called_methods.specs.CalledRows.{called_after}
use Rattle.called_methods.specs.Preconditions.{precondition_missing}
use Rattle.ownership_rules.specs.MovesAtCalls.{first_of, moved_at_call, owners}
use Rattle.ownership_rules.specs.declared.moved.Moved.{Moved}
use Rattle.ownership_rules.specs.declared.moved.Moved.TheVariants.{Stays, Moves, Bad}
use Rattle.must_call_reset.specs.Resets.{reset_of}
use Rattle.must_call_reset.specs.declared.reset_move.ResetMove.{ResetMove}
use Rattle.must_call_reset.specs.declared.reset_move.ResetMove.TheVariants as resets

-- the obligation is created anew: all that the class asks for must be called, and nothing was
abbrev pub anew : Fact → Fact
anew f = record f { called = no_names; full = true }

-- 4: the reset of the call's signature
abbrev pub after_reset : Program → Origin → Fact → ResetMove → Outcome
after_reset p o f resets.Untouched = Next f
after_reset p o f resets.Emptied = Next (anew f)
after_reset p o f (resets.Bad rule) = Fault rule (must_of p o.class)

abbrev pub with_called : Fact → Names → Fact
with_called f called = record f { called = called }

abbrev pub at_reset : Program → BodyId → Origin → Action → Fact → Outcome
at_reset p b o a f = after_reset p o f (reset_of p b o a f)

-- 3: the call counts for its name, and its promises hold
abbrev pub after_move : Program → BodyId → Origin → Action → Edge → Fact → Outcome
after_move p b o a e f = at_reset p b o a (with_called f (called_after p b a e f))

-- another owns the object from now on
abbrev pub given_away : Fact → Fact
given_away f = record f { mode = modes.None; called = no_names }

-- what a rule on the arguments tells as missing
abbrev pub missing_at_call : Program → Origin → Action → Fact → Rule → Names
missing_at_call p o a f rules.Narrow = beyond_type p o.class (first_of (owners p a f.places))
missing_at_call p o a f rules.Throw = missing o f
missing_at_call p o a f rule = must_of p o.class

-- 2: an owned argument moves at the start of the call
abbrev pub at_move : Program → BodyId → Origin → Action → Edge → Fact → Moved → Outcome
at_move p b o a e f Stays = after_move p b o a e f
at_move p b o a e f Moves = after_move p b o a e (given_away f)
at_move p b o a e f (Bad rule) = Fault rule (missing_at_call p o a f rule)

-- 1: what must have been called before
abbrev pub at_precondition : Program → BodyId → Origin → Action → Edge → Fact → Option Names → Outcome
at_precondition p b o a e f None = at_move p b o a e f (moved_at_call p o a e f)
at_precondition p b o a e f (Some names) = Fault rules.CalledMissing names

abbrev pub called : Program → BodyId → Origin → Action → Edge → Fact → Outcome
called p b o a e f = at_precondition p b o a e f (precondition_missing p a f)
