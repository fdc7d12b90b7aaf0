-- What the end of a body makes of a fact.
use Rattle.std.specs.Prelude.{Bool, true, false, ◌&&◌, not, Option, Some, None, if◌then◌else◌}
use Rattle.program_model.specs.declared.kinds.BodyId.{BodyId}
use Rattle.program_model.specs.declared.program.Program.{Program}
use Rattle.control_actions.specs.declared.action.Action.TheVariants as actions
use Rattle.control_actions.specs.declared.action.Completion.{Completion}
use Rattle.control_actions.specs.declared.action.Completion.TheVariants as completions
use Rattle.control_actions.specs.declared.fact.Fact.{Fact}
use Rattle.control_actions.specs.declared.fact.Origin.{Origin}
use Rattle.control_actions.specs.declared.fact.Outcome.{Outcome}
use Rattle.control_actions.specs.declared.fact.Outcome.TheVariants.{Gone, Fault}
use Rattle.control_actions.specs.declared.fact.Rule.{Rule}
use Rattle.control_actions.specs.declared.fact.Rule.TheVariants as rules
use Rattle.obligation_facts.specs.Facts.{Names, has_field, is_alias, is_held, is_met, is_origin_at, missing, owes}
use Rattle.must_call_sets.specs.MustCallSets.{must_of, beyond_type, is_heavy_class}
use Rattle.must_call_sets.specs.Bodies.{is_constructor, alias_position}
use Rattle.called_methods.specs.Promises.{broken_promise}
use Rattle.ownership_rules.specs.MovesAtReturns.{moved_at_return, result_type}
use Rattle.ownership_rules.specs.declared.moved.Moved.{Moved}
use Rattle.ownership_rules.specs.declared.moved.Moved.TheVariants.{Stays, Moves, Bad}

abbrev pub is_throw : Completion → Bool
is_throw (completions.Throw d t pos) = true
is_throw _ = false

-- The aliased argument is not returned: in a constructor it must be kept in an owning field.
abbrev pub alias_never_returned : Program → BodyId → Origin → Completion → Fact → Bool
alias_never_returned p b o c f =
    not (is_throw c) && is_origin_at o.kind (alias_position p b) && is_heavy_class p o.class
    && not (is_constructor p b && has_field f.places)

-- a constructor throws, and what its object owns has its obligation open
abbrev pub constructor_throws : Program → BodyId → Origin → Completion → Fact → Bool
constructor_throws p b o c f =
    is_throw c && is_constructor p b && is_held f.mode && not (is_met o f) && not (is_origin_at o.kind (alias_position p b))

abbrev pub promise_at_end : Option Names → Outcome
promise_at_end None = Gone
promise_at_end (Some names) = Fault rules.Ensures names

abbrev pub exit_rule : Completion → Rule
exit_rule c = if is_throw c then rules.Throw else rules.Exit

-- the rules of an end, the first that is broken
abbrev pub left_at_end : Program → BodyId → Origin → Completion → Fact → Outcome
left_at_end p b o c f =
    if alias_never_returned p b o c f then Fault rules.AliasKept (must_of p o.class)
    else (if owes o f then Fault (exit_rule c) (missing o f)
    else (if constructor_throws p b o c f then Fault rules.CtorThrow (missing o f)
    else promise_at_end (broken_promise p b o (actions.End c) f)))

-- what a rule on the result tells as missing
abbrev pub missing_at_return : Program → BodyId → Origin → Rule → Names
missing_at_return p b o rules.Narrow = beyond_type p o.class (result_type p b)
missing_at_return p b o rule = must_of p o.class

-- The result has moved. Where it is an alias, the caller still has what it is an alias of, and believes what the method
-- promises of that.
abbrev pub moved_away : Program → BodyId → Origin → Completion → Fact → Outcome
moved_away p b o c f = if is_alias f.mode then promise_at_end (broken_promise p b o (actions.End c) f) else Gone

abbrev pub after_return : Program → BodyId → Origin → Completion → Fact → Moved → Outcome
after_return p b o c f Stays = left_at_end p b o c f
after_return p b o c f Moves = moved_away p b o c f
after_return p b o c f (Bad rule) = Fault rule (missing_at_return p b o rule)

-- the end of a body: first the result moves
abbrev pub ended : Program → BodyId → Origin → Completion → Fact → Outcome
ended p b o c f = after_return p b o c f (moved_at_return p b o (actions.End c) f)
