-- What a `return` makes of the obligation of the returned object.
use Rattle.std.specs.Prelude.{ℕ, Bool, false, ◌&&◌, not, Option, Some, None, if◌then◌else◌}
use Rattle.program_model.specs.declared.kinds.BodyId.{BodyId}
use Rattle.program_model.specs.declared.kinds.VType.{VType}
use Rattle.program_model.specs.declared.program.Program.{Program}
use Rattle.program_model.specs.declared.program.Method.{Method}
use Rattle.control_actions.specs.declared.action.Action.{Action}
use Rattle.control_actions.specs.declared.action.Action.TheVariants as actions
use Rattle.control_actions.specs.declared.action.Completion.{Completion}
use Rattle.control_actions.specs.declared.action.Completion.TheVariants as completions
use Rattle.control_actions.specs.declared.fact.Fact.{Fact}
use Rattle.control_actions.specs.declared.fact.Origin.{Origin}
use Rattle.control_actions.specs.declared.fact.Rule.TheVariants as rules
use Rattle.control_actions.specs.declared.place.Place.TheVariants as places
use Rattle.obligation_facts.specs.Facts.{has, is_alias}
use Rattle.must_call_sets.specs.MustCallSets.{is_heavy_as, fits_type}
use Rattle.must_call_sets.specs.Signatures.{is_present}
use Rattle.must_call_sets.specs.Bodies.{method_of, alias_position}
use Rattle.ownership_rules.specs.Heavy.{is_owned}
use Rattle.ownership_rules.specs.declared.moved.Moved.{Moved}
use Rattle.ownership_rules.specs.declared.moved.Moved.TheVariants.{Stays, Moves, Bad}

abbrev pub result_in : Option Method → Option VType
result_in None = None
result_in (Some m) = m.sig.result

-- the declared type of a body's result
abbrev pub result_type : Program → BodyId → Option VType
result_type p b = result_in (method_of p b)

abbrev pub owning_result_in : Option Method → Bool
owning_result_in None = false
owning_result_in (Some m) = m.sig.owning_result

-- an alias method returns what is an alias of its argument's resource
abbrev pub kept_alias : Fact → Moved
kept_alias f = if is_alias f.mode then Moves else Bad rules.AliasKept

-- an owning result is owned, and fits the result's type
abbrev pub owned_result : Program → BodyId → Origin → Fact → Moved
owned_result p b o f =
    if not (is_owned p o f) then Bad rules.NotOwned
    else (if not (fits_type p o.class (result_type p b)) then Bad rules.Narrow else Moves)

-- a heavy result
abbrev pub heavy_result : Program → BodyId → Origin → Fact → Moved
heavy_result p b o f =
    if is_present (alias_position p b) then kept_alias f
    else (if owning_result_in (method_of p b) then owned_result p b o f else Stays)

-- t(d) is returned
abbrev pub returned : Program → BodyId → Origin → ℕ → Fact → Moved
returned p b o d f =
    if has f.places (places.Temp d) && is_heavy_as p o.class (result_type p b) then heavy_result p b o f else Stays

abbrev pub moved_by : Program → BodyId → Origin → Completion → Fact → Moved
moved_by p b o (completions.ReturnValue d pos) f = returned p b o d f
moved_by p b o c f = Stays

abbrev pub moved_at_return : Program → BodyId → Origin → Action → Fact → Moved
moved_at_return p b o (actions.End c) f = moved_by p b o c f
moved_at_return p b o a f = Stays
