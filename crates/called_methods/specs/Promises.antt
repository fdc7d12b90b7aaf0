-- What a body's method promises to have called when it ends (`@EnsuresCalledMethods`, `@EnsuresCalledMethodsOnException`).
use Rattle.std.specs.Prelude.{Bool, false, Option, Some, List}
use Rattle.std.specs.FinSet as set
use Rattle.program_model.specs.declared.kinds.BodyId.{BodyId}
use Rattle.program_model.specs.declared.kinds.Target.{Target}
use Rattle.program_model.specs.declared.kinds.Target.TheVariants as promised
use Rattle.program_model.specs.declared.program.Program.{Program}
use Rattle.program_model.specs.declared.program.Promise.{Promise}
use Rattle.control_actions.specs.declared.action.Action.{Action}
use Rattle.control_actions.specs.declared.action.Action.TheVariants as actions
use Rattle.control_actions.specs.declared.action.Completion.{Completion}
use Rattle.control_actions.specs.declared.action.Completion.TheVariants as completions
use Rattle.control_actions.specs.declared.fact.Fact.{Fact}
use Rattle.control_actions.specs.declared.fact.Origin.{Origin}
use Rattle.control_actions.specs.declared.fact.OriginKind.{OriginKind}
use Rattle.obligation_facts.specs.Facts.{PlaceSet, Names, is_origin_at}
use Rattle.must_call_sets.specs.MustCallSets.{no_names}
use Rattle.must_call_sets.specs.Signatures.{when, names_of_all}
use Rattle.must_call_sets.specs.Bodies.{method_of, is_finalizer, promises_in, throwing_promises_in}
use Rattle.called_methods.specs.CalledRows.{holds_field}
use Rattle.called_methods.specs.Preconditions.{some_names}

-- the promise is on the origin's own position
abbrev pub is_of_origin : OriginKind → Target → Bool
is_of_origin kind (promised.At k) = is_origin_at kind (Some k)
is_of_origin kind (promised.OfField f) = false

-- the promise is on a field of `this` that holds the object
abbrev pub is_of_held_field : Program → BodyId → PlaceSet → Target → Bool
is_of_held_field p b held (promised.At k) = false
is_of_held_field p b held (promised.OfField f) = holds_field p b held f

-- the names of the promises on the origin's position, and of those on fields that hold the object
abbrev pub promised_on_position : OriginKind → List Promise → Names
promised_on_position kind promises = names_of_all (λ (x : Promise). when (is_of_origin kind x.target) x.names) promises

abbrev pub promised_on_fields : Program → BodyId → PlaceSet → List Promise → Names
promised_on_fields p b held promises = names_of_all (λ (x : Promise). when (is_of_held_field p b held x.target) x.names) promises

abbrev pub promised_on_both : Program → BodyId → OriginKind → PlaceSet → List Promise → Names
promised_on_both p b kind held promises = set.union (promised_on_position kind promises) (promised_on_fields p b held promises)

-- where the body ends by an exception, the promises on exception hold, and those that a must-call method makes on fields
abbrev pub promised_by_throw : Program → BodyId → OriginKind → PlaceSet → Names
promised_by_throw p b kind held =
    set.union (promised_on_both p b kind held (throwing_promises_in (method_of p b)))
    (when (is_finalizer p b) (promised_on_fields p b held (promises_in (method_of p b))))

-- The promises that the end of a body must keep: all of its method where it ends by a `return`, and else those of its
-- exceptions. (It never ends by a `break` or `continue`; each of these counts as a `return`.)
abbrev pub promised_by_end : Program → BodyId → OriginKind → PlaceSet → Completion → Names
promised_by_end p b kind held (completions.Return pos) = promised_on_both p b kind held (promises_in (method_of p b))
promised_by_end p b kind held (completions.ReturnValue d pos) = promised_on_both p b kind held (promises_in (method_of p b))
promised_by_end p b kind held (completions.Throw d t pos) = promised_by_throw p b kind held
promised_by_end p b kind held (completions.Break pos) = promised_on_both p b kind held (promises_in (method_of p b))
promised_by_end p b kind held (completions.Continue pos) = promised_on_both p b kind held (promises_in (method_of p b))

abbrev pub promised_at_end : Program → BodyId → OriginKind → PlaceSet → Action → Names
promised_at_end p b kind held (actions.End c) = promised_by_end p b kind held c
promised_at_end p b kind held a = no_names

-- the promised names that were not called, where there are some
abbrev pub broken_promise : Program → BodyId → Origin → Action → Fact → Option Names
broken_promise p b o a f = some_names (set.difference (promised_at_end p b o.kind f.places a) f.called)
