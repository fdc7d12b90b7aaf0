-- What a call asks to have been called before on its arguments (`@CalledMethods`).
use Rattle.std.specs.Prelude.{ℕ, suc, Option, Some, None, List, [], ◌∷◌, if◌then◌else◌}
use Rattle.std.specs.FinSet as set
use Rattle.program_model.specs.declared.program.Program.{Program}
use Rattle.program_model.specs.declared.program.Method.{Method}
use Rattle.program_model.specs.declared.program.ParamSig.{ParamSig}
use Rattle.control_actions.specs.declared.action.Action.{Action}
use Rattle.control_actions.specs.declared.fact.Fact.{Fact}
use Rattle.obligation_facts.specs.Callees.{callee, holds_operand}
use Rattle.obligation_facts.specs.Facts.{PlaceSet, Names}
use Rattle.must_call_sets.specs.MustCallSets.{no_names, is_empty}
use Rattle.must_call_sets.specs.Signatures.{when}

-- the names that the parameters from position k on ask for, where the operand is among these places
abbrev pub asked_from : Action → PlaceSet → ℕ → List ParamSig → Names
asked_from a held k [] = no_names
asked_from a held k (x ∷ xs) = set.union (when (holds_operand a held k) x.before) (asked_from a held (suc k) xs)

abbrev pub parameters_in : Option Method → List ParamSig
parameters_in None = []
parameters_in (Some m) = m.sig.params.items

abbrev pub missing_before : Program → Action → Fact → Names
missing_before p a f = set.difference (asked_from a f.places 1 (parameters_in (callee p a))) f.called

abbrev pub some_names : Names → Option Names
some_names names = if is_empty names then None else Some names

-- the missing names, where there are some
abbrev pub precondition_missing : Program → Action → Fact → Option Names
precondition_missing p a f = some_names (missing_before p a f)
