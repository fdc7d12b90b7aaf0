use Rattle.std.proofs.Common.{◌≡◌, ◌++◌, take}
use Rattle.class_names.specs.Meanings.{unit_of}
use Rattle.class_checks.specs.MemberKeys.{parameter_codes}
use Rattle.class_checks.proofs.members.push_parameters.Given as goal

abbrev pub invariant-loop-parameter : goal.invariant-loop-parameter
invariant-loop-parameter l = l.key.items ≡ l.fn.key.items ++ parameter_codes l.names (unit_of l.scope) (take l.parameter-index l.parameters)
