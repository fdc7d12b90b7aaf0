-- What is counted, and what is still to be counted, are all.
use Rattle.std.proofs.Common.{◌≡◌, ◌++◌, drop}
use Rattle.java_types.specs.ProgramCases.{member_cases, member_cases_from}
use Rattle.java_types.proofs.member_cases.count_members.Given as goal

abbrev pub invariant-loop-number : goal.invariant-loop-number
invariant-loop-number l = l.refusals.items ++ member_cases_from l.p l.number (drop l.number l.p.classes.items) ≡ l.fn.refusals.items ++ member_cases l.p
