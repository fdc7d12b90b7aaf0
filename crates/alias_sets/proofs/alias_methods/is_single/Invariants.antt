use Rattle.std.proofs.Common.{◌≡◌, ◌-◌, length}
use Rattle.std.specs.List.{list_any, range_with_len}
use Rattle.std.specs.FinSet as set
use Rattle.rlc_base.specs.NameSet.{is_same}
use Rattle.program_model.specs.NameSets.{no_names}
use Rattle.must_call_sets.specs.AliasCases.{is_single}
use Rattle.alias_sets.proofs.alias_methods.is_single.Given as goal

abbrev pub invariant-loop-number : goal.invariant-loop-number
invariant-loop-number l = list_any (λ n. is_same l.names (set.insert no_names n)) (range_with_len l.number (length l.p.names - l.number)) ≡ is_single l.p l.names
