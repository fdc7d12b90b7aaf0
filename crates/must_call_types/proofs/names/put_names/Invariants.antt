use Rattle.std.proofs.Common.{◌≡◌, ◌≤◌, fold, take, length}
use Rattle.rlc_base.specs.Names.{with_name}
use Rattle.annotation_kinds.specs.Annotations.{names_listed}
use Rattle.must_call_types.proofs.names.put_names.Given as goal

abbrev pub invariant-loop-name : goal.invariant-loop-name
invariant-loop-name l = record {
  taken : l.table ≡ fold with_name l.initial.table (take l.name-index (names_listed l.annotation));
  few : length l.table ≤ 128;
}
