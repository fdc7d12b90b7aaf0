use Rattle.std.proofs.Common.{◌≡◌, ◌≤◌, [], fold, take, drop, map, length}
use Rattle.must_call_types.specs.NameTable.{past_limit, with_names}
use Rattle.must_call_types.proofs.names.table_of.Given as goal

abbrev pub invariant-loop-annotation : goal.invariant-loop-annotation
invariant-loop-annotation l = record {
  table : l.table ≡ fold with_names [] (take l.annotation-index (map (λ a. a.now) l.annotations));
  past : past_limit [] (map (λ a. a.now) l.annotations) ≡ past_limit l.table (drop l.annotation-index (map (λ a. a.now) l.annotations));
  few : length l.table ≤ 128;
}
