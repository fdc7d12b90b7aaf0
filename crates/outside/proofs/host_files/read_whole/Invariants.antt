use Rattle.std.proofs.Common.{◌≤◌, vec_len, vec_items}
use Rattle.std.specs.Io.KnownBytes.{Consumes}
use Rattle.outside.specs.Counts.{raised}
use Rattle.outside.proofs.host_files.read_whole.Given as goal

-- all that stands in `into` was counted, and was taken from the file's front
abbrev pub invariant-loop : goal.invariant-loop
invariant-loop g l = record {
  small : vec_len l.into ≤ l.most;
  falls : l.initial.taken ≤ l.taken;
  consumed : Consumes (g.F.Read.remaining l.initial.file) (g.F.Read.remaining l.file) (vec_items l.into);
  counted : raised (vec_len l.into) l.initial.taken ≤ l.taken;
}
