use Rattle.std.proofs.Common.{◌≡◌, ◌+◌, ◌≤◌, Some, length}
use Rattle.flow_certs.specs.Forms.{first_wrong, lines_of, wrong_from}
use Rattle.flow_certs.proofs.form.first_wrong.Given as goal

-- the lines to come are judged as they stand behind those before
abbrev pub invariant-lines : goal.invariant-lines
invariant-lines l = record {
  number : l.number + length l.rest ≤ length l.bytes + 1;
  lines : wrong_from l.p (Some l.stage) l.number (lines_of l.rest) ≡ first_wrong l.p l.bytes;
}

abbrev pub decreases-lines : goal.decreases-lines
decreases-lines l = length l.rest
