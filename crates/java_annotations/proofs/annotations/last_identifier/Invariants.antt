use Rattle.std.proofs.Common.{◌≡◌, ◌+◌, ◌≤◌, ◌==◌, not, length, take}
use Rattle.std.specs.List.{suffix_len}
use Rattle.java_annotations.proofs.annotations.last_identifier.Given as goal

abbrev pub invariant-back : goal.invariant-back
invariant-back l = record {
  within : l.start ≤ length l.name;
  passed : l.start + suffix_len (λ b. not (b == 46)) l.name ≡ length l.name + suffix_len (λ b. not (b == 46)) (take l.start l.name);
}

abbrev pub decreases-back : goal.decreases-back
decreases-back l = l.start
