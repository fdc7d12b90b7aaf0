use Rattle.std.proofs.Common.{◌≡◌, Some, length}
use Rattle.std.specs.FinSet as set
use Rattle.flow_certs.specs.Lines.{names_from}
use Rattle.flow_certs.specs.Numbers.{parts}
use Rattle.flow_certs.proofs.line.names_in.Given as goal

-- the words to come, behind the names so far, name what all of them name
abbrev pub invariant-words : goal.invariant-words
invariant-words l = names_from l.p (Some l.so_far) (parts 44 l.rest) ≡ names_from l.p (Some (0, set.empty)) (parts 44 l.fn.text)

abbrev pub decreases-words : goal.decreases-words
decreases-words l = length l.rest
