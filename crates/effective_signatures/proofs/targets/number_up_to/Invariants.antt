use Rattle.std.proofs.Common.{◌≡◌, ◌≤◌, fold, take}
use Rattle.effective_signatures.specs.Targets.{next_digit}
use Rattle.effective_signatures.proofs.targets.number_up_to.Given as goal

abbrev pub invariant-loop-digit : goal.invariant-loop-digit
invariant-loop-digit l = record { read : l.value ≡ fold next_digit 0 (take l.digit-index l.digits); small : l.value ≤ l.count }
