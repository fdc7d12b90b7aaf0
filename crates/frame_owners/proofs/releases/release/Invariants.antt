use Rattle.std.proofs.Common.{◌≡◌, drop}
use Rattle.frame_owners.specs.FrameOwners.{released}
use Rattle.frame_owners.proofs.releases.release.Given as goal

abbrev pub invariant-loop-number : goal.invariant-loop-number
invariant-loop-number l = released l.position (drop l.number-index l.numbers) l.heap ≡ released l.position l.numbers l.initial.heap
