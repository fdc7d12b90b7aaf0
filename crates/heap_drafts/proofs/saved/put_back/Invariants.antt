use Rattle.std.proofs.Common.{◌≡◌, ◌-◌, drop, length}
use Rattle.heap_drafts.specs.Drafts.{put_back}
use Rattle.heap_drafts.proofs.saved.put_back.Given as goal

abbrev pub invariant-each : goal.invariant-each
invariant-each l = l.heap ≡ put_back (drop (length l.saved - l.done) l.saved) l.initial.heap
