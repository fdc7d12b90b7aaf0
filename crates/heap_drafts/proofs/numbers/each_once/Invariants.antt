use Rattle.heap_drafts.proofs.RisingLaws.{Once}
use Rattle.heap_drafts.proofs.numbers.each_once.Given as goal

abbrev pub invariant-each : goal.invariant-each
invariant-each l = Once l.sorted l.number-index l.last l.once.items
