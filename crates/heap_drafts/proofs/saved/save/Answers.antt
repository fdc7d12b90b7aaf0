use Rattle.std.proofs.Common.{◌∙◌, take}
use Rattle.heap_drafts.proofs.DraftLaws.{drafted_saved}
use Rattle.heap_drafts.proofs.saved.save.Goals as goal

pub returns-in_err-save_one-clause-drafted : goal.returns-in_err-save_one-clause-drafted
returns-in_err-save_one-clause-drafted c =
    drafted_saved c.args.saved.now.items c.save_one.new.saved.items c.args.heap.now (take c.each.number-index c.args.numbers.now)
    (c.in_err-save_one.ensures.err ∙ c.each.invariant)

pub returns-clause-drafted : goal.returns-clause-drafted
returns-clause-drafted c =
    drafted_saved c.args.saved.now.items c.each.saved.items c.args.heap.now (take c.each.number-index c.args.numbers.now) c.each.invariant
