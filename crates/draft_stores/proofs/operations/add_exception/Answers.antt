use Rattle.heap_drafts.proofs.DraftLaws.{drafted_on}
use Rattle.draft_stores.proofs.OperationLaws.{exception_drafted}
use Rattle.draft_stores.proofs.operations.add_exception.Goals as goal

pub returns-clause-drafted : goal.returns-clause-drafted
returns-clause-drafted c =
    exception_drafted c.args.p.now c.args.saved.now.items c.make_object.new.saved.items c.save_one.new.saved.items c.args.heap.now c.make_object.new.heap c.finish_exception.new.heap c.args.class c.next_number-number.result
    c.next_number-number.ensures c.in_ok-make_object.ensures.heap c.make_object.ensures.drafted c.in_ok-save_one.ensures.ok c.finish_exception.ensures

pub returns-in_err-save_one-clause-drafted : goal.returns-in_err-save_one-clause-drafted
returns-in_err-save_one-clause-drafted c =
    drafted_on c.args.saved.now.items c.args.heap.now c.make_object.new.saved.items c.make_object.new.heap c.save_one.new.saved.items c.make_object.new.heap c.make_object.ensures.drafted c.save_one.ensures.drafted
