use Rattle.heap_drafts.proofs.DraftLaws.{drafted_on}
use Rattle.draft_stages.proofs.RowLaws.{indexed_on}
use Rattle.draft_returns.proofs.frames.draft_frame_gone.Goals as goal

pub draft_constructor_end-requires-clause-indexed : goal.draft_constructor_end-requires-clause-indexed
draft_constructor_end-requires-clause-indexed c =
    indexed_on c.args.index.now c.draft_result.new.saved.items c.draft_frame_end.new.saved.items c.draft_result.new.heap c.draft_frame_end.new.heap c.draft_frame_end.ensures.drafted
    (indexed_on c.args.index.now c.args.saved.now.items c.draft_result.new.saved.items c.args.heap.now c.draft_result.new.heap c.draft_result.ensures.drafted c.requires.indexed)

pub returns-in_err-draft_constructor_end-clause-drafted : goal.returns-in_err-draft_constructor_end-clause-drafted
returns-in_err-draft_constructor_end-clause-drafted c =
    drafted_on c.args.saved.now.items c.args.heap.now c.draft_result.new.saved.items c.draft_result.new.heap c.draft_constructor_end.new.saved.items c.draft_constructor_end.new.heap c.draft_result.ensures.drafted
    (drafted_on c.draft_result.new.saved.items c.draft_result.new.heap c.draft_frame_end.new.saved.items c.draft_frame_end.new.heap c.draft_constructor_end.new.saved.items c.draft_constructor_end.new.heap c.draft_frame_end.ensures.drafted c.draft_constructor_end.ensures.drafted)

pub returns-clause-drafted : goal.returns-clause-drafted
returns-clause-drafted c =
    drafted_on c.args.saved.now.items c.args.heap.now c.draft_result.new.saved.items c.draft_result.new.heap c.draft_constructor_end.new.saved.items c.draft_constructor_end.new.heap c.draft_result.ensures.drafted
    (drafted_on c.draft_result.new.saved.items c.draft_result.new.heap c.draft_frame_end.new.saved.items c.draft_frame_end.new.heap c.draft_constructor_end.new.saved.items c.draft_constructor_end.new.heap c.draft_frame_end.ensures.drafted c.draft_constructor_end.ensures.drafted)
