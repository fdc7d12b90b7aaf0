use Rattle.std.proofs.Common.{◌≡◌, ◌∙◌, ap, subst, ℕ, List, ◌++◌, length, true, Some, arith}
use Rattle.draft_lines.specs.declared.change.ObjectChange.{ObjectChange}
use Rattle.draft_lines.specs.DraftLines.{Changes, leak_changes}
use Rattle.draft_stages.proofs.StageLaws.{rows_after}
use Rattle.heap_drafts.specs.Drafts.{HasNumbers, numbers_rise}
use Rattle.ledger_obligations.specs.Obligations.{end_holder}
use Rattle.ledger_state.specs.declared.entry.LeakWord.TheVariants as words
use Rattle.object_index.specs.ObjectIndexes.{contents_of}
use Rattle.draft_returns.proofs.FrameLaws.{holder_outside, leaks_more, leaks_there}
use Rattle.draft_returns.proofs.ResultLaws.{numbers_as, saved_as_numbers}
use Rattle.draft_returns.proofs.frames.draft_holder_end.Goals as goal

pub end_holder_among-requires : goal.end_holder_among-requires
end_holder_among-requires c =
    let first = numbers_as (contents_of c.args.index.now c.args.holder) c.deref-2.result.now c.in_ok-numbers.numbers.items c.deref-2.ensures.value (subst (λ (ns : List ℕ). HasNumbers ns c.in_ok-numbers.numbers.items) c.contents_of.ensures c.in_ok-numbers.ensures.roots) in
    let second = saved_as_numbers c.args.saved.now.items c.deref.result.now c.deref-2.result.now c.in_ok-numbers.numbers.items c.deref.ensures.value c.deref-2.ensures.value c.in_ok-numbers.ensures.saved in
    holder_outside c.args.index.now c.args.holder c.args.saved.now.items c.args.heap.now c.deref-2.result.now c.requires.indexed first second

pub returns-clause-leaks : goal.returns-clause-leaks
returns-clause-leaks c =
    let h = c.args.heap.now in
    let g = c.end_holder_among.new.heap in
    let rise : numbers_rise 0 c.deref-2.result.now ≡ true = ap (numbers_rise 0) c.deref-2.ensures.value ∙ c.in_ok-numbers.ensures.rise in
    let start : c.len-from.result ≡ length c.args.saved.now.items = omega arith in
    let changes : Changes h g c.in_ok-rows.rows.items = rows_after c.args.saved.now.items c.end_holder_among.new.saved.items h g c.deref-2.result.now c.in_ok-rows.rows.items c.len-from.result c.in_ok-end_holder_among.ensures.saved start c.in_ok-rows.ensures rise c.in_ok-end_holder_among.ensures.among in
    let leaks : c.add_leaks.new.into.items ≡ c.args.leaks.now.items ++ leak_changes c.args.p.now words.ConstructorThrow c.args.pos c.in_ok-rows.rows.items = c.in_ok-add_leaks.ensures ∙ ap (λ (rs : List ObjectChange). c.args.leaks.now.items ++ leak_changes c.args.p.now words.ConstructorThrow c.args.pos rs) c.deref-3.ensures.value in
    leaks_more c.args.p.now words.ConstructorThrow c.args.pos h g (end_holder (Some c.args.holder) h) c.in_ok-rows.rows.items c.args.leaks.now.items c.add_leaks.new.into.items changes leaks c.in_ok-end_holder_among.ensures.heap

pub returns-clause-there : goal.returns-clause-there
returns-clause-there c =
    let h = c.args.heap.now in
    let g = c.end_holder_among.new.heap in
    let rise : numbers_rise 0 c.deref-2.result.now ≡ true = ap (numbers_rise 0) c.deref-2.ensures.value ∙ c.in_ok-numbers.ensures.rise in
    let start : c.len-from.result ≡ length c.args.saved.now.items = omega arith in
    let changes : Changes h g c.in_ok-rows.rows.items = rows_after c.args.saved.now.items c.end_holder_among.new.saved.items h g c.deref-2.result.now c.in_ok-rows.rows.items c.len-from.result c.in_ok-end_holder_among.ensures.saved start c.in_ok-rows.ensures rise c.in_ok-end_holder_among.ensures.among in
    let leaks : c.add_leaks.new.into.items ≡ c.args.leaks.now.items ++ leak_changes c.args.p.now words.ConstructorThrow c.args.pos c.in_ok-rows.rows.items = c.in_ok-add_leaks.ensures ∙ ap (λ (rs : List ObjectChange). c.args.leaks.now.items ++ leak_changes c.args.p.now words.ConstructorThrow c.args.pos rs) c.deref-3.ensures.value in
    let count : length g.objects ≡ length h.objects = c.in_ok-end_holder_among.ensures.among.count in
    leaks_there c.args.p.now words.ConstructorThrow c.args.pos h g c.in_ok-rows.rows.items c.args.leaks.now.items c.add_leaks.new.into.items changes (omega (arith, count)) leaks c.requires.leaks
