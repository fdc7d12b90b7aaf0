-- A class that had no mark has one more.
use Rattle.std.proofs.Common.{◌∙◌, sym, ap, arith, length, false}
use Rattle.std.proofs.lemmas.List.{get_or_read, length_push}
use Rattle.class_headers.proofs.SearchLemmas.{count_less}
use Rattle.class_headers.proofs.search.put.Goals as goal

pub returns-clause-count : goal.returns-clause-count
returns-clause-count c =
    let marks = c.args.marks.now.items in
    let unmarked = sym (get_or_read marks c.args.class.0 c.index.result.now c.requires.within c.index.ensures false) ∙ c.if-index.false in
    let less = count_less marks c.args.class.0 c.requires.within unmarked in
    let longer = ap length c.in_ok-push.ensures.items ∙ length_push c.args.found.now.items c.args.class in
    omega (arith, less, longer)
