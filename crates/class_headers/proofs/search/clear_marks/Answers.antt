-- No mark is set.
use Rattle.std.proofs.Common.{◌∙◌, ap, length, false}
use Rattle.std.proofs.lemmas.List.{length-replicate}
use Rattle.class_headers.proofs.SearchLemmas.{start_marked}
use Rattle.class_headers.proofs.search.clear_marks.Goals as goal

pub returns-clause-clear : goal.returns-clause-clear
returns-clause-clear c = start_marked c.in_ok-marks.marks.items c.args.count (c.in_ok-marks.ensures.items_if_clones_equal (λ y same. same))

pub returns-clause-length : goal.returns-clause-length
returns-clause-length c = ap length (c.in_ok-marks.ensures.items_if_clones_equal (λ y same. same)) ∙ length-replicate c.args.count false
