-- The marks are those of the classes that are found.
use Rattle.class_names.specs.ClassNames.{rows_in}
use Rattle.class_headers.proofs.SearchLemmas.{found_marked}
use Rattle.class_headers.proofs.search.marks_above.Goals as goal

pub returns-clause-above : goal.returns-clause-above
returns-clause-above c = found_marked (rows_in c.args.direct.now) c.args.class c.in_ok-search.field-0.items c.search.new.marks.items c.in_ok-search.ensures.found c.in_ok-search.ensures.marked
