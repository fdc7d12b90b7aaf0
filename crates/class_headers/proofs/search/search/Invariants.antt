use Rattle.std.proofs.Common.{◌+◌, ◌-◌, length}
use Rattle.class_names.specs.ClassNames.{rows_in}
use Rattle.class_headers.specs.Search.{open_count}
use Rattle.class_headers.proofs.SearchLemmas.{IsSearch}
use Rattle.class_headers.proofs.search.search.Given as goal

abbrev pub invariant-search : goal.invariant-search
invariant-search l = IsSearch (rows_in l.direct) l.fn.class l.found.items l.marks.items l.at

abbrev pub decreases-search : goal.decreases-search
decreases-search l = open_count l.marks.items + (length l.found.items - l.at)
