use Rattle.std.proofs.Common.{◌≡◌, map, get_or, false}
use Rattle.std.specs.Prelude.{filter}
use Rattle.std.specs.List.{range_with_len}
use Rattle.class_names.specs.ClassNames.{class_number}
use Rattle.class_headers.proofs.cyclic.marked_classes.Given as goal

abbrev pub invariant-loop-number : goal.invariant-loop-number
invariant-loop-number l = l.classes.items ≡ map class_number (filter (λ n. get_or l.marks n false) (range_with_len 0 l.number))
