-- The first that passes a test in one list, or else in the next one.
use Rattle.std.proofs.Common.{◌≡◌, ◌∙◌, ap, Bool, Option, Some, None, List, ◌++◌}
use Rattle.std.specs.List.{find}
use Rattle.std.specs.Option.{option_or}
use Rattle.std.proofs.lemmas.List.Folds.{find-append}
use Rattle.program_model.specs.declared.kinds.ClassId.{ClassId}

pub found_first : (test : ClassId → Bool) (xs ys : List ClassId) (c : ClassId) → find test xs ≡ Some c → find test (xs ++ ys) ≡ Some c
found_first test xs ys c e = find-append test xs ys ∙ ap (λ z. option_or z (find test ys)) e

pub found_behind : (test : ClassId → Bool) (xs ys : List ClassId) → find test xs ≡ None → find test (xs ++ ys) ≡ find test ys
found_behind test xs ys e = find-append test xs ys ∙ ap (λ z. option_or z (find test ys)) e
