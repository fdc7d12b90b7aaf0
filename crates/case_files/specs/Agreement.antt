-- When an answer agrees with the one that a case wants.
use Rattle.std.specs.Prelude.{◌≡◌, Bool, IsTrue, ◌↔◌}
use Rattle.case_files.specs.declared.comparison.Comparison.{Comparison}
use Rattle.case_files.specs.declared.comparison.Comparison.TheVariants.{Whole, Status, Counted, Open}
use Rattle.case_files.specs.declared.answer.Answer.{Answer}

-- the exit statuses are the same
abbrev pub SameStatus : Answer → Answer → Type 0
SameStatus wanted given = wanted.status ≡ given.status

-- the exit statuses are the same, and all bytes on standard output
abbrev pub SameAnswer : Answer → Answer → Type 0
SameAnswer wanted given = SameStatus wanted given × (wanted.text.items ≡ given.text.items)

-- the verdict on two answers, by what of them is compared; where reports are compared the statuses are too
abbrev pub IsVerdict : Comparison → Answer → Answer → Bool → Type 0
IsVerdict Whole wanted given agreed = IsTrue agreed ↔ SameAnswer wanted given
IsVerdict Status wanted given agreed = IsTrue agreed ↔ SameStatus wanted given
IsVerdict Counted wanted given agreed = IsTrue agreed → SameStatus wanted given
IsVerdict Open wanted given agreed = IsTrue agreed → SameStatus wanted given
