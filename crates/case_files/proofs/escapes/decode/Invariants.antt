use Rattle.std.proofs.Common.{◌≡◌, ◌++◌, [], IsTrue}
use Rattle.case_files.specs.Escapes.{is_plain}
use Rattle.case_files.proofs.escapes.decode.Given as goal

-- with no escape, what was written and what is left are the text, and no repetition is open
abbrev pub invariant-loop : goal.invariant-loop
invariant-loop l = IsTrue (is_plain l.text) → (l.out.items ++ l.rest ≡ l.text) × (l.open.items ≡ []) × IsTrue (is_plain l.rest)
