-- What stands behind cells is the rest of the file.
use Rattle.std.specs.Prelude.{◌≡◌, ◌≤◌, true, List, [], ◌∷◌, ◌++◌, Option}
use Rattle.std.proofs.Common.{sym, ◌∙◌, subst, append_assoc}
use Rattle.std.specs.List.{AllByRecursion}
use Rattle.java_syntax.specs.Derives.{Lexeme}
use Rattle.java_values.specs.Values.{ValueTree}
use Rattle.java_nodes.specs.Operators.{infix_operator}
use Rattle.java_nodes.specs.Parts.{level_of, comparison}
use Rattle.reading_laws.specs.Expressions.{is_loose, HasLooseOperator}
use Rattle.reading_laws.proofs.Cells.{Cell, File, Holds, empty, a_word, a_start, a_kept, a_value, a_pending, a_compared, a_try, a_statement, a_no_else}

-- the tokens are the last of the file's
pub record IsRest (file : File) (from : List Lexeme) : Type 0 where
  pub before : List Lexeme
  pub parts : file.tokens ≡ before ++ from

-- further on
pub reached : {file : File} (ts : List Lexeme) {to : List Lexeme} → IsRest file (ts ++ to) → IsRest file to
reached ts {to = to} r = record { before = r.before ++ ts; parts = r.parts ∙ sym (append_assoc r.before ts to) }

pub behind_cells : {file : File} {cs : List Cell} {vs : List ValueTree} {l : Option Lexeme} {from : List Lexeme} → Holds file cs vs l from → IsRest file from
behind_cells (empty from e) = record { before = []; parts = sym e }
behind_cells (a_word t q h) = reached (t ∷ []) (behind_cells h)
behind_cells (a_start p b h) = behind_cells h
behind_cells (a_kept t q h) = reached (t ∷ []) (behind_cells h)
behind_cells (a_value v {ts = ts} q h) = reached ts (behind_cells h)
behind_cells (a_pending e os n {ts = ts} {us = us} p q r s h) = reached us (reached ts (behind_cells h))
behind_cells (a_compared e os {ts = ts} {us = us} p q r h) = reached us (reached ts (behind_cells h))
behind_cells (a_statement s {ts = ts} q k h) = reached ts (behind_cells h)
behind_cells (a_no_else n h) = behind_cells h
behind_cells (a_try r t p {ts = ts} b q k h) = reached ts (reached (t ∷ []) (behind_cells h))

loose_in : (ts : List Lexeme) (t : Lexeme) (us : List Lexeme) → AllByRecursion HasLooseOperator (ts ++ t ∷ us) → HasLooseOperator t
loose_in [] t us h = h.0
loose_in (x ∷ ts) t us h = loose_in ts t us h.1

pub loose_behind : (file : File) (t : Lexeme) (to : List Lexeme) → IsRest file (t ∷ to) → is_loose t.word ≡ true → comparison ≤ level_of (infix_operator t.text)
loose_behind file t to r = loose_in r.before t to (subst (λ ts. AllByRecursion HasLooseOperator ts) r.parts file.graded)
