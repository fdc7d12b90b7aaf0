-- Operands that are put before a list one after another, the last one first.
use Rattle.std.proofs.Common.{◌≡◌, ◌∙◌, sym, ap, ap₂, arith, ℕ, ◌+◌, ◌<◌, ◌≤◌, List, ◌∷◌, ◌++◌, drop, length, get_or}
use Rattle.std.proofs.Math.Seq.{drop-length}
use Rattle.program_model.specs.declared.kinds.ExprId.{ExprId}
use Rattle.control_actions.specs.declared.cell.Cell.{Cell}
use Rattle.control_actions.specs.Remaining.{Todo, Ev, todos, cons}
use Rattle.control_actions.specs.Tables.{list_at}
use Rattle.control_actions.proofs.PushLemmas.{drop_at}
use Rattle.expression_control.specs.Expressions.{evaluations}

-- at first no operand is put before
pub operands_none : (es : List ExprId) (end : ℕ) (rest now : List Todo) → now ≡ rest → now ≡ evaluations (drop (length es) es) end ++ rest
operands_none es end rest now is = is ∙ ap (λ xs. evaluations xs end ++ rest) (sym (drop-length es))

-- one operand more
pub operand_before : (mid new : List Cell) (es : List ExprId) (left k here now : ℕ) (e : ExprId) (behind id : ℕ) (rest : List Todo) → left ≡ k + 1 → left ≤ length es → here ≡ now + 1 → list_at new id ≡ cons (Ev (get_or es k e) now) (list_at mid behind) → todos (list_at mid behind) ≡ evaluations (drop left es) here ++ rest → todos (list_at new id) ≡ evaluations (drop k es) now ++ rest
operand_before mid new es left k here now e behind id rest next within deeper is before =
    let inside : k < length es = omega arith in
    ap todos is
    ∙ ap (λ xs. Ev (get_or es k e) now ∷ xs) (before ∙ ap₂ (λ n d. evaluations (drop n es) d ++ rest) next deeper)
    ∙ ap (λ xs. evaluations xs now ++ rest) (sym (drop_at es k e inside))
