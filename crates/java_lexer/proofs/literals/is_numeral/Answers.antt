use Rattle.std.proofs.Common.{◌∙◌, sym}
use Rattle.java_lexer.proofs.NumberLaws.{decimal_numeral}
use Rattle.java_lexer.proofs.literals.is_numeral.Goals as goal

pub returns-else-byte_at-eq48 : goal.returns-else-byte_at-eq48
returns-else-byte_at-eq48 c =
    c.is_numeral_up_to-else-byte_at-eq48.ensures
    ∙ sym (decimal_numeral c.args.largest_decimal c.args.largest c.args.text.now (sym c.if-has_prefix.ensures) (sym c.if-has_prefix-2.ensures) (λ zero. c.if-byte_at-eq48.false (c.byte_at.ensures ∙ zero)))
