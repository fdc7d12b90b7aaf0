use Rattle.std.proofs.Common.{sym, ap, ◌∙◌}
use Rattle.std.specs.Char.{is_ascii_digit}
use Rattle.java_lexer.proofs.FrontLaws.{fraction_front}
use Rattle.java_lexer.proofs.fronts.point.Goals as goal

pub returns-then-is_ascii_digit : goal.returns-then-is_ascii_digit
returns-then-is_ascii_digit c = fraction_front c.args.text.now c.requires.1 (ap is_ascii_digit (sym c.byte_at.ensures) ∙ sym c.if-is_ascii_digit.ensures.value)
