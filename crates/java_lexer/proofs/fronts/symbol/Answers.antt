use Rattle.std.proofs.Common.{◌<◌, ◌≤◌, sym, subst, arith}
use Rattle.std.specs.Prelude.{Some}
use Rattle.java_lexer.specs.Words.{separators, operators, longest_listed}
use Rattle.java_lexer.specs.Reading.{IsFrontOf}
use Rattle.java_lexer.specs.declared.fronts.Front.TheVariants.{Piece}
use Rattle.java_lexer.specs.declared.token.TokenKind.TheVariants.{Separator, Operator}
use Rattle.java_lexer.proofs.FrontLaws.{separator_front, operator_front}
use Rattle.java_lexer.proofs.fronts.symbol.Goals as goal

pub returns-then-operator-separator : goal.returns-then-operator-separator
returns-then-operator-separator c =
    let longer : longest_listed operators c.args.text.now < longest_listed separators c.args.text.now = omega (arith, c.separator_len-separator.ensures, c.operator_len-operator.ensures) in
    subst (λ n. IsFrontOf c.args.text.now (Piece (Some Separator) n)) (sym c.separator_len-separator.ensures) (separator_front c.args.text.now c.requires longer)

pub returns-else-operator-separator : goal.returns-else-operator-separator
returns-else-operator-separator c =
    let longer : longest_listed separators c.args.text.now ≤ longest_listed operators c.args.text.now = omega (arith, c.separator_len-separator.ensures, c.operator_len-operator.ensures) in
    subst (λ n. IsFrontOf c.args.text.now (Piece (Some Operator) n)) (sym c.operator_len-operator.ensures) (operator_front c.args.text.now c.requires longer)
