use Rattle.std.proofs.Common.{◌+◌, sym, ap, ◌∙◌, subst, arith}
use Rattle.std.specs.Prelude.{None}
use Rattle.std.specs.List.{prefix_len}
use Rattle.java_lexer.specs.Tokens.{comment_end}
use Rattle.java_lexer.specs.Reading.{IsFrontOf}
use Rattle.java_lexer.specs.declared.fronts.Front.TheVariants.{Piece}
use Rattle.java_lexer.proofs.TextLaws.{by_two}
use Rattle.java_lexer.proofs.FrontLaws.{line_comment_front, block_comment_front, open_comment_front, stays}
use Rattle.java_lexer.proofs.fronts.slash.Goals as goal

pub returns-then-second-eq47 : goal.returns-then-second-eq47
returns-then-second-eq47 c =
    let len = c.line_len.ensures.value ∙ ap (prefix_len stays) c.behind.ensures in
    subst (λ n. IsFrontOf c.args.text.now (Piece None (2 + n))) (sym len)
    (line_comment_front c.args.text.now (by_two c.args.text.now 47 47 c.requires.1 (sym c.byte_at-second.ensures ∙ c.if-second-eq47.true) c.requires.0 (omega arith)))

pub returns-in-Some : goal.returns-in-Some
returns-in-Some c =
    block_comment_front c.args.text.now c.in-Some.len (by_two c.args.text.now 47 42 c.requires.1 (sym c.byte_at-second.ensures ∙ c.if-second-eq42.true) c.requires.0 (omega arith))
    (ap comment_end (sym c.behind-then-second-eq42.ensures) ∙ sym c.in-Some.ensures.value)

pub returns-in-None : goal.returns-in-None
returns-in-None c =
    open_comment_front c.args.text.now (by_two c.args.text.now 47 42 c.requires.1 (sym c.byte_at-second.ensures ∙ c.if-second-eq42.true) c.requires.0 (omega arith))
    (ap comment_end (sym c.behind-then-second-eq42.ensures) ∙ sym c.in-None.ensures.value)
