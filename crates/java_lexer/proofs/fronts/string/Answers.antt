use Rattle.std.proofs.Common.{sym, ap, ◌∙◌, false}
use Rattle.java_lexer.specs.Reading.{closing_quote}
use Rattle.java_lexer.proofs.TextLaws.{by_first}
use Rattle.java_lexer.proofs.QuoteLaws.{open_string_front}
use Rattle.java_lexer.proofs.fronts.string.Goals as goal

pub returns-in-None : goal.returns-in-None
returns-in-None c =
    open_string_front c.args.text.now (by_first c.args.text.now 34 c.requires.1 c.requires.0) (ap (closing_quote 34 false) (sym c.behind.ensures) ∙ sym c.in-None.ensures.value)
