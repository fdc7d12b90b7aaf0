use Rattle.std.proofs.Common.{sym, ap, ◌∙◌, take}
use Rattle.java_lexer.specs.Literals.{is_character}
use Rattle.java_lexer.proofs.TextLaws.{by_first}
use Rattle.java_lexer.proofs.QuoteLaws.{character_front, bad_character_front}
use Rattle.java_lexer.proofs.fronts.closed_character.Goals as goal

pub returns-then-is_character : goal.returns-then-is_character
returns-then-is_character c =
    character_front c.args.text.now c.args.len (by_first c.args.text.now 39 c.requires.first.1 c.requires.first.0) c.requires.closed
    (ap (λ xs. is_character (take c.args.len xs)) (sym c.behind.ensures) ∙ sym c.if-is_character.ensures)

pub returns-else-is_character : goal.returns-else-is_character
returns-else-is_character c =
    bad_character_front c.args.text.now c.args.len (by_first c.args.text.now 39 c.requires.first.1 c.requires.first.0) c.requires.closed
    (ap (λ xs. is_character (take c.args.len xs)) (sym c.behind.ensures) ∙ sym c.if-is_character.ensures)
