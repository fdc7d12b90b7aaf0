use Rattle.std.proofs.Common.{sym, ◌∙◌}
use Rattle.java_lexer.specs.Characters.{is_identifier_start}
use Rattle.java_lexer.proofs.TextLaws.{other_character}
use Rattle.java_lexer.proofs.fronts.begins_word.Goals as goal

pub returns-in-Some-clause-no : goal.returns-in-Some-clause-no
returns-in-Some-clause-no c none = other_character is_identifier_start c.args.text.now _ c.in-Some.first (sym c.is_identifier_start.ensures ∙ none) c.in-Some.ensures.2
