use Rattle.java_lexer.proofs.TextLaws.{character_is}
use Rattle.java_lexer.proofs.characters.character_at.Goals as goal

pub returns : goal.returns
returns c = character_is _ c.args.text.now c.utf8_front.result.now _ _ c.next.result c.utf8_front.ensures.front.1 c.utf8_front.ensures.utf8 c.chars.ensures.rest c.utf8_front.ensures.longest c.next.ensures.steps.0
