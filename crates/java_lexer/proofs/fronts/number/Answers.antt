use Rattle.std.proofs.Common.{sym}
use Rattle.java_lexer.proofs.WordLaws.{number_front, bad_number_front}
use Rattle.java_lexer.proofs.fronts.number.Goals as goal

pub returns-then-is_whole_integer : goal.returns-then-is_whole_integer
returns-then-is_whole_integer c =
    number_front c.args.text.now c.word_len-len.result c.requires (record { fits = c.word_len-len.ensures.within; run = c.word_len-len.ensures.run; ends = c.word_len-len.ensures.ends }) (sym c.if-is_whole_integer.ensures)

pub returns-else-is_whole_integer : goal.returns-else-is_whole_integer
returns-else-is_whole_integer c =
    bad_number_front c.args.text.now c.word_len-len.result c.requires (record { fits = c.word_len-len.ensures.within; run = c.word_len-len.ensures.run; ends = c.word_len-len.ensures.ends }) (sym c.if-is_whole_integer.ensures)
