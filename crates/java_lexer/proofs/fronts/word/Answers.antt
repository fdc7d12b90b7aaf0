use Rattle.std.proofs.Common.{sym, subst, refl}
use Rattle.std.specs.Prelude.{Some}
use Rattle.java_lexer.specs.Reading.{IsFrontOf}
use Rattle.java_lexer.specs.declared.fronts.Front.TheVariants.{Piece}
use Rattle.java_lexer.proofs.WordLaws.{bad_byte_front, left_out_front, word_front}
use Rattle.java_lexer.proofs.fronts.word.Goals as goal

pub returns-then-not-begins_word : goal.returns-then-not-begins_word
returns-then-not-begins_word c = bad_byte_front c.args.text.now c.requires.0 c.requires.1 (c.if-not-begins_word.ensures.no refl)

pub returns-then-is_left_out : goal.returns-then-is_left_out
returns-then-is_left_out c =
    left_out_front c.args.text.now c.word_len-len.result (record { fits = c.word_len-len.ensures.within; run = c.word_len-len.ensures.run; ends = c.word_len-len.ensures.ends }) (sym c.if-is_left_out.ensures)

pub returns-else-is_left_out : goal.returns-else-is_left_out
returns-else-is_left_out c =
    subst (λ kind. IsFrontOf c.args.text.now (Piece (Some kind) c.word_len-len.result)) (sym c.word_kind.ensures)
    (word_front c.args.text.now c.word_len-len.result c.requires.0 (c.if-not-begins_word.ensures.yes refl)
    (record { fits = c.word_len-len.ensures.within; run = c.word_len-len.ensures.run; ends = c.word_len-len.ensures.ends }) (sym c.if-is_left_out.ensures))
