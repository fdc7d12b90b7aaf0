use Rattle.std.proofs.Common.{sym, ap, ◌∙◌, take, false}
use Rattle.std.specs.Prelude.{Some, ◌==◌, ◌&&◌}
use Rattle.std.proofs.lemmas.Bool.{and_parts, and_from, eqb-true, eq-eqb, both_ways}
use Rattle.java_lexer.specs.Reading.{has_known_escapes}
use Rattle.java_lexer.proofs.TextLaws.{by_first}
use Rattle.java_lexer.proofs.QuoteLaws.{string_front, bad_string_front, text_block_front}
use Rattle.java_lexer.proofs.fronts.closed_string.Goals as goal

pub returns-then-len-byte_at : goal.returns-then-len-byte_at
returns-then-len-byte_at c =
    text_block_front c.args.text.now (by_first c.args.text.now 34 c.requires.first.1 c.requires.first.0)
    (c.requires.closed ∙ ap (λ n. Some n) (eqb-true c.args.len 0 (and_parts (c.args.len == 0) (c.byte_at.result == 34) c.if-len-byte_at.true).0))
    (sym c.byte_at.ensures ∙ eqb-true c.byte_at.result 34 (and_parts (c.args.len == 0) (c.byte_at.result == 34) c.if-len-byte_at.true).1)

pub returns-then-has_known_escapes : goal.returns-then-has_known_escapes
returns-then-has_known_escapes c =
    string_front c.args.text.now c.args.len (by_first c.args.text.now 34 c.requires.first.1 c.requires.first.0) c.requires.closed
    (ap (λ xs. has_known_escapes false (take c.args.len xs)) (sym c.behind.ensures) ∙ sym c.if-has_known_escapes.ensures)
    (λ none third. both_ways (c.args.len == 0 && c.byte_at.result == 34) c.if-len-byte_at.false
    (and_from (c.args.len == 0) (c.byte_at.result == 34) (eq-eqb c.args.len 0 none) (eq-eqb c.byte_at.result 34 (c.byte_at.ensures ∙ third))))

pub returns-else-has_known_escapes : goal.returns-else-has_known_escapes
returns-else-has_known_escapes c =
    bad_string_front c.args.text.now c.args.len (by_first c.args.text.now 34 c.requires.first.1 c.requires.first.0) c.requires.closed
    (ap (λ xs. has_known_escapes false (take c.args.len xs)) (sym c.behind.ensures) ∙ sym c.if-has_known_escapes.ensures)
