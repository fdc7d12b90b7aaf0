use Rattle.std.proofs.Common.{◌≡◌, ◌+◌, ◌++◌, length, take, drop, ap, arith, sym, subst}
use Rattle.std.specs.Char.{len_utf8, encode_utf8}
use Rattle.std.proofs.lemmas.List.{length-drop}
use Rattle.java_lexer.specs.Characters.{is_identifier_part, IsRun, BeginsWith}
use Rattle.java_lexer.proofs.TextLaws.{run_more, other_character}
use Rattle.java_lexer.proofs.characters.word_len.Goals as goal

pub loop-character-preserved : goal.loop-character-preserved
loop-character-preserved c =
    let stands = c.in-Some.ensures in
    let inside = stands.1 in
    let run : IsRun is_identifier_part (take (c.loop-character.len + len_utf8 c.in-Some.character) c.args.text.now) =
    run_more is_identifier_part c.args.text.now c.loop-character.len c.in-Some.character c.loop-character.invariant.run stands.0 (sym c.if-not-is_identifier_part.ensures)
    (subst (λ rest. rest ≡ encode_utf8 c.in-Some.character ++ drop (len_utf8 c.in-Some.character) rest) c.behind.ensures stands.2) in
    record {
      within = omega (arith, length-drop c.loop-character.len c.args.text.now, ap length c.behind.ensures, c.len_utf8-len.ensures.value);
      run = subst (λ n. IsRun is_identifier_part (take (c.loop-character.len + n) c.args.text.now)) (sym c.len_utf8-len.ensures.value) run;
    }

pub returns-then-not-is_identifier_part-clause-ends : goal.returns-then-not-is_identifier_part-clause-ends
returns-then-not-is_identifier_part-clause-ends c =
    subst (λ rest. BeginsWith is_identifier_part rest → ⊥) c.behind.ensures (other_character is_identifier_part _ _ _ (sym c.if-not-is_identifier_part.ensures) c.in-Some.ensures.2)
