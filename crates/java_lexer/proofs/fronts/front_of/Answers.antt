use Rattle.std.proofs.Common.{◌≡◌, ℕ, false, sym, ◌∙◌, ap}
use Rattle.std.specs.Prelude.{slice_index, ◌||◌, ◌==◌}
use Rattle.std.specs.Char.{is_ascii_digit}
use Rattle.std.proofs.lemmas.Bool.{or_from, ne_eqb}
use Rattle.java_lexer.specs.Characters.{is_blank}
use Rattle.java_lexer.proofs.SortLaws.{is_mark}
use Rattle.java_lexer.proofs.FrontLaws.{blank_front}
use Rattle.java_lexer.proofs.WordLaws.{no_symbol, some_symbol, none_longer, some_longer}
use Rattle.java_lexer.proofs.fronts.front_of.Goals as goal

pub word-requires : goal.word-requires
word-requires c =
    let b : ℕ = slice_index c.args.text.now 0 in
    let blanks : is_blank b ≡ false = ap is_blank (sym c.byte_at-first.ensures) ∙ sym c.if-is_blank.ensures in
    let digits : is_ascii_digit b ≡ false = ap is_ascii_digit (sym c.byte_at-first.ensures) ∙ sym c.if-is_ascii_digit.ensures.value in
    let single : (b == 39) ≡ false = ne_eqb b 39 (λ e. c.if-first-eq39.false (c.byte_at-first.ensures ∙ e)) in
    let double : (b == 34) ≡ false = ne_eqb b 34 (λ e. c.if-first-eq34.false (c.byte_at-first.ensures ∙ e)) in
    let none = none_longer c.separator_len.result c.operator_len.result c.max.result _ _ c.max.ensures c.if-max-eq0.true c.separator_len.ensures c.operator_len.ensures in
    let marks : is_mark b ≡ false = no_symbol c.args.text.now c.requires none.0 none.1 in
    (c.requires, or_from (is_blank b || is_ascii_digit b || b == 39 || b == 34) (is_mark b) (or_from (is_blank b || is_ascii_digit b || b == 39) (b == 34) (or_from (is_blank b || is_ascii_digit b) (b == 39) (or_from (is_blank b) (is_ascii_digit b) blanks digits) single) double) marks)

pub symbol-requires : goal.symbol-requires
symbol-requires c = record {
  more = c.requires;
  mark = some_symbol c.args.text.now (some_longer c.separator_len.result c.operator_len.result c.max.result _ _ c.max.ensures c.if-max-eq0.false c.separator_len.ensures c.operator_len.ensures);
  no_line = λ first second. c.if-first-eq47.false (c.byte_at-first.ensures ∙ first);
  no_block = λ first second. c.if-first-eq47.false (c.byte_at-first.ensures ∙ first);
  no_digit = λ first second. c.if-first-eq46.false (c.byte_at-first.ensures ∙ first);
}

pub returns-then-is_blank : goal.returns-then-is_blank
returns-then-is_blank c = blank_front c.args.text.now c.requires (ap is_blank (sym c.byte_at-first.ensures) ∙ sym c.if-is_blank.ensures)
