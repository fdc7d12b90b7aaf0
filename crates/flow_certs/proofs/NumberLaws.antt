-- Numbers that digits spell, where what has no room counts as the largest number.
use Rattle.std.proofs.Common.{◌≡◌, ◌∙◌, sym, ap, arith, ℕ, ◌+◌, ◌*◌, ◌<◌, min, List, [], ◌∷◌, length, drop}
use Rattle.std.specs.Prelude.{slice_index}
use Rattle.std.proofs.lemmas.List.{drop_more}
use Rattle.std.specs.Char.{digit_value}
use Rattle.flow_certs.specs.Numbers.{digits_from}

-- one digit more keeps what has no room so
same_next : (top a b d : ℕ) → min a top ≡ min b top → min (a * 10 + d) top ≡ min (b * 10 + d) top
same_next top a b d h = omega arith

pub same_digits : (top a b : ℕ) (text : List ℕ) → min a top ≡ min b top → min (digits_from a text) top ≡ min (digits_from b text) top
same_digits top a b [] h = h
same_digits top a b (c ∷ text) h = same_digits top (a * 10 + digit_value c) (b * 10 + digit_value c) text (same_next top a b (digit_value c) h)

-- one byte more of a text is taken in
pub next_digit : (top number next index all : ℕ) (text : List ℕ) → index < length text → min (digits_from number (drop index text)) top ≡ all
    → next ≡ min (number * 10 + digit_value (slice_index text index)) top → min (digits_from next (drop (index + 1) text)) top ≡ all
next_digit top number next index all text inside before is =
    let b = slice_index text index in
    let rest : digits_from number (drop index text) ≡ digits_from (number * 10 + digit_value b) (drop (index + 1) text) = ap (digits_from number) (drop_more text index 0 inside) in
    same_digits top next (number * 10 + digit_value b) (drop (index + 1) text) (omega (arith, is)) ∙ ap (λ n. min n top) (sym rest) ∙ before
