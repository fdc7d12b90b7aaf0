-- Numbers that are spelled by digits of a base.
use Rattle.std.proofs.Common.{◌≡◌, ℕ, ◌+◌, ◌^◌, ◌<◌, ◌≤◌, List, length, drop, sym, ap, ◌∙◌, arith}
use Rattle.std.specs.Prelude.{nat_lt, if◌then◌else◌, Some, None, slice_index}
use Rattle.std.proofs.lemmas.Bool.{cond-false, le-ltb}
use Rattle.std.proofs.lemmas.List.{drop_more}
use Rattle.java_lexer.specs.Literals.{value_from}
use Rattle.java_lexer.proofs.NumberLaws.{next_number, no_room, value_grows}
use Rattle.java_literals.specs.Numbers.{number_of}

-- where a digit finds no room, the whole number has none
pub no_number : (base number index : ℕ) (digits : List ℕ) → 1 ≤ base → index < length digits
    → value_from base number (drop index digits) ≡ value_from base 0 digits
    → None ≡ (if nat_lt (next_number base number (slice_index digits index)) (2 ^ 64) then Some (next_number base number (slice_index digits index)) else None)
    → None ≡ number_of base digits
no_number base number index digits h inside rest full =
    let b = slice_index digits index in
    let all : value_from base (next_number base number b) (drop (index + 1) digits) ≡ value_from base 0 digits =
    ap (value_from base number) (sym (drop_more digits index 0 inside)) ∙ rest in
    let room : 2 ^ 64 ≤ next_number base number b = no_room (next_number base number b) full in
    let grows : next_number base number b ≤ value_from base (next_number base number b) (drop (index + 1) digits) = value_grows base (next_number base number b) (drop (index + 1) digits) h in
    sym (cond-false (nat_lt (value_from base 0 digits) (2 ^ 64)) _ _ (le-ltb (value_from base 0 digits) (2 ^ 64) (omega arith)))
