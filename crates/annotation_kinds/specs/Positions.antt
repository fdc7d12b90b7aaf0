-- The positions of a signature that texts of annotations name: `this`, and `#k` for the k-th declared parameter.
use Rattle.std.specs.Prelude.{ℕ, Bool, ◌&&◌, ◌||◌, nat_eq, nat_lt, List, drop, codes, slice_index}
use Rattle.std.specs.List.{list_all, starts_with}
use Rattle.std.specs.Char.{is_ascii_digit}
use Rattle.std.specs.Str.{bytes_eq}

-- a number in decimal, from 1 on and without leading zeros
abbrev pub is_decimal : List ℕ → Bool
is_decimal digits = list_all is_ascii_digit digits && nat_lt 48 (slice_index digits 0)

-- `this`, or `#` with a number behind it
abbrev pub is_position : List ℕ → Bool
is_position text = bytes_eq text (codes "this") || (starts_with nat_eq text (codes "#") && is_decimal (drop 1 text))
