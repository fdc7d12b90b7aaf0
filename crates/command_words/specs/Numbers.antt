-- Numbers among the words.
use Rattle.std.specs.Prelude.{ℕ, Bool, ◌&&◌, List, length, nat_le, Option, Some, None, if◌then◌else◌}
use Rattle.std.specs.Char.{is_ascii_digit}
use Rattle.std.specs.List.{list_all}
use Rattle.std.specs.Str.Parse.{digits_value}

-- 1 to 10 decimal digits, without a sign
abbrev pub is_number : List ℕ → Bool
is_number text = nat_le 1 (length text) && nat_le (length text) 10 && list_all is_ascii_digit text

-- the number that the text writes, where it writes one that is not too large
abbrev pub number_up_to : ℕ → List ℕ → Option ℕ
number_up_to most text = if is_number text && nat_le (digits_value 10 text) most then Some (digits_value 10 text) else None
