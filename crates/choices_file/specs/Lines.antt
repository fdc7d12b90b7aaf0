-- What a line of a choices file says.
use Rattle.std.specs.Prelude.{ℕ, ℤ, pos, ◌+◌, ◌-◌, ◌^◌, Bool, true, ◌==◌, Option, Some, None, List, [], ◌∷◌, take, drop, codes, if◌then◌else◌}
use Rattle.std.specs.Char.{is_ascii}
use Rattle.std.specs.List.{list_all, position}
use Rattle.std.specs.Str.{bytes_eq}
use Rattle.choices_file.specs.declared.line.Line.{Line}
use Rattle.choices_file.specs.declared.line.Line.TheVariants as lines
use Rattle.choices_file.specs.Numbers.{number_up_to, value_in}

-- an empty line, or a comment, which begins with `#` (its code is 35)
abbrev pub is_passed_over : List ℕ → Bool
is_passed_over [] = true
is_passed_over (b ∷ bs) = b == 35

abbrev pub chosen : Option ℕ → ℤ → Line
chosen None value = lines.Wrong
chosen (Some way) value = lines.Chosen (record { way = way; value = value })

-- the choice of a way, a number of 32 bits, with a value
abbrev pub choice_of : List ℕ → ℤ → Line
choice_of way value = chosen (number_up_to (2 ^ 32 - 1) way) value

abbrev pub choice_with : List ℕ → Option ℤ → Line
choice_with way None = lines.Wrong
choice_with way (Some value) = choice_of way value

abbrev pub counted : Option ℕ → Line
counted None = lines.Wrong
counted (Some count) = lines.Arguments count

-- a word and what stands behind a space: the length of the argument of `main`, below 2^31, or a way and its value
abbrev pub pair_of : List ℕ → List ℕ → Line
pair_of word rest =
    if bytes_eq word (codes "args") then counted (number_up_to (2 ^ 31 - 1) rest) else choice_with word (value_in rest)

-- the line is cut at its first space, where it has one; a way alone has the value 0
abbrev pub cut_at : Option ℕ → List ℕ → Line
cut_at None line = choice_of line (pos 0)
cut_at (Some place) line = pair_of (take place line) (drop (place + 1) line)

-- what the line says; a space's code is 32
abbrev pub meaning : List ℕ → Line
meaning line =
    if list_all (λ b. is_ascii b) line then (if is_passed_over line then lines.Skipped else cut_at (position (λ b. b == 32) line) line)
    else lines.Wrong
