-- What a literal means (JLS 3.10).
use Rattle.std.specs.Prelude.{ℕ, ◌-◌, true, false, ◌==◌, Option, Some, option_map, List, length, take, drop, codes, slice_index, if◌then◌else◌}
use Rattle.std.specs.Str.{bytes_eq}
use Rattle.java_literals.specs.declared.values.LiteralValue.{LiteralValue}
use Rattle.java_literals.specs.declared.values.LiteralValue.TheVariants as values
use Rattle.java_literals.specs.Characters.{character_value}
use Rattle.java_literals.specs.Numbers.{integer_value}

-- what stands between a literal's quotes
abbrev pub within_quotes : List ℕ → List ℕ
within_quotes text = take (length text - 2) (drop 1 text)

-- the literals that are words, and else the numbers
abbrev pub word_value : List ℕ → Option LiteralValue
word_value text =
    if bytes_eq text (codes "true") then Some (values.Boolean true)
    else (if bytes_eq text (codes "false") then Some (values.Boolean false)
    else (if bytes_eq text (codes "null") then Some values.Null else integer_value text))

-- what the literal of this text means: `"` (34) begins a text, `'` (39) a character. None for what is no literal
abbrev pub literal_value : List ℕ → Option LiteralValue
literal_value text =
    if slice_index text 0 == 34 then Some values.Text
    else (if slice_index text 0 == 39 then option_map values.Character (character_value (within_quotes text)) else word_value text)
