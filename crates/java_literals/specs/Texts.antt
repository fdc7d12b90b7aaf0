-- The texts of string literals (JLS 3.10.5), in UTF-8.
use Rattle.std.specs.Prelude.{ℕ, ◌+◌, ◌-◌, ◌*◌, ◌<◌, ◌==◌, nat_lt, nat_le, Option, Some, None, option_map, option_and_then, List, [], ◌∷◌, ◌++◌, slice_index, if◌then◌else◌}
use Rattle.java_lexer.specs.Literals.{is_octal_digit}
use Rattle.java_literals.specs.declared.texts.Within.{Within}
use Rattle.java_literals.specs.declared.texts.Within.TheVariants as within
use Rattle.java_literals.specs.Characters.{escape_of, octal}
use Rattle.java_literals.specs.Values.{within_quotes}

-- a character up to U+00FF in UTF-8 (RFC 3629)
abbrev pub in_utf8 : ℕ → List ℕ
in_utf8 c = if nat_lt c 128 then c ∷ [] else (if nat_lt c 192 then 194 ∷ c ∷ [] else 195 ∷ (c - 64) ∷ [])

abbrev pub octal_digit : ℕ → Option ℕ
octal_digit b = if is_octal_digit b then Some (octal b) else None

-- a byte in no escape: a backslash (92) begins one
abbrev pub plain_step : ℕ → List ℕ × Within
plain_step b = if b == 92 then ([], within.Backslash) else (b ∷ [], within.Plain)

abbrev pub after : List ℕ → List ℕ × Within → List ℕ × Within
after bytes step = (bytes ++ step.0, step.1)

-- the first digit of an octal escape: up to 3 two may follow it, and else one
abbrev pub first_digit : ℕ → Within
first_digit d = if nat_le d 3 then within.TwoDigits d else within.OneDigit d

-- what stands behind a backslash: an octal digit, or another sign
abbrev pub escape_step : Option ℕ → ℕ → Option (List ℕ × Within)
escape_step (Some d) b = Some ([], first_digit d)
escape_step None b = option_map (λ c. (in_utf8 c, within.Plain)) (escape_of b)

-- a digit that goes on with an escape, and none may follow it; another byte ends the escape
abbrev pub last_digit : ℕ → Option ℕ → ℕ → List ℕ × Within
last_digit value (Some d) b = (in_utf8 (value * 8 + d), within.Plain)
last_digit value None b = after (in_utf8 value) (plain_step b)

-- a digit that goes on with an escape, and one more may follow it; another byte ends the escape
abbrev pub middle_digit : ℕ → Option ℕ → ℕ → List ℕ × Within
middle_digit value (Some d) b = ([], within.OneDigit (value * 8 + d))
middle_digit value None b = after (in_utf8 value) (plain_step b)

-- what a byte adds to the text, and what the next one stands in
abbrev pub text_step : Within → ℕ → Option (List ℕ × Within)
text_step within.Plain b = Some (plain_step b)
text_step within.Backslash b = escape_step (octal_digit b) b
text_step (within.OneDigit value) b = Some (last_digit value (octal_digit b) b)
text_step (within.TwoDigits value) b = Some (middle_digit value (octal_digit b) b)

abbrev pub end_of_text : Within → Option (List ℕ)
end_of_text within.Plain = Some []
end_of_text within.Backslash = None
end_of_text (within.OneDigit value) = Some (in_utf8 value)
end_of_text (within.TwoDigits value) = Some (in_utf8 value)

-- the text that these bytes of a literal stand for, where what comes before them leaves the first in this
abbrev pub text_from : List ℕ → Within → Option (List ℕ)
text_from [] state = end_of_text state
text_from (b ∷ bs) state = option_and_then (λ step. option_map (λ more. step.0 ++ more) (text_from bs step.1)) (text_step state b)

-- the text of a string literal, which begins with `"` (34); none of another literal
abbrev pub text_of_literal : List ℕ → Option (List ℕ)
text_of_literal literal = if slice_index literal 0 == 34 then text_from (within_quotes literal) within.Plain else None

-- an escape's value so far leaves room for the digits that may follow it, up to 377
abbrev pub HasRoom : Within → Type 0
HasRoom within.Plain = Unit {0}
HasRoom within.Backslash = Unit {0}
HasRoom (within.OneDigit value) = value < 32
HasRoom (within.TwoDigits value) = value < 4
