use Rattle.std.proofs.Common.{rules, ◌≡◌, true}
use Rattle.command_words.specs.Numbers.{is_number}
use Rattle.command_words.proofs.NumberLemmas.{IsShortNumeral, number_numeral}
use Rattle.command_words.proofs.numbers.number_up_to.Goals as goal

-- a text of 1 to 10 digits is always read
pub returns-in_default : goal.returns-in_default
returns-in_default c =
    let is_digits : is_number c.args.text.now ≡ true = search rules in
    let short : IsShortNumeral c.args.text.now = number_numeral c.args.text.now is_digits in
    absurd (c.in_default.ensures.value.0 (rw short.plain short.numeral, rw short.plain short.small))
