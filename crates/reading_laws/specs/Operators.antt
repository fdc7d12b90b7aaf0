-- The texts of the operators between two operands.
use Rattle.std.specs.Prelude.{ℕ, Bool, true, false, List, map, filter}
use Rattle.java_syntax.specs.declared.words.Word.{Word}
use Rattle.java_syntax.specs.declared.words.Word.TheVariants as word
use Rattle.java_lexer.specs.declared.meanings.Meaning.{Meaning}
use Rattle.java_lexer.specs.declared.meanings.Meaning.TheVariants as meaning
use Rattle.java_lexer.specs.Words.{operator_meanings}

-- the text may stand between two operands
abbrev pub is_infix_meaning : Meaning → Bool
is_infix_meaning meaning.Plain = false
is_infix_meaning (meaning.Primitive p) = false
is_infix_meaning (meaning.Step o) = false
is_infix_meaning (meaning.Prefix s) = false
is_infix_meaning (meaning.Infix o) = true
is_infix_meaning (meaning.Sign s o) = true

-- each stands beside its operator in the list of operators (JLS 15.17 to 15.24)
abbrev pub infix_texts : List (List ℕ)
infix_texts = map (λ row. row.0) (filter (λ row. is_infix_meaning row.1) operator_meanings)

abbrev pub is_compound : Word → Bool
is_compound word.Compound = true
is_compound _ = false
