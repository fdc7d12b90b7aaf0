-- The texts of Java's reserved words, separators and operators, family by family, each with its class in the grammar and what it means beyond its class.
use Rattle.std.specs.Prelude.{ℕ, Bool, ◌||◌, max, nat_eq, List, [], ◌∷◌, map, length, codes, if◌then◌else◌}
use Rattle.std.specs.List.{list_any, starts_with}
use Rattle.std.specs.Str.{bytes_eq}
use Rattle.java_syntax.specs.declared.words.Word.{Word}
use Rattle.java_syntax.specs.declared.words.Word.TheVariants as word
use Rattle.java_syntax.specs.declared.names.PrimitiveName.TheVariants as primitive
use Rattle.java_syntax.specs.declared.operators.InfixOperator.TheVariants as operator
use Rattle.java_syntax.specs.declared.operators.PrefixOperator.TheVariants as sign
use Rattle.java_syntax.specs.declared.operators.StepOperator.TheVariants as step
use Rattle.java_lexer.specs.declared.meanings.Meaning.{Meaning}
use Rattle.java_lexer.specs.declared.meanings.Meaning.TheVariants as meaning

abbrev pub is_listed : List (List ℕ) → List ℕ → Bool
is_listed words word = list_any (λ listed. bytes_eq listed word) words

-- the texts of the rows
abbrev pub texts_of : List (List ℕ × Word × Meaning) → List (List ℕ)
texts_of rows = map (λ row. row.0) rows

-- the texts with the class beside each
abbrev pub classes_of : List (List ℕ × Word × Meaning) → List (List ℕ × Word)
classes_of rows = map (λ row. (row.0, row.1)) rows

-- the texts with the meaning beside each
abbrev pub meanings_of : List (List ℕ × Word × Meaning) → List (List ℕ × Meaning)
meanings_of rows = map (λ row. (row.0, row.2)) rows

-- the reserved words (JLS 3.9) that the subset uses
abbrev pub reserved_word_rows : List (List ℕ × Word × Meaning)
reserved_word_rows = (codes "abstract", word.Abstract, meaning.Plain) ∷ (codes "boolean", word.Primitive, meaning.Primitive primitive.Boolean) ∷ (codes "break", word.Break, meaning.Plain)
    ∷ (codes "byte", word.Primitive, meaning.Primitive primitive.Byte) ∷ (codes "catch", word.Catch, meaning.Plain) ∷ (codes "char", word.Primitive, meaning.Primitive primitive.Char)
    ∷ (codes "class", word.Class, meaning.Plain) ∷ (codes "continue", word.Continue, meaning.Plain) ∷ (codes "do", word.Do, meaning.Plain)
    ∷ (codes "else", word.Else, meaning.Plain) ∷ (codes "extends", word.Extends, meaning.Plain) ∷ (codes "final", word.Final, meaning.Plain)
    ∷ (codes "finally", word.Finally, meaning.Plain) ∷ (codes "for", word.For, meaning.Plain) ∷ (codes "if", word.If, meaning.Plain)
    ∷ (codes "implements", word.Implements, meaning.Plain) ∷ (codes "import", word.Import, meaning.Plain) ∷ (codes "instanceof", word.Instanceof, meaning.Plain)
    ∷ (codes "int", word.Primitive, meaning.Primitive primitive.Int) ∷ (codes "interface", word.Interface, meaning.Plain) ∷ (codes "long", word.Primitive, meaning.Primitive primitive.Long)
    ∷ (codes "new", word.New, meaning.Plain) ∷ (codes "package", word.Package, meaning.Plain) ∷ (codes "private", word.Private, meaning.Plain)
    ∷ (codes "protected", word.Protected, meaning.Plain) ∷ (codes "public", word.Public, meaning.Plain) ∷ (codes "return", word.Return, meaning.Plain)
    ∷ (codes "static", word.Static, meaning.Plain) ∷ (codes "super", word.Super, meaning.Plain) ∷ (codes "this", word.This, meaning.Plain)
    ∷ (codes "throw", word.Throw, meaning.Plain) ∷ (codes "throws", word.Throws, meaning.Plain) ∷ (codes "try", word.Try, meaning.Plain)
    ∷ (codes "void", word.Void, meaning.Plain) ∷ (codes "while", word.While, meaning.Plain) ∷ []

abbrev pub reserved_word_classes : List (List ℕ × Word)
reserved_word_classes = classes_of reserved_word_rows

abbrev pub reserved_word_meanings : List (List ℕ × Meaning)
reserved_word_meanings = meanings_of reserved_word_rows

abbrev pub reserved_words : List (List ℕ)
reserved_words = texts_of reserved_word_rows

-- the reserved words (JLS 3.9) that the subset leaves out
abbrev pub left_out_words : List (List ℕ)
left_out_words = codes "assert" ∷ codes "case" ∷ codes "const" ∷ codes "default" ∷ codes "double" ∷ codes "enum"
    ∷ codes "float" ∷ codes "goto" ∷ codes "native" ∷ codes "short" ∷ codes "strictfp" ∷ codes "switch"
    ∷ codes "synchronized" ∷ codes "transient" ∷ codes "volatile" ∷ codes "_" ∷ []

-- the literals that are words (JLS 3.10.3, 3.10.8)
abbrev pub value_words : List (List ℕ)
value_words = codes "true" ∷ codes "false" ∷ codes "null" ∷ []

-- no identifier (JLS 3.8)
abbrev pub is_special_word : List ℕ → Bool
is_special_word word = is_listed reserved_words word || is_listed left_out_words word || is_listed value_words word

-- the separators (JLS 3.11)
abbrev pub separator_rows : List (List ℕ × Word × Meaning)
separator_rows = (codes "(", word.OpenParen, meaning.Plain) ∷ (codes ")", word.CloseParen, meaning.Plain) ∷ (codes "{", word.OpenBrace, meaning.Plain)
    ∷ (codes "}", word.CloseBrace, meaning.Plain) ∷ (codes "[", word.OpenBracket, meaning.Plain) ∷ (codes "]", word.CloseBracket, meaning.Plain)
    ∷ (codes ";", word.Semicolon, meaning.Plain) ∷ (codes ",", word.Comma, meaning.Plain) ∷ (codes ".", word.Dot, meaning.Plain)
    ∷ (codes "...", word.Other, meaning.Plain) ∷ (codes "@", word.At, meaning.Plain) ∷ (codes "::", word.Other, meaning.Plain) ∷ []

abbrev pub separator_classes : List (List ℕ × Word)
separator_classes = classes_of separator_rows

abbrev pub separators : List (List ℕ)
separators = texts_of separator_rows

-- the operators (JLS 3.12)
abbrev pub operator_rows : List (List ℕ × Word × Meaning)
operator_rows = (codes "=", word.Assign, meaning.Plain) ∷ (codes "?", word.Question, meaning.Plain) ∷ (codes ":", word.Colon, meaning.Plain)
    ∷ (codes "->", word.Other, meaning.Plain) ∷ (codes "!", word.Not, meaning.Prefix sign.Not) ∷ (codes "~", word.Not, meaning.Prefix sign.Complement)
    ∷ (codes "++", word.Step, meaning.Step step.Increment) ∷ (codes "--", word.Step, meaning.Step step.Decrement) ∷ (codes "+", word.Sign, meaning.Sign sign.Plus operator.Add)
    ∷ (codes "-", word.Sign, meaning.Sign sign.Minus operator.Subtract) ∷ (codes "*", word.Star, meaning.Infix operator.Multiply) ∷ (codes "|", word.Bar, meaning.Infix operator.Or)
    ∷ (codes "/", word.Tight, meaning.Infix operator.Divide) ∷ (codes "%", word.Tight, meaning.Infix operator.Remainder) ∷ (codes "<<", word.Tight, meaning.Infix operator.ShiftLeft)
    ∷ (codes ">>", word.Tight, meaning.Infix operator.ShiftRight) ∷ (codes ">>>", word.Tight, meaning.Infix operator.ShiftRightUnsigned) ∷ (codes "<", word.Loose, meaning.Infix operator.Less)
    ∷ (codes ">", word.Loose, meaning.Infix operator.Greater) ∷ (codes "<=", word.Loose, meaning.Infix operator.LessOrEqual) ∷ (codes ">=", word.Loose, meaning.Infix operator.GreaterOrEqual)
    ∷ (codes "==", word.Loose, meaning.Infix operator.Equal) ∷ (codes "!=", word.Loose, meaning.Infix operator.NotEqual) ∷ (codes "&", word.Loose, meaning.Infix operator.And)
    ∷ (codes "^", word.Loose, meaning.Infix operator.Xor) ∷ (codes "&&", word.Loose, meaning.Infix operator.ConditionalAnd) ∷ (codes "||", word.Loose, meaning.Infix operator.ConditionalOr)
    ∷ (codes "+=", word.Compound, meaning.Plain) ∷ (codes "-=", word.Compound, meaning.Plain) ∷ (codes "*=", word.Compound, meaning.Plain)
    ∷ (codes "/=", word.Compound, meaning.Plain) ∷ (codes "&=", word.Compound, meaning.Plain) ∷ (codes "|=", word.Compound, meaning.Plain)
    ∷ (codes "^=", word.Compound, meaning.Plain) ∷ (codes "%=", word.Compound, meaning.Plain) ∷ (codes "<<=", word.Compound, meaning.Plain)
    ∷ (codes ">>=", word.Compound, meaning.Plain) ∷ (codes ">>>=", word.Compound, meaning.Plain) ∷ []

abbrev pub operator_classes : List (List ℕ × Word)
operator_classes = classes_of operator_rows

abbrev pub operator_meanings : List (List ℕ × Meaning)
operator_meanings = meanings_of operator_rows

abbrev pub operators : List (List ℕ)
operators = texts_of operator_rows

-- the class beside the text; none of the grammar's where the text isn't listed
abbrev pub class_in : List (List ℕ × Word) → List ℕ → Word
class_in [] text = word.Other
class_in (row ∷ rows) text = if bytes_eq row.0 text then row.1 else class_in rows text

-- the meaning beside the text; none beyond the class where the text isn't listed
abbrev pub meaning_in : List (List ℕ × Meaning) → List ℕ → Meaning
meaning_in [] text = meaning.Plain
meaning_in (row ∷ rows) text = if bytes_eq row.0 text then row.1 else meaning_in rows text

-- the length of the longest listed word that the text begins with; 0 where none does
abbrev pub longest_listed : List (List ℕ) → List ℕ → ℕ
longest_listed [] text = 0
longest_listed (word ∷ words) text = max (if starts_with nat_eq text word then length word else 0) (longest_listed words text)
