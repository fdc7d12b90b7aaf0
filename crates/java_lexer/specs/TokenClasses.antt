-- The class of a token in the grammar.
use Rattle.std.specs.Prelude.{ℕ, List}
use Rattle.java_syntax.specs.declared.words.Word.{Word}
use Rattle.java_syntax.specs.declared.words.Word.TheVariants as word
use Rattle.java_lexer.specs.Words.{reserved_word_classes, separator_classes, operator_classes, class_in}
use Rattle.java_lexer.specs.declared.token.TokenKind.{TokenKind}
use Rattle.java_lexer.specs.declared.token.TokenKind.TheVariants as kind

-- the class of a token of this kind and text
abbrev pub class_of : TokenKind → List ℕ → Word
class_of kind.Ident text = word.Ident
class_of kind.Literal text = word.Literal
class_of kind.Reserved text = class_in reserved_word_classes text
class_of kind.Separator text = class_in separator_classes text
class_of kind.Operator text = class_in operator_classes text
