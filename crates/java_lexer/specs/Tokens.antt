-- White space, comments and tokens of the subset (JLS 3.5): which texts are one of these.
use Rattle.std.specs.Prelude.{◌≡◌, ℕ, suc, true, false, not, ◌&&◌, ◌==◌, if◌then◌else◌, List, [], ◌∷◌, ◌++◌, length, slice_index, Option, Some, None}
use Rattle.std.specs.List.{list_all}
use Rattle.std.specs.Option.{option_map}
use Rattle.java_lexer.specs.declared.token.TokenKind.{TokenKind}
use Rattle.java_lexer.specs.declared.token.TokenKind.TheVariants.{Ident, Reserved, Literal, Separator, Operator}
use Rattle.java_lexer.specs.Characters.{is_blank, is_line_end, IsIdentifier}
use Rattle.java_lexer.specs.Words.{is_listed, reserved_words, value_words, is_special_word, separators, operators}
use Rattle.java_lexer.specs.Literals.{is_integer, is_escape, is_on_line, IsBody, is_character}

-- how many bytes of the text the first `*/` in it ends behind
abbrev pub comment_end : List ℕ → Option ℕ
comment_end [] = None
comment_end (b ∷ bs) = if b == 42 && slice_index bs 0 == 47 then Some 2 else option_map suc (comment_end bs)

-- what parts tokens: a byte of white space (JLS 3.6), or a comment (JLS 3.7)
pub data IsSkipped : List ℕ → Type 0 where
  blank : (b : ℕ) → is_blank b ≡ true → IsSkipped (b ∷ [])
  line_comment : (body : List ℕ) → list_all (λ b. not (is_line_end b)) body ≡ true → IsSkipped (47 ∷ 47 ∷ body)
  block_comment : (body : List ℕ) → comment_end body ≡ Some (length body) → IsSkipped (47 ∷ 42 ∷ body)

-- a token of the subset, of this kind (JLS 3.8 to 3.12)
pub data IsToken : TokenKind → List ℕ → Type 0 where
  identifier : (text : List ℕ) → IsIdentifier text → is_special_word text ≡ false → IsToken Ident text
  reserved : (text : List ℕ) → is_listed reserved_words text ≡ true → IsToken Reserved text
  named_value : (text : List ℕ) → is_listed value_words text ≡ true → IsToken Literal text
  integer : (text : List ℕ) → is_integer text ≡ true → IsToken Literal text
  character : (body : List ℕ) → IsBody 39 is_on_line body → is_character body ≡ true → IsToken Literal (39 ∷ (body ++ 39 ∷ []))
  string : (body : List ℕ) → IsBody 34 is_escape body → IsToken Literal (34 ∷ (body ++ 34 ∷ []))
  separator : (text : List ℕ) → is_listed separators text ≡ true → IsToken Separator text
  operator : (text : List ℕ) → is_listed operators text ≡ true → IsToken Operator text

-- one of these
pub data IsPiece : List ℕ → Type 0 where
  skipped : {text : List ℕ} → IsSkipped text → IsPiece text
  token : {text : List ℕ} (kind : TokenKind) → IsToken kind text → IsPiece text
