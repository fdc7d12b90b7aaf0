-- The codes of refusal, each by the text that stands where it is given.
use Rattle.std.specs.Prelude.{◌≡◌, ◌≢◌, ℕ, ◌≤◌, Bool, true, false, ◌||◌, ◌==◌, List, [], ◌∷◌, ◌++◌, length, take, drop, slice_index, None}
use Rattle.std.specs.Char.{is_ascii_digit}
use Rattle.rlc_base.specs.declared.code.Code.{Code}
use Rattle.rlc_base.specs.declared.code.Code.TheVariants.{BadByte, OpenComment, OpenText, BadLiteral, LeftOutWord}
use Rattle.java_lexer.specs.Characters.{is_blank, is_identifier_start, is_identifier_part, BeginsWith}
use Rattle.java_lexer.specs.Words.{is_listed, left_out_words, separators, operators}
use Rattle.java_lexer.specs.Literals.{is_integer, is_long, is_escape, is_on_line, IsBody, is_character}
use Rattle.java_lexer.specs.Tokens.{comment_end}

-- white space, a number, a character or string literal, a comment, a separator or an operator begins with the byte: each
-- separator and operator begins with one that has one byte
abbrev pub begins_other_piece : ℕ → Bool
begins_other_piece b = is_blank b || is_ascii_digit b || b == 39 || b == 34 || is_listed (separators ++ operators) (b ∷ [])

-- BadByte: no piece of Java begins with the byte, nor an identifier with the character there, if one is there
pub data IsBadByte : List ℕ → Type 0 where
  bad_byte : (b : ℕ) (rest : List ℕ) → begins_other_piece b ≡ false → (BeginsWith is_identifier_start (b ∷ rest) → ⊥) → IsBadByte (b ∷ rest)

-- OpenComment: a `/*` that has no `*/` (JLS 3.7)
pub data IsOpenComment : List ℕ → Type 0 where
  open_comment : (rest : List ℕ) → comment_end rest ≡ None → IsOpenComment (47 ∷ 42 ∷ rest)

-- the quote stands behind a body of a literal
pub record IsClosed (quote : ℕ) (text : List ℕ) (body : List ℕ) : Type 0 where
  pub held : IsBody quote is_on_line body
  pub rest : List ℕ
  pub spelled : text ≡ body ++ quote ∷ rest

-- OpenText: the quote of a character or string literal that is not closed on its line (JLS 3.10.4, 3.10.5)
pub data IsOpenText : List ℕ → Type 0 where
  open_character : (rest : List ℕ) → ((body : List ℕ) → IsClosed 39 rest body → ⊥) → IsOpenText (39 ∷ rest)
  open_string : (rest : List ℕ) → ((body : List ℕ) → IsClosed 34 rest body → ⊥) → IsOpenText (34 ∷ rest)

-- the first n bytes are an integer literal, and neither an identifier character nor, without a suffix, a point is behind it
pub record IsWholeInteger (n : ℕ) (text : List ℕ) : Type 0 where
  pub fits : n ≤ length text
  pub integer : is_integer (take n text) ≡ true
  pub ends : BeginsWith is_identifier_part (drop n text) → ⊥
  pub no_point : is_long (take n text) ≡ false → slice_index (drop n text) 0 ≢ 46

-- BadLiteral: a number or a closed character or string literal that is none of the subset's, or a text block (JLS 3.10)
pub data IsBadLiteral : List ℕ → Type 0 where
  bad_number : (b : ℕ) (rest : List ℕ) → is_ascii_digit b ≡ true → ((n : ℕ) → IsWholeInteger n (b ∷ rest) → ⊥) → IsBadLiteral (b ∷ rest)
  fraction : (b : ℕ) (rest : List ℕ) → is_ascii_digit b ≡ true → IsBadLiteral (46 ∷ b ∷ rest)
  bad_character : (rest body : List ℕ) → IsClosed 39 rest body → is_character body ≡ false → IsBadLiteral (39 ∷ rest)
  bad_string : (rest body : List ℕ) → IsClosed 34 rest body → (IsBody 34 is_escape body → ⊥) → IsBadLiteral (34 ∷ rest)
  text_block : (rest : List ℕ) → IsBadLiteral (34 ∷ 34 ∷ 34 ∷ rest)

-- LeftOutWord: a reserved word that the subset leaves out, and no identifier character behind it (JLS 3.9)
pub record IsLeftOutWord (text : List ℕ) : Type 0 where
  pub len : ℕ
  pub fits : len ≤ length text
  pub listed : is_listed left_out_words (take len text) ≡ true
  pub ends : BeginsWith is_identifier_part (drop len text) → ⊥

-- the text is refused at its first byte, by this code
pub data Refuses : Code → List ℕ → Type 0 where
  by_byte : {text : List ℕ} → IsBadByte text → Refuses BadByte text
  by_comment : {text : List ℕ} → IsOpenComment text → Refuses OpenComment text
  by_text : {text : List ℕ} → IsOpenText text → Refuses OpenText text
  by_literal : {text : List ℕ} → IsBadLiteral text → Refuses BadLiteral text
  by_word : {text : List ℕ} → IsLeftOutWord text → Refuses LeftOutWord text
