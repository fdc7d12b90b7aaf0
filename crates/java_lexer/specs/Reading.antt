-- What the parts of the lexer say to each other: no public contract cites these.
use Rattle.std.specs.Prelude.{◌≡◌, ℕ, suc, not, ◌&&◌, ◌||◌, ◌+◌, ◌<◌, Bool, true, false, ◌==◌, if◌then◌else◌, List, [], ◌∷◌, ◌++◌, length, take, slice_index, Option, Some, None}
use Rattle.std.specs.Char.{is_ascii_digit}
use Rattle.rlc_base.specs.declared.code.Code.{Code}
use Rattle.rlc_base.specs.declared.place.Pos.{Pos}
use Rattle.rlc_base.specs.declared.faults.Stop.{Stop}
use Rattle.rlc_base.specs.declared.faults.Stop.TheVariants.{Refused as RefusedStop}
use Rattle.java_lexer.specs.declared.fronts.Front.{Front}
use Rattle.java_lexer.specs.declared.fronts.Front.TheVariants.{Piece, Refused}
use Rattle.java_lexer.specs.declared.lexer.Halt.{Halt}
use Rattle.java_lexer.specs.declared.lexer.Halt.TheVariants.{Stuck as StuckAt, NoMemory}
use Rattle.java_lexer.specs.declared.places.Cursor.{Cursor}
use Rattle.java_syntax.specs.declared.tokens.Token.{Token}
use Rattle.java_syntax.specs.declared.words.Word.{Word}
use Rattle.java_lexer.specs.declared.token.TokenKind.{TokenKind}
use Rattle.java_lexer.specs.declared.token.TokenKind.TheVariants.{Ident, Reserved, Literal}
use Rattle.std.specs.Option.{option_map}
use Rattle.java_lexer.specs.Characters.{is_line_end}
use Rattle.java_lexer.specs.Literals.{is_escape}
use Rattle.java_lexer.specs.Words.{is_listed, reserved_words, value_words, separators, operators}
use Rattle.java_lexer.specs.Tokens.{IsSkipped, IsToken}
use Rattle.java_lexer.specs.Refusals.{Refuses}
use Rattle.java_lexer.specs.Cut.{IsFront, Stuck, place_behind}

-- a token of the kind, or without one white space or a comment
abbrev pub IsPieceOf : Option TokenKind → List ℕ → Type 0
IsPieceOf None text = IsSkipped text
IsPieceOf (Some kind) text = IsToken kind text

-- what the text begins with
abbrev pub IsFrontOf : List ℕ → Front → Type 0
IsFrontOf text (Piece kind n) = IsFront n text × IsPieceOf kind (take n text)
IsFrontOf text (Refused code) = Refuses code text

-- how many bytes stand before the quote that closes a literal on its line: the first one that is not escaped. `escaped`: a
-- backslash before the text escapes its first byte
abbrev pub closing_quote : ℕ → Bool → List ℕ → Option ℕ
closing_quote quote escaped [] = None
closing_quote quote escaped (b ∷ bs) =
    if is_line_end b then None
    else if b == quote && not escaped then Some 0
    else option_map suc (closing_quote quote (b == 92 && not escaped) bs)

-- each backslash begins an escape of a string literal
abbrev pub has_known_escapes : Bool → List ℕ → Bool
has_known_escapes escaped [] = true
has_known_escapes escaped (b ∷ bs) = (not escaped || is_escape b) && has_known_escapes (b == 92 && not escaped) bs

-- a separator or an operator stands at the front, and neither a comment nor a number
pub record IsSymbolAt (text : List ℕ) : Type 0 where
  pub more : 0 < length text
  pub mark : is_listed (separators ++ operators) (slice_index text 0 ∷ []) ≡ true
  pub no_line : slice_index text 0 ≡ 47 → slice_index text 1 ≡ 47 → ⊥
  pub no_block : slice_index text 0 ≡ 47 → slice_index text 1 ≡ 42 → ⊥
  pub no_digit : slice_index text 0 ≡ 46 → is_ascii_digit (slice_index text 1) ≡ true → ⊥

-- the kind of a word that is not left out
abbrev pub word_kind : List ℕ → TokenKind
word_kind word = if is_listed reserved_words word then Reserved else if is_listed value_words word then Literal else Ident

-- the tokens that a piece gives: one, or none without a class
abbrev pub tokens_of : Option Word → ℕ → ℕ → Pos → List Token
tokens_of None start len pos = []
tokens_of (Some word) start len pos = record { word = word; start = start; len = len; pos = pos } ∷ []

-- the cursor behind one more byte
abbrev pub moved : Cursor → ℕ → Cursor
moved cursor b =
    if b == 10 then record { line = (if cursor.after_return then cursor.line else cursor.line + 1); col = 1; after_return = false }
    else if b == 13 then record { line = cursor.line + 1; col = 1; after_return = true }
    else record { line = cursor.line; col = cursor.col + 1; after_return = false }

-- the cursor behind these bytes
abbrev pub moved_past : Cursor → List ℕ → Cursor
moved_past cursor [] = cursor
moved_past cursor (b ∷ bs) = moved_past (moved cursor b) bs

-- why the cut of the bytes stopped
abbrev pub IsHalt : List ℕ → Halt → Type 0
IsHalt bytes (StuckAt code place) = Stuck bytes 0 place code
IsHalt bytes NoMemory = Unit {0}

-- the stop at a place of the bytes
abbrev pub refused_at : ℕ → List ℕ → ℕ → Code → Stop
refused_at file bytes place code = RefusedStop (record { code = code; pos = place_behind file (take place bytes) })
