-- The cut of a text into tokens, or the place and the code of its refusal.
use Rattle.std.specs.Prelude.{◌≡◌, ℕ, ◌+◌, ◌<◌, ◌≤◌, ◌⊎◌, ⊤, not, ◌&&◌, ◌||◌, ◌==◌, if◌then◌else◌, List, [], ◌∷◌, length, take, drop, slice_index}
use Rattle.std.specs.List.{suffix_len}
use Rattle.std.specs.Str.{IsUtf8, IsValidUpTo}
use Rattle.rlc_base.specs.Codes.{number_of}
use Rattle.rlc_base.specs.declared.code.Code.{Code}
use Rattle.rlc_base.specs.declared.code.Code.TheVariants.{BadByte}
use Rattle.rlc_base.specs.declared.place.Pos.{Pos}
use Rattle.rlc_base.specs.declared.faults.Stop.{Stop}
use Rattle.rlc_base.specs.declared.faults.Stop.TheVariants.{Refused, TooMuch, NoMemory}
use Rattle.java_syntax.specs.declared.tokens.Token.{Token}
use Rattle.java_lexer.specs.declared.token.TokenKind.{TokenKind}
use Rattle.java_syntax.specs.Derives.{text_of}
use Rattle.java_lexer.specs.Characters.{is_line_end}
use Rattle.java_lexer.specs.TokenClasses.{class_of}
use Rattle.java_lexer.specs.Tokens.{IsSkipped, IsToken, IsPiece}
use Rattle.java_lexer.specs.Refusals.{Refuses}

-- how many lines end in the text: at a line feed, at a carriage return, or at both together (JLS 3.4)
abbrev pub line_ends : List ℕ → ℕ
line_ends [] = 0
line_ends (b ∷ bs) = (if b == 10 || (b == 13 && not (slice_index bs 0 == 10)) then 1 else 0) + line_ends bs

-- how many bytes stand behind the last end of a line
abbrev pub last_line_len : List ℕ → ℕ
last_line_len text = suffix_len (λ b. not (is_line_end b)) text

-- the place behind a text of a file
abbrev pub place_behind : ℕ → List ℕ → Pos
place_behind file text = record { file = file; line = 1 + line_ends text; col = 1 + last_line_len text }

-- the token lies within the bytes, and they spell one of its class there
pub record IsTokenOf (bytes : List ℕ) (token : Token) : Type 0 where
  pub fits : token.start + token.len ≤ length bytes
  pub kind : TokenKind
  pub is : IsToken kind (text_of bytes token)
  pub word : token.word ≡ class_of kind (text_of bytes token)

-- the token of this kind and length that begins at a place of the text
abbrev pub token_at : ℕ → List ℕ → TokenKind → ℕ → ℕ → Token
token_at file bytes kind start len = record { word = class_of kind (take len (drop start bytes)); start = start; len = len; pos = place_behind file (take start bytes) }

-- what is cut off at the front of the text: the longest piece that begins it (JLS 3.2), if nothing there is refused
pub record IsFront (n : ℕ) (text : List ℕ) : Type 0 where
  pub fits : n ≤ length text
  pub piece : IsPiece (take n text)
  pub longest : (m : ℕ) → m ≤ length text → IsPiece (take m text) → m ≤ n
  pub taken : (code : Code) → Refuses code text → ⊥

-- from the place on, the bytes are cut into the tokens
pub data Cut (file : ℕ) (bytes : List ℕ) : ℕ → List Token → Type 0 where
  ended : {at : ℕ} → at ≡ length bytes → Cut file bytes at []
  skip : {at : ℕ} {tokens : List Token} (n : ℕ) → IsFront n (drop at bytes) → IsSkipped (take n (drop at bytes))
      → Cut file bytes (at + n) tokens → Cut file bytes at tokens
  take_token : {at : ℕ} {tokens : List Token} (kind : TokenKind) (n : ℕ) → IsFront n (drop at bytes) → IsToken kind (take n (drop at bytes))
      → Cut file bytes (at + n) tokens → Cut file bytes at (token_at file bytes kind at n ∷ tokens)

-- the bytes of a file are UTF-8, and cut into the tokens
pub record IsCut (file : ℕ) (bytes : List ℕ) (tokens : List Token) : Type 0 where
  pub utf8 : IsUtf8 bytes
  pub cut : Cut file bytes 0 tokens

-- from the first place on, the bytes are cut up to the second, where the code refuses them
pub data Stuck (bytes : List ℕ) : ℕ → ℕ → Code → Type 0 where
  here : {at place : ℕ} {code : Code} → place ≡ at → Refuses code (drop at bytes) → Stuck bytes at place code
  behind : {at place : ℕ} {code : Code} (n : ℕ) → IsFront n (drop at bytes) → Stuck bytes (at + n) place code → Stuck bytes at place code

-- why the bytes have no cut: at the place they stop being UTF-8, or a code refuses what is behind a cut up to there
pub data IsFault (bytes : List ℕ) : ℕ → Code → Type 0 where
  no_utf8 : {place : ℕ} → IsValidUpTo bytes place → IsFault bytes place BadByte
  stuck : {place : ℕ} {code : Code} → Stuck bytes 0 place code → IsFault bytes place code

-- the refusal of the bytes: the fault of the least place, and there that of the code with the least number
pub record IsRefusal (bytes : List ℕ) (place : ℕ) (code : Code) : Type 0 where
  pub fault : IsFault bytes place code
  pub least : (other_place : ℕ) (other_code : Code) → IsFault bytes other_place other_code → (place < other_place) ⊎ ((place ≡ other_place) × (number_of code ≤ number_of other_code))

-- what a stop of the lexer says of the bytes: a refusal with its place, or that memory ran out
abbrev pub IsStopAt : ℕ → List ℕ → Stop → Type 0
IsStopAt file bytes (Refused refusal) = (place : ℕ) × IsRefusal bytes place refusal.code × (refusal.pos ≡ place_behind file (take place bytes))
IsStopAt file bytes (TooMuch refusal) = ⊥
IsStopAt file bytes NoMemory = ⊤

-- after a stop at a refusal the bytes have no cut
abbrev pub HasNoCut : ℕ → List ℕ → Stop → Type 0
HasNoCut file bytes (Refused refusal) = (tokens : List Token) → IsCut file bytes tokens → ⊥
HasNoCut file bytes (TooMuch refusal) = ⊥
HasNoCut file bytes NoMemory = ⊤
