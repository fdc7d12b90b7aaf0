-- The characters of Java source text. A text is a list of bytes, and its characters are spelled in UTF-8.
use Rattle.std.specs.Prelude.{◌≡◌, ℕ, Bool, true, ◌||◌, ◌==◌, List, ◌++◌}
use Rattle.std.specs.Char.{IsScalar, encode_utf8}
use Rattle.std.specs.List.{list_all}
use Rattle.std.specs.Str.{all_scalars, encode_utf8_all}
use Rattle.unicode_ident.specs.Ident.{is_xid_start, is_xid_continue}

-- a line feed or a carriage return (JLS 3.4)
abbrev pub is_line_end : ℕ → Bool
is_line_end b = b == 10 || b == 13

-- white space: a space, a tab, a form feed or the end of a line (JLS 3.6)
abbrev pub is_blank : ℕ → Bool
is_blank b = b == 32 || b == 9 || b == 12 || is_line_end b

-- a character that may begin an identifier (JLS 3.8): one of Unicode's XID_Start, `_` or `$`
abbrev pub is_identifier_start : ℕ → Bool
is_identifier_start c = is_xid_start c || c == 95 || c == 36

-- a character that an identifier may have behind its first (JLS 3.8): one of Unicode's XID_Continue, `_` among them, or `$`
abbrev pub is_identifier_part : ℕ → Bool
is_identifier_part c = is_xid_continue c || c == 36

-- the text begins with a character that passes the test
pub record BeginsWith (test : ℕ → Bool) (text : List ℕ) : Type 0 where
  pub first : ℕ
  pub rest : List ℕ
  pub scalar : IsScalar first
  pub passes : test first ≡ true
  pub spelled : text ≡ encode_utf8 first ++ rest

-- the text is spelled by characters that all pass the test
pub record IsRun (test : ℕ → Bool) (text : List ℕ) : Type 0 where
  pub characters : List ℕ
  pub scalars : all_scalars characters ≡ true
  pub pass : list_all test characters ≡ true
  pub spelled : text ≡ encode_utf8_all characters

-- the text has the form of an identifier, whether it is a reserved word or not: a start, and parts behind it
pub record IsIdentifier (text : List ℕ) : Type 0 where
  pub begins : BeginsWith is_identifier_start text
  pub run : IsRun is_identifier_part text
