-- The tokens that names and types are written with, and their places.
use Rattle.std.specs.Prelude.{◌≡◌, List, [], ◌∷◌, ◌++◌, Option, Some, None, true, false}
use Rattle.rlc_base.specs.declared.place.Pos.{Pos}
use Rattle.java_syntax.specs.declared.words.Word.{Word}
use Rattle.java_syntax.specs.declared.words.Word.TheVariants as word
use Rattle.java_syntax.specs.declared.names.Name.{Name}
use Rattle.java_syntax.specs.declared.names.Typ.{Typ}
use Rattle.java_syntax.specs.declared.names.TypeName.TheVariants.{Primitive, Named}
use Rattle.java_syntax.specs.Derives.{Lexeme}
use Rattle.java_nodes.specs.Operators.{primitive_name}

-- the token is of this class
abbrev pub Is : Word → Lexeme → Type 0
Is w t = t.word ≡ w

-- the place of the first of the tokens
abbrev pub first_place : List Lexeme → Option Pos
first_place [] = None
first_place (t ∷ ts) = Some t.pos

-- the tokens begin at this place
abbrev pub BeginAt : Pos → List Lexeme → Type 0
BeginAt pos ts = first_place ts ≡ Some pos

-- items that stand one behind the other
pub data AreInOrder (A : Type 0) (IsItem : A → List Lexeme → Type 0) : List A → List Lexeme → Type 0 where
  nothing : AreInOrder A IsItem [] []
  further : {all : List A} {ts : List Lexeme} (one : A) {us : List Lexeme} → AreInOrder A IsItem all ts → IsItem one us → AreInOrder A IsItem (all ++ one ∷ []) (ts ++ us)

-- one item at least, with a token of this class between them
pub data AreSeparated (A : Type 0) (IsItem : A → List Lexeme → Type 0) (between : Word) : List A → List Lexeme → Type 0 where
  single : (one : A) {ts : List Lexeme} → IsItem one ts → AreSeparated A IsItem between (one ∷ []) ts
  another : {all : List A} {ts : List Lexeme} (t : Lexeme) (one : A) {us : List Lexeme} → AreSeparated A IsItem between all ts → Is between t → IsItem one us
      → AreSeparated A IsItem between (all ++ one ∷ []) (ts ++ t ∷ us)

-- an identifier, with its place (JLS 3.8)
abbrev pub identifier_at : Lexeme → Name
identifier_at t = record { text = t.text; pos = t.pos }

-- Identifiers with dots between them (JLS 6.2), in the text too, where 46 is the dot. The place is that of the first.
pub data IsName : Name → List Lexeme → Type 0 where
  simple : (t : Lexeme) → Is word.Ident t → IsName (identifier_at t) (t ∷ [])
  qualified : (name : Name) {ts : List Lexeme} (dot t : Lexeme) → IsName name ts → Is word.Dot dot → Is word.Ident t
      → IsName (record { text = name.text ++ 46 ∷ t.text; pos = name.pos }) (ts ++ dot ∷ t ∷ [])

-- a primitive type (JLS 4.2), whose place is that of its token
pub data IsPrimitiveType : Typ → List Lexeme → Type 0 where
  primitive : (t : Lexeme) → Is word.Primitive t → IsPrimitiveType (record { name = Primitive (primitive_name t.text); is_array = false; pos = t.pos }) (t ∷ [])

-- such a type, or the name of a class or interface, whose place is that of its first identifier
pub data IsElementType : Typ → List Lexeme → Type 0 where
  simple_type : {typ : Typ} {ts : List Lexeme} → IsPrimitiveType typ ts → IsElementType typ ts
  named : (name : Name) {ts : List Lexeme} → IsName name ts → IsElementType (record { name = Named name.text; is_array = false; pos = name.pos }) ts

-- Such a type, or the type of an array of it (JLS 10.1).
pub data IsType : Typ → List Lexeme → Type 0 where
  element : {typ : Typ} {ts : List Lexeme} → IsElementType typ ts → IsType typ ts
  array : (typ : Typ) {ts : List Lexeme} (open' close : Lexeme) → IsElementType typ ts → Is word.OpenBracket open' → Is word.CloseBracket close
      → IsType (record typ { is_array = true }) (ts ++ open' ∷ close ∷ [])

-- a class or interface, or the type of an array (JLS 4.3)
pub data IsReferenceType : Typ → List Lexeme → Type 0 where
  class_type : (name : Name) {ts : List Lexeme} → IsName name ts → IsReferenceType (record { name = Named name.text; is_array = false; pos = name.pos }) ts
  array_type : (typ : Typ) {ts : List Lexeme} (open' close : Lexeme) → IsElementType typ ts → Is word.OpenBracket open' → Is word.CloseBracket close
      → IsReferenceType (record typ { is_array = true }) (ts ++ open' ∷ close ∷ [])
