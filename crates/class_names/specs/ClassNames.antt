-- The classes of a program by their names: qualified and simple names (JLS 6.7, 6.2).
use Rattle.std.specs.Prelude.{◌≡◌, ◌≤◌, ℕ, ◌+◌, ◌^◌, Bool, false, if◌then◌else◌, Option, Some, None, List, [], ◌∷◌, ◌++◌, map, length, filter, position, slice_get, take, option_map, Vec}
use Rattle.std.specs.List.{list_any, range_with_len}
use Rattle.std.specs.Str.{bytes_eq}
use Rattle.program_model.specs.declared.kinds.ClassId.{ClassId}
use Rattle.class_names.specs.declared.class_name.ClassName.{ClassName}

-- the qualified name of a class or interface (JLS 6.7): one of the package without a name has its simple name alone
abbrev pub qualified_name : List ℕ → List ℕ → List ℕ
qualified_name [] simple = simple
qualified_name (b ∷ bs) simple = (b ∷ bs) ++ 46 ∷ simple

abbrev pub name_of_class : ClassName → List ℕ
name_of_class k = qualified_name k.package k.simple

-- the qualified names of the classes, in class order
abbrev pub names_of : List ClassName → List (List ℕ)
names_of classes = map name_of_class classes

abbrev pub class_number : ℕ → ClassId
class_number n = record { 0 = n }

-- a number out of range names nothing
abbrev pub class_at : List ClassName → ClassId → Option ClassName
class_at classes c = slice_get classes c.0

-- the class whose qualified name this is
abbrev pub class_of_name : List ClassName → List ℕ → Option ClassId
class_of_name classes name = option_map class_number (position (bytes_eq name) (names_of classes))

-- the classes whose simple name this is, in class order, where the first of the list has the number `first`
abbrev pub simply_named_from : ℕ → List ℕ → List ClassName → List ClassId
simply_named_from first name [] = []
simply_named_from first name (k ∷ ks) = if bytes_eq name k.simple then class_number first ∷ simply_named_from (first + 1) name ks else simply_named_from (first + 1) name ks

abbrev pub simply_named : List ClassName → List ℕ → List ClassId
simply_named classes name = simply_named_from 0 name classes

abbrev pub name_in : Option ClassName → List ℕ
name_in None = []
name_in (Some k) = name_of_class k

abbrev pub is_among : List (List ℕ) → List ℕ → Bool
is_among names name = list_any (bytes_eq name) names

abbrev pub is_among_if_some : List (List ℕ) → Option (List ℕ) → Bool
is_among_if_some names None = false
is_among_if_some names (Some name) = is_among names name

-- the name with this number stands before it too
abbrev pub is_double : List (List ℕ) → ℕ → Bool
is_double names n = is_among_if_some (take n names) (slice_get names n)

-- the numbers of the classes whose qualified name an earlier class has
abbrev pub doubles : List ClassName → List ℕ
doubles classes = filter (is_double (names_of classes)) (range_with_len 0 (length classes))

-- ---- the index

-- the rows in memory as lists
abbrev pub rows_in : {A : Type 0} → List (Vec ClassId A) → List (List ClassId)
rows_in rows = map (λ r. r.items) rows

-- what the row of a name holds, where each row stands beside its name; nothing for a name that is not there
abbrev pub row_of : List (List ℕ) → List (List ClassId) → List ℕ → List ClassId
row_of [] rows name = []
row_of (n ∷ ns) [] name = []
row_of (n ∷ ns) (r ∷ rs) name = if bytes_eq name n then r else row_of ns rs name

-- the qualified names are those of the classes, and the rows hold the classes of each simple name
pub record IsIndex (classes : List ClassName) (qualified simple : List (List ℕ)) (rows : List (List ClassId)) : Type 0 where
  pub few : length classes ≤ 2 ^ 32
  pub names : qualified ≡ names_of classes
  pub beside : length rows ≡ length simple
  pub rows_are : (name : List ℕ) → row_of simple rows name ≡ simply_named classes name
