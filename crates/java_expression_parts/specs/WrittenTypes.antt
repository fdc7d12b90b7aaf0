-- The classes and the types that are written in a body (JLS 6.5.5). A class has a simple name there, but behind `new` and in casts.
use Rattle.std.specs.Prelude.{ℕ, Bool, true, false, cond, Option, Some, None, List, []}
use Rattle.std.specs.Option.{is_some}
use Rattle.rlc_base.specs.declared.place.Pos.{Pos}
use Rattle.rlc_base.specs.declared.code.Code.TheVariants as codes_of
use Rattle.rlc_base.specs.declared.faults.Refusal.{Refusal}
use Rattle.program_model.specs.declared.kinds.ClassId.{ClassId}
use Rattle.program_model.specs.declared.kinds.VType.{VType}
use Rattle.program_model.specs.declared.kinds.VType.TheVariants as types
use Rattle.java_syntax.specs.declared.names.Typ.{Typ}
use Rattle.java_syntax.specs.declared.names.TypeName.{TypeName}
use Rattle.java_syntax.specs.declared.names.TypeName.TheVariants as written_names
use Rattle.class_names.specs.declared.meaning.Meaning.{Meaning}
use Rattle.class_names.specs.declared.meaning.Meaning.TheVariants.{Named, NoClass, TwoClasses}
use Rattle.class_names.specs.Meanings as class_meanings
use Rattle.class_names.specs.WrittenTypes.{written_type}
use Rattle.java_typed_trees.specs.Answers.{refused}
use Rattle.java_expression_parts.specs.Surroundings.{Surroundings}

-- ---- classes

abbrev pub class_in : Meaning → Option ClassId
class_in (Named c) = Some c
class_in NoClass = None
class_in TwoClasses = None

-- the class that the name means in the compilation unit: none where no class has it, or two on the level that decides
abbrev pub class_of_name : Surroundings → List ℕ → Option ClassId
class_of_name s name = class_in (class_meanings.meaning_of s.classes s.unit name)

-- the refusal of a name of a class that means none
abbrev pub unknown_name_cases : Bool → Pos → List Refusal
unknown_name_cases true place = []
unknown_name_cases false place = refused codes_of.NoSuchName place

-- ---- types

-- the type of a cast; none where its name is refused, or it is an array over a class other than String
abbrev pub cast_type : Surroundings → Typ → Option VType
cast_type s t = written_type s.classes s.unit t

abbrev pub is_qualified : TypeName → Bool
is_qualified (written_names.Primitive k) = false
is_qualified (written_names.Named name) = class_meanings.has_dot name

-- the type behind `instanceof`: the subset has no qualified name there
abbrev pub tested_type : Surroundings → Typ → Option VType
tested_type s t = cond (is_qualified t.name) None (written_type s.classes s.unit t)

-- an array may be over the type
abbrev pub may_be_element : VType → Bool
may_be_element (types.Primitive k) = true
may_be_element types.Str = true
may_be_element (types.Arr k) = false
may_be_element (types.Obj c) = false
may_be_element types.NullType = false

abbrev pub if_element : Option VType → Option VType
if_element None = None
if_element (Some t) = cond (may_be_element t) (Some t) None

-- the type of a new array's elements; none where its name is refused, or it is a class other than String
abbrev pub element_type : Surroundings → Typ → Option VType
element_type s t = if_element (written_type s.classes s.unit t)

-- the refusal of a written type that is none
abbrev pub type_cases : Option VType → Typ → List Refusal
type_cases t name = unknown_name_cases (is_some t) name.pos
