-- Types as they are written (JLS 4.1), outside of expressions and in them.
use Rattle.std.specs.Prelude.{Bool, true, false, if◌then◌else◌, Option, Some, None, List, codes}
use Rattle.std.specs.Str.{bytes_eq}
use Rattle.java_syntax.specs.declared.names.Typ.{Typ}
use Rattle.java_syntax.specs.declared.names.TypeName.{TypeName}
use Rattle.java_syntax.specs.declared.names.TypeName.TheVariants as names
use Rattle.java_syntax.specs.declared.names.PrimitiveName.{PrimitiveName}
use Rattle.java_syntax.specs.declared.names.PrimitiveName.TheVariants as words
use Rattle.program_model.specs.declared.kinds.ClassId.{ClassId}
use Rattle.program_model.specs.declared.kinds.Primitive.{Primitive}
use Rattle.program_model.specs.declared.kinds.Primitive.TheVariants as primitives
use Rattle.program_model.specs.declared.kinds.ElementType.TheVariants as elements
use Rattle.program_model.specs.declared.kinds.VType.{VType}
use Rattle.program_model.specs.declared.kinds.VType.TheVariants as types
use Rattle.class_names.specs.declared.class_name.ClassName.{ClassName}
use Rattle.class_names.specs.declared.meaning.Meaning.{Meaning}
use Rattle.class_names.specs.declared.meaning.Meaning.TheVariants.{Named, NoClass, TwoClasses}
use Rattle.class_names.specs.ClassNames.{class_at, name_of_class}
use Rattle.class_names.specs.Meanings.{CompilationUnit, has, meaning_of}

abbrev pub primitive_of : PrimitiveName → Primitive
primitive_of words.Boolean = primitives.Boolean
primitive_of words.Byte = primitives.Byte
primitive_of words.Char = primitives.Char
primitive_of words.Int = primitives.Int
primitive_of words.Long = primitives.Long

-- the class is `java.lang.String`
abbrev pub is_string : ClassName → Bool
is_string k = bytes_eq (name_of_class k) (codes "java.lang.String")

abbrev pub primitive_type : Primitive → Bool → VType
primitive_type p true = types.Arr (elements.Primitive p)
primitive_type p false = types.Primitive p

abbrev pub string_type : Bool → VType
string_type true = types.Arr elements.Str
string_type false = types.Str

-- of the arrays of classes the subset has those of strings
abbrev pub class_type : ClassId → Bool → Option VType
class_type c true = None
class_type c false = Some (types.Obj c)

abbrev pub type_of_class : List ClassName → ClassId → Bool → Option VType
type_of_class classes c is_array = if has is_string (class_at classes c) then Some (string_type is_array) else class_type c is_array

abbrev pub type_of_meaning : List ClassName → Meaning → Bool → Option VType
type_of_meaning classes (Named c) is_array = type_of_class classes c is_array
type_of_meaning classes NoClass is_array = None
type_of_meaning classes TwoClasses is_array = None

abbrev pub type_of_name : List ClassName → CompilationUnit → TypeName → Bool → Option VType
type_of_name classes u (names.Primitive p) is_array = Some (primitive_type (primitive_of p) is_array)
type_of_name classes u (names.Named name) is_array = type_of_meaning classes (meaning_of classes u name) is_array

-- the type that is written, or none where its name means no class or two, or is an array over another class than String
abbrev pub written_type : List ClassName → CompilationUnit → Typ → Option VType
written_type classes u t = type_of_name classes u t.name t.is_array
