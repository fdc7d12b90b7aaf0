-- What the names in an expression mean: a variable of the body, a field or a class, in this order (JLS 6.4.2, 6.5.2).
use Rattle.std.specs.Prelude.{ℕ, ℤ, Option, Some, None, List, slice_get}
use Rattle.std.specs.Option.{option_flatten}
use Rattle.rlc_base.specs.declared.place.Pos.{Pos}
use Rattle.program_model.specs.declared.kinds.ClassId.{ClassId}
use Rattle.java_syntax.specs.ExpressionTrees as syntax
use Rattle.class_members.specs.declared.fields.FieldMember.{FieldMember}
use Rattle.class_members.specs.declared.fields.FieldMember.TheVariants as found
use Rattle.class_members.specs.Members.{field_named}
use Rattle.java_typed_trees.specs.declared.facts.Answer.{Answer}
use Rattle.java_typed_trees.specs.declared.scope.NameMeaning.{NameMeaning}
use Rattle.java_typed_trees.specs.declared.scope.NameMeaning.TheVariants as meanings
use Rattle.java_typed_trees.specs.Names.{meaning_of}
use Rattle.java_member_rules.specs.Names.{name_by}
use Rattle.java_expression_parts.specs.Surroundings.{Surroundings}
use Rattle.java_expression_parts.specs.WrittenTypes.{class_of_name}

-- ---- variables and fields

abbrev pub member_meaning : Option FieldMember → NameMeaning
member_meaning None = meanings.NoVariable
member_meaning (Some (found.Field f)) = meanings.Field f
member_meaning (Some (found.Constant m)) = meanings.LibraryConstant m

-- what the name means as a field of the class `c`
abbrev pub field_meaning : Surroundings → List ℕ → ClassId → NameMeaning
field_meaning s name c = member_meaning (field_named s.context.program s.context.class' c name)

-- what a simple name means as that of a variable: one of the body, else a field of the class (JLS 6.5.6.1)
abbrev pub name_meaning : Surroundings → List ℕ → NameMeaning
name_meaning s name = meaning_of s.context.locals name (field_meaning s name s.context.class')

-- the value of a field that is a constant variable (JLS 4.12.4)
abbrev pub field_constant : Surroundings → NameMeaning → Option ℤ
field_constant s (meanings.Variable x) = None
field_constant s (meanings.Field f) = option_flatten (slice_get s.constants f.0)
field_constant s (meanings.LibraryConstant m) = None
field_constant s meanings.NoVariable = None

-- an identifier as a value
abbrev pub identifier_by : Surroundings → List ℕ → Pos → Answer
identifier_by s name place = name_by s.context.program s.context.has_this place (field_constant s (name_meaning s name)) (name_meaning s name)

-- ---- classes

-- a variable of the name obscures the class (JLS 6.4.2)
abbrev pub class_unless_variable : Surroundings → List ℕ → NameMeaning → Option ClassId
class_unless_variable s name (meanings.Variable x) = None
class_unless_variable s name (meanings.Field f) = None
class_unless_variable s name (meanings.LibraryConstant m) = None
class_unless_variable s name meanings.NoVariable = class_of_name s name

abbrev pub identifier_in : syntax.ExprTree → Option (List ℕ)
identifier_in (syntax.Identifier name place) = Some name
identifier_in e = None

abbrev pub class_of_identifier : Surroundings → Option (List ℕ) → Option ClassId
class_of_identifier s None = None
class_of_identifier s (Some name) = class_unless_variable s name (name_meaning s name)

-- the class that stands before a dot: only an identifier that is no variable means one
abbrev pub class_meant : Surroundings → syntax.ExprTree → Option ClassId
class_meant s target = class_of_identifier s (identifier_in target)
