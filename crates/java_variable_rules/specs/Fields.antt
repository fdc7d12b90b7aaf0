-- Field accesses (JLS 15.11) and the lengths of arrays (JLS 10.7), by the typing of what stands before the dot.
use Rattle.std.specs.Prelude.{ℕ, Bool, cond, ◌&&◌, List, codes}
use Rattle.std.specs.Str.{bytes_eq}
use Rattle.rlc_base.specs.declared.place.Pos.{Pos}
use Rattle.program_model.specs.declared.kinds.ClassId.{ClassId}
use Rattle.program_model.specs.declared.kinds.VType.{VType}
use Rattle.program_model.specs.declared.kinds.VType.TheVariants as types
use Rattle.program_model.specs.Typing.{is_array}
use Rattle.java_typed_trees.specs.declared.facts.Answer.{Answer}
use Rattle.java_typed_trees.specs.declared.facts.Facts.{Facts}
use Rattle.java_typed_trees.specs.declared.scope.NameMeaning.{NameMeaning}
use Rattle.java_typed_trees.specs.declared.scope.NameMeaning.TheVariants as meanings
use Rattle.java_typed_trees.specs.Answers.{of_one, type_of}
use Rattle.java_typed_trees.specs.ExpressionTrees.{no_expression}
use Rattle.java_operator_rules.specs.Arrays.{length_at}
use Rattle.java_member_rules.specs.Fields.{class_field_by, field_access_by}
use Rattle.java_expression_parts.specs.CallParts.{with_implied_this}
use Rattle.java_variable_rules.specs.Names.{field_constant, field_meaning, identifier_by}
use Rattle.java_expression_parts.specs.Surroundings.{Surroundings}
use Rattle.java_expression_parts.specs.TypedParts.{Typing, one, operand, typing_by}

-- what the name means as a field of a value of the type: an array has its length alone, which is no field of a class
abbrev pub field_of_type : Surroundings → List ℕ → VType → NameMeaning
field_of_type s name (types.Primitive k) = meanings.NoVariable
field_of_type s name types.Str = field_meaning s name s.context.program.core.string
field_of_type s name (types.Arr k) = meanings.NoVariable
field_of_type s name (types.Obj c) = field_meaning s name c
field_of_type s name types.NullType = meanings.NoVariable

abbrev pub is_length : List ℕ → VType → Bool
is_length name t = is_array t && bytes_eq name (codes "length")

abbrev pub access_of : Surroundings → Pos → List ℕ → Facts → VType → Answer
access_of s place name e t = cond (is_length name t) (length_at place) (field_access_by s.context.program place (field_of_type s name t) e)

-- `e.f`
abbrev pub object_access : Surroundings → Pos → List ℕ → Facts → Answer
object_access s place name e = of_one place (type_of e) (access_of s place name e)

-- `C.f`
abbrev pub class_access : Surroundings → Pos → List ℕ → ClassId → Answer
class_access s place name c = class_field_by s.context.program place (field_constant s (field_meaning s name c)) (field_meaning s name c)

-- ---- typings

abbrev pub identifier_typing : Surroundings → Pos → List ℕ → Typing
identifier_typing s place name = typing_by (identifier_by s name place) (with_implied_this s place (identifier_by s name place) no_expression)

-- a field of a value, which is its part
abbrev pub object_access_typing : Surroundings → Pos → List ℕ → Typing → Typing
object_access_typing s place name t = typing_by (object_access s place name (operand t)) (one t.tree)

abbrev pub class_access_typing : Surroundings → Pos → List ℕ → ClassId → Typing
class_access_typing s place name c = typing_by (class_access s place name c) no_expression
