-- The variables that statements declare (JLS 4.12.3, 4.12.4, 6.3, 6.4, 14.4).
use Rattle.std.specs.Prelude.{ℕ, ℤ, Bool, true, false, cond, Option, Some, None, List, []}
use Rattle.std.specs.List.{list_any}
use Rattle.std.specs.Option.{is_some}
use Rattle.rlc_base.specs.declared.place.Pos.{Pos}
use Rattle.rlc_base.specs.declared.code.Code.TheVariants as codes_of
use Rattle.rlc_base.specs.declared.faults.Refusal.{Refusal}
use Rattle.program_model.specs.declared.kinds.VType.{VType}
use Rattle.program_model.specs.declared.kinds.VType.TheVariants as types
use Rattle.program_model.specs.declared.program.Program.{Program}
use Rattle.java_syntax.specs.AnnotationTrees.{ModifierTree}
use Rattle.java_syntax.specs.AnnotationTrees as modifiers
use Rattle.java_conversions.specs.Conversions.{is_assignable}
use Rattle.java_typed_trees.specs.declared.facts.Facts.{Facts}
use Rattle.java_typed_trees.specs.declared.facts.StaticType.{StaticType}
use Rattle.java_typed_trees.specs.declared.facts.StaticType.TheVariants as static_types
use Rattle.java_typed_trees.specs.declared.scope.Local.{Local}
use Rattle.java_typed_trees.specs.Answers.{refused, type_of}
use Rattle.java_typed_trees.specs.Names.{local_named}

abbrev pub is_final_word : ModifierTree → Bool
is_final_word (modifiers.Annotated a) = false
is_final_word modifiers.Public = false
is_final_word modifiers.Protected = false
is_final_word modifiers.Private = false
is_final_word modifiers.Static = false
is_final_word modifiers.Final = true
is_final_word modifiers.Abstract = false

-- `final` stands among the modifiers
abbrev pub has_final : List ModifierTree → Bool
has_final all = list_any is_final_word all

-- a variable whose type is refused has none, so that its uses are refused no further
abbrev pub declared_type : Option VType → StaticType
declared_type None = static_types.Erroneous
declared_type (Some t) = static_types.Value t

-- a variable of the body with this number. `is_final`: it is never assigned again (JLS 4.12.4)
abbrev pub local_variable : ℕ → List ℕ → Option VType → Bool → Option ℤ → Local
local_variable n name t is_final constant = record { name = name; variable = record { number = n; static_type = declared_type t; constant = constant; is_final = is_final } }

abbrev pub constant_of : Program → Option VType → Option VType → Option ℤ → Option ℤ
constant_of p (Some (types.Primitive k)) (Some from) constant = cond (is_assignable p constant from (types.Primitive k)) constant None
constant_of p t from constant = None

-- the value of a variable or field of the type that begins with this expression, where it is a constant variable: final, of a
-- primitive type and initialised with a constant expression (JLS 4.12.4)
abbrev pub constant_value : Program → Bool → Option VType → Facts → Option ℤ
constant_value p is_final t e = cond is_final (constant_of p t (type_of e) e.constant) None

-- no two variables of a body that are in scope at one place have one name (JLS 6.4)
abbrev pub double_cases : Pos → List Local → List ℕ → List Refusal
double_cases place locals name = cond (is_some (local_named locals name)) (refused codes_of.Mismatch place) []
