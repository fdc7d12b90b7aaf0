-- Keys of members: two members of a class are double where their keys are equal.
use Rattle.std.specs.Prelude.{ℕ, Bool, Option, Some, None, List, [], ◌∷◌, ◌++◌, map, flat_map}
use Rattle.std.specs.Str.{bytes_eq}
use Rattle.rlc_base.specs.declared.code.Code.TheVariants as refused
use Rattle.rlc_base.specs.declared.faults.Refusal.{Refusal}
use Rattle.rlc_base.specs.declared.place.Pos.{Pos}
use Rattle.java_syntax.specs.declared.declaration_trees.Param.{Param}
use Rattle.java_syntax.specs.declared.names.Name.{Name}
use Rattle.program_model.specs.declared.kinds.VType.{VType}
use Rattle.program_model.specs.declared.kinds.VType.TheVariants as types
use Rattle.program_model.specs.Overrides.{element_number, primitive_number}
use Rattle.refusal_order.specs.Refusals.{refused_at}
use Rattle.class_names.specs.declared.class_name.ClassName.{ClassName}
use Rattle.class_names.specs.Meanings.{CompilationUnit}
use Rattle.class_names.specs.WrittenTypes.{written_type}
use Rattle.class_declarations.specs.Members.{Written, name_of, parameters_of, pos_of}
use Rattle.class_checks.specs.declared.keys.MemberKey.{MemberKey}
use Rattle.class_checks.specs.DoubleMembers.{repeats}

-- a member by its key, with the place of its name
pub record Keyed : Type 0 where
  pub key : List ℕ
  pub pos : Pos

abbrev pub keyed_of : MemberKey → Keyed
keyed_of k = record { key = k.key.items; pos = k.pos }

abbrev pub has_one_key : Keyed → Keyed → Bool
has_one_key x y = bytes_eq x.key y.key

abbrev pub refused_key : Keyed → Refusal
refused_key k = refused_at refused.DoubleMember k.pos

-- those with the key of an earlier one, where these stand before the list
abbrev pub double_keys : List Keyed → List Keyed → List Refusal
double_keys before all = map refused_key (repeats has_one_key before all)

-- ---- fields

abbrev pub keyed_field : Name → Keyed
keyed_field n = record { key = n.text; pos = n.pos }

-- ---- methods and constructors

-- two numbers for a type, which differ from those of other types
abbrev pub type_code : Option VType → List ℕ
type_code None = 1 ∷ 0 ∷ []
type_code (Some (types.Primitive t)) = 2 ∷ primitive_number t ∷ []
type_code (Some types.Str) = 3 ∷ 0 ∷ []
type_code (Some (types.Arr t)) = 4 ∷ element_number t ∷ []
type_code (Some (types.Obj c)) = 5 ∷ c.0 ∷ []
type_code (Some types.NullType) = 6 ∷ 0 ∷ []

abbrev pub parameter_code : List ClassName → CompilationUnit → Param → List ℕ
parameter_code classes u x = type_code (written_type classes u x.typ)

abbrev pub parameter_codes : List ClassName → CompilationUnit → List Param → List ℕ
parameter_codes classes u xs = flat_map (parameter_code classes u) xs

-- the types of the parameters, a 0, which begins no type, and the name
abbrev pub signature_key : List ClassName → CompilationUnit → Written → List ℕ
signature_key classes u w = parameter_codes classes u (parameters_of w) ++ 0 ∷ name_of w

abbrev pub keyed_method : List ClassName → CompilationUnit → Written → Keyed
keyed_method classes u w = record { key = signature_key classes u w; pos = pos_of w }
