-- The rules of `this` (JLS 15.8.3) and of a variable's or field's simple name (JLS 6.5.6.1).
use Rattle.std.specs.Prelude.{Bool, true, false, cond, Option, Some, None, ℤ}
use Rattle.rlc_base.specs.declared.place.Pos.{Pos}
use Rattle.rlc_base.specs.declared.code.Code.TheVariants as codes_of
use Rattle.program_model.specs.declared.kinds.ClassId.{ClassId}
use Rattle.program_model.specs.declared.kinds.FieldId.{FieldId}
use Rattle.program_model.specs.declared.kinds.MethodId.{MethodId}
use Rattle.program_model.specs.declared.kinds.VType.{VType}
use Rattle.program_model.specs.declared.kinds.VType.TheVariants as types
use Rattle.program_model.specs.declared.program.Program.{Program}
use Rattle.program_model.specs.declared.program.Field.{Field}
use Rattle.program_model.specs.declared.program.Method.{Method}
use Rattle.program_model.specs.Lookups.{field_at, method_at}
use Rattle.java_typed_trees.specs.declared.facts.Answer.{Answer}
use Rattle.java_typed_trees.specs.declared.facts.Answer.TheVariants as answers
use Rattle.java_typed_trees.specs.declared.shapes.Shape.TheVariants as shapes
use Rattle.java_typed_trees.specs.declared.scope.Variable.{Variable}
use Rattle.java_typed_trees.specs.declared.scope.NameMeaning.{NameMeaning}
use Rattle.java_typed_trees.specs.declared.scope.NameMeaning.TheVariants as meanings
use Rattle.java_typed_trees.specs.Answers.{constant_at, mismatch, type_in, typed_as, value_at}
use Rattle.java_typed_trees.specs.ExpressionTrees.{ExprTree, Node, no_expression}

-- `this`, of the type of the class: not in a static method, nor in the arguments of a super call
abbrev pub this_by : Bool → ClassId → Pos → Answer
this_by has_this c place = cond has_this (answers.Is (shapes.This true) (value_at place (types.Obj c))) (mismatch place)

-- the implied `this` of a member that a simple name means
abbrev pub implied_this : ClassId → Pos → ExprTree
implied_this c place = Node (shapes.This false) (Some (types.Obj c)) place no_expression

abbrev pub no_such_name : Pos → Answer
no_such_name place = answers.Wrong codes_of.NoSuchName place

abbrev pub variable_of : Pos → Variable → Option VType → Answer
variable_of place x None = answers.Silent place
variable_of place x (Some t) = answers.Is (shapes.Local x.number) (constant_at place t x.constant)

-- a variable of the body, with its value where it is constant (JLS 4.12.4)
abbrev pub variable_by : Pos → Variable → Answer
variable_by place x = variable_of place x (type_in x.static_type)

abbrev pub result_in : Option Method → Option VType
result_in None = None
result_in (Some m) = m.sig.result

-- a static final field of class type of a stub
abbrev pub library_constant_by : Program → Pos → MethodId → Answer
library_constant_by p place m = typed_as (shapes.LibraryConstant m) place (result_in (method_at p m))

-- an instance field of `this`; there must be one (JLS 15.11, 8.3.1.1)
abbrev pub own_field : Bool → Pos → Option ℤ → FieldId → VType → Answer
own_field has_this place n f t = cond has_this (answers.Is (shapes.Field f) (constant_at place t n)) (mismatch place)

-- a field by its simple name, which is a constant variable where it has a value
abbrev pub field_of : Bool → Pos → Option ℤ → FieldId → Option Field → Answer
field_of has_this place n f None = no_such_name place
field_of has_this place n f (Some x) = cond x.is_static (answers.Is (shapes.StaticField f) (constant_at place x.vtype n)) (own_field has_this place n f x.vtype)

-- a simple name of this meaning, as a value. `n` is the value of the field where that is a constant variable (JLS 4.12.4)
abbrev pub name_by : Program → Bool → Pos → Option ℤ → NameMeaning → Answer
name_by p has_this place n (meanings.Variable x) = variable_by place x
name_by p has_this place n (meanings.Field f) = field_of has_this place n f (field_at p f)
name_by p has_this place n (meanings.LibraryConstant m) = library_constant_by p place m
name_by p has_this place n meanings.NoVariable = no_such_name place
