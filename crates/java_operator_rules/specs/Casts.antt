-- The rules of casts (JLS 15.16) and of `instanceof` (JLS 15.20.2), by the facts of the operand. The type that is written is
-- None where its name is refused.
use Rattle.std.specs.Prelude.{Bool, cond, Option, None, ℤ}
use Rattle.std.specs.Option.{option_map}
use Rattle.rlc_base.specs.declared.place.Pos.{Pos}
use Rattle.program_model.specs.declared.kinds.VType.{VType}
use Rattle.program_model.specs.declared.kinds.VType.TheVariants as types
use Rattle.program_model.specs.declared.program.Program.{Program}
use Rattle.program_model.specs.Typing.{boolean}
use Rattle.java_conversions.specs.declared.casts.Cast.{Cast}
use Rattle.java_conversions.specs.declared.casts.Cast.TheVariants as casts
use Rattle.java_conversions.specs.Casts.{cast_of, is_tested}
use Rattle.java_constants.specs.Arithmetic.{converted}
use Rattle.java_typed_trees.specs.declared.facts.Facts.{Facts}
use Rattle.java_typed_trees.specs.declared.facts.Answer.{Answer}
use Rattle.java_typed_trees.specs.declared.facts.Answer.TheVariants as answers
use Rattle.java_typed_trees.specs.declared.shapes.Shape.TheVariants as shapes
use Rattle.java_typed_trees.specs.Answers.{constant_at, mismatch, of_two, type_of, value_at}

-- a constant cast to the type, where that is primitive (JLS 15.29)
abbrev pub constant_cast : VType → Option ℤ → Option ℤ
constant_cast (types.Primitive k) n = option_map (converted k) n
constant_cast t n = None

abbrev pub cast_as : Pos → VType → Option ℤ → Cast → Answer
cast_as place t n casts.Primitive = answers.Is shapes.PrimitiveCast (constant_at place t (constant_cast t n))
cast_as place t n casts.Reference = answers.Is shapes.ReferenceCast (value_at place t)
cast_as place t n casts.Illegal = mismatch place

-- `(T) a`: a casting conversion exists from the operand's type to T (JLS 5.5)
abbrev pub cast_by : Program → Pos → Option VType → Facts → Answer
cast_by p place written a = of_two place written (type_of a) (λ to from. cast_as place to a.constant (cast_of p from to))

abbrev pub instance_of : Pos → VType → Bool → Answer
instance_of place tested is_legal = cond is_legal (answers.Is (shapes.InstanceOf tested) (value_at place boolean)) (mismatch place)

-- `a instanceof T`: both are references, and a cast of the operand to T is legal
abbrev pub instance_of_by : Program → Pos → Option VType → Facts → Answer
instance_of_by p place written a = of_two place written (type_of a) (λ tested t. instance_of place tested (is_tested p t tested))
