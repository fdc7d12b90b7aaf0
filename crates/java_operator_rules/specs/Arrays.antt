-- The rules of array creations (JLS 15.10.1), elements (JLS 15.10.3) and lengths (JLS 10.7), by the facts of their parts.
use Rattle.std.specs.Prelude.{cond, Option, Some, None}
use Rattle.rlc_base.specs.declared.place.Pos.{Pos}
use Rattle.program_model.specs.declared.kinds.ElementType.TheVariants as elements
use Rattle.program_model.specs.declared.kinds.VType.{VType}
use Rattle.program_model.specs.declared.kinds.VType.TheVariants as types
use Rattle.program_model.specs.Typing.{element_type, int}
use Rattle.java_conversions.specs.Types.{is_index}
use Rattle.java_typed_trees.specs.declared.facts.Facts.{Facts}
use Rattle.java_typed_trees.specs.declared.facts.Answer.{Answer}
use Rattle.java_typed_trees.specs.declared.facts.Answer.TheVariants as answers
use Rattle.java_typed_trees.specs.declared.shapes.Shape.TheVariants as shapes
use Rattle.java_typed_trees.specs.Answers.{mismatch, of_two, type_of, value_at}

-- the type of arrays of the type: the subset has those of primitive types and of strings
abbrev pub array_of : VType → Option VType
array_of (types.Primitive k) = Some (types.Arr (elements.Primitive k))
array_of types.Str = Some (types.Arr elements.Str)
array_of (types.Arr k) = None
array_of (types.Obj c) = None
array_of types.NullType = None

abbrev pub new_array_of : Pos → VType → Option VType → Answer
new_array_of place size None = mismatch place
new_array_of place size (Some t) = cond (is_index size) (answers.Is shapes.NewArray (value_at place t)) (mismatch place)

-- `new T[a]`: the size is promoted to `int` (JLS 15.10.1). The element type is None where its name is refused
abbrev pub new_array_by : Pos → Option VType → Facts → Answer
new_array_by place element a = of_two place element (type_of a) (λ t size. new_array_of place size (array_of t))

abbrev pub element_of : Pos → VType → VType → Answer
element_of place (types.Arr k) index = cond (is_index index) (answers.Is shapes.Element (value_at place (element_type k))) (mismatch place)
element_of place t index = mismatch place

-- `a[i]`: an array, and an index that is promoted to `int` (JLS 15.10.3)
abbrev pub element_by : Pos → Facts → Facts → Answer
element_by place a i = of_two place (type_of a) (type_of i) (element_of place)

-- `a.length` of an array (JLS 10.7)
abbrev pub length_at : Pos → Answer
length_at place = answers.Is shapes.Length (value_at place int)
