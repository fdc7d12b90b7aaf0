-- The rule of conditional expressions (JLS 15.25), by the facts of their parts.
use Rattle.std.specs.Prelude.{Bool, ◌&&◌, cond, Option, Some, None, ℤ}
use Rattle.rlc_base.specs.declared.place.Pos.{Pos}
use Rattle.program_model.specs.declared.kinds.VType.{VType}
use Rattle.program_model.specs.declared.program.Program.{Program}
use Rattle.java_conversions.specs.Types.{is_boolean}
use Rattle.java_conversions.specs.Conversions.{fits}
use Rattle.java_conversions.specs.Conditionals.{is_reference_conditional, standalone_conditional}
use Rattle.java_constants.specs.Folding.{folded_conditional}
use Rattle.java_typed_trees.specs.declared.facts.Facts.{Facts}
use Rattle.java_typed_trees.specs.declared.facts.Answer.{Answer}
use Rattle.java_typed_trees.specs.declared.shapes.Shape.TheVariants as shapes
use Rattle.java_typed_trees.specs.Answers.{mismatch, of_three, type_of}
use Rattle.java_operator_rules.specs.Operators.{constant_as}

-- two references that both suit the type which an assignment or invocation wants (JLS 15.25)
abbrev pub suit_context : Program → VType → VType → VType → Bool
suit_context p wanted a b = is_reference_conditional a b && (fits p a wanted && fits p b wanted)

-- the type that the context gives, where the operands suit it; else that which they have together. `wanted` is the type of
-- an assignment or invocation context
abbrev pub type_in_context : Program → Option VType → Option ℤ → VType → Option ℤ → VType → Option VType
type_in_context p None m a n b = standalone_conditional p m a n b
type_in_context p (Some wanted) m a n b = cond (suit_context p wanted a b) (Some wanted) (standalone_conditional p m a n b)

-- the first operand is a truth value, and the others have a type together
abbrev pub conditional_of : Pos → VType → Option VType → Option ℤ → Answer
conditional_of place condition t n = cond (is_boolean condition) (constant_as shapes.Conditional place t n) (mismatch place)

-- `c ? a : b` (JLS 15.25)
abbrev pub conditional_by : Program → Option VType → Pos → Facts → Facts → Facts → Answer
conditional_by p wanted place c a b = of_three place (type_of c) (type_of a) (type_of b) (λ r s t. conditional_of place r (type_in_context p wanted a.constant s b.constant t) (folded_conditional c.constant a.constant b.constant))
