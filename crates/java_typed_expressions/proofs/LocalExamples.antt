-- What the definitions say of variables of a body.
use Rattle.std.proofs.Common.{◌≡◌, Bool, true, false, None, [], ◌∷◌, refl}
use Rattle.std.specs.Prelude.{codes}
use Rattle.rlc_base.specs.declared.place.Pos.{Pos}
use Rattle.rlc_base.specs.declared.code.Code.TheVariants as codes_of
use Rattle.program_model.specs.declared.kinds.Primitive.TheVariants as primitives
use Rattle.program_model.specs.declared.kinds.VType.TheVariants as types
use Rattle.java_syntax.specs.declared.operators.InfixOperator.TheVariants as infixes
use Rattle.java_syntax.specs.declared.operators.StepOperator.TheVariants as steps
use Rattle.java_syntax.specs.ExpressionTrees as syntax
use Rattle.java_typed_trees.specs.declared.facts.StaticType.{StaticType}
use Rattle.java_typed_trees.specs.declared.facts.StaticType.TheVariants as static_types
use Rattle.java_typed_trees.specs.declared.scope.Local.{Local}
use Rattle.java_typed_trees.specs.Answers.{refused}
use Rattle.java_typed_expressions.specs.Cases.{cases}
use Rattle.java_call_rules.specs.Surroundings.{Surroundings}

abbrev local_x : StaticType → Bool → Local
local_x t is_final = record { name = codes "x"; variable = record { number = 0; static_type = t; constant = None; is_final = is_final } }

-- where `x` is a variable of the type
abbrev beside_x : Surroundings → StaticType → Bool → Surroundings
beside_x s t is_final = record s { context = record s.context { locals = local_x t is_final ∷ [] } }

abbrev byte : StaticType
byte = static_types.Value (types.Primitive primitives.Byte)

abbrev x_at : Pos → syntax.ExprTree
x_at p = syntax.Identifier (codes "x") p

abbrev number : Pos → syntax.ExprTree
number p = syntax.Literal (codes "5") p

-- `x = 5` narrows the constant to a byte; a final variable is not assigned; of a variable without a type nothing is refused
pub narrowed : (s : Surroundings) (p q r : Pos) → cases (beside_x s byte false) None (syntax.Assignment (x_at p) (number q) r) ≡ []
narrowed s p q r = refl

pub final_assigned : (s : Surroundings) (p q r : Pos) → cases (beside_x s byte true) None (syntax.Assignment (x_at p) (number q) r) ≡ refused codes_of.Mismatch r
final_assigned s p q r = refl

pub unknown_assigned : (s : Surroundings) (p q r : Pos) → cases (beside_x s static_types.Erroneous false) None (syntax.Assignment (x_at p) (number q) r) ≡ []
unknown_assigned s p q r = refl

-- `x += 5`, `x++` and `++x`
pub compound : (s : Surroundings) (p q r : Pos) → cases (beside_x s byte false) None (syntax.CompoundAssignment infixes.Add (x_at p) (number q) r) ≡ []
compound s p q r = refl

pub final_compound : (s : Surroundings) (p q r : Pos) → cases (beside_x s byte true) None (syntax.CompoundAssignment infixes.Add (x_at p) (number q) r) ≡ refused codes_of.Mismatch r
final_compound s p q r = refl

pub postfix_step : (s : Surroundings) (p r : Pos) → cases (beside_x s byte false) None (syntax.PostfixStep steps.Decrement (x_at p) r) ≡ []
postfix_step s p r = refl

pub final_prefix_step : (s : Surroundings) (p r : Pos) → cases (beside_x s byte true) None (syntax.PrefixStep steps.Increment (x_at p) r) ≡ refused codes_of.Mismatch r
final_prefix_step s p r = refl

-- `x.f`, where `x` is a byte
pub field_of_byte : (s : Surroundings) (p r : Pos) → cases (beside_x s byte false) None (syntax.FieldAccess (x_at p) (codes "f") r) ≡ refused codes_of.NoSuchName r
field_of_byte s p r = refl
