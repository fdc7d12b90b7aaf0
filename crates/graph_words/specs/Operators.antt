-- The words of operators (JLS 3.12), of the types of their operands, and of the targets of calls.
use Rattle.std.specs.Prelude.{ℕ, List, ◌++◌, codes}
use Rattle.program_model.specs.declared.kinds.BinaryOperator.{BinaryOperator}
use Rattle.program_model.specs.declared.kinds.BinaryOperator.TheVariants as binary
use Rattle.program_model.specs.declared.kinds.OperandType.{OperandType}
use Rattle.program_model.specs.declared.kinds.OperandType.TheVariants as operands
use Rattle.program_model.specs.declared.kinds.UnaryOperator.{UnaryOperator}
use Rattle.program_model.specs.declared.kinds.UnaryOperator.TheVariants as unary
use Rattle.program_model.specs.declared.program.Program.{Program}
use Rattle.program_texts.specs.Texts.{field_text}
use Rattle.control_actions.specs.declared.action.Operator.{Operator}
use Rattle.control_actions.specs.declared.action.Operator.TheVariants as operators
use Rattle.control_actions.specs.declared.action.TargetForm.{TargetForm}
use Rattle.control_actions.specs.declared.action.TargetForm.TheVariants as forms
use Rattle.graph_words.specs.Names.{type_word}

abbrev pub binary_word : BinaryOperator → List ℕ
binary_word binary.Multiply = codes "*"
binary_word binary.Divide = codes "/"
binary_word binary.Remainder = codes "%"
binary_word binary.Add = codes "+"
binary_word binary.Subtract = codes "-"
binary_word binary.ShiftLeft = codes "<<"
binary_word binary.ShiftRight = codes ">>"
binary_word binary.ShiftRightUnsigned = codes ">>>"
binary_word binary.Less = codes "<"
binary_word binary.Greater = codes ">"
binary_word binary.LessOrEqual = codes "<="
binary_word binary.GreaterOrEqual = codes ">="
binary_word binary.Equal = codes "=="
binary_word binary.NotEqual = codes "!="
binary_word binary.And = codes "&"
binary_word binary.Xor = codes "^"
binary_word binary.Or = codes "|"
binary_word binary.ConditionalAnd = codes "&&"
binary_word binary.ConditionalOr = codes "||"

abbrev pub unary_word : UnaryOperator → List ℕ
unary_word unary.Plus = codes "+"
unary_word unary.Minus = codes "-"
unary_word unary.Complement = codes "~"
unary_word unary.Not = codes "!"

abbrev pub operand_word : OperandType → List ℕ
operand_word operands.Boolean = codes "boolean"
operand_word operands.Int = codes "int"
operand_word operands.Long = codes "long"
operand_word operands.Text = codes "String"
operand_word operands.Reference = codes "reference"

-- what an `Op` computes, with the type of its result where it has one
abbrev pub operator_word : Program → Operator → List ℕ
operator_word p (operators.Unary o t) = unary_word o ++ (codes " to " ++ type_word p t)
operator_word p (operators.Binary o k t) = operand_word k ++ (codes " " ++ (binary_word o ++ (codes " to " ++ type_word p t)))
operator_word p (operators.InstanceOf t) = codes "instanceof " ++ type_word p t
operator_word p (operators.Convert t) = codes "to " ++ type_word p t
operator_word p operators.Length = codes "length"
operator_word p operators.Element = codes "element"
operator_word p operators.StoreElement = codes "store element"
operator_word p (operators.StoreStatic f) = codes "store " ++ field_text p f
operator_word p (operators.NewArray t) = codes "new " ++ type_word p t

abbrev pub form_word : TargetForm → List ℕ
form_word forms.Static = codes "static"
form_word forms.This = codes "this"
form_word forms.Super = codes "super"
form_word forms.Other = codes "other"
