-- The exceptions that operators throw.
use Rattle.std.proofs.Common.{◌≡◌, ℕ, Bool, true, false, not, Option, Some, None, List, subst, if◌then◌else◌, pos, arith}
use Rattle.std.specs.Prelude.{int_lt}
use Rattle.std.specs.Ordering.{int_eq}
use Rattle.program_model.specs.declared.kinds.BinaryOperator.{BinaryOperator}
use Rattle.program_model.specs.declared.kinds.BinaryOperator.TheVariants as binary
use Rattle.program_model.specs.declared.kinds.ClassId.{ClassId}
use Rattle.program_model.specs.declared.program.Program.{Program}
use Rattle.agreement.specs.LibraryClasses.{ThrowsMadeClasses}
use Rattle.agreement.specs.PlainForms.{may_be_made}
use Rattle.control_actions.specs.declared.action.Action.{Action}
use Rattle.control_actions.specs.declared.action.Action.TheVariants as actions
use Rattle.control_actions.specs.declared.action.Operator.{Operator}
use Rattle.control_actions.specs.declared.action.Operator.TheVariants as operators
use Rattle.ledger_state.specs.Classes.{array_length}
use Rattle.ledger_state.specs.Contents.{HeapContents}
use Rattle.ledger_state.specs.Locals.{temp_value}
use Rattle.ledger_state.specs.Values.{is_null, number_in}
use Rattle.ledger_state.specs.declared.array.ArrayObject.{ArrayObject}
use Rattle.ledger_state.specs.declared.locals.Locals.{Locals}
use Rattle.ledger_state.specs.declared.value.Value.{Value}
use Rattle.agreement.specs.Operations.{is_cast_refused, is_index, operand, thrown_by_index, thrown_by_number, thrown_by_operation, thrown_by_operator, thrown_where}

module _ (p : Program) (made : ThrowsMadeClasses p) where
  abbrev ThrowsMade : Option ClassId → Type 0
  ThrowsMade o = (e : ClassId) → o ≡ Some e → may_be_made p e ≡ true

  of_none : ThrowsMade None
  of_none e is = absurd (let never : None ≡ Some e = is in cc)

  of_some : (c : ClassId) → may_be_made p c ≡ true → ThrowsMade (Some c)
  of_some c made' e is = subst (λ (k : ClassId). may_be_made p k ≡ true) (let same : c ≡ e = cc in same) made'

  of_where : (b : Bool) (c : ClassId) → may_be_made p c ≡ true → ThrowsMade (thrown_where b c)
  of_where true c made' = of_some c made'
  of_where false c made' = of_none

  arithmetic : may_be_made p p.core.arithmetic_exception ≡ true
  arithmetic = made 2 p.core.object (omega arith)

  array_index : may_be_made p p.core.array_index_exception ≡ true
  array_index = made 3 p.core.object (omega arith)

  class_cast : may_be_made p p.core.class_cast_exception ≡ true
  class_cast = made 4 p.core.object (omega arith)

  negative_array_size : may_be_made p p.core.negative_array_size_exception ≡ true
  negative_array_size = made 5 p.core.object (omega arith)

  null_pointer : may_be_made p p.core.null_pointer_exception ≡ true
  null_pointer = made 6 p.core.object (omega arith)

  by_number : (o : BinaryOperator) (v : Value) → ThrowsMade (thrown_by_number p o v)
  by_number binary.Divide v = of_where (int_eq (number_in v) (pos 0)) p.core.arithmetic_exception arithmetic
  by_number binary.Remainder v = of_where (int_eq (number_in v) (pos 0)) p.core.arithmetic_exception arithmetic
  by_number o v = of_none

  by_index : (arrays : List ArrayObject) (a i : Value) → ThrowsMade (thrown_by_index p arrays a i)
  by_index arrays a i = go (is_null a)
    where
      go : (b : Bool) → ThrowsMade (if b then Some p.core.null_pointer_exception else thrown_where (not (is_index (number_in i) (array_length arrays a))) p.core.array_index_exception)
      go true = of_some p.core.null_pointer_exception null_pointer
      go false = of_where (not (is_index (number_in i) (array_length arrays a))) p.core.array_index_exception array_index

  by_operator : (arrays : List ArrayObject) (l : Locals) (k : Operator) (d : ℕ) → ThrowsMade (thrown_by_operator p arrays l k d)
  by_operator arrays l (operators.Binary o t r) d = by_number o (operand l d 1)
  by_operator arrays l operators.Element d = by_index arrays (operand l d 0) (operand l d 1)
  by_operator arrays l operators.StoreElement d = by_index arrays (operand l d 0) (operand l d 1)
  by_operator arrays l operators.Length d = of_where (is_null (operand l d 0)) p.core.null_pointer_exception null_pointer
  by_operator arrays l (operators.NewArray t) d = of_where (int_lt (number_in (operand l d 0)) (pos 0)) p.core.negative_array_size_exception negative_array_size
  by_operator arrays l k d = of_none

  by_operation : (h : HeapContents) (arrays : List ArrayObject) (l : Locals) (a : Action) → ThrowsMade (thrown_by_operation p h arrays l a)
  by_operation h arrays l (actions.Op k d n) = by_operator arrays l k d
  by_operation h arrays l (actions.Get f d this) = of_where (is_null (temp_value l d)) p.core.null_pointer_exception null_pointer
  by_operation h arrays l (actions.Put f d this) = of_where (is_null (temp_value l d)) p.core.null_pointer_exception null_pointer
  by_operation h arrays l (actions.Cast t d) = of_where (is_cast_refused p h arrays t (temp_value l d)) p.core.class_cast_exception class_cast
  by_operation h arrays l (actions.Raise d s) = of_where (is_null (temp_value l d)) p.core.null_pointer_exception null_pointer
  by_operation h arrays l actions.Skip = of_none
  by_operation h arrays l a = of_none

pub null_pointer_class : (p : Program) → ThrowsMadeClasses p → may_be_made p p.core.null_pointer_exception ≡ true
null_pointer_class = null_pointer

pub operations_throw_made_classes : (p : Program) → ThrowsMadeClasses p → (h : HeapContents) (arrays : List ArrayObject) (l : Locals) (a : Action) (e : ClassId)
    → thrown_by_operation p h arrays l a ≡ Some e → may_be_made p e ≡ true
operations_throw_made_classes p made h arrays l a e is = by_operation p made h arrays l a e is
