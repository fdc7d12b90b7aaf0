-- The derived `==` on cells is equality.
use Rattle.std.proofs.Common.{◌≡◌, refl, true, rules}
use Rattle.control_actions.specs.declared.action.Action.{Action}
use Rattle.control_actions.specs.declared.action.Action.TheVariants as actions
use Rattle.control_actions.specs.declared.action.Completion.{Completion}
use Rattle.control_actions.specs.declared.action.Completion.TheVariants as completions
use Rattle.control_actions.specs.declared.action.Operator.{Operator}
use Rattle.control_actions.specs.declared.action.Operator.TheVariants as operators
use Rattle.control_actions.specs.declared.action.PlainValue.{PlainValue}
use Rattle.control_actions.specs.declared.action.PlainValue.TheVariants as plain
use Rattle.control_actions.specs.declared.action.Scope.{Scope}
use Rattle.control_actions.specs.declared.action.Scope.TheVariants as scopes
use Rattle.control_actions.specs.declared.item.Item.{Item}
use Rattle.control_actions.specs.declared.item.Item.TheVariants as items
use Rattle.control_actions.specs.declared.item.Closing.{Closing}
use Rattle.control_actions.specs.declared.item.Condition.{Condition}
use Rattle.control_actions.specs.declared.item.Condition.TheVariants as conditions
use Rattle.control_actions.specs.declared.cell.Cell.{Cell}
use Rattle.control_actions.specs.declared.action.ClauseId.{ClauseId}
use Rattle.control_actions.specs.contracts.action.ClauseIdPartialEq.TheImpl as clause_eq
use Rattle.control_actions.specs.contracts.action.ActionPartialEq.TheImpl as action_eq
use Rattle.control_actions.specs.contracts.action.CompletionPartialEq.TheImpl as completion_eq
use Rattle.control_actions.specs.contracts.action.OperatorPartialEq.TheImpl as operator_eq
use Rattle.control_actions.specs.contracts.action.PlainValuePartialEq.TheImpl as plain_eq
use Rattle.control_actions.specs.contracts.action.ScopePartialEq.TheImpl as scope_eq
use Rattle.control_actions.specs.contracts.item.ItemPartialEq.TheImpl as item_eq
use Rattle.control_actions.specs.contracts.item.ClosingPartialEq.TheImpl as closing_eq
use Rattle.control_actions.specs.contracts.item.ConditionPartialEq.TheImpl as condition_eq
use Rattle.control_actions.specs.contracts.cell.CellPartialEq.TheImpl as cell_eq
use denote.Enum.Bare.{same_true}
use Rattle.program_model.specs.declared.kinds.UnaryOperator.{UnaryOperator}
use Rattle.program_model.specs.declared.kinds.BinaryOperator.{BinaryOperator}
use Rattle.program_model.specs.declared.kinds.OperandType.{OperandType}
use Rattle.std.specs.Prelude.{◌&&◌, ◌==◌}
use Rattle.std.proofs.lemmas.Bool.{eqb-true, false≢true}
use Rattle.rlc_base.specs.declared.place.Pos.{Pos}
use Rattle.rlc_base.specs.contracts.place.PosPartialEq.TheImpl as pos_eq
use Rattle.program_model.specs.declared.kinds.MethodId.{MethodId}
use Rattle.program_model.specs.contracts.kinds.MethodIdPartialEq.TheImpl as method_eq
use Rattle.program_model.specs.declared.kinds.StmtId.{StmtId}
use Rattle.program_model.specs.contracts.kinds.StmtIdPartialEq.TheImpl as stmt_eq
use Rattle.std.proofs.lemmas.Bool.{and_parts}
use Rattle.program_model.specs.declared.kinds.VType.{VType}
use Rattle.program_model.specs.declared.kinds.VType.TheVariants as types
use Rattle.program_model.specs.contracts.kinds.VTypePartialEq.TheImpl as vtype_eq
use Rattle.program_model.specs.contracts.kinds.UnaryOperator as unary_type
use Rattle.program_model.specs.contracts.kinds.BinaryOperator as binary_type
use Rattle.program_model.specs.contracts.kinds.OperandType as operand_type
use Rattle.program_model.specs.contracts.kinds.UnaryOperatorPartialEq.TheImpl as unary_eq
use Rattle.program_model.specs.contracts.kinds.BinaryOperatorPartialEq.TheImpl as binary_eq
use Rattle.program_model.specs.contracts.kinds.OperandTypePartialEq.TheImpl as operand_eq
use Rattle.control_actions.specs.declared.action.TargetForm.{TargetForm}
use Rattle.control_actions.specs.contracts.action.TargetForm as form_type
use Rattle.control_actions.specs.contracts.action.TargetFormPartialEq.TheImpl as form_eq
use Rattle.control_actions.specs.declared.place.Place.{Place}
use Rattle.control_actions.specs.declared.place.Place.TheVariants as places
use Rattle.control_actions.specs.contracts.place.PlacePartialEq.TheImpl as place_eq

pub exact_pos : (a b : Pos) → (pos_eq.ghosts).eq a b ≡ true → a ≡ b
exact_pos a b h = search rules

pub exact_method : (a b : MethodId) → (method_eq.ghosts).eq a b ≡ true → a ≡ b
exact_method a b h = search rules

pub exact_stmt : (a b : StmtId) → (stmt_eq.ghosts).eq a b ≡ true → a ≡ b
exact_stmt a b h = search rules

pub exact_vtype : (a b : VType) → (vtype_eq.ghosts).eq a b ≡ true → a ≡ b
exact_vtype (types.Primitive a) (types.Primitive b) h = search rules
exact_vtype (types.Arr a) (types.Arr b) h = search rules
exact_vtype (types.Obj a) (types.Obj b) h = search rules
exact_vtype types.Str types.Str h = refl
exact_vtype types.NullType types.NullType h = refl
exact_vtype a b h = absurd (false≢true h)

pub exact_unary : (a b : UnaryOperator) → (unary_eq.ghosts).eq a b ≡ true → a ≡ b
exact_unary a b h = same_true unary_type.the_type (search rules) a b h

pub exact_binary : (a b : BinaryOperator) → (binary_eq.ghosts).eq a b ≡ true → a ≡ b
exact_binary a b h = same_true binary_type.the_type (search rules) a b h

pub exact_operands : (a b : OperandType) → (operand_eq.ghosts).eq a b ≡ true → a ≡ b
exact_operands a b h = same_true operand_type.the_type (search rules) a b h

pub exact_form : (a b : TargetForm) → (form_eq.ghosts).eq a b ≡ true → a ≡ b
exact_form a b h = same_true form_type.the_type (search rules) a b h

pub exact_place : (a b : Place) → (place_eq.ghosts).eq a b ≡ true → a ≡ b
exact_place (places.Var a) (places.Var b) h = search rules
exact_place (places.Field a) (places.Field b) h = search rules
exact_place (places.Temp a) (places.Temp b) h = search rules
exact_place places.This places.This h = refl
exact_place places.Super places.Super h = refl
exact_place a b h = absurd (false≢true h)

pub exact_completion : (a b : Completion) → (completion_eq.ghosts).eq a b ≡ true → a ≡ b
exact_completion (completions.Break a) (completions.Break a') h = search rules
exact_completion (completions.Continue a) (completions.Continue a') h = search rules
exact_completion (completions.Return a) (completions.Return a') h = search rules
exact_completion (completions.ReturnValue a b) (completions.ReturnValue a' b') h = search rules
exact_completion (completions.Throw a b c) (completions.Throw a' b' c') h = search rules
exact_completion a b h = absurd (false≢true h)

pub exact_scope : (a b : Scope) → (scope_eq.ghosts).eq a b ≡ true → a ≡ b
exact_scope (scopes.Declared a) (scopes.Declared a') h = search rules
exact_scope (scopes.Variable a) (scopes.Variable a') h = search rules
exact_scope (scopes.Temp a) (scopes.Temp a') h = search rules
exact_scope (scopes.TempsAbove a) (scopes.TempsAbove a') h = search rules
exact_scope a b h = absurd (false≢true h)

pub exact_clause : (a b : ClauseId) → (clause_eq.ghosts).eq a b ≡ true → a ≡ b
exact_clause a b h = search rules

pub exact_plain : (a b : PlainValue) → (plain_eq.ghosts).eq a b ≡ true → a ≡ b
exact_plain (plain.Literal a) (plain.Literal a') h = search rules
exact_plain (plain.Default a) (plain.Default a') h = search rules
exact_plain (plain.StaticField a) (plain.StaticField a') h = search rules
exact_plain (plain.LibraryConstant a) (plain.LibraryConstant a') h = search rules
exact_plain a b h = absurd (false≢true h)

pub exact_operator : (a b : Operator) → (operator_eq.ghosts).eq a b ≡ true → a ≡ b
exact_operator (operators.Unary a b) (operators.Unary a' b') h = let part0 = and_parts ((unary_eq.ghosts).eq a a') ((vtype_eq.ghosts).eq b b') h in (λ i. operators.Unary (exact_unary a a' part0.0 i) (exact_vtype b b' part0.1 i))
exact_operator (operators.Binary a b c) (operators.Binary a' b' c') h = let part0 = and_parts ((binary_eq.ghosts).eq a a') ((operand_eq.ghosts).eq b b' && ((vtype_eq.ghosts).eq c c')) h in let part1 = and_parts ((operand_eq.ghosts).eq b b') ((vtype_eq.ghosts).eq c c') part0.1 in (λ i. operators.Binary (exact_binary a a' part0.0 i) (exact_operands b b' part1.0 i) (exact_vtype c c' part1.1 i))
exact_operator (operators.InstanceOf a) (operators.InstanceOf a') h = (λ i. operators.InstanceOf (exact_vtype a a' h i))
exact_operator (operators.Convert a) (operators.Convert a') h = (λ i. operators.Convert (exact_vtype a a' h i))
exact_operator operators.Length operators.Length h = refl
exact_operator operators.Element operators.Element h = refl
exact_operator operators.StoreElement operators.StoreElement h = refl
exact_operator (operators.StoreStatic a) (operators.StoreStatic a') h = search rules
exact_operator (operators.NewArray a) (operators.NewArray a') h = (λ i. operators.NewArray (exact_vtype a a' h i))
exact_operator a b h = absurd (false≢true h)

pub exact_action : (a b : Action) → (action_eq.ghosts).eq a b ≡ true → a ≡ b
exact_action actions.Skip actions.Skip h = refl
exact_action (actions.Copy a b) (actions.Copy a' b') h = let part0 = and_parts ((place_eq.ghosts).eq a a') ((place_eq.ghosts).eq b b') h in (λ i. actions.Copy (exact_place a a' part0.0 i) (exact_place b b' part0.1 i))
exact_action (actions.Move a b) (actions.Move a' b') h = let part0 = and_parts ((place_eq.ghosts).eq a a') ((place_eq.ghosts).eq b b') h in (λ i. actions.Move (exact_place a a' part0.0 i) (exact_place b b' part0.1 i))
exact_action (actions.Plain a b) (actions.Plain a' b') h = let part0 = and_parts ((place_eq.ghosts).eq a a') ((plain_eq.ghosts).eq b b') h in (λ i. actions.Plain (exact_place a a' part0.0 i) (exact_plain b b' part0.1 i))
exact_action (actions.Drop a) (actions.Drop a') h = (λ i. actions.Drop (exact_scope a a' h i))
exact_action (actions.Settle a b) (actions.Settle a' b') h = let part0 = and_parts ((a == a')) ((completion_eq.ghosts).eq b b') h in (λ i. actions.Settle (eqb-true a a' part0.0 i) (exact_completion b b' part0.1 i))
exact_action (actions.Enter a b c d) (actions.Enter a' b' c' d') h = search (rules, exact_clause)
exact_action (actions.Test a) (actions.Test a') h = search rules
exact_action (actions.Op a b c) (actions.Op a' b' c') h = let part0 = and_parts ((operator_eq.ghosts).eq a a') ((b == b') && ((c == c'))) h in let part1 = and_parts ((b == b')) ((c == c')) part0.1 in (λ i. actions.Op (exact_operator a a' part0.0 i) (eqb-true b b' part1.0 i) (eqb-true c c' part1.1 i))
exact_action (actions.Get a b c) (actions.Get a' b' c') h = search rules
exact_action (actions.Put a b c) (actions.Put a' b' c') h = search rules
exact_action (actions.Cast a b) (actions.Cast a' b') h = let part0 = and_parts ((vtype_eq.ghosts).eq a a') ((b == b')) h in (λ i. actions.Cast (exact_vtype a a' part0.0 i) (eqb-true b b' part0.1 i))
exact_action (actions.PutOwn a b) (actions.PutOwn a' b') h = search rules
exact_action (actions.Call a b c d) (actions.Call a' b' c' d') h = let part0 = and_parts ((method_eq.ghosts).eq a a') ((b == b') && ((c == c') && ((form_eq.ghosts).eq d d'))) h in let part1 = and_parts ((b == b')) ((c == c') && ((form_eq.ghosts).eq d d')) part0.1 in let part2 = and_parts ((c == c')) ((form_eq.ghosts).eq d d') part1.1 in (λ i. actions.Call (exact_method a a' part0.0 i) (eqb-true b b' part1.0 i) (eqb-true c c' part2.0 i) (exact_form d d' part2.1 i))
exact_action (actions.New a b c) (actions.New a' b' c') h = search rules
exact_action (actions.Super a b c) (actions.Super a' b' c') h = search rules
exact_action (actions.Raise a b) (actions.Raise a' b') h = search rules
exact_action (actions.End a) (actions.End a') h = (λ i. actions.End (exact_completion a a' h i))
exact_action a b h = absurd (false≢true h)

pub exact_condition : (a b : Condition) → (condition_eq.ghosts).eq a b ≡ true → a ≡ b
exact_condition (conditions.Of a) (conditions.Of a') h = search rules
exact_condition (conditions.Absent a) (conditions.Absent a') h = search rules
exact_condition a b h = absurd (false≢true h)

pub exact_closing : (a b : Closing) → (closing_eq.ghosts).eq a b ≡ true → a ≡ b
exact_closing a b h = search rules

pub exact_item : (a b : Item) → (item_eq.ghosts).eq a b ≡ true → a ≡ b
exact_item (items.Do a b) (items.Do a' b') h = search rules
exact_item (items.Ev a b) (items.Ev a' b') h = search rules
exact_item (items.Act a b) (items.Act a' b') h = let part0 = and_parts ((action_eq.ghosts).eq a a') ((pos_eq.ghosts).eq b b') h in (λ i. items.Act (exact_action a a' part0.0 i) (exact_pos b b' part0.1 i))
exact_item (items.Cond a b c d) (items.Cond a' b' c' d') h = let part0 = and_parts ((condition_eq.ghosts).eq a a') ((b == b') && ((c == c') && ((d == d')))) h in let part1 = and_parts ((b == b')) ((c == c') && ((d == d'))) part0.1 in let part2 = and_parts ((c == c')) ((d == d')) part1.1 in (λ i. items.Cond (exact_condition a a' part0.0 i) (eqb-true b b' part1.0 i) (eqb-true c c' part2.0 i) (eqb-true d d' part2.1 i))
exact_item (items.NullFork a b c d) (items.NullFork a' b' c' d') h = search rules
exact_item (items.BoolFork a b c d) (items.BoolFork a' b' c' d') h = search rules
exact_item (items.LoopEnd a b) (items.LoopEnd a' b') h = search rules
exact_item (items.For a b) (items.For a' b') h = search rules
exact_item (items.Leave a b) (items.Leave a' b') h = let part0 = and_parts ((scope_eq.ghosts).eq a a') ((pos_eq.ghosts).eq b b') h in (λ i. items.Leave (exact_scope a a' part0.0 i) (exact_pos b b' part0.1 i))
exact_item (items.Catch a b) (items.Catch a' b') h = search rules
exact_item (items.Fin a b) (items.Fin a' b') h = search rules
exact_item (items.Close a b) (items.Close a' b') h = let part0 = and_parts ((closing_eq.ghosts).eq a a') ((b == b')) h in (λ i. items.Close (exact_closing a a' part0.0 i) (eqb-true b b' part0.1 i))
exact_item (items.Finish a b c) (items.Finish a' b' c') h = let part0 = and_parts ((completion_eq.ghosts).eq a a') ((b == b') && ((stmt_eq.ghosts).eq c c')) h in let part1 = and_parts ((b == b')) ((stmt_eq.ghosts).eq c c') part0.1 in (λ i. items.Finish (exact_completion a a' part0.0 i) (eqb-true b b' part1.0 i) (exact_stmt c c' part1.1 i))
exact_item (items.Supp a b c) (items.Supp a' b' c') h = let part0 = and_parts ((completion_eq.ghosts).eq a a') ((b == b') && ((stmt_eq.ghosts).eq c c')) h in let part1 = and_parts ((b == b')) ((stmt_eq.ghosts).eq c c') part0.1 in (λ i. items.Supp (exact_completion a a' part0.0 i) (eqb-true b b' part1.0 i) (exact_stmt c c' part1.1 i))
exact_item (items.Out a) (items.Out a') h = (λ i. items.Out (exact_completion a a' h i))
exact_item items.Ended items.Ended h = refl
exact_item a b h = absurd (false≢true h)

pub exact : (a b : Cell) → (cell_eq.ghosts).eq a b ≡ true → a ≡ b
exact a b h = let parts = and_parts ((item_eq.ghosts).eq a.item b.item) (a.tail == b.tail) h in (λ i. record { item = exact_item a.item b.item parts.0 i; tail = eqb-true a.tail b.tail parts.1 i })
