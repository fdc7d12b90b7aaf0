-- The rules of assignments and steps give them the type of what is assigned (JLS 15.14, 15.15, 15.26).
use Rattle.std.proofs.Common.{◌≡◌, ◌∙◌, Bool, true, false, cond, ◌&&◌, Option, Some, None, List, [], ◌∷◌, refl, subst, ap}
use Rattle.std.specs.Option.{IsSomeAnd}
use Rattle.std.proofs.lemmas.Bool.{and_parts}
use Rattle.rlc_base.specs.declared.place.Pos.{Pos}
use Rattle.program_model.specs.declared.kinds.BinaryOperator.{BinaryOperator}
use Rattle.program_model.specs.declared.kinds.BinaryOperator.TheVariants as binary
use Rattle.program_model.specs.declared.kinds.OperandType.{OperandType}
use Rattle.program_model.specs.declared.kinds.OperandType.TheVariants as operand_types
use Rattle.program_model.specs.declared.kinds.VType.{VType}
use Rattle.program_model.specs.Typing.{IsAssignable, IsNumeric, IsOperand, IsStepOperator, binary_result, int}
use Rattle.program_model.specs.Hierarchy.{IsHierarchy}
use Rattle.java_conversions.specs.Conversions.{is_assignable}
use Rattle.java_conversions.specs.Operators.{compound_operands, promoted, step_operands}
use Rattle.java_typed_trees.specs.declared.facts.Answer.TheVariants as answers
use Rattle.java_typed_trees.specs.declared.facts.Facts.{Facts}
use Rattle.java_typed_trees.specs.declared.shapes.Shape.{Shape}
use Rattle.java_typed_trees.specs.declared.shapes.Shape.TheVariants as shapes
use Rattle.java_typed_trees.specs.declared.shapes.TargetShape.{TargetShape}
use Rattle.java_typed_trees.specs.declared.shapes.TargetShape.TheVariants as targets
use Rattle.java_typed_trees.specs.Answers.{mismatch, type_of, value_at}
use Rattle.java_typed_trees.specs.ExpressionTrees.{ExprTree, ExprTrees, Node, and_expression, no_expression}
use Rattle.java_operator_expressions.specs.JavaOperatorRulesOperators.{assigned_by, operator_assignment_by, postfix_step_by, prefix_step_by}
use Rattle.java_variable_rules.specs.JavaMemberRulesAssignments.{assignment_by, assignment_of, target_in}
use Rattle.java_variable_rules.specs.Assignments.{compound_by, is_own_place, postfix_by, prefix_by}
use Rattle.java_call_rules.specs.TypedParts.{parts_of, with_last}
use Rattle.java_typing_laws.specs.TypingContexts.{TypingContext, type_of_number}
use Rattle.java_typing_laws.specs.TypedTrees.{AreTypedTrees, IsPlaceOfShape, IsStored, IsTarget, IsTypedTree, Part, assigned_type, first_type, part_of, parts_in, second_type}
use Rattle.java_typing_laws.proofs.Conversions.{IsNumber, assignable_law, no_test, none_is_some, number_operand, promoted_law, same_in}
use Rattle.java_typing_laws.proofs.Operators.{compound_law}
use Rattle.java_typing_laws.proofs.OperatorRules.{IfPlain, IsPlain, IsTypedAnswer, chosen, has, one_rule, two_rule}

-- ---- simple assignments

-- where the left-hand side is a target, the value stands behind its parts
abbrev IsAssignedTo : TypingContext → Option TargetShape → List Part → VType → Option VType → Type 0
IsAssignedTo c None parts t value = Unit {0}
IsAssignedTo c (Some x) parts t value = IsTarget c x parts t × (assigned_type x parts ≡ value)

target_law : (c : TypingContext) (t : VType) (tree e : ExprTree) → IsTypedTree c tree → (part_of tree).vtype ≡ Some t → IsAssignedTo c (target_in (part_of tree).shape) (parts_in (with_last (parts_of tree) e)) t (part_of e).vtype
target_law c t (Node shape None place parts) e h g = absurd (none_is_some t g)
target_law c t (Node (shapes.Literal l) (Some u) place parts) e h g = tt
target_law c t (Node (shapes.Local n) (Some u) place no_expression) e h g = (subst (λ v. type_of_number c.variables n ≡ Some v) (same_in u t g) h.0, refl)
target_law c t (Node (shapes.Local n) (Some u) place (and_expression a more)) e h g = absurd h.0
target_law c t (Node (shapes.This written) (Some u) place parts) e h g = tt
target_law c t (Node (shapes.Field f) (Some u) place no_expression) e h g = absurd h.0
target_law c t (Node (shapes.Field f) (Some u) place (and_expression a no_expression)) e h g = (subst (λ v. IsTarget c (targets.Field f) (part_of a ∷ part_of e ∷ []) v) (same_in u t g) h.0, refl)
target_law c t (Node (shapes.Field f) (Some u) place (and_expression a (and_expression b more))) e h g = absurd h.0
target_law c t (Node (shapes.StaticField f) (Some u) place no_expression) e h g = (subst (λ v. IsTarget c (targets.StaticField f) [] v) (same_in u t g) h.0, refl)
target_law c t (Node (shapes.StaticField f) (Some u) place (and_expression a more)) e h g = absurd h.0
target_law c t (Node (shapes.LibraryConstant m) (Some u) place parts) e h g = tt
target_law c t (Node (shapes.Unary o) (Some u) place parts) e h g = tt
target_law c t (Node (shapes.Binary o v) (Some u) place parts) e h g = tt
target_law c t (Node shapes.Conditional (Some u) place parts) e h g = tt
target_law c t (Node (shapes.InstanceOf v) (Some u) place parts) e h g = tt
target_law c t (Node shapes.PrimitiveCast (Some u) place parts) e h g = tt
target_law c t (Node shapes.ReferenceCast (Some u) place parts) e h g = tt
target_law c t (Node (shapes.Assignment x) (Some u) place parts) e h g = tt
target_law c t (Node (shapes.OperatorAssignment o v) (Some u) place parts) e h g = tt
target_law c t (Node (shapes.PostfixStep o v) (Some u) place parts) e h g = tt
target_law c t (Node (shapes.Call form m) (Some u) place parts) e h g = tt
target_law c t (Node (shapes.NewObject d m) (Some u) place parts) e h g = tt
target_law c t (Node shapes.NewArray (Some u) place parts) e h g = tt
target_law c t (Node shapes.Element (Some u) place no_expression) e h g = absurd h.0
target_law c t (Node shapes.Element (Some u) place (and_expression a no_expression)) e h g = absurd h.0
target_law c t (Node shapes.Element (Some u) place (and_expression a (and_expression b no_expression))) e h g = (subst (λ v. IsTarget c targets.Element (part_of a ∷ part_of b ∷ part_of e ∷ []) v) (same_in u t g) h.0, refl)
target_law c t (Node shapes.Element (Some u) place (and_expression a (and_expression b (and_expression d more)))) e h g = absurd h.0
target_law c t (Node shapes.Length (Some u) place parts) e h g = tt
target_law c t (Node shapes.Erroneous (Some u) place parts) e h g = tt

allowed_target : (c : TypingContext) (b : Bool) (o : Option TargetShape) (parts : List Part) (t : VType) (value : Option VType) → IsAssignedTo c o parts t value → IsAssignedTo c (cond b o None) parts t value
allowed_target c true o parts t value h = h
allowed_target c false o parts t value h = tt

assignment_of_rule : (c : TypingContext) → IsHierarchy c.program → (place : Pos) (target : Option TargetShape) (e : Facts) (to from : VType) (parts : List Part) → IsPlain c.program to → IsAssignedTo c target parts to (Some from) → IsTypedAnswer c (assignment_of c.program place target e to from) parts
assignment_of_rule c hierarchy place None e to from parts plain h = tt
assignment_of_rule c hierarchy place (Some x) e to from parts plain h =
    chosen c (is_assignable c.program e.constant from to) (answers.Is (shapes.Assignment x) (value_at place to)) (mismatch place) parts
    (λ yes. ((h.0, has (assigned_type x parts) from (λ u. IsAssignable c.program u to) h.1 (assignable_law c.program hierarchy e.constant from to yes)), plain))
    (λ no. tt)

pub assignment_rule : (c : TypingContext) → IsHierarchy c.program → (place : Pos) (allowed : Bool) (shape : Shape) (tree value : ExprTree) (x e : Facts) → IsTypedTree c tree → (part_of tree).shape ≡ shape → (part_of tree).vtype ≡ type_of x → (part_of value).vtype ≡ type_of e → IfPlain c.program (type_of x) → IsTypedAnswer c (assignment_by c.program place (cond allowed (target_in shape) None) x e) (parts_in (with_last (parts_of tree) value))
assignment_rule c hierarchy place allowed shape tree value x e typed shaped first second plain =
    two_rule c place (type_of x) (type_of e) (assignment_of c.program place (cond allowed (target_in shape) None) e) (parts_in (with_last (parts_of tree) value))
    (λ to from g d.
    let parts : List Part = parts_in (with_last (parts_of tree) value) in
    let found = target_law c to tree value typed (first ∙ g) in
    let shown : IsAssignedTo c (target_in shape) parts to (Some from) = subst (λ (o : Option VType). IsAssignedTo c (target_in shape) parts to o) (second ∙ d) (subst (λ (k : Shape). IsAssignedTo c (target_in k) parts to (part_of value).vtype) shaped found) in
    assignment_of_rule c hierarchy place (cond allowed (target_in shape) None) e to from parts (subst (IfPlain c.program) g plain) (allowed_target c allowed (target_in shape) parts to (Some from) shown))

pub last_typed : (c : TypingContext) (ts : ExprTrees) (t : ExprTree) → AreTypedTrees c ts → IsTypedTree c t → AreTypedTrees c (with_last ts t)
last_typed c no_expression t h g = (g, tt)
last_typed c (and_expression u ts) t h g = (h.0, last_typed c ts t h.1 g)

pub parts_typed : (c : TypingContext) (t : ExprTree) → IsTypedTree c t → AreTypedTrees c (parts_of t)
parts_typed c (Node shape t place parts) h = h.1

-- ---- assignments that use an operator

-- a field is one of `this`
abbrev pub OfThis : Shape → Bool → Type 0
OfThis (shapes.Field f) b = b ≡ true
OfThis shape b = Unit {0}

place_law : (c : TypingContext) (through : Bool) (t : VType) (tree : ExprTree) → IsTypedTree c tree → (part_of tree).vtype ≡ Some t → is_own_place through (part_of tree).shape ≡ true → (through ≡ true → OfThis (part_of tree).shape (part_of tree).of_this) → IsPlaceOfShape c (part_of tree).shape (part_of tree) t
place_law c through t (Node shape None place parts) h g own this = absurd (none_is_some t g)
place_law c through t (Node (shapes.Literal l) (Some u) place parts) h g own this = no_test own
place_law c through t (Node (shapes.Local n) (Some u) place no_expression) h g own this = subst (λ v. type_of_number c.variables n ≡ Some v) (same_in u t g) h.0
place_law c through t (Node (shapes.Local n) (Some u) place (and_expression a more)) h g own this = absurd h.0
place_law c through t (Node (shapes.This written) (Some u) place parts) h g own this = no_test own
place_law c through t (Node (shapes.Field f) (Some u) place no_expression) h g own this = absurd h.0
place_law c through t (Node (shapes.Field f) (Some u) place (and_expression a no_expression)) h g own this = (this own, subst (λ v. IsTarget c (targets.Field f) (part_of a ∷ []) v) (same_in u t g) h.0)
place_law c through t (Node (shapes.Field f) (Some u) place (and_expression a (and_expression b more))) h g own this = absurd h.0
place_law c through t (Node (shapes.StaticField f) (Some u) place no_expression) h g own this = subst (λ v. IsTarget c (targets.StaticField f) [] v) (same_in u t g) h.0
place_law c through t (Node (shapes.StaticField f) (Some u) place (and_expression a more)) h g own this = absurd h.0
place_law c through t (Node (shapes.LibraryConstant m) (Some u) place parts) h g own this = no_test own
place_law c through t (Node (shapes.Unary o) (Some u) place parts) h g own this = no_test own
place_law c through t (Node (shapes.Binary o v) (Some u) place parts) h g own this = no_test own
place_law c through t (Node shapes.Conditional (Some u) place parts) h g own this = no_test own
place_law c through t (Node (shapes.InstanceOf v) (Some u) place parts) h g own this = no_test own
place_law c through t (Node shapes.PrimitiveCast (Some u) place parts) h g own this = no_test own
place_law c through t (Node shapes.ReferenceCast (Some u) place parts) h g own this = no_test own
place_law c through t (Node (shapes.Assignment x) (Some u) place parts) h g own this = no_test own
place_law c through t (Node (shapes.OperatorAssignment o v) (Some u) place parts) h g own this = no_test own
place_law c through t (Node (shapes.PostfixStep o v) (Some u) place parts) h g own this = no_test own
place_law c through t (Node (shapes.Call form m) (Some u) place parts) h g own this = no_test own
place_law c through t (Node (shapes.NewObject d m) (Some u) place parts) h g own this = no_test own
place_law c through t (Node shapes.NewArray (Some u) place parts) h g own this = no_test own
place_law c through t (Node shapes.Element (Some u) place parts) h g own this = no_test own
place_law c through t (Node shapes.Length (Some u) place parts) h g own this = no_test own
place_law c through t (Node shapes.Erroneous (Some u) place parts) h g own this = no_test own

-- an own place of the type, and the type is plain
pub record IsUpdated (c : TypingContext) (allowed : Bool) (x : ExprTree) (t : Option VType) : Type 0 where
  pub agreed : (part_of x).vtype ≡ t
  pub plain : IfPlain c.program t
  pub place : allowed ≡ true → (u : VType) → t ≡ Some u → IsPlaceOfShape c (part_of x).shape (part_of x) u

pub updated_law : (c : TypingContext) (through may : Bool) (shape : Shape) (tree : ExprTree) (x : Facts) → IsTypedTree c tree → (part_of tree).shape ≡ shape → (part_of tree).vtype ≡ type_of x → IfPlain c.program (type_of x) → (through ≡ true → OfThis (part_of tree).shape (part_of tree).of_this) → IsUpdated c (is_own_place through shape && may) tree (type_of x)
updated_law c through may shape tree x typed shaped first plain this = record {
  agreed = first;
  plain = plain;
  place = λ yes u g. place_law c through u tree typed (first ∙ g) (ap (is_own_place through) shaped ∙ (and_parts (is_own_place through shape) may yes).0) this;
}

compound_of_rule : (c : TypingContext) (o : BinaryOperator) (place : Pos) (x e : ExprTree) (to from : VType) (u : Option OperandType) → compound_operands c.program o to from ≡ u → (part_of x).vtype ≡ Some to → (part_of e).vtype ≡ Some from → IsPlain c.program to → IsPlaceOfShape c (part_of x).shape (part_of x) to → IsTypedAnswer c (assigned_by place to u (shapes.OperatorAssignment o)) (part_of x ∷ part_of e ∷ [])
compound_of_rule c o place x e to from None g first second plain own = tt
compound_of_rule c o place x e to from (Some u) g first second plain own =
    let law = compound_law c.program o u to from g in
    let stored : IsStored o u (part_of x ∷ part_of e ∷ []) to law.result = ((law.is, has (part_of x).vtype to (IsOperand u) first law.operands.0, has (part_of e).vtype from (IsOperand u) second law.operands.1), law.castable) in
    ((own, has (binary_result o u) law.result (IsStored o u (part_of x ∷ part_of e ∷ []) to) law.is stored), plain)

pub compound_rule : (c : TypingContext) (allowed : Bool) (o : BinaryOperator) (place : Pos) (x e : ExprTree) (a b : Facts) → IsUpdated c allowed x (type_of a) → (part_of e).vtype ≡ type_of b → IsTypedAnswer c (compound_by c.program allowed o place a b) (part_of x ∷ part_of e ∷ [])
compound_rule c allowed o place x e a b h second =
    two_rule c place (type_of a) (type_of b) (λ t u. cond allowed (operator_assignment_by c.program o place a b) (mismatch place)) (part_of x ∷ part_of e ∷ [])
    (λ t u g d. chosen c allowed (operator_assignment_by c.program o place a b) (mismatch place) (part_of x ∷ part_of e ∷ [])
    (λ yes. two_rule c place (type_of a) (type_of b) (λ v w. assigned_by place v (compound_operands c.program o v w) (shapes.OperatorAssignment o)) (part_of x ∷ part_of e ∷ [])
    (λ v w k l. compound_of_rule c o place x e v w (compound_operands c.program o v w) refl (h.agreed ∙ k) (second ∙ l) (subst (IfPlain c.program) k h.plain) (h.place yes v k)))
    (λ no. tt))

-- ---- steps

step_stored : (o : BinaryOperator) (u : OperandType) (t : VType) (parts : List Part) → IsStepOperator o → IsNumber u → IsNumeric t → IsSomeAnd (first_type parts) (IsOperand u) → IsSomeAnd (second_type parts) (IsOperand u) → IsSomeAnd (binary_result o u) (IsStored o u parts t)
step_stored binary.Multiply u t parts o n k first second = absurd o
step_stored binary.Divide u t parts o n k first second = absurd o
step_stored binary.Remainder u t parts o n k first second = absurd o
step_stored binary.Add operand_types.Boolean t parts o n k first second = absurd n
step_stored binary.Add operand_types.Int t parts o n k first second = ((refl, first, second), k)
step_stored binary.Add operand_types.Long t parts o n k first second = ((refl, first, second), k)
step_stored binary.Add operand_types.Text t parts o n k first second = absurd n
step_stored binary.Add operand_types.Reference t parts o n k first second = absurd n
step_stored binary.Subtract operand_types.Boolean t parts o n k first second = absurd n
step_stored binary.Subtract operand_types.Int t parts o n k first second = ((refl, first, second), k)
step_stored binary.Subtract operand_types.Long t parts o n k first second = ((refl, first, second), k)
step_stored binary.Subtract operand_types.Text t parts o n k first second = absurd n
step_stored binary.Subtract operand_types.Reference t parts o n k first second = absurd n
step_stored binary.ShiftLeft u t parts o n k first second = absurd o
step_stored binary.ShiftRight u t parts o n k first second = absurd o
step_stored binary.ShiftRightUnsigned u t parts o n k first second = absurd o
step_stored binary.Less u t parts o n k first second = absurd o
step_stored binary.Greater u t parts o n k first second = absurd o
step_stored binary.LessOrEqual u t parts o n k first second = absurd o
step_stored binary.GreaterOrEqual u t parts o n k first second = absurd o
step_stored binary.Equal u t parts o n k first second = absurd o
step_stored binary.NotEqual u t parts o n k first second = absurd o
step_stored binary.And u t parts o n k first second = absurd o
step_stored binary.Xor u t parts o n k first second = absurd o
step_stored binary.Or u t parts o n k first second = absurd o
step_stored binary.ConditionalAnd u t parts o n k first second = absurd o
step_stored binary.ConditionalOr u t parts o n k first second = absurd o

-- a step in the type `u`, where the other operand is the `int` 1
step_law : (c : TypingContext) (o : BinaryOperator) (u : OperandType) (t : VType) (x one : ExprTree) → IsStepOperator o → promoted t ≡ Some u → (part_of x).vtype ≡ Some t → (part_of one).vtype ≡ Some int → IsSomeAnd (binary_result o u) (IsStored o u (part_of x ∷ part_of one ∷ []) t)
step_law c o u t x one step g first second =
    let number = promoted_law t u g in
    step_stored o u t (part_of x ∷ part_of one ∷ []) step number.1 number.0 (has (part_of x).vtype t (IsOperand u) first (number_operand u t number.1 number.0)) (has (part_of one).vtype int (IsOperand u) second (number_operand u int number.1 tt))

prefix_of_rule : (c : TypingContext) (o : BinaryOperator) (place : Pos) (x one : ExprTree) (t : VType) (u : Option OperandType) → IsStepOperator o → step_operands t ≡ u → (part_of x).vtype ≡ Some t → (part_of one).vtype ≡ Some int → IsPlain c.program t → IsPlaceOfShape c (part_of x).shape (part_of x) t → IsTypedAnswer c (assigned_by place t u (shapes.OperatorAssignment o)) (part_of x ∷ part_of one ∷ [])
prefix_of_rule c o place x one t None step g first second plain own = tt
prefix_of_rule c o place x one t (Some u) step g first second plain own = ((own, step_law c o u t x one step g first second), plain)

postfix_of_rule : (c : TypingContext) (o : BinaryOperator) (place : Pos) (x one : ExprTree) (t : VType) (u : Option OperandType) → IsStepOperator o → step_operands t ≡ u → (part_of x).vtype ≡ Some t → (part_of one).vtype ≡ Some int → IsPlain c.program t → IsPlaceOfShape c (part_of x).shape (part_of x) t → IsTypedAnswer c (assigned_by place t u (shapes.PostfixStep o)) (part_of x ∷ part_of one ∷ [])
postfix_of_rule c o place x one t None step g first second plain own = tt
postfix_of_rule c o place x one t (Some u) step g first second plain own = ((step, (promoted_law t u g).0, (own, step_law c o u t x one step g first second)), plain)

pub prefix_rule : (c : TypingContext) (allowed : Bool) (o : BinaryOperator) (place : Pos) (x one : ExprTree) (a : Facts) → IsStepOperator o → IsUpdated c allowed x (type_of a) → (part_of one).vtype ≡ Some int → IsTypedAnswer c (prefix_by allowed o place a) (part_of x ∷ part_of one ∷ [])
prefix_rule c allowed o place x one a step h second =
    one_rule c place (type_of a) (λ t. cond allowed (prefix_step_by o place a) (mismatch place)) (part_of x ∷ part_of one ∷ [])
    (λ t g. chosen c allowed (prefix_step_by o place a) (mismatch place) (part_of x ∷ part_of one ∷ [])
    (λ yes. one_rule c place (type_of a) (λ v. assigned_by place v (step_operands v) (shapes.OperatorAssignment o)) (part_of x ∷ part_of one ∷ [])
    (λ v k. prefix_of_rule c o place x one v (step_operands v) step refl (h.agreed ∙ k) second (subst (IfPlain c.program) k h.plain) (h.place yes v k)))
    (λ no. tt))

pub postfix_rule : (c : TypingContext) (allowed : Bool) (o : BinaryOperator) (place : Pos) (x one : ExprTree) (a : Facts) → IsStepOperator o → IsUpdated c allowed x (type_of a) → (part_of one).vtype ≡ Some int → IsTypedAnswer c (postfix_by allowed o place a) (part_of x ∷ part_of one ∷ [])
postfix_rule c allowed o place x one a step h second =
    one_rule c place (type_of a) (λ t. cond allowed (postfix_step_by o place a) (mismatch place)) (part_of x ∷ part_of one ∷ [])
    (λ t g. chosen c allowed (postfix_step_by o place a) (mismatch place) (part_of x ∷ part_of one ∷ [])
    (λ yes. one_rule c place (type_of a) (λ v. assigned_by place v (step_operands v) (shapes.PostfixStep o)) (part_of x ∷ part_of one ∷ [])
    (λ v k. postfix_of_rule c o place x one v (step_operands v) step refl (h.agreed ∙ k) second (subst (IfPlain c.program) k h.plain) (h.place yes v k)))
    (λ no. tt))
