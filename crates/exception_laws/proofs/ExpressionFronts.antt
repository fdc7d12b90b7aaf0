-- What an expression becomes throws no more than the expression.
use Rattle.std.proofs.Common.{◌≡◌, ◌∙◌, ◌+◌, ◌++◌, ◌∷◌, [], ℕ, List, Bool, true, false, Option, Some, None, length, refl, sym, ap, subst}
use Rattle.std.specs.Prelude.{◌&&◌, flat_map, if◌then◌else◌}
use Rattle.std.specs.List.{list_all, list_any}
use Rattle.program_model.specs.declared.kinds.BinaryOperator.{BinaryOperator}
use Rattle.program_model.specs.declared.kinds.BinaryOperator.TheVariants as binary
use Rattle.program_model.specs.declared.kinds.ClassId.{ClassId}
use Rattle.program_model.specs.declared.kinds.ExprId.{ExprId}
use Rattle.program_model.specs.declared.kinds.FieldId.{FieldId}
use Rattle.program_model.specs.declared.kinds.Literal.{Literal}
use Rattle.program_model.specs.declared.kinds.Literal.TheVariants as literals
use Rattle.program_model.specs.declared.kinds.MethodId.{MethodId}
use Rattle.program_model.specs.declared.kinds.UnaryOperator.{UnaryOperator}
use Rattle.program_model.specs.declared.kinds.UnaryOperator.TheVariants as unary
use Rattle.program_model.specs.declared.kinds.VType.{VType}
use Rattle.program_model.specs.declared.program.Program.{Program}
use Rattle.program_model.specs.declared.tree.AssignmentTarget.{AssignmentTarget}
use Rattle.program_model.specs.declared.tree.AssignmentTarget.TheVariants as targets
use Rattle.program_model.specs.declared.tree.BinaryExpression.{BinaryExpression}
use Rattle.program_model.specs.declared.tree.Body.{Body}
use Rattle.program_model.specs.declared.tree.CallTarget.{CallTarget}
use Rattle.program_model.specs.declared.tree.CallTarget.TheVariants as calls
use Rattle.program_model.specs.declared.tree.ExpressionKind.{ExpressionKind}
use Rattle.program_model.specs.declared.tree.ExpressionKind.TheVariants as expressions
use Rattle.program_model.specs.declared.tree.TExpr.{TExpr}
use Rattle.program_model.specs.Lookups.{expression_at}
use Rattle.program_model.specs.Trees.{assignment_operands, call_target, operands}
use Rattle.rlc_base.specs.declared.place.Pos.{Pos}
use Rattle.control_actions.specs.declared.action.Action.TheVariants as actions
use Rattle.control_actions.specs.declared.action.Operator.{Operator}
use Rattle.control_actions.specs.declared.action.Operator.TheVariants as operators
use Rattle.control_actions.specs.declared.action.Scope.TheVariants as scopes
use Rattle.control_actions.specs.declared.action.TargetForm.{TargetForm}
use Rattle.control_actions.specs.declared.place.Place.TheVariants as places
use Rattle.control_actions.specs.declared.action.TargetForm.TheVariants as forms
use Rattle.control_actions.specs.declared.item.Condition.{Condition}
use Rattle.control_actions.specs.declared.item.Condition.TheVariants as conditions
use Rattle.java_control.specs.Conditions.{binary_condition, condition_front, equal_condition, kind_condition, literal_condition, node_condition, not_equal_condition, tests_value, unary_condition}
use Rattle.java_control.specs.Expressions.{assignment_front, call_with, comparison_front, binary_front, computes, evaluations, expression_front, field_read, field_store, stored, stored_at, stored_in, tested_front, type_or_null, unary_front}
use Rattle.java_control.specs.NullTests.{compared_with_null, is_null}
use Rattle.java_control.specs.Owned.{has_place, place_of_field, is_this}
use Rattle.java_control.specs.Remaining.{Todo, Todos, Ev, Act, Cond, NullFork, todos, one, nowhere}
use Rattle.accepted_programs.specs.Exceptions.{expression_exceptions, throws_clause, thrown_by_call}
use Rattle.accepted_programs.specs.TreeOrder.{PartsComeFirst}
use Rattle.accepted_programs.proofs.Depths.{value_law}
use Rattle.exception_laws.proofs.Handlers.{all_fit, all_thrown, condition_exceptions, fit, fits, listed, thrown, thrown_in}
use Rattle.accepted_programs.proofs.Lists.{None', all_join, alone, and_both, join, left, right}

-- the items throw nothing that the test finds, and none of them ends the frame
abbrev pub Quiet : Bool → Program → Body → (ClassId → Bool) → List Todo → Type 0
Quiet z p b v xs = None' v (all_thrown p b xs) × (list_all (fits z) xs ≡ true)

-- those that items hold
abbrev pub AreQuiet : Bool → Program → Body → (ClassId → Bool) → Todos → Type 0
AreQuiet z p b v xs = None' v (thrown_in p b xs) × (fit z xs ≡ true)

abbrev pub values : Program → Body → List ExprId → List ClassId
values p b es = flat_map (expression_exceptions p b) es

pub thrown_joined : (p : Program) (b : Body) (v : ClassId → Bool) (xs ys : List Todo) → None' v (all_thrown p b xs) → None' v (all_thrown p b ys) → None' v (all_thrown p b (xs ++ ys))
thrown_joined p b v [] ys h h' = h'
thrown_joined p b v (x ∷ xs) ys h h' =
    join v (thrown p b x) (all_thrown p b (xs ++ ys)) (left v (thrown p b x) (all_thrown p b xs) h) (thrown_joined p b v xs ys (right v (thrown p b x) (all_thrown p b xs) h) h')

pub quiet_joined : (z : Bool) (p : Program) (b : Body) (v : ClassId → Bool) (xs ys : List Todo) → Quiet z p b v xs → Quiet z p b v ys → Quiet z p b v (xs ++ ys)
quiet_joined z p b v xs ys h h' = (thrown_joined p b v xs ys h.0 h'.0, all_join (fits z) xs ys h.1 h'.1)

-- one more item in front
pub quiet_first : (z : Bool) (p : Program) (b : Body) (v : ClassId → Bool) (x : Todo) (xs : List Todo) → None' v (thrown p b x) → fits z x ≡ true → Quiet z p b v xs → Quiet z p b v (x ∷ xs)
quiet_first z p b v x xs h on h' = (join v (thrown p b x) (all_thrown p b xs) h h'.0, and_both (fits z x) (list_all (fits z) xs) on h'.1)

pub quiet_list : (z : Bool) (p : Program) (b : Body) (v : ClassId → Bool) (xs : Todos) → AreQuiet z p b v xs → Quiet z p b v (todos xs)
quiet_list z p b v xs h = (ap (list_any v) (listed p b xs) ∙ h.0, all_fit z xs h.1)

-- the evaluation of one expression
pub evaluates : (z : Bool) (p : Program) (b : Body) (v : ClassId → Bool) (e : ExprId) (d : ℕ) (xs : List Todo) → None' v (expression_exceptions p b e) → Quiet z p b v xs → Quiet z p b v (Ev e d ∷ xs)
evaluates z p b v e d xs h h' = quiet_first z p b v (Ev e d) xs h refl h'

pub evaluates_all : (z : Bool) (p : Program) (b : Body) (v : ClassId → Bool) (es : List ExprId) (d : ℕ) → None' v (values p b es) → Quiet z p b v (evaluations es d)
evaluates_all z p b v [] d h = (refl, refl)
evaluates_all z p b v (e ∷ es) d h = evaluates z p b v e d (evaluations es (d + 1)) (left v (expression_exceptions p b e) (values p b es) h) (evaluates_all z p b v es (d + 1) (right v (expression_exceptions p b e) (values p b es) h))

pub quiet_computes : (z : Bool) (p : Program) (b : Body) (v : ClassId → Bool) (k : Operator) (es : List ExprId) (d : ℕ) (pos : Pos) → None' v (values p b es) → Quiet z p b v (computes k es d pos)
quiet_computes z p b v k es d pos h = quiet_joined z p b v (evaluations es d) (Act (actions.Op k d (length es)) pos ∷ []) (evaluates_all z p b v es d h) (refl, refl)

-- ---- the kinds of expressions

quiet_read : (z : Bool) (p : Program) (b : Body) (v : ClassId → Bool) (e : ExprId) (f : FieldId) (d : ℕ) (pos : Pos) → None' v (values p b (e ∷ [])) → Quiet z p b v (field_read p b e f d pos)
quiet_read z p b v e f d pos h = step (has_place p b e f)
  where
    step : (own : Bool) → Quiet z p b v (if own then Act (actions.Copy (places.Temp d) (place_of_field p f)) pos ∷ [] else (Ev e d ∷ Act (actions.Get f d (is_this b e)) pos ∷ []))
    step true = (refl, refl)
    step false = (h, refl)

quiet_store : (z : Bool) (p : Program) (b : Body) (v : ClassId → Bool) (e : ExprId) (f : FieldId) (x : ExprId) (d : ℕ) (pos : Pos) → None' v (values p b (e ∷ x ∷ [])) → Quiet z p b v (field_store p b e f x d pos)
quiet_store z p b v e f x d pos h = step (has_place p b e f)
  where
    step : (own : Bool) → Quiet z p b v (if own then Ev x d ∷ Act (actions.PutOwn f d) pos ∷ [] else (Ev e d ∷ Ev x (d + 1) ∷ Act (actions.Put f d (is_this b e)) pos ∷ []))
    step true = (right v (expression_exceptions p b e) (values p b (x ∷ [])) h, refl)
    step false = (h, refl)

quiet_assignment : (z : Bool) (p : Program) (b : Body) (v : ClassId → Bool) (target : AssignmentTarget) (x : ExprId) (d : ℕ) (pos : Pos) → None' v (values p b (assignment_operands target ++ x ∷ [])) → Quiet z p b v (assignment_front p b target x d pos)
quiet_assignment z p b v (targets.Local y) x d pos h = (h, refl)
quiet_assignment z p b v (targets.Field e f) x d pos h = quiet_store z p b v e f x d pos h
quiet_assignment z p b v (targets.StaticField f) x d pos h = quiet_computes z p b v (operators.StoreStatic f) (x ∷ []) d pos h
quiet_assignment z p b v (targets.Element a i) x d pos h = quiet_computes z p b v operators.StoreElement (a ∷ i ∷ x ∷ []) d pos h

quiet_stored : (z : Bool) (p : Program) (b : Body) (v : ClassId → Bool) (kind : ExpressionKind) (k : ℕ) (pos : Pos) → Quiet z p b v (stored_in kind k pos)
quiet_stored z p b v (expressions.Local x) k pos = (refl, refl)
quiet_stored z p b v (expressions.StaticField f) k pos = (refl, refl)
quiet_stored z p b v (expressions.Field e f) k pos = (refl, refl)
quiet_stored z p b v (expressions.Literal l) k pos = (refl, refl)
quiet_stored z p b v (expressions.This w) k pos = (refl, refl)
quiet_stored z p b v (expressions.LibraryConstant m) k pos = (refl, refl)
quiet_stored z p b v (expressions.Unary o e) k pos = (refl, refl)
quiet_stored z p b v (expressions.Binary x) k pos = (refl, refl)
quiet_stored z p b v (expressions.Conditional c x y) k pos = (refl, refl)
quiet_stored z p b v (expressions.InstanceOf e t) k pos = (refl, refl)
quiet_stored z p b v (expressions.PrimitiveCast e) k pos = (refl, refl)
quiet_stored z p b v (expressions.ReferenceCast e) k pos = (refl, refl)
quiet_stored z p b v (expressions.Assignment x e) k pos = (refl, refl)
quiet_stored z p b v (expressions.OperatorAssignment a) k pos = (refl, refl)
quiet_stored z p b v (expressions.PostfixStep a) k pos = (refl, refl)
quiet_stored z p b v (expressions.Call c) k pos = (refl, refl)
quiet_stored z p b v (expressions.NewObject n) k pos = (refl, refl)
quiet_stored z p b v (expressions.NewArray e) k pos = (refl, refl)
quiet_stored z p b v (expressions.Element a i) k pos = (refl, refl)
quiet_stored z p b v (expressions.Length a) k pos = (refl, refl)

quiet_stored_at : (z : Bool) (p : Program) (b : Body) (v : ClassId → Bool) (x : Option TExpr) (k : ℕ) (pos : Pos) → Quiet z p b v (stored_at x k pos)
quiet_stored_at z p b v None k pos = (refl, refl)
quiet_stored_at z p b v (Some x) k pos = quiet_stored z p b v x.kind k pos

-- a call of the method over these operands
quiet_call : (z : Bool) (p : Program) (b : Body) (v : ClassId → Bool) (m : MethodId) (es : List ExprId) (target : CallTarget) (d : ℕ) (pos : Pos) → None' v (throws_clause p m ++ values p b (call_target target ++ es)) → Quiet z p b v (call_with m es target d pos)
quiet_call z p b v m es calls.Static d pos h =
    quiet_joined z p b v (evaluations es d) (Act (actions.Call m d (length es) forms.Static) pos ∷ []) (evaluates_all z p b v es d (right v (throws_clause p m) (values p b es) h)) (alone v (throws_clause p m) (left v (throws_clause p m) (values p b es) h), refl)
quiet_call z p b v m es (calls.This e) d pos h = on_target (length es + 1) forms.This (left v (throws_clause p m) (values p b (e ∷ es)) h) (right v (throws_clause p m) (values p b (e ∷ es)) h)
  where
    on_target : (n : ℕ) (form : TargetForm) → None' v (throws_clause p m) → None' v (values p b (e ∷ es)) → Quiet z p b v ((Ev e d ∷ evaluations es (d + 1)) ++ Act (actions.Call m d n form) pos ∷ [])
    on_target n form own all = quiet_joined z p b v (Ev e d ∷ evaluations es (d + 1)) (Act (actions.Call m d n form) pos ∷ []) (evaluates_all z p b v (e ∷ es) d all) (alone v (throws_clause p m) own, refl)
quiet_call z p b v m es (calls.Super e) d pos h =
    quiet_joined z p b v (Ev e d ∷ evaluations es (d + 1)) (Act (actions.Call m d (length es + 1) forms.Super) pos ∷ []) (evaluates_all z p b v (e ∷ es) d (right v (throws_clause p m) (values p b (e ∷ es)) h)) (alone v (throws_clause p m) (left v (throws_clause p m) (values p b (e ∷ es)) h), refl)
quiet_call z p b v m es (calls.Other e) d pos h =
    quiet_joined z p b v (Ev e d ∷ evaluations es (d + 1)) (Act (actions.Call m d (length es + 1) forms.Other) pos ∷ []) (evaluates_all z p b v (e ∷ es) d (right v (throws_clause p m) (values p b (e ∷ es)) h)) (alone v (throws_clause p m) (left v (throws_clause p m) (values p b (e ∷ es)) h), refl)

-- `&&`, `||`, `!` and comparisons with null are taken as conditions
quiet_tested : (z : Bool) (p : Program) (b : Body) (v : ClassId → Bool) (e : ExprId) (d : ℕ) (pos : Pos) → None' v (expression_exceptions p b e) → Quiet z p b v (tested_front e d pos)
quiet_tested z p b v e d pos h = (alone v (expression_exceptions p b e ++ []) (alone v (expression_exceptions p b e) h), refl)

quiet_comparison : (z : Bool) (p : Program) (b : Body) (v : ClassId → Bool) (o : Option ExprId) (x : BinaryExpression) (e : ExprId) (t : Option VType) (d : ℕ) (pos : Pos) → None' v (expression_exceptions p b e) → None' v (values p b (x.left ∷ x.right ∷ [])) → Quiet z p b v (comparison_front o x e t d pos)
quiet_comparison z p b v (Some y) x e t d pos h h' = quiet_tested z p b v e d pos h
quiet_comparison z p b v None x e t d pos h h' = quiet_computes z p b v (operators.Binary x.operator x.operands (type_or_null t)) (x.left ∷ x.right ∷ []) d pos h'

quiet_unary : (z : Bool) (p : Program) (b : Body) (v : ClassId → Bool) (o : UnaryOperator) (x e : ExprId) (t : Option VType) (d : ℕ) (pos : Pos) → None' v (expression_exceptions p b e) → None' v (values p b (x ∷ [])) → Quiet z p b v (unary_front o x e t d pos)
quiet_unary z p b v unary.Not x e t d pos h h' = quiet_tested z p b v e d pos h
quiet_unary z p b v o x e t d pos h h' = quiet_computes z p b v (operators.Unary o (type_or_null t)) (x ∷ []) d pos h'

quiet_binary : (z : Bool) (p : Program) (b : Body) (v : ClassId → Bool) (o : BinaryOperator) (x : BinaryExpression) (e : ExprId) (t : Option VType) (d : ℕ) (pos : Pos) → None' v (expression_exceptions p b e) → None' v (values p b (x.left ∷ x.right ∷ [])) → Quiet z p b v (binary_front o x b e t d pos)
quiet_binary z p b v binary.ConditionalAnd x e t d pos h h' = quiet_tested z p b v e d pos h
quiet_binary z p b v binary.ConditionalOr x e t d pos h h' = quiet_tested z p b v e d pos h
quiet_binary z p b v binary.Equal x e t d pos h h' = quiet_comparison z p b v (compared_with_null b x) x e t d pos h h'
quiet_binary z p b v binary.NotEqual x e t d pos h h' = quiet_comparison z p b v (compared_with_null b x) x e t d pos h h'
quiet_binary z p b v o x e t d pos h h' = quiet_computes z p b v (operators.Binary x.operator x.operands (type_or_null t)) (x.left ∷ x.right ∷ []) d pos h'

quiet_choice : (z : Bool) (p : Program) (b : Body) (v : ClassId → Bool) (c x y : ExprId) (d : ℕ) → None' v (values p b (c ∷ x ∷ y ∷ [])) → Quiet z p b v (Cond (conditions.Of c) d (one (Ev x d)) (one (Ev y d)) ∷ [])
quiet_choice z p b v c x y d h =
    let cs : List ClassId = expression_exceptions p b c in
    let xs : List ClassId = expression_exceptions p b x in
    let ys : List ClassId = expression_exceptions p b y in
    let behind : None' v (values p b (x ∷ y ∷ [])) = right v cs (values p b (x ∷ y ∷ [])) h in
    (alone v (cs ++ ((xs ++ []) ++ (ys ++ []))) (join v cs ((xs ++ []) ++ (ys ++ [])) (left v cs (values p b (x ∷ y ∷ [])) h) (join v (xs ++ []) (ys ++ []) (alone v xs (left v xs (ys ++ []) behind)) (right v xs (ys ++ []) behind))), refl)

-- what an expression of the kind becomes, where the whole expression `e` and its operands throw nothing that is found
pub quiet_kind : (z : Bool) (p : Program) (b : Body) (v : ClassId → Bool) (kind : ExpressionKind) (e : ExprId) (t : Option VType) (d : ℕ) (pos : Pos) → None' v (expression_exceptions p b e) → None' v (thrown_by_call p kind ++ values p b (operands kind)) → Quiet z p b v (expression_front kind p b e t d pos)
quiet_kind z p b v (expressions.Literal l) e t d pos h h' = (refl, refl)
quiet_kind z p b v (expressions.Local x) e t d pos h h' = (refl, refl)
quiet_kind z p b v (expressions.This w) e t d pos h h' = (refl, refl)
quiet_kind z p b v (expressions.Field x f) e t d pos h h' = quiet_read z p b v x f d pos h'
quiet_kind z p b v (expressions.StaticField f) e t d pos h h' = (refl, refl)
quiet_kind z p b v (expressions.LibraryConstant m) e t d pos h h' = (refl, refl)
quiet_kind z p b v (expressions.Unary o x) e t d pos h h' = quiet_unary z p b v o x e t d pos h h'
quiet_kind z p b v (expressions.Binary x) e t d pos h h' = quiet_binary z p b v x.operator x e t d pos h h'
quiet_kind z p b v (expressions.Conditional c x y) e t d pos h h' = quiet_choice z p b v c x y d h'
quiet_kind z p b v (expressions.InstanceOf x w) e t d pos h h' = quiet_computes z p b v (operators.InstanceOf w) (x ∷ []) d pos h'
quiet_kind z p b v (expressions.PrimitiveCast x) e t d pos h h' = quiet_computes z p b v (operators.Convert (type_or_null t)) (x ∷ []) d pos h'
quiet_kind z p b v (expressions.ReferenceCast x) e t d pos h h' = (h', refl)
quiet_kind z p b v (expressions.Assignment target x) e t d pos h h' = quiet_assignment z p b v target x d pos h'
quiet_kind z p b v (expressions.OperatorAssignment a) e t d pos h h' =
    quiet_joined z p b v (computes (operators.Binary a.operator a.operands (type_or_null t)) (a.target ∷ a.value ∷ []) d pos) (stored b a.target d pos) (quiet_computes z p b v (operators.Binary a.operator a.operands (type_or_null t)) (a.target ∷ a.value ∷ []) d pos h') (quiet_stored_at z p b v (expression_at b a.target) d pos)
quiet_kind z p b v (expressions.PostfixStep a) e t d pos h h' =
    let both : List ExprId = a.target ∷ a.value ∷ [] in
    let once : List Todo = Ev a.target d ∷ computes (operators.Binary a.operator a.operands (type_or_null t)) both (d + 1) pos in
    let first : Quiet z p b v once = evaluates z p b v a.target d (computes (operators.Binary a.operator a.operands (type_or_null t)) both (d + 1) pos) (left v (expression_exceptions p b a.target) (values p b (a.value ∷ [])) h') (quiet_computes z p b v (operators.Binary a.operator a.operands (type_or_null t)) both (d + 1) pos h') in
    quiet_joined z p b v (once ++ stored b a.target (d + 1) pos) (Act (actions.Drop (scopes.Temp (d + 1))) pos ∷ []) (quiet_joined z p b v once (stored b a.target (d + 1) pos) first (quiet_stored_at z p b v (expression_at b a.target) (d + 1) pos)) (refl, refl)
quiet_kind z p b v (expressions.Call c) e t d pos h h' = quiet_call z p b v c.method c.arguments.items c.target d pos h'
quiet_kind z p b v (expressions.NewObject n) e t d pos h h' =
    let own : List ClassId = throws_clause p n.constructor in
    quiet_joined z p b v (evaluations n.arguments.items (d + 1)) (Act (actions.New n.constructor d (length n.arguments.items)) pos ∷ []) (evaluates_all z p b v n.arguments.items (d + 1) (right v own (values p b n.arguments.items) h')) (alone v own (left v own (values p b n.arguments.items) h'), refl)
quiet_kind z p b v (expressions.NewArray x) e t d pos h h' = quiet_computes z p b v (operators.NewArray (type_or_null t)) (x ∷ []) d pos h'
quiet_kind z p b v (expressions.Element a i) e t d pos h h' = quiet_computes z p b v operators.Element (a ∷ i ∷ []) d pos h'
quiet_kind z p b v (expressions.Length a) e t d pos h h' = quiet_computes z p b v operators.Length (a ∷ []) d pos h'

-- ---- conditions

quiet_value : (z : Bool) (p : Program) (b : Body) (v : ClassId → Bool) (e : ExprId) (at : Pos) (d : ℕ) (x y : Todos) → None' v (expression_exceptions p b e) → AreQuiet z p b v x → AreQuiet z p b v y → Quiet z p b v (tests_value e at d x y)
quiet_value z p b v e at d x y h hx hy =
    let both : List ClassId = thrown_in p b x ++ thrown_in p b y in
    (join v (expression_exceptions p b e) (both ++ []) h (alone v both (join v (thrown_in p b x) (thrown_in p b y) hx.0 hy.0)), and_both (fit z x && fit z y) true (and_both (fit z x) (fit z y) hx.1 hy.1) refl)

quiet_cond : (z : Bool) (p : Program) (b : Body) (v : ClassId → Bool) (c : ExprId) (d : ℕ) (x y : Todos) → None' v (expression_exceptions p b c) → AreQuiet z p b v x → AreQuiet z p b v y → Quiet z p b v (Cond (conditions.Of c) d x y ∷ [])
quiet_cond z p b v c d x y h hx hy =
    let both : List ClassId = thrown_in p b x ++ thrown_in p b y in
    (alone v (expression_exceptions p b c ++ both) (join v (expression_exceptions p b c) both h (join v (thrown_in p b x) (thrown_in p b y) hx.0 hy.0)), and_both (fit z x && fit z y) true (and_both (fit z x) (fit z y) hx.1 hy.1) refl)

-- a test of a value for `null`
quiet_fork : (z : Bool) (p : Program) (b : Body) (v : ClassId → Bool) (e : ExprId) (at : Pos) (d : ℕ) (x y : Todos) → None' v (expression_exceptions p b e) → AreQuiet z p b v x → AreQuiet z p b v y → Quiet z p b v (Ev e d ∷ NullFork at d x y ∷ [])
quiet_fork z p b v e at d x y h hx hy =
    let both : List ClassId = thrown_in p b x ++ thrown_in p b y in
    (join v (expression_exceptions p b e) (both ++ []) h (alone v both (join v (thrown_in p b x) (thrown_in p b y) hx.0 hy.0)), and_both (fit z x && fit z y) true (and_both (fit z x) (fit z y) hx.1 hy.1) refl)

-- a condition that follows another
inner : (z : Bool) (p : Program) (b : Body) (v : ClassId → Bool) (c : ExprId) (d : ℕ) (x y : Todos) → None' v (expression_exceptions p b c) → AreQuiet z p b v x → AreQuiet z p b v y → AreQuiet z p b v (one (Cond (conditions.Of c) d x y))
inner z p b v c d x y h hx hy =
    let both : List ClassId = thrown_in p b x ++ thrown_in p b y in
    (alone v (expression_exceptions p b c ++ both) (join v (expression_exceptions p b c) both h (join v (thrown_in p b x) (thrown_in p b y) hx.0 hy.0)), and_both (fit z x && fit z y) true (and_both (fit z x) (fit z y) hx.1 hy.1) refl)

quiet_literal : (z : Bool) (p : Program) (b : Body) (v : ClassId → Bool) (l : Literal) (e : ExprId) (at : Pos) (d : ℕ) (x y : Todos) → None' v (expression_exceptions p b e) → AreQuiet z p b v x → AreQuiet z p b v y → Quiet z p b v (literal_condition l e at d x y)
quiet_literal z p b v (literals.Boolean true) e at d x y h hx hy = quiet_list z p b v x hx
quiet_literal z p b v (literals.Boolean false) e at d x y h hx hy = quiet_list z p b v y hy
quiet_literal z p b v (literals.Number n) e at d x y h hx hy = quiet_value z p b v e at d x y h hx hy
quiet_literal z p b v (literals.Character c) e at d x y h hx hy = quiet_value z p b v e at d x y h hx hy
quiet_literal z p b v literals.Text e at d x y h hx hy = quiet_value z p b v e at d x y h hx hy
quiet_literal z p b v literals.Null e at d x y h hx hy = quiet_value z p b v e at d x y h hx hy

quiet_not : (z : Bool) (p : Program) (b : Body) (v : ClassId → Bool) (o : UnaryOperator) (c e : ExprId) (at : Pos) (d : ℕ) (x y : Todos) → None' v (expression_exceptions p b e) → None' v (values p b (c ∷ [])) → AreQuiet z p b v x → AreQuiet z p b v y → Quiet z p b v (unary_condition o c e at d x y)
quiet_not z p b v unary.Not c e at d x y h h' hx hy = quiet_cond z p b v c d y x (left v (expression_exceptions p b c) [] h') hy hx
quiet_not z p b v unary.Plus c e at d x y h h' hx hy = quiet_value z p b v e at d x y h hx hy
quiet_not z p b v unary.Minus c e at d x y h h' hx hy = quiet_value z p b v e at d x y h hx hy
quiet_not z p b v unary.Complement c e at d x y h h' hx hy = quiet_value z p b v e at d x y h hx hy

-- the operand that is compared with `null` is one of the two
quiet_compared : (p : Program) (b : Body) (v : ClassId → Bool) (z : BinaryExpression) → None' v (values p b (z.left ∷ z.right ∷ [])) → (o : Option ExprId) → compared_with_null b z ≡ o → (e : ExprId) → o ≡ Some e → None' v (expression_exceptions p b e)
quiet_compared p b v z h o is e has = step (is_null b z.right) (is_null b z.left) (is ∙ has)
  where
    first : None' v (expression_exceptions p b z.left)
    first = left v (expression_exceptions p b z.left) (values p b (z.right ∷ [])) h

    second : None' v (expression_exceptions p b z.right)
    second = left v (expression_exceptions p b z.right) [] (right v (expression_exceptions p b z.left) (values p b (z.right ∷ [])) h)

    along : (y : ExprId) → Some y ≡ Some e → None' v (expression_exceptions p b y) → None' v (expression_exceptions p b e)
    along y same here = subst (λ (w : ExprId). None' v (expression_exceptions p b w)) (let eq : y ≡ e = cc in eq) here

    step : (r l : Bool) → (if r then Some z.left else (if l then Some z.right else None)) ≡ Some e → None' v (expression_exceptions p b e)
    step true l same = along z.left same first
    step false true same = along z.right same second
    step false false same = absurd (let no : None ≡ Some e = same in cc)

quiet_equal : (z : Bool) (p : Program) (b : Body) (v : ClassId → Bool) (o : Option ExprId) (e : ExprId) (at : Pos) (d : ℕ) (x y : Todos) → None' v (expression_exceptions p b e) → ((w : ExprId) → o ≡ Some w → None' v (expression_exceptions p b w)) → AreQuiet z p b v x → AreQuiet z p b v y → Quiet z p b v (equal_condition o e at d x y)
quiet_equal z p b v None e at d x y h h' hx hy = quiet_value z p b v e at d x y h hx hy
quiet_equal z p b v (Some w) e at d x y h h' hx hy = quiet_fork z p b v w at d x y (h' w refl) hx hy

quiet_unequal : (z : Bool) (p : Program) (b : Body) (v : ClassId → Bool) (o : Option ExprId) (e : ExprId) (at : Pos) (d : ℕ) (x y : Todos) → None' v (expression_exceptions p b e) → ((w : ExprId) → o ≡ Some w → None' v (expression_exceptions p b w)) → AreQuiet z p b v x → AreQuiet z p b v y → Quiet z p b v (not_equal_condition o e at d x y)
quiet_unequal z p b v None e at d x y h h' hx hy = quiet_value z p b v e at d x y h hx hy
quiet_unequal z p b v (Some w) e at d x y h h' hx hy = quiet_fork z p b v w at d y x (h' w refl) hy hx

quiet_both : (z : Bool) (p : Program) (b : Body) (v : ClassId → Bool) (o : BinaryOperator) (w : BinaryExpression) (e : ExprId) (at : Pos) (d : ℕ) (x y : Todos) → None' v (expression_exceptions p b e) → None' v (values p b (w.left ∷ w.right ∷ [])) → AreQuiet z p b v x → AreQuiet z p b v y → Quiet z p b v (binary_condition o w b e at d x y)
quiet_both z p b v binary.ConditionalAnd w e at d x y h h' hx hy =
    let rest : List ClassId = values p b (w.right ∷ []) in
    quiet_cond z p b v w.left d (one (Cond (conditions.Of w.right) d x y)) y (left v (expression_exceptions p b w.left) rest h') (inner z p b v w.right d x y (left v (expression_exceptions p b w.right) [] (right v (expression_exceptions p b w.left) rest h')) hx hy) hy
quiet_both z p b v binary.ConditionalOr w e at d x y h h' hx hy =
    let rest : List ClassId = values p b (w.right ∷ []) in
    quiet_cond z p b v w.left d x (one (Cond (conditions.Of w.right) d x y)) (left v (expression_exceptions p b w.left) rest h') hx (inner z p b v w.right d x y (left v (expression_exceptions p b w.right) [] (right v (expression_exceptions p b w.left) rest h')) hx hy)
quiet_both z p b v binary.Equal w e at d x y h h' hx hy = quiet_equal z p b v (compared_with_null b w) e at d x y h (quiet_compared p b v w h' (compared_with_null b w) refl) hx hy
quiet_both z p b v binary.NotEqual w e at d x y h h' hx hy = quiet_unequal z p b v (compared_with_null b w) e at d x y h (quiet_compared p b v w h' (compared_with_null b w) refl) hx hy
quiet_both z p b v o w e at d x y h h' hx hy = quiet_value z p b v e at d x y h hx hy

quiet_kind_condition : (z : Bool) (p : Program) (b : Body) (v : ClassId → Bool) (kind : ExpressionKind) (e : ExprId) (at : Pos) (d : ℕ) (x y : Todos) → None' v (expression_exceptions p b e) → None' v (thrown_by_call p kind ++ values p b (operands kind)) → AreQuiet z p b v x → AreQuiet z p b v y → Quiet z p b v (kind_condition kind b e at d x y)
quiet_kind_condition z p b v (expressions.Literal l) e at d x y h h' hx hy = quiet_literal z p b v l e at d x y h hx hy
quiet_kind_condition z p b v (expressions.Unary o c) e at d x y h h' hx hy = quiet_not z p b v o c e at d x y h h' hx hy
quiet_kind_condition z p b v (expressions.Binary w) e at d x y h h' hx hy = quiet_both z p b v w.operator w e at d x y h h' hx hy
quiet_kind_condition z p b v kind e at d x y h h' hx hy = quiet_value z p b v e at d x y h hx hy

quiet_node : (z : Bool) (p : Program) (b : Body) → PartsComeFirst b → (v : ClassId → Bool) (e : ExprId) (o : Option TExpr) → expression_at b e ≡ o → (d : ℕ) (x y : Todos) → None' v (expression_exceptions p b e) → AreQuiet z p b v x → AreQuiet z p b v y → Quiet z p b v (node_condition o b e d x y)
quiet_node z p b first v e None here d x y h hx hy = quiet_value z p b v e nowhere d x y h hx hy
quiet_node z p b first v e (Some n) here d x y h hx hy = quiet_kind_condition z p b v n.kind e n.pos d x y h (ap (list_any v) (sym (value_law p b first e n here)) ∙ h) hx hy

-- what a condition becomes
pub quiet_condition : (z : Bool) (p : Program) (b : Body) → PartsComeFirst b → (v : ClassId → Bool) (c : Condition) (d : ℕ) (x y : Todos) → None' v (condition_exceptions p b c) → AreQuiet z p b v x → AreQuiet z p b v y → Quiet z p b v (condition_front b c d x y)
quiet_condition z p b first v (conditions.Of e) d x y h hx hy = quiet_node z p b first v e (expression_at b e) refl d x y h hx hy
quiet_condition z p b first v (conditions.Absent pos) d x y h hx hy = quiet_list z p b v x hx
