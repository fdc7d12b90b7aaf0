-- What statements, expressions and conditions become does not set the variable, where what they assign and declare is another one.
use Rattle.std.proofs.Common.{◌≡◌, ℕ, ◌+◌, Bool, true, false, nat_eq, Option, Some, None, List, [], ◌∷◌, ◌++◌, All, length, map, reverse, flat_map, refl, if◌then◌else◌}
use Rattle.std.proofs.lemmas.List.Elements.{All-cons, All-head, All-nil, All-tail}
use Rattle.program_model.specs.declared.kinds.BinaryOperator.{BinaryOperator}
use Rattle.program_model.specs.declared.kinds.BinaryOperator.TheVariants as binary
use Rattle.program_model.specs.declared.kinds.ExprId.{ExprId}
use Rattle.program_model.specs.declared.kinds.FieldId.{FieldId}
use Rattle.program_model.specs.declared.kinds.Literal.{Literal}
use Rattle.program_model.specs.declared.kinds.Literal.TheVariants as literals
use Rattle.program_model.specs.declared.kinds.MethodId.{MethodId}
use Rattle.program_model.specs.declared.kinds.StmtId.{StmtId}
use Rattle.program_model.specs.declared.kinds.UnaryOperator.{UnaryOperator}
use Rattle.program_model.specs.declared.kinds.UnaryOperator.TheVariants as unary
use Rattle.program_model.specs.declared.kinds.VType.{VType}
use Rattle.program_model.specs.declared.program.Program.{Program}
use Rattle.program_model.specs.declared.tree.AssignmentTarget.{AssignmentTarget}
use Rattle.program_model.specs.declared.tree.AssignmentTarget.TheVariants as targets
use Rattle.program_model.specs.declared.tree.BinaryExpression.{BinaryExpression}
use Rattle.program_model.specs.declared.tree.Body.{Body}
use Rattle.program_model.specs.declared.tree.CallTarget.{CallTarget}
use Rattle.program_model.specs.declared.tree.CallTarget.TheVariants as calls
use Rattle.program_model.specs.declared.tree.CatchClause.{CatchClause}
use Rattle.program_model.specs.declared.tree.Declarator.{Declarator}
use Rattle.program_model.specs.declared.tree.ExpressionKind.{ExpressionKind}
use Rattle.program_model.specs.declared.tree.ExpressionKind.TheVariants as expressions
use Rattle.program_model.specs.declared.tree.ForInitial.{ForInitial}
use Rattle.program_model.specs.declared.tree.ForInitial.TheVariants as initials
use Rattle.program_model.specs.declared.tree.NewObject.{NewObject}
use Rattle.program_model.specs.declared.tree.OperatorAssignment.{OperatorAssignment}
use Rattle.program_model.specs.declared.tree.Resource.{Resource}
use Rattle.program_model.specs.declared.tree.StatementKind.{StatementKind}
use Rattle.program_model.specs.declared.tree.StatementKind.TheVariants as statements
use Rattle.program_model.specs.declared.tree.SuperCall.{SuperCall}
use Rattle.program_model.specs.declared.tree.TExpr.{TExpr}
use Rattle.program_model.specs.declared.tree.TextPart.TheVariants.{Statement, Variable}
use Rattle.program_model.specs.declared.tree.TryStatement.{TryStatement}
use Rattle.program_model.specs.Lookups.{expression_at}
use Rattle.program_model.specs.TextOrder.{declarator_parts, initial_parts, text_parts}
use Rattle.accepted_programs.specs.Assigned.{assigned_variable, variable_in, variable_of, variable_to}
use Rattle.rlc_base.specs.declared.place.Pos.{Pos}
use Rattle.java_control.specs.Conditions.{binary_condition, condition_front, equal_condition, kind_condition, literal_condition, node_condition, not_equal_condition, tests_value, unary_condition}
use Rattle.java_control.specs.Expressions.{assignment_front, binary_front, call_with, comparison_front, computes, evaluations, expression_front, field_read, field_store, new_front, postfix_front, stored, stored_at, stored_in, type_or_null, unary_front, update_front}
use Rattle.java_control.specs.NullTests.{compared_with_null}
use Rattle.java_control.specs.Owned.{has_place, is_this, place_of_field}
use Rattle.java_control.specs.Remaining.{Todos, Do, Ev, Act, Leave, For}
use Rattle.java_control.specs.Scopes.{drops_variable}
use Rattle.java_control.specs.Statements.{clauses_front, closes, declaration_front, declarator_front, declarator_with, finally_front, for_turn, head_front, initial_front, list_of_branch, loop_turn, opens, resources_front, return_front, statement_front, super_front, try_front}
use Rattle.control_actions.specs.declared.action.Action.TheVariants as actions
use Rattle.control_actions.specs.declared.action.Operator.{Operator}
use Rattle.control_actions.specs.declared.action.Operator.TheVariants as operators
use Rattle.control_actions.specs.declared.action.Scope.TheVariants as scopes
use Rattle.control_actions.specs.declared.action.TargetForm.TheVariants as forms
use Rattle.control_actions.specs.declared.place.Place.TheVariants as places
use Rattle.control_actions.specs.declared.item.Condition.{Condition}
use Rattle.control_actions.specs.declared.item.Condition.TheVariants as conditions
use Rattle.step_laws.proofs.Declared.{AreOtherParts, clause_parts_in, final_parts, parts_first, resource_parts}
use Rattle.step_laws.proofs.AssignedItems.{AllGood, AreGood, all_reversed, good_both, good_todos}
use Rattle.step_laws.proofs.Unassigned.{IsOther}

module _ (p : Program) (b : Body) (v : ℕ) where
  good_evaluations : (es : List ExprId) (d : ℕ) → AllGood b v (evaluations es d)
  good_evaluations [] d = tt
  good_evaluations (e ∷ es) d = (tt, good_evaluations es (d + 1))

  good_computes : (k : Operator) (es : List ExprId) (d : ℕ) (pos : Pos) → AllGood b v (computes k es d pos)
  good_computes k es d pos = good_both b v (evaluations es d) (Act (actions.Op k d (length es)) pos ∷ []) (good_evaluations es d) (refl, tt)

  good_read : (e : ExprId) (f : FieldId) (d : ℕ) (pos : Pos) → AllGood b v (field_read p b e f d pos)
  good_read e f d pos = go (has_place p b e f)
    where
      go : (x : Bool) → AllGood b v (if x then Act (actions.Copy (places.Temp d) (place_of_field p f)) pos ∷ [] else (Ev e d ∷ Act (actions.Get f d (is_this b e)) pos ∷ []))
      go true = (refl, tt)
      go false = (tt, (refl, tt))

  good_field_store : (e : ExprId) (f : FieldId) (value : ExprId) (d : ℕ) (pos : Pos) → AllGood b v (field_store p b e f value d pos)
  good_field_store e f value d pos = go (has_place p b e f)
    where
      go : (x : Bool) → AllGood b v (if x then Ev value d ∷ Act (actions.PutOwn f d) pos ∷ [] else (Ev e d ∷ Ev value (d + 1) ∷ Act (actions.Put f d (is_this b e)) pos ∷ []))
      go true = (tt, (refl, tt))
      go false = (tt, (tt, (refl, tt)))

  good_assignment : (x : AssignmentTarget) (value : ExprId) (d : ℕ) (pos : Pos) → IsOther v (variable_to x) → AllGood b v (assignment_front p b x value d pos)
  good_assignment (targets.Local x) value d pos other = (tt, (other, tt))
  good_assignment (targets.Field e f) value d pos other = good_field_store e f value d pos
  good_assignment (targets.StaticField f) value d pos other = good_computes (operators.StoreStatic f) (value ∷ []) d pos
  good_assignment (targets.Element a i) value d pos other = good_computes operators.StoreElement (a ∷ i ∷ value ∷ []) d pos

  good_stored_in : (k : ExpressionKind) (d : ℕ) (pos : Pos) → IsOther v (variable_of k) → AllGood b v (stored_in k d pos)
  good_stored_in (expressions.Literal l) d pos other = tt
  good_stored_in (expressions.Local x) d pos other = (other, tt)
  good_stored_in (expressions.StaticField f) d pos other = (refl, tt)
  good_stored_in (expressions.Field e f) d pos other = (refl, (refl, (refl, tt)))
  good_stored_in k d pos other = tt

  good_stored : (target : ExprId) (d : ℕ) (pos : Pos) → IsOther v (variable_in (expression_at b target)) → AllGood b v (stored b target d pos)
  good_stored target d pos other = go (expression_at b target) other
    where
      go : (x : Option TExpr) → IsOther v (variable_in x) → AllGood b v (stored_at x d pos)
      go None other = tt
      go (Some x) other = good_stored_in x.kind d pos other

  good_update : (a : OperatorAssignment) (u : Option VType) (d : ℕ) (pos : Pos) → IsOther v (variable_in (expression_at b a.target)) → AllGood b v (update_front b a u d pos)
  good_update a u d pos other =
      good_both b v (computes (operators.Binary a.operator a.operands (type_or_null u)) (a.target ∷ a.value ∷ []) d pos) (stored b a.target d pos)
      (good_computes (operators.Binary a.operator a.operands (type_or_null u)) (a.target ∷ a.value ∷ []) d pos) (good_stored a.target d pos other)

  good_postfix : (a : OperatorAssignment) (u : Option VType) (d : ℕ) (pos : Pos) → IsOther v (variable_in (expression_at b a.target)) → AllGood b v (postfix_front b a u d pos)
  good_postfix a u d pos other =
      good_both b v (Ev a.target d ∷ computes (operators.Binary a.operator a.operands (type_or_null u)) (a.target ∷ a.value ∷ []) (d + 1) pos ++ stored b a.target (d + 1) pos)
      (Act (actions.Drop (scopes.Temp (d + 1))) pos ∷ [])
      (good_both b v (Ev a.target d ∷ computes (operators.Binary a.operator a.operands (type_or_null u)) (a.target ∷ a.value ∷ []) (d + 1) pos) (stored b a.target (d + 1) pos)
      (tt, good_computes (operators.Binary a.operator a.operands (type_or_null u)) (a.target ∷ a.value ∷ []) (d + 1) pos) (good_stored a.target (d + 1) pos other))
      (refl, tt)

  good_call_with : (m : MethodId) (es : List ExprId) (c : CallTarget) (d : ℕ) (pos : Pos) → AllGood b v (call_with m es c d pos)
  good_call_with m es calls.Static d pos = good_both b v (evaluations es d) (Act (actions.Call m d (length es) forms.Static) pos ∷ []) (good_evaluations es d) (refl, tt)
  good_call_with m es (calls.This e) d pos =
      good_both b v (Ev e d ∷ evaluations es (d + 1)) (Act (actions.Call m d (length es + 1) forms.This) pos ∷ []) (tt, good_evaluations es (d + 1)) (refl, tt)
  good_call_with m es (calls.Super e) d pos =
      good_both b v (Ev e d ∷ evaluations es (d + 1)) (Act (actions.Call m d (length es + 1) forms.Super) pos ∷ []) (tt, good_evaluations es (d + 1)) (refl, tt)
  good_call_with m es (calls.Other e) d pos =
      good_both b v (Ev e d ∷ evaluations es (d + 1)) (Act (actions.Call m d (length es + 1) forms.Other) pos ∷ []) (tt, good_evaluations es (d + 1)) (refl, tt)

  good_new : (n : NewObject) (d : ℕ) (pos : Pos) → AllGood b v (new_front n d pos)
  good_new n d pos =
      good_both b v (evaluations n.arguments.items (d + 1)) (Act (actions.New n.constructor d (length n.arguments.items)) pos ∷ []) (good_evaluations n.arguments.items (d + 1)) (refl, tt)

  good_unary : (o : UnaryOperator) (x e : ExprId) (t : Option VType) (d : ℕ) (pos : Pos) → AllGood b v (unary_front o x e t d pos)
  good_unary unary.Not x e t d pos = (((refl, tt), (refl, tt)), tt)
  good_unary o x e t d pos = good_computes (operators.Unary o (type_or_null t)) (x ∷ []) d pos

  good_comparison : (y : Option ExprId) (x : BinaryExpression) (e : ExprId) (t : Option VType) (d : ℕ) (pos : Pos) → AllGood b v (comparison_front y x e t d pos)
  good_comparison (Some y) x e t d pos = (((refl, tt), (refl, tt)), tt)
  good_comparison None x e t d pos = good_computes (operators.Binary x.operator x.operands (type_or_null t)) (x.left ∷ x.right ∷ []) d pos

  good_binary : (o : BinaryOperator) (x : BinaryExpression) (e : ExprId) (t : Option VType) (d : ℕ) (pos : Pos) → AllGood b v (binary_front o x b e t d pos)
  good_binary binary.ConditionalAnd x e t d pos = (((refl, tt), (refl, tt)), tt)
  good_binary binary.ConditionalOr x e t d pos = (((refl, tt), (refl, tt)), tt)
  good_binary binary.Equal x e t d pos = good_comparison (compared_with_null b x) x e t d pos
  good_binary binary.NotEqual x e t d pos = good_comparison (compared_with_null b x) x e t d pos
  good_binary o x e t d pos = good_computes (operators.Binary x.operator x.operands (type_or_null t)) (x.left ∷ x.right ∷ []) d pos

  pub good_expression : (k : ExpressionKind) (e : ExprId) (t : Option VType) (d : ℕ) (pos : Pos) → IsOther v (assigned_variable b k) → AllGood b v (expression_front k p b e t d pos)
  good_expression (expressions.Literal l) e t d pos other = (refl, tt)
  good_expression (expressions.Local x) e t d pos other = (refl, tt)
  good_expression (expressions.This written) e t d pos other = (refl, tt)
  good_expression (expressions.Field x f) e t d pos other = good_read x f d pos
  good_expression (expressions.StaticField f) e t d pos other = (refl, tt)
  good_expression (expressions.LibraryConstant m) e t d pos other = (refl, tt)
  good_expression (expressions.Unary o x) e t d pos other = good_unary o x e t d pos
  good_expression (expressions.Binary x) e t d pos other = good_binary x.operator x e t d pos
  good_expression (expressions.Conditional c x y) e t d pos other = (((tt, tt), (tt, tt)), tt)
  good_expression (expressions.InstanceOf x tested) e t d pos other = good_computes (operators.InstanceOf tested) (x ∷ []) d pos
  good_expression (expressions.PrimitiveCast x) e t d pos other = good_computes (operators.Convert (type_or_null t)) (x ∷ []) d pos
  good_expression (expressions.ReferenceCast x) e t d pos other = (tt, (refl, tt))
  good_expression (expressions.Assignment x value) e t d pos other = good_assignment x value d pos other
  good_expression (expressions.OperatorAssignment a) e t d pos other = good_update a t d pos other
  good_expression (expressions.PostfixStep a) e t d pos other = good_postfix a t d pos other
  good_expression (expressions.Call c) e t d pos other = good_call_with c.method c.arguments.items c.target d pos
  good_expression (expressions.NewObject n) e t d pos other = good_new n d pos
  good_expression (expressions.NewArray x) e t d pos other = good_computes (operators.NewArray (type_or_null t)) (x ∷ []) d pos
  good_expression (expressions.Element a i) e t d pos other = good_computes operators.Element (a ∷ i ∷ []) d pos
  good_expression (expressions.Length a) e t d pos other = good_computes operators.Length (a ∷ []) d pos

  -- ---- conditions

  module _ (x y : Todos) (gx : AreGood b v x) (gy : AreGood b v y) where
    good_tests : (e : ExprId) (pos : Pos) (d : ℕ) → AllGood b v (tests_value e pos d x y)
    good_tests e pos d = (tt, ((gx, gy), tt))

    good_literal : (l : Literal) (e : ExprId) (pos : Pos) (d : ℕ) → AllGood b v (literal_condition l e pos d x y)
    good_literal (literals.Number z) e pos d = good_tests e pos d
    good_literal (literals.Boolean true) e pos d = good_todos b v x gx
    good_literal (literals.Boolean false) e pos d = good_todos b v y gy
    good_literal l e pos d = good_tests e pos d

    good_not : (o : UnaryOperator) (c e : ExprId) (pos : Pos) (d : ℕ) → AllGood b v (unary_condition o c e pos d x y)
    good_not unary.Not c e pos d = ((gy, gx), tt)
    good_not o c e pos d = good_tests e pos d

    good_equal : (z : Option ExprId) (e : ExprId) (pos : Pos) (d : ℕ) → AllGood b v (equal_condition z e pos d x y)
    good_equal (Some z) e pos d = (tt, ((gx, gy), tt))
    good_equal None e pos d = good_tests e pos d

    good_not_equal : (z : Option ExprId) (e : ExprId) (pos : Pos) (d : ℕ) → AllGood b v (not_equal_condition z e pos d x y)
    good_not_equal (Some z) e pos d = (tt, ((gy, gx), tt))
    good_not_equal None e pos d = good_tests e pos d

    good_both_sides : (o : BinaryOperator) (z : BinaryExpression) (e : ExprId) (pos : Pos) (d : ℕ) → AllGood b v (binary_condition o z b e pos d x y)
    good_both_sides binary.ConditionalAnd z e pos d = ((((gx, gy), tt), gy), tt)
    good_both_sides binary.ConditionalOr z e pos d = ((gx, ((gx, gy), tt)), tt)
    good_both_sides binary.Equal z e pos d = good_equal (compared_with_null b z) e pos d
    good_both_sides binary.NotEqual z e pos d = good_not_equal (compared_with_null b z) e pos d
    good_both_sides o z e pos d = good_tests e pos d

    good_kind : (k : ExpressionKind) (e : ExprId) (pos : Pos) (d : ℕ) → AllGood b v (kind_condition k b e pos d x y)
    good_kind (expressions.Literal l) e pos d = good_literal l e pos d
    good_kind (expressions.Unary o c) e pos d = good_not o c e pos d
    good_kind (expressions.Binary z) e pos d = good_both_sides z.operator z e pos d
    good_kind k e pos d = good_tests e pos d

    good_node : (z : Option TExpr) (e : ExprId) (d : ℕ) → AllGood b v (node_condition z b e d x y)
    good_node None e d = (tt, ((gx, gy), tt))
    good_node (Some z) e d = good_kind z.kind e z.pos d

    pub good_condition : (c : Condition) (d : ℕ) → AllGood b v (condition_front b c d x y)
    good_condition (conditions.Of e) d = good_node (expression_at b e) e d
    good_condition (conditions.Absent pos) d = good_todos b v x gx

  -- ---- statements

  good_declarator : (d : ℕ) (x : Declarator) → nat_eq x.variable v ≡ false → AllGood b v (declarator_front b d x)
  good_declarator d x other = go x.initializer
    where
      go : (e : Option ExprId) → AllGood b v (declarator_with b x.variable e d x.pos)
      go None = (other, tt)
      go (Some e) = (tt, (other, tt))

  good_declaration : (d : ℕ) (names : List Declarator) → AreOtherParts v (declarator_parts names) → AllGood b v (declaration_front b d names)
  good_declaration d [] others = tt
  good_declaration d (x ∷ names) others = good_both b v (declarator_front b d x) (declaration_front b d names) (good_declarator d x others.0) (good_declaration d names others.1)

  good_head : (d : ℕ) (es : List ExprId) → AllGood b v (head_front b d es)
  good_head d [] = tt
  good_head d (e ∷ es) = (tt, (refl, good_head d es))

  good_initial : (d : ℕ) (x : ForInitial) → AreOtherParts v (initial_parts x) → AllGood b v (initial_front b d x)
  good_initial d (initials.Declaration names) others = good_declaration d names.items others
  good_initial d (initials.Expressions es) others = good_head d es.items

  abbrev IsOtherResource : Resource → Type 0
  IsOtherResource r = nat_eq r.variable v ≡ false

  other_resources : (rs : List Resource) → AreOtherParts v (map (λ r. Variable r.variable) rs) → All IsOtherResource rs
  other_resources [] others = All-nil IsOtherResource
  other_resources (r ∷ rs) others = All-cons IsOtherResource r rs others.0 (other_resources rs others.1)

  good_opens : (d : ℕ) (rs : List Resource) → All IsOtherResource rs → AllGood b v (flat_map (opens d) rs)
  good_opens d [] others = tt
  good_opens d (r ∷ rs) others = (tt, (All-head IsOtherResource r rs others, good_opens d rs (All-tail IsOtherResource r rs others)))

  good_closes : (s : StmtId) (d : ℕ) (rs : List Resource) → All IsOtherResource rs → AllGood b v (flat_map (closes s d) rs)
  good_closes s d [] others = tt
  good_closes s d (r ∷ rs) others = (tt, (All-head IsOtherResource r rs others, good_closes s d rs (All-tail IsOtherResource r rs others)))

  good_resources : (s : StmtId) (t : TryStatement) (d : ℕ) → All IsOtherResource t.resources.items → AllGood b v (resources_front s t d)
  good_resources s t d others =
      good_both b v (flat_map (opens d) t.resources.items) (Do t.block d ∷ flat_map (closes s d) (reverse t.resources.items)) (good_opens d t.resources.items others)
      (tt, good_closes s d (reverse t.resources.items) (all_reversed IsOtherResource t.resources.items others))

  good_clauses : (s : StmtId) (cs : List CatchClause) (d : ℕ) → AllGood b v (clauses_front s cs d)
  good_clauses s [] d = tt
  good_clauses s (c ∷ cs) d = (tt, tt)

  good_finally : (f : Option StmtId) (d : ℕ) → AllGood b v (finally_front f d)
  good_finally None d = tt
  good_finally (Some f) d = (tt, tt)

  good_try : (s : StmtId) (t : TryStatement) (d : ℕ) → AreOtherParts v (text_parts (statements.Try t)) → AllGood b v (try_front s t d)
  good_try s t d others =
      good_both b v (resources_front s t d ++ clauses_front s t.catches.items d) (finally_front t.finally d)
      (good_both b v (resources_front s t d) (clauses_front s t.catches.items d)
      (good_resources s t d (other_resources t.resources.items (parts_first v (resource_parts t) (clause_parts_in t) (parts_first v (resource_parts t ++ clause_parts_in t) (final_parts t) others))))
      (good_clauses s t.catches.items d))
      (good_finally t.finally d)

  pub good_super : (c : SuperCall) (d : ℕ) (pos : Pos) → AllGood b v (super_front c d pos)
  good_super c d pos =
      good_both b v (Act (actions.Copy (places.Temp d) places.This) pos ∷ evaluations c.arguments.items (d + 1))
      (Act (actions.Super c.constructor d (length c.arguments.items + 1)) pos ∷ Act (actions.Drop (scopes.Temp d)) pos ∷ [])
      (refl, good_evaluations c.arguments.items (d + 1)) (refl, (refl, tt))

  good_dos : (d : ℕ) (ss : List StmtId) → AllGood b v (map (λ x. Do x d) ss)
  good_dos d [] = tt
  good_dos d (s ∷ ss) = (tt, good_dos d ss)

  good_branch : (y : Option StmtId) (d : ℕ) → AreGood b v (list_of_branch y d)
  good_branch None d = tt
  good_branch (Some s) d = (tt, tt)

  good_return : (e : Option ExprId) (d : ℕ) (pos : Pos) → AllGood b v (return_front e d pos)
  good_return None d pos = (tt, tt)
  good_return (Some e) d pos = (tt, (tt, tt))

  -- a block's end, and that of a `for`, do not empty the variable
  module _ (s : StmtId) (leaves : drops_variable b (scopes.Declared s) v ≡ false) where
    pub good_statement : (k : StatementKind) (d : ℕ) (pos : Pos) → AreOtherParts v (text_parts k) → AllGood b v (statement_front k b s d pos)
    good_statement (statements.Block ss end) d pos others = good_both b v (map (λ x. Do x d) ss.items) (Leave (scopes.Declared s) pos ∷ []) (good_dos d ss.items) (leaves, tt)
    good_statement statements.Empty d pos others = tt
    good_statement (statements.LocalDeclaration names) d pos others = good_declaration d names.items others
    good_statement (statements.Expression e) d pos others = (tt, (refl, tt))
    good_statement (statements.If c x y) d pos others = (((tt, tt), good_branch y d), tt)
    good_statement (statements.While c x) d pos others = (((tt, (tt, tt)), tt), tt)
    good_statement (statements.Do x c) d pos others = (tt, (tt, tt))
    good_statement (statements.For l) d pos others =
        good_both b v (initial_front b d l.initial) (For s d ∷ Leave (scopes.Declared s) pos ∷ [])
        (good_initial d l.initial (parts_first v (initial_parts l.initial) (Statement l.body ∷ []) others)) (tt, (leaves, tt))
    good_statement (statements.Return e) d pos others = good_return e d pos
    good_statement (statements.Throw e) d pos others = (tt, (refl, tt))
    good_statement statements.Break d pos others = (tt, tt)
    good_statement statements.Continue d pos others = (tt, tt)
    good_statement (statements.Try t) d pos others = good_try s t d others
    good_statement (statements.SuperCall c) d pos others = good_super c d pos
    good_statement (statements.FieldInitializer e) d pos others = (tt, (refl, tt))

  pub good_for_turn : (k : StatementKind) (w : StmtId) (d : ℕ) (pos : Pos) → AllGood b v (for_turn k w d pos)
  good_for_turn (statements.Block ss end) w d pos = tt
  good_for_turn (statements.For l) w d pos = (((tt, (tt, tt)), tt), tt)
  good_for_turn k w d pos = tt

  pub good_loop_turn : (k : StatementKind) (w : StmtId) (d : ℕ) → AllGood b v (loop_turn k b w d)
  good_loop_turn (statements.Block ss end) w d = tt
  good_loop_turn (statements.While c x) w d = (tt, tt)
  good_loop_turn (statements.Do x c) w d = (((tt, tt), tt), tt)
  good_loop_turn (statements.For l) w d = good_both b v (head_front b d l.updates.items) (For w d ∷ []) (good_head d l.updates.items) (tt, tt)
  good_loop_turn k w d = tt
