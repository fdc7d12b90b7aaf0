-- The typed statements of an accepted body are ordered.
use Rattle.std.proofs.Common.{◌≡◌, ◌∙◌, sym, ap₂, refl, subst, ℕ, ◌+◌, Bool, true, false, Option, Some, None, List, [], ◌∷◌, ◌++◌, zip}
use Rattle.std.proofs.lemmas.List.{append-nil}
use Rattle.std.proofs.lemmas.List.Elements.{All-cons, All-nil}
use Rattle.program_model.specs.declared.kinds.FieldId.{FieldId}
use Rattle.program_model.specs.declared.program.ParamSig.{ParamSig}
use Rattle.java_syntax.specs.declared.declaration_trees.Param.{Param}
use Rattle.java_typed_trees.specs.StatementTrees.{StmtTree, StmtTrees, no_statement, and_statement, statements}
use Rattle.java_variable_rules.proofs.VariableLaws.{AreTyped, IsTyped}
use Rattle.java_typing_laws.proofs.Goodness.{nil_left, nil_right, nil_second}
use Rattle.java_typing_laws.specs.StatementCases.{statements_cases}
use Rattle.java_typing_laws.specs.StatementTrees.{statement_trees}
use Rattle.java_elaboration.specs.SourceClassesMembers.{Environment}
use Rattle.java_typing_laws.specs.Parameters.{parameter, parameters_cases, parameters_from}
use Rattle.java_typing_laws.specs.FieldInitializers.{initializer_statements, initializers_cases}
use Rattle.java_elaboration.specs.Bodies.{SourceBody, argument_surroundings, body_cases, body_context, declared_exceptions, head_cases, head_statements, locals_in}
use Rattle.java_typing_laws.specs.SuperCalls.{SuperCall, is_made, super_call_cases, super_call_statements}
use Rattle.elaboration_laws.specs.OrderedTrees.{HaveNoHeads, HaveNoSuperCall, HaveOneSuperCall, begin_with_super_call, fields_initialized, have_free_jump}
use Rattle.elaboration_laws.specs.BodyOrders.{AreOrdered, IsOrdered, calls_super, fields_run}
use Rattle.elaboration_laws.proofs.FieldOrders.{AreInitializers, are_initializers, fields_of_both, heads_then_plain, initializers_assign, initializers_enclosed, no_call_then_plain, plain_no_fields}
use Rattle.elaboration_laws.proofs.JumpsInLoops.{both_enclosed, statements_enclosed}
use Rattle.elaboration_laws.proofs.PlainStatements.{statements_plain}
use Rattle.elaboration_laws.proofs.SuperCallOrders.{IsCall, super_call_is}

-- ---- a super call, or none, then initialisers, then what is written

no_first_call : (ts : StmtTrees) → HaveNoSuperCall ts → begin_with_super_call ts ≡ false
no_first_call no_statement none = refl
no_first_call (and_statement t ts) none = none.0

no_other_call : (ts : StmtTrees) → HaveNoSuperCall ts → HaveOneSuperCall ts
no_other_call no_statement none = tt
no_other_call (and_statement t ts) none = none.1

fields_behind : (xs ys : List StmtTree) (fields : List FieldId) → fields_initialized (statements xs) ≡ fields → HaveNoHeads (statements ys) → fields_initialized (statements (xs ++ ys)) ≡ fields
fields_behind xs ys fields are plain = fields_of_both xs ys ∙ ap₂ (λ (fs gs : List FieldId). fs ++ gs) are (plain_no_fields (statements ys) plain) ∙ append-nil fields

parts_ordered : (made : Bool) (fields : List FieldId) (calls xs ys : List StmtTree) → IsCall made calls → AreInitializers xs → fields_initialized (statements xs) ≡ fields → HaveNoHeads (statements ys) → have_free_jump (statements ys) ≡ false → AreOrdered made fields (statements (calls ++ xs ++ ys))
parts_ordered true fields calls xs ys (m, written, place, es, is) are assign plain enclosed =
    subst (λ (zs : List StmtTree). AreOrdered true fields (statements (zs ++ xs ++ ys))) (sym is) (record {
      heads = (tt, heads_then_plain xs ys are plain);
      super_call = no_call_then_plain xs ys are plain;
      due = refl;
      initializers = fields_behind xs ys fields assign plain;
      jumps = both_enclosed xs ys (initializers_enclosed xs are) enclosed;
    })
parts_ordered false fields calls xs ys is are assign plain enclosed =
    let no_call = no_call_then_plain xs ys are plain in
    subst (λ (zs : List StmtTree). AreOrdered false fields (statements (zs ++ xs ++ ys))) (sym is) (record {
      heads = heads_then_plain xs ys are plain;
      super_call = no_other_call (statements (xs ++ ys)) no_call;
      due = no_first_call (statements (xs ++ ys)) no_call;
      initializers = fields_behind xs ys fields assign plain;
      jumps = both_enclosed xs ys (initializers_enclosed xs are) enclosed;
    })

-- ---- the body

parameters_typed : (n : ℕ) (ps : List (Param × ParamSig)) → AreTyped (parameters_from n ps)
parameters_typed n [] = All-nil (λ y. IsTyped y.variable.static_type)
parameters_typed n (p ∷ ps) = All-cons (λ y. IsTyped y.variable.static_type) (parameter n p.0 p.1) (parameters_from (n + 1) ps) tt (parameters_typed (n + 1) ps)

pub locals_typed : (b : SourceBody) → AreTyped (locals_in b)
locals_typed b = parameters_typed 0 (zip b.body.parameters b.signature.sig.params.items)

head_ordered : (e : Environment) (b : SourceBody) (call : Option SuperCall) (ys : List StmtTree) → head_cases e b call ≡ [] → HaveNoHeads (statements ys) → have_free_jump (statements ys) ≡ false → AreOrdered (calls_super e b call) (fields_run e b call) (statements (head_statements e b call ++ ys))
head_ordered e b None ys none plain enclosed = parts_ordered false [] [] [] ys refl tt refl plain enclosed
head_ordered e b (Some call) ys none plain enclosed =
    let s = argument_surroundings e b in
    let of_call = super_call_cases s call in
    let of_fields = initializers_cases e b.class' (declared_exceptions b) in
    parts_ordered (is_made s) (fields_run e b (Some call)) (super_call_statements s call) (initializer_statements e b.class' (declared_exceptions b)) ys
    (super_call_is s (locals_typed b) call (nil_left of_call of_fields none))
    (are_initializers e b.class' (declared_exceptions b))
    (initializers_assign e b.class' (declared_exceptions b) (nil_right of_call of_fields none))
    plain enclosed

pub body_ordered : (e : Environment) (b : SourceBody) → body_cases e b ≡ [] → IsOrdered e b
body_ordered e b none =
    let c = body_context e b in
    let of_parameters = parameters_cases b.body.parameters b.signature.sig.params.items in
    let of_head = head_cases e b b.body.super_call in
    let of_statements = statements_cases c b.body.statements in
    head_ordered e b b.body.super_call (statement_trees c b.body.statements) (nil_second of_parameters of_head of_statements none) (statements_plain c b.body.statements) (statements_enclosed c refl b.body.statements (nil_right (of_parameters ++ of_head) of_statements none))
