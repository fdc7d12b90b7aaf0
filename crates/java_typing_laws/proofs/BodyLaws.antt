-- A body in which nothing is refused has well-formed typed trees.
use Rattle.std.proofs.Common.{◌≡◌, ℕ, ◌+◌, Option, Some, None, List, [], ◌∷◌, ◌++◌, zip}
use Rattle.std.proofs.lemmas.List.Elements.{All-cons, All-nil}
use Rattle.program_model.specs.declared.program.ParamSig.{ParamSig}
use Rattle.java_syntax.specs.declared.declaration_trees.Param.{Param}
use Rattle.java_typed_trees.specs.StatementTrees.{statements}
use Rattle.java_typed_trees.specs.WellFormedStatements.{AreWellFormedStatements}
use Rattle.java_variable_rules.proofs.VariableLaws.{AreTyped, IsTyped}
use Rattle.java_statement_parts.proofs.Goodness.{nil_left, nil_right, nil_second}
use Rattle.java_bodies.specs.StatementCases.{statements_cases}
use Rattle.java_bodies.specs.StatementTrees.{statement_trees}
use Rattle.java_typing_laws.specs.CatchParameters.{HasCatchTypes}
use Rattle.java_typing_laws.proofs.Parts.{append_statements_well}
use Rattle.java_typing_laws.proofs.StatementLaws.{statements_well}
use Rattle.java_bodies.specs.SourceClassesMembers.{Environment}
use Rattle.java_bodies.specs.Parameters.{parameter, parameters_cases, parameters_from}
use Rattle.java_bodies.specs.FieldInitializers.{initializer_statements, initializers_cases}
use Rattle.java_bodies.specs.Bodies.{SourceBody, argument_surroundings, body_cases, body_context, body_trees, declared_exceptions, head_cases, head_statements, locals_in}
use Rattle.java_bodies.specs.SuperCalls.{SuperCall, super_call_cases, super_call_statements}
use Rattle.java_typing_laws.proofs.BodyHeadLaws.{initializers_well, super_call_well}

parameters_typed : (n : ℕ) (ps : List (Param × ParamSig)) → AreTyped (parameters_from n ps)
parameters_typed n [] = All-nil (λ y. IsTyped y.variable.static_type)
parameters_typed n (p ∷ ps) = All-cons (λ y. IsTyped y.variable.static_type) (parameter n p.0 p.1) (parameters_from (n + 1) ps) tt (parameters_typed (n + 1) ps)

locals_typed : (b : SourceBody) → AreTyped (locals_in b)
locals_typed b = parameters_typed 0 (zip b.body.parameters b.signature.sig.params.items)

head_well : (e : Environment) (b : SourceBody) (call : Option SuperCall) → head_cases e b call ≡ [] → AreWellFormedStatements (statements (head_statements e b call))
head_well e b None none = tt
head_well e b (Some call) none =
    let s = argument_surroundings e b in
    let of_call = super_call_cases s call in
    let of_fields = initializers_cases e b.class' (declared_exceptions b) in
    append_statements_well (super_call_statements s call) (initializer_statements e b.class' (declared_exceptions b)) (super_call_well s (locals_typed b) call (nil_left of_call of_fields none)) (initializers_well e b.class' (declared_exceptions b) (nil_right of_call of_fields none))

pub body_well : (e : Environment) → HasCatchTypes e.program → (b : SourceBody) → body_cases e b ≡ [] → AreWellFormedStatements (statements (body_trees e b))
body_well e catches b none =
    let c = body_context e b in
    let of_parameters = parameters_cases b.body.parameters b.signature.sig.params.items in
    let of_head = head_cases e b b.body.super_call in
    let of_statements = statements_cases c b.body.statements in
    append_statements_well (head_statements e b b.body.super_call) (statement_trees c b.body.statements) (head_well e b b.body.super_call (nil_second of_parameters of_head of_statements none)) (statements_well c (locals_typed b, catches) b.body.statements (nil_right (of_parameters ++ of_head) of_statements none))
