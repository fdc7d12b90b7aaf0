-- The variables of the bodies of an elaborated program are numbered in the order of the text.
use Rattle.std.proofs.Common.{◌≡◌, ◌∙◌, sym, ap, ap₂, refl, subst, arith, ℕ, suc, ◌+◌, Bool, true, false, Option, Some, None, List, [], ◌∷◌, ◌++◌, length, length-append, map, zip}
use Rattle.std.specs.Option.{IsSomeAnd}
use Rattle.std.proofs.lemmas.List.{append_assoc, length-map}
use Rattle.program_model.specs.declared.kinds.BodyId.{BodyId}
use Rattle.program_model.specs.declared.program.Method.{Method}
use Rattle.program_model.specs.declared.program.ParamSig.{ParamSig}
use Rattle.program_model.specs.declared.program.Program.{Program}
use Rattle.program_model.specs.declared.program.Sig.{Sig}
use Rattle.program_model.specs.declared.tree.Body.{Body}
use Rattle.program_model.specs.declared.tree.Var.{Var}
use Rattle.program_model.specs.Lookups.{body_at}
use Rattle.program_model.specs.TextOrder.{HasVariablesInOrder, IsCount, declared_variables}
use Rattle.program_model.specs.Validity.{IsOrderedBody}
use Rattle.java_syntax.specs.declared.declaration_trees.Param.{Param}
use Rattle.java_syntax.specs.declared.declaration_trees.Unit as tree
use Rattle.java_syntax.specs.declared.settings.Settings.{Settings}
use Rattle.java_syntax.specs.StatementTrees.{StmtTrees}
use Rattle.class_table.specs.ClassOrderDeclarations.{Declaration}
use Rattle.class_table.specs.Passes.{IsBuilt, classes_of}
use Rattle.java_typed_trees.specs.StatementTrees.{StatementForm, StmtTree, Statement, statements}
use Rattle.java_typed_trees.specs.StatementTrees as typed
use Rattle.java_typing_laws.proofs.Goodness.{nil_left, nil_right, nil_second}
use Rattle.java_statement_rules.specs.Contexts.{StatementContext}
use Rattle.java_typing_laws.specs.StatementCases.{statements_cases}
use Rattle.java_typing_laws.specs.StatementTrees.{statement_trees}
use Rattle.java_typing_laws.specs.VariableCounts.{statements_count}
use Rattle.java_typing_laws.specs.CatchParameters.{HasCatchTypes}
use Rattle.java_typing_laws.proofs.LeastClasses.{valid_has_catch_types}
use Rattle.java_typing_laws.specs.BodyVariables.{all_variables, parameter_variables}
use Rattle.java_elaboration.specs.Declarations.{variable_in}
use Rattle.java_elaboration.specs.SourceClassesMembers.{Environment}
use Rattle.java_typing_laws.specs.Parameters.{parameters_cases, parameters_from}
use Rattle.java_typing_laws.specs.FieldInitializers.{initializer_statements, initializers_cases}
use Rattle.java_elaboration.specs.Bodies.{SourceBody, argument_surroundings, body_cases, body_context, body_variables_in, declared_exceptions, head_cases, head_statements, locals_in}
use Rattle.java_typing_laws.specs.SuperCalls.{SuperCall, is_made, super_call_cases, super_call_statements}
use Rattle.java_elaboration.specs.ProgramCases.{environment_of, program_cases, typed_program}
use Rattle.java_elaboration.specs.Elaborations.{IsProgramOf}
use Rattle.elaboration_laws.specs.SourceBodies.{source_declaration}
use Rattle.elaboration_laws.specs.BodyOrders.{body_statements}
use Rattle.elaboration_laws.proofs.FieldOrders.{AreInitializers, are_initializers}
use Rattle.elaboration_laws.proofs.OrderedBodies.{locals_typed}
use Rattle.elaboration_laws.proofs.SuperCallOrders.{IsCall, super_call_is}
use Rattle.elaboration_laws.specs.ElaboratedOrders.{HasOrderedStatements}
use Rattle.elaboration_laws.proofs.ElaboratedBodies.{IsElaborated, body_is_ordered, each_elaborated}
use Rattle.elaboration_laws.specs.DeclaredVariables.{declared_by, joined, variables_declared, variables_of_each}
use Rattle.elaboration_laws.proofs.BodyVariableCounts.{declaring, statements_long}
use Rattle.elaboration_laws.proofs.LaidVariables.{laid_declare}
use Rattle.elaboration_laws.proofs.VariableNumbers.{statements_number}

abbrev declared_in : List StmtTree → List ℕ
declared_in ts = joined (variables_of_each (statements ts))

declared_in_both : (xs ys : List StmtTree) → declared_in (xs ++ ys) ≡ declared_in xs ++ declared_in ys
declared_in_both [] ys = refl
declared_in_both (Statement f place es ss ∷ xs) ys =
    let first : List ℕ = declared_by f (variables_of_each ss) in
    ap (λ (ns : List ℕ). first ++ ns) (declared_in_both xs ys) ∙ sym (append_assoc first (declared_in xs) (declared_in ys))

-- ---- with what a constructor begins declares no variable

call_declares_none : (made : Bool) (calls : List StmtTree) → IsCall made calls → declared_in calls ≡ []
call_declares_none true calls (m, written, place, es, is) = ap declared_in is
call_declares_none false calls is = ap declared_in is

initializers_declare_none : (xs : List StmtTree) → AreInitializers xs → declared_in xs ≡ []
initializers_declare_none [] are = refl
initializers_declare_none (Statement f place es ss ∷ xs) are =
    ap₂ (λ (g : StatementForm) (inner : typed.StmtTrees). declared_by g (variables_of_each inner) ++ declared_in xs) are.0.0 are.0.1 ∙ initializers_declare_none xs are.1

head_declares_none : (e : Environment) (b : SourceBody) (call : Option SuperCall) → head_cases e b call ≡ [] → declared_in (head_statements e b call) ≡ []
head_declares_none e b None none = refl
head_declares_none e b (Some call) none =
    let s = argument_surroundings e b in
    let calls : List StmtTree = super_call_statements s call in
    let fields : List StmtTree = initializer_statements e b.class' (declared_exceptions b) in
    let call_is = super_call_is s (locals_typed b) call (nil_left (super_call_cases s call) (initializers_cases e b.class' (declared_exceptions b)) none) in
    declared_in_both calls fields ∙ ap₂ (λ (ns ms : List ℕ). ns ++ ms) (call_declares_none (is_made s) calls call_is) (initializers_declare_none fields (are_initializers e b.class' (declared_exceptions b)))

-- ---- parameters

locals_long : (n : ℕ) (ws : List Param) (xs : List ParamSig) → length ws ≡ length xs → length (parameters_from n (zip ws xs)) ≡ length xs
locals_long n [] [] same = refl
locals_long n [] (x ∷ xs) same = absurd (omega (arith, same))
locals_long n (w ∷ ws) [] same = absurd (omega (arith, same))
locals_long n (w ∷ ws) (x ∷ xs) same = ap suc (locals_long (n + 1) ws xs (omega (arith, same)))

parameters_long : (ws : List Param) (xs : List ParamSig) → length ws ≡ length xs → length (parameter_variables ws xs) ≡ length xs
parameters_long [] [] same = refl
parameters_long [] (x ∷ xs) same = absurd (omega (arith, same))
parameters_long (w ∷ ws) [] same = absurd (omega (arith, same))
parameters_long (w ∷ ws) (x ∷ xs) same = ap suc (parameters_long ws xs (omega (arith, same)))

-- ---- a body

body_counts : (e : Environment) → HasCatchTypes e.program → (b : SourceBody) → length b.body.parameters ≡ length b.signature.sig.params.items → body_cases e b ≡ [] → (vars : List Var) → map variable_in vars ≡ body_variables_in e b → IsCount (length b.signature.sig.params.items) (length vars) (variables_declared (body_statements e b))
body_counts e has b same none vars are =
    let c : StatementContext = body_context e b in
    let ws : List Param = b.body.parameters in
    let xs : List ParamSig = b.signature.sig.params.items in
    let ts : StmtTrees = b.body.statements in
    let of_parameters = parameters_cases ws xs in
    let of_head = head_cases e b b.body.super_call in
    let of_statements = statements_cases c ts in
    let none_statements = nil_right (of_parameters ++ of_head) of_statements none in
    let rest : List ℕ = declared_in (statement_trees c ts) in
    let n : ℕ = length (locals_in b) in
    let k : ℕ = statements_count ts in
    let first : n ≡ length xs = locals_long 0 ws xs same in
    let before = parameters_long ws xs same in
    let behind = statements_long c has ts none_statements in
    let long : length vars ≡ length (parameter_variables ws xs) + length (all_variables (declaring c.surroundings) ts) =
    sym (length-map vars variable_in) ∙ ap length are ∙ length-append (parameter_variables ws xs) (all_variables (declaring c.surroundings) ts) in
    let last : n + k ≡ length vars = omega (arith, first, before, behind, long) in
    let whole : variables_declared (body_statements e b) ≡ rest =
    declared_in_both (head_statements e b b.body.super_call) (statement_trees c ts) ∙ ap (λ (ns : List ℕ). ns ++ rest) (head_declares_none e b b.body.super_call (nil_second of_parameters of_head of_statements none)) in
    subst (λ (ns : List ℕ). IsCount (length xs) (length vars) ns) (sym whole)
    (subst (λ m. IsCount m (length vars) rest) first (subst (λ m. IsCount n m rest) last (statements_number c ts none_statements)))

variables_in_order : (e : Environment) (source : ℕ → Option Declaration) (q : Program) (x : Body) → HasCatchTypes e.program → IsElaborated e source q x → HasVariablesInOrder q x
variables_in_order e source q x has k =
    let b : SourceBody = k.body in
    let vars : List Var = x.vars.items in
    let P : Option Method → Type 0 = λ o. IsSomeAnd o (λ m. IsCount (length m.sig.params.items) (length vars) (declared_variables x)) in
    let counted = body_counts e has b k.known.parameters k.none vars k.variables in
    let laid = subst (λ (ns : List ℕ). IsCount (length b.signature.sig.params.items) (length vars) ns) (sym (laid_declare x (body_statements e b) k.laid)) counted in
    subst P (sym k.method.at) (subst (λ (s : Sig). IsCount (length s.params.items) (length vars) (declared_variables x)) (sym k.method.signature) laid)

pub bodies_in_order : (units stubs : List tree.Unit) (settings : Settings) (p q : Program) → IsBuilt (classes_of units stubs settings) settings p → program_cases p units ≡ [] → IsProgramOf p (typed_program p units) q → (n : BodyId) (x : Body) → body_at q n ≡ Some x → IsOrderedBody q x
bodies_in_order units stubs settings p q built none made n x at =
    let e : Environment = environment_of p units in
    let source : ℕ → Option Declaration = source_declaration p units in
    let k = each_elaborated units stubs settings p q built none made n x at in
    let ordered : HasOrderedStatements q x = body_is_ordered e source q x built.valid made.table k in
    record {
      variables = variables_in_order e source q x (valid_has_catch_types p built.valid.typed) k;
      jumps = ordered.jumps;
      super_call = ordered.due;
      initializers = ordered.initializers;
    }
