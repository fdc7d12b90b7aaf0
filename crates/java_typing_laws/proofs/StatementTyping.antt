-- Statements in which nothing is refused have typed trees.
use Rattle.std.proofs.Common.{◌≡◌, ◌∙◌, ◌+◌, ℕ, Option, Some, None, List, [], ◌∷◌, ◌++◌, All, length, refl, sym, subst, arith}
use Rattle.std.specs.Option.{is_some}
use Rattle.std.proofs.lemmas.List.{append-nil}
use Rattle.std.proofs.lemmas.List.Elements.{All-cons, All-nil}
use Rattle.rlc_base.specs.declared.place.Pos.{Pos}
use Rattle.program_model.specs.declared.kinds.ClassId.{ClassId}
use Rattle.program_model.specs.declared.kinds.VType.{VType}
use Rattle.program_model.specs.declared.program.Method.{Method}
use Rattle.program_model.specs.declared.program.Program.{Program}
use Rattle.program_model.specs.declared.tree.Var.{Var}
use Rattle.program_model.specs.Validity.{IsResult}
use Rattle.java_syntax.specs.declared.names.Name.{Name}
use Rattle.java_syntax.specs.AnnotationTrees.{ModifierTree}
use Rattle.java_syntax.specs.StatementTrees.{BlockTree, Braces, CatchTrees, MaybeBlock, MaybeStmt, ResourceTree, StmtTree, StmtTrees, no_catch, and_catch, no_else, some_else, no_finally, some_finally, no_statement, and_statement}
use Rattle.java_syntax.specs.StatementTrees as syntax
use Rattle.java_typed_trees.specs.declared.scope.Local.{Local}
use Rattle.java_typed_trees.specs.ExpressionTrees as values
use Rattle.java_typed_trees.specs.StatementTrees.{CatchForm, statements}
use Rattle.java_typed_trees.specs.StatementTrees as typed
use Rattle.java_call_rules.specs.Surroundings.{Surroundings}
use Rattle.java_variable_rules.proofs.VariableLaws.{IsTyped}
use Rattle.java_statement_parts.proofs.Goodness.{nil_first, nil_left, nil_right, nil_second}
use Rattle.java_typing_laws.specs.TypingContexts.{IsVariableOf, TypingContext, type_of_number}
use Rattle.java_typing_laws.specs.TypedTrees.{parts_in}
use Rattle.java_typing_laws.proofs.OperatorRules.{has}
use Rattle.java_typing_laws.proofs.TypedExpressions.{tree_is_typed}
use Rattle.java_statement_rules.specs.declared.completion.Completion.{Completion}
use Rattle.java_statement_rules.specs.CatchClauses.{alternatives_cases, classes_named, is_final_parameter, parameter_type}
use Rattle.java_statement_rules.specs.Contexts.{StatementContext, in_a_loop, locals_of}
use Rattle.java_statement_rules.specs.DeclaredVariables.{double_cases, local_variable}
use Rattle.java_statement_parts.specs.Clauses.{caught_by_all, clause_cases, swallowed}
use Rattle.java_statement_parts.specs.Declarations.{declaration_trees, declarators}
use Rattle.java_statement_parts.specs.Heads.{expressions_cases, optional_cases, required_cases, returned, start_cases, start_count}
use Rattle.java_statement_parts.specs.Resources.{resource_locals, resources_cases}
use Rattle.java_bodies.specs.StatementCases.{block_cases, catches_cases, else_cases, finally_cases, statement_cases, statements_cases}
use Rattle.java_bodies.specs.StatementCompletions.{finally_completion}
use Rattle.java_bodies.specs.StatementContexts.{after, before_last, behind_start, catch_context, catches_context, else_context, finally_context, for_body_context, new_locals, next_catch_context, resources_context, try_block_context}
use Rattle.java_bodies.specs.StatementTrees.{block_tree, catch_forms, catch_trees, else_tree, finally_tree, statement_tree, statement_trees}
use Rattle.java_bodies.specs.VariableCounts.{block_count, catches_count, variable_count}
use Rattle.java_typing_laws.proofs.Parts.{known_is_typed}
use Rattle.java_bodies.specs.BodyVariables.{all_variables, block_variables, catch_variables, else_variables, finally_variables, resource_variables, start_variables, variables_of}
use Rattle.java_bodies.specs.Declarations.{BodyVariable, declared}
use Rattle.java_typing_laws.specs.Scopes.{HaveTypesFrom, declaring}
use Rattle.java_typing_laws.specs.TypedForms.{AreDeclarators, IsCatchClause, IsReturn}
use Rattle.java_typing_laws.specs.TypedStatements.{AreTypedStatementTrees, IsTypedStatementTree}
use Rattle.java_typing_laws.proofs.CatchTyping.{IsCaughtIn, parameter_typed}
use Rattle.java_typing_laws.proofs.DeclarationTyping.{AreInScope, declaration_in_scope, declaration_typed, is_variable_of}
use Rattle.java_typing_laws.proofs.HeadTyping.{condition_typed, for_typed, return_typed, start_here, throw_typed}
use Rattle.java_typing_laws.proofs.ResourceTyping.{resources_in_scope, resources_typed}
use Rattle.java_typing_laws.proofs.Values.{IsHere, context_of, where_caught, with_more}
use Rattle.java_typing_laws.proofs.VariableLaws.{AreDeclared, block_declares, both, catches_declare, resources_declared, starts_declared, statement_declares}

-- ---- variables from a number on

pub types_before : (variables : List Var) (n : ℕ) (xs ys : List BodyVariable) → HaveTypesFrom variables n (xs ++ ys) → HaveTypesFrom variables n xs
types_before variables n [] ys h = tt
types_before variables n (x ∷ xs) ys h = (h.0, types_before variables (n + 1) xs ys h.1)

types_beyond : (variables : List Var) (n : ℕ) (xs ys : List BodyVariable) → HaveTypesFrom variables n (xs ++ ys) → HaveTypesFrom variables (n + length xs) ys
types_beyond variables n [] ys h = let same : n ≡ n + 0 = omega arith in subst (λ k. HaveTypesFrom variables k ys) same h
types_beyond variables n (x ∷ xs) ys h = let same : n + 1 + length xs ≡ n + length (x ∷ xs) = omega arith in subst (λ k. HaveTypesFrom variables k ys) same (types_beyond variables (n + 1) xs ys h.1)

pub types_behind : (variables : List Var) (n k j : ℕ) (xs ys : List BodyVariable) → length xs ≡ k → n + k ≡ j → HaveTypesFrom variables n (xs ++ ys) → HaveTypesFrom variables j ys
types_behind variables n k j xs ys count same h = let at : n + length xs ≡ j = omega arith in subst (λ i. HaveTypesFrom variables i ys) at (types_beyond variables n xs ys h)

-- ---- lists of trees

pub append_typed : (c : TypingContext) (m : Method) (xs ys : List typed.StmtTree) → AreTypedStatementTrees c m (statements xs) → AreTypedStatementTrees c m (statements ys) → AreTypedStatementTrees c m (statements (xs ++ ys))
append_typed c m [] ys h g = g
append_typed c m (x ∷ xs) ys h g = (h.0, append_typed c m xs ys h.1 g)

module _ (variables : List Var) (owner : Option ClassId) (m : Method) where
  abbrev Here : StatementContext → Type 0
  Here c = IsHere variables owner m c.surroundings

  abbrev scope_of : StatementContext → TypingContext
  scope_of c = context_of variables owner m c.surroundings

  abbrev HasVariables : StatementContext → List BodyVariable → Type 0
  HasVariables c xs = HaveTypesFrom variables c.next_variable xs

  -- ---- scopes

  no_local : AreInScope variables owner m []
  no_local = record { variables_of = All-nil (IsVariableOf variables); typed = All-nil (λ y. IsTyped y.variable.static_type) }

  new_in_scope : (c : StatementContext) (t : StmtTree) → HasVariables c (variables_of (declaring c.surroundings) t) → statement_cases c t ≡ [] → AreInScope variables owner m (new_locals c t)
  new_in_scope c (syntax.BlockOf b) at none = no_local
  new_in_scope c (syntax.Empty place) at none = no_local
  new_in_scope c (syntax.LocalOf l place) at none = declaration_in_scope variables owner m c l place at none
  new_in_scope c (syntax.ExpressionOf e place) at none = no_local
  new_in_scope c (syntax.If e a b place) at none = no_local
  new_in_scope c (syntax.While e body place) at none = no_local
  new_in_scope c (syntax.DoWhile body e place) at none = no_local
  new_in_scope c (syntax.For start e updates body place) at none = no_local
  new_in_scope c (syntax.Try rs b cs last place) at none = no_local
  new_in_scope c (syntax.Return e place) at none = no_local
  new_in_scope c (syntax.Throw e place) at none = no_local
  new_in_scope c (syntax.Break place) at none = no_local
  new_in_scope c (syntax.Continue place) at none = no_local

  after_here : (c : StatementContext) → Here c → (t : StmtTree) → HasVariables c (variables_of (declaring c.surroundings) t) → statement_cases c t ≡ [] → Here (after c t)
  after_here c h t at none =
      let x = new_in_scope c t at none in
      with_more variables owner m c (new_locals c t) (c.next_variable + variable_count t) h x.variables_of x.typed

  where_resources : (c : StatementContext) → Here c → (f : Completion) (cs : CatchTrees) → Here (resources_context c f cs)
  where_resources c h f cs = where_caught variables owner m (before_last c f) (caught_by_all c.surroundings cs) (where_caught variables owner m c (swallowed c.surroundings.context.program f.completes) h)

  where_catches : (c : StatementContext) → Here c → (f : Completion) (rs : List ResourceTree) (b : BlockTree) → Here (catches_context c f rs b)
  where_catches c h f rs b = where_caught variables owner m c (swallowed c.surroundings.context.program f.completes) h

  where_block : (c : StatementContext) → Here c → (f : Completion) (rs : List ResourceTree) (cs : CatchTrees) (place : Pos) → HasVariables c (resource_variables (declaring c.surroundings) rs) → resources_cases (resources_context c f cs) rs place ≡ [] → Here (try_block_context c f rs cs)
  where_block c h f rs cs place at none =
      let d : StatementContext = resources_context c f cs in
      let x = resources_in_scope variables owner m d rs place at none in
      with_more variables owner m d (resource_locals d rs) (d.next_variable + length rs) (where_resources c h f cs) x.variables_of x.typed

  -- ---- the variables of a `try`

  record HasTryVariables (c : StatementContext) (rs : List ResourceTree) (b : BlockTree) (cs : CatchTrees) (last : MaybeBlock) : Type 0 where
    resources : HaveTypesFrom variables c.next_variable (resource_variables (declaring c.surroundings) rs)
    block : HaveTypesFrom variables (c.next_variable + length rs) (block_variables (declaring c.surroundings) b)
    catches : HaveTypesFrom variables (c.next_variable + length rs + block_count b) (catch_variables (declaring c.surroundings) cs)
    final : HaveTypesFrom variables (c.next_variable + length rs + block_count b + catches_count cs) (finally_variables (declaring c.surroundings) last)

  try_variables : (c : StatementContext) (rs : List ResourceTree) (b : BlockTree) (cs : CatchTrees) (last : MaybeBlock) → AreDeclared c.surroundings.context.program (length rs) (resource_variables (declaring c.surroundings) rs) → AreDeclared c.surroundings.context.program (block_count b) (block_variables (declaring c.surroundings) b) → AreDeclared c.surroundings.context.program (catches_count cs) (catch_variables (declaring c.surroundings) cs) → HasVariables c (resource_variables (declaring c.surroundings) rs ++ block_variables (declaring c.surroundings) b ++ catch_variables (declaring c.surroundings) cs ++ finally_variables (declaring c.surroundings) last) → HasTryVariables c rs b cs last
  try_variables c rs b cs last hr hb hc at =
      let p : Program = c.surroundings.context.program in
      let n : ℕ = c.next_variable in
      let r : List BodyVariable = resource_variables (declaring c.surroundings) rs in
      let x : List BodyVariable = block_variables (declaring c.surroundings) b in
      let y : List BodyVariable = catch_variables (declaring c.surroundings) cs in
      let z : List BodyVariable = finally_variables (declaring c.surroundings) last in
      let two = both p (length rs) (block_count b) r x hr hb in
      let three = both p (length rs + block_count b) (catches_count cs) (r ++ x) y two hc in
      let third : HaveTypesFrom variables n (r ++ x ++ y) = types_before variables n (r ++ x ++ y) z at in
      let second : HaveTypesFrom variables n (r ++ x) = types_before variables n (r ++ x) y third in
      let two_numbers : n + (length rs + block_count b) ≡ n + length rs + block_count b = omega arith in
      let three_numbers : n + (length rs + block_count b + catches_count cs) ≡ n + length rs + block_count b + catches_count cs = omega arith in
      record {
        resources = types_before variables n r x second;
        block = types_behind variables n (length rs) (n + length rs) r x hr.count refl second;
        catches = types_behind variables n (length rs + block_count b) (n + length rs + block_count b) (r ++ x) y two.count two_numbers third;
        final = types_behind variables n (length rs + block_count b + catches_count cs) (n + length rs + block_count b + catches_count cs) (r ++ x ++ y) z three.count three_numbers at;
      }

  -- ---- catch clauses

  -- the clauses are typed, and their blocks
  record AreTypedCatches (c : StatementContext) (cs : CatchTrees) : Type 0 where
    forms : All (IsCatchClause (scope_of c)) (catch_forms c cs)
    blocks : AreTypedStatementTrees (scope_of c) m (statements (catch_trees c cs))

  record HasClauseVariables (c : StatementContext) (b : BlockTree) (more : CatchTrees) (t : VType) : Type 0 where
    own : type_of_number variables c.next_variable ≡ Some t
    block : HaveTypesFrom variables (c.next_variable + 1) (block_variables (declaring c.surroundings) b)
    rest : HaveTypesFrom variables (c.next_variable + 1 + block_count b) (catch_variables (declaring c.surroundings) more)

  clause_variables : (c : StatementContext) (modifiers : List ModifierTree) (names : List Name) (name : Name) (b : BlockTree) (more : CatchTrees) (t : VType) → parameter_type c.surroundings names ≡ Some t → AreDeclared c.surroundings.context.program (block_count b) (block_variables (declaring c.surroundings) b) → HasVariables c (catch_variables (declaring c.surroundings) (and_catch modifiers names name b more)) → HasClauseVariables c b more t
  clause_variables c modifiers names name b more t is hb at =
      let n : ℕ = c.next_variable in
      let x : List BodyVariable = block_variables (declaring c.surroundings) b in
      let y : List BodyVariable = catch_variables (declaring c.surroundings) more in
      let known : HaveTypesFrom variables n (declared modifiers name (Some t) ++ x ++ y) = subst (λ (u : Option VType). HaveTypesFrom variables n (declared modifiers name u ++ x ++ y)) is at in
      record { own = known.0; block = types_before variables (n + 1) x y known.1; rest = types_behind variables (n + 1) (block_count b) (n + 1 + block_count b) x y hb.count refl known.1 }

  in_clause : (c : StatementContext) → Here c → (modifiers : List ModifierTree) (names : List Name) (name : Name) (t : VType) → parameter_type c.surroundings names ≡ Some t → type_of_number variables c.next_variable ≡ Some t → Here (catch_context c modifiers names name)
  in_clause c h modifiers names name t is at =
      let u : Option VType = parameter_type c.surroundings names in
      let x : Local = local_variable c.next_variable name.text u (is_final_parameter modifiers names) None in
      with_more variables owner m c (x ∷ []) (c.next_variable + 1) h
      (All-cons (IsVariableOf variables) x [] (is_variable_of variables c.next_variable name.text u (is_final_parameter modifiers names) None (at ∙ sym is)) (All-nil (IsVariableOf variables)))
      (All-cons (λ w. IsTyped w.variable.static_type) x [] (known_is_typed u (record { vtype = t; is = is })) (All-nil (λ w. IsTyped w.variable.static_type)))

  -- ---- all statements

  mutual
    statement_typed : (c : StatementContext) → Here c → c.result ≡ m.sig.result → (t : StmtTree) → HasVariables c (variables_of (declaring c.surroundings) t) → statement_cases c t ≡ [] → IsTypedStatementTree (scope_of c) m (statement_tree c t)
    statement_typed c h r (syntax.BlockOf b) at none = block_typed c h r b at none
    statement_typed c h r (syntax.Empty place) at none = (tt, tt, tt)
    statement_typed c h r (syntax.LocalOf l place) at none =
        let d = declaration_typed variables owner m c h l place at none [] in
        (subst (λ (ts : List values.ExprTree). AreDeclarators (scope_of c) (declarators c.next_variable l.variables) (parts_in (values.expressions ts))) (append-nil (declaration_trees c l place)) d.fit, d.typed, tt)
    statement_typed c h r (syntax.ExpressionOf e place) at none = (tt, (tree_is_typed c.surroundings variables owner h.scope None tt e, tt), tt)
    statement_typed c h r (syntax.If e a b place) at none =
        let d : Surroundings = declaring c.surroundings in
        let condition = required_cases c.surroundings e place in
        let then' = statement_cases c a in
        let otherwise = else_cases (else_context c a) b in
        let none_then = nil_second condition then' otherwise none in
        let counted = statement_declares c h.types a none_then in
        let q = condition_typed variables owner m c.surroundings h e place (nil_first condition then' otherwise none) in
        (q.is, q.typed, (statement_typed c h r a (types_before variables c.next_variable (variables_of d a) (else_variables d b) at) none_then, else_typed (else_context c a) h r b (types_behind variables c.next_variable (variable_count a) (c.next_variable + variable_count a) (variables_of d a) (else_variables d b) counted.count refl at) (nil_right (condition ++ then') otherwise none)))
    statement_typed c h r (syntax.While e body place) at none =
        let condition = required_cases c.surroundings e place in
        let inner = statement_cases (in_a_loop c) body in
        let q = condition_typed variables owner m c.surroundings h e place (nil_left condition inner none) in
        (q.is, q.typed, (statement_typed (in_a_loop c) h r body at (nil_right condition inner none), tt))
    statement_typed c h r (syntax.DoWhile body e place) at none =
        let condition = required_cases c.surroundings e place in
        let inner = statement_cases (in_a_loop c) body in
        let q = condition_typed variables owner m c.surroundings h e place (nil_left condition inner none) in
        (q.is, q.typed, (statement_typed (in_a_loop c) h r body at (nil_right condition inner none), tt))
    statement_typed c h r (syntax.For start e updates body place) at none =
        let d : Surroundings = declaring c.surroundings in
        let s : Surroundings = (behind_start c start place).surroundings in
        let first = start_cases c start place in
        let condition = optional_cases s e place in
        let steps = expressions_cases s updates in
        let inner = statement_cases (for_body_context c start place) body in
        let heads = nil_left (first ++ condition ++ steps) inner none in
        let none_start = nil_first first condition steps heads in
        let at_start = types_before variables c.next_variable (start_variables d start) (variables_of d body) at in
        let counted = starts_declared c h.types start place none_start in
        let at_body = types_behind variables c.next_variable (start_count start) (c.next_variable + start_count start) (start_variables d start) (variables_of d body) counted.count refl at in
        let f = for_typed variables owner m c h start place e updates at_start none_start (nil_second first condition steps heads) in
        ((f.is, f.condition), f.typed, (statement_typed (for_body_context c start place) (start_here variables owner m c h start place at_start none_start) r body at_body (nil_right (first ++ condition ++ steps) inner none), tt))
    statement_typed c h r (syntax.Try rs b cs last place) at none =
        let f : Completion = finally_completion (finally_context c rs b cs) last in
        let of_finally = finally_cases (finally_context c rs b cs) last in
        let of_resources = resources_cases (resources_context c f cs) rs place in
        let of_block = block_cases (try_block_context c f rs cs) b in
        let of_catches = catches_cases (catches_context c f rs b) cs place in
        let front = nil_left (of_finally ++ of_resources ++ of_block) of_catches none in
        let none_resources = nil_second of_finally of_resources of_block front in
        let none_block = nil_right (of_finally ++ of_resources) of_block front in
        let none_catches = nil_right (of_finally ++ of_resources ++ of_block) of_catches none in
        let v = try_variables c rs b cs last (resources_declared (resources_context c f cs) h.types rs place none_resources) (block_declares (try_block_context c f rs cs) h.types b none_block) (catches_declare (catches_context c f rs b) h.types cs place none_catches) at in
        let resources = resources_typed variables owner m (resources_context c f cs) (where_resources c h f cs) rs place v.resources none_resources in
        let block = block_typed (try_block_context c f rs cs) (where_block c h f rs cs place v.resources none_resources) r b v.block none_block in
        let catches = catches_typed (catches_context c f rs b) (where_catches c h f rs b) r cs place v.catches none_catches in
        let final = finally_typed (finally_context c rs b cs) h r last v.final (nil_first of_finally of_resources of_block front) in
        ((resources.are, catches.forms), resources.typed, (block, append_typed (scope_of c) m (catch_trees (catches_context c f rs b) cs) (finally_tree (finally_context c rs b cs) last) catches.blocks final))
    statement_typed c h r (syntax.Return e place) at none =
        let result = subst (λ (o : Option VType). IsResult c.surroundings.context.program o) (sym r) h.result in
        let v = return_typed variables owner m c.surroundings h c.result result e place none in
        (subst (λ (o : Option VType). IsReturn c.surroundings.context.program (is_some e) (parts_in (values.expressions (returned c.surroundings c.result e))) o) r v.is, v.typed, tt)
    statement_typed c h r (syntax.Throw e place) at none = let v = throw_typed variables owner m c.surroundings h e place none in (v.is, v.typed, tt)
    statement_typed c h r (syntax.Break place) at none = (tt, tt, tt)
    statement_typed c h r (syntax.Continue place) at none = (tt, tt, tt)

    block_typed : (c : StatementContext) → Here c → c.result ≡ m.sig.result → (b : BlockTree) → HasVariables c (block_variables (declaring c.surroundings) b) → block_cases c b ≡ [] → IsTypedStatementTree (scope_of c) m (block_tree c b)
    block_typed c h r (Braces ts place end) at none = (tt, tt, statements_typed c h r ts at none)

    pub statements_typed : (c : StatementContext) → Here c → c.result ≡ m.sig.result → (ts : StmtTrees) → HasVariables c (all_variables (declaring c.surroundings) ts) → statements_cases c ts ≡ [] → AreTypedStatementTrees (scope_of c) m (statements (statement_trees c ts))
    statements_typed c h r no_statement at none = tt
    statements_typed c h r (and_statement t ts) at none =
        let d : Surroundings = declaring c.surroundings in
        let none_first = nil_left (statement_cases c t) (statements_cases (after c t) ts) none in
        let at_first = types_before variables c.next_variable (variables_of d t) (all_variables d ts) at in
        let counted = statement_declares c h.types t none_first in
        let at_rest = types_behind variables c.next_variable (variable_count t) (c.next_variable + variable_count t) (variables_of d t) (all_variables d ts) counted.count refl at in
        (statement_typed c h r t at_first none_first, statements_typed (after c t) (after_here c h t at_first none_first) r ts at_rest (nil_right (statement_cases c t) (statements_cases (after c t) ts) none))

    catches_typed : (c : StatementContext) → Here c → c.result ≡ m.sig.result → (cs : CatchTrees) (place : Pos) → HasVariables c (catch_variables (declaring c.surroundings) cs) → catches_cases c cs place ≡ [] → AreTypedCatches c cs
    catches_typed c h r no_catch place at none = record { forms = All-nil (IsCatchClause (scope_of c)); blocks = tt }
    catches_typed c h r (and_catch modifiers names name b more) place at none =
        let p : Program = c.surroundings.context.program in
        let clause = clause_cases c names name place in
        let inner = block_cases (catch_context c modifiers names name) b in
        let rest = catches_cases (next_catch_context c b) more place in
        let none_block = nil_second clause inner rest none in
        let k = parameter_typed c.surroundings h.types place names (nil_left (alternatives_cases c.surroundings place names) (double_cases place (locals_of c) name.text) (nil_first clause inner rest none)) in
        let v = clause_variables c modifiers names name b more k.vtype k.is (block_declares (catch_context c modifiers names name) h.types b none_block) at in
        let block = block_typed (catch_context c modifiers names name) (in_clause c h modifiers names name k.vtype k.is v.own) r b v.block none_block in
        let others = catches_typed (next_catch_context c b) h r more place v.rest (nil_right (clause ++ inner) rest none) in
        let form : CatchForm = record { variable = c.next_variable; classes = classes_named c.surroundings names } in
        let is : IsCatchClause (scope_of c) form = (k.some, has (type_of_number variables c.next_variable) k.vtype (λ t. All (IsCaughtIn p t) (classes_named c.surroundings names)) v.own k.each) in
        record {
          forms = All-cons (IsCatchClause (scope_of c)) form (catch_forms (next_catch_context c b) more) is others.forms;
          blocks = (block, others.blocks);
        }

    else_typed : (c : StatementContext) → Here c → c.result ≡ m.sig.result → (b : MaybeStmt) → HasVariables c (else_variables (declaring c.surroundings) b) → else_cases c b ≡ [] → AreTypedStatementTrees (scope_of c) m (statements (else_tree c b))
    else_typed c h r no_else at none = tt
    else_typed c h r (some_else t) at none = (statement_typed c h r t at none, tt)

    finally_typed : (c : StatementContext) → Here c → c.result ≡ m.sig.result → (b : MaybeBlock) → HasVariables c (finally_variables (declaring c.surroundings) b) → finally_cases c b ≡ [] → AreTypedStatementTrees (scope_of c) m (statements (finally_tree c b))
    finally_typed c h r no_finally at none = tt
    finally_typed c h r (some_finally b) at none = (block_typed c h r b at none, tt)
