-- A statement in which nothing is refused has a well-formed typed tree.
use Rattle.std.proofs.Common.{◌≡◌, ◌+◌, ◌≤◌, List, [], ◌++◌, Option, length, refl, ap, ◌∙◌, arith}
use Rattle.std.specs.Option.{is_some}
use Rattle.std.proofs.lemmas.List.Elements.{All-append, All-nil}
use Rattle.std.specs.Prelude.{None}
use Rattle.rlc_base.specs.declared.place.Pos.{Pos}
use Rattle.java_syntax.specs.declared.names.Name.{Name}
use Rattle.java_syntax.specs.AnnotationTrees.{ModifierTree}
use Rattle.java_syntax.specs.ExpressionTrees.{ExprTree}
use Rattle.java_syntax.specs.StatementTrees.{BlockTree, Braces, CatchTrees, ForStartTree, MaybeBlock, MaybeStmt, ResourceTree, StmtTree, StmtTrees, no_catch, and_catch, no_else, some_else, no_finally, some_finally, no_statement, and_statement}
use Rattle.java_syntax.specs.StatementTrees as syntax
use Rattle.java_typed_trees.specs.declared.scope.Local.{Local}
use Rattle.java_typed_trees.specs.ExpressionTrees.{expressions}
use Rattle.java_typed_trees.specs.ExpressionTrees as typed
use Rattle.java_typed_trees.specs.StatementTrees.{statements}
use Rattle.java_typed_trees.specs.WellFormed.{AreWellFormed, count}
use Rattle.java_typed_trees.specs.WellFormedStatements.{AreWellFormedStatements, IsWellFormedStatement, count_statements, initial_count, one_if}
use Rattle.java_variable_rules.proofs.VariableLaws.{AreTyped, IsTyped}
use Rattle.java_statement_parts.proofs.Goodness.{nil_first, nil_left, nil_right, nil_second}
use Rattle.java_statement_parts.proofs.WellTyped.{well_typed}
use Rattle.java_statement_rules.specs.declared.completion.Completion.{Completion}
use Rattle.java_statement_rules.specs.CatchClauses.{alternatives_cases, is_final_parameter, parameter_type}
use Rattle.java_statement_rules.specs.Contexts.{StatementContext, in_a_loop, locals_of, program_of}
use Rattle.java_statement_rules.specs.DeclaredVariables.{double_cases, local_variable}
use Rattle.java_statement_parts.specs.Clauses.{clause_cases}
use Rattle.java_statement_parts.specs.Heads.{expression_trees, expressions_cases, optional_cases, optional_tree, required_cases, start_cases, start_form, start_trees}
use Rattle.java_statement_parts.specs.Resources.{resources_cases}
use Rattle.java_bodies.specs.StatementCases.{block_cases, catches_cases, else_cases, finally_cases, statement_cases, statements_cases}
use Rattle.java_bodies.specs.StatementCompletions.{finally_completion}
use Rattle.java_bodies.specs.StatementContexts.{after, behind_start, catch_context, catches_context, else_context, finally_context, for_body_context, new_locals, next_catch_context, resources_context, try_block_context}
use Rattle.java_bodies.specs.StatementTrees.{block_tree, catch_forms, catch_trees, else_tree, finally_tree, has_else, has_finally, statement_tree, statement_trees}
use Rattle.java_typing_laws.specs.CatchParameters.{HasCatchTypes}
use Rattle.java_typing_laws.proofs.CatchLaws.{parameter_known}
use Rattle.java_typing_laws.proofs.DeclarationLaws.{declaration_count, declaration_typed, declaration_well}
use Rattle.java_typing_laws.proofs.StatementHeadLaws.{all_well, optional_count, optional_well, required_well, returned_count, returned_well, start_count, start_typed, start_well, thrown_well}
use Rattle.java_typing_laws.proofs.Parts.{append_statements_well, append_well, at_least, count_append, count_statements_append, known_is_typed, one_more, with_one_typed}
use Rattle.java_typing_laws.proofs.ResourceLaws.{resources_count, resources_typed, resources_well}

-- where the variables in scope have types, and the program gives the parameters of catch clauses theirs
abbrev pub IsTypedContext : StatementContext → Type 0
IsTypedContext c = AreTyped (locals_of c) × HasCatchTypes (program_of c)

-- ---- numbers of parts

else_count : (c : StatementContext) (b : MaybeStmt) → count_statements (statements (else_tree c b)) ≡ one_if (has_else b)
else_count c no_else = refl
else_count c (some_else t) = refl

finally_count : (c : StatementContext) (b : MaybeBlock) → count_statements (statements (finally_tree c b)) ≡ one_if (has_finally b)
finally_count c no_finally = refl
finally_count c (some_finally b) = refl

catches_count : (c : StatementContext) (cs : CatchTrees) → count_statements (statements (catch_trees c cs)) ≡ length (catch_forms c cs)
catches_count c no_catch = refl
catches_count c (and_catch modifiers names name b more) = ap (λ n. 1 + n) (catches_count (next_catch_context c b) more) ∙ omega arith

-- ---- scopes

with_none : (xs : List Local) → AreTyped xs → AreTyped (xs ++ [])
with_none xs typed = All-append (λ y. IsTyped y.variable.static_type) xs [] typed (All-nil (λ y. IsTyped y.variable.static_type))

after_typed : (c : StatementContext) → AreTyped (locals_of c) → (t : StmtTree) → statement_cases c t ≡ [] → AreTyped (locals_of c ++ new_locals c t)
after_typed c typed (syntax.BlockOf b) none = with_none (locals_of c) typed
after_typed c typed (syntax.Empty place) none = with_none (locals_of c) typed
after_typed c typed (syntax.LocalOf l place) none = declaration_typed c typed l place none
after_typed c typed (syntax.ExpressionOf e place) none = with_none (locals_of c) typed
after_typed c typed (syntax.If e a b place) none = with_none (locals_of c) typed
after_typed c typed (syntax.While e body place) none = with_none (locals_of c) typed
after_typed c typed (syntax.DoWhile body e place) none = with_none (locals_of c) typed
after_typed c typed (syntax.For start e updates body place) none = with_none (locals_of c) typed
after_typed c typed (syntax.Try rs b cs last place) none = with_none (locals_of c) typed
after_typed c typed (syntax.Return e place) none = with_none (locals_of c) typed
after_typed c typed (syntax.Throw e place) none = with_none (locals_of c) typed
after_typed c typed (syntax.Break place) none = with_none (locals_of c) typed
after_typed c typed (syntax.Continue place) none = with_none (locals_of c) typed

parameter_typed : (c : StatementContext) → IsTypedContext c → (modifiers : List ModifierTree) (names : List Name) (name : Name) (place : Pos) → clause_cases c names name place ≡ [] → IsTypedContext (catch_context c modifiers names name)
parameter_typed c h modifiers names name place none =
    let t = parameter_type c.surroundings names in
    let known = parameter_known c.surroundings h.1 place names (nil_left (alternatives_cases c.surroundings place names) (double_cases place (locals_of c) name.text) none) in
    (with_one_typed (locals_of c) (local_variable c.next_variable name.text t (is_final_parameter modifiers names) None) h.0 (known_is_typed t known), h.1)

-- ---- `for`

-- the expressions of a `for`
abbrev for_trees : StatementContext → ForStartTree → Pos → Option ExprTree → List ExprTree → List typed.ExprTree
for_trees c start place e updates = start_trees c start place ++ optional_tree (behind_start c start place).surroundings e ++ expression_trees (behind_start c start place).surroundings updates

for_takes : (c : StatementContext) (start : ForStartTree) (place : Pos) (e : Option ExprTree) (updates : List ExprTree) → initial_count (start_form c.next_variable start) + one_if (is_some e) ≤ count (expressions (for_trees c start place e updates))
for_takes c start place e updates =
    let s = (behind_start c start place).surroundings in
    let first = start_trees c start place in
    let condition = optional_tree s e in
    let rest = expression_trees s updates in
    at_least (count (expressions (first ++ condition ++ rest))) (count (expressions first)) (count (expressions condition)) (count (expressions rest)) (initial_count (start_form c.next_variable start)) (one_if (is_some e)) (count_append (first ++ condition) rest ∙ ap (λ n. n + count (expressions rest)) (count_append first condition)) (start_count c.next_variable c start place) (optional_count s e)

for_well : (c : StatementContext) → AreTyped (locals_of c) → (start : ForStartTree) (place : Pos) (e : Option ExprTree) (updates : List ExprTree) → start_cases c start place ≡ [] → optional_cases (behind_start c start place).surroundings e place ≡ [] → expressions_cases (behind_start c start place).surroundings updates ≡ [] → AreWellFormed (expressions (for_trees c start place e updates))
for_well c typed start place e updates none_start none_condition none_updates =
    let s = (behind_start c start place).surroundings in
    let behind = start_typed c typed start place none_start in
    append_well (start_trees c start place ++ optional_tree s e) (expression_trees s updates) (append_well (start_trees c start place) (optional_tree s e) (start_well c typed start place none_start) (optional_well s behind e place none_condition)) (all_well s behind updates none_updates)

-- ---- all statements

mutual
  statement_well : (c : StatementContext) → IsTypedContext c → (t : StmtTree) → statement_cases c t ≡ [] → IsWellFormedStatement (statement_tree c t)
  statement_well c h (syntax.BlockOf b) none = block_well c h b none
  statement_well c h (syntax.Empty place) none = ((refl, refl), tt, tt)
  statement_well c h (syntax.LocalOf l place) none = ((declaration_count c.next_variable c l place, refl), declaration_well c h.0 l place none, tt)
  statement_well c h (syntax.ExpressionOf e place) none = ((refl, refl), (well_typed c.surroundings h.0 None e none, tt), tt)
  statement_well c h (syntax.If e a b place) none =
      let condition = required_cases c.surroundings e place in
      let then' = statement_cases c a in
      let otherwise = else_cases (else_context c a) b in
      ((refl, ap (λ n. 1 + n) (else_count (else_context c a) b)), required_well c.surroundings h.0 e place (nil_first condition then' otherwise none), (statement_well c h a (nil_second condition then' otherwise none), else_well (else_context c a) h b (nil_right (condition ++ then') otherwise none)))
  statement_well c h (syntax.While e body place) none =
      let condition = required_cases c.surroundings e place in
      let inner = statement_cases (in_a_loop c) body in
      ((refl, refl), required_well c.surroundings h.0 e place (nil_left condition inner none), (statement_well (in_a_loop c) h body (nil_right condition inner none), tt))
  statement_well c h (syntax.DoWhile body e place) none =
      let condition = required_cases c.surroundings e place in
      let inner = statement_cases (in_a_loop c) body in
      ((refl, refl), required_well c.surroundings h.0 e place (nil_left condition inner none), (statement_well (in_a_loop c) h body (nil_right condition inner none), tt))
  statement_well c h (syntax.For start e updates body place) none =
      let s = (behind_start c start place).surroundings in
      let first = start_cases c start place in
      let condition = optional_cases s e place in
      let steps = expressions_cases s updates in
      let inner = statement_cases (for_body_context c start place) body in
      let heads = nil_left (first ++ condition ++ steps) inner none in
      let none_start = nil_first first condition steps heads in
      ((for_takes c start place e updates, refl), for_well c h.0 start place e updates none_start (nil_second first condition steps heads) (nil_right (first ++ condition) steps heads), (statement_well (for_body_context c start place) (start_typed c h.0 start place none_start, h.1) body (nil_right (first ++ condition ++ steps) inner none), tt))
  statement_well c h (syntax.Try rs b cs last place) none =
      let f : Completion = finally_completion (finally_context c rs b cs) last in
      let of_finally = finally_cases (finally_context c rs b cs) last in
      let of_resources = resources_cases (resources_context c f cs) rs place in
      let of_block = block_cases (try_block_context c f rs cs) b in
      let of_catches = catches_cases (catches_context c f rs b) cs place in
      let front = nil_left (of_finally ++ of_resources ++ of_block) of_catches none in
      let none_resources = nil_second of_finally of_resources of_block front in
      let catch_blocks = catch_trees (catches_context c f rs b) cs in
      let finally_block = finally_tree (finally_context c rs b cs) last in
      let takes = one_more (count_statements (statements (catch_blocks ++ finally_block))) (count_statements (statements catch_blocks)) (count_statements (statements finally_block)) (length (catch_forms (catches_context c f rs b) cs)) (one_if (has_finally last)) (count_statements_append catch_blocks finally_block) (catches_count (catches_context c f rs b) cs) (finally_count (finally_context c rs b cs) last) in
      let block = block_well (try_block_context c f rs cs) (resources_typed (resources_context c f cs) h.0 rs place none_resources, h.1) b (nil_right (of_finally ++ of_resources) of_block front) in
      let catches = catches_well (catches_context c f rs b) h cs place (nil_right (of_finally ++ of_resources ++ of_block) of_catches none) in
      let last_block = finally_well (finally_context c rs b cs) h last (nil_first of_finally of_resources of_block front) in
      ((resources_count (resources_context c f cs) rs place none_resources, takes), resources_well (resources_context c f cs) h.0 rs place none_resources, (block, append_statements_well catch_blocks finally_block catches last_block))
  statement_well c h (syntax.Return e place) none = ((returned_count c.surroundings c.result e, refl), returned_well c.surroundings h.0 c.result e place none, tt)
  statement_well c h (syntax.Throw e place) none = ((refl, refl), thrown_well c.surroundings h.0 e place none, tt)
  statement_well c h (syntax.Break place) none = ((refl, refl), tt, tt)
  statement_well c h (syntax.Continue place) none = ((refl, refl), tt, tt)

  block_well : (c : StatementContext) → IsTypedContext c → (b : BlockTree) → block_cases c b ≡ [] → IsWellFormedStatement (block_tree c b)
  block_well c h (Braces ts place end) none = (refl, tt, statements_well c h ts none)

  pub statements_well : (c : StatementContext) → IsTypedContext c → (ts : StmtTrees) → statements_cases c ts ≡ [] → AreWellFormedStatements (statements (statement_trees c ts))
  statements_well c h no_statement none = tt
  statements_well c h (and_statement t ts) none =
      let none_first = nil_left (statement_cases c t) (statements_cases (after c t) ts) none in
      (statement_well c h t none_first, statements_well (after c t) (after_typed c h.0 t none_first, h.1) ts (nil_right (statement_cases c t) (statements_cases (after c t) ts) none))

  catches_well : (c : StatementContext) → IsTypedContext c → (cs : CatchTrees) (place : Pos) → catches_cases c cs place ≡ [] → AreWellFormedStatements (statements (catch_trees c cs))
  catches_well c h no_catch place none = tt
  catches_well c h (and_catch modifiers names name b more) place none =
      let clause = clause_cases c names name place in
      let inner = block_cases (catch_context c modifiers names name) b in
      let rest = catches_cases (next_catch_context c b) more place in
      (block_well (catch_context c modifiers names name) (parameter_typed c h modifiers names name place (nil_first clause inner rest none)) b (nil_second clause inner rest none), catches_well (next_catch_context c b) h more place (nil_right (clause ++ inner) rest none))

  else_well : (c : StatementContext) → IsTypedContext c → (b : MaybeStmt) → else_cases c b ≡ [] → AreWellFormedStatements (statements (else_tree c b))
  else_well c h no_else none = tt
  else_well c h (some_else t) none = (statement_well c h t none, tt)

  finally_well : (c : StatementContext) → IsTypedContext c → (b : MaybeBlock) → finally_cases c b ≡ [] → AreWellFormedStatements (statements (finally_tree c b))
  finally_well c h no_finally none = tt
  finally_well c h (some_finally b) none = (block_well c h b none, tt)
