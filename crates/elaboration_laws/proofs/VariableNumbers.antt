-- The typed statements in which nothing is refused declare the variables from the next number on, as many as are counted.
use Rattle.std.proofs.Common.{◌≡◌, ◌∙◌, sym, ap, refl, subst, arith, ℕ, suc, ◌+◌, Option, Some, None, List, [], ◌∷◌, ◌++◌, length, length-append}
use Rattle.std.proofs.lemmas.List.{map-append}
use Rattle.rlc_base.specs.declared.place.Pos.{Pos}
use Rattle.program_model.specs.declared.kinds.MethodId.{MethodId}
use Rattle.program_model.specs.TextOrder.{IsCount}
use Rattle.java_syntax.specs.StatementTrees.{BlockTree, Braces, CatchTrees, ForStartTree, MaybeBlock, MaybeStmt, ResourceTree, no_catch, and_catch, no_else, some_else, no_finally, some_finally}
use Rattle.java_syntax.specs.StatementTrees as syntax
use Rattle.java_typed_trees.specs.declared.statements.ResourceShape.{ResourceShape}
use Rattle.java_typed_trees.specs.StatementTrees.{StmtTree, statements}
use Rattle.java_typed_trees.specs.WellFormed.{count}
use Rattle.java_typing_laws.proofs.Goodness.{nil_first, nil_left, nil_right, nil_second}
use Rattle.java_statement_rules.specs.declared.completion.Completion.{Completion}
use Rattle.java_statement_rules.specs.Contexts.{StatementContext, in_a_loop}
use Rattle.java_typing_laws.specs.Clauses.{clause_cases}
use Rattle.java_typing_laws.specs.Heads.{expressions_cases, optional_cases, required_cases, start_cases, start_count, start_form}
use Rattle.java_typing_laws.specs.Resources.{behind_resource, closing_of, resource_cases, resource_shape, resource_shapes, resource_shapes_by, resources_cases}
use Rattle.java_call_rules.specs.CallParts.{method_in}
use Rattle.java_typing_laws.specs.StatementCases.{block_cases, catches_cases, else_cases, finally_cases, statement_cases, statements_cases}
use Rattle.java_typing_laws.specs.StatementCompletions.{finally_completion}
use Rattle.java_typing_laws.specs.StatementContexts.{after, behind_start, catch_context, catches_context, else_context, finally_context, for_body_context, next_catch_context, resources_context, try_block_context}
use Rattle.java_typing_laws.specs.StatementTrees.{block_tree, catch_forms, catch_trees, else_tree, finally_tree, statement_tree, statement_trees}
use Rattle.java_typing_laws.specs.VariableCounts.{block_count, catches_count, else_count, finally_count, statements_count, variable_count}
use Rattle.java_typing_laws.proofs.ResourceLaws.{resources_count}
use Rattle.elaboration_laws.specs.DeclaredVariables.{in_clauses, joined, names_in, resource_names, variables_of_each, variables_within}
use Rattle.elaboration_laws.proofs.Counts.{both_count, declarators_count, ends_at}

-- these numbers are those from one on, so many
abbrev CountsFrom : ℕ → ℕ → List ℕ → Type 0
CountsFrom first count xs = IsCount first (first + count) xs

from_both : (first n k : ℕ) (xs ys : List ℕ) → CountsFrom first n xs → CountsFrom (first + n) k ys → CountsFrom first (n + k) (xs ++ ys)
from_both first n k xs ys h g =
    let total : first + n + k ≡ first + (n + k) = omega arith in
    ends_at first (first + n + k) (first + (n + k)) (xs ++ ys) total (both_count first (first + n) (first + n + k) xs ys h g)

nothing_from : (first : ℕ) → CountsFrom first 0 []
nothing_from first = omega arith

-- with nothing behind them
alone : (first n : ℕ) (xs : List ℕ) → CountsFrom first n xs → CountsFrom first n (xs ++ [])
alone first n xs h = both_count first (first + n) (first + n) xs [] h refl

-- ---- the first part of `for`

start_counts : (n : ℕ) (start : ForStartTree) → CountsFrom n (start_count start) (names_in (start_form n start))
start_counts n (syntax.Declaration l) = declarators_count n l.variables
start_counts n (syntax.Expressions es) = nothing_from n

-- ---- resources

others : (c : StatementContext) (r : ResourceTree) (rs : List ResourceTree) (place : Pos) → resources_cases c (r ∷ rs) place ≡ [] → resources_cases (behind_resource c r) rs place ≡ []
others c r rs place none = nil_right (resource_cases c r place) (resources_cases (behind_resource c r) rs place) none

-- each resource that is not refused is kept
one_shape : (c : StatementContext) (r : ResourceTree) (rs : List ResourceTree) (place : Pos) → resources_cases c (r ∷ rs) place ≡ [] → length (resource_shape c r) ≡ 1
one_shape c r rs place none =
    let behind = behind_resource c r in
    let all = resources_count c (r ∷ rs) place none in
    let rest = resources_count behind rs place (others c r rs place none) in
    let long = length-append (resource_shape c r) (resource_shapes behind rs) in
    omega (arith, all, rest, long)

shape_number : (n : ℕ) (place : Pos) (m : Option MethodId) → length (resource_shapes_by n place m) ≡ 1 → resource_names (resource_shapes_by n place m) ≡ n ∷ []
shape_number n place None is = absurd (omega (arith, is))
shape_number n place (Some m) is = refl

names_of_both : (c : StatementContext) (r : ResourceTree) (rs : List ResourceTree) → resource_names (resource_shape c r ++ resource_shapes (behind_resource c r) rs) ≡ resource_names (resource_shape c r) ++ resource_names (resource_shapes (behind_resource c r) rs)
names_of_both c r rs = map-append (λ (x : ResourceShape). x.variable) (resource_shape c r) (resource_shapes (behind_resource c r) rs)

resources_number : (c : StatementContext) (rs : List ResourceTree) (place : Pos) → resources_cases c rs place ≡ [] → CountsFrom c.next_variable (length rs) (resource_names (resource_shapes c rs))
resources_number c [] place none = nothing_from c.next_variable
resources_number c (r ∷ rs) place none =
    let behind = behind_resource c r in
    let first = shape_number c.next_variable r.name.pos (method_in (closing_of c.surroundings r)) (one_shape c r rs place none) in
    let rest : List ℕ = resource_names (resource_shapes behind rs) in
    let total : c.next_variable + 1 + length rs ≡ c.next_variable + suc (length rs) = omega arith in
    subst (CountsFrom c.next_variable (suc (length rs))) (sym (names_of_both c r rs ∙ ap (λ (xs : List ℕ). xs ++ rest) first))
    (refl, ends_at (c.next_variable + 1) (c.next_variable + 1 + length rs) (c.next_variable + suc (length rs)) rest total (resources_number behind rs place (others c r rs place none)))

-- ---- all statements

mutual
  statement_number : (c : StatementContext) (t : syntax.StmtTree) → statement_cases c t ≡ [] → CountsFrom c.next_variable (variable_count t) (variables_within (statement_tree c t))
  statement_number c (syntax.BlockOf b) none = block_number c b none
  statement_number c (syntax.Empty place) none = nothing_from c.next_variable
  statement_number c (syntax.LocalOf l place) none = declarators_count c.next_variable l.variables
  statement_number c (syntax.ExpressionOf e place) none = nothing_from c.next_variable
  statement_number c (syntax.If e a b place) none =
      let condition = required_cases c.surroundings e place in
      let then' = statement_cases c a in
      let otherwise = else_cases (else_context c a) b in
      from_both c.next_variable (variable_count a) (else_count b) (variables_within (statement_tree c a)) (joined (variables_of_each (statements (else_tree (else_context c a) b))))
      (statement_number c a (nil_second condition then' otherwise none))
      (else_number (else_context c a) b (nil_right (condition ++ then') otherwise none))
  statement_number c (syntax.While e body place) none =
      alone c.next_variable (variable_count body) (variables_within (statement_tree (in_a_loop c) body)) (statement_number (in_a_loop c) body (nil_right (required_cases c.surroundings e place) (statement_cases (in_a_loop c) body) none))
  statement_number c (syntax.DoWhile body e place) none =
      alone c.next_variable (variable_count body) (variables_within (statement_tree (in_a_loop c) body)) (statement_number (in_a_loop c) body (nil_right (required_cases c.surroundings e place) (statement_cases (in_a_loop c) body) none))
  statement_number c (syntax.For start e updates body place) none =
      let inner = for_body_context c start place in
      let first = start_cases c start place in
      let condition = optional_cases (behind_start c start place).surroundings e place in
      let steps = expressions_cases (behind_start c start place).surroundings updates in
      let of_body = statement_cases inner body in
      from_both c.next_variable (start_count start) (variable_count body) (names_in (start_form c.next_variable start)) (joined (variables_within (statement_tree inner body) ∷ []))
      (start_counts c.next_variable start)
      (alone inner.next_variable (variable_count body) (variables_within (statement_tree inner body)) (statement_number inner body (nil_right (first ++ condition ++ steps) of_body none)))
  statement_number c (syntax.Try rs b cs last place) none =
      let f : Completion = finally_completion (finally_context c rs b cs) last in
      let opened = resources_context c f cs in
      let within = try_block_context c f rs cs in
      let clauses = catches_context c f rs b in
      let behind = finally_context c rs b cs in
      let of_finally = finally_cases behind last in
      let of_resources = resources_cases opened rs place in
      let of_block = block_cases within b in
      let of_catches = catches_cases clauses cs place in
      let front = nil_left (of_finally ++ of_resources ++ of_block) of_catches none in
      let n : ℕ = c.next_variable in
      let total : n + length rs + block_count b + catches_count cs + finally_count last ≡ n + (length rs + block_count b + catches_count cs + finally_count last) = omega arith in
      let names : List ℕ = resource_names (resource_shapes opened rs) in
      let block : List ℕ = variables_within (block_tree within b) in
      let rest : List ℕ = in_clauses (catch_forms clauses cs) (variables_of_each (statements (catch_trees clauses cs ++ finally_tree behind last))) in
      let end : ℕ = n + length rs + block_count b + catches_count cs + finally_count last in
      ends_at n end (n + (length rs + block_count b + catches_count cs + finally_count last)) (names ++ block ++ rest) total
      (both_count n (n + length rs + block_count b) end (names ++ block) rest
      (both_count n (n + length rs) (n + length rs + block_count b) names block
      (resources_number opened rs place (nil_second of_finally of_resources of_block front))
      (block_number within b (nil_right (of_finally ++ of_resources) of_block front)))
      (catches_number clauses cs place (nil_right (of_finally ++ of_resources ++ of_block) of_catches none) (finally_tree behind last) end
      (finally_number behind last (nil_first of_finally of_resources of_block front))))
  statement_number c (syntax.Return e place) none = nothing_from c.next_variable
  statement_number c (syntax.Throw e place) none = nothing_from c.next_variable
  statement_number c (syntax.Break place) none = nothing_from c.next_variable
  statement_number c (syntax.Continue place) none = nothing_from c.next_variable

  block_number : (c : StatementContext) (b : BlockTree) → block_cases c b ≡ [] → CountsFrom c.next_variable (block_count b) (variables_within (block_tree c b))
  block_number c (Braces ts place end) none = statements_number c ts none

  pub statements_number : (c : StatementContext) (ts : syntax.StmtTrees) → statements_cases c ts ≡ [] → IsCount c.next_variable (c.next_variable + statements_count ts) (joined (variables_of_each (statements (statement_trees c ts))))
  statements_number c syntax.no_statement none = nothing_from c.next_variable
  statements_number c (syntax.and_statement t ts) none =
      from_both c.next_variable (variable_count t) (statements_count ts) (variables_within (statement_tree c t)) (joined (variables_of_each (statements (statement_trees (after c t) ts))))
      (statement_number c t (nil_left (statement_cases c t) (statements_cases (after c t) ts) none))
      (statements_number (after c t) ts (nil_right (statement_cases c t) (statements_cases (after c t) ts) none))

  -- the clauses, before the statements `behind`, whose variables count on
  catches_number : (c : StatementContext) (cs : CatchTrees) (place : Pos) → catches_cases c cs place ≡ [] → (behind : List StmtTree) (end : ℕ) → IsCount (c.next_variable + catches_count cs) end (joined (variables_of_each (statements behind))) → IsCount c.next_variable end (in_clauses (catch_forms c cs) (variables_of_each (statements (catch_trees c cs ++ behind))))
  catches_number c no_catch place none behind end count =
      let same : c.next_variable + 0 ≡ c.next_variable = omega arith in
      subst (λ n. IsCount n end (joined (variables_of_each (statements behind)))) same count
  catches_number c (and_catch modifiers names name b more) place none behind end count =
      let clause = clause_cases c names name place in
      let inner = block_cases (catch_context c modifiers names name) b in
      let next = next_catch_context c b in
      let n : ℕ = c.next_variable in
      let same : n + (1 + block_count b + catches_count more) ≡ n + 1 + block_count b + catches_count more = omega arith in
      let block : List ℕ = variables_within (block_tree (catch_context c modifiers names name) b) in
      let rest : List ℕ = in_clauses (catch_forms next more) (variables_of_each (statements (catch_trees next more ++ behind))) in (
        refl,
        both_count (n + 1) (n + 1 + block_count b) end block rest
            (block_number (catch_context c modifiers names name) b (nil_second clause inner (catches_cases next more place) none))
            (catches_number next more place (nil_right (clause ++ inner) (catches_cases next more place) none) behind end (subst (λ k. IsCount k end (joined (variables_of_each (statements behind)))) same count)),
      )

  else_number : (c : StatementContext) (b : MaybeStmt) → else_cases c b ≡ [] → CountsFrom c.next_variable (else_count b) (joined (variables_of_each (statements (else_tree c b))))
  else_number c no_else none = nothing_from c.next_variable
  else_number c (some_else t) none = alone c.next_variable (variable_count t) (variables_within (statement_tree c t)) (statement_number c t none)

  finally_number : (c : StatementContext) (b : MaybeBlock) → finally_cases c b ≡ [] → CountsFrom c.next_variable (finally_count b) (joined (variables_of_each (statements (finally_tree c b))))
  finally_number c no_finally none = nothing_from c.next_variable
  finally_number c (some_finally b) none = alone c.next_variable (block_count b) (variables_within (block_tree c b)) (block_number c b none)
