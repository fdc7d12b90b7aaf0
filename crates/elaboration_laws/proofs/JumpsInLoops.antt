-- Each `break` and `continue` of an accepted body stands in a loop.
use Rattle.std.proofs.Common.{◌≡◌, ◌∙◌, ap, refl, Bool, true, false, ◌||◌, List, [], ◌∷◌, ◌++◌}
use Rattle.rlc_base.specs.declared.place.Pos.{Pos}
use Rattle.java_syntax.specs.StatementTrees.{BlockTree, Braces, CatchTrees, MaybeBlock, MaybeStmt, no_catch, and_catch, no_else, some_else, no_finally, some_finally}
use Rattle.java_syntax.specs.StatementTrees as syntax
use Rattle.java_typed_trees.specs.StatementTrees.{StmtTree, statements}
use Rattle.java_typing_laws.proofs.Goodness.{cons_is_nil, nil_first, nil_left, nil_right, nil_second}
use Rattle.java_statement_rules.specs.declared.completion.Completion.{Completion}
use Rattle.java_statement_rules.specs.Contexts.{StatementContext}
use Rattle.java_statement_rules.specs.StatementCases.{unless}
use Rattle.java_typing_laws.specs.Clauses.{clause_cases}
use Rattle.java_typing_laws.specs.Heads.{required_cases}
use Rattle.java_typing_laws.specs.Resources.{resources_cases}
use Rattle.java_typing_laws.specs.StatementCases.{block_cases, catches_cases, else_cases, finally_cases, statement_cases, statements_cases}
use Rattle.java_typing_laws.specs.StatementCompletions.{finally_completion}
use Rattle.java_typing_laws.specs.StatementContexts.{after, catch_context, catches_context, else_context, finally_context, next_catch_context, resources_context, try_block_context}
use Rattle.java_typing_laws.specs.StatementTrees.{block_tree, catch_trees, else_tree, finally_tree, statement_tree, statement_trees}
use Rattle.elaboration_laws.specs.OrderedTrees.{has_free_jump_within, have_free_jump}

neither : (a b : Bool) → a ≡ false → b ≡ false → (a || b) ≡ false
neither a b is never = ap (λ x. x || b) is ∙ never

first_not : (a b : Bool) → (a || b) ≡ false → a ≡ false
first_not true b is = is
first_not false b is = refl

second_not : (a b : Bool) → (a || b) ≡ false → b ≡ false
second_not true b is = absurd (let wrong : true ≡ false = is in cc)
second_not false b is = is

pub both_enclosed : (xs ys : List StmtTree) → have_free_jump (statements xs) ≡ false → have_free_jump (statements ys) ≡ false → have_free_jump (statements (xs ++ ys)) ≡ false
both_enclosed [] ys first second = second
both_enclosed (x ∷ xs) ys first second =
    neither (has_free_jump_within x) (have_free_jump (statements (xs ++ ys)))
    (first_not (has_free_jump_within x) (have_free_jump (statements xs)) first)
    (both_enclosed xs ys (second_not (has_free_jump_within x) (have_free_jump (statements xs)) first) second)

-- no jump is accepted outside loops
no_jump : (in_loop : Bool) (place : Pos) → in_loop ≡ false → unless in_loop place ≡ [] → ⊥
no_jump true place outside none = let wrong : true ≡ false = outside in cc
no_jump false place outside none = cons_is_nil _ _ none

mutual
  statement_enclosed : (c : StatementContext) → c.in_loop ≡ false → (t : syntax.StmtTree) → statement_cases c t ≡ [] → has_free_jump_within (statement_tree c t) ≡ false
  statement_enclosed c outside (syntax.BlockOf b) none = block_enclosed c outside b none
  statement_enclosed c outside (syntax.Empty place) none = refl
  statement_enclosed c outside (syntax.LocalOf l place) none = refl
  statement_enclosed c outside (syntax.ExpressionOf e place) none = refl
  statement_enclosed c outside (syntax.If e a b place) none =
      let condition = required_cases c.surroundings e place in
      let then' = statement_cases c a in
      let otherwise = else_cases (else_context c a) b in
      neither (has_free_jump_within (statement_tree c a)) (have_free_jump (statements (else_tree (else_context c a) b)))
      (statement_enclosed c outside a (nil_second condition then' otherwise none))
      (else_enclosed (else_context c a) outside b (nil_right (condition ++ then') otherwise none))
  statement_enclosed c outside (syntax.While e body place) none = refl
  statement_enclosed c outside (syntax.DoWhile body e place) none = refl
  statement_enclosed c outside (syntax.For start e updates body place) none = refl
  statement_enclosed c outside (syntax.Try rs b cs last place) none =
      let f : Completion = finally_completion (finally_context c rs b cs) last in
      let of_finally = finally_cases (finally_context c rs b cs) last in
      let of_resources = resources_cases (resources_context c f cs) rs place in
      let of_block = block_cases (try_block_context c f rs cs) b in
      let of_catches = catches_cases (catches_context c f rs b) cs place in
      let front = nil_left (of_finally ++ of_resources ++ of_block) of_catches none in
      let catch_blocks = catch_trees (catches_context c f rs b) cs in
      let finally_block = finally_tree (finally_context c rs b cs) last in
      neither (has_free_jump_within (block_tree (try_block_context c f rs cs) b)) (have_free_jump (statements (catch_blocks ++ finally_block)))
      (block_enclosed (try_block_context c f rs cs) outside b (nil_right (of_finally ++ of_resources) of_block front))
      (both_enclosed catch_blocks finally_block
      (catches_enclosed (catches_context c f rs b) outside cs place (nil_right (of_finally ++ of_resources ++ of_block) of_catches none))
      (finally_enclosed (finally_context c rs b cs) outside last (nil_first of_finally of_resources of_block front)))
  statement_enclosed c outside (syntax.Return e place) none = refl
  statement_enclosed c outside (syntax.Throw e place) none = refl
  statement_enclosed c outside (syntax.Break place) none = absurd (no_jump c.in_loop place outside none)
  statement_enclosed c outside (syntax.Continue place) none = absurd (no_jump c.in_loop place outside none)

  block_enclosed : (c : StatementContext) → c.in_loop ≡ false → (b : BlockTree) → block_cases c b ≡ [] → has_free_jump_within (block_tree c b) ≡ false
  block_enclosed c outside (Braces ts place end) none = statements_enclosed c outside ts none

  pub statements_enclosed : (c : StatementContext) → c.in_loop ≡ false → (ts : syntax.StmtTrees) → statements_cases c ts ≡ [] → have_free_jump (statements (statement_trees c ts)) ≡ false
  statements_enclosed c outside syntax.no_statement none = refl
  statements_enclosed c outside (syntax.and_statement t ts) none =
      neither (has_free_jump_within (statement_tree c t)) (have_free_jump (statements (statement_trees (after c t) ts)))
      (statement_enclosed c outside t (nil_left (statement_cases c t) (statements_cases (after c t) ts) none))
      (statements_enclosed (after c t) outside ts (nil_right (statement_cases c t) (statements_cases (after c t) ts) none))

  catches_enclosed : (c : StatementContext) → c.in_loop ≡ false → (cs : CatchTrees) (place : Pos) → catches_cases c cs place ≡ [] → have_free_jump (statements (catch_trees c cs)) ≡ false
  catches_enclosed c outside no_catch place none = refl
  catches_enclosed c outside (and_catch modifiers names name b more) place none =
      let clause = clause_cases c names name place in
      let inner = block_cases (catch_context c modifiers names name) b in
      let rest = catches_cases (next_catch_context c b) more place in
      neither (has_free_jump_within (block_tree (catch_context c modifiers names name) b)) (have_free_jump (statements (catch_trees (next_catch_context c b) more)))
      (block_enclosed (catch_context c modifiers names name) outside b (nil_second clause inner rest none))
      (catches_enclosed (next_catch_context c b) outside more place (nil_right (clause ++ inner) rest none))

  else_enclosed : (c : StatementContext) → c.in_loop ≡ false → (b : MaybeStmt) → else_cases c b ≡ [] → have_free_jump (statements (else_tree c b)) ≡ false
  else_enclosed c outside no_else none = refl
  else_enclosed c outside (some_else t) none = neither (has_free_jump_within (statement_tree c t)) false (statement_enclosed c outside t none) refl

  finally_enclosed : (c : StatementContext) → c.in_loop ≡ false → (b : MaybeBlock) → finally_cases c b ≡ [] → have_free_jump (statements (finally_tree c b)) ≡ false
  finally_enclosed c outside no_finally none = refl
  finally_enclosed c outside (some_finally b) none = neither (has_free_jump_within (block_tree c b)) false (block_enclosed c outside b none) refl
