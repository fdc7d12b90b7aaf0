-- A `try` by its parts: they are typed where the definitions say, though its `finally` is typed first.
use Rattle.std.proofs.Common.{◌≡◌, ℕ, ◌+◌, List, ◌∷◌, ◌++◌, length, ap, ◌∙◌}
use Rattle.rlc_base.specs.declared.place.Pos.{Pos}
use Rattle.program_model.specs.declared.kinds.ClassId.{ClassId}
use Rattle.java_syntax.specs.StatementTrees.{BlockTree, CatchTrees, MaybeBlock, ResourceTree}
use Rattle.java_syntax.specs.StatementTrees as syntax
use Rattle.java_typed_trees.specs.ExpressionTrees.{expressions}
use Rattle.java_typed_trees.specs.StatementTrees.{Statement, StmtTree, statements}
use Rattle.java_typed_trees.specs.StatementTrees as forms
use Rattle.java_statement_rules.specs.declared.completion.Completion.{Completion}
use Rattle.java_statement_rules.specs.Completions.{and_then, one_of}
use Rattle.java_statement_rules.specs.Contexts.{StatementContext, covered_of, numbered_from, program_of}
use Rattle.java_statement_scopes.specs.Clauses.{caught_by_all, swallowed}
use Rattle.java_statement_parts.specs.Resources.{opening_trees, resource_shapes, resources_cases}
use Rattle.java_typed_statements.specs.StatementCases.{block_cases, catches_cases, finally_cases, statement_cases}
use Rattle.java_typed_statements.specs.StatementCompletions.{block_completion, catches_completion, completion, finally_completion}
use Rattle.java_typed_statements.specs.StatementContexts.{behind_resources, catches_context, finally_context, resources_context}
use Rattle.java_typed_statements.specs.StatementTrees.{block_tree, catch_forms, catch_trees, finally_tree, has_finally, statement_tree}
use Rattle.java_statement_scopes.specs.VariableCounts.{block_count, catches_count}

-- where just these exceptions are covered, and the next variable has this number
abbrev pub covered_by : StatementContext → List ClassId → ℕ → StatementContext
covered_by c covered n = record c { surroundings = record c.surroundings { context = record c.surroundings.context { covered = covered } }; next_variable = n }

-- what has been found of a `try`: how its `finally` ends and with which number that begins, what is covered in its clauses and
-- in its block, and the number of the first clause
pub record IsTry (c : StatementContext) (rs : List ResourceTree) (b : BlockTree) (cs : CatchTrees) (last : MaybeBlock) (closed : Completion) (before within : List ClassId) (behind clause : ℕ) : Type 0 where
  pub behind_is : behind ≡ c.next_variable + length rs + block_count b + catches_count cs
  pub closed_is : closed ≡ finally_completion (numbered_from behind c) last
  pub before_is : before ≡ swallowed (program_of c) closed.completes ++ covered_of c
  pub within_is : within ≡ caught_by_all c.surroundings cs ++ before
  pub clause_is : clause ≡ c.next_variable + length rs + block_count b

module _ (c : StatementContext) (rs : List ResourceTree) (b : BlockTree) (cs : CatchTrees) (last : MaybeBlock) (closed : Completion) (before within : List ClassId) (behind clause : ℕ) (p : IsTry c rs b cs last closed before within behind clause) where
  last_at : numbered_from behind c ≡ finally_context c rs b cs
  last_at = ap (λ n. numbered_from n c) p.behind_is

  closed_as : closed ≡ finally_completion (finally_context c rs b cs) last
  closed_as = p.closed_is ∙ ap (λ d. finally_completion d last) last_at

  inner_at : covered_by c within c.next_variable ≡ resources_context c closed cs
  inner_at = ap (λ x. covered_by c x c.next_variable) (p.within_is ∙ ap (λ y. caught_by_all c.surroundings cs ++ y) p.before_is)

  outer_at : covered_by c before clause ≡ catches_context c closed rs b
  outer_at = ap (λ x. covered_by c x clause) p.before_is ∙ ap (λ n. covered_by c (swallowed (program_of c) closed.completes ++ covered_of c) n) p.clause_is

  -- what is said of the three places is said of those of the definitions
  at_places : {X : Type 0} (g : Completion → StatementContext → StatementContext → StatementContext → X) →
      g closed (numbered_from behind c) (covered_by c within c.next_variable) (covered_by c before clause) ≡ (let f : Completion = finally_completion (finally_context c rs b cs) last in g f (finally_context c rs b cs) (resources_context c f cs) (catches_context c f rs b))
  at_places g =
      ap (λ d. g closed d (covered_by c within c.next_variable) (covered_by c before clause)) last_at
      ∙ ap (λ d. g closed (finally_context c rs b cs) d (covered_by c before clause)) inner_at
      ∙ ap (λ d. g closed (finally_context c rs b cs) (resources_context c closed cs) d) outer_at
      ∙ ap (λ f. g f (finally_context c rs b cs) (resources_context c f cs) (catches_context c f rs b)) closed_as

  pub try_completion : (place : Pos) → and_then closed (one_of (block_completion (behind_resources (covered_by c within c.next_variable) rs) b) (catches_completion (covered_by c before clause) cs)) ≡ completion c (syntax.Try rs b cs last place)
  try_completion place = at_places (λ f l i o. and_then f (one_of (block_completion (behind_resources i rs) b) (catches_completion o cs)))

  pub try_tree : (place : Pos) → Statement (forms.Try (resource_shapes (covered_by c within c.next_variable) rs) (catch_forms (covered_by c before clause) cs) (has_finally last)) place (expressions (opening_trees (covered_by c within c.next_variable) rs)) (statements (block_tree (behind_resources (covered_by c within c.next_variable) rs) b ∷ catch_trees (covered_by c before clause) cs ++ finally_tree (numbered_from behind c) last)) ≡ statement_tree c (syntax.Try rs b cs last place)
  try_tree place = at_places (λ f l i o. Statement (forms.Try (resource_shapes i rs) (catch_forms o cs) (has_finally last)) place (expressions (opening_trees i rs)) (statements (block_tree (behind_resources i rs) b ∷ catch_trees o cs ++ finally_tree l last)))

  pub try_cases : (place : Pos) → finally_cases (numbered_from behind c) last ++ resources_cases (covered_by c within c.next_variable) rs place ++ block_cases (behind_resources (covered_by c within c.next_variable) rs) b ++ catches_cases (covered_by c before clause) cs place ≡ statement_cases c (syntax.Try rs b cs last place)
  try_cases place = at_places (λ f l i o. finally_cases l last ++ resources_cases i rs place ++ block_cases (behind_resources i rs) b ++ catches_cases o cs place)
