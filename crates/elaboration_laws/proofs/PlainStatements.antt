-- What is written in a body gives no super call and no initialiser of a field; and lists of statements of which none is one.
use Rattle.std.proofs.Common.{◌≡◌, Bool, true, false, List, [], ◌∷◌, ◌++◌, refl}
use Rattle.std.specs.Prelude.{MatchBool}
use Rattle.java_syntax.specs.StatementTrees.{BlockTree, Braces, CatchTrees, MaybeBlock, MaybeStmt, no_catch, and_catch, no_else, some_else, no_finally, some_finally}
use Rattle.java_syntax.specs.StatementTrees as syntax
use Rattle.java_typed_trees.specs.StatementTrees.{StatementForm, StmtTree, StmtTrees, no_statement, and_statement, statements}
use Rattle.java_typed_trees.specs.StatementTrees as forms
use Rattle.java_statement_rules.specs.declared.completion.Completion.{Completion}
use Rattle.java_statement_rules.specs.Contexts.{StatementContext, in_a_loop}
use Rattle.java_typing_laws.specs.StatementCompletions.{finally_completion}
use Rattle.java_typing_laws.specs.StatementContexts.{after, catch_context, catches_context, else_context, finally_context, for_body_context, next_catch_context, try_block_context}
use Rattle.java_typing_laws.specs.StatementTrees.{block_tree, catch_trees, else_tree, finally_tree, statement_tree, statement_trees}
use Rattle.elaboration_laws.specs.OrderedTrees.{HasNoHeadInside, HaveHeadsFirst, HaveNoHeads, HaveNoSuperCall, form_at, is_head_form, is_super_call_form}

-- no head, and none in it
abbrev pub IsPlain : StmtTree → Type 0
IsPlain t = (is_head_form (form_at t) ≡ false) × HasNoHeadInside t

pub and_plain : (t : StmtTree) (ts : StmtTrees) → IsPlain t → HaveNoHeads ts → HaveNoHeads (and_statement t ts)
and_plain t ts one rest = (one.0, one.1, rest)

pub both_plain : (xs ys : List StmtTree) → HaveNoHeads (statements xs) → HaveNoHeads (statements ys) → HaveNoHeads (statements (xs ++ ys))
both_plain [] ys first second = second
both_plain (x ∷ xs) ys first second = (first.0, first.1, both_plain xs ys first.2 second)

mutual
  statement_plain : (c : StatementContext) (t : syntax.StmtTree) → IsPlain (statement_tree c t)
  statement_plain c (syntax.BlockOf b) = block_plain c b
  statement_plain c (syntax.Empty place) = (refl, tt)
  statement_plain c (syntax.LocalOf l place) = (refl, tt)
  statement_plain c (syntax.ExpressionOf e place) = (refl, tt)
  statement_plain c (syntax.If e a b place) = (refl, and_plain (statement_tree c a) (statements (else_tree (else_context c a) b)) (statement_plain c a) (else_plain (else_context c a) b))
  statement_plain c (syntax.While e body place) = (refl, and_plain (statement_tree (in_a_loop c) body) no_statement (statement_plain (in_a_loop c) body) tt)
  statement_plain c (syntax.DoWhile body e place) = (refl, and_plain (statement_tree (in_a_loop c) body) no_statement (statement_plain (in_a_loop c) body) tt)
  statement_plain c (syntax.For start e updates body place) = (refl, and_plain (statement_tree (for_body_context c start place) body) no_statement (statement_plain (for_body_context c start place) body) tt)
  statement_plain c (syntax.Try rs b cs last place) =
      let f : Completion = finally_completion (finally_context c rs b cs) last in
      let catch_blocks = catch_trees (catches_context c f rs b) cs in
      let finally_block = finally_tree (finally_context c rs b cs) last in
      (refl, and_plain (block_tree (try_block_context c f rs cs) b) (statements (catch_blocks ++ finally_block)) (block_plain (try_block_context c f rs cs) b) (both_plain catch_blocks finally_block (catches_plain (catches_context c f rs b) cs) (finally_plain (finally_context c rs b cs) last)))
  statement_plain c (syntax.Return e place) = (refl, tt)
  statement_plain c (syntax.Throw e place) = (refl, tt)
  statement_plain c (syntax.Break place) = (refl, tt)
  statement_plain c (syntax.Continue place) = (refl, tt)

  block_plain : (c : StatementContext) (b : BlockTree) → IsPlain (block_tree c b)
  block_plain c (Braces ts place end) = (refl, statements_plain c ts)

  pub statements_plain : (c : StatementContext) (ts : syntax.StmtTrees) → HaveNoHeads (statements (statement_trees c ts))
  statements_plain c syntax.no_statement = tt
  statements_plain c (syntax.and_statement t ts) = and_plain (statement_tree c t) (statements (statement_trees (after c t) ts)) (statement_plain c t) (statements_plain (after c t) ts)

  catches_plain : (c : StatementContext) (cs : CatchTrees) → HaveNoHeads (statements (catch_trees c cs))
  catches_plain c no_catch = tt
  catches_plain c (and_catch modifiers names name b more) = and_plain (block_tree (catch_context c modifiers names name) b) (statements (catch_trees (next_catch_context c b) more)) (block_plain (catch_context c modifiers names name) b) (catches_plain (next_catch_context c b) more)

  else_plain : (c : StatementContext) (b : MaybeStmt) → HaveNoHeads (statements (else_tree c b))
  else_plain c no_else = tt
  else_plain c (some_else t) = and_plain (statement_tree c t) no_statement (statement_plain c t) tt

  finally_plain : (c : StatementContext) (b : MaybeBlock) → HaveNoHeads (statements (finally_tree c b))
  finally_plain c no_finally = tt
  finally_plain c (some_finally b) = and_plain (block_tree c b) no_statement (block_plain c b) tt

-- ---- where no statement is a head

heads_first_by : (x : Bool) (ts : StmtTrees) → x ≡ false → HaveNoHeads ts → MatchBool x (HaveHeadsFirst ts) (HaveNoHeads ts)
heads_first_by true ts is none = absurd (let wrong : true ≡ false = is in cc)
heads_first_by false ts is none = none

pub plain_heads_first : (ts : StmtTrees) → HaveNoHeads ts → HaveHeadsFirst ts
plain_heads_first no_statement none = tt
plain_heads_first (and_statement t ts) none = (none.1, heads_first_by (is_head_form (form_at t)) ts none.0 none.2)

no_super_call_form : (f : StatementForm) → is_head_form f ≡ false → is_super_call_form f ≡ false
no_super_call_form (forms.SuperCall m written) is = is
no_super_call_form forms.FieldInitializer is = refl
no_super_call_form f is = refl

pub plain_no_super_call : (ts : StmtTrees) → HaveNoHeads ts → HaveNoSuperCall ts
plain_no_super_call no_statement none = tt
plain_no_super_call (and_statement t ts) none = (no_super_call_form (form_at t) none.0, plain_no_super_call ts none.2)
