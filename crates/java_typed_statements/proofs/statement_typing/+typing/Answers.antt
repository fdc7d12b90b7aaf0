-- A block and a `try` are nodes over the trees of their lists, and a `try` is typed where the definitions say.
use Rattle.std.proofs.Common.{rules, arith, ap, sym, ◌∙◌, ◌≡◌, ◌++◌, ◌∷◌, [], map, option_map, append_assoc}
use Rattle.std.proofs.lemmas.Grind.{common_steps}
use Rattle.java_syntax.specs.StatementTrees.{block_of, catch_of, catches, maybe_block, resource_of, stmt_of}
use Rattle.java_typed_trees.specs.ExpressionTrees.{expressions, tree_of}
use Rattle.java_typed_trees.specs.StatementTrees.{Statement, catch_form, statement_of, statements}
use Rattle.java_typed_trees.specs.StatementTrees as forms
use Rattle.java_statement_rules.specs.Completions.{and_then, one_of}
use Rattle.java_statement_rules.specs.Contexts.{numbered_from}
use Rattle.java_statement_parts.specs.Resources.{opening_trees, resource_shapes, resources_cases}
use Rattle.java_statement_scopes.specs.Scopes.{context_at}
use Rattle.java_typed_statements.specs.StatementCases.{block_cases, catches_cases, finally_cases, statement_cases}
use Rattle.java_typed_statements.specs.StatementCompletions.{block_completion, catches_completion, completion}
use Rattle.java_typed_statements.specs.StatementContexts.{behind_resources}
use Rattle.java_typed_statements.specs.StatementTrees.{block_tree, catch_forms, catch_trees, finally_tree, has_finally, statement_tree}
use Rattle.java_statement_scopes.proofs.Nodes.{block_is_node, try_is_node}
use Rattle.java_typed_statements.proofs.Nodes.{finally_is_some}
use Rattle.java_typed_statements.proofs.Tries.{IsTry, covered_by, try_cases, try_completion, try_tree}
use Rattle.java_typed_statements.proofs.statement_typing.+typing.Goals as goal

pub statement-returns-in-Block-clause-completion : goal.statement-returns-in-Block-clause-completion
statement-returns-in-Block-clause-completion t c =
    let node = ap stmt_of c.in-Block.is ∙ block_is_node c.in-Block.b in
    rw node (search rules)

pub statement-returns-in-Block-clause-tree : goal.statement-returns-in-Block-clause-tree
statement-returns-in-Block-clause-tree t c =
    let node = ap stmt_of c.in-Block.is ∙ block_is_node c.in-Block.b in
    rw node (search rules)

pub statement-returns-in-Block-clause-cases : goal.statement-returns-in-Block-clause-cases
statement-returns-in-Block-clause-cases t c =
    let node = ap stmt_of c.in-Block.is ∙ block_is_node c.in-Block.b in
    rw node (search rules)

pub statement-returns-in-Block-clause-next : goal.statement-returns-in-Block-clause-next
statement-returns-in-Block-clause-next t c =
    let node = ap stmt_of c.in-Block.is ∙ block_is_node c.in-Block.b in
    rw node (search rules)

pub statement-returns-in_ok-push-in-Try-clause-completion : goal.statement-returns-in_ok-push-in-Try-clause-completion
statement-returns-in_ok-push-in-Try-clause-completion t c =
    let node = ap stmt_of c.in-Try.is ∙ try_is_node c.in-Try.resources c.in-Try.b c.in-Try.catches c.in-Try.finally c.in-Try.pos in
    let here = context_at c.args.scope.now c.args.locals.now.items c.args.next.now in
    let rs = map resource_of c.in-Try.resources.items in
    let b = block_of c.in-Try.b in
    let cs = catches (map catch_of c.in-Try.catches.items) in
    let last = maybe_block (option_map block_of c.in-Try.finally) in
    let closed = c.in_ok-closed-in-Try.closed in
    let before = c.in_ok-before-in-Try.before.items in
    let within = c.in_ok-within-in-Try.within.items in
    let behind = c.in_ok-behind-in-Try.behind in
    let clause = c.guarded_block.new.next in
    let p : IsTry here rs b cs last closed before within behind clause = record {
      behind_is = first_of (search rules, grind (arith, common_steps));
      closed_is = search rules;
      before_is = search rules;
      within_is = search rules;
      clause_is = first_of (search rules, grind (arith, common_steps));
    } in
    let found : c.and_then.result ≡ and_then closed (one_of (block_completion (behind_resources (covered_by here within c.args.next.now) rs) b) (catches_completion (covered_by here before clause) cs)) = first_of (search rules, grind (arith, common_steps)) in
    found ∙ try_completion here rs b cs last closed before within behind clause p c.in-Try.pos ∙ sym (ap (completion here) node)

pub statement-returns-in_ok-push-in-Try-clause-tree : goal.statement-returns-in_ok-push-in-Try-clause-tree
statement-returns-in_ok-push-in-Try-clause-tree t c =
    let node = ap stmt_of c.in-Try.is ∙ try_is_node c.in-Try.resources c.in-Try.b c.in-Try.catches c.in-Try.finally c.in-Try.pos in
    let here = context_at c.args.scope.now c.args.locals.now.items c.args.next.now in
    let rs = map resource_of c.in-Try.resources.items in
    let b = block_of c.in-Try.b in
    let cs = catches (map catch_of c.in-Try.catches.items) in
    let last = maybe_block (option_map block_of c.in-Try.finally) in
    let closed = c.in_ok-closed-in-Try.closed in
    let before = c.in_ok-before-in-Try.before.items in
    let within = c.in_ok-within-in-Try.within.items in
    let behind = c.in_ok-behind-in-Try.behind in
    let clause = c.guarded_block.new.next in
    let p : IsTry here rs b cs last closed before within behind clause = record {
      behind_is = first_of (search rules, grind (arith, common_steps));
      closed_is = search rules;
      before_is = search rules;
      within_is = search rules;
      clause_is = first_of (search rules, grind (arith, common_steps));
    } in
    let shapes : c.guarded_block.new.shapes.items ≡ resource_shapes (covered_by here within c.args.next.now) rs = first_of (search rules, grind (arith, common_steps)) in
    let caught : map catch_form c.clauses.new.shapes.items ≡ catch_forms (covered_by here before clause) cs = first_of (search rules, grind (arith, common_steps)) in
    let values : map tree_of c.guarded_block.new.values.items ≡ opening_trees (covered_by here within c.args.next.now) rs = first_of (search rules, grind (arith, common_steps)) in
    let parts : map statement_of c.append.new.self.items ≡ block_tree (behind_resources (covered_by here within c.args.next.now) rs) b ∷ catch_trees (covered_by here before clause) cs ++ finally_tree (numbered_from behind here) last = first_of (search rules, grind (arith, common_steps)) in
    let ends : c.is_some.result ≡ has_finally last = first_of (search (rules, finally_is_some), grind (arith, common_steps, finally_is_some)) in
    let tree : statement_of c.statement_tree.result ≡ Statement (forms.Try (resource_shapes (covered_by here within c.args.next.now) rs) (catch_forms (covered_by here before clause) cs) (has_finally last)) c.in-Try.pos (expressions (opening_trees (covered_by here within c.args.next.now) rs)) (statements (block_tree (behind_resources (covered_by here within c.args.next.now) rs) b ∷ catch_trees (covered_by here before clause) cs ++ finally_tree (numbered_from behind here) last)) = first_of (search rules, cc) in
    let all : map statement_of c.push.new.self.items ≡ map statement_of c.args.trees.now.items ++ statement_of c.statement_tree.result ∷ [] = first_of (search rules, grind (arith, common_steps)) in
    all ∙ ap (λ x. map statement_of c.args.trees.now.items ++ x ∷ []) (tree ∙ try_tree here rs b cs last closed before within behind clause p c.in-Try.pos ∙ sym (ap (statement_tree here) node))

pub statement-returns-in_ok-push-in-Try-clause-cases : goal.statement-returns-in_ok-push-in-Try-clause-cases
statement-returns-in_ok-push-in-Try-clause-cases t c =
    let node = ap stmt_of c.in-Try.is ∙ try_is_node c.in-Try.resources c.in-Try.b c.in-Try.catches c.in-Try.finally c.in-Try.pos in
    let here = context_at c.args.scope.now c.args.locals.now.items c.args.next.now in
    let rs = map resource_of c.in-Try.resources.items in
    let b = block_of c.in-Try.b in
    let cs = catches (map catch_of c.in-Try.catches.items) in
    let last = maybe_block (option_map block_of c.in-Try.finally) in
    let closed = c.in_ok-closed-in-Try.closed in
    let before = c.in_ok-before-in-Try.before.items in
    let within = c.in_ok-within-in-Try.within.items in
    let behind = c.in_ok-behind-in-Try.behind in
    let clause = c.guarded_block.new.next in
    let p : IsTry here rs b cs last closed before within behind clause = record {
      behind_is = first_of (search rules, grind (arith, common_steps));
      closed_is = search rules;
      before_is = search rules;
      within_is = search rules;
      clause_is = first_of (search rules, grind (arith, common_steps));
    } in
    let found : c.clauses.new.refusals.items ≡ c.args.refusals.now.items ++ (finally_cases (numbered_from behind here) last ++ resources_cases (covered_by here within c.args.next.now) rs c.in-Try.pos ++ block_cases (behind_resources (covered_by here within c.args.next.now) rs) b ++ catches_cases (covered_by here before clause) cs c.in-Try.pos) = first_of (search (rules, append_assoc), grind (arith, common_steps)) in
    found ∙ ap (λ x. c.args.refusals.now.items ++ x) (try_cases here rs b cs last closed before within behind clause p c.in-Try.pos ∙ sym (ap (statement_cases here) node))

pub statement-returns-in_ok-push-in-Try-clause-next : goal.statement-returns-in_ok-push-in-Try-clause-next
statement-returns-in_ok-push-in-Try-clause-next t c =
    let node = ap stmt_of c.in-Try.is ∙ try_is_node c.in-Try.resources c.in-Try.b c.in-Try.catches c.in-Try.finally c.in-Try.pos in
    rw node (first_of (search rules, grind (arith, common_steps)))
