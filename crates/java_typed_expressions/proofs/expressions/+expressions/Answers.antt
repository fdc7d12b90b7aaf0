-- The arguments of a call are the trees of its list, and refusals that are counted one behind another are those of the whole.
use Rattle.std.proofs.Common.{rules, arith, append_assoc}
use Rattle.std.proofs.lemmas.Grind.{common_steps}
use Rattle.std.proofs.lemmas.Result.{IfOk-equal}
use Rattle.java_syntax.specs.declared.expression_trees.Expr.{the_lemmas}
use Rattle.java_syntax.proofs.Rows.{exprs_are_items}
use Rattle.java_typed_expressions.proofs.expressions.+expressions.Goals as goal

pub expression-returns-in_ok-all-in-Call-clause-typing : goal.expression-returns-in_ok-all-in-Call-clause-typing
expression-returns-in_ok-all-in-Call-clause-typing t c = search (rules, the_lemmas, exprs_are_items)

pub expression-returns-in_ok-all-in-Call-clause-cases : goal.expression-returns-in_ok-all-in-Call-clause-cases
expression-returns-in_ok-all-in-Call-clause-cases t c = first_of (search (rules, the_lemmas, exprs_are_items, append_assoc), search (rules, the_lemmas, exprs_are_items, IfOk-equal, append_assoc), grind (arith, common_steps, the_lemmas, exprs_are_items))

pub expression-returns-in_ok-all-in-SuperCall-clause-typing : goal.expression-returns-in_ok-all-in-SuperCall-clause-typing
expression-returns-in_ok-all-in-SuperCall-clause-typing t c = search (rules, the_lemmas, exprs_are_items)

pub expression-returns-in_ok-all-in-SuperCall-clause-cases : goal.expression-returns-in_ok-all-in-SuperCall-clause-cases
expression-returns-in_ok-all-in-SuperCall-clause-cases t c = first_of (search (rules, the_lemmas, exprs_are_items, append_assoc), search (rules, the_lemmas, exprs_are_items, IfOk-equal, append_assoc), grind (arith, common_steps, the_lemmas, exprs_are_items))

pub expression-returns-in_ok-all-in-MethodCall-clause-typing : goal.expression-returns-in_ok-all-in-MethodCall-clause-typing
expression-returns-in_ok-all-in-MethodCall-clause-typing t c = search (rules, the_lemmas, exprs_are_items)

pub expression-returns-in_ok-all-in-MethodCall-clause-cases : goal.expression-returns-in_ok-all-in-MethodCall-clause-cases
expression-returns-in_ok-all-in-MethodCall-clause-cases t c = first_of (search (rules, the_lemmas, exprs_are_items, append_assoc), search (rules, the_lemmas, exprs_are_items, IfOk-equal, append_assoc), grind (arith, common_steps, the_lemmas, exprs_are_items))

pub expression-returns-in_ok-all-in-NewObject-clause-typing : goal.expression-returns-in_ok-all-in-NewObject-clause-typing
expression-returns-in_ok-all-in-NewObject-clause-typing t c = search (rules, the_lemmas, exprs_are_items)

pub expression-returns-in_ok-all-in-NewObject-clause-cases : goal.expression-returns-in_ok-all-in-NewObject-clause-cases
expression-returns-in_ok-all-in-NewObject-clause-cases t c = first_of (search (rules, the_lemmas, exprs_are_items, append_assoc), search (rules, the_lemmas, exprs_are_items, IfOk-equal, append_assoc), grind (arith, common_steps, the_lemmas, exprs_are_items))

pub expression-returns-in_ok-i-in-Index-clause-cases : goal.expression-returns-in_ok-i-in-Index-clause-cases
expression-returns-in_ok-i-in-Index-clause-cases t c = first_of (search (rules, IfOk-equal, append_assoc), search (rules, append_assoc), grind (arith, common_steps, append_assoc))

pub expression-returns-in_ok-b-in-Infix-clause-cases : goal.expression-returns-in_ok-b-in-Infix-clause-cases
expression-returns-in_ok-b-in-Infix-clause-cases t c = first_of (search (rules, IfOk-equal, append_assoc), search (rules, append_assoc), grind (arith, common_steps, append_assoc))

pub expression-returns-in_ok-b-in-Conditional-clause-cases : goal.expression-returns-in_ok-b-in-Conditional-clause-cases
expression-returns-in_ok-b-in-Conditional-clause-cases t c = first_of (search (rules, IfOk-equal, append_assoc), search (rules, append_assoc), grind (arith, common_steps, append_assoc))

pub expression-returns-in_ok-v-in-Assignment-clause-cases : goal.expression-returns-in_ok-v-in-Assignment-clause-cases
expression-returns-in_ok-v-in-Assignment-clause-cases t c = first_of (search (rules, IfOk-equal, append_assoc), search (rules, append_assoc), grind (arith, common_steps, append_assoc))

pub expression-returns-in_ok-v-in-CompoundAssignment-clause-cases : goal.expression-returns-in_ok-v-in-CompoundAssignment-clause-cases
expression-returns-in_ok-v-in-CompoundAssignment-clause-cases t c = first_of (search (rules, IfOk-equal, append_assoc), search (rules, append_assoc), grind (arith, common_steps, append_assoc))
