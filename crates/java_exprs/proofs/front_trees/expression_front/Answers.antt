use Rattle.std.proofs.Common.{◌-◌, refl, ap, map, []}
use Rattle.java_syntax.specs.declared.symbols.Symbol.TheVariants as symbols
use Rattle.java_syntax.specs.ExpressionTrees.{expr_of}
use Rattle.java_grammar.specs.Reached.{lexemes_of}
use Rattle.java_values.specs.Values.{values_of}
use Rattle.java_values.specs.Values as kinds
use Rattle.java_values.specs.Kinds.{kind_of}
use Rattle.java_exprs.proofs.Sense.{top_of}
use Rattle.java_exprs.specs.FrontTrees.{shows_expression}
use Rattle.java_exprs.proofs.FrontTreeLaws.{only_tree, same_expression, moved_only, moved_stop, front_meant, front_kinds, shown_expression, shown_front}
use Rattle.java_exprs.proofs.front_trees.expression_front.Goals as goal

pub front_values-requires : goal.front_values-requires
front_values-requires c = front_meant symbols.Expression c.saturating_sub-limit.result (values_of c.new.result.items) (lexemes_of c.args.bytes.now c.args.tokens.now) (ap (λ vs. map kind_of vs) (ap values_of c.new.ensures.items)) refl

pub pop_expression-e-requires : goal.pop_expression-e-requires
pop_expression-e-requires c =
    top_of kinds.expression [] _ (front_kinds symbols.Expression c.saturating_sub-limit.result (values_of c.new.result.items) (lexemes_of c.args.bytes.now c.args.tokens.now) c.in-Ok.count _ (ap (λ vs. map kind_of vs) (ap values_of c.new.ensures.items)) refl c.in-Ok.ensures.front)

pub returns-in-Ok-clause-front : goal.returns-in-Ok-clause-front
returns-in-Ok-clause-front c =
    let seen = shown_expression c.saturating_sub-limit.result (values_of c.new.result.items) (lexemes_of c.args.bytes.now c.args.tokens.now) c.in-Ok.count _ _ (expr_of c.pop_expression-e.result.tree) c.pop_expression-e.result.depth (ap (λ vs. map kind_of vs) (ap values_of c.new.ensures.items)) c.in-Ok.ensures.front c.pop_expression-e.ensures in
    shown_front shows_expression symbols.Expression c.saturating_sub-limit.result (128 - c.args.level) (values_of c.new.result.items) [] (lexemes_of c.args.bytes.now c.args.tokens.now) c.in-Ok.count _ (expr_of c.pop_expression-e.result.tree) c.saturating_sub-limit.ensures (ap values_of c.new.ensures.items) c.in-Ok.ensures.front seen

pub returns-in-Ok-clause-only : goal.returns-in-Ok-clause-only
returns-in-Ok-clause-only c =
    let seen = shown_expression c.saturating_sub-limit.result (values_of c.new.result.items) (lexemes_of c.args.bytes.now c.args.tokens.now) c.in-Ok.count _ _ (expr_of c.pop_expression-e.result.tree) c.pop_expression-e.result.depth (ap (λ vs. map kind_of vs) (ap values_of c.new.ensures.items)) c.in-Ok.ensures.front c.pop_expression-e.ensures in
    only_tree shows_expression symbols.Expression (128 - c.args.level) [] (lexemes_of c.args.bytes.now c.args.tokens.now) c.in-Ok.count (values_of c.in-Ok.values.items) (expr_of c.pop_expression-e.result.tree) same_expression seen
    (moved_only symbols.Expression c.saturating_sub-limit.result (128 - c.args.level) (values_of c.new.result.items) [] (lexemes_of c.args.bytes.now c.args.tokens.now) c.in-Ok.count (values_of c.in-Ok.values.items) c.saturating_sub-limit.ensures (ap values_of c.new.ensures.items) c.in-Ok.ensures.only)

pub returns-in-Err-clause-stopped : goal.returns-in-Err-clause-stopped
returns-in-Err-clause-stopped c = moved_stop symbols.Expression c.saturating_sub-limit.result (128 - c.args.level) (values_of c.new.result.items) [] (lexemes_of c.args.bytes.now c.args.tokens.now) c.args.end c.in-Err.stop c.saturating_sub-limit.ensures (ap values_of c.new.ensures.items) c.in-Err.ensures.stopped
