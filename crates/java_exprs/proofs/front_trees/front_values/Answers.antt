use Rattle.std.proofs.Common.{sym, ◌∙◌, ap, map, None, subst}
use Rattle.java_syntax.specs.Derives.{step_of}
use Rattle.java_grammar.specs.Reached.{lexemes_of}
use Rattle.java_values.specs.Values.{values_of}
use Rattle.java_values.specs.Outcomes.{IsNoMisfit}
use Rattle.java_exprs.specs.Evaluation.{evaluate}
use Rattle.java_exprs.proofs.FrontTreeLaws.{only_values}
use Rattle.java_exprs.proofs.front_trees.front_values.Goals as goal

pub evaluate-requires : goal.evaluate-requires
evaluate-requires c =
    let b = c.args.bytes.now in
    subst (λ es. IsNoMisfit (evaluate c.args.limit (map (step_of b) es) None (values_of c.args.start.items))) (sym c.as_slice.ensures.value) (c.requires _ _ c.in-Ok.ensures.front)

pub returns-in-Ok-evaluate-clause-only : goal.returns-in-Ok-evaluate-clause-only
returns-in-Ok-evaluate-clause-only c =
    let b = c.args.bytes.now in
    only_values c.args.symbol c.args.limit (values_of c.args.start.items) (lexemes_of b c.args.tokens.now) c.in-Ok.count (map (step_of b) c.in-Ok.events.items) (values_of c.in-Ok-evaluate.stack.items)
    c.in-Ok.ensures.one_front (ap (λ t. evaluate c.args.limit (map (step_of b) t) None (values_of c.args.start.items)) (sym c.as_slice.ensures.value) ∙ c.in-Ok-evaluate.ensures)
