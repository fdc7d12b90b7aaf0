use Rattle.std.proofs.Common.{sym, ap, subst, map, None, []}
use Rattle.java_syntax.specs.Derives.{step_of}
use Rattle.java_grammar.specs.Reached.{lexemes_of}
use Rattle.java_values.specs.Values.{values_of}
use Rattle.java_values.specs.Outcomes.{IsNoMisfit}
use Rattle.java_exprs.specs.Evaluation.{evaluate}
use Rattle.java_parser.proofs.FileLaws.{on_none, only_values}
use Rattle.java_parser.proofs.file_trees.file_values.Goals as goal

pub evaluate-requires : goal.evaluate-requires
evaluate-requires c =
    let b = c.args.bytes.now in
    subst (λ vs. IsNoMisfit (evaluate 128 (map (step_of b) c.as_slice.result.now) None (values_of vs))) (sym c.new.ensures.items)
    (subst (λ es. IsNoMisfit (evaluate 128 (map (step_of b) es) None [])) (sym c.as_slice.ensures.value) (c.requires _ c.in-Ok.ensures.derived))

pub returns-in-Ok-evaluate-clause-only : goal.returns-in-Ok-evaluate-clause-only
returns-in-Ok-evaluate-clause-only c =
    let b = c.args.bytes.now in
    only_values c.args.is_stub c.args.symbol (lexemes_of b c.args.tokens.now) (map (step_of b) c.in-Ok.events.items) (values_of c.in-Ok-evaluate.stack.items)
    c.in-Ok.ensures.one_derivation (on_none (map (step_of b) c.in-Ok.events.items) (map (step_of b) c.as_slice.result.now) (values_of c.new.result.items) _ (ap (map (step_of b)) (sym c.as_slice.ensures.value)) (ap values_of c.new.ensures.items) c.in-Ok-evaluate.ensures)
