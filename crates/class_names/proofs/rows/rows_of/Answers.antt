-- One class more stands in its row.
use Rattle.std.proofs.Common.{◌∙◌, ap}
use Rattle.class_names.proofs.NameLemmas.{simply_named_more}
use Rattle.class_names.proofs.rows.rows_of.Goals as goal

pub loop-i-preserved : goal.loop-i-preserved
loop-i-preserved c = record {
  beside = c.in_ok-put_in_row.ensures.lengths;
  rows = λ n.
      let more = c.in_ok-put_in_row.ensures.rows n in
      let before = c.loop-i.invariant.rows n in
      let all = simply_named_more n c.args.classes.now c.loop-i.i c.index-classes-i.result c.loop-i-test.true in
      let name = c.bytes.ensures ∙ ap (λ x. x.simple) c.index-classes-i.is in
      cc;
}
