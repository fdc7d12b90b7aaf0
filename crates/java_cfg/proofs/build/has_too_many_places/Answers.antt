-- With few variables and owning fields the arcs decide.
use Rattle.std.proofs.Common.{◌∙◌, ap, arith}
use Rattle.java_cfg.specs.Contents.{arcs_of, nodes_of}
use Rattle.java_cfg.specs.RowTests.{any_large_row, rows_of}
use Rattle.java_cfg.proofs.LargeLemmas.{many_places, not_more}
use Rattle.java_cfg.proofs.RowLemmas.{any_rows}
use Rattle.java_cfg.proofs.build.has_too_many_places.Goals as goal
use Rattle.java_cfg.proofs.build.has_too_many_places.Goals.{then-variable_count-gt-MAX_VARIABLES, else-variable_count-gt-MAX_VARIABLES}

pub returns-else-owning_count-gt-MAX_OWNING_FIELDS : goal.returns-else-owning_count-gt-MAX_OWNING_FIELDS
unfolding arcs_of
returns-else-owning_count-gt-MAX_OWNING_FIELDS c =
    elim c.if-variable_count-gt-MAX_VARIABLES.branch [
      | then-variable_count-gt-MAX_VARIABLES w ↦ absurd (let few = not_more 160 c.variable_count.result c.if-variable_count-gt-MAX_VARIABLES.value w.value-is c.if-owning_count-gt-MAX_OWNING_FIELDS.false in omega (arith, few))
      | else-variable_count-gt-MAX_VARIABLES w ↦
          let few = not_more 16 w.owning_count.result c.if-variable_count-gt-MAX_VARIABLES.value w.value-is c.if-owning_count-gt-MAX_OWNING_FIELDS.false in
          many_places c.args.p.now c.args.b (nodes_of c.args.graph.now) (rows_of c.args.graph.now.rows.items) c.any_large.result c.requires
          (omega arith) (omega (arith, few)) (c.any_large.ensures ∙ ap (any_large_row c.args.p.now) c.deref.ensures.value ∙ any_rows c.args.p.now c.args.graph.now.rows.items)
    ]
