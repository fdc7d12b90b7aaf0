-- One parameter more.
use Rattle.std.proofs.Common.{◌∙◌, sym}
use Rattle.refusal_order.specs.Refusals.{lesser_of}
use Rattle.class_names.specs.Meanings.{unit_of}
use Rattle.java_syntax.specs.declared.declaration_trees.Param.{Param}
use Rattle.class_order.proofs.CaseLemmas.{least_more}
use Rattle.class_checks.specs.TypeCases.{unknown_type}
use Rattle.class_checks.proofs.types.unknown_parameters.Goals as goal

pub loop-parameter-preserved : goal.loop-parameter-preserved
loop-parameter-preserved c =
    c.lesser_of-found.ensures ∙ (λ j. lesser_of (c.loop-parameter.invariant j) (c.unknown_type.ensures j))
    ∙ sym (least_more (λ (x : Param). unknown_type c.args.names.now (unit_of c.args.scope.now) x.typ) c.args.parameters.now c.loop-parameter.parameter-index c.parameter-item.result c.loop-parameter-test.true c.parameter-item.is)
