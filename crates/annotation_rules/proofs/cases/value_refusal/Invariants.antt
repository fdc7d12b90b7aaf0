use Rattle.std.proofs.Common.{◌≡◌, take}
use Rattle.std.specs.List.{flat_map}
use Rattle.refusal_order.specs.Refusals.{least}
use Rattle.program_model.specs.declared.program.RawAnno.{RawAnno}
use Rattle.annotation_rules.specs.AnnotationCases.{has_bad_value}
use Rattle.annotation_rules.specs.Declarations.{bad_annotation}
use Rattle.annotation_rules.proofs.cases.value_refusal.Given as goal

abbrev pub invariant-loop-annotation : goal.invariant-loop-annotation
invariant-loop-annotation l = l.least ≡ least (flat_map (λ (a : RawAnno). bad_annotation (has_bad_value l.p l.method a) a) (take l.annotation-index l.annotations))
