use Rattle.std.proofs.Common.{◌≡◌, take}
use Rattle.std.specs.List.{flat_map}
use Rattle.refusal_order.specs.Refusals.{least}
use Rattle.annotation_rules.specs.AnnotationCases.{method_cases}
use Rattle.annotation_rules.proofs.rule.method_refusals.Given as goal

abbrev pub invariant-loop-method : goal.invariant-loop-method
invariant-loop-method l = l.least ≡ least (flat_map (method_cases l.p) (take l.method-index l.methods))
