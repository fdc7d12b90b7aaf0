use Rattle.std.proofs.Common.{◌≡◌, take}
use Rattle.std.specs.List.{flat_map}
use Rattle.refusal_order.specs.Refusals.{least}
use Rattle.annotation_rules.specs.AnnotationCases.{body_cases}
use Rattle.annotation_rules.proofs.rule.body_refusals.Given as goal

abbrev pub invariant-loop-body : goal.invariant-loop-body
invariant-loop-body l = l.least ≡ least (flat_map (body_cases l.p) (take l.body-index l.bodies))
