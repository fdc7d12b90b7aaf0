use Rattle.std.proofs.Common.{◌≡◌, take}
use Rattle.std.specs.List.{flat_map}
use Rattle.refusal_order.specs.Refusals.{least}
use Rattle.annotation_rules.specs.AnnotationCases.{field_cases}
use Rattle.annotation_rules.proofs.rule.field_refusals.Given as goal

abbrev pub invariant-loop-field : goal.invariant-loop-field
invariant-loop-field l = l.least ≡ least (flat_map field_cases (take l.field-index l.fields))
