use Rattle.std.proofs.Common.{◌≡◌, take}
use Rattle.refusal_order.specs.Refusals.{least, least_of_all}
use Rattle.signature_rules.specs.TextFieldCases.{text_field_cases_in}
use Rattle.signature_rules.proofs.text_fields.refusal_of_all.Given as goal

abbrev pub invariant-loop-field : goal.invariant-loop-field
invariant-loop-field l = l.least ≡ least_of_all (λ k. least (text_field_cases_in l.p k)) (take l.field-index l.fields)
