use Rattle.std.proofs.Common.{◌∙◌, ap₂, Option}
use Rattle.rlc_base.specs.declared.faults.Refusal.{Refusal}
use Rattle.refusal_order.specs.Refusals.{least, lesser_of}
use Rattle.refusal_order.proofs.LeastLaws.{least_more}
use Rattle.program_model.specs.declared.program.Field.{Field}
use Rattle.signature_rules.specs.TextFieldCases.{text_field_cases_in}
use Rattle.signature_rules.proofs.text_fields.refusal_of_all.Goals as goal

pub loop-field-preserved : goal.loop-field-preserved
loop-field-preserved c =
    let f : Field → Option Refusal = λ k. least (text_field_cases_in c.args.p.now k) in
    c.lesser_of-least.ensures ∙ ap₂ lesser_of c.loop-field.invariant c.refusal_of.ensures
    ∙ least_more f c.args.fields.now c.loop-field.field-index c.field-item.result c.loop-field-test.true c.field-item.is
