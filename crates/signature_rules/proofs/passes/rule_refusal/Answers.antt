-- Where the last pass refuses nothing, none has a case.
use Rattle.signature_rules.proofs.NoCases.{all_passed, no_cases}
use Rattle.alias_sets.specs.AliasCases.{alias_cases}
use Rattle.called_methods.specs.OverrideCases.{override_cases}
use Rattle.must_call_reset.specs.OwningCases.{owning_cases}
use Rattle.must_call_reset.specs.ResetCases.{reset_cases}
use Rattle.signature_rules.specs.OwnerCases.{owner_cases}
use Rattle.signature_rules.specs.ResultCases.{result_cases}
use Rattle.signature_rules.specs.TextCases.{text_cases}
use Rattle.signature_rules.proofs.passes.rule_refusal.Goals as goal

pub returns-clause-right : goal.returns-clause-right
returns-clause-right c =
    let p = c.args.p.now in
    all_passed p c.text_field_rule.result
    (no_cases (alias_cases p) c.in_ok-alias_rule.field-0 c.in_ok-alias_rule.ensures)
    (no_cases (override_cases p) c.in_ok-override_rule.field-0 c.in_ok-override_rule.ensures)
    (no_cases (owning_cases p) c.in_ok-owning_rule.field-0 c.in_ok-owning_rule.ensures)
    (no_cases (reset_cases p) c.in_ok-reset_rule.field-0 c.in_ok-reset_rule.ensures)
    (no_cases (text_cases p) c.in_ok-text_rule.field-0 c.in_ok-text_rule.ensures)
    (no_cases (result_cases p) c.in_ok-result_rule.field-0 c.in_ok-result_rule.ensures)
    (no_cases (owner_cases p) c.in_ok-owner_rule.field-0 c.in_ok-owner_rule.ensures)
    c.text_field_rule.ensures
