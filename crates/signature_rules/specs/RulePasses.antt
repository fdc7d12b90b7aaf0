-- The passes over the effective signatures of a program: resource aliases, overriding methods, owning fields, methods that create
-- obligations anew, texts, results that lose an obligation, classes under those that declare owning fields, and owning fields that may hold a text (Checker Framework manual, Resource Leak Checker). Each refuses by the least of its cases, and where it has none
-- the next one decides.
use Rattle.std.specs.Prelude.{◌≡◌, Option, Some, None, []}
use Rattle.rlc_base.specs.declared.faults.Refusal.{Refusal}
use Rattle.program_model.specs.declared.program.Program.{Program}
use Rattle.owning_fields.specs.Refusals.{least}
use Rattle.alias_sets.specs.AliasCases.{alias_cases}
use Rattle.called_methods.specs.OverrideCases.{override_cases}
use Rattle.must_call_reset.specs.OwningCases.{owning_cases}
use Rattle.must_call_reset.specs.ResetCases.{reset_cases}
use Rattle.signature_rules.specs.TextCases.{text_cases}
use Rattle.signature_rules.specs.TextFieldCases.{text_field_cases}
use Rattle.signature_rules.specs.OwnerCases.{owner_cases}
use Rattle.signature_rules.specs.ResultCases.{result_cases}

-- the refusal of a pass, or where it has none that of the later ones
abbrev pub or_later : Option Refusal → Option Refusal → Option Refusal
or_later (Some r) later = Some r
or_later None later = later

-- the refusal of the first pass that has a case
abbrev pub rule_refusal : Program → Option Refusal
rule_refusal p =
    or_later (least (alias_cases p)) (or_later (least (override_cases p)) (or_later (least (owning_cases p))
    (or_later (least (reset_cases p)) (or_later (least (text_cases p)) (or_later (least (result_cases p)) (or_later (least (owner_cases p)) (least (text_field_cases p))))))))

-- no pass has a case
pub record HasNoRuleCase (p : Program) : Type 0 where
  pub aliases : alias_cases p ≡ []
  pub overrides : override_cases p ≡ []
  pub owning : owning_cases p ≡ []
  pub resets : reset_cases p ≡ []
  pub texts : text_cases p ≡ []
  pub results : result_cases p ≡ []
  pub owners : owner_cases p ≡ []
  pub text_fields : text_field_cases p ≡ []
