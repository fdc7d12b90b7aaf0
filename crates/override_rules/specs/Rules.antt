-- The three rules on overriding methods, each with its cases.
use Rattle.std.specs.Prelude.{Option, List}
use Rattle.rlc_base.specs.declared.faults.Refusal.{Refusal}
use Rattle.program_model.specs.declared.program.Program.{Program}
use Rattle.program_model.specs.Overrides.{Overriding}
use Rattle.refusal_order.specs.Refusals.{least}
use Rattle.must_call_sets.specs.AliasCases.{alias_cases_of_override}
use Rattle.must_call_sets.specs.OverrideCases.{override_cases_of}
use Rattle.must_call_sets.specs.ResetCases.{reset_cases_of_override}
use Rattle.override_rules.specs.declared.rule.OverrideRule.{OverrideRule}
use Rattle.override_rules.specs.declared.rule.OverrideRule.TheVariants as rules

-- why the rule refuses an overriding
abbrev pub cases_of : OverrideRule → Program → Overriding → List Refusal
cases_of rules.Alias p o = alias_cases_of_override o
cases_of rules.Owning p o = override_cases_of p o
cases_of rules.Reset p o = reset_cases_of_override o

abbrev pub case_of : OverrideRule → Program → Overriding → Option Refusal
case_of rule p o = least (cases_of rule p o)
