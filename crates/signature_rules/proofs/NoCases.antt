-- A pass that refuses nothing has no case.
use Rattle.std.proofs.Common.{◌≡◌, refl, Option, None, Some, List, [], ◌∷◌, Result, Ok, Err, OnOk}
use Rattle.rlc_base.specs.declared.faults.Refusal.{Refusal}
use Rattle.program_model.specs.declared.program.Program.{Program}
use Rattle.owning_fields.specs.Refusals.{least, verdict_of}
use Rattle.alias_sets.specs.AliasCases.{alias_cases}
use Rattle.called_methods.specs.OverrideCases.{override_cases}
use Rattle.must_call_reset.specs.OwningCases.{owning_cases}
use Rattle.must_call_reset.specs.ResetCases.{reset_cases}
use Rattle.signature_rules.specs.OwnerCases.{owner_cases}
use Rattle.signature_rules.specs.RulePasses.{HasNoRuleCase}
use Rattle.signature_rules.specs.TextCases.{text_cases}
use Rattle.signature_rules.specs.TextFieldCases.{text_field_cases}
use Rattle.signature_rules.specs.ResultCases.{result_cases}

no_least : (cases : List Refusal) → least cases ≡ None → cases ≡ []
no_least [] none = refl
no_least (x ∷ xs) none = absurd (let no = none in cc)

ok_none : (o : Option Refusal) (u : Unit {0}) → Ok u ≡ verdict_of o → o ≡ None
ok_none None u is = refl
ok_none (Some x) u is = absurd (let no : Ok u ≡ Err x = is in cc)

pub no_cases : (cases : List Refusal) (u : Unit {0}) → Ok u ≡ verdict_of (least cases) → cases ≡ []
no_cases cases u is = no_least cases (ok_none (least cases) u is)

pub all_passed : (p : Program) (last : Result (Unit {0}) Refusal) → alias_cases p ≡ [] → override_cases p ≡ [] → owning_cases p ≡ [] → reset_cases p ≡ [] → text_cases p ≡ [] → result_cases p ≡ []
    → owner_cases p ≡ [] → last ≡ verdict_of (least (text_field_cases p))
    → OnOk last (HasNoRuleCase p)
all_passed p (Ok u) aliases overrides owning resets texts results owners is =
    record { aliases = aliases; overrides = overrides; owning = owning; resets = resets; texts = texts; results = results; owners = owners; text_fields = no_cases (text_field_cases p) u is }
all_passed p (Err r) aliases overrides owning resets texts results owners is = tt
