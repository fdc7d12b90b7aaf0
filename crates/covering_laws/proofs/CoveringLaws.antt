-- The laws, each under its name.
pub use Rattle.value_laws.proofs.ArgumentLaws.{arguments_at_start, arguments_step}
pub use Rattle.value_laws.proofs.ValueTypeLaws.{types_at_start, types_step}
pub use Rattle.covering_laws.proofs.CoveredFieldLaws.{contents_are_met_at_throw, overwritten_is_met}
pub use Rattle.value_laws.proofs.RangeLaws.{ranges_at_start, ranges_step}
use Rattle.std.proofs.Common.{◌≡◌, true, Some}
use Rattle.program_model.specs.declared.kinds.MethodId.{MethodId}
use Rattle.program_model.specs.declared.program.Method.{Method}
use Rattle.program_model.specs.declared.program.Program.{Program}
use Rattle.program_model.specs.Lookups.{method_at}
use Rattle.ledger_obligations.specs.WellFormed.{HasSmallInterests}
use Rattle.value_laws.specs.Accept.{Accept}
use Rattle.stub_conduct.specs.declared.choice.Choices.{Choices}
use Rattle.value_laws.specs.Configuration.{Config}
use Rattle.value_laws.specs.Moves.{has_body}
use Rattle.value_laws.specs.LedgerRunsOutcomes.{went}
use Rattle.value_laws.specs.Starts.{start_config}
use Rattle.value_laws.specs.LedgerRunsSteps.{step}
use Rattle.value_laws.specs.Agreement.{Agree}
use Rattle.value_laws.specs.PlainForms.{HasPlainForms}
use Rattle.value_laws.specs.Frames.{HaveTargets}
use Rattle.value_laws.specs.Types.{HaveTypes}
use Rattle.value_laws.specs.FieldContents.{FieldsHold, FieldsOwn, MakersOwn, TopRunsAlone}
use Rattle.value_laws.specs.PlaceFacts.{AreCovered}
use Rattle.value_laws.specs.Ranges.{AreInRange}
use Rattle.covering_laws.specs.Making.{AreBeingMade}
use Rattle.covering_laws.specs.Running.{HasPlainRuns}
use Rattle.covering_laws.specs.Linking.{LinkedAreAliases}
use Rattle.covering_laws.specs.Sight.{AllActInSight}
use Rattle.covering_laws.specs.Throws.{TopEndsAsDeclared, TopRaisesExceptions}
use Rattle.covering_laws.proofs.RunStarts as starts
use Rattle.covering_laws.proofs.Runs.{kept_step}
use Rattle.value_laws.specs.Arguments.{HaveArguments}
use Rattle.value_laws.specs.LibraryClasses.{HasLightTexts}

pub covered_at_start : (p : Program) → Accept p → (main : MethodId) (m : Method) (choices : Choices) → method_at p main ≡ Some m → has_body m.body ≡ true
    → AreCovered p (start_config p main choices).heap (start_config p main choices).frames
covered_at_start p ac main m choices named body = starts.covered_at_start p ac main m choices named body

pub covered_step : (p : Program) → Accept p → HasPlainForms p → HasPlainRuns p → HasSmallInterests p → HasLightTexts p → (c d : Config) → Agree p c → HaveTargets p c.frames → HaveTypes p c → AreInRange c
    → FieldsHold p c.frames c.heap → AreBeingMade p c.heap c.frames → LinkedAreAliases p c.heap → FieldsOwn p c.heap → MakersOwn p c.heap c.frames → AreCovered p c.heap c.frames → HaveArguments p c.frames → TopEndsAsDeclared p c.heap c.frames → TopRaisesExceptions p c.heap c.frames → AllActInSight p c.heap c.frames → TopRunsAlone p c.heap c.frames → step p c ≡ went d → AreCovered p d.heap d.frames
covered_step p ac forms runs names texts c d agrees targets types ranges fields making linked owned makers covered args exits raises sight alone is = (kept_step p ac forms runs names texts c d agrees targets types ranges fields making linked owned makers covered args exits raises sight alone is).0

pub being_made_at_start : (p : Program) (main : MethodId) (choices : Choices) → AreBeingMade p (start_config p main choices).heap (start_config p main choices).frames
being_made_at_start p main choices = starts.being_made_at_start p main choices

pub being_made_step : (p : Program) → Accept p → HasPlainForms p → HasPlainRuns p → HasSmallInterests p → HasLightTexts p → (c d : Config) → Agree p c → HaveTargets p c.frames → HaveTypes p c → AreInRange c
    → FieldsHold p c.frames c.heap → AreBeingMade p c.heap c.frames → LinkedAreAliases p c.heap → FieldsOwn p c.heap → MakersOwn p c.heap c.frames → AreCovered p c.heap c.frames → HaveArguments p c.frames → TopEndsAsDeclared p c.heap c.frames → TopRaisesExceptions p c.heap c.frames → AllActInSight p c.heap c.frames → TopRunsAlone p c.heap c.frames → step p c ≡ went d → AreBeingMade p d.heap d.frames
being_made_step p ac forms runs names texts c d agrees targets types ranges fields making linked owned makers covered args exits raises sight alone is = (kept_step p ac forms runs names texts c d agrees targets types ranges fields making linked owned makers covered args exits raises sight alone is).1

pub linked_are_aliases_at_start : (p : Program) (main : MethodId) (choices : Choices) → LinkedAreAliases p (start_config p main choices).heap
linked_are_aliases_at_start p main choices = starts.linked_are_aliases_at_start p main choices

pub linked_are_aliases_step : (p : Program) → Accept p → HasPlainForms p → HasPlainRuns p → HasSmallInterests p → HasLightTexts p → (c d : Config) → Agree p c → HaveTargets p c.frames → HaveTypes p c → AreInRange c
    → FieldsHold p c.frames c.heap → AreBeingMade p c.heap c.frames → LinkedAreAliases p c.heap → FieldsOwn p c.heap → MakersOwn p c.heap c.frames → AreCovered p c.heap c.frames → HaveArguments p c.frames → TopEndsAsDeclared p c.heap c.frames → TopRaisesExceptions p c.heap c.frames → AllActInSight p c.heap c.frames → TopRunsAlone p c.heap c.frames → step p c ≡ went d → LinkedAreAliases p d.heap
linked_are_aliases_step p ac forms runs names texts c d agrees targets types ranges fields making linked owned makers covered args exits raises sight alone is =
    (kept_step p ac forms runs names texts c d agrees targets types ranges fields making linked owned makers covered args exits raises sight alone is).2

pub fields_own_at_start : (p : Program) (main : MethodId) (choices : Choices) → FieldsOwn p (start_config p main choices).heap
fields_own_at_start p main choices = starts.fields_own_at_start p main choices

pub fields_own_step : (p : Program) → Accept p → HasPlainForms p → HasPlainRuns p → HasSmallInterests p → HasLightTexts p → (c d : Config) → Agree p c → HaveTargets p c.frames → HaveTypes p c → AreInRange c
    → FieldsHold p c.frames c.heap → AreBeingMade p c.heap c.frames → LinkedAreAliases p c.heap → FieldsOwn p c.heap → MakersOwn p c.heap c.frames → AreCovered p c.heap c.frames → HaveArguments p c.frames → TopEndsAsDeclared p c.heap c.frames → TopRaisesExceptions p c.heap c.frames → AllActInSight p c.heap c.frames → TopRunsAlone p c.heap c.frames → step p c ≡ went d → FieldsOwn p d.heap
fields_own_step p ac forms runs names texts c d agrees targets types ranges fields making linked owned makers covered args exits raises sight alone is =
    (kept_step p ac forms runs names texts c d agrees targets types ranges fields making linked owned makers covered args exits raises sight alone is).3

pub makers_own_at_start : (p : Program) (main : MethodId) (choices : Choices) → MakersOwn p (start_config p main choices).heap (start_config p main choices).frames
makers_own_at_start p main choices = starts.makers_own_at_start p main choices

pub makers_own_step : (p : Program) → Accept p → HasPlainForms p → HasPlainRuns p → HasSmallInterests p → HasLightTexts p → (c d : Config) → Agree p c → HaveTargets p c.frames → HaveTypes p c → AreInRange c
    → FieldsHold p c.frames c.heap → AreBeingMade p c.heap c.frames → LinkedAreAliases p c.heap → FieldsOwn p c.heap → MakersOwn p c.heap c.frames → AreCovered p c.heap c.frames → HaveArguments p c.frames → TopEndsAsDeclared p c.heap c.frames → TopRaisesExceptions p c.heap c.frames → AllActInSight p c.heap c.frames → TopRunsAlone p c.heap c.frames → step p c ≡ went d → MakersOwn p d.heap d.frames
makers_own_step p ac forms runs names texts c d agrees targets types ranges fields making linked owned makers covered args exits raises sight alone is =
    (kept_step p ac forms runs names texts c d agrees targets types ranges fields making linked owned makers covered args exits raises sight alone is).4
