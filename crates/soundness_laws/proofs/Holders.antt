-- A constructor runs alone on an object whose fields own objects with an obligation.
use Rattle.content_laws.specs.Configuration.{Frame}
use Rattle.content_laws.proofs.CallNames.{object_with_root}
use Rattle.std.proofs.Common.{List, [], ◌∷◌}
use Rattle.std.proofs.lemmas.Bool.{or_right}
use Rattle.program_model.specs.declared.program.Program.{Program}
use Rattle.ledger_obligations.specs.MustCallSets.{is_heavy_class}
use Rattle.ledger_obligations.specs.Obligations.{is_unmet}
use Rattle.ledger_state.specs.Contents.{HeapContents}
use Rattle.ledger_state.specs.Fields.{field_value}
use Rattle.content_laws.specs.Accept.{Accept}
use Rattle.content_laws.specs.Agreement.{AllStand, IsStacked}
use Rattle.content_laws.specs.FieldContents.{AreNew, HaveContents, TopRunsAlone}
use Rattle.content_laws.specs.Filled.{AreFilled}
use Rattle.content_laws.specs.PlainForms.{HasPlainForms}
use Rattle.soundness_laws.proofs.Makers.{class_of_maker}

-- the constructor of the class that declares the owning field is the only frame that runs on the object
pub top_runs_alone : (p : Program) → Accept p → HasPlainForms p → (h : HeapContents) (frs : List Frame) → AllStand p frs → IsStacked p h frs → HaveContents p frs h → AreNew p frs → AreFilled p h frs → TopRunsAlone p h frs
top_runs_alone p ac forms h [] standing stacked contents news filled = tt
top_runs_alone p ac forms h (fr ∷ frs) standing stacked contents news filled = λ o x w f new this at heavy owner.
    let k = contents o x w f at (or_right (is_unmet x) (is_heavy_class p x.class) heavy) owner in
    let value = object_with_root h (field_value p h w f) o k.held in
    let class = class_of_maker p ac forms h fr frs standing.0 standing.1 stacked new w value.0 k.holder f k.field this k.at k.declared k.owning k.class value.1 filled.1 in
    news.0 w (f, k.field, k.declared, k.owning, class) new this
