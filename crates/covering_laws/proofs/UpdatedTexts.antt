-- Other operators than `=` store texts alone into owning fields, in the place of texts.
use Rattle.std.proofs.Common.{List, [], ◌∷◌, subst}
use Rattle.program_model.specs.declared.program.Program.{Program}
use Rattle.ledger_state.specs.Contents.{HeapContents}
use Rattle.ledger_state.specs.Fields.{field_value}
use Rattle.ledger_state.specs.declared.value.Value.{Value}
use Rattle.value_laws.specs.Accept.{Accept}
use Rattle.value_laws.specs.ClassOperands.{IsNotAboveString}
use Rattle.value_laws.specs.ClassValues.{FramesFitClass}
use Rattle.value_laws.specs.Configuration.{Frame}
use Rattle.value_laws.specs.LibraryClasses.{HasLightTexts}
use Rattle.value_laws.specs.PlainForms.{HasPlainForms}
use Rattle.value_laws.specs.Types.{IsNoObjectButText, KeepAll, StoredHoldNone, is_text}
use Rattle.value_laws.proofs.TextValues.{field_of_texts, stored_is_no_object}
use Rattle.value_laws.proofs.ValueTypeFields.{field_is_none}
use Rattle.covering_laws.specs.Linking.{LinkedAreAliases}
use Rattle.covering_laws.specs.TextUpdates.{AllUpdateTexts, IsLight}
use Rattle.covering_laws.proofs.Texts.{text_is_light}

-- a text, or an object of class `String`, is light
light_text : (p : Program) → Accept p → HasLightTexts p → (h : HeapContents) → LinkedAreAliases p h → (v : Value) → IsNoObjectButText p h v → IsLight p h v
light_text p ac texts h aliases v none c x is at = text_is_light p ac texts h aliases c x (subst (λ (u : Value). IsNoObjectButText p h u) is none) at

-- so it is of the next step of each frame
pub all_update_texts : (p : Program) → Accept p → HasPlainForms p → IsNotAboveString p p.core.throwable → HasLightTexts p → (h : HeapContents) (frs : List Frame) → FramesFitClass p p.core.throwable h frs → KeepAll (is_text p h) p frs
    → StoredHoldNone (is_text p h) p h → LinkedAreAliases p h → AllUpdateTexts p h frs
all_update_texts p ac forms apart texts h [] classes keeps stored aliases = tt
all_update_texts p ac forms apart texts h (fr ∷ frs) classes keeps stored aliases = (
  (λ i s f d w this here is owning held. (
    stored_is_no_object p ac forms apart h fr classes.0 keeps.0 i s here f d this is owning,
    light_text p ac texts h aliases (field_value p h w f) (field_is_none (is_text p h) p h w f stored (field_of_texts p ac forms apart h fr classes.0 keeps.0 i s here f d this is owning)),
  )),
  all_update_texts p ac forms apart texts h frs classes.1 keeps.1 stored aliases,
)
