-- What the laws on places ask of a step, of a frame that stands at a reached control of an accepted program of the plain forms.
use Rattle.std.specs.List.{All}
use Rattle.std.proofs.Common.{◌≡◌, ℕ, Some, List, [], ◌∷◌, slice_get, subst}
use Rattle.std.proofs.lemmas.List.Elements.{All-head, All-tail}
use Rattle.program_model.specs.declared.program.Program.{Program}
use Rattle.java_control.specs.Control.{Step}
use Rattle.value_laws.specs.Paths.{move_of}
use Rattle.value_laws.specs.Accept.{Accept}
use Rattle.ledger_state.specs.Contents.{HeapContents}
use Rattle.value_laws.specs.Configuration.{Frame}
use Rattle.value_laws.specs.Choosing.{frame_steps}
use Rattle.value_laws.specs.PlacePlaces.{IsWay, SetsLocals}
use Rattle.value_laws.specs.Agreement.{Stands}
use Rattle.value_laws.specs.PlainForms.{HasPlainForms}
use Rattle.value_laws.specs.Ranges.{FieldsInRange, LocalsInRange}
use Rattle.value_laws.proofs.RangeValues.{place_in_range}
use Rattle.value_laws.proofs.Ready.{ready, step_there}
use Rattle.value_laws.specs.Typed.{MovesLocals, NamesMembers}
use Rattle.value_laws.proofs.Reached.{typed_step}
use Rattle.covering_laws.proofs.TopSteps.{IsLocalStep}
use Rattle.covering_laws.proofs.Waiting.{AllThere, HoldsThere}

module _ (p : Program) (ac : Accept p) (forms : HasPlainForms p) (fr : Frame) (st : Stands p fr) (i : ℕ) (s : Step) (here : slice_get (frame_steps p fr) i ≡ Some s) where
  typed : MovesLocals s.action × NamesMembers p st.body s.action
  typed = typed_step p ac.well_formed.valid.typed st.number st.body fr.control i (move_of s) st.at st.control (step_there p fr st i s here)

  pub names_members : NamesMembers p st.body s.action
  names_members = typed.1

  pub local_step : SetsLocals s.action → IsWay s.action s.edge → IsLocalStep p fr st s
  local_step sets way =
      let r = ready p ac forms fr st i s here way in
      record {
        small = r.small;
        sets = sets;
        moves = λ x y is. (subst MovesLocals is typed.0).1;
        makes = λ x v is. subst MovesLocals is typed.0;
        target = r.target;
        way = way;
      }

-- ---- what places hold is there

pub holds_there : (p : Program) (h : HeapContents) → FieldsInRange h → (fr : Frame) → LocalsInRange h fr.locals → HoldsThere p h fr
holds_there p h fields fr in' q small = place_in_range p h fields fr.method fr.locals in' q

abbrev pub LocalsIn : HeapContents → List Frame → Type 0
LocalsIn h frs = All (λ (fr : Frame). LocalsInRange h fr.locals) frs

pub all_there : (p : Program) (h : HeapContents) → FieldsInRange h → (frs : List Frame) → LocalsIn h frs → AllThere p h frs
all_there p h fields [] in' = tt
all_there p h fields (fr ∷ frs) in' =
    (holds_there p h fields fr (All-head (λ (x : Frame). LocalsInRange h x.locals) fr frs in'), all_there p h fields frs (All-tail (λ (x : Frame). LocalsInRange h x.locals) fr frs in'))
