-- The frames over one step: the one that takes it, those that wait, and the one that begins.
use Rattle.std.proofs.Common.{◌≡◌, ◌⊎◌, inl, inr, ℕ, true, false, true≢false, Option, Some, None, List, [], ◌∷◌, slice_get, refl, sym, ap, ◌∙◌, subst}
use Rattle.std.specs.List.{All}
use Rattle.std.proofs.lemmas.List.Elements.{All-head, All-tail}
use Rattle.std.proofs.lemmas.Bool.{and_parts}
use Rattle.program_model.specs.declared.kinds.BodyId.{BodyId}
use Rattle.program_model.specs.declared.kinds.FieldId.{FieldId}
use Rattle.program_model.specs.declared.kinds.MethodId.{MethodId}
use Rattle.program_model.specs.declared.program.Field.{Field}
use Rattle.program_model.specs.declared.program.Program.{Program}
use Rattle.program_model.specs.Lookups.{field_at, method_at}
use Rattle.must_call_sets.specs.Bodies.{constructs, is_class_of, is_field_in, method_in, method_of}
use Rattle.java_control.specs.Calls.{is_reset_of_this}
use Rattle.java_control.specs.Control.{Step}
use Rattle.control_actions.specs.declared.action.Action.{Action}
use Rattle.covering_laws.specs.Paths.{move_of}
use Rattle.covering_laws.specs.Accept.{Accept}
use Rattle.ledger_state.specs.Contents.{HeapContents}
use Rattle.ledger_state.specs.Fields.{field_value}
use Rattle.ledger_state.specs.declared.array.ArrayObject.{ArrayObject}
use Rattle.ledger_state.specs.Values.{number_of}
use Rattle.ledger_state.specs.declared.object.Object.{Object}
use Rattle.ledger_state.specs.declared.value.Value.{Value}
use Rattle.ledger_state.specs.declared.value.Value.TheVariants as values
use Rattle.ledger_steps.specs.LedgerCallsCalls.{argument_values, begun}
use Rattle.covering_laws.specs.Configuration.{Frame}
use Rattle.covering_laws.specs.Choosing.{body_id, frame_steps}
use Rattle.covering_laws.specs.LedgerFramesFrames.{frame_after}
use Rattle.ledger_steps.specs.CallSteps.{self_begun}
use Rattle.covering_laws.specs.Agreement.{Stands}
use Rattle.covering_laws.specs.PlainForms.{HasPlainForms}
use Rattle.covering_laws.specs.Storing.{HasStored, onward, opened, stored}
use Rattle.covering_laws.specs.Nexts.{IsStartMove}
use Rattle.covering_laws.proofs.CallWays.{one_action}
use Rattle.covering_laws.proofs.GivenAway.{at_any}
use Rattle.covering_laws.proofs.Ready.{step_here, step_there}
use Rattle.covering_laws.proofs.ThisOperands.{reset_of_this_is}
use Rattle.covering_laws.proofs.Unmet.{call_may}
use Rattle.covering_laws.specs.Renewing.{lends_this}
use Rattle.covering_laws.specs.FieldContents.{AreNew, AreUnfinished, DeclaresOwning, RunOnOthers}
use Rattle.covering_laws.specs.Ranges.{FieldsInRange, LocalsInRange}
use Rattle.content_laws.proofs.ContentFrames.{constructor_new, new_object}
use Rattle.content_laws.specs.Filled.{AreFilled, IsFilled, IsReady}
use Rattle.content_laws.proofs.FilledStores.{IsStore, new_holds_none}
use Rattle.content_laws.proofs.Goes.{there}

no_object : {v : Value} (c : ℕ) → v ≡ values.Object c → number_of v ≡ None → ⊥
no_object c is none = let never : Some c ≡ None = sym (ap number_of is) ∙ none in cc

-- what the owning fields hold stays
abbrev pub KeepsOwning : Program → HeapContents → HeapContents → Type 0
KeepsOwning p h k = (u : ℕ) (g : FieldId) (x : Field) → field_at p g ≡ Some x → x.owning ≡ true → field_value p k u g ≡ field_value p h u g

-- or the step of the frame, which stands on these, stores it, which is ready; or it holds no object
abbrev pub StoresOwning : Program → HeapContents → HeapContents → Frame → List Frame → Action → Type 0
StoresOwning p h k fr frs a = (u : ℕ) (g : FieldId) (x : Field) → field_at p g ≡ Some x → x.owning ≡ true
    → (field_value p k u g ≡ field_value p h u g) ⊎ ((IsStore fr.locals a u g × IsReady p h fr frs u) ⊎ (number_of (field_value p k u g) ≡ None))

pub keeps_stores : (p : Program) (h k : HeapContents) (fr : Frame) (frs : List Frame) (a : Action) → KeepsOwning p h k → StoresOwning p h k fr frs a
keeps_stores p h k fr frs a keeps u g x declared owning = inl (keeps u g x declared owning)

-- above fewer frames
further : (p : Program) (h k : HeapContents) (fr y : Frame) (ys : List Frame) (a : Action) → StoresOwning p h k fr (y ∷ ys) a → StoresOwning p h k fr ys a
further p h k fr y ys a stores u g x declared owning = elim (stores u g x declared owning) [
  | inl same ↦ inl same
  | inr more ↦ inr (elim more [
    | inl (store, ready) ↦ inl (store, elim ready [ inl makes ↦ inl makes | inr other ↦ inr (elim other [ inl done ↦ inl done | inr lend ↦ inr lend.1 ]) ])
    | inr none ↦ inr none
  ])
]

-- frames that wait stay as they are
pub same_filled : (p : Program) (h k : HeapContents) → KeepsOwning p h k → (frs : List Frame) → AreFilled p h frs → AreFilled p k frs
same_filled p h k keeps [] all = tt
same_filled p h k keeps (fr ∷ frs) all =
    (λ b w c f x id new this declared owning class value. all.0 b w c f x id new this declared owning class (sym (keeps w f x declared owning) ∙ value), same_filled p h k keeps frs all.1)

-- where the frame stands at a call that creates the obligation of `this` anew, the step is such a call
pub lends_here : (p : Program) (fr : Frame) → Stands p fr → (i : ℕ) (s : Step) → slice_get (frame_steps p fr) i ≡ Some s → lends_this p fr ≡ true → is_reset_of_this p s.action ≡ true
lends_here p fr st i s here lends =
    let t = at_any (λ (u : Step). is_reset_of_this p u.action) (frame_steps p fr) lends in
    let is = reset_of_this_is p t.1.action t.3 in
    ap (is_reset_of_this p) (one_action p st.number fr.control t.0 i t.1 s (step_here p fr st t.0 t.1 t.2) (step_here p fr st i s here) (call_may t.1.action is.0)) ∙ t.3

module _ (p : Program) (forms : HasPlainForms p) (h k : HeapContents) (fr : Frame) (st : Stands p fr) (i : ℕ) (s : Step) (here : slice_get (frame_steps p fr) i ≡ Some s) where
  same_body : (b : BodyId) → body_id p fr.method ≡ Some b → b ≡ st.number
  same_body b id = let both : Some b ≡ Some st.number = sym id ∙ st.id in cc

  -- the frame that takes the step
  pub top_filled : (v : Value) (frs : List Frame) → StoresOwning p h k fr frs s.action → IsFilled p h fr → IsFilled p k (frame_after p h fr s v)
  top_filled v frs stores filled b w c f x id new this declared owning class value = inl (subst (λ (n : BodyId). HasStored p n s.to) (sym (same_body b id)) (elim (stores w f x declared owning) [
    | inl same ↦ elim (filled st.number w c f x st.id new this declared owning class (sym same ∙ value)) [
      | inl has ↦ onward i (move_of s) has (step_there p fr st i s here)
      | inr lends ↦ opened i (move_of s) st.control (step_there p fr st i s here) (lends_here p fr st i s here lends)
    ]
    | inr new ↦ elim new [
      | inl (store, ready) ↦ stored i (move_of s) f store.0 st.control (step_there p fr st i s here) store.1
      | inr none ↦ absurd (no_object c value none)
    ]
  ]))

  -- a method of the class that declares the field stores it
  storing : (u : ℕ) (g : FieldId) → IsStore fr.locals s.action u g → DeclaresOwning p fr.method
  storing u g store = by (field_at p g) refl (forms.stores st.number i (move_of s) g store.0 st.control (step_there p fr st i s here) store.1)
    where
      method : method_of p st.number ≡ method_at p fr.method
      method = ap (method_in p) st.at ∙ ap (method_at p) st.method

      by : (x : Option Field) → field_at p g ≡ x → is_field_in p st.number x ≡ true → DeclaresOwning p fr.method
      by None at place = absurd (true≢false (sym place))
      by (Some x) at place =
          let parts = and_parts x.owning (is_class_of x.class (method_of p st.number)) place in
          (g, x, at, parts.0, sym (ap (is_class_of x.class) method) ∙ parts.1)

  -- those that wait run on other objects, where a constructor stores; where the object is finished, they run no constructor of such a class on it; and else they lend it
  waiting : (gs : List Frame) → StoresOwning p h k fr gs s.action → All (λ (y : Frame). LocalsInRange h y.locals) gs → AreUnfinished p h gs
      → ((u : ℕ) (g : FieldId) → IsStore fr.locals s.action u g → constructs (method_at p fr.method) ≡ true → RunOnOthers u gs) → AreFilled p h gs → AreFilled p k gs
  waiting [] stores in' open' others all = tt
  waiting (y ∷ ys) stores in' open' others all = (
    λ b w c f x id new this declared owning class value. elim (stores w f x declared owning) [
      | inl same ↦ all.0 b w c f x id new this declared owning class (sym same ∙ value)
      | inr new' ↦ elim new' [
        | inl (store, inl makes) ↦ absurd ((others w f store makes).0 this)
        | inl (store, inr (inl done)) ↦ (let z = there h w ((All-head (λ (x : Frame). LocalsInRange h x.locals) y ys in').this w (ap number_of this)) in
            absurd (true≢false (sym (done z.0 z.1) ∙ open'.0 w z.0 (f, x, declared, owning, class) new this z.1)))
        | inl (store, inr (inr lend)) ↦ inr (lend.0 (f, x, declared, owning, class) new this)
        | inr none ↦ absurd (no_object c value none)
      ]
    ],
    waiting ys (further p h k fr y ys s.action stores) (All-tail (λ (x : Frame). LocalsInRange h x.locals) y ys in') open'.1 (λ u g store makes. (others u g store makes).1) all.1,
  )

  pub went_filled : (v : Value) (frs : List Frame) → StoresOwning p h k fr frs s.action → All (λ (y : Frame). LocalsInRange h y.locals) frs → AreUnfinished p h frs → AreNew p (fr ∷ frs) → AreFilled p h (fr ∷ frs) → AreFilled p k (frame_after p h fr s v ∷ frs)
  went_filled v frs stores in' open' new all = (
    top_filled v frs stores all.0,
    waiting frs stores in' open' (λ u g store makes. new.0 u (storing u g store) makes store.2) all.1,
  )

-- ---- the frame that begins

module _ (p : Program) (ac : Accept p) (forms : HasPlainForms p) (h k : HeapContents) (arrays : List ArrayObject) (fr : Frame) (frs : List Frame) (st : Stands p fr)
    (in' : All (λ (x : Frame). LocalsInRange h x.locals) (fr ∷ frs)) (named runs : MethodId) (a : Action) (next : IsStartMove p h arrays fr.locals (frame_steps p fr) named runs a)
    (ranges : FieldsInRange h) (keeps : KeepsOwning p h k) where
  abbrev callee : Frame
  callee = begun p runs (self_begun fr.locals a h) (argument_values fr.locals a (method_at p named))

  -- the fields of a new object hold none
  pub begun_filled : IsFilled p k callee
  begun_filled b w c f x id new this declared owning class value =
      absurd (new_holds_none p h w f c ranges
      (new_object p ac forms h arrays fr frs st in' named runs a next w (constructor_new p ac forms h arrays fr frs st in' named runs a next (f, x, declared, owning, class) new) this)
      (sym (keeps w f x declared owning) ∙ value))
