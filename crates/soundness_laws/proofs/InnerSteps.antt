-- A step within a frame: an operation, a store into a field that is not owning, a text that another operator than `=` stores, or an exception.
use Rattle.std.proofs.Common.{◌≡◌, ◌⊎◌, inl, inr, ℕ, Bool, ◌+◌, true, false, Option, Some, None, List, [], ◌∷◌, ◌++◌, slice_get, refl, sym, ap, ◌∙◌, subst, true≢false, arith, if◌then◌else◌}
use Rattle.std.specs.List.{list_any}
use Rattle.std.proofs.lemmas.Bool.{or_left}
use Rattle.program_model.specs.declared.kinds.ClassId.{ClassId}
use Rattle.program_model.specs.declared.kinds.FieldId.{FieldId}
use Rattle.program_model.specs.declared.program.Method.{Method}
use Rattle.program_model.specs.declared.program.Program.{Program}
use Rattle.program_model.specs.Lookups.{method_at}
use Rattle.rlc_base.specs.declared.place.Pos.{Pos}
use Rattle.java_control.specs.Control.{Step}
use Rattle.java_control.specs.Owned.{is_owning}
use Rattle.control_actions.specs.declared.action.Action.{Action}
use Rattle.control_actions.specs.declared.action.Edge.{Edge}
use Rattle.control_actions.specs.declared.action.Edge.TheVariants as edges
use Rattle.ownership_rules.specs.Callees.{may_be_null_target}
use Rattle.ownership_rules.specs.Facts.{PlaceSet}
use Rattle.content_laws.specs.Aliases.{gives_alias}
use Rattle.content_laws.specs.Accept.{Accept}
use Rattle.ledger_state.specs.Contents.{HeapContents}
use Rattle.ledger_state.specs.Heaps.{next_number, object_at}
use Rattle.ledger_state.specs.declared.array.ArrayObject.{ArrayObject}
use Rattle.ledger_state.specs.declared.entry.Entry.{Entry}
use Rattle.ledger_state.specs.declared.entry.Owner.TheVariants as owners
use Rattle.ledger_state.specs.declared.locals.Locals.{Locals}
use Rattle.ledger_state.specs.declared.object.Object.{Object}
use Rattle.ledger_state.specs.declared.value.Value.{Value}
use Rattle.ledger_obligations.specs.Obligations.{displaced, given_up, holder_roots, is_unmet, moved_in}
use Rattle.ledger_obligations.specs.MustCallSets.{is_heavy_class}
use Rattle.ledger_state.specs.Fields.{field_value}
use Rattle.ledger_state.specs.Leaks.{is_leak}
use Rattle.ledger_state.specs.declared.entry.LeakWord.TheVariants as words
use Rattle.ledger_steps.specs.Effects.{left}
use Rattle.ledger_steps.specs.Entries.{leak_entries, owner_entries, reset_entries}
use Rattle.ledger_steps.specs.LedgerCallsCalls.{operand_of}
use Rattle.content_laws.specs.Configuration.{Frame, held_by}
use Rattle.content_laws.specs.Choosing.{frame_steps}
use Rattle.content_laws.specs.LedgerFramesFrames.{frame_after}
use Rattle.ledger_steps.specs.declared.store.Store.{Store}
use Rattle.ledger_steps.specs.InnerSteps.{displaced_entries, heap_stored, inner, is_bound, owning_lines, store_entries, store_of, store_unless, thrown_heap}
use Rattle.rlc_base.proofs.SetLaws.{within_self}
use Rattle.content_laws.specs.Heaps.{GoesOn, HasEarlierLinks, KeepsLinks}
use Rattle.content_laws.specs.Chains.{HaveEnds, IsLast}
use Rattle.content_laws.specs.LibraryClasses.{ThrowsMadeClasses}
use Rattle.content_laws.specs.Agreement.{Agrees, HasMadeClasses, IsTracked, Stands, Tracks, is_answering}
use Rattle.content_laws.specs.FieldContents.{HaveContents}
use Rattle.content_laws.specs.PlainForms.{HasPlainForms, may_be_made}
use Rattle.content_laws.specs.TextUpdates.{IsLeftByText, IsLightStore, UpdatesTexts}
use Rattle.content_laws.specs.Nexts.{IsNullCall, IsPlainStep}
use Rattle.content_laws.specs.Steps.{RootsStay}
use Rattle.content_laws.proofs.CallNames.{operand_of_fact, receiver_operand}
use Rattle.content_laws.proofs.KnownNames.{known_after_call}
use Rattle.content_laws.proofs.Operations.{null_pointer_class, operations_throw_made_classes}
use Rattle.soundness_laws.proofs.KeptPromises.{null_target_promises}
use Rattle.soundness_laws.proofs.MadeClasses.{classes_on}
use Rattle.content_laws.proofs.Chains.{IsOwnedAs, ends_on, kept_owner, owned_is_finished}
use Rattle.content_laws.proofs.Goes.{unmet_is_heavy}
use Rattle.content_laws.proofs.OwnerSteps.{is_field_owner}
use Rattle.content_laws.proofs.StoredObjects.{displaced_leaks}
use Rattle.content_laws.proofs.TextStores.{call_light, is_text_store, left_goes_on, light_back, light_forward, light_links, light_root, light_unless, row_light, store_count}
use Rattle.content_laws.proofs.Landing.{landed, no_leak_in_both}
use Rattle.content_laws.proofs.Counts.{thrown_count}
use Rattle.content_laws.proofs.LibraryCallLaws.{owner_lines_leak_nothing, reset_lines_leak_nothing, roots_go_on-value}
use Rattle.content_laws.proofs.LibraryCallLaws.{exceptions_are_the_librarys, exceptions_keep_links-evolves, unfinished_objects_stay_unowned-exception}
use Rattle.content_laws.proofs.Stacks.{KeepsClasses, called_on}
use Rattle.content_laws.proofs.Unmet.{way_of_call}
use Rattle.content_laws.proofs.Moving.{moved_is_given}
use Rattle.content_laws.proofs.Ready.{ready}
use Rattle.content_laws.proofs.TargetTracks.{target_or_not, tracks_target}
use Rattle.content_laws.proofs.Tracking.{is_owing, null_is_no_object, stack_tracks, tracks_call, tracks_plain}

-- an object as it is goes on
pub same_goes_on : (x : Object) → GoesOn x x
same_goes_on x = record { class = refl; link = refl; finished = refl; must = refl; called = within_self x.called }

-- ---- the lines

-- a store leaks nothing
store_leaks_nothing : (p : Program) (pos : Pos) (m : Option Method) (l : Locals) (s : Option Store) (h : HeapContents) → list_any is_leak (store_entries p pos m l s h) ≡ false
store_leaks_nothing p pos m l None h = refl
store_leaks_nothing p pos m l (Some s) h = go (is_owning p s.field)
  where
    go : (b : Bool) → list_any is_leak (if b then owning_lines p pos s (is_bound h m l s.value) h else []) ≡ false
    go true = no_leak_in_both (reset_entries p pos (holder_roots p h s.holder s.field (is_bound h m l s.value) s.value) (moved_in p h s.holder s.field (is_bound h m l s.value) s.value))
        (owner_entries p pos (displaced p h s.holder s.field s.value) (moved_in p h s.holder s.field (is_bound h m l s.value) s.value))
        (reset_lines_leak_nothing p pos (holder_roots p h s.holder s.field (is_bound h m l s.value) s.value) (moved_in p h s.holder s.field (is_bound h m l s.value) s.value))
        (owner_lines_leak_nothing p pos (displaced p h s.holder s.field s.value) (moved_in p h s.holder s.field (is_bound h m l s.value) s.value))
    go false = refl

-- what a field owns, of a class without an obligation, is met
light_is_met : (p : Program) (frs : List Frame) (h : HeapContents) → HaveContents p frs h → (n : ℕ) (x : Object) (w : ℕ) (f : FieldId) → object_at h n ≡ Some x → x.owner ≡ owners.Field w f → is_heavy_class p x.class ≡ false
    → is_unmet x ≡ false
light_is_met p frs h contents n x w f at owner light = go (is_unmet x) refl
  where
    go : (b : Bool) → is_unmet x ≡ b → is_unmet x ≡ false
    go false met = met
    go true unmet = absurd (true≢false (sym (unmet_is_heavy p x unmet ((contents n x w f at (or_left (is_unmet x) (is_heavy_class p x.class) unmet) owner).own)) ∙ light))

-- so a text displaces nothing unmet
text_displaces_none : (p : Program) (frs : List Frame) (pos : Pos) (s : Option Store) (h : HeapContents) → HaveContents p frs h → IsLightStore p h s → displaced_entries p pos s h ≡ []
text_displaces_none p frs pos None h contents light = refl
text_displaces_none p frs pos (Some s) h contents light = go (is_owning p s.field) refl
  where
    go : (b : Bool) → is_owning p s.field ≡ b → (if b then leak_entries p words.Overwritten pos h (displaced p h s.holder s.field s.value) else []) ≡ []
    go true own = displaced_leaks p h s.holder s.field s.value words.Overwritten pos (λ n x at gone.
        light_is_met p frs h contents n x s.holder s.field at gone.owner (light_root p h (field_value p h s.holder s.field) n x (is_text_store p h s light own).1 gone.held at))
    go false none = refl

-- a call whose target is null gives no alias
null_gives_none : (p : Program) (a : Action) (e : Edge) (held : PlaceSet) → may_be_null_target p a e ≡ true → gives_alias p a e held ≡ true → ⊥
null_gives_none p a (edges.Throws c) held target gives = true≢false (sym gives)
null_gives_none p a e held target gives = true≢false (sym target)

-- ---- the step

module _ (p : Program) (ac : Accept p) (forms : HasPlainForms p) (fr : Frame) (frs : List Frame) (h : HeapContents) (es : List Entry)
    (agrees : Agrees p (fr ∷ frs) h es) (i : ℕ) (s : Step) (here : slice_get (frame_steps p fr) i ≡ Some s) (e : Option ClassId) (v : Value) (arrays : List ArrayObject)
    (kind : IsPlainStep p h arrays fr.method fr.locals e s ⊎ IsNullCall p fr.locals e s) (updates : UpdatesTexts p h fr) (contents : HaveContents p (fr ∷ frs) h) where
  abbrev after : Frame
  after = frame_after p h fr s v

  abbrev store : Option Store
  store = store_unless e (store_of fr.locals s.action)

  abbrev heap : HeapContents
  heap = heap_stored p (method_at p fr.method) fr.locals store (thrown_heap p e h)

  -- the step stores into no owning field, or it stores a text
  stores_light : IsLightStore p h (store_of fr.locals s.action)
  stores_light = elim kind [
    | inl step ↦ row_light p h fr.locals s.action step.row (λ f d w this is own held. updates i s f d w this here is own held)
    | inr null ↦ call_light p h fr.locals s.action null.row
  ]

  is_light : IsLightStore p (thrown_heap p e h) store
  is_light = light_unless p h e (store_of fr.locals s.action) stores_light

  -- an object was there before, or is the library's
  was_there : (o : ℕ) (y : Object) → object_at heap o ≡ Some y
      → ((x : Object) × (object_at h o ≡ Some x) × IsLeftByText p x y) ⊎ ((o ≡ next_number h) × (y.owner ≡ owners.Library) × (y.link ≡ None) × (e ≡ Some y.class) × (object_at (thrown_heap p e h) o ≡ Some y))
  was_there o y at = by (light_back p (method_at p fr.method) fr.locals (thrown_heap p e h) store is_light o y at)
    where
      by : (x : Object) × (object_at (thrown_heap p e h) o ≡ Some x) × IsLeftByText p x y
          → ((x : Object) × (object_at h o ≡ Some x) × IsLeftByText p x y) ⊎ ((o ≡ next_number h) × (y.owner ≡ owners.Library) × (y.link ≡ None) × (e ≡ Some y.class) × (object_at (thrown_heap p e h) o ≡ Some y))
      by (x, now, inl same) = elim (exceptions_are_the_librarys p e h o x now) [
        | inl old ↦ inl (x, old, inl same)
        | inr new ↦ inr (subst (λ (z : Object). (o ≡ next_number h) × (z.owner ≡ owners.Library) × (z.link ≡ None) × (e ≡ Some z.class) × (object_at (thrown_heap p e h) o ≡ Some z)) (sym same) (new.0, new.1, new.2, new.3, now))
      ]
      by (x, now, inr gone) = elim (exceptions_are_the_librarys p e h o x now) [
        | inl old ↦ inl (x, old, inr gone)
        | inr new ↦ absurd (let never : owners.Library ≡ owners.Field gone.2.0 gone.2.1 = sym new.1 ∙ gone.2.2 in cc)
      ]

  thrown_links : HasEarlierLinks (thrown_heap p e h)
  thrown_links o y l at link = elim (exceptions_are_the_librarys p e h o y at) [
    | inl old ↦ agrees.links o y l old link
    | inr new ↦ absurd (let never : None ≡ Some l = sym new.2 ∙ link in cc)
  ]

  links : HasEarlierLinks heap
  links = light_links p (method_at p fr.method) fr.locals (thrown_heap p e h) store is_light thrown_links

  keeps_links : KeepsLinks h heap
  keeps_links o x before =
      let y = exceptions_keep_links-evolves p e h o x before in
      let z = light_forward p (method_at p fr.method) fr.locals (thrown_heap p e h) store is_light o y.0 y.1 in
      (z.0, z.1, (left_goes_on p y.0 z.0 z.2).link ∙ y.2.link)

  stays : (o : ℕ) (x : Object) → object_at h o ≡ Some x → RootsStay h heap o
  stays o x before u root = roots_go_on-value h heap u o x agrees.links keeps_links root before

  -- what a field gave up is met
  gone_is_met : (o : ℕ) (x y : Object) → object_at h o ≡ Some x → (y ≡ given_up x) × (is_heavy_class p x.class ≡ false) × ((w : ℕ) × (f : FieldId) × (x.owner ≡ owners.Field w f)) → is_unmet y ≡ true → ⊥
  gone_is_met o x y before gone unmet = true≢false (sym unmet ∙ ap is_unmet gone.0 ∙ light_is_met p (fr ∷ frs) h contents o x gone.2.0 gone.2.1 before gone.2.2 gone.1)

  answered : (o : ℕ) (y : Object) → object_at heap o ≡ Some y → y.link ≡ None → is_unmet y ≡ true → is_answering y.owner ≡ true
  answered o y at free unmet = elim (was_there o y at) [ inl old ↦ by old | inr new ↦ ap is_answering new.1 ]
    where
      by : (x : Object) × (object_at h o ≡ Some x) × IsLeftByText p x y → is_answering y.owner ≡ true
      by (x, before, inl same) = ap (λ (z : Object). is_answering z.owner) same ∙ agrees.answered o x before (ap (λ (z : Object). z.link) (sym same) ∙ free) (ap is_unmet (sym same) ∙ unmet)
      by (x, before, inr gone) = absurd (gone_is_met o x y before gone unmet)

  null_call : (o : ℕ) (y : Object) → object_at h o ≡ Some y → is_unmet y ≡ true → IsNullCall p fr.locals e s → Tracks p h fr o y → Tracks p heap after o y
  null_call o y before unmet call t =
      let row = call.row in
      let st = agrees.standing.0 in
      let way = way_of_call s row in
      let small = (ready p ac forms fr st i s here way).small in
      elim (target_or_not p s.action t.fact.places) [
        | inl target ↦ tracks_target p ac forms h heap fr st i s here way v o y y (stays o y before) refl t.follows.bounded unmet false t row target
            (λ gives. absurd (null_gives_none p s.action s.edge t.fact.places call.target gives))
        | inr out ↦ tracks_call p ac forms h heap fr st i s here way v o y y (stays o y before) (same_goes_on y) unmet t row out
            (known_after_call p st.number s.action s.edge t.fact y.called row t.follows.called
            (λ n held named. absurd (null_is_no_object h (operand_of fr.locals s.action 0) o call.null
            (operand_of_fact p h fr.method fr.locals s.action o 0 t.fact.places small (omega arith) t.follows.places (receiver_operand p h fr.method fr.locals o s.action t.fact.places t.follows.places held).1)))
            (null_target_promises p st.number s.action s.edge t.fact.places y.called call.target))
            (λ gives. absurd (null_gives_none p s.action s.edge t.fact.places call.target gives))
            (λ moved. true≢false (sym ((moved_is_given p t.origin s.action s.edge t.fact moved).started call.target)
            ∙ is_owing p ac forms h heap fr st i s here way v o y y (stays o y before) (same_goes_on y) unmet t))
      ]

  top : (o : ℕ) (y : Object) → object_at h o ≡ Some y → is_unmet y ≡ true → Tracks p h fr o y → Tracks p heap after o y
  top o y before unmet t = elim kind [
    | inl step ↦ tracks_plain p ac forms h heap fr agrees.standing.0 i s here step.way v o y y (stays o y before) (same_goes_on y) unmet t step.row step.test
    | inr null ↦ null_call o y before unmet null t
  ]

  tracked : (o : ℕ) (y : Object) (j : ℕ) → object_at heap o ≡ Some y → is_unmet y ≡ true → y.owner ≡ owners.Frame j → IsTracked p heap (after ∷ frs) o y j
  tracked o y j at unmet owner = elim (was_there o y at) [
    | inl old ↦ by old
    | inr new ↦ absurd (let never : owners.Frame j ≡ owners.Library = sym owner ∙ new.1 in cc)
  ]
    where
      by : (x : Object) × (object_at h o ≡ Some x) × IsLeftByText p x y → IsTracked p heap (after ∷ frs) o y j
      by (x, before, inl same) =
          let unmet' : is_unmet x ≡ true = ap is_unmet (sym same) ∙ unmet in
          subst (λ (z : Object). IsTracked p heap (after ∷ frs) o z j) (sym same)
          (stack_tracks p h heap fr after frs o x x j (stays o x before) (same_goes_on x) (top o x before unmet') (agrees.tracked o x j before unmet' (ap (λ (z : Object). z.owner) (sym same) ∙ owner)))
      by (x, before, inr gone) = absurd (gone_is_met o x y before gone unmet)

  keeps : KeepsClasses h heap
  keeps = record {
    count = (let more = thrown_count p e h in let same = store_count p (method_at p fr.method) fr.locals (thrown_heap p e h) store in omega (arith, more, same));
    class = λ o y at small. elim (was_there o y at) [
      | inl old ↦ (old.0, old.1, (left_goes_on p old.0 y old.2).class)
      | inr new ↦ absurd (let number = new.0 in omega (arith, number, small))
    ];
  }

  ends : HaveEnds heap
  ends = ends_on h heap agrees.ends keeps.count (λ o y at. elim (was_there o y at) [ inl old ↦ by_owner o y old | inr new ↦ inl (subst IsLast (sym new.1) tt, by_finished o y new.4 y.finished refl) ])
    where
      by_owner : (o : ℕ) (y : Object) → (x : Object) × (object_at h o ≡ Some x) × IsLeftByText p x y → IsOwnedAs h heap o y
      by_owner o y (x, before, inl same) = inr (inl (x, before, (ap (λ (z : Object). z.owner) same, ap (λ (z : Object). z.finished) same)))
      by_owner o y (x, before, inr gone) = elim (kept_owner true x y (λ it. owned_is_finished h agrees.ends o x is_field_owner refl before (ap is_field_owner gone.2.2)) (inr (refl, gone.0))) [
        | inl last ↦ inl last
        | inr same ↦ inr (inl (x, before, same))
      ]

      by_finished : (o : ℕ) (y : Object) → object_at (thrown_heap p e h) o ≡ Some y → (b : Bool) → y.finished ≡ b → (y.finished ≡ true) ⊎ (y.owner ≡ owners.Unowned)
      by_finished o y at true made = inl made
      by_finished o y at false unmade = inr (agrees.ends.unfinished o y (unfinished_objects_stay_unowned-exception p e h o y at unmade) unmade)

  -- what is thrown is of a class of which there may be objects
  thrown_class : ThrowsMadeClasses p → (c : ClassId) → e ≡ Some c → may_be_made p c ≡ true
  thrown_class throws c is = elim kind [
    | inl step ↦ operations_throw_made_classes p throws h arrays fr.locals s.action c (sym step.thrown ∙ is)
    | inr null ↦ subst (λ (k : ClassId). may_be_made p k ≡ true) (let both : Some p.core.null_pointer_exception ≡ Some c = sym null.thrown ∙ is in (let one : p.core.null_pointer_exception ≡ c = cc in one)) (null_pointer_class p throws)
  ]

  classes : ThrowsMadeClasses p → HasMadeClasses p heap
  classes throws = classes_on p h heap agrees.classes (λ o y at. elim (was_there o y at) [ inl old ↦ inl (old.0, old.1, (left_goes_on p old.0 y old.2).class) | inr new ↦ inr (thrown_class throws y.class new.3) ])

  abbrev lines : List Entry
  lines = store_entries p s.pos (method_at p fr.method) fr.locals store (thrown_heap p e h)

  displaces_none : displaced_entries p s.pos store (thrown_heap p e h) ≡ []
  displaces_none = by e refl
    where
      by : (x : Option ClassId) → e ≡ x → displaced_entries p s.pos (store_unless x (store_of fr.locals s.action)) (thrown_heap p x h) ≡ []
      by None is = text_displaces_none p (fr ∷ frs) s.pos (store_of fr.locals s.action) h contents stores_light
      by (Some c) is = refl

  pub inner_agrees : ThrowsMadeClasses p → Stands p after
      → Agrees p (after ∷ frs) (inner p h fr.method fr.locals e s.action s.pos (held_by (after ∷ frs))).heap
      (es ++ (inner p h fr.method fr.locals e s.action s.pos (held_by (after ∷ frs))).lines)
  inner_agrees throws stands =
      let agreed = landed p (after ∷ frs) heap es s.pos lines (stands, agrees.standing.1) (called_on p h heap keeps fr after frs refl refl agrees.stacked)
      links ends (classes throws) tracked answered agrees.no_leak (store_leaks_nothing p s.pos (method_at p fr.method) fr.locals store (thrown_heap p e h)) in
      subst (λ (leaks : List Entry). Agrees p (after ∷ frs) (left p s.pos (held_by (after ∷ frs)) lines leaks heap).heap (es ++ (left p s.pos (held_by (after ∷ frs)) lines leaks heap).lines)) (sym displaces_none) agreed
