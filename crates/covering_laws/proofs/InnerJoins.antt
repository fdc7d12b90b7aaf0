-- The top frame takes a step that calls nothing and stores into no owning field: what the step makes is no object, or is not owned.
use Rattle.std.specs.Prelude.{if◌then◌else◌}
use Rattle.std.proofs.Common.{◌≡◌, ◌⊎◌, inl, inr, ℕ, ◌+◌, arith, Bool, true, false, Option, Some, None, List, [], length, ◌∷◌, option_map, slice_get, nat_eq, eq-eqb, refl, sym, ap, ◌∙◌, subst, true≢false}
use Rattle.std.proofs.lemmas.List.Elements.{All-head, All-tail}
use Rattle.program_model.specs.declared.kinds.ClassId.{ClassId}
use Rattle.program_model.specs.declared.kinds.FieldId.{FieldId}
use Rattle.program_model.specs.declared.kinds.VType.{VType}
use Rattle.program_model.specs.declared.kinds.VType.TheVariants as types
use Rattle.program_model.specs.declared.program.Field.{Field}
use Rattle.program_model.specs.declared.program.Program.{Program}
use Rattle.program_model.specs.Lookups.{method_at}
use Rattle.program_model.specs.SuperTests.{is_under}
use Rattle.program_model.specs.Validity.{is_class_type}
use Rattle.ledger_obligations.specs.MustCallSets.{is_heavy_class, must_of, no_names}
use Rattle.ownership_rules.specs.Signatures as signatures
use Rattle.java_control.specs.Control.{Step}
use Rattle.java_control.specs.Sources.{source}
use Rattle.control_actions.specs.declared.action.Action.{Action}
use Rattle.control_actions.specs.declared.action.Action.TheVariants as actions
use Rattle.control_actions.specs.declared.action.Edge.{Edge}
use Rattle.control_actions.specs.declared.action.Edge.TheVariants as edges
use Rattle.control_actions.specs.declared.action.PlainValue.{PlainValue}
use Rattle.control_actions.specs.declared.action.PlainValue.TheVariants as plain_values
use Rattle.control_actions.specs.declared.fact.Mode.TheVariants as modes
use Rattle.control_actions.specs.declared.fact.Origin.{Origin}
use Rattle.control_actions.specs.declared.fact.OriginKind.TheVariants as kinds
use Rattle.control_actions.specs.declared.place.Place.{Place}
use Rattle.control_actions.specs.declared.place.Place.TheVariants as places
use Rattle.ownership_rules.specs.Births.{birth_on, fact_at, origin_of, read_birth}
use Rattle.value_laws.specs.Accept.{Accept}
use Rattle.ledger_state.specs.Classes.{class_in}
use Rattle.ledger_state.specs.Contents.{HeapContents}
use Rattle.ledger_state.specs.Heaps as heaps
use Rattle.ledger_state.specs.Heaps.{append, next_number, object_at, only_at, root}
use Rattle.ledger_state.specs.Locals.{temp_value}
use Rattle.ledger_state.specs.Values.{number_of}
use Rattle.ledger_state.specs.declared.entry.Owner.TheVariants as owners
use Rattle.ledger_state.specs.declared.object.Link.{Link}
use Rattle.ledger_state.specs.declared.object.Object.{Object}
use Rattle.ledger_state.specs.declared.value.Value.{Value}
use Rattle.ledger_state.specs.declared.value.Value.TheVariants as values
use Rattle.ledger_obligations.specs.Obligations.{finished}
use Rattle.value_laws.specs.Operations.{made_value, next_choice, thrown_by_operation}
use Rattle.value_laws.specs.Configuration.{Config, Frame}
use Rattle.value_laws.specs.Choosing.{agrees_with, frame_steps, operation_edge, same_edge}
use Rattle.value_laws.specs.Frames.{frame_after, is_made, made_place}
use Rattle.ledger_steps.specs.InnerSteps.{heap_stored, store_of, store_unless, thrown_heap, with_exception}
use Rattle.value_laws.specs.Heaps.{HasEarlierLinks}
use Rattle.value_laws.proofs.HeapLaws.{appended_object_at-object, changed_object_at-object, roots_of_links-itself}
use Rattle.value_laws.specs.Agreement.{Stands}
use Rattle.value_laws.specs.PlainForms.{HasPlainForms}
use Rattle.value_laws.specs.Outcomes.{IsPlainRow}
use Rattle.value_laws.proofs.PlaceLaws.{single_place-same}
use Rattle.value_laws.specs.Operands as operand_types
use Rattle.value_laws.specs.Operands.{NoObject}
use Rattle.value_laws.specs.StepOrigins.{MakesNone}
use Rattle.value_laws.specs.Nexts.{IsPlainStep}
use Rattle.value_laws.proofs.Ready.{plain_step, row_sets}
use Rattle.value_laws.specs.Typed.{HasField, NamesMembers}
use Rattle.value_laws.specs.Objects.{KeepsClasses, object_class}
use Rattle.value_laws.specs.Types.{HaveTypes, KeepsTypes, is_text}
use Rattle.value_laws.proofs.ValueTypeTexts.{value_still}
use Rattle.value_laws.proofs.ValueTypeLaws.{made_value_is_no_object}
use Rattle.value_laws.specs.PlaceFacts.{AreCovered}
use Rattle.value_laws.specs.Ranges.{FieldsInRange, LocalsInRange}
use Rattle.covering_laws.specs.Linking.{LinkedAreAliases}
use Rattle.covering_laws.specs.TextUpdates.{UpdatesTexts}
use Rattle.covering_laws.specs.Throws.{RaisesExceptions}
use Rattle.covering_laws.proofs.Gifts.{all_keep_gifts}
use Rattle.covering_laws.proofs.InnerSteps.{HoldsNoneHeavy, carries, classes, fields, heap, inner_covered, inner_ways, linked_were, none_heavy, owners_below, owners_go, roots, unfinished, value, inner_nobody}
use Rattle.value_laws.specs.Chains.{HaveEnds}
use Rattle.value_laws.specs.Holders.{HoldersAreUnlinked, UnfinishedAreUnowned}
use Rattle.value_laws.specs.FieldContents.{FieldsOwn, MakersOwn}
use Rattle.covering_laws.proofs.FieldOwners.{carried_as_before, fields_own_by}
use Rattle.covering_laws.proofs.MakersOwning.{all_made_kept, makers_own_on}
use Rattle.covering_laws.proofs.Owners.{AllKeepGifts, OwnersGo, WaysGo, holders_were, old_kept, owners_kept, stays_apart}
use Rattle.covering_laws.proofs.LightExceptions.{exceptions_are_light, operation_is_light}
use Rattle.covering_laws.proofs.LocalSteps.{LocalsIn, all_there, holds_there, local_step, names_members}
use Rattle.covering_laws.proofs.TopSteps.{IsLocalStep}
use Rattle.covering_laws.proofs.Waiting.{AllHeldBefore, KeepsRoots, KeepsUnfinished, all_held_before, all_keep_but_texts, all_wait, frames_ready, no_other, old_as, ways_go_on, HoldsThere, all_ready, this_was, keeps_roots}
use Rattle.covering_laws.proofs.LinkedExceptions.{exceptions_unlinked, still_aliases}
use Rattle.value_laws.specs.LibraryClasses.{HasLightTexts}
use Rattle.covering_laws.proofs.Texts.{texts_are_light}

-- an exception that is made is of its class
pub exception_class_is : (p : Program) (e : ClassId) (h : HeapContents) (y : Object) → object_at (with_exception p e h) (next_number h) ≡ Some y → y.class ≡ e
exception_class_is p e h y at = by (nat_eq (next_number h) (next_number h)) (let both : Some (only_at (next_number h) (finished (must_of p e) owners.Library) (next_number h) (heaps.unfinished e)) ≡ Some y = sym there ∙ at in (
    let one : only_at (next_number h) (finished (must_of p e) owners.Library) (next_number h) (heaps.unfinished e) ≡ y = cc in one))
  where
    appended : object_at (append h e) (next_number h) ≡ Some (heaps.unfinished e)
    appended = appended_object_at-object h e (next_number h) ∙ ap (λ (b : Bool). if b then Some (heaps.unfinished e) else object_at h (next_number h)) (eq-eqb (next_number h) (next_number h) refl)

    there : object_at (with_exception p e h) (next_number h) ≡ Some (only_at (next_number h) (finished (must_of p e) owners.Library) (next_number h) (heaps.unfinished e))
    there = changed_object_at-object (only_at (next_number h) (finished (must_of p e) owners.Library)) (append h e) (next_number h)
        ∙ ap (option_map (only_at (next_number h) (finished (must_of p e) owners.Library) (next_number h))) appended

    by : (b : Bool) → (if b then finished (must_of p e) owners.Library (heaps.unfinished e) else heaps.unfinished e) ≡ y → y.class ≡ e
    by true is = ap (λ (z : Object). z.class) (sym is)
    by false is = ap (λ (z : Object). z.class) (sym is)

goes_on : (e : Edge) → same_edge edges.Go e ≡ true → e ≡ edges.Go
goes_on edges.Go is = refl
goes_on edges.Null is = absurd (true≢false (sym is))
goes_on edges.NonNull is = absurd (true≢false (sym is))
goes_on edges.True is = absurd (true≢false (sym is))
goes_on edges.False is = absurd (true≢false (sym is))
goes_on (edges.Throws c) is = absurd (true≢false (sym is))

module _ (p : Program) (ac : Accept p) (forms : HasPlainForms p) (c : Config) (texts : HasLightTexts p) (types' : HaveTypes p c) (links : HasEarlierLinks c.heap) (ranges : FieldsInRange c.heap) (linked : LinkedAreAliases p c.heap)
    (fr : Frame) (st : Stands p fr) (keeps : KeepsTypes (is_text p c.heap) p fr) (raises : RaisesExceptions p c.heap fr) (i : ℕ) (s : Step) (here : slice_get (frame_steps p fr) i ≡ Some s) (e : Option ClassId)
    (step : IsPlainStep p c.heap c.arrays fr.method fr.locals e s) (updates : UpdatesTexts p c.heap fr) where
  abbrev h : HeapContents
  h = c.heap

  abbrev made : Value
  made = made_value p h c.arrays c.statics (next_choice c.choices c.used) fr.locals s.action

  pub local : IsLocalStep p fr st s
  local = local_step p ac forms fr st i s here (row_sets p s.action (plain_step p ac forms fr st i s here) step.row) step.way

  abbrev heap_then : HeapContents
  heap_then = heap p ac forms h links fr st i s here local step.row step.test e made

  -- what is made is no object of a class with an obligation, or a fact that is not owned is born for it
  abbrev IsGiven : Place → Type 0
  IsGiven q = HoldsNoneHeavy p heap_then made ⊎ ((g : Origin) × (birth_on p s.action s.edge s.pos ≡ Some (g, fact_at q modes.None no_names true)) × (g.kind ≡ kinds.Read))

  no_object : (q : Place) → number_of made ≡ None → IsGiven q
  no_object q none = inl (none_heavy p heap_then made none)

  pub plain_linked : LinkedAreAliases p h → LinkedAreAliases p heap_then
  plain_linked = still_aliases p h heap_then (linked_were p ac forms h links fr st i s here local step.row step.test e made)

  plain_classes : KeepsClasses h heap_then
  plain_classes n d class = go (object_at h n) refl class
    where
      go : (x : Option Object) → object_at h n ≡ x → class_in x ≡ Some d → object_class heap_then n ≡ Some d
      go None at is = absurd (let never : None ≡ Some d = is in cc)
      go (Some x) at is = let y = classes p ac forms h links fr st i s here local step.row step.test e made updates n x at in ap class_in y.1 ∙ ap Some y.2 ∙ is

  -- so each object is of the class that it was of
  pub plain_stay : (n : ℕ) (x y : Object) → object_at h n ≡ Some x → object_at heap_then n ≡ Some y → y.class ≡ x.class
  plain_stay n x y before now = let both : Some x.class ≡ Some y.class = sym (plain_classes n x.class (ap class_in before)) ∙ ap class_in now in cc

  -- what is made is no object, or one of class `String`, which owes nothing
  light_made : (q : Place) → MakesNone p s.action → IsGiven q
  light_made q makes =
      inl (λ o y found at. texts_are_light p ac texts heap_then (plain_linked linked) made o y
      (value_still p h heap_then plain_classes made (made_value_is_no_object (is_text p h) p ac fr keeps c types' i s (next_choice c.choices c.used) here makes)) found at)

  nothing_by : (a : Action) → s.action ≡ a → number_of (made_value p h c.arrays c.statics (next_choice c.choices c.used) fr.locals a) ≡ None → number_of made ≡ None
  nothing_by a is none = ap (λ (b : Action). number_of (made_value p h c.arrays c.statics (next_choice c.choices c.used) fr.locals b)) is ∙ none

  -- the edge of a step that throws nothing of its own
  edge_by : (a : Action) → s.action ≡ a → e ≡ None → agrees_with p h c.arrays fr.method fr.locals a s.edge ≡ same_edge (operation_edge a (thrown_by_operation p h c.arrays fr.locals a)) s.edge
      → same_edge (operation_edge a None) s.edge ≡ true
  edge_by a is normal same =
      ap (λ (x : Option ClassId). same_edge (operation_edge a x) s.edge) (sym normal ∙ step.thrown ∙ ap (thrown_by_operation p h c.arrays fr.locals) is)
      ∙ sym same ∙ ap (λ (b : Action). agrees_with p h c.arrays fr.method fr.locals b s.edge) (sym is) ∙ step.agreeing

  no_place : (a : Action) (q : Place) → s.action ≡ a → is_made (made_place a) q ≡ false → is_made (made_place s.action) q ≡ true → ⊥
  no_place a q is none made' = true≢false (sym made' ∙ ap (λ (b : Action). is_made (made_place b) q) is ∙ none)

  plain_given : (x : Place) (v : PlainValue) (q : Place) → s.action ≡ actions.Plain x v → IsGiven q
  plain_given x (plain_values.LibraryConstant m) q is = no_object q (nothing_by (actions.Plain x (plain_values.LibraryConstant m)) is refl)
  plain_given x (plain_values.Literal v) q is = light_made q (subst (MakesNone p) (sym is) tt)
  plain_given x (plain_values.Default t) q is = light_made q (subst (MakesNone p) (sym is) tt)
  plain_given x (plain_values.StaticField f) q is = light_made q (subst (MakesNone p) (sym is) tt)

  read_given : (f : FieldId) (d : ℕ) (this : Bool) (q : Place) → s.action ≡ actions.Get f d this → e ≡ None → is_made (made_place s.action) q ≡ true → IsGiven q
  read_given f d this q is normal made' = by field.0.vtype refl
    where
      field : HasField p f
      field = subst (NamesMembers p st.body) is (names_members p ac forms fr st i s here)

      edge : s.edge ≡ edges.Go
      edge = goes_on s.edge (edge_by (actions.Get f d this) is normal refl)

      place : places.Temp d ≡ q
      place = single_place-same (places.Temp d) q (ap (λ (b : Action). is_made (made_place b) q) (sym is) ∙ made')

      none_by : is_class_type field.0.vtype ≡ false → IsGiven q
      none_by other = light_made q (subst (MakesNone p) (sym is) (subst (λ (x : Option Field). NoObject (operand_types.type_of_field x)) (sym field.1) other))

      by : (t : VType) → field.0.vtype ≡ t → IsGiven q
      by (types.Obj k) type = inr (
        origin_of p kinds.Read s.pos k None,
        ap (λ (a : Action). birth_on p a s.edge s.pos) is ∙ ap (λ (g : Edge). birth_on p (actions.Get f d this) g s.pos) edge
            ∙ ap (λ (x : Option Field). read_birth p (places.Temp d) s.pos (signatures.type_of_field x)) field.1 ∙ ap (λ (t : VType). read_birth p (places.Temp d) s.pos (Some t)) type
            ∙ ap (λ (z : Place). Some (origin_of p kinds.Read s.pos k None, fact_at z modes.None no_names true)) place,
        refl,
      )
      by (types.Primitive k) type = none_by (ap is_class_type type)
      by types.Str type = none_by (ap is_class_type type)
      by (types.Arr k) type = none_by (ap is_class_type type)
      by types.NullType type = none_by (ap is_class_type type)

  -- an object that is thrown is an exception, and no exception has an obligation or is linked
  thrown_light : (d : ℕ) (x : Option ClassId) → s.action ≡ actions.Raise d x → (v : Value) → temp_value fr.locals d ≡ v → HoldsNoneHeavy p heap_then v
  thrown_light d x is (values.Object k) same o y found at = light_there (by_link z.0.link refl)
    where
      thrown : (w : Object) × (object_at h k ≡ Some w) × (is_under p w.class p.core.throwable ≡ true)
      thrown = raises i s d x k here is same

      z : (w : Object) × (object_at heap_then k ≡ Some w) × (w.class ≡ thrown.0.class)
      z = classes p ac forms h links fr st i s here local step.row step.test e made updates k thrown.0 thrown.1

      under : is_under p z.0.class p.core.throwable ≡ true
      under = ap (λ (c : ClassId). is_under p c p.core.throwable) z.2 ∙ thrown.2

      by_link : (l : Option Link) → z.0.link ≡ l → z.0.link ≡ None
      by_link None free = free
      by_link (Some l) link = absurd (true≢false (sym under ∙ exceptions_unlinked p ac heap_then (plain_linked linked) k z.0 l z.1 link))

      light_there : z.0.link ≡ None → is_heavy_class p y.class ≡ false
      light_there free =
          let root_is : root heap_then k ≡ o = (let both : Some (root heap_then k) ≡ Some o = found in cc) in
          let one : Some z.0 ≡ Some y = sym z.1 ∙ ap (object_at heap_then) (sym (roots_of_links-itself heap_then k z.0 z.1 free) ∙ root_is) ∙ at in
          let same_object : z.0 ≡ y = cc in
          ap (λ (w : Object). is_heavy_class p w.class) (sym same_object) ∙ exceptions_are_light p ac z.0.class under
  thrown_light d x is values.Nothing same o y found at = absurd (let never : None ≡ Some o = found in cc)
  thrown_light d x is v same o y found at = absurd (let never : None ≡ Some o = found in cc)

  raised : (d : ℕ) (x : Option ClassId) (q : Place) → s.action ≡ actions.Raise d x → IsGiven q
  raised d x q is =
      inl (subst (HoldsNoneHeavy p heap_then) (sym (ap (made_value p h c.arrays c.statics (next_choice c.choices c.used) fr.locals) is)) (thrown_light d x is (temp_value fr.locals d) refl))

  given : (q : Place) → e ≡ None → source p st.body s.action s.edge q ≡ None → is_made (made_place s.action) q ≡ true → IsGiven q
  given q normal none made' = go s.action refl
    where
      go : (a : Action) → s.action ≡ a → IsGiven q
      go (actions.Plain x v) is = plain_given x v q is
      go (actions.Op k d n) is = light_made q (subst (MakesNone p) (sym is) tt)
      go (actions.Get f d this) is = read_given f d this q is normal made'
      go (actions.Put f d this) is = no_object q (nothing_by (actions.Put f d this) is refl)
      go (actions.Cast t d) is = no_object q (nothing_by (actions.Cast t d) is refl)
      go (actions.Raise d x) is = raised d x q is
      go (actions.Call m d n form) is = absurd (subst IsPlainRow is step.row)
      go (actions.New m d n) is = absurd (subst IsPlainRow is step.row)
      go (actions.Super m d n) is = absurd (subst IsPlainRow is step.row)
      go actions.Skip is = absurd (no_place actions.Skip q is refl made')
      go a is = absurd (no_place a q is refl made')

  abbrev after : Frame
  after = frame_after p h fr s (value p ac forms h links fr st i s here local step.row step.test e made)

  light : (k : ClassId) (y : Object) → e ≡ Some k → object_at heap_then (next_number h) ≡ Some y → is_heavy_class p y.class ≡ false
  light k y same at =
      ap (is_heavy_class p) (exception_class_is p k h y (subst (λ (x : Option ClassId). object_at (heap_stored p (method_at p fr.method) fr.locals (store_unless x (store_of fr.locals s.action)) (thrown_heap p x h)) (next_number h) ≡ Some y) same at))
      ∙ operation_is_light p ac h c.arrays fr.locals s.action k (sym step.thrown ∙ same)

  plain_roots : KeepsRoots h heap_then
  plain_roots = roots p ac forms h links fr st i s here local step.row step.test e made updates

  pub plain_unfinished : KeepsUnfinished h heap_then no_other
  plain_unfinished = unfinished p ac forms h links fr st i s here local step.row step.test e made updates

  pub plain_nobody : UnfinishedAreUnowned h → UnfinishedAreUnowned heap_then
  plain_nobody = inner_nobody p ac forms h links fr st i s here local step.row step.test e made updates

  pub plain_covered : HaveEnds h → HoldersAreUnlinked (is_heavy_class p) h → (frs : List Frame) → LocalsIn h (fr ∷ frs) → AreCovered p h (fr ∷ frs) → AreCovered p heap_then (after ∷ frs)
  plain_covered have unlinked frs in' (old, is, covered, waits, below) = (
    old,
    old_as p heap_then old frs fr after refl refl
        (old_kept p h heap_then old frs fr
        (stays_apart p None (fr ∷ frs) (length frs + 1) h heap_then ways goes frs fr (omega arith) gifts tt (λ w none. none.1) (λ w none this. no_object_into w none)) (ways_go_on p None (fr ∷ frs) (length frs + 1) h heap_then ways) is
        (this_was p h heap_then fr (keeps_roots p h heap_then plain_roots fr there) there (all_ready p h heap_then plain_unfinished fr) (carries p ac forms h links fr st i s here local step.row step.test e made updates))),
    inner_covered p ac forms h links fr st i s here local step.row step.test e made updates old frs covered is gifts ways there light given,
    all_wait p h heap_then links plain_roots (carries p ac forms h links fr st i s here local step.row step.test e made updates) (ways_go_on p None (fr ∷ frs) (length frs + 1) h heap_then ways) old frs
        (all_keep_but_texts p h heap_then (fields p ac forms h links fr st i s here local step.row step.test e made updates) frs)
        (all_there p h ranges frs (All-tail (λ (x : Frame). LocalsInRange h x.locals) fr frs in')) (frames_ready p h heap_then plain_unfinished frs) gifts
        (owners_kept p None (fr ∷ frs) (length frs + 1) h heap_then ways goes frs (omega arith) gifts tt (λ w none. none.1)) waits,
    owners_below p ac forms h links fr st i s here local step.row step.test e made updates (length frs + 1) below,
  )
    where
      there : HoldsThere p h fr
      there = holds_there p h ranges fr (All-head (λ (x : Frame). LocalsInRange h x.locals) fr frs in')

      gifts : AllKeepGifts p h heap_then frs
      gifts = all_keep_gifts p h heap_then plain_roots frs (All-tail (λ (x : Frame). LocalsInRange h x.locals) fr frs in')

      ways : WaysGo p None (fr ∷ frs) (length frs + 1) h heap_then
      ways = inner_ways p ac forms h links fr st i s here local step.row step.test e made updates have unlinked (fr ∷ frs) (length frs + 1)

      goes : OwnersGo p None (fr ∷ frs) (length frs + 1) h heap_then
      goes = owners_go p ac forms h links fr st i s here local step.row step.test e made updates (fr ∷ frs) (length frs + 1)

      no_object_into : (w : ℕ) → ◌≡◌ {A = Option ℕ} None (Some w) → ⊥
      no_object_into w none = cc

  pub plain_held_before : (frs : List Frame) → LocalsIn h frs → AllHeldBefore p h heap_then frs
  plain_held_before frs in' =
      all_held_before p h heap_then plain_roots frs (all_keep_but_texts p h heap_then (fields p ac forms h links fr st i s here local step.row step.test e made updates) frs) (all_there p h ranges frs in')

  -- what fields hold they own
  pub plain_owns : HaveEnds h → HoldersAreUnlinked (is_heavy_class p) h → FieldsOwn p h → FieldsOwn p heap_then
  plain_owns have unlinked = fields_own_by p None [] 1 h heap_then links ranges have.unfinished (fields p ac forms h links fr st i s here local step.row step.test e made updates)
      (carries p ac forms h links fr st i s here local step.row step.test e made updates)
      (holders_were p None [] 1 h heap_then (inner_ways p ac forms h links fr st i s here local step.row step.test e made updates have unlinked [] 1) goes) plain_roots goes plain_unfinished
    where
      goes : OwnersGo p None [] 1 h heap_then
      goes = owners_go p ac forms h links fr st i s here local step.row step.test e made updates [] 1

  -- so do the fields of what these frames make
  pub plain_makers : HaveEnds h → HoldersAreUnlinked (is_heavy_class p) h → (frs : List Frame) → MakersOwn p h (fr ∷ frs) → MakersOwn p heap_then (after ∷ frs)
  plain_makers have unlinked frs makers =
      (λ w f o x made' owning heavy held at wide owes. kept.0 w f o x (record { alone = made'.alone; field = made'.field; declared = made'.declared; runs = made'.runs }) owning heavy held at wide owes, kept.1)
    where
      goes : OwnersGo p None (fr ∷ frs) 1 h heap_then
      goes = owners_go p ac forms h links fr st i s here local step.row step.test e made updates (fr ∷ frs) 1

      ways : WaysGo p None (fr ∷ frs) 1 h heap_then
      ways = inner_ways p ac forms h links fr st i s here local step.row step.test e made updates have unlinked (fr ∷ frs) 1

      kept : MakersOwn p heap_then (fr ∷ frs)
      kept =
          makers_own_on p h heap_then links ranges have.unfinished (fields p ac forms h links fr st i s here local step.row step.test e made updates)
          (carried_as_before p h heap_then (carries p ac forms h links fr st i s here local step.row step.test e made updates) (holders_were p None (fr ∷ frs) 1 h heap_then ways goes)) (inl plain_roots) (fr ∷ frs)
          (all_made_kept p None (fr ∷ frs) 1 h heap_then have.unfinished goes (fr ∷ frs) (λ w none. none)) makers
