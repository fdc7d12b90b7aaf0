-- Each link that a step makes leads to an operand of which the signature that the call names gives an alias, and which is of the static type of its position.
use Rattle.std.proofs.Common.{◌≡◌, ◌||◌, ◌⊎◌, inl, inr, ℕ, zero, suc, ◌+◌, Bool, true, false, true≢false, Option, Some, None, List, [], ◌∷◌, length, nat_lt, slice_get, refl, sym, ap, ◌∙◌, subst, if◌then◌else◌}
use Rattle.rlc_base.specs.declared.place.Pos.{Pos}
use Rattle.program_model.specs.declared.kinds.ClassId.{ClassId}
use Rattle.program_model.specs.declared.kinds.MethodId.{MethodId}
use Rattle.program_model.specs.declared.kinds.MethodKind.{MethodKind}
use Rattle.program_model.specs.declared.kinds.MethodKind.TheVariants as methods
use Rattle.program_model.specs.declared.kinds.VType.{VType}
use Rattle.program_model.specs.declared.kinds.VType.TheVariants as types
use Rattle.program_model.specs.declared.program.Method.{Method}
use Rattle.program_model.specs.declared.program.Program.{Program}
use Rattle.program_model.specs.Hierarchy.{IsUnder, above, itself}
use Rattle.program_model.specs.Lookups.{method_at}
use Rattle.program_model.specs.Overrides.{is_library}
use Rattle.program_model.specs.SuperTests.{is_class, is_under}
use Rattle.program_model.proofs.HierarchyLaws.{is_under_law}
use Rattle.must_call_sets.specs.Bodies.{constructs, is_constructor_kind, is_instance_kind}
use Rattle.java_control.specs.Calls.{called_method}
use Rattle.java_control.specs.Control.{Step}
use Rattle.control_actions.specs.declared.action.Action.{Action}
use Rattle.control_actions.specs.declared.action.Action.TheVariants as actions
use Rattle.control_actions.specs.declared.action.Completion.{Completion}
use Rattle.control_actions.specs.declared.action.PlainValue.TheVariants as plain_values
use Rattle.stub_conduct.specs.declared.choice.Choices.{Choices}
use Rattle.stub_conduct.specs.declared.choice.Conduct.{Conduct}
use Rattle.stub_conduct.specs.declared.choice.Conduct.TheVariants as conducts
use Rattle.ledger_state.specs.Contents.{HeapContents}
use Rattle.ledger_state.specs.Heaps.{next_number, object_at}
use Rattle.ledger_state.specs.Locals.{temp_in}
use Rattle.ledger_state.specs.Values.{number_of}
use Rattle.ledger_state.specs.declared.locals.Locals.{Locals}
use Rattle.ledger_state.specs.declared.object.Link.{Link}
use Rattle.ledger_state.specs.declared.object.Object.{Object}
use Rattle.ledger_state.specs.declared.value.Value.{Value}
use Rattle.ledger_state.specs.declared.value.Value.TheVariants as values
use Rattle.ledger_obligations.specs.Obligations.{all_notes, end_frame, is_library_method, lose, noted_object}
use Rattle.ledger_steps.specs.CallSteps.{began_heap, library_heap, self_begun}
use Rattle.ledger_steps.specs.Conducts.{arguments_shared, conduct_value, positions}
use Rattle.ledger_steps.specs.Ends.{answered, exception_class, frame_gone, result_value, returned_called, returned_heap, returned_roots, thrown_in}
use Rattle.ledger_steps.specs.InnerSteps.{heap_stored, store_of, thrown_value, with_exception}
use Rattle.ledger_steps.specs.LedgerCallsCalls.{alias_position, alias_target, argument_values, begun, form_of, object_by, operand_of, position_object, position_of, receiver_note, reset_position}
use Rattle.covering_laws.specs.Accept.{Accept}
use Rattle.covering_laws.specs.Agreement.{Agree, AllStand, HasMadeClasses, IsCalledFrom, IsMadeByNew, IsStacked, RunsItself, Stands, WaitsFor}
use Rattle.covering_laws.specs.Choosing.{frame_steps}
use Rattle.covering_laws.specs.ClassOperands.{IsNotAboveString}
use Rattle.covering_laws.specs.ClassValues.{FrameFitsClass, FramesFitClass, HaveClasses}
use Rattle.covering_laws.specs.Configuration.{Config, Frame, held_by}
use Rattle.covering_laws.specs.FieldContents.{FieldsHold, IsBeingMade, is_new}
use Rattle.covering_laws.specs.Making.{AreBeingMade}
use Rattle.covering_laws.specs.Frames.{HaveTargets}
use Rattle.covering_laws.specs.Heaps.{GoesOn, HasEarlierLinks}
use Rattle.covering_laws.specs.LedgerFramesFrames.{frame_after}
use Rattle.covering_laws.specs.LedgerRunsOutcomes.{ended, stray, went}
use Rattle.covering_laws.specs.LedgerRunsSteps.{began, end, library_went, main_ended, moved, moved_by, returned, returned_by, step, top_move, within}
use Rattle.covering_laws.specs.LibraryCalls.{IsAliasMadeAs, IsAliasOf, IsMadeAs}
use Rattle.covering_laws.specs.LibraryClasses.{HasLightTexts}
use Rattle.covering_laws.specs.Linking.{GivesClass, IsAliased, IsAliasedAs, LinksReachAliased}
use Rattle.covering_laws.specs.Moves.{Back, End, Inner, Library, Move, NoWay, Rest, Return, Start, Stray, StrayBack, fits_target, return_move}
use Rattle.covering_laws.specs.Nexts.{IsBack, IsBackStep, IsConstantRead, IsInnerStep, IsLibraryMove, IsNext, IsNullCall, IsOwningStore, IsPlainStep}
use Rattle.covering_laws.specs.Objects.{KeepsClasses, object_class}
use Rattle.covering_laws.specs.Operations.{made_value, next_choice}
use Rattle.covering_laws.specs.PlainForms.{HasPlainForms}
use Rattle.covering_laws.specs.ProgramCalls as program_calls
use Rattle.covering_laws.specs.Ranges.{AreInRange, FieldsInRange}
use Rattle.covering_laws.specs.Results.{is_result_under}
use Rattle.covering_laws.specs.Naming.{IsOfItsKind}
use Rattle.covering_laws.specs.Paths.{move_of}
use Rattle.covering_laws.specs.Places.{class_of_method}
use Rattle.covering_laws.specs.Starts.{start_config}
use Rattle.covering_laws.proofs.AliasConducts.{GivesAlias, GivesObject, gives_object, library_gives}
use Rattle.covering_laws.proofs.Bodies.{running_method}
use Rattle.covering_laws.proofs.CallWays.{one_action}
use Rattle.covering_laws.proofs.Cases.{next_is, same_class}
use Rattle.covering_laws.proofs.GivenAliases.{library_class}
use Rattle.covering_laws.proofs.LightExceptions.{under_itself}
use Rattle.covering_laws.proofs.NamedReached.{names_what_is_there}
use Rattle.covering_laws.proofs.Unmet.{call_may, row_of}
use Rattle.covering_laws.proofs.HeapLaws.{notes_add_names-object}
use Rattle.covering_laws.proofs.InnerSteps as inner_steps
use Rattle.covering_laws.proofs.LibraryCallLaws.{any_library_aliases_are_older_or_made, any_library_objects_are_older_or_made}
use Rattle.covering_laws.proofs.LinkedExceptions.{LinkedWere}
use Rattle.covering_laws.proofs.LocalSteps.{local_step}
use Rattle.covering_laws.proofs.Lost.{frame_linked, lost_linked}
use Rattle.covering_laws.proofs.NullCalls.{thrown_linked}
use Rattle.covering_laws.proofs.ObjectClasses.{inner_keeps, library_keeps, main_keeps, returned_keeps, started_keeps}
use Rattle.covering_laws.proofs.ObjectLaws.{goes_on_further}
use Rattle.covering_laws.proofs.Ready.{plain_step, row_sets, step_here, step_there}
use Rattle.covering_laws.proofs.TopSteps.{IsLocalStep}
use Rattle.covering_laws.proofs.EndHeaps.{number_value, same_new}
use Rattle.covering_laws.proofs.EndResets.{plain_alias_position, renewed_at_end}
use Rattle.covering_laws.proofs.ResetHeaps.{reset_was}
use Rattle.covering_laws.proofs.Renewed.{says_nothing, without_reset}
use Rattle.covering_laws.proofs.Returned.{end_back, gone_back, result_back}
use Rattle.covering_laws.proofs.Returns.{back_is}
use Rattle.covering_laws.proofs.StartHeaps.{start_linked}
use Rattle.covering_laws.proofs.ClassArguments.{target_is_instance}
use Rattle.content_laws.proofs.InSight.{aliased_operand}
use Rattle.content_laws.proofs.StoredLinks.{stored_were}

-- ---- links

-- the object was there, of this class
abbrev WasThere : HeapContents → ℕ → Object → Type 0
WasThere h n y = (x : Object) × (object_at h n ≡ Some x) × (y.class ≡ x.class)

-- the link leads to an object of a class of which some method gives aliases of this object's class
abbrev LeadsToAliased : Program → HeapContents → Object → Link → Type 0
LeadsToAliased p h y l = (e : ClassId) × (object_class h l.to ≡ Some e) × IsAliasedAs p y.class l.by_library e

-- a link is one that was, or leads so
abbrev IsLinkFrom : Program → HeapContents → ℕ → Object → Link → Type 0
IsLinkFrom p h n y l = ((x : Object) × (object_at h n ≡ Some x) × (x.link ≡ Some l) × (y.class ≡ x.class)) ⊎ LeadsToAliased p h y l

abbrev LinksComeFrom : Program → HeapContents → HeapContents → Type 0
LinksComeFrom p h k = (n : ℕ) (y : Object) (l : Link) → object_at k n ≡ Some y → y.link ≡ Some l → IsLinkFrom p h n y l

come_from : (p : Program) (h k : HeapContents) → LinkedWere h k → LinksComeFrom p h k
come_from p h k were n y l at link = let x = were n y l at link in inl (x.0, x.1, x.2, x.3)

of_same_class : (p : Program) (x y : Object) (l : Link) (e : ClassId) → y.class ≡ x.class → IsAliasedAs p x.class l.by_library e → IsAliasedAs p y.class l.by_library e
of_same_class p x y l e same as' = subst (λ (c : ClassId). IsAliasedAs p c l.by_library e) (sym same) as'

come_further : (p : Program) (h k j : HeapContents) → LinkedWere k j → LinksComeFrom p h k → LinksComeFrom p h j
come_further p h k j were from n y l at link =
    let x = were n y l at link in
    elim (from n x.0 l x.1 x.2) [
      | inl was ↦ inl (was.0, was.1, was.2, x.3 ∙ was.3)
      | inr new ↦ inr (new.0, new.1, of_same_class p x.0 y l new.0 x.3 new.2)
    ]

reach_on : (p : Program) (h k : HeapContents) → KeepsClasses h k → LinksComeFrom p h k → LinksReachAliased p h → LinksReachAliased p k
reach_on p h k keeps from reached n y l at link = elim (from n y l at link) [
  | inl was ↦ (let g = reached n was.0 l was.1 was.2 in (g.0, keeps l.to g.0 g.1, of_same_class p was.0 y l g.0 was.3 g.2))
  | inr new ↦ (new.0, keeps l.to new.0 new.1, new.2)
]

-- what a method gives aliases of, of a class that it gives
aliased_as : (p : Program) (m : Method) (c e : ClassId) (by_library : Bool) → GivesClass p m c → is_library p c ≡ by_library → (g : IsAliased p e) × (g.method ≡ m) → IsAliasedAs p c by_library e
aliased_as p m c e by_library gives library (g, same) = record { argument = g; class = subst (λ (z : Method). GivesClass p z c) (sym same) gives; library = library }

-- ---- the end of a call

module _ (p : Program) (at : ℕ) (self : Value) (l : Locals) (a : Action) (runs named : Option Method) (v : Value) (e : Option ClassId) (h : HeapContents) (no_reset : reset_position named ≡ None) where
  abbrev gone : HeapContents
  gone = frame_gone p at self runs v e h

  -- an object of the heap when the frame has gone was there before
  was_there : (n : ℕ) (x : Object) → object_at gone n ≡ Some x → (z : Object) × (object_at h n ≡ Some z) × GoesOn z x
  was_there n x now =
      let y = gone_back p at self runs v e h n x now in
      let old = result_back p at runs v h e n y.0 y.1 in
      (old.before, old.at, goes_on_further old.before y.0 x old.goes_on y.2)

  noted_on : (n : ℕ) (x y : Object) → noted_object (all_notes p gone (receiver_note l a named)) n x ≡ y → GoesOn x y
  noted_on n x y same = subst (GoesOn x) same (notes_add_names-object (all_notes p gone (receiver_note l a named)) n x)

  -- a link is one that was, or that of the object of a `new` to the argument
  abbrev IsEndLink : ℕ → Object → Link → Type 0
  IsEndLink n y k = ((x : Object) × (object_at h n ≡ Some x) × (x.link ≡ Some k) × (y.class ≡ x.class))
      ⊎ ((program_calls.is_new a ≡ true) × (alias_target (operand_of l a) named ≡ Some k.to) × (k.by_library ≡ false) × (self ≡ values.Object n) × ((x : Object) × (object_at h n ≡ Some x) × (y.class ≡ x.class)))

  end_link : (n : ℕ) (y : Object) (k : Link) → object_at (returned_heap p at self l a runs named v e h) n ≡ Some y → y.link ≡ Some k → IsEndLink n y k
  end_link n y k now some = elim (end_back p at self l a named gone no_reset e n y now) [
    | inl made ↦ (let z = was_there n made.0 made.1 in inl (z.0, z.1, sym (made.2.link ∙ z.2.link) ∙ some, made.2.class ∙ z.2.class))
    | inr other ↦ elim other [
      | inl alias ↦ (let z = was_there n alias.0 alias.1 in by_target z.0 alias.0 z.1 z.2 alias.2.new (number_value self n alias.2.self) alias.2.class (alias_target (operand_of l a) named) refl alias.2.linked)
      | inr noted ↦ (let z = was_there n noted.0 noted.1 in
          let all = goes_on_further z.0 noted.0 y z.2 (noted_on n noted.0 y noted.2) in
          inl (z.0, z.1, sym all.link ∙ some, all.class))
    ]
  ]
    where
      by_target : (z x : Object) → object_at h n ≡ Some z → GoesOn z x → program_calls.is_new a ≡ true → self ≡ values.Object n → y.class ≡ x.class → (o : Option ℕ) → alias_target (operand_of l a) named ≡ o → program_calls.IsLinkedTo p o x y
          → IsEndLink n y k
      by_target z x there goes new this class None to linked = inl (z, there, sym (linked.2 ∙ goes.link) ∙ some, class ∙ goes.class)
      by_target z x there goes new this class (Some w) to linked =
          let both : Some (record { to = w; by_library = false }) ≡ Some k = sym linked.2 ∙ some in
          let same : w ≡ k.to = ap to_of both in
          inr (new, to ∙ ap Some same, ap by_of (sym both), this, (z, there, class ∙ goes.class))
        where
          to_of : Option Link → ℕ
          to_of None = 0
          to_of (Some m) = m.to

          by_of : Option Link → Bool
          by_of None = false
          by_of (Some m) = m.by_library

-- so it is where the call creates an obligation anew
module _ (p : Program) (at : ℕ) (self : Value) (l : Locals) (a : Action) (runs named : Option Method) (v : Value) (e : Option ClassId) (h : HeapContents) (links : HasEarlierLinks h)
    (making : (w : ℕ) (x : Object) → is_new a ≡ true → self ≡ values.Object w → object_at h w ≡ Some x → x.finished ≡ false) where
  abbrev as_gone : HeapContents
  as_gone = frame_gone p at self runs v e h

  -- the object of a `new` is not finished, and linked to none
  made_free : (w : ℕ) (x : Object) → program_calls.is_new a ≡ true → number_of self ≡ Some w → object_at as_gone w ≡ Some x → (x.finished ≡ false) × (x.link ≡ None)
  made_free w x new is now =
      let z = was_there p at self l a runs (without_reset named) v e h (says_nothing named) w x now in
      let unready = making w z.0 (same_new a new) (number_value self w is) z.1 in
      (z.2.finished ∙ unready, z.2.link ∙ unlinked z.0 z.1 unready)
    where
      unlinked : (z : Object) → object_at h w ≡ Some z → z.finished ≡ false → z.link ≡ None
      unlinked z there unready = go z.link refl
        where
          go : (k : Option Link) → z.link ≡ k → z.link ≡ None
          go None none = none
          go (Some k) some = absurd (true≢false (sym (links w z k there some).finished ∙ unready))

  any_end_link : (n : ℕ) (y : Object) (k : Link) → object_at (returned_heap p at self l a runs named v e h) n ≡ Some y → y.link ≡ Some k
      → ((x : Object) × (object_at h n ≡ Some x) × (x.link ≡ Some k) × (y.class ≡ x.class))
      ⊎ ((program_calls.is_new a ≡ true) × (alias_target (operand_of l a) named ≡ Some k.to) × (k.by_library ≡ false) × (self ≡ values.Object n) × ((x : Object) × (object_at h n ≡ Some x) × (y.class ≡ x.class)))
  any_end_link n y k now some =
      let z = reset_was p (returned_called p l a named as_gone) (returned_roots p l a named as_gone) (returned_heap p at self l a runs (without_reset named) v e h) (returned_heap p at self l a runs named v e h)
      (renewed_at_end p at self l a named e as_gone made_free) n y now in
      elim (end_link p at self l a runs (without_reset named) v e h (says_nothing named) n z.0 k z.1 (sym z.3 ∙ some)) [
        | inl was ↦ inl (was.0, was.1, was.2, z.2 ∙ was.3)
        | inr new ↦ inr (new.0, ap (object_by (operand_of l a)) (sym (plain_alias_position named)) ∙ new.1, new.2, new.3, (new.4.0, new.4.1, z.2 ∙ new.4.2))
      ]

-- ---- a step

same_went : (c d : Config) → went c ≡ went d → c ≡ d
same_went c d is = cc

-- a read has no operands
no_operand : (l : Locals) (a : Action) (k w : ℕ) → IsConstantRead a → number_of (operand_of l a k) ≡ Some w → ⊥
no_operand l actions.Skip k w read is = read
no_operand l (actions.Plain q (plain_values.LibraryConstant m)) k w read is = go (nat_lt k 4294967296) is
  where
    go : (b : Bool) → number_of (temp_in l (if b then None else None)) ≡ Some w → ⊥
    go true none = let never : None ≡ Some w = none in cc
    go false none = let never : None ≡ Some w = none in cc
no_operand l (actions.Plain q v) k w read is = read
no_operand l a k w read is = read

-- the object of a `new` has no receiver
free_target : (p : Program) (h : HeapContents) (m : Option Method) (a : Action) (v : Value) → program_calls.is_new a ≡ true → fits_target p h [] m (form_of a) v ≡ true
free_target p h m actions.Skip v new = absurd (true≢false (sym new))
free_target p h m (actions.New k d n) v new = refl
free_target p h m a v new = absurd (true≢false (sym new))

-- ---- the class of an alias

-- what a method of the library gives as an alias is of a class of the library
given_library : (p : Program) (m : Method) (e : ClassId) → GivesClass p m e → is_library p m.class ≡ true → is_library p e ≡ true
given_library p m e (inl own) library = ap (is_library p) own.1 ∙ library
given_library p m e (inr (c, result, heavy, under, own)) library = own

under_further : (p : Program) (c d e : ClassId) → IsUnder p c d → IsUnder p d e → IsUnder p c e
under_further p c d e (itself same) rest = rest
under_further p c d e (above x y z direct more) rest = above x y e direct (under_further p y z e more rest)

-- a result of a class may stand for one of a class above it alone
under_result : (p : Program) → Accept p → (c d : ClassId) → is_result_under p (Some (types.Obj c)) (Some (types.Obj d)) ≡ true → is_under p c d ≡ true
under_result p ac c d is = go (is_class c d) refl is
  where
    go : (b : Bool) → is_class c d ≡ b → (b || is_under p c d) ≡ true → is_under p c d ≡ true
    go true same under = subst (λ (e : ClassId). is_under p c e ≡ true) (same_class c d same) (under_itself p ac c)
    go false same under = under

-- what the method that answers gives as an alias, the method that the call names gives
given_by_named : (p : Program) → Accept p → (named : MethodId) (n : Method) → method_at p named ≡ Some n → (j : ℕ) → n.sig.alias ≡ Some j → (r : Method) (e : ClassId) → is_instance_kind n.kind ≡ true
    → is_constructor_kind r.kind ≡ is_constructor_kind n.kind → is_result_under p r.sig.result n.sig.result ≡ true → GivesClass p r e → GivesClass p n e
given_by_named p ac named n at j alias r e instance makes under gives = by gives (gives_object p ac.well_formed named n at j alias)
  where
    no_constructor : is_constructor_kind n.kind ≡ true → ⊥
    no_constructor made = go n.kind instance made
      where
        go : (k : MethodKind) → is_instance_kind k ≡ true → is_constructor_kind k ≡ true → ⊥
        go methods.Instance of made' = true≢false (sym made')
        go k of made' = true≢false (sym of)

    over : (c d : ClassId) → r.sig.result ≡ Some (types.Obj c) → n.sig.result ≡ Some (types.Obj d) → is_under p c d ≡ true
    over c d result wanted = under_result p ac c d (ap (λ (z : Option VType). is_result_under p (Some (types.Obj c)) z) (sym wanted) ∙ ap (λ (z : Option VType). is_result_under p z n.sig.result) (sym result) ∙ under)

    further : (c d : ClassId) → (e ≡ c) ⊎ (is_under p e c ≡ true) → is_under p c d ≡ true → is_under p e d ≡ true
    further c d (inl same) under' = ap (λ (z : ClassId). is_under p z d) same ∙ under'
    further c d (inr below) under' =
        let law = is_under_law p ac.well_formed.valid.typed.hierarchy in (law e d).1 (under_further p e c d ((law e c).0 below) ((law c d).0 under'))

    by : GivesClass p r e → GivesObject p n → GivesClass p n e
    by (inl own) object = absurd (no_constructor (sym makes ∙ own.0))
    by given (inl own) = absurd (no_constructor own.0)
    by (inr (c, result, heavy, of, library)) (inr (none, (d, wanted, heavy'))) = inr (d, wanted, heavy', inr (further c d of (over c d result wanted)), library)

-- the object that a `new` makes is of the class of the constructor, which is one of the program
module _ (p : Program) (ac : Accept p) (forms : HasPlainForms p) (h : HeapContents) (fr caller : Frame) (st : Stands p fr) (below : Stands p caller) (w : WaitsFor p h caller fr) (named : MethodId) (same : named ≡ w.named) (e : Option ClassId) (t : Step)
    (back : IsBackStep p (frame_steps p caller) e named t) where
  same_action : t.action ≡ w.step.action
  same_action = one_action p below.number caller.control w.index back.index w.step t (step_here p caller below w.index w.step w.here) (step_here p caller below back.index t back.here) (call_may w.step.action (row_of w.step.action w.named w.calls))

  of_kind : IsOfItsKind p t.action
  of_kind = (names_what_is_there p ac.well_formed.valid.typed below.number below.body caller.control back.index (move_of t) below.at below.control (step_there p caller below back.index t back.here)).1

  made_as : (m : Method) → method_at p named ≡ Some m → is_new t.action ≡ true → (n : ℕ) (x : Object) → fr.locals.this ≡ values.Object n → object_at h n ≡ Some x → (x.class ≡ m.class) × (is_constructor_kind m.kind ≡ true) × (is_library p m.class ≡ false)
  made_as m named_at new n x this there = go t.action refl new (subst (λ (a : Action). IsMadeByNew p h a fr.locals.this) (sym same_action) w.makes) (subst (λ (a : Action). RunsItself a w.named fr.method) (sym same_action) w.itself)
    where
      go : (a : Action) → t.action ≡ a → is_new a ≡ true → IsMadeByNew p h a fr.locals.this → RunsItself a w.named fr.method → (x.class ≡ m.class) × (is_constructor_kind m.kind ≡ true) × (is_library p m.class ≡ false)
      go actions.Skip is one made itself' = absurd (true≢false (sym one))
      go (actions.New m' d n') is one made itself' =
          let m_is : m' ≡ named = (let both : Some m' ≡ Some named = ap called_method (sym is) ∙ back.calls in cc) in
          let number : made.0 ≡ n = (let both : values.Object made.0 ≡ values.Object n = sym made.1 ∙ this in cc) in
          let class : Some m.class ≡ Some x.class = sym (ap class_of_method named_at) ∙ ap (λ (z : MethodId). class_of_method (method_at p z)) (sym m_is) ∙ made.3 x (ap (object_at h) number ∙ there) in
          let run = running_method p ac fr st in
          let one_method : run.0 ≡ m = (let both : Some run.0 ≡ Some m = sym run.1 ∙ ap (method_at p) (itself' ∙ sym same) ∙ named_at in cc) in (
            (let one' : x.class ≡ m.class = cc in one'),
            sym (ap constructs named_at) ∙ ap (λ (z : MethodId). constructs (method_at p z)) (sym m_is) ∙ subst (IsOfItsKind p) is of_kind,
            ap (λ (z : Method). is_library p z.class) (sym one_method) ∙ run.2,
          )
      go a is one made itself' = absurd (true≢false (sym one))

module _ (p : Program) (ac : Accept p) (forms : HasPlainForms p) (light : HasLightTexts p) (c d : Config) (links : HasEarlierLinks c.heap) (ranges : FieldsInRange c.heap) (reached : LinksReachAliased p c.heap) where
  abbrev h : HeapContents
  h = c.heap

  carried : (x : Config) → went x ≡ went d → LinksReachAliased p x.heap → LinksReachAliased p d.heap
  carried x is reach = subst (λ (y : Config). LinksReachAliased p y.heap) (same_went x d is) reach

  module _ (fr : Frame) (frs : List Frame) (st : Stands p fr) (standing : AllStand p frs) (stacked : IsCalledFrom p h fr frs) (hold : FieldsHold p (fr ∷ frs) h) (keeps : (bound : ClassId) → IsNotAboveString p bound → FrameFitsClass p bound h fr) where
    module _ (e : Option ClassId) (s : Step) (i : ℕ) (here : slice_get (frame_steps p fr) i ≡ Some s) where
      abbrev made : Value
      made = made_value p h c.arrays c.statics (next_choice c.choices c.used) fr.locals s.action

      -- what the frames hold after the step, where it throws an exception of this class, if any
      abbrev held : Option ClassId → List (List Value)
      held x = held_by (frame_after p h fr s (thrown_value h x made) ∷ frs)

      module _ (next : IsPlainStep p h c.arrays fr.method fr.locals e s) where
        its : IsLocalStep p fr st s
        its = local_step p ac forms fr st i s here (row_sets p s.action (plain_step p ac forms fr st i s here) next.row) next.way

        abbrev plain_heap : HeapContents
        plain_heap = inner_steps.heap p ac forms h links fr st i s here its next.row next.test e made

        plain_from : LinksComeFrom p h (within p c fr frs e s).heap
        plain_from = come_further p h plain_heap (lose (held e) plain_heap) (lost_linked p plain_heap (held e)) (come_from p h plain_heap (inner_steps.linked_were p ac forms h links fr st i s here its next.row next.test e made))

      null_from : IsNullCall p fr.locals e s → LinksComeFrom p h (within p c fr frs e s).heap
      null_from next = subst (λ (x : Option ClassId). LinksComeFrom p h (within p c fr frs x s).heap) (sym next.thrown)
          (come_further p h (with_exception p p.core.null_pointer_exception h) (lose (held (Some p.core.null_pointer_exception)) (with_exception p p.core.null_pointer_exception h))
          (lost_linked p (with_exception p p.core.null_pointer_exception h) (held (Some p.core.null_pointer_exception)))
          (come_from p h (with_exception p p.core.null_pointer_exception h) (thrown_linked p h links p.core.null_pointer_exception)))

      module _ (next : IsOwningStore e s) where
        abbrev stored_heap : HeapContents
        stored_heap = heap_stored p (method_at p fr.method) fr.locals (store_of fr.locals s.action) h

        store_from : LinksComeFrom p h (within p c fr frs e s).heap
        store_from = subst (λ (x : Option ClassId). LinksComeFrom p h (within p c fr frs x s).heap) (sym next.normal)
            (come_further p h stored_heap (lose (held None) stored_heap) (lost_linked p stored_heap (held None))
            (come_from p h stored_heap (stored_were p h (method_at p fr.method) fr.locals (store_of fr.locals s.action))))

      inner_from : IsInnerStep p h c.arrays fr.method fr.locals e s → LinksComeFrom p h (within p c fr frs e s).heap
      inner_from next = elim next [
        | inl plain ↦ plain_from plain
        | inr more ↦ elim more [ inl null ↦ null_from null | inr store ↦ store_from store ]
      ]

      inner_reach : IsInnerStep p h c.arrays fr.method fr.locals e s → LinksReachAliased p (within p c fr frs e s).heap
      inner_reach next = reach_on p h (within p c fr frs e s).heap (inner_keeps p h fr.method fr.locals e s.action s.pos (held e)) (inner_from next) reached

    -- ---- calls

    module _ (named runs : MethodId) (a : Action) (pos : Pos) where
      abbrev all : List Frame
      all = begun p runs (self_begun fr.locals a h) (argument_values fr.locals a (method_at p named)) ∷ fr ∷ frs

      abbrev begun_heap : HeapContents
      begun_heap = began_heap p fr.locals a (method_at p named) (length all) h

      began_reach : LinksReachAliased p (began p c fr frs named runs a pos).heap
      began_reach =
          reach_on p h (began p c fr frs named runs a pos).heap (started_keeps p h fr.locals a (method_at p named) (length all) pos (held_by all))
          (come_further p h begun_heap (lose (held_by all) begun_heap) (lost_linked p begun_heap (held_by all)) (come_from p h begun_heap (start_linked p fr.locals a (method_at p named) (length all) h links))) reached

    module _ (named m : MethodId) (x : Conduct) (s : Step) (next : IsLibraryMove p h c.arrays fr.locals (frame_steps p fr) named m x s) where
      abbrev left : HeapContents
      left = library_heap p fr.locals s.action (method_at p named) (method_at p m) x (length frs + 1) h

      -- the signature that the call names gives an alias of the same position
      same_alias : (j : ℕ) → alias_position (method_at p m) ≡ Some j → alias_position (method_at p named) ≡ Some j
      same_alias j some = elim next.answers [
        | inl same ↦ ap (λ (z : MethodId). alias_position (method_at p z)) (sym same) ∙ some
        | inr other ↦ ap alias_position other.named_at ∙ (sym other.fit.alias ∙ (sym (ap alias_position other.running_at) ∙ some))
      ]

      same_operand : (j : ℕ) → position_object (position_of None fr.locals s.action) j ≡ number_of (operand_of fr.locals s.action j)
      same_operand zero = refl
      same_operand (suc j) = refl

      -- the class of what the library makes as an alias, by the method that answers
      answered_class : (j : ℕ) (e : ClassId) → x ≡ conducts.Fresh e → (r : Method) → method_at p m ≡ Some r → r.sig.alias ≡ Some j → GivesClass p r e
      answered_class j e is r at alias =
          library_class p forms m r e at (ap (is_library_method p) (sym at) ∙ next.library) (subst (GivesAlias p r) (sym next.by.1 ∙ is)
          (library_gives p r j alias (gives_object p ac.well_formed m r at j alias) h c.arrays m at next.by.0 (position_of None fr.locals s.action) s.action (next.other e is)))

      -- and by the one that the call names
      named_class : (n : Method) → method_at p named ≡ Some n → (j : ℕ) → n.sig.alias ≡ Some j → (e : ClassId) → x ≡ conducts.Fresh e → GivesClass p n e × (is_library p e ≡ true)
      named_class n named_at j alias e is = elim next.answers [
        | inl same ↦ (let at : method_at p m ≡ Some n = ap (method_at p) same ∙ named_at in
            let gives = answered_class j e is n at alias in
            (gives, given_library p n e gives (ap (is_library_method p) (sym at) ∙ next.library)))
        | inr other ↦ (let one : other.method ≡ n = (let both : Some other.method ≡ Some n = sym other.named_at ∙ named_at in cc) in
            let its : other.running.sig.alias ≡ Some j = other.fit.alias ∙ ap (λ (z : Method). z.sig.alias) one ∙ alias in
            let gives = answered_class j e is other.running other.running_at its in (
              given_by_named p ac named n named_at j alias other.running e (ap (λ (z : Method). is_instance_kind z.kind) (sym one) ∙ ap is_instance_kind other.kind)
                  (other.fit.makes ∙ ap (λ (z : Method). is_constructor_kind z.kind) one) (ap (λ (z : Method). is_result_under p other.running.sig.result z.sig.result) (sym one) ∙ other.result) gives,
              given_library p other.running e gives (ap (is_library_method p) (sym other.running_at) ∙ next.library),
            ))
      ]

      operand_reach : (n : Method) → method_at p named ≡ Some n → (j w : ℕ) → n.sig.alias ≡ Some j → number_of (operand_of fr.locals s.action j) ≡ Some w → (e : ClassId) × (object_class h w ≡ Some e) × (g : IsAliased p e) × (g.method ≡ n)
      operand_reach n named_at j w is number = elim next.row [
        | inl call ↦ aliased_operand p ac light h fr keeps next.index s named n j w next.here call.1 named_at (target_is_instance p h c.arrays fr.locals s.action (method_at p named) (next.ran call.1).1) is number
        | inr read ↦ absurd (no_operand fr.locals s.action j w read number)
      ]

      made_link : (j : ℕ) → alias_position (method_at p m) ≡ Some j → (f : Conduct) → x ≡ f → (y : Object) (l : Link) → IsAliasMadeAs fr.locals s.action j f y → y.link ≡ Some l → LeadsToAliased p h y l
      made_link j some (conducts.Throws e) same y l is link = absurd (let never : None ≡ Some l = sym is.1 ∙ link in cc)
      made_link j some (conducts.Fresh e) same y l is link = by_method (method_at p named) refl (same_alias j some)
        where
          to_of : Option Link → ℕ
          to_of None = 0
          to_of (Some z) = z.to

          by_of : Option Link → Bool
          by_of None = true
          by_of (Some z) = z.by_library

          go : (n : Method) → method_at p named ≡ Some n → n.sig.alias ≡ Some j → (o : Option ℕ) → position_object (position_of None fr.locals s.action) j ≡ o → IsAliasOf o y → LeadsToAliased p h y l
          go n named_at alias None to none = absurd (let never : None ≡ Some l = sym none.2 ∙ link in cc)
          go n named_at alias (Some w) to given =
              let both : Some (record { to = w; by_library = true }) ≡ Some l = sym given.1 ∙ link in
              let gives = named_class n named_at j alias e same in
              let its = operand_reach n named_at j w alias (sym (same_operand j) ∙ to) in (
                its.0,
                ap (object_class h) (sym (ap to_of both)) ∙ its.1,
                aliased_as p n y.class its.0 l.by_library (subst (GivesClass p n) (sym is.0) gives.0) (ap (is_library p) is.0 ∙ gives.1 ∙ ap by_of both) (its.2, its.3),
              )

          by_method : (o : Option Method) → method_at p named ≡ o → alias_position o ≡ Some j → LeadsToAliased p h y l
          by_method None named_at none = absurd (let never : None ≡ Some j = none in cc)
          by_method (Some n) named_at alias = go n named_at alias (position_object (position_of None fr.locals s.action) j) refl is.2
      made_link j some (conducts.Existing i) same y l is link = absurd is
      made_link j some conducts.Argument same y l is link = absurd is
      made_link j some (conducts.Value z) same y l is link = absurd is
      made_link j some conducts.Null same y l is link = absurd is
      made_link j some conducts.Nothing same y l is link = absurd is

      unlinked_as : (f : Conduct) (y : Object) (l : Link) → IsMadeAs p s.action (method_at p m) (length frs + 1) f y → y.link ≡ Some l → ⊥
      unlinked_as (conducts.Throws e) y l is link = let never : None ≡ Some l = sym is.1 ∙ link in cc
      unlinked_as (conducts.Fresh e) y l is link = let never : None ≡ Some l = sym is.3 ∙ link in cc
      unlinked_as (conducts.Existing i) y l is link = is
      unlinked_as conducts.Argument y l is link = is
      unlinked_as (conducts.Value z) y l is link = is
      unlinked_as conducts.Null y l is link = is
      unlinked_as conducts.Nothing y l is link = is

      library_from : LinksComeFrom p h left
      library_from n y l at link = by (alias_position (method_at p m)) refl
        where
          by : (o : Option ℕ) → alias_position (method_at p m) ≡ o → IsLinkFrom p h n y l
          by None none = elim (any_library_objects_are_older_or_made p fr.locals s.action (method_at p named) (method_at p m) x (length frs + 1) h n y none at) [
            | inl old ↦ inl (old.before, old.at, sym old.goes_on.link ∙ link, old.goes_on.class)
            | inr new ↦ absurd (unlinked_as x y l new.1 link)
          ]
          by (Some j) some = elim (any_library_aliases_are_older_or_made p fr.locals s.action (method_at p named) (method_at p m) x (length frs + 1) h n j y some at) [
            | inl old ↦ inl (old.before, old.at, sym old.goes_on.link ∙ link, old.goes_on.class)
            | inr new ↦ inr (made_link j some x refl y l new.1 link)
          ]

      abbrev held_then : List (List Value)
      held_then = held_by (frame_after p h fr s (conduct_value (length (arguments_shared c.arrays fr.locals s.action (method_at p named))) (method_at p m) (positions fr.locals s.action (next_number h) x) (next_number h) x) ∷ frs)

      library_reach : LinksReachAliased p (library_went p c fr frs named m x s).heap
      library_reach =
          reach_on p h (library_went p c fr frs named m x s).heap (library_keeps p h fr.locals s.action (method_at p named) (method_at p m) (length frs + 1) s.pos held_then x)
          (come_further p h left (lose held_then left) (lost_linked p left held_then) library_from) reached

  -- ---- ends

  module _ (fr caller : Frame) (rest : List Frame) (st : Stands p fr) (below : Stands p caller) (w : WaitsFor p h caller fr) (keeps : (bound : ClassId) → IsNotAboveString p bound → FrameFitsClass p bound h caller) (q : Completion) (pos : Pos) (named : MethodId) (t : Step)
      (same : named ≡ w.named) (back : IsBackStep p (frame_steps p caller) (exception_class p h (thrown_in fr.locals q)) named t) (making : IsBeingMade p h fr caller) where
    abbrev e : Option ClassId
    e = exception_class p h (thrown_in fr.locals q)

    abbrev v : Value
    v = result_value fr.locals (method_at p fr.method) q

    abbrev left_then : HeapContents
    left_then = returned_heap p (length rest + 1) fr.locals.this caller.locals t.action (method_at p fr.method) (method_at p named) v e h

    abbrev held_after : List (List Value)
    held_after = held_by (frame_after p h caller t (answered fr.locals.this t.action v e) ∷ rest)

    end_from : LinksComeFrom p h left_then
    end_from n y l at link = elim (any_end_link p (length rest + 1) fr.locals.this caller.locals t.action (method_at p fr.method) (method_at p named) v e h links (λ w x new this there. making back.index t w x back.here new this there) n y l at link) [
      | inl was ↦ inl was
      | inr new ↦ inr (by_method (method_at p named) refl new.0 new.1 new.2 new.3 new.4)
    ]
      where
        by_position : (m : Method) → method_at p named ≡ Some m → program_calls.is_new t.action ≡ true → (o : Option ℕ) → m.sig.alias ≡ o → object_by (operand_of caller.locals t.action) o ≡ Some l.to → l.by_library ≡ false → fr.locals.this ≡ values.Object n → WasThere h n y
            → LeadsToAliased p h y l
        by_position m named_at new None alias none program this old = absurd (let never : None ≡ Some l.to = none in cc)
        by_position m named_at new (Some j) alias number program this (x, there, class) =
            let its = aliased_operand p ac light h caller keeps back.index t named m j l.to back.here back.calls named_at
            (target_is_instance p h [] caller.locals t.action (method_at p named) (free_target p h (method_at p named) t.action (operand_of caller.locals t.action 0) new)) alias number in
            let made = made_as p ac forms h fr caller st below w named same (exception_class p h (thrown_in fr.locals q)) t back m named_at (same_new t.action new) n x this there in
            (its.0, its.1, aliased_as p m y.class its.0 l.by_library (inl (made.1, class ∙ made.0)) (ap (is_library p) (class ∙ made.0) ∙ made.2 ∙ sym program) (its.2, its.3))

        by_method : (o : Option Method) → method_at p named ≡ o → program_calls.is_new t.action ≡ true → alias_target (operand_of caller.locals t.action) o ≡ Some l.to → l.by_library ≡ false → fr.locals.this ≡ values.Object n → WasThere h n y → LeadsToAliased p h y l
        by_method None named_at new none program this old = absurd (let never : None ≡ Some l.to = none in cc)
        by_method (Some m) named_at new to program this old = by_position m named_at new m.sig.alias refl to program this old

    returned_reach : LinksReachAliased p (returned p c fr caller rest pos q e named t).heap
    returned_reach =
        reach_on p h (returned p c fr caller rest pos q e named t).heap
        (returned_keeps p h (length rest + 1) fr.locals.this caller.locals t.action (method_at p fr.method) (method_at p named) v e pos t.pos held_after)
        (come_further p h left_then (lose held_after left_then) (lost_linked p left_then held_after) end_from) reached

  module _ (fr caller : Frame) (rest : List Frame) (st : Stands p fr) (below : Stands p caller) (w : WaitsFor p h caller fr) (making : IsBeingMade p h fr caller) (keeps : (bound : ClassId) → IsNotAboveString p bound → FrameFitsClass p bound h caller) (q : Completion) (pos : Pos) where
    back_reach : (r : Return) → IsBack p (frame_steps p caller) (exception_class p h (thrown_in fr.locals q)) w.named r → returned_by p c fr caller rest pos q r ≡ went d → LinksReachAliased p d.heap
    back_reach (Back x named t) back same = carried (returned p c fr caller rest pos q x named t) same
        (subst (λ (z : Option ClassId). LinksReachAliased p (returned p c fr caller rest pos q z named t).heap) (sym back.0)
        (returned_reach fr caller rest st below w keeps q pos named t back.1 step' making))
      where
        step' : IsBackStep p (frame_steps p caller) (exception_class p h (thrown_in fr.locals q)) named t
        step' = subst (λ (z : MethodId). IsBackStep p (frame_steps p caller) (exception_class p h (thrown_in fr.locals q)) z t) (sym back.1) back.2
    back_reach (StrayBack x at) back same = absurd (let never : stray x at ≡ went d = same in cc)
    back_reach NoWay back same = carried c same reached

  end_reach : (fr : Frame) (frs : List Frame) → Stands p fr → AllStand p frs → IsCalledFrom p h fr frs → AreBeingMade p h (fr ∷ frs) → ((bound : ClassId) → IsNotAboveString p bound → FramesFitClass p bound h frs) → (pos : Pos) (q : Completion) → end p c fr frs pos q ≡ went d
      → LinksReachAliased p d.heap
  end_reach fr [] st standing stacked making keeps pos q same =
      carried (main_ended p c fr pos q) same (reach_on p h (end_frame 1 h) (main_keeps p h pos) (come_from p h (end_frame 1 h) (frame_linked 1 h)) reached)
  end_reach fr (caller ∷ rest) st standing stacked making keeps pos q same =
      back_reach fr caller rest st standing.0 stacked.0 making.0 (λ bound own. (keeps bound own).0) q pos (return_move p (frame_steps p caller) (exception_class p h (thrown_in fr.locals q)))
      (back_is p caller standing.0 stacked.0.named stacked.0.index stacked.0.step stacked.0.here stacked.0.calls (exception_class p h (thrown_in fr.locals q))) same

  -- ---- all moves

  moved_reach : (fr : Frame) (frs : List Frame) → Stands p fr → AllStand p frs → IsCalledFrom p h fr frs → FieldsHold p (fr ∷ frs) h → AreBeingMade p h (fr ∷ frs) → ((bound : ClassId) → IsNotAboveString p bound → FramesFitClass p bound h (fr ∷ frs)) → (mv : Move)
      → IsNext p h c.arrays fr.method fr.locals (frame_steps p fr) mv → moved p c fr frs mv ≡ went d → LinksReachAliased p d.heap
  moved_reach fr frs st standing stacked hold making keeps (Inner e s) next same =
      carried (within p c fr frs e s) same (inner_reach fr frs st standing stacked hold (λ bound own. (keeps bound own).0) e s next.0 next.1 next.2)
  moved_reach fr frs st standing stacked hold making keeps (Start named runs a pos) next same =
      carried (began p c fr frs named runs a pos) same (began_reach fr frs st standing stacked hold (λ bound own. (keeps bound own).0) named runs a pos)
  moved_reach fr frs st standing stacked hold making keeps (Library named m x s) next same =
      carried (library_went p c fr frs named m x s) same (library_reach fr frs st standing stacked hold (λ bound own. (keeps bound own).0) named m x s next)
  moved_reach fr frs st standing stacked hold making keeps (End pos q) next same = end_reach fr frs st standing stacked making (λ bound own. (keeps bound own).1) pos q same
  moved_reach fr frs st standing stacked hold making keeps (Stray e pos) next same = absurd (let never : stray e pos ≡ went d = same in cc)
  moved_reach fr frs st standing stacked hold making keeps Rest next same = carried c same reached

  by_frames : (frs : List Frame) → AllStand p frs → IsStacked p h frs → HaveTargets p frs → HasMadeClasses p h → FieldsHold p frs h → AreBeingMade p h frs → ((bound : ClassId) → IsNotAboveString p bound → FramesFitClass p bound h frs) → moved_by p c frs (top_move p c frs) ≡ went d
      → LinksReachAliased p d.heap
  by_frames [] standing stacked targets classes hold making keeps same = absurd (let never : ended c.ended ≡ went d = same in cc)
  by_frames (fr ∷ frs) standing stacked targets classes hold making keeps same =
      moved_reach fr frs standing.0 standing.1 stacked hold making keeps (top_move p c (fr ∷ frs)) (next_is p ac forms h c.arrays (next_choice c.choices c.used) fr standing.0 targets.0 classes) same

-- ---- the laws

pub links_reach_aliased_step : (p : Program) → Accept p → HasPlainForms p → HasLightTexts p → (c d : Config) → Agree p c → HaveTargets p c.frames → AreInRange c → FieldsHold p c.frames c.heap → AreBeingMade p c.heap c.frames → HaveClasses p c → LinksReachAliased p c.heap
    → step p c ≡ went d → LinksReachAliased p d.heap
unfolding step
links_reach_aliased_step p ac forms light c d agrees targets ranges fields making values reached same =
    by_frames p ac forms light c d agrees.links ranges.fields reached c.frames agrees.standing agrees.stacked targets agrees.classes fields making (λ bound own. (values bound own).frames) same

pub links_reach_aliased_at_start : (p : Program) (main : MethodId) (choices : Choices) → LinksReachAliased p (start_config p main choices).heap
unfolding start_config
links_reach_aliased_at_start p main choices k x l at link = absurd (none k x at)
  where
    none : (n : ℕ) (y : Object) → object_at (record { objects = []; fields = [] }) n ≡ Some y → ⊥
    none zero y is = let never : None ≡ Some y = is in cc
    none (suc n) y is = let never : None ≡ Some y = is in cc
