-- The end of a frame and of its call keeps what owning fields hold and own.
use Rattle.covering_laws.proofs.Waiting.{bore_before}
use Rattle.covering_laws.specs.Holders.{HoldersAreUnlinked}
use Rattle.covering_laws.proofs.ContentHolders.{contents_have_holders}
pub use Rattle.covering_laws.proofs.Returns.{back_is}
use Rattle.std.specs.Prelude.{◌<◌, ◌||◌, ◌&&◌, is_some, not}
use Rattle.std.specs.FinSet as set
use Rattle.std.proofs.Common.{◌≡◌, ◌⊎◌, ℕ, zero, suc, ◌+◌, Bool, true, false, true≢false, Option, Some, None, List, ◌∷◌, length, slice_get, refl, sym, ap, ◌∙◌, subst, if◌then◌else◌, inl, inr, eqb-true, eq-eqb, arith}
use Rattle.std.proofs.lemmas.Bool.{and_parts, or_right}
use Rattle.std.proofs.lemmas.List.Elements.{All-head, All-tail}
use Rattle.rlc_base.specs.declared.name_id.NameId.{NameId}
use Rattle.rlc_base.specs.declared.place.Pos.{Pos}
use Rattle.program_model.specs.declared.kinds.ClassId.{ClassId}
use Rattle.program_model.specs.declared.kinds.FieldId.{FieldId}
use Rattle.program_model.specs.declared.kinds.MethodId.{MethodId}
use Rattle.program_model.specs.declared.program.Field.{Field}
use Rattle.program_model.specs.declared.program.Method.{Method}
use Rattle.program_model.specs.declared.program.Program.{Program}
use Rattle.program_model.specs.Lookups.{field_at, method_at}
use Rattle.must_call_sets.specs.Bodies as bodies
use Rattle.must_call_sets.specs.Bodies.{alias_in, constructs, is_class_of, is_constructor_kind, method_in}
use Rattle.must_call_sets.specs.MustCallSets.{is_heavy_class, must_of, must_of_optional, must_of_type}
use Rattle.must_call_sets.specs.Signatures.{type_at}
use Rattle.java_control.specs.Owned.{is_owning_field}
use Rattle.covering_laws.specs.Ends.{is_throw}
use Rattle.java_control.specs.Calls.{called_method}
use Rattle.java_control.specs.Control.{Step}
use Rattle.control_actions.specs.declared.action.Action.{Action}
use Rattle.control_actions.specs.declared.action.Action.TheVariants as actions
use Rattle.control_actions.specs.declared.action.Completion.{Completion}
use Rattle.covering_laws.specs.Accept.{Accept}
use Rattle.covering_laws.specs.Paths.{move_of}
use Rattle.covering_laws.specs.Outcomes.{IsCallRow}
use Rattle.ledger_state.specs.Contents.{HeapContents}
use Rattle.ledger_state.specs.Fields.{field_value}
use Rattle.ledger_state.specs.Heaps.{change_one, is_reached, object_at, root, root_of}
use Rattle.ledger_state.specs.Locals.{variable_value}
use Rattle.ledger_state.specs.Values.{number_of}
use Rattle.ledger_state.specs.declared.entry.Owner.TheVariants as owners
use Rattle.ledger_state.specs.declared.locals.Locals.{Locals}
use Rattle.ledger_state.specs.declared.object.Link.{Link}
use Rattle.ledger_state.specs.declared.object.Object.{Object}
use Rattle.ledger_state.specs.declared.value.Value.{Value}
use Rattle.ledger_state.specs.declared.value.Value.TheVariants as values
use Rattle.ledger_obligations.specs.Obligations.{alias_born, end_holder, finished, is_unmet, lose}
use Rattle.ledger_steps.specs.LedgerCallsCalls.{alias_position, alias_target, interest_in, is_alias, object_by, operand_of, reset_position}
use Rattle.covering_laws.specs.Configuration.{Config, Frame, held_by}
use Rattle.covering_laws.specs.Choosing.{frame_steps, is_number}
use Rattle.covering_laws.specs.Frames.{frame_after}
use Rattle.covering_laws.specs.Places.{class_of_method}
use Rattle.ledger_steps.specs.Ends.{answered, constructor_ended, exception_class, finished_by_new, object_finished, frame_ended, frame_gone, program_birth, result_value, returned_called, returned_heap, returned_reset, returned_roots, thrown_in}
use Rattle.covering_laws.specs.Moves.{Return, Back, StrayBack, NoWay}
use Rattle.covering_laws.specs.LedgerRunsOutcomes.{went, stray}
use Rattle.covering_laws.specs.LedgerRunsSteps.{returned, returned_by}
use Rattle.covering_laws.specs.Heaps.{Evolves, GoesOn, HasEarlierLinks}
use Rattle.covering_laws.specs.Leading.{CallsOnField, Leads}
use Rattle.covering_laws.proofs.HeapLaws.{roots_of_links-there}
use Rattle.covering_laws.proofs.ObjectLaws.{in_range}
use Rattle.covering_laws.specs.ProgramCalls as program_calls
use Rattle.covering_laws.proofs.EndLinks.{called_links, end_links, gone_links}
use Rattle.covering_laws.proofs.Returned.{gone_unowned}
use Rattle.covering_laws.specs.Arguments.{HasArguments}
use Rattle.covering_laws.proofs.Constructors.{spoken}
use Rattle.covering_laws.proofs.KeptArguments.{field_holds}
use Rattle.covering_laws.specs.Agreement.{Agrees, AllStand, IsMade, IsMadeAfter, IsMadeByNew, RunsItself, WaitsFor}
use Rattle.covering_laws.specs.PlainForms.{HasPlainForms, IsPlainCall, calls_constructor}
use Rattle.covering_laws.specs.Nexts.{IsBack, IsBackStep}
use Rattle.covering_laws.proofs.Ready.{plain_call, plain_step, step_here, step_there}
use Rattle.covering_laws.proofs.Unmet.{call_may}
use Rattle.covering_laws.proofs.CallWays.{one_action}
use Rattle.covering_laws.specs.Naming.{IsOfItsKind}
use Rattle.covering_laws.proofs.NamedReached.{names_what_is_there}
use Rattle.covering_laws.specs.FieldContents.{AreDispatched, AreFresh, AreNew, AreUnfinished, FieldsHold, HaveContents, IsBeingMade, IsContent, LinksLead, RunOnOthers, is_made_in, is_new, makes_holder, makes_object, promised_on, OwningFieldsOwn}
use Rattle.covering_laws.specs.Renewable.{IsFollowed}
use Rattle.covering_laws.specs.PlaceFacts.{IsCovered, IsOld, gives_none, OwesOrHolds, renews_none}
use Rattle.covering_laws.specs.Sight.{ActsInSight}
use Rattle.covering_laws.proofs.EndResets.{plain_alias_position}
use Rattle.covering_laws.proofs.EndTargets.{AliasHoldsNone, left_links, reached_rises, reset_of, same_fields}
use Rattle.covering_laws.proofs.HeapLaws.{links_stay-lost}
use Rattle.covering_laws.proofs.Renewed.{says_nothing, without_reset}
use Rattle.content_laws.proofs.LibraryResets.{same_interest}
use Rattle.content_laws.proofs.Renewals.{Renews, renewed_hold}
use Rattle.content_laws.proofs.ResetRenews.{reset_renews}
use Rattle.covering_laws.specs.Ranges.{LocalsInRange}
use Rattle.content_laws.proofs.AliasConstructors.{alias_class_is_heavy, calls_on_field}
use Rattle.content_laws.proofs.Ends.{promise_is_kept, receiver_object}
use Rattle.content_laws.proofs.UnmetHolders.{content_is_answered}
use Rattle.content_laws.proofs.Finished.{alias_makes_none, made_by_none, changed_dispatched, changed_unfinished, linked_contents, made, made_contents, one_back}
use Rattle.content_laws.proofs.Goes.{contents_go_on, unmet_then, dispatched_on, goes_forth, led_there, holders_go, there, unfinished_on}
use Rattle.content_laws.proofs.Heaps.{after_goes, end_goes}
use Rattle.content_laws.proofs.Leading.{goes_hold, leads_forth}
use Rattle.content_laws.proofs.Leaves.{holder_owns_nothing}
use Rattle.content_laws.proofs.Linked.{finished_leads, finished_root, linked_leads, linked_root, holders_but_one}
use Rattle.content_laws.proofs.LinkSteps.{leads_go_on}
use Rattle.content_laws.proofs.Steps.{IsSameFrame, LocalsIn, owning_on, same_dispatched, same_fresh, same_makes, same_new, same_unfinished, this_in}
use Rattle.content_laws.specs.Going.{Goes, IsNotedBy, KeepsArgument, PromisesItsOwn, linked}
use Rattle.content_laws.proofs.Steps.{same_after}
use Rattle.content_laws.proofs.Promised.{promises_its_own}
use Rattle.content_laws.proofs.ContentStores.{alias_form, body_is_of_program}
use Rattle.content_laws.proofs.TopSteps.{small_interest}

-- a `new` that makes no alias finishes its object
plainly_finished : (p : Program) (i : ℕ) (m : Option Method) (alias : Option ℕ) → alias_position m ≡ None → object_finished p i m alias ≡ made p i
plainly_finished p i m alias none =
    ap (λ (z : Option ℕ). (λ (x : Object). if is_some z then alias_born p false alias (record x { called = set.empty }) else finished (must_of p x.class) (owners.Frame i) (record x { called = set.empty }))) none

aliased_finished : (p : Program) (i : ℕ) (m : Option Method) (alias : Option ℕ) (k : ℕ) → alias_position m ≡ Some k → object_finished p i m alias ≡ linked p alias
aliased_finished p i m alias k some =
    ap (λ (z : Option ℕ). (λ (x : Object). if is_some z then alias_born p false alias (record x { called = set.empty }) else finished (must_of p x.class) (owners.Frame i) (record x { called = set.empty }))) some

-- a `new`, in the words of the two crates
made_as_new : (a : Action) → program_calls.is_new a ≡ true → is_new a ≡ true
made_as_new actions.Skip new = new
made_as_new (actions.New m d n) new = refl
made_as_new a new = new

made_after : (p : Program) (l : Locals) (a : Action) (v : Value) (named : MethodId) → IsMadeAfter p l a v → called_method a ≡ Some named → program_calls.is_new a ≡ true → (n w : ℕ) → number_of v ≡ Some n
    → alias_target (operand_of l a) (method_at p named) ≡ Some w → (0 < w) × (w < n)
made_after p l actions.Skip v named is calls new n w at to = absurd (true≢false (sym new))
made_after p l (actions.New m d c) v named is calls new n w at to =
    let one : m ≡ named = (let both : Some m ≡ Some named = calls in cc) in is n w at (ap (λ (z : MethodId). alias_target (operand_of l (actions.New m d c)) (method_at p z)) one ∙ to)
made_after p l a v named is calls new n w at to = absurd (true≢false (sym new))

same_class_of : (c : ClassId) (m : Method) → is_class_of c (Some m) ≡ true → c ≡ m.class
same_class_of c m same = ap (λ (n : ℕ). (let z : ClassId = record { 0 = n } in z)) (eqb-true c.0 m.class.0 same)

three : (a b c : Bool) → ((a && b) && c) ≡ true → (a ≡ true) × (b ≡ true) × (c ≡ true)
three true true c is = (refl, refl, is)
three true false c is = absurd (true≢false (sym is))
three false b c is = absurd (true≢false (sym is))

numbered : (v : Value) (w : ℕ) → is_number w (number_of v) ≡ true → v ≡ values.Object w
numbered values.Nothing w is = absurd (true≢false (sym is))
numbered (values.Object k) w is = ap values.Object (sym (eqb-true w k is))
numbered v w is = absurd (true≢false (sym is))

row_of : (a : Action) (m : MethodId) → called_method a ≡ Some m → IsCallRow a
row_of actions.Skip m is = absurd (let never : None ≡ Some m = is in cc)
row_of (actions.Call k d n form) m is = tt
row_of (actions.New k d n) m is = tt
row_of (actions.Super k d n) m is = tt
row_of a m is = absurd (let never : None ≡ Some m = is in cc)

module _ (p : Program) (ac : Accept p) (forms' : HasPlainForms p) (c d : Config) (fr caller : Frame) (rest : List Frame) (agrees : Agrees p (fr ∷ caller ∷ rest) c.heap c.entries)
    (old : ℕ → Bool) (aged : IsOld p c.heap (caller ∷ rest) fr old) (covered : IsCovered p c.heap gives_none renews_none old (caller ∷ rest) fr) (in' : LocalsIn c.heap (fr ∷ caller ∷ rest)) (hold : FieldsHold p (fr ∷ caller ∷ rest) c.heap) (making : IsBeingMade p c.heap fr caller) (given : HasArguments p caller fr) (i : ℕ) (s : Step) (q : Completion)
    (here : slice_get (frame_steps p fr) i ≡ Some s) (is : s.action ≡ actions.End q)
    (exits : is_throw q ≡ true → exception_class p c.heap (thrown_in fr.locals q) ≡ None → ⊥) (sight : ActsInSight p c.heap caller) where
  abbrev h : HeapContents
  h = c.heap

  abbrev e : Option ClassId
  e = exception_class p h (thrown_in fr.locals q)

  abbrev v : Value
  v = result_value fr.locals (method_at p fr.method) q

  abbrev Done : Config → Type 0
  Done x = FieldsHold p x.frames x.heap

  carried : (x : Config) → went x ≡ went d → Done x → Done d
  carried x is held = subst Done (let same : x ≡ d = cc in same) held

  links : HasEarlierLinks h
  links = agrees.links

  own : PromisesItsOwn p
  own = promises_its_own p ac

  abbrev waits : WaitsFor p h caller fr
  waits = agrees.stacked.0

  standing' : AllStand p (caller ∷ rest)
  standing' = agrees.standing.1

  in_all : LocalsIn h (caller ∷ rest)
  in_all = All-tail (λ (x : Frame). LocalsInRange h x.locals) fr (caller ∷ rest) in'

  module _ (t : Step) (named : MethodId) (back : IsBackStep p (frame_steps p caller) e named t) where
    abbrev answer : Value
    answer = answered fr.locals.this t.action v e

    abbrev after : Frame
    after = frame_after p h caller t answer

    same : IsSameFrame caller after
    same = same_after p h caller t answer

    abbrev position : ℕ
    position = length rest + 1

    -- the method that the call names, but for its reset
    abbrev plain : Option Method
    plain = without_reset (method_at p named)

    abbrev reset : HeapContents
    reset = returned_reset p caller.locals t.action plain (frame_gone p position fr.locals.this (method_at p fr.method) v e h)

    -- the heap that the end would leave without the reset
    abbrev heap : HeapContents
    heap = returned_heap p position fr.locals.this caller.locals t.action (method_at p fr.method) plain v e h

    named_call : IsPlainCall p named
    named_call = plain_call p t.action named (plain_step p ac forms' caller standing'.0 back.index t back.here) back.row back.calls

    no_reset : reset_position plain ≡ None
    no_reset = says_nothing (method_at p named)

    small : (n : NameId) → interest_in plain ≡ Some n → n.0 < 128
    small n is' = small_interest p ac named n (sym (same_interest (method_at p named)) ∙ is')

    -- what the call notes, it notes with its reset as well
    as_noted : (w n : ℕ) → IsNotedBy caller.locals t.action plain w n → IsNotedBy caller.locals t.action (method_at p named) w n
    as_noted w n noted = record { chosen = noted.chosen; receiver = noted.receiver; name = noted.name; interest = sym (same_interest (method_at p named)) ∙ noted.interest; number = noted.number }

    goes : Goes p h reset (IsNotedBy caller.locals t.action plain)
    goes = end_goes p position fr.locals.this caller.locals t.action (method_at p fr.method) plain v e h no_reset small links

    -- what a field owns is finished
    owned_is_finished : (o : ℕ) (x : Object) (w : ℕ) (f : FieldId) → object_at h o ≡ Some x → x.owner ≡ owners.Field w f → x.finished ≡ true
    owned_is_finished o x w f at owner = go x.finished refl
      where
        go : (b : Bool) → x.finished ≡ b → x.finished ≡ true
        go true done = done
        go false unready = absurd (let never : owners.Field w f ≡ owners.Unowned = sym owner ∙ agrees.ends.unfinished o x at unready in cc)

    some_method : (n : Method) → method_at p named ≡ Some n → (o : ℕ) (x y : Object) (w : ℕ) (f : FieldId) → object_at h o ≡ Some x → object_at reset o ≡ Some y → is_heavy_class p y.class ≡ true → GoesOn x y → x.owner ≡ owners.Field w f
        → (content : IsContent p (fr ∷ caller ∷ rest) h o x w f) → (m : MethodId) (d' : Method) (name : NameId) → content.holder.finished ≡ true → method_at p m ≡ Some d' → d'.class ≡ content.holder.class
        → d'.sig.interest ≡ Some name → set.contains (must_of p content.holder.class) name.0 ≡ true → IsNotedBy caller.locals t.action (method_at p named) w name.0
        → is_unmet y ≡ true → set.is_subset (promised_on f d') y.called ≡ true
    some_method n named_at o x y w f there' now heavy on owner content m d' name fin at' class interest must noted unmet =
        promise_is_kept p ac forms' h fr caller rest agrees.standing.0 standing'.0 old aged covered i s q here is back.index t back.here back.row named n back.calls named_at hold.dispatched.0 agrees.classes o x y w f there'
        (ap (is_heavy_class p) (sym on.class) ∙ heavy) (owned_is_finished o x w f there' owner) on owner content m d' name at' class interest must (subst (λ (z : Option Method). IsNotedBy caller.locals t.action z w name.0) named_at noted)
        (content_is_answered p ac (fr ∷ caller ∷ rest) h links agrees.ends hold.contents agrees.answered o x w f there' owner (unmet_then x y on unmet))

    keeps : (o : ℕ) (x y : Object) (w : ℕ) (f : FieldId) → object_at h o ≡ Some x → object_at reset o ≡ Some y → is_heavy_class p y.class ≡ true → GoesOn x y → x.owner ≡ owners.Field w f
        → (content : IsContent p (fr ∷ caller ∷ rest) h o x w f) → (m : MethodId) (d' : Method) (name : NameId) → content.holder.finished ≡ true → method_at p m ≡ Some d' → d'.class ≡ content.holder.class
        → d'.sig.interest ≡ Some name → set.contains (must_of p content.holder.class) name.0 ≡ true → IsNotedBy caller.locals t.action (method_at p named) w name.0
        → is_unmet y ≡ true → set.is_subset (promised_on f d') y.called ≡ true
    keeps = go (method_at p named) refl
      where
        go : (z : Option Method) → method_at p named ≡ z → (o : ℕ) (x y : Object) (w : ℕ) (f : FieldId) → object_at h o ≡ Some x → object_at reset o ≡ Some y → is_heavy_class p y.class ≡ true → GoesOn x y → x.owner ≡ owners.Field w f
            → (content : IsContent p (fr ∷ caller ∷ rest) h o x w f) → (m : MethodId) (d' : Method) (name : NameId) → content.holder.finished ≡ true → method_at p m ≡ Some d' → d'.class ≡ content.holder.class
            → d'.sig.interest ≡ Some name → set.contains (must_of p content.holder.class) name.0 ≡ true → IsNotedBy caller.locals t.action (method_at p named) w name.0
            → is_unmet y ≡ true → set.is_subset (promised_on f d') y.called ≡ true
        go None none' o x y w f there' now heavy on owner content m d' name fin at' class interest must noted =
            absurd (let never : None ≡ Some noted.name = sym (ap interest_in none') ∙ noted.interest in cc)
        go (Some n) named_at o x y w f there' now heavy on owner content m d' name fin at' class interest must noted =
            some_method n named_at o x y w f there' now heavy on owner content m d' name fin at' class interest must noted

    -- the contents when the frame has gone, while its constructor still counts
    between : HaveContents p (fr ∷ after ∷ rest) reset
    between = contents_go_on p h reset _ goes own hold.leads (fr ∷ caller ∷ rest) (fr ∷ after ∷ rest) hold.contents
        (λ o x y w f at now heavy on owner content m d' n fin there' class interest must noted. keeps o x y w f at now heavy on owner content m d' n fin there' class interest must (as_noted w n.0 noted))
        (λ o x y w f content now owner un' made'. still_made w content.field.class made')
      where
        still_made : (w : ℕ) (c' : ClassId) → is_made_in p w c' (fr ∷ caller ∷ rest) ≡ true → is_made_in p w c' (fr ∷ after ∷ rest) ≡ true
        still_made w c' made' = ap (λ (b : Bool). makes_holder p w c' fr || b) (same_makes p caller after rest same w c') ∙ made'

    -- all but the contents
    gone_linked : HasEarlierLinks (frame_gone p position fr.locals.this (method_at p fr.method) v e h)
    gone_linked = gone_links p position fr.locals.this (method_at p fr.method) v e h links

    reset_linked : HasEarlierLinks reset
    reset_linked = called_links p position fr.locals.this caller.locals t.action plain (frame_gone p position fr.locals.this (method_at p fr.method) v e h) no_reset gone_linked

    leads_then : LinksLead p reset
    leads_then = leads_go_on p h reset _ goes links hold.leads reset_linked

    forth : Evolves h reset
    forth = goes_forth p h reset _ goes

    unfinished_then : AreUnfinished p reset (after ∷ rest)
    unfinished_then = same_unfinished p caller after rest same reset (unfinished_on p h reset forth (caller ∷ rest) (this_in h (caller ∷ rest) in_all) hold.unfinished.1)

    dispatched_then : AreDispatched p reset (after ∷ rest)
    dispatched_then = same_dispatched p caller after rest same reset
        (dispatched_on p h reset forth caller rest (All-tail (λ (x : Frame). LocalsInRange h x.locals) caller rest in_all) hold.dispatched.2)

    new_then : AreNew p (after ∷ rest)
    new_then = same_new p caller after rest same hold.new.1

    fresh_then : AreFresh p (after ∷ rest)
    fresh_then = same_fresh p caller after rest same hold.fresh.1

    same_action : t.action ≡ waits.step.action
    same_action = one_action p standing'.0.number caller.control waits.index back.index waits.step t (step_here p caller standing'.0 waits.index waits.step waits.here)
        (step_here p caller standing'.0 back.index t back.here) (call_may waits.step.action (row_of waits.step.action waits.named waits.calls))

    -- by an exception the constructor's object has given up all that its fields own
    none_held : (x : ClassId) → e ≡ Some x → constructs (method_at p fr.method) ≡ true → (w : ℕ) → fr.locals.this ≡ values.Object w → (n : ℕ) (y : Object) (f : FieldId)
        → object_at (frame_gone p position fr.locals.this (method_at p fr.method) v e h) n ≡ Some y → y.owner ≡ owners.Field w f → ⊥
    none_held x thrown new w this n y f now owner = holder_owns_nothing w (frame_ended p position (method_at p fr.method) v e h) n y f (subst (λ (k : HeapContents). object_at k n ≡ Some y) gone now) owner
      where
        gone : frame_gone p position fr.locals.this (method_at p fr.method) v e h ≡ end_holder (Some w) (frame_ended p position (method_at p fr.method) v e h)
        gone = ap (λ (z : Option ClassId). constructor_ended fr.locals.this (method_at p fr.method) z (frame_ended p position (method_at p fr.method) v e h)) thrown
            ∙ rw (new, this) refl

    no_maker : (is_new waits.step.action ≡ false) ⊎ ((x : ClassId) × (e ≡ Some x)) → (o : ℕ) (y : Object) (w : ℕ) (f : FieldId) (field : Field) → field_at p f ≡ Some field → field.owning ≡ true
        → makes_holder p w field.class fr ≡ true → object_at reset o ≡ Some y → y.owner ≡ owners.Field w f → ⊥
    no_maker how o y w f field declared owning makes now owner = elim how [
      | inr thrown ↦ (let z = after_gone o y w f now owner in none_held thrown.0 thrown.1 constructor w this z.0.0 z.0.1 f z.1 z.2)
      | inl other ↦ by_action waits.step.action refl other waits.itself
    ]
      where
        parts : (constructs (method_at p fr.method) ≡ true) × (is_number w (number_of fr.locals.this) ≡ true) × (is_class_of field.class (method_at p fr.method) ≡ true)
        parts = three (constructs (method_at p fr.method)) (is_number w (number_of fr.locals.this)) (is_class_of field.class (method_at p fr.method))
            (and_parts (makes_object p w field.class fr) (not (is_alias (method_at p fr.method))) makes).0

        constructor : constructs (method_at p fr.method) ≡ true
        constructor = parts.0

        this : fr.locals.this ≡ values.Object w
        this = numbered fr.locals.this w parts.1

        -- the object is owned so when the frame has gone
        after_gone : (o : ℕ) (y : Object) (w : ℕ) (f : FieldId) → object_at reset o ≡ Some y → y.owner ≡ owners.Field w f
            → (x : (n : ℕ) × Object) × (object_at (frame_gone p position fr.locals.this (method_at p fr.method) v e h) x.0 ≡ Some x.1) × (x.1.owner ≡ owners.Field w f)
        after_gone o y w f now' owner' =
            let b = (after_goes p caller.locals t.action plain (frame_gone p position fr.locals.this (method_at p fr.method) v e h) no_reset small).back o y w f now' owner' in
            ((o, b.0), b.1, b.3)

        named_is : (m : MethodId) → called_method waits.step.action ≡ Some m → m ≡ waits.named
        named_is m it = let both : Some m ≡ Some waits.named = sym it ∙ waits.calls in (let one : m ≡ waits.named = cc in one)

        by_action : (a : Action) → waits.step.action ≡ a → is_new a ≡ false → RunsItself a waits.named fr.method → ⊥
        by_action actions.Skip it absent itself = let never : None ≡ Some waits.named = sym (ap called_method it) ∙ waits.calls in cc
        by_action (actions.New m d n) it absent itself = true≢false absent
        by_action (actions.Super m d n) it absent itself = true≢false (sym parts.2 ∙ ap (λ (z : MethodId). is_class_of field.class (method_at p z)) itself
            ∙ forms'.parents standing'.0.number waits.index (move_of waits.step) waits.named f field standing'.0.control (step_there p caller standing'.0 waits.index waits.step waits.here)
            (ap (calls_constructor p) it ∙ ap (λ (z : MethodId). constructs (method_at p z)) (named_is m (ap called_method it) ∙ sym itself) ∙ constructor) waits.calls declared owning)
        by_action (actions.Call m d n form) it absent itself = true≢false (sym constructor ∙ waits.kind ∙ ap (λ (z : MethodId). constructs (method_at p z)) (sym (named_is m (ap called_method it)))
            ∙ subst (IsOfItsKind p) it (names_what_is_there p ac.well_formed.valid.typed standing'.0.number standing'.0.body caller.control waits.index (move_of waits.step) standing'.0.at standing'.0.control
            (step_there p caller standing'.0 waits.index waits.step waits.here)).1)
        by_action a it absent itself = let never : None ≡ Some waits.named = sym (ap called_method it) ∙ waits.calls in cc

    -- the constructor that has ended is not that of a content whose holder is not finished, but where a `new` has ended normally
    gone_maker : (is_new waits.step.action ≡ false) ⊎ ((x : ClassId) × (e ≡ Some x)) → HaveContents p (after ∷ rest) reset
    gone_maker how o y w f now has owner = with_maker (between o y w f now has owner)
      where
        with_maker : IsContent p (fr ∷ after ∷ rest) reset o y w f → IsContent p (after ∷ rest) reset o y w f
        with_maker content = record {
          holder = content.holder;
          at = content.at;
          field = content.field;
          declared = content.declared;
          class = content.class;
          program = content.program;
          owning = content.owning;
          held = content.held;
          bounded = content.bounded;
          own = content.own;
          whole = content.whole;
          unlinked = content.unlinked;
          kept = content.kept;
          made = λ un'. by_maker (makes_holder p w content.field.class fr) refl (content.made un');
        }
          where
            by_maker : (b : Bool) → makes_holder p w content.field.class fr ≡ b → (b || is_made_in p w content.field.class (after ∷ rest)) ≡ true → is_made_in p w content.field.class (after ∷ rest) ≡ true
            by_maker false absent more = more
            by_maker true makes more = absurd (no_maker how o y w f content.field content.declared content.owning makes now owner)

    abbrev Then : HeapContents → Type 0
    Then k = FieldsHold p (after ∷ rest) k

    -- what fields own owning fields own
    owning_then : OwningFieldsOwn p reset
    owning_then = owning_on p h reset _ goes hold.owning

    -- so it is where an object that no field owns changes, to which no field comes to be the owner
    owning_but : (w : ℕ) (change : Object → Object) → ((x : Object) (u : ℕ) (f : FieldId) → object_at reset w ≡ Some x → (change x).owner ≡ owners.Field u f → ⊥) → OwningFieldsOwn p (change_one w change reset)
    owning_but w change none o y u f at owner =
        let x = one_back p reset w change o y at in
        elim x.2 [
          | inl here' ↦ absurd (none x.0 u f (ap (object_at reset) (sym here'.0) ∙ x.1) (ap (λ (z : Object). z.owner) (sym here'.1) ∙ owner))
          | inr other ↦ (let was = owning_then o x.0 u f x.1 (ap (λ (z : Object). z.owner) (sym other.1) ∙ owner) in (was.0, subst (λ (z : Object). IsFollowed p z.class) (sym other.1) was.1))
        ]

    as_it_is : (is_new waits.step.action ≡ false) ⊎ ((x : ClassId) × (e ≡ Some x)) → Then reset
    as_it_is how = record { contents = gone_maker how; owning = owning_then; leads = leads_then; new = new_then; fresh = fresh_then; unfinished = unfinished_then; dispatched = dispatched_then }

    -- the object of the `new` is not finished before, and nobody owns it
    made_before : (w : ℕ) → fr.locals.this ≡ values.Object w → is_new waits.step.action ≡ true → (x : Object) × (object_at h w ≡ Some x) × (x.finished ≡ false) × (x.owner ≡ owners.Unowned)
    made_before w this new =
        let x = there h w ((All-head (λ (z : Frame). LocalsInRange h z.locals) fr (caller ∷ rest) in').this w (ap number_of this)) in
        let unmade = making waits.index waits.step w x.0 waits.here new this x.1 in
        (x.0, x.1, unmade, agrees.ends.unfinished w x.0 x.1 unmade)

    not_finished : (w : ℕ) → fr.locals.this ≡ values.Object w → is_new waits.step.action ≡ true → (y : Object) → object_at reset w ≡ Some y → y.finished ≡ false
    not_finished w this new y now =
        let x = made_before w this new in
        let z = forth w x.0 x.1 in
        let same : z.0 ≡ y = (let both : Some z.0 ≡ Some y = sym z.1 ∙ now in cc) in
        ap (λ (u : Object). u.finished) (sym same) ∙ z.2.finished ∙ x.2

    not_linked : (w : ℕ) → fr.locals.this ≡ values.Object w → is_new waits.step.action ≡ true → (y : Object) → object_at reset w ≡ Some y → y.link ≡ None
    not_linked w this new y now = go y.link refl
      where
        go : (l : Option Link) → y.link ≡ l → y.link ≡ None
        go None none = none
        go (Some l) some = absurd (true≢false (sym (reset_linked w y l now some).finished ∙ not_finished w this new y now))

    no_owner : (w : ℕ) → fr.locals.this ≡ values.Object w → is_new waits.step.action ≡ true → (y : Object) (u : ℕ) (f : FieldId) → object_at reset w ≡ Some y → y.owner ≡ owners.Field u f → ⊥
    no_owner w this new y u f now owner =
        let x = made_before w this new in
        let z = goes.back w y u f now owner in
        let same : z.0 ≡ x.0 = (let both : Some z.0 ≡ Some x.0 = sym z.1 ∙ x.1 in cc) in
        let never : owners.Field u f ≡ owners.Unowned = sym z.3 ∙ ap (λ (s : Object). s.owner) same ∙ x.3 in
        cc

    named_one : named ≡ waits.named
    named_one = let both : Some named ≡ Some waits.named = sym back.calls ∙ ap called_method same_action ∙ waits.calls in (let one : named ≡ waits.named = cc in one)

    -- a `new` ends normally
    module _ (m : MethodId) (depth count : ℕ) (it : waits.step.action ≡ actions.New m depth count) (w : ℕ) (this : fr.locals.this ≡ values.Object w) where
      is_made : is_new waits.step.action ≡ true
      is_made = ap is_new it

      runs : fr.method ≡ named
      runs = subst (λ (a : Action). RunsItself a waits.named fr.method) it waits.itself ∙ sym named_one

      constructor : constructs (method_at p fr.method) ≡ true
      constructor =
          let one : m ≡ waits.named = (let both : Some m ≡ Some waits.named = sym (ap called_method it) ∙ waits.calls in (let same' : m ≡ waits.named = cc in same')) in
          let kind = subst (IsOfItsKind p) it
          (names_what_is_there p ac.well_formed.valid.typed standing'.0.number standing'.0.body caller.control waits.index (move_of waits.step) standing'.0.at standing'.0.control
          (step_there p caller standing'.0 waits.index waits.step waits.here)).1 in
          ap (λ (z : MethodId). constructs (method_at p z)) (runs ∙ named_one ∙ sym one) ∙ kind

      -- its constructor has no aliased argument
      finished_then : Then (change_one w (made p position) reset)
      finished_then = record {
        contents = made_contents p reset position w fr (after ∷ rest) this between;
        owning = owning_but w (made p position) (λ x u f at owner. (let never : owners.Frame position ≡ owners.Field u f = owner in cc));
        leads = finished_leads p reset w (made p position) (not_linked w this is_made) (not_finished w this is_made) (λ x. refl) (λ x. refl)
            (holders_but_one p reset w (made p position) (λ x u f at owner. (let never : owners.Frame position ≡ owners.Field u f = owner in cc))) leads_then;
        new = new_then;
        fresh = fresh_then;
        unfinished = changed_unfinished p reset w (made p position) (after ∷ rest) others unfinished_then;
        dispatched = changed_dispatched p reset w (made p position) (λ x. refl) (after ∷ rest) dispatched_then;
      }
        where
          others : RunOnOthers w (after ∷ rest)
          others = hold.fresh.0 waits.index waits.step w waits.here is_made this

      -- or it has, and its object is linked to this, or to none
      linked_then : (alias : Option ℕ) → is_alias (method_at p fr.method) ≡ true → ((u : Value) (o : ℕ) (x : Object) → (o ≡ w → ⊥) → root_of reset u ≡ Some o → object_at reset o ≡ Some x
          → root_of (change_one w (linked p alias) reset) u ≡ Some o) → LinksLead p (change_one w (linked p alias) reset) → Then (change_one w (linked p alias) reset)
      linked_then alias is roots leads = record {
        contents = linked_contents p reset w alias fr (after ∷ rest) is others (not_finished w this is_made) (no_owner w this is_made) roots between;
        owning = owning_but w (linked p alias) (λ x u f at owner. linked_unowned alias x u f at owner);
        leads = leads;
        new = new_then;
        fresh = fresh_then;
        unfinished = changed_unfinished p reset w (linked p alias) (after ∷ rest) others unfinished_then;
        dispatched = changed_dispatched p reset w (linked p alias) (same_class alias) (after ∷ rest) dispatched_then;
      }
        where
          others : RunOnOthers w (after ∷ rest)
          others = hold.fresh.0 waits.index waits.step w waits.here is_made this

          linked_unowned : (a : Option ℕ) (x : Object) (u : ℕ) (f : FieldId) → object_at reset w ≡ Some x → (linked p a x).owner ≡ owners.Field u f → ⊥
          linked_unowned None x u f at owner = let never : owners.Library ≡ owners.Field u f = owner in cc
          linked_unowned (Some a) x u f at owner = no_owner w this is_made x u f at owner

          same_class : (a : Option ℕ) (x : Object) → (linked p a x).class ≡ x.class
          same_class None x = refl
          same_class (Some a) x = refl

      null_then : is_alias (method_at p fr.method) ≡ true → Then (change_one w (linked p None) reset)
      null_then is = linked_then None is
          (λ u o x apart root at. finished_root p reset w (linked p None) (not_linked w this is_made) (not_finished w this is_made) (λ x. refl) (λ x. refl)
          (holders_but_one p reset w (linked p None) (λ x u f at owner. (let never : owners.Library ≡ owners.Field u f = owner in cc))) leads_then u ∙ root)
          (finished_leads p reset w (linked p None) (not_linked w this is_made) (not_finished w this is_made) (λ x. refl) (λ x. refl)
          (holders_but_one p reset w (linked p None) (λ x u f at owner. (let never : owners.Library ≡ owners.Field u f = owner in cc))) leads_then)

      -- the argument, which the constructor has kept
      module _ (normal : is_throw q ≡ false) (a position' : ℕ) (alias : alias_in (method_at p fr.method) ≡ Some (suc position')) (argument : operand_of caller.locals waits.step.action (suc position') ≡ values.Object a)
          (earlier : (0 < a) × (a < w)) (now : HasEarlierLinks (change_one w (linked p (Some a)) reset)) where
        object : (y : Object) × (object_at reset w ≡ Some y) × GoesOn (made_before w this is_made).0 y
        object = forth w (made_before w this is_made).0 (made_before w this is_made).1

        running : (x : Method) × (method_at p fr.method ≡ Some x)
        running = go (method_at p fr.method) refl alias
          where
            go : (z : Option Method) → method_at p fr.method ≡ z → alias_in z ≡ Some (suc position') → (x : Method) × (method_at p fr.method ≡ Some x)
            go None at none = absurd (let never : None ≡ Some (suc position') = none in cc)
            go (Some x) at some = (x, at)

        alias_there : running.0.sig.alias ≡ Some (suc position')
        alias_there = ap alias_in (sym running.1) ∙ alias

        body_alias : bodies.alias_position p agrees.standing.0.number ≡ Some (suc position')
        body_alias = ap alias_in (ap (method_in p) agrees.standing.0.at ∙ ap (method_at p) agrees.standing.0.method) ∙ alias

        -- the object is of the class of the constructor, which has an obligation
        class_is : object.0.class ≡ running.0.class
        class_is =
            let made' : IsMade p h m fr.locals.this = subst (λ (b : Action). IsMadeByNew p h b fr.locals.this) it waits.makes in
            let x = made_before w this is_made in
            let number : made'.0 ≡ w = (let both : values.Object made'.0 ≡ values.Object w = sym made'.1 ∙ this in (let one : made'.0 ≡ w = cc in one)) in
            let one : m ≡ waits.named = (let both : Some m ≡ Some waits.named = sym (ap called_method it) ∙ waits.calls in (let same' : m ≡ waits.named = cc in same')) in
            let both : Some running.0.class ≡ Some x.0.class = ap class_of_method (sym running.1 ∙ ap (method_at p) (runs ∙ named_one ∙ sym one)) ∙ made'.3 x.0 (ap (object_at h) number ∙ x.1) in
            object.2.class ∙ sym (let same' : running.0.class ≡ x.0.class = cc in same')

        constructs_it : is_constructor_kind running.0.kind ≡ true
        constructs_it = ap constructs (sym running.1) ∙ constructor

        heavy_object : is_heavy_class p object.0.class ≡ true
        heavy_object = ap (is_heavy_class p) class_is ∙ alias_class_is_heavy p ac fr.method running.0 (suc position') running.1 alias_there constructs_it

        -- the parameter still holds it
        held_by_parameter : variable_value fr.locals position' ≡ values.Object a
        held_by_parameter = given.parameters waits.index waits.step running.0 position' waits.here running.1 (spoken p ac fr agrees.standing.0 running.0 running.1 position' constructor body_alias) ∙ argument

        argument_there : (x : Object) × (object_at h a ≡ Some x)
        argument_there =
            let w' = made_before w this is_made in
            let first = earlier.0 in
            let below = earlier.1 in
            let last = (in_range h w w'.0 w'.1).1 in
            there h a (first, omega (arith, below, last))

        -- the root of the argument, before the frame ends
        abbrev IsRootBefore : ℕ → Object → Type 0
        IsRootBefore o x = (object_at h o ≡ Some x) × (is_heavy_class p x.class ≡ true) × OwesOrHolds p h o x × (root_of h (variable_value fr.locals position') ≡ Some o)

        root_before : (o : ℕ) (y : Object) → root reset a ≡ o → object_at reset o ≡ Some y → is_heavy_class p y.class ≡ true → OwesOrHolds p reset o y → (x : Object) × IsRootBefore o x
        root_before o y root' at heavy owes = go argument_there
          where
            go : (x : Object) × (object_at h a ≡ Some x) → (x : Object) × IsRootBefore o x
            go (first, first_at) = by (roots_of_links-there h a first links first_at)
              where
                was : root h a ≡ o
                was = sym (goes.roots a first first_at) ∙ root'

                by : (z : Object) × (object_at h (root h a) ≡ Some z) × (z.link ≡ None) → (x : Object) × IsRootBefore o x
                by (z, there', free) = on (forth o z (ap (object_at h) (sym was) ∙ there'))
                  where
                    on : (u : Object) × (object_at reset o ≡ Some u) × GoesOn z u → (x : Object) × IsRootBefore o x
                    on (u, now', next) =
                        let same' : GoesOn z y = subst (GoesOn z) (let both : Some u ≡ Some y = sym now' ∙ at in (let one : u ≡ y = cc in one)) next in
                        (z, (ap (object_at h) (sym was) ∙ there', ap (is_heavy_class p) (sym same'.class) ∙ heavy, bore_before p h reset (λ u ready holds. inl (holders_go p h reset _ goes u holds)) o z y (ap (object_at h) (sym was) ∙ there') (λ done. (same', goes.library o z y (ap (object_at h) (sym was) ∙ there') at)) owes, ap (root_of h) held_by_parameter ∙ ap Some was))

        -- the field that holds it
        abbrev IsKeptIn : ℕ → FieldId → Field → Type 0
        IsKeptIn o f field = (field_at p f ≡ Some field) × (field.owning ≡ true) × (is_class_of field.class (method_at p fr.method) ≡ true)
            × (set.is_subset (must_of_optional p (type_at running.0.sig (suc position'))) (must_of_type p field.vtype) ≡ true) × (root_of h (field_value p h w f) ≡ Some o)

        from_field : (o : ℕ) (x : Object) → IsRootBefore o x → (f : FieldId) (field : Field) → IsKeptIn o f field → KeepsArgument p reset w object.0 o
        from_field o x (before, heavy, owes, root') f field (declared, owning, class, bounded, held) = by (led_there p h hold.leads (field_value p h w f) o x held before heavy owes)
          where
            calls : CallsOnField p running.0.class f
            calls = calls_on_field p ac fr.method running.0 (suc position') running.1 alias_there constructs_it f field declared owning
                (same_class_of field.class running.0 (subst (λ (z : Option Method). is_class_of field.class z ≡ true) running.1 class)) bounded
                (body_is_of_program p ac fr agrees.standing.0 running.0.class (ap (is_class_of running.0.class) running.1 ∙ eq-eqb running.0.class.0 running.0.class.0 refl))

            by : (c : ℕ) × (field_value p h w f ≡ values.Object c) × Leads p h c o → KeepsArgument p reset w object.0 o
            by (c, value, led) = record {
              field = f;
              declared = field;
              at = declared;
              owning = owning;
              calls = subst (λ (k : ClassId). CallsOnField p k f) (sym class_is) calls;
              content = c;
              held = goes.fields w f (ap is_owning_field declared ∙ owning) ∙ value;
              leads = leads_forth p h reset forth (goes_hold p h reset _ goes) c o led;
            }

        keeps_argument : (o : ℕ) (y : Object) → root reset a ≡ o → object_at reset o ≡ Some y → is_heavy_class p y.class ≡ true → OwesOrHolds p reset o y → KeepsArgument p reset w object.0 o
        keeps_argument o y root' at heavy owes = go (root_before o y root' at heavy owes)
          where
            go : (x : Object) × IsRootBefore o x → KeepsArgument p reset w object.0 o
            go (x, (before, heavy', owes', held)) = by
                (field_holds p ac h old (caller ∷ rest) fr agrees.standing.0 covered i s q position' w o x running.0 here is normal running.1 constructor body_alias this held before heavy' owes')
              where
                by : (f : FieldId) × (field : Field) × (field_at p f ≡ Some field) × (field.owning ≡ true) × (is_class_of field.class (method_at p fr.method) ≡ true)
                    × (set.is_subset (must_of_optional p (type_at running.0.sig (suc position'))) (must_of_type p field.vtype) ≡ true) × (root_of h (field_value p h w f) ≡ Some o)
                    → KeepsArgument p reset w object.0 o
                by (f, field, declared, owning, class, bounded, value) = from_field o x (before, heavy', owes', held) f field (declared, owning, class, bounded, value)

        argument_then : Then (change_one w (linked p (Some a)) reset)
        argument_then = linked_then (Some a) (ap is_some (ap alias_position running.1 ∙ alias_there))
            (linked_root p reset w a earlier object.0 object.1 (not_linked w this is_made object.0 object.1) (not_finished w this is_made object.0 object.1) heavy_object reset_linked now leads_then keeps_argument)
            (linked_leads p reset w a earlier object.0 object.1 (not_linked w this is_made object.0 object.1) (not_finished w this is_made object.0 object.1) heavy_object reset_linked now leads_then keeps_argument)

    -- ---- all of it

    -- by no exception the frame ends normally
    ends_normally : e ≡ None → is_throw q ≡ false
    ends_normally normal = go (is_throw q) refl
      where
        go : (b : Bool) → is_throw q ≡ b → is_throw q ≡ false
        go true throws = absurd (exits throws normal)
        go false other = other

    -- a `new` ends normally: its object is finished or linked
    module _ (m : MethodId) (depth count : ℕ) (it : waits.step.action ≡ actions.New m depth count) (makes : IsMade p h m fr.locals.this) (normal : e ≡ None) where
      abbrev w : ℕ
      w = makes.0

      abbrev a : Action
      a = actions.New m depth count

      abbrev target : Option ℕ
      target = alias_target (operand_of caller.locals a) plain

      abbrev ended_heap : HeapContents
      ended_heap = finished_by_new p position a plain (number_of fr.locals.this) target reset

      born : (change : Object → Object) → object_finished p position plain target ≡ change → ended_heap ≡ change_one w change reset
      born change same = ap (λ (u : Value). finished_by_new p position a plain (number_of u) target reset) makes.1 ∙ ap (λ (f : Object → Object). change_one w f reset) same

      position_is : alias_position plain ≡ alias_in (method_at p fr.method)
      position_is = plain_alias_position (method_at p named) ∙ same_position (method_at p named) ∙ ap (λ (z : MethodId). alias_in (method_at p z)) (sym (runs m depth count it w makes.1))
        where
          same_position : (x : Option Method) → alias_position x ≡ alias_in x
          same_position None = refl
          same_position (Some x) = refl

      is_aliased : (v : ℕ) → alias_in (method_at p fr.method) ≡ Some v → is_alias (method_at p fr.method) ≡ true
      is_aliased v alias = ap is_some (ap (λ (z : MethodId). alias_position (method_at p z)) (runs m depth count it w makes.1) ∙ sym (plain_alias_position (method_at p named)) ∙ position_is ∙ alias)

      with_argument : (v : ℕ) → alias_in (method_at p fr.method) ≡ Some v → (n : Option ℕ) → number_of (operand_of caller.locals a v) ≡ n → HasEarlierLinks ended_heap → Then ended_heap
      with_argument v alias n is' now = by_number n is'
        where
          finish : (k : Option ℕ) → number_of (operand_of caller.locals a v) ≡ k → object_finished p position plain target ≡ linked p k
          finish k number = aliased_finished p position plain target v (position_is ∙ alias) ∙ ap (linked p) (ap (object_by (operand_of caller.locals a)) (position_is ∙ alias) ∙ number)

          by_number : (k : Option ℕ) → number_of (operand_of caller.locals a v) ≡ k → Then ended_heap
          by_number None number = subst Then (sym (born (linked p None) (finish None number))) (null_then m depth count it w makes.1 (is_aliased v alias))
          by_number (Some k) number = at_position v alias number (finish (Some k) number)
            where
              named_is_made : m ≡ named
              named_is_made = let both : Some m ≡ Some waits.named = sym (ap called_method it) ∙ waits.calls in (let one : m ≡ waits.named = cc in one) ∙ sym named_one

              -- a `new` has no operand at the receiver's position
              at_position : (j : ℕ) → alias_in (method_at p fr.method) ≡ Some j → number_of (operand_of caller.locals a j) ≡ Some k → object_finished p position plain target ≡ linked p (Some k) → Then ended_heap
              at_position zero alias' number' finished = absurd (let never : ◌≡◌ {A = Option ℕ} None (Some k) = number' in cc)
              at_position (suc j) alias' number' finished =
                  let heap_is = born (linked p (Some k)) finished in
                  subst Then (sym heap_is)
                  (argument_then m depth count it w makes.1 (ends_normally normal) k j alias' (ap (λ (b : Action). operand_of caller.locals b (suc j)) it ∙ receiver_object k (operand_of caller.locals a (suc j)) number')
                  (subst (λ (b : Action). IsMadeAfter p caller.locals b fr.locals.this) it waits.after w k (ap number_of makes.1)
                  (ap (λ (z : MethodId). alias_target (operand_of caller.locals a) (method_at p z)) named_is_made ∙ ap (object_by (operand_of caller.locals a)) (sym (plain_alias_position (method_at p named)) ∙ position_is ∙ alias') ∙ number'))
                  (subst HasEarlierLinks heap_is now))

      new_ended : HasEarlierLinks ended_heap → Then ended_heap
      new_ended now = elim (alias_form (method_at p fr.method)) [
        | inl none ↦ subst Then (sym (born (made p position) (plainly_finished p position plain target (position_is ∙ none)))) (finished_then m depth count it w makes.1)
        | inr alias ↦ with_argument alias.0 alias.1 (number_of (operand_of caller.locals a alias.0)) refl now
      ]

    -- the heap when the call has ended
    ended_then : (x : Option ClassId) → e ≡ x → (a : Action) → waits.step.action ≡ a → IsMadeByNew p h a fr.locals.this
        → HasEarlierLinks (program_birth p position a plain (number_of fr.locals.this) (alias_target (operand_of caller.locals a) plain) x reset)
        → Then (program_birth p position a plain (number_of fr.locals.this) (alias_target (operand_of caller.locals a) plain) x reset)
    ended_then (Some x) thrown a it makes now = as_it_is (inr (x, thrown))
    ended_then None normal actions.Skip it makes now = as_it_is (inl (ap is_new it))
    ended_then None normal (actions.New m d n) it makes now = new_ended m d n it makes normal now
    ended_then None normal a it makes now = as_it_is (inl (ap is_new it))

    made_new : program_calls.is_new t.action ≡ true → is_new waits.step.action ≡ true
    made_new new = ap is_new (sym same_action) ∙ made_as_new t.action new

    heap_linked : HasEarlierLinks heap
    heap_linked = end_links p position fr.locals.this caller.locals t.action plain (frame_gone p position fr.locals.this (method_at p fr.method) v e h) no_reset gone_linked
        (λ n x new number at. (let before = made_before n (receiver_object n fr.locals.this number) (made_new new) in
        gone_unowned p position fr.locals.this (method_at p fr.method) v e h n before.0 x before.1 before.2 before.3 at))
        (λ n w new number to. made_after p caller.locals t.action fr.locals.this named (subst (λ (a : Action). IsMadeAfter p caller.locals a fr.locals.this) (sym same_action) waits.after) back.calls new n w number (ap (object_by (operand_of caller.locals t.action)) (sym (plain_alias_position (method_at p named))) ∙ to)) e

    then_held : Then heap
    then_held = subst (λ (a : Action). HasEarlierLinks (returned_by_action a) → Then (returned_by_action a)) (sym same_action) (ended_then e refl waits.step.action refl waits.makes) heap_linked
      where
        returned_by_action : Action → HeapContents
        returned_by_action a = program_birth p position a plain (number_of fr.locals.this) (alias_target (operand_of caller.locals a) plain) e reset

    made_after' : IsMadeAfter p caller.locals t.action fr.locals.this
    made_after' = subst (λ (a : Action). IsMadeAfter p caller.locals a fr.locals.this) (sym same_action) waits.after

    caller_in : LocalsInRange h caller.locals
    caller_in = All-head (λ (x : Frame). LocalsInRange h x.locals) caller rest in_all

    -- what the end leaves
    abbrev whole : HeapContents
    whole = returned_heap p position fr.locals.this caller.locals t.action (method_at p fr.method) (method_at p named) v e h

    abbrev gone_heap : HeapContents
    gone_heap = frame_gone p position fr.locals.this (method_at p fr.method) v e h

    -- a `new` runs the named constructor
    runs_named : is_new waits.step.action ≡ true → fr.method ≡ named
    runs_named new = go waits.step.action new waits.itself
      where
        go : (a : Action) → is_new a ≡ true → RunsItself a waits.named fr.method → fr.method ≡ named
        go actions.Skip new' itself = absurd (true≢false (sym new'))
        go (actions.New m d n) new' itself = itself ∙ sym named_one
        go a new' itself = absurd (true≢false (sym new'))

    -- the holders of what fields own are linked to none
    holders : HoldersAreUnlinked (is_heavy_class p) h
    holders = contents_have_holders p ac (fr ∷ caller ∷ rest) h hold.contents

    -- no field of an alias that the `new` makes owns an object with an obligation
    alias_holds_none : AliasHoldsNone p ac forms' h links fr caller rest standing'.0 sight hold.dispatched.0 making e v t named back agrees.ends made_after' caller_in hold.owning holders
    alias_holds_none k w z f at heavy owner new alias self =
        made_by_none p w content.field.class (caller ∷ rest) (hold.fresh.0 waits.index waits.step w waits.here (made_new new) this)
        (sym (ap (λ (b : Bool). b || is_made_in p w content.field.class (caller ∷ rest)) (alias_makes_none p w fr w content.field.class its_alias)) ∙ content.made (making waits.index waits.step w content.holder waits.here (made_new new) this content.at))
      where
        content : IsContent p (fr ∷ caller ∷ rest) h k z w f
        content = hold.contents k z w f at (or_right (is_unmet z) (is_heavy_class p z.class) heavy) owner

        this : fr.locals.this ≡ values.Object w
        this = receiver_object w fr.locals.this self

        its_alias : is_alias (method_at p fr.method) ≡ true
        its_alias = ap (λ (u : MethodId). is_alias (method_at p u)) (runs_named (made_new new)) ∙ ap is_some (sym (plain_alias_position (method_at p named))) ∙ alias

    renews : Renews p (is_reached (returned_called p caller.locals t.action (method_at p named) gone_heap) (returned_roots p caller.locals t.action (method_at p named) gone_heap)) heap (lose (held_by (after ∷ rest)) whole)
    renews = reset_renews p (returned_called p caller.locals t.action (method_at p named) gone_heap) (returned_roots p caller.locals t.action (method_at p named) gone_heap) heap whole (reset_of p ac forms' h links fr caller rest standing'.0 sight hold.dispatched.0 making e v t named back agrees.ends made_after' caller_in hold.owning) (held_by (after ∷ rest))
        (reached_rises p ac forms' h links fr caller rest standing'.0 sight hold.dispatched.0 making e v t named back agrees.ends made_after' caller_in hold.owning holders alias_holds_none) (λ w f owning. same_fields p ac forms' h links fr caller rest standing'.0 sight hold.dispatched.0 making e v t named back agrees.ends made_after' caller_in hold.owning w f owning)

    returned_hold : (pos : Pos) → Done (returned p c fr caller rest pos q e named t)
    returned_hold pos =
        renewed_hold p (is_reached (returned_called p caller.locals t.action (method_at p named) gone_heap) (returned_roots p caller.locals t.action (method_at p named) gone_heap)) heap (lose (held_by (after ∷ rest)) whole) renews
        (links_stay-lost (held_by (after ∷ rest)) whole (left_links p ac forms' h links fr caller rest standing'.0 sight hold.dispatched.0 making e v t named back agrees.ends made_after' caller_in hold.owning)) (after ∷ rest) then_held

  pub back_hold : c.frames ≡ fr ∷ caller ∷ rest → (pos : Pos) (r : Return) → IsBack p (frame_steps p caller) e waits.named r → returned_by p c fr caller rest pos q r ≡ went d → Done d
  back_hold frames pos (Back x named t) back same' =
      carried (returned p c fr caller rest pos q x named t) same'
      (subst (λ (z : Option ClassId). Done (returned p c fr caller rest pos q z named t)) (sym back.0) (returned_hold t named (subst (λ (z : MethodId). IsBackStep p (frame_steps p caller) e z t) (sym back.1) back.2) pos))
  back_hold frames pos (StrayBack x where') back same' = absurd (let never : stray x where' ≡ went d = same' in cc)
  back_hold frames pos NoWay back same' = carried c same' (subst (λ (gs : List Frame). FieldsHold p gs c.heap) (sym frames) hold)
