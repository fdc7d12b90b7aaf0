-- The name that a call counts for was called on the object of its receiver, when the frame of the call has ended.
use Rattle.std.proofs.Common.{◌≡◌, inl, ℕ, ◌+◌, ◌<◌, Bool, true, false, not, Option, Some, List, ◌∷◌, length, option_map, slice_get, refl, sym, ap, ◌∙◌}
use Rattle.std.specs.FinSet as set
use Rattle.rlc_base.specs.declared.name_id.NameId.{NameId}
use Rattle.std.proofs.lemmas.Bool.{and_parts}
use Rattle.rlc_base.proofs.SetLaws.{within_at}
use Rattle.program_model.specs.declared.kinds.ClassId.{ClassId}
use Rattle.program_model.specs.declared.kinds.MethodId.{MethodId}
use Rattle.program_model.specs.declared.program.Method.{Method}
use Rattle.program_model.specs.declared.program.Program.{Program}
use Rattle.program_model.specs.Lookups.{method_at}
use Rattle.ledger_obligations.specs.MustCallSets.{is_heavy_class}
use Rattle.ledger_obligations.specs.WellFormed.{HasSmallInterests}
use Rattle.java_control.specs.Control.{Step}
use Rattle.control_actions.specs.declared.action.Action.TheVariants as actions
use Rattle.control_actions.specs.declared.action.Completion.{Completion}
use Rattle.ownership_rules.specs.Callees.{callee_in}
use Rattle.ownership_rules.specs.Callees as callees
use Rattle.content_laws.specs.CalledRows.{interest_in}
use Rattle.content_laws.specs.Accept.{Accept}
use Rattle.ledger_state.specs.Contents.{HeapContents}
use Rattle.ledger_state.specs.Heaps.{object_at}
use Rattle.ledger_state.specs.declared.entry.Owner.TheVariants as owners
use Rattle.ledger_state.specs.declared.object.Object.{Object}
use Rattle.ledger_state.specs.declared.value.Value.{Value}
use Rattle.ledger_obligations.specs.declared.note.Note.{Note}
use Rattle.ledger_obligations.specs.Obligations.{all_notes, is_library_owner, is_unmet, note, noted_object}
use Rattle.ledger_steps.specs.LedgerCallsCalls.{receiver_note}
use Rattle.ledger_steps.specs.LedgerCallsCalls as calls
use Rattle.content_laws.specs.Configuration.{Frame}
use Rattle.content_laws.specs.Choosing.{frame_steps}
use Rattle.ledger_steps.specs.Ends.{exception_class, frame_gone, result_moved, result_value, thrown_in}
use Rattle.content_laws.specs.Heaps.{HasEarlierLinks}
use Rattle.content_laws.specs.Leading.{Leads, is_passed_on}
use Rattle.content_laws.proofs.LibraryCallLaws.{changed_object_at-object, leading_links-on, noted_names_reach_roots, unchanged_fields_keep_contents}
use Rattle.content_laws.proofs.RootLaws.{has_object}
use Rattle.content_laws.proofs.Links.{passed_on}
use Rattle.content_laws.proofs.EndLinks.{gone_evolves}
use Rattle.content_laws.specs.Agreement.{HasMadeClasses, Stands}
use Rattle.content_laws.specs.Renewing.{is_renewed}
use Rattle.content_laws.specs.PlainForms.{HasPlainForms}
use Rattle.content_laws.specs.FieldContents as fields
use Rattle.content_laws.specs.FieldContents.{LinksLead}
use Rattle.content_laws.specs.Covering.{IsCountedOn}
use Rattle.content_laws.specs.PlaceFacts.{IsCovered, IsHeavyObject, OwesOrHolds, gives_none, renews_none}
use Rattle.content_laws.proofs.Growth.{gone_grows}
use Rattle.content_laws.proofs.CallNames.{IsReceiver, same_interest, small_name}
use Rattle.content_laws.proofs.EndHeaps.{small_notes}
use Rattle.content_laws.proofs.Goes.{not_the_librarys_owes}
use Rattle.content_laws.proofs.OwnNames.{chosen_by_note, own_name_called}
use Rattle.content_laws.proofs.Renewed.{without_reset}
use Rattle.content_laws.proofs.Unmet.{unmet_before}
use Rattle.soundness_laws.proofs.Answered.{IsAnswered}
use Rattle.soundness_laws.proofs.EndedObjects.{IsKept, plain_interest}

module _ (p : Program) (ac : Accept p) (forms : HasPlainForms p) (names : HasSmallInterests p) (fr caller : Frame) (frs : List Frame) (st : Stands p fr) (h : HeapContents) (links : HasEarlierLinks h) (classes : HasMadeClasses p h)
    (i : ℕ) (s : Step) (here : slice_get (frame_steps p fr) i ≡ Some s) (q : Completion) (is : s.action ≡ actions.End q) (j : ℕ) (t : Step) (there : slice_get (frame_steps p caller) j ≡ Some t) (named : MethodId)
    (answer : IsAnswered p h fr caller q t named) (led : LinksLead p h) (old : ℕ → Bool) (covered : IsCovered p h gives_none renews_none old (caller ∷ frs) fr) (dispatched : fields.IsDispatched p h fr caller)
    (apart : (o : ℕ) (x : Object) → object_at h o ≡ Some x → IsHeavyObject p x → x.owner ≡ owners.Frame (length frs + 1) → is_renewed p h caller o ≡ false → IsCountedOn p h old (caller ∷ frs) fr o x) where
  abbrev e : Option ClassId
  e = exception_class p h (thrown_in fr.locals q)

  abbrev runs : Option Method
  runs = method_at p fr.method

  abbrev v : Value
  v = result_value fr.locals runs q

  abbrev at : ℕ
  at = length frs + 1

  abbrev moved : HeapContents
  moved = result_moved p at runs v e h

  abbrev gone : HeapContents
  gone = frame_gone p at fr.locals.this runs v e h

  abbrev plain : Option Method
  plain = without_reset (method_at p named)

  abbrev all : ℕ → Object → Object
  all = noted_object (all_notes p gone (receiver_note caller.locals t.action plain))

  module _ (n : ℕ) (y : Object) (was : IsKept p at runs v e h moved gone all n y) (unmet : is_unmet y ≡ true) (mine : was.before.owner ≡ owners.Frame at) (heavy : is_heavy_class p was.before.class ≡ true) (name : NameId)
      (r : IsReceiver h caller.locals t.action plain n name) (interest : interest_in (callees.callee p t.action) ≡ Some name)
      (unrenewed : is_renewed p h caller n ≡ false) where
    was_unmet : is_unmet was.before ≡ true
    was_unmet = unmet_before was.before y was.goes_on unmet

    done : was.before.finished ≡ true
    done = (and_parts was.before.finished (not (set.is_subset was.before.must was.before.called)) was_unmet).0

    owes : OwesOrHolds p h n was.before
    owes = inl (not_the_librarys_owes was.before (ap is_library_owner mine))

    first : (x : Object) × (object_at h r.object ≡ Some x)
    first = has_object h r.object n was.before r.root was.there

    way : Leads p h r.object n
    way = led r.object n first.0 was.before first.1 r.root was.there heavy owes

    same_callee : callees.callee p t.action ≡ method_at p named
    same_callee = ap (callee_in p) answer.calls

    abbrev its : Note
    its = note false r.object name

    small : (i' : NameId) → calls.interest_in plain ≡ Some i' → i'.0 < 128
    small i' is' = small_name p t.action i' names (ap interest_in same_callee ∙ sym (same_interest (method_at p named)) ∙ sym (plain_interest (method_at p named)) ∙ is')

    -- the note goes on to the root
    passed_called : is_passed_on p its first.0 ≡ true → set.contains y.called name.0 ≡ true
    passed_called passed =
        let on = gone_evolves p at fr.locals.this runs v e h in
        let now = on r.object first.0 first.1 in
        noted_names_reach_roots p (receiver_note caller.locals t.action plain) gone its n now.0 y (small_notes caller.locals t.action plain small) r.noted now.1
        (passed_on p its first.0 now.0 now.2 ∙ passed)
        (leading_links-on p h gone r.object n links on (unchanged_fields_keep_contents p h gone (gone_grows p at fr.locals.this runs v e h).fields) way)
        (changed_object_at-object all gone n ∙ ap (option_map (all n)) was.remains ∙ ap Some was.noted)

    -- or the class's own method ran, which has called it
    own_called : is_passed_on p its first.0 ≡ false → set.contains y.called name.0 ≡ true
    own_called stopped =
        within_at was.before.called y.called was.goes_on.called name.0
        (own_name_called p ac forms h links fr caller frs st old covered i s q here is j t there named answer.method answer.calls answer.named_at dispatched name
        (ap interest_in (sym (same_callee ∙ answer.named_at)) ∙ interest) (chosen_by_note caller.locals t.action plain its r.noted) n was.before was.there heavy owes
        done classes (apart n was.before was.there (done, heavy) mine unrenewed) r.object first.0 r.value first.1 way stopped)

    pub name_called : set.contains y.called name.0 ≡ true
    name_called = go (is_passed_on p its first.0) refl
      where
        go : (b : Bool) → is_passed_on p its first.0 ≡ b → set.contains y.called name.0 ≡ true
        go true passed = passed_called passed
        go false stopped = own_called stopped
