-- The laws, under their names, for the crates above.
pub use Rattle.heap_laws.proofs.HeapLaws.{appended_object_at-object, changed_object_at-count, changed_object_at-object, end_of_frame_leaks_nothing, evolving_heaps-links, leading_links-on, links_stay-frame, moved_arguments_are_given, moved_arguments_are_older-older, noted_names_reach_roots, notes_add_names-object, numbers_are_in_range, owner_lines_leak_nothing, reset_lines_leak_nothing, roots_go_on-number, roots_go_on-root, roots_go_on-value, roots_of_links-itself, roots_over_a_link-linked, roots_over_a_link-value, unchanged_fields_keep_contents}
pub use Rattle.heap_laws.proofs.HeapLaws.{appended_object_at-object, changed_object_at-object, evolving_heaps-links, moves_make_nothing, nothing_is_changed, nothing_is_lost, numbers_are_in_range, roots_go_on-number, roots_of_links-linked, step_leaks_nothing-lines}
use Rattle.ledger_state.specs.declared.entry.Owner.TheVariants as owners
use Rattle.std.specs.FinSet as set
use Rattle.heap_laws.specs.Heaps.{Evolves, HasEarlierLinks, IsOlder}
use Rattle.heap_laws.specs.Leading.{Leads, is_passed_on}
use Rattle.control_actions.specs.declared.action.Action.{Action}
use Rattle.ledger_steps.specs.LedgerCallsCalls.{alias_position, operand_of, params_in, receiver_note, reset_position}
use Rattle.ledger_steps.specs.Conducts.{promises_by}
use Rattle.ledger_obligations.specs.Obligations.{has_note, may_move}
use Rattle.ledger_obligations.specs.declared.note.Note.{Note}
use Rattle.ledger_state.specs.Contents.{HeapContents}
use Rattle.ledger_state.specs.Fields.{field_of}
use Rattle.ledger_state.specs.Heaps.{next_number, object_at, root_of}
use Rattle.ledger_state.specs.Values.{number_of}
use Rattle.ledger_state.specs.declared.locals.Locals.{Locals}
use Rattle.ledger_state.specs.declared.object.Object.{Object}
use Rattle.ledger_state.specs.declared.value.Value.TheVariants as values
use Rattle.ledger_steps.specs.CallSteps.{library_entries, library_heap}
use Rattle.ledger_steps.specs.InnerSteps.{thrown_heap}
use Rattle.heap_laws.specs.LibraryCalls.{HasSmallInterest, IsAliasMadeAs, IsMadeAs}
use Rattle.program_model.specs.declared.kinds.ClassId.{ClassId}
use Rattle.program_model.specs.declared.kinds.FieldId.{FieldId}
use Rattle.program_model.specs.declared.kinds.Target.TheVariants as promised
use Rattle.program_model.specs.declared.program.Method.{Method}
use Rattle.program_model.specs.declared.program.ParamSig.{ParamSig}
use Rattle.program_model.specs.declared.program.Program.{Program}
use Rattle.program_model.specs.declared.program.Promise.{Promise}
use Rattle.rlc_base.specs.declared.place.Pos.{Pos}
use Rattle.ledger_state.specs.Leaks.{is_leak}
use Rattle.std.specs.List.{list_any}
use Rattle.std.specs.Prelude.{None, Option, Some, false, slice_get, true, ℕ, ◌+◌, ◌<◌, ◌≡◌, ◌⊎◌}
use Rattle.stub_conduct.specs.declared.choice.Conduct.{Conduct}
use Rattle.heap_laws.specs.Anew.{EvolvesAside, HasNoHolder, IsEmptied, IsOlderAside, is_anew, target_root}
use Rattle.heap_laws.proofs.Emptied.{any_older_or_alias, any_older_or_made, emptied_at, given_stay_given, links_stay, objects_go_on, promised_called, promised_in_field, receiver_called, unmade_unowned}
use Rattle.heap_laws.proofs.Reached.{nothing_anew, of_target}
use Rattle.ledger_state.specs.Heaps.{root}
pub use Rattle.heap_laws.proofs.Emptied.{aside_links}
use Rattle.heap_laws.proofs.Links.{called_on_root, library_evolves, library_links, thrown_evolves, thrown_links}
use Rattle.heap_laws.proofs.Promises.{called_at, called_in_field}
use Rattle.heap_laws.proofs.Traces.{given_stays, leaks_nothing, older_or_alias, older_or_made, thrown_is_librarys, thrown_unfinished, unowned_stays}

pub library_objects_are_older_or_made : (p : Program) (l : Locals) (a : Action) (named m : Option Method) (d : Conduct) (i : ℕ) (h : HeapContents) (n : ℕ) (y : Object) → reset_position named ≡ None → alias_position m ≡ None → object_at (library_heap p l a named m d i h) n ≡ Some y → IsOlder h n y owners.Library ⊎ ((n ≡ next_number h) × IsMadeAs p a m i d y)
library_objects_are_older_or_made = older_or_made

pub library_aliases_are_older_or_made : (p : Program) (l : Locals) (a : Action) (named m : Option Method) (d : Conduct) (i : ℕ) (h : HeapContents) (n k : ℕ) (y : Object) → reset_position named ≡ None → alias_position m ≡ Some k → object_at (library_heap p l a named m d i h) n ≡ Some y → IsOlder h n y owners.Library ⊎ ((n ≡ next_number h) × IsAliasMadeAs l a k d y)
library_aliases_are_older_or_made = older_or_alias

pub library_objects_go_on : (p : Program) (l : Locals) (a : Action) (named m : Option Method) (d : Conduct) (i : ℕ) (h : HeapContents) → reset_position named ≡ None → Evolves h (library_heap p l a named m d i h)
library_objects_go_on = library_evolves

pub library_links_stay : (p : Program) (l : Locals) (a : Action) (named m : Option Method) (d : Conduct) (i : ℕ) (h : HeapContents) → HasEarlierLinks h → reset_position named ≡ None → ((k w : ℕ) → alias_position m ≡ Some k → number_of (operand_of l a k) ≡ Some w → (0 < w) × (w < next_number h)) → HasEarlierLinks (library_heap p l a named m d i h)
library_links_stay p l a named m d i h links none there = library_links p l a named m d i h links none there

pub given_arguments_stay_given : (p : Program) (l : Locals) (a : Action) (named m : Option Method) (d : Conduct) (i j : ℕ) (q : ParamSig) (h : HeapContents) (n : ℕ) (x y : Object) → reset_position named ≡ None → slice_get (params_in named) j ≡ Some q → q.owning ≡ true → root_of h (operand_of l a (1 + j)) ≡ Some n → object_at h n ≡ Some x → may_move p q.vtype x ≡ true → object_at (library_heap p l a named m d i h) n ≡ Some y → y.owner ≡ owners.Library
given_arguments_stay_given = given_stays

pub receiver_is_called : (p : Program) (l : Locals) (a : Action) (named m : Option Method) (d : Conduct) (i : ℕ) (h : HeapContents) (note : Note) (r : ℕ) (x y : Object) → HasEarlierLinks h
    → HasSmallInterest named → reset_position named ≡ None → has_note (receiver_note l a named) note ≡ true → object_at h note.object ≡ Some x → is_passed_on p note x ≡ true → Leads p h note.object r
    → object_at (library_heap p l a named m d i h) r ≡ Some y → set.contains y.called note.name.0 ≡ true
receiver_is_called = called_on_root

pub promised_names_are_called-position : (p : Program) (l : Locals) (a : Action) (named m : Option Method) (d : Conduct) (i : ℕ) (h : HeapContents) (j : ℕ) (q : Promise) (k n o : ℕ) (x y : Object)
    → HasEarlierLinks h → HasSmallInterest named → reset_position named ≡ None → slice_get (promises_by m d) j ≡ Some q → q.target ≡ promised.At k → set.contains q.names n ≡ true → n < 128
    → root_of h (operand_of l a k) ≡ Some o → object_at h o ≡ Some x → ((w : ℕ) → operand_of l a k ≡ values.Object w → Leads p h w o)
    → object_at (library_heap p l a named m d i h) o ≡ Some y → set.contains y.called n ≡ true
promised_names_are_called-position = called_at

pub promised_names_are_called-field : (p : Program) (l : Locals) (a : Action) (named m : Option Method) (d : Conduct) (i : ℕ) (h : HeapContents) (j : ℕ) (q : Promise) (f : FieldId) (n o : ℕ) (x y : Object)
    → HasEarlierLinks h → HasSmallInterest named → reset_position named ≡ None → slice_get (promises_by m d) j ≡ Some q → q.target ≡ promised.OfField f → set.contains q.names n ≡ true → n < 128
    → root_of h (field_of p h (operand_of l a 0) f) ≡ Some o → object_at h o ≡ Some x → ((w : ℕ) → field_of p h (operand_of l a 0) f ≡ values.Object w → Leads p h w o)
    → object_at (library_heap p l a named m d i h) o ≡ Some y → set.contains y.called n ≡ true
promised_names_are_called-field = called_in_field

pub exceptions_keep_links-links : (p : Program) (e : Option ClassId) (h : HeapContents) → HasEarlierLinks h → HasEarlierLinks (thrown_heap p e h)
exceptions_keep_links-links = thrown_links

pub exceptions_keep_links-evolves : (p : Program) (e : Option ClassId) (h : HeapContents) → Evolves h (thrown_heap p e h)
exceptions_keep_links-evolves = thrown_evolves

pub unfinished_objects_stay_unowned-call : (p : Program) (l : Locals) (a : Action) (named m : Option Method) (d : Conduct) (i : ℕ) (h : HeapContents) (n : ℕ) (y : Object) → reset_position named ≡ None
    → ((k : ℕ) (x : Object) → object_at h k ≡ Some x → x.finished ≡ false → x.owner ≡ owners.Unowned)
    → object_at (library_heap p l a named m d i h) n ≡ Some y → y.finished ≡ false → y.owner ≡ owners.Unowned
unfinished_objects_stay_unowned-call = unowned_stays

pub unfinished_objects_stay_unowned-exception : (p : Program) (e : Option ClassId) (h : HeapContents) (n : ℕ) (y : Object) → object_at (thrown_heap p e h) n ≡ Some y → y.finished ≡ false → object_at h n ≡ Some y
unfinished_objects_stay_unowned-exception = thrown_unfinished

pub library_calls_leak_nothing : (p : Program) (pos : Pos) (l : Locals) (a : Action) (named m : Option Method) (d : Conduct) (i : ℕ) (h : HeapContents) → list_any is_leak (library_entries p pos l a named m d i h) ≡ false
library_calls_leak_nothing = leaks_nothing

pub exceptions_are_the_librarys : (p : Program) (e : Option ClassId) (h : HeapContents) (n : ℕ) (y : Object) → object_at (thrown_heap p e h) n ≡ Some y → (object_at h n ≡ Some y) ⊎ ((n ≡ next_number h) × (y.owner ≡ owners.Library) × (y.link ≡ None) × (e ≡ Some y.class))
exceptions_are_the_librarys = thrown_is_librarys

-- ---- of any signature

pub any_library_objects_are_older_or_made : (p : Program) (l : Locals) (a : Action) (named m : Option Method) (d : Conduct) (i : ℕ) (h : HeapContents) (n : ℕ) (y : Object)
    → alias_position m ≡ None → object_at (library_heap p l a named m d i h) n ≡ Some y
    → IsOlderAside (is_anew p l a named m d h) h n y owners.Library ⊎ ((n ≡ next_number h) × IsMadeAs p a m i d y)
any_library_objects_are_older_or_made = any_older_or_made

pub any_library_aliases_are_older_or_made : (p : Program) (l : Locals) (a : Action) (named m : Option Method) (d : Conduct) (i : ℕ) (h : HeapContents) (n k : ℕ) (y : Object)
    → alias_position m ≡ Some k → object_at (library_heap p l a named m d i h) n ≡ Some y
    → IsOlderAside (is_anew p l a named m d h) h n y owners.Library ⊎ ((n ≡ next_number h) × IsAliasMadeAs l a k d y)
any_library_aliases_are_older_or_made = any_older_or_alias

pub any_library_objects_go_on : (p : Program) (l : Locals) (a : Action) (named m : Option Method) (d : Conduct) (i : ℕ) (h : HeapContents)
    → EvolvesAside (is_anew p l a named m d h) h (library_heap p l a named m d i h)
any_library_objects_go_on = objects_go_on

pub any_library_links_stay : (p : Program) (l : Locals) (a : Action) (named m : Option Method) (d : Conduct) (i : ℕ) (h : HeapContents) → HasEarlierLinks h
    → ((k w : ℕ) → alias_position m ≡ Some k → number_of (operand_of l a k) ≡ Some w → (0 < w) × (w < next_number h)) → HasEarlierLinks (library_heap p l a named m d i h)
any_library_links_stay = links_stay

pub any_given_arguments_stay_given : (p : Program) (l : Locals) (a : Action) (named m : Option Method) (d : Conduct) (i j : ℕ) (q : ParamSig) (h : HeapContents) (n : ℕ) (x y : Object)
    → slice_get (params_in named) j ≡ Some q → q.owning ≡ true → root_of h (operand_of l a (1 + j)) ≡ Some n
    → object_at h n ≡ Some x → may_move p q.vtype x ≡ true → object_at (library_heap p l a named m d i h) n ≡ Some y → y.owner ≡ owners.Library
any_given_arguments_stay_given = λ p l a named m d i j q h n x y. given_stay_given p l a named m d i h j q n x y

pub any_unfinished_objects_stay_unowned : (p : Program) (l : Locals) (a : Action) (named m : Option Method) (d : Conduct) (i : ℕ) (h : HeapContents) (n : ℕ) (y : Object)
    → ((k : ℕ) (x : Object) → object_at h k ≡ Some x → x.finished ≡ false → x.owner ≡ owners.Unowned)
    → object_at (library_heap p l a named m d i h) n ≡ Some y → y.finished ≡ false → y.owner ≡ owners.Unowned
any_unfinished_objects_stay_unowned = unmade_unowned

pub any_receiver_is_called : (p : Program) (l : Locals) (a : Action) (named m : Option Method) (d : Conduct) (i : ℕ) (h : HeapContents) (note : Note) (r : ℕ) (x y : Object)
    → HasEarlierLinks h → HasSmallInterest named → is_anew p l a named m d h r ≡ false → has_note (receiver_note l a named) note ≡ true → object_at h note.object ≡ Some x
    → is_passed_on p note x ≡ true → Leads p h note.object r → object_at (library_heap p l a named m d i h) r ≡ Some y → set.contains y.called note.name.0 ≡ true
any_receiver_is_called = receiver_called

pub any_promised_names_are_called-position : (p : Program) (l : Locals) (a : Action) (named m : Option Method) (d : Conduct) (i : ℕ) (h : HeapContents) (j : ℕ) (q : Promise) (k n o : ℕ) (x y : Object)
    → HasEarlierLinks h → HasSmallInterest named → is_anew p l a named m d h o ≡ false → slice_get (promises_by m d) j ≡ Some q → q.target ≡ promised.At k → set.contains q.names n ≡ true
    → n < 128 → root_of h (operand_of l a k) ≡ Some o → object_at h o ≡ Some x → ((w : ℕ) → operand_of l a k ≡ values.Object w → Leads p h w o)
    → object_at (library_heap p l a named m d i h) o ≡ Some y → set.contains y.called n ≡ true
any_promised_names_are_called-position = promised_called

pub any_promised_names_are_called-field : (p : Program) (l : Locals) (a : Action) (named m : Option Method) (d : Conduct) (i : ℕ) (h : HeapContents) (j : ℕ) (q : Promise) (f : FieldId) (n o : ℕ) (x y : Object)
    → HasEarlierLinks h → HasSmallInterest named → is_anew p l a named m d h o ≡ false → slice_get (promises_by m d) j ≡ Some q → q.target ≡ promised.OfField f → set.contains q.names n ≡ true
    → n < 128 → root_of h (field_of p h (operand_of l a 0) f) ≡ Some o → object_at h o ≡ Some x
    → ((w : ℕ) → field_of p h (operand_of l a 0) f ≡ values.Object w → Leads p h w o) → object_at (library_heap p l a named m d i h) o ≡ Some y → set.contains y.called n ≡ true
any_promised_names_are_called-field = promised_in_field

pub emptied_objects : (p : Program) (l : Locals) (a : Action) (named m : Option Method) (d : Conduct) (i : ℕ) (h : HeapContents) (n : ℕ) (x y : Object) → is_anew p l a named m d h n ≡ true
    → object_at h n ≡ Some x → object_at (library_heap p l a named m d i h) n ≡ Some y → IsEmptied p x y
emptied_objects = emptied_at

pub emptied_roots-none : (p : Program) (l : Locals) (a : Action) (named m : Option Method) (d : Conduct) (h : HeapContents) (n : ℕ) → reset_position named ≡ None → is_anew p l a named m d h n ≡ false
emptied_roots-none = nothing_anew

pub emptied_roots-root : (p : Program) (l : Locals) (a : Action) (named m : Option Method) (d : Conduct) (h : HeapContents) (n : ℕ) (x : Object) → HasEarlierLinks h
    → HasNoHolder h (target_root h l a named) → object_at h n ≡ Some x → is_anew p l a named m d h n ≡ true → target_root h l a named ≡ Some (root h n)
emptied_roots-root = λ p l a named m d h n x links free at is. of_target p l a named m d h links free n x at is
