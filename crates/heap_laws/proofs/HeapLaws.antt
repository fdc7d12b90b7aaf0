-- The laws, under their names, for the crates above.
use Rattle.std.specs.FinSet as set
use Rattle.std.specs.Option.{option_map}
use Rattle.heap_laws.specs.Heaps.{Evolves, GoesOn, HasEarlierLinks, HasSmallName, IsGiven, IsKeptOr, IsMovedFrom, IsOlder, KeepsLinks}
use Rattle.heap_laws.specs.Leading.{KeepsContents, Leads, LinksOne, is_passed_on}
use Rattle.ledger_steps.specs.LedgerCallsCalls.{move_params}
use Rattle.ledger_steps.specs.Entries.{birth_entries, called_entries, leak_entries, owner_entries, reset_entries}
use Rattle.ledger_obligations.specs.Obligations.{all_notes, end_frame, end_holder, follows, has_note, is_frame, is_held_by, is_unmet, lose, may_move, move, name_of, note, noted, noted_object, own_promises, owner_holds}
use Rattle.ledger_obligations.specs.declared.note.Note.{Note}
use Rattle.ledger_state.specs.Contents.{HeapContents}
use Rattle.ledger_state.specs.Fields.{field_value}
use Rattle.ledger_state.specs.declared.object.Link.{Link}
use Rattle.ledger_obligations.specs.Signatures.{is_of_field, promised_names}
use Rattle.program_model.specs.declared.kinds.FieldId.{FieldId}
use Rattle.rlc_base.specs.declared.name_id.NameId.{NameId}
use Rattle.ledger_state.specs.Heaps.{append, change_each, next_number, object_at, root, root_of, unfinished}
use Rattle.ledger_state.specs.declared.entry.Entry.{Entry}
use Rattle.ledger_state.specs.declared.entry.LeakWord.{LeakWord}
use Rattle.ledger_state.specs.declared.entry.Owner.{Owner}
use Rattle.ledger_state.specs.declared.object.Object.{Object}
use Rattle.ledger_state.specs.declared.value.Value.{Value}
use Rattle.ledger_state.specs.declared.value.Value.TheVariants as values
use Rattle.ledger_steps.specs.Effects.{left}
use Rattle.program_model.specs.declared.kinds.ClassId.{ClassId}
use Rattle.program_model.specs.declared.kinds.VType.{VType}
use Rattle.program_model.specs.declared.program.ParamSig.{ParamSig}
use Rattle.program_model.specs.declared.program.Program.{Program}
use Rattle.rlc_base.specs.declared.place.Pos.{Pos}
use Rattle.ledger_state.specs.Leaks.{is_leak}
use Rattle.std.specs.List.{All, list_any}
use Rattle.std.proofs.Common.{refl}
use Rattle.std.specs.Prelude.{Option, if◌then◌else◌, List, Some, [], false, nat_eq, None, slice_get, true, ℕ, ◌+◌, ◌<◌, ◌≡◌, ◌⊎◌}
use Rattle.heap_laws.proofs.LeadLaws.{fields_keep, leads_end, leads_go_on, leads_itself, leads_over, leads_root, linked_root, number_over, value_before, value_over}
use Rattle.heap_laws.proofs.LinkLaws.{appended_evolves, appended_links, frame_evolves, frame_links, holder_evolves, holder_links, lost_evolves, lost_links, moved_links, noted_links, value_evolves, value_links}
use Rattle.heap_laws.proofs.EndLaws.{frame_back, holder_back}
use Rattle.heap_laws.proofs.LineLaws.{birth_none, called_none, end_none, holder_none, leaks_unchanged, owner_none, reset_none, step_none}
use Rattle.heap_laws.proofs.MoveLaws.{moved_back, moved_takes, params_caused, params_count, params_evolve, params_given, params_older}
use Rattle.heap_laws.proofs.NoteLaws.{noted_evolves, noted_goes_on, noted_has}
use Rattle.heap_laws.proofs.ObjectLaws.{appended_at, appended_count, changed_at, changed_count, evolves_further, evolves_self, in_range, not_lost, root_changed, unchanged}
use Rattle.heap_laws.proofs.FollowLaws.{all_closed, content_noted, names_noted, root_noted}
use Rattle.heap_laws.proofs.RootLaws.{evolves_links, earlier_links_go_on, root_absent, root_goes_on, root_is_not_linked, root_itself, root_linked, root_of_goes_on, root_there}

pub changed_object_at-object : (change : ℕ → Object → Object) (h : HeapContents) (k : ℕ) → object_at (change_each change h) k ≡ option_map (change k) (object_at h k)
changed_object_at-object = changed_at

pub changed_object_at-count : (change : ℕ → Object → Object) (h : HeapContents) → next_number (change_each change h) ≡ next_number h
changed_object_at-count = changed_count

pub appended_object_at-object : (h : HeapContents) (c : ClassId) (k : ℕ) → object_at (append h c) k ≡ (if nat_eq k (next_number h) then Some (unfinished c) else object_at h k)
appended_object_at-object = appended_at

pub appended_object_at-count : (h : HeapContents) (c : ClassId) → next_number (append h c) ≡ next_number h + 1
appended_object_at-count = appended_count

pub numbers_are_in_range : (h : HeapContents) (k : ℕ) (x : Object) → object_at h k ≡ Some x → (0 < k) × (k < next_number h)
numbers_are_in_range = in_range

pub nothing_is_changed : (change : ℕ → Object → Object) (h : HeapContents) → ((k : ℕ) (x : Object) → object_at h k ≡ Some x → change k x ≡ x) → change_each change h ≡ h
nothing_is_changed = unchanged

pub nothing_is_lost : (held : List (List Value)) (h : HeapContents) → ((k : ℕ) (x : Object) → object_at h k ≡ Some x → is_unmet x ≡ true → owner_holds h held x.owner k ≡ true) → lose held h ≡ h
nothing_is_lost = not_lost

pub evolving_heaps-same : (h : HeapContents) → Evolves h h
evolving_heaps-same = evolves_self

pub evolving_heaps-further : (h k j : HeapContents) → Evolves h k → Evolves k j → Evolves h j
evolving_heaps-further = evolves_further

pub evolving_heaps-links : (h k : HeapContents) → Evolves h k → KeepsLinks h k
evolving_heaps-links = evolves_links

pub roots_of_links-itself : (h : HeapContents) (k : ℕ) (x : Object) → object_at h k ≡ Some x → x.link ≡ None → root h k ≡ k
roots_of_links-itself = root_itself

pub roots_of_links-there : (h : HeapContents) (k : ℕ) (x : Object) → HasEarlierLinks h → object_at h k ≡ Some x → (y : Object) × (object_at h (root h k) ≡ Some y) × (y.link ≡ None)
roots_of_links-there = root_there

pub roots_of_links-linked : (h : HeapContents) (k : ℕ) (x : Object) (l : Link) → HasEarlierLinks h → object_at h k ≡ Some x → x.link ≡ Some l → root h k ≡ root h l.to
roots_of_links-linked = root_linked

pub roots_of_links-absent : (h : HeapContents) (k : ℕ) → object_at h k ≡ None → root h k ≡ k
roots_of_links-absent = root_absent

pub roots_go_on-number : (h k : HeapContents) (n : ℕ) (x : Object) → HasEarlierLinks h → KeepsLinks h k → object_at h n ≡ Some x → root k n ≡ root h n
roots_go_on-number = root_goes_on

pub roots_go_on-value : (h k : HeapContents) (v : Value) (o : ℕ) (x : Object) → HasEarlierLinks h → KeepsLinks h k → root_of h v ≡ Some o → object_at h o ≡ Some x → root_of k v ≡ Some o
roots_go_on-value = root_of_goes_on

pub roots_go_on-root : (h : HeapContents) (v : Value) (o : ℕ) (x : Object) → HasEarlierLinks h → root_of h v ≡ Some o → object_at h o ≡ Some x → x.link ≡ None
roots_go_on-root = root_is_not_linked

pub links_go_on : (h k : HeapContents) → HasEarlierLinks h
    → ((n : ℕ) (y : Object) (l : Link) → object_at k n ≡ Some y → y.link ≡ Some l → (x : Object) × (object_at h n ≡ Some x) × (x.link ≡ Some l) × (y.owner ≡ x.owner) × (y.finished ≡ x.finished))
    → HasEarlierLinks k
links_go_on = earlier_links_go_on

pub root_of_changed : (change : ℕ → Object → Object) (h : HeapContents) (k : ℕ) → ((n : ℕ) (x : Object) → (change n x).link ≡ x.link) → root (change_each change h) k ≡ root h k
root_of_changed = root_changed

pub moved_arguments_are_older-older : (p : Program) (o : Owner) (arguments : ℕ → Value) (k : ℕ) (params : List ParamSig) (h : HeapContents) (n : ℕ) (y : Object) → object_at (move_params p o arguments k params h) n ≡ Some y → IsOlder h n y o
moved_arguments_are_older-older = params_older

pub moved_arguments_are_older-evolves : (p : Program) (o : Owner) (arguments : ℕ → Value) (k : ℕ) (params : List ParamSig) (h : HeapContents) → Evolves h (move_params p o arguments k params h)
moved_arguments_are_older-evolves = params_evolve

pub moves_make_nothing : (p : Program) (o : Owner) (arguments : ℕ → Value) (k : ℕ) (params : List ParamSig) (h : HeapContents) → next_number (move_params p o arguments k params h) ≡ next_number h
moves_make_nothing = params_count

pub given_arguments_are_owned : (p : Program) (o : Owner) (arguments : ℕ → Value) (k i : ℕ) (params : List ParamSig) (q : ParamSig) (h : HeapContents) (n : ℕ) (x : Object) → slice_get params i ≡ Some q → q.owning ≡ true → root_of h (arguments (k + i)) ≡ Some n → object_at h n ≡ Some x → may_move p q.vtype x ≡ true → (y : Object) × (object_at (move_params p o arguments k params h) n ≡ Some y) × (y.owner ≡ o)
given_arguments_are_owned = params_given

pub notes_add_names-object : (notes : List Note) (k : ℕ) (x : Object) → GoesOn x (noted_object notes k x)
notes_add_names-object = noted_goes_on

pub notes_add_names-owner : (notes : List Note) (k : ℕ) (x : Object) → (noted_object notes k x).owner ≡ x.owner
notes_add_names-owner notes k x = refl

pub notes_add_names-heap : (p : Program) (notes : List Note) (h : HeapContents) → Evolves h (noted p notes h)
notes_add_names-heap = noted_evolves

pub noted_names_stand : (p : Program) (notes : List Note) (h : HeapContents) (a : Note) (x : Object) → has_note notes a ≡ true → a.name.0 < 128 → set.contains (noted_object (all_notes p h notes) a.object x).called a.name.0 ≡ true
noted_names_stand = noted_has

pub following_notes_stand : (p : Program) (notes : List Note) (h : HeapContents) (a b : Note) → All HasSmallName notes → has_note (all_notes p h notes) a ≡ true → has_note (follows p h a) b ≡ true → has_note (all_notes p h notes) b ≡ true
following_notes_stand p notes h a b small = all_closed p h notes small a b

pub called_names_are_noted : (p : Program) (notes : List Note) (h : HeapContents) (k i : ℕ) (x : Object) → set.contains (noted_object (all_notes p h notes) k x).called i ≡ true
    → (set.contains x.called i ≡ true) ⊎ ((has_note notes (note false k (name_of i)) ≡ true) ⊎ (has_note (all_notes p h notes) (note true k (name_of i)) ≡ true))
called_names_are_noted p notes h k i x = names_noted p h notes k i x

pub noted_names_reach_roots : (p : Program) (notes : List Note) (h : HeapContents) (a : Note) (r : ℕ) (x y : Object) → All HasSmallName notes → has_note notes a ≡ true → object_at h a.object ≡ Some x
    → is_passed_on p a x ≡ true → Leads p h a.object r → object_at (noted p notes h) r ≡ Some y → set.contains y.called a.name.0 ≡ true
noted_names_reach_roots p notes h = root_noted p h notes

pub kept_names_reach_contents : (p : Program) (notes : List Note) (h : HeapContents) (w v o i : ℕ) (n : NameId) (x y : Object) (f : FieldId) → All HasSmallName notes
    → has_note (all_notes p h notes) (note true w n) ≡ true → object_at h w ≡ Some x
    → set.contains (promised_names (λ t. is_of_field t f) (own_promises p x.class n)) i ≡ true → i < 128
    → field_value p h w f ≡ values.Object v → Leads p h v o → object_at (noted p notes h) o ≡ Some y → set.contains y.called i ≡ true
kept_names_reach_contents p notes h = content_noted p h notes

pub leading_links-root : (p : Program) (h : HeapContents) (k r : ℕ) → HasEarlierLinks h → Leads p h k r → root h k ≡ r
leading_links-root = leads_root

pub leading_links-end : (p : Program) (h : HeapContents) (k r : ℕ) → Leads p h k r → (y : Object) × (object_at h r ≡ Some y) × (y.link ≡ None)
leading_links-end = leads_end

pub leading_links-itself : (p : Program) (h : HeapContents) (k r : ℕ) (x : Object) → root h k ≡ r → object_at h k ≡ Some x → x.link ≡ None → Leads p h k r
leading_links-itself = leads_itself

pub leading_links-on : (p : Program) (h j : HeapContents) (k r : ℕ) → HasEarlierLinks h → Evolves h j → KeepsContents p h j → Leads p h k r → Leads p j k r
leading_links-on = leads_go_on

pub unchanged_fields_keep_contents : (p : Program) (h j : HeapContents) → j.fields ≡ h.fields → KeepsContents p h j
unchanged_fields_keep_contents = fields_keep

pub leading_links_over_a_link : (h j : HeapContents) (w : ℕ) (l : Link) → HasEarlierLinks h → LinksOne w l h j → (p : Program) → KeepsContents p h j → (o : ℕ) → Leads p j w o
    → (k r : ℕ) → Leads p h k r → (r ≡ w → Leads p j k o) × ((r ≡ w → ⊥) → Leads p j k r)
leading_links_over_a_link = leads_over

pub roots_over_a_link-linked : (h j : HeapContents) (w : ℕ) (l : Link) → HasEarlierLinks h → LinksOne w l h j → HasEarlierLinks j → root j w ≡ root h l.to
roots_over_a_link-linked = linked_root

pub roots_over_a_link-number : (h j : HeapContents) (w : ℕ) (l : Link) → HasEarlierLinks h → LinksOne w l h j → HasEarlierLinks j → (k : ℕ) (x : Object) → object_at h k ≡ Some x
    → (root h k ≡ w → root j k ≡ root h l.to) × ((root h k ≡ w → ⊥) → root j k ≡ root h k)
roots_over_a_link-number = number_over

pub roots_over_a_link-value : (h j : HeapContents) (w : ℕ) (l : Link) → HasEarlierLinks h → LinksOne w l h j → HasEarlierLinks j → (v : Value) (r : ℕ) (x : Object) → root_of h v ≡ Some r
    → object_at h r ≡ Some x → (r ≡ w → root_of j v ≡ Some (root h l.to)) × ((r ≡ w → ⊥) → root_of j v ≡ Some r)
roots_over_a_link-value = value_over

pub roots_over_a_link-before : (h j : HeapContents) (w : ℕ) (l : Link) → HasEarlierLinks h → LinksOne w l h j → HasEarlierLinks j → (v : Value) (o : ℕ) (y : Object) → root_of j v ≡ Some o
    → object_at j o ≡ Some y → (root_of h v ≡ Some o) ⊎ ((root_of h v ≡ Some w) × (root h l.to ≡ o))
roots_over_a_link-before = value_before

pub owner_lines_leak_nothing : (p : Program) (pos : Pos) (h k : HeapContents) → list_any is_leak (owner_entries p pos h k) ≡ false
owner_lines_leak_nothing = owner_none

pub called_lines_leak_nothing : (p : Program) (pos : Pos) (h k : HeapContents) → list_any is_leak (called_entries p pos h k) ≡ false
called_lines_leak_nothing = called_none

pub reset_lines_leak_nothing : (p : Program) (pos : Pos) (roots : List ℕ) (h : HeapContents) → list_any is_leak (reset_entries p pos roots h) ≡ false
reset_lines_leak_nothing = reset_none

pub birth_lines_leak_nothing : (p : Program) (pos : Pos) (h k : HeapContents) → list_any is_leak (birth_entries p pos h k) ≡ false
birth_lines_leak_nothing = birth_none

pub step_leaks_nothing-lines : (p : Program) (pos : Pos) (held : List (List Value)) (lines : List Entry) (h : HeapContents) → lose held h ≡ h → list_any is_leak lines ≡ false → list_any is_leak (left p pos held lines [] h).lines ≡ false
step_leaks_nothing-lines = step_none

pub step_leaks_nothing-unchanged : (p : Program) (word : LeakWord) (pos : Pos) (h : HeapContents) → leak_entries p word pos h h ≡ []
step_leaks_nothing-unchanged = leaks_unchanged

pub end_of_frame_leaks_nothing : (p : Program) (word : LeakWord) (pos : Pos) (j : ℕ) (h : HeapContents) → ((n : ℕ) (x : Object) → object_at h n ≡ Some x → is_frame x.owner j ≡ true → is_unmet x ≡ false) → leak_entries p word pos h (end_frame j h) ≡ []
end_of_frame_leaks_nothing = end_none

pub moved_arguments_are_given : (p : Program) (o : Owner) (arguments : ℕ → Value) (k : ℕ) (params : List ParamSig) (h : HeapContents) (n : ℕ) (x y : Object) → object_at h n ≡ Some x
    → object_at (move_params p o arguments k params h) n ≡ Some y → (y.owner ≡ x.owner) ⊎ IsGiven p arguments k params h n x
moved_arguments_are_given = params_caused

pub moved_value-before : (p : Program) (t : VType) (o : Owner) (v : Value) (h : HeapContents) (n : ℕ) (y : Object) → object_at (move p t o v h) n ≡ Some y
    → (x : Object) × (object_at h n ≡ Some x) × IsMovedFrom p t o (root_of h v) n x y
moved_value-before = moved_back

pub moved_value-taken : (p : Program) (t : VType) (o : Owner) (v : Value) (h : HeapContents) (n : ℕ) (x y : Object) → root_of h v ≡ Some n → object_at h n ≡ Some x → may_move p t x ≡ true
    → object_at (move p t o v h) n ≡ Some y → y.owner ≡ o
moved_value-taken = moved_takes

pub ended_frame_gives_up : (j : ℕ) (h : HeapContents) (n : ℕ) (y : Object) → object_at (end_frame j h) n ≡ Some y → (x : Object) × (object_at h n ≡ Some x) × IsKeptOr (is_frame x.owner j) x y
ended_frame_gives_up = frame_back

pub ended_holder_gives_up : (w : ℕ) (h : HeapContents) (n : ℕ) (y : Object) → object_at (end_holder (Some w) h) n ≡ Some y → (x : Object) × (object_at h n ≡ Some x) × IsKeptOr (is_held_by x.owner w) x y
ended_holder_gives_up w h n y at = holder_back (Some w) h n y at

pub end_of_holder_leaks_nothing : (p : Program) (word : LeakWord) (pos : Pos) (w : Option ℕ) (h : HeapContents) → ((n : ℕ) (x : Object) (k : ℕ) → object_at h n ≡ Some x → is_held_by x.owner k ≡ true → is_unmet x ≡ false)
    → leak_entries p word pos h (end_holder w h) ≡ []
end_of_holder_leaks_nothing = holder_none

pub links_stay-moved : (p : Program) (o : Owner) (arguments : ℕ → Value) (k : ℕ) (params : List ParamSig) (h : HeapContents) → HasEarlierLinks h → HasEarlierLinks (move_params p o arguments k params h)
links_stay-moved = moved_links

pub links_stay-value : (p : Program) (t : VType) (o : Owner) (v : Value) (h : HeapContents) → HasEarlierLinks h → HasEarlierLinks (move p t o v h)
links_stay-value = value_links

pub links_stay-made : (h : HeapContents) (c : ClassId) → HasEarlierLinks h → HasEarlierLinks (append h c)
links_stay-made = appended_links

pub links_stay-noted : (p : Program) (notes : List Note) (h : HeapContents) → HasEarlierLinks h → HasEarlierLinks (noted p notes h)
links_stay-noted = noted_links

pub links_stay-frame : (j : ℕ) (h : HeapContents) → HasEarlierLinks h → HasEarlierLinks (end_frame j h)
links_stay-frame = frame_links

pub links_stay-holder : (w : Option ℕ) (h : HeapContents) → HasEarlierLinks h → HasEarlierLinks (end_holder w h)
links_stay-holder = holder_links

pub links_stay-lost : (held : List (List Value)) (h : HeapContents) → HasEarlierLinks h → HasEarlierLinks (lose held h)
links_stay-lost = lost_links

pub objects_go_on-value : (p : Program) (t : VType) (o : Owner) (v : Value) (h : HeapContents) → Evolves h (move p t o v h)
objects_go_on-value = value_evolves

pub objects_go_on-made : (h : HeapContents) (c : ClassId) → Evolves h (append h c)
objects_go_on-made = appended_evolves

pub objects_go_on-frame : (j : ℕ) (h : HeapContents) → Evolves h (end_frame j h)
objects_go_on-frame = frame_evolves

pub objects_go_on-holder : (w : Option ℕ) (h : HeapContents) → Evolves h (end_holder w h)
objects_go_on-holder = holder_evolves

pub objects_go_on-lost : (held : List (List Value)) (h : HeapContents) → Evolves h (lose held h)
objects_go_on-lost = lost_evolves
