-- Stores into fields.
use Rattle.std.proofs.Common.{◌≡◌, ◌∙◌, ap, sym, refl, subst, ℕ, ◌+◌, Bool, true, false, not, ◌&&◌, ◌||◌, nat_eq, Option, Some, None, List, [], ◌∷◌, ◌++◌, arith}
use Rattle.std.proofs.lemmas.Grind.{common_steps}
use Rattle.std.specs.Prelude.{Err, IfOk, IfSome, Ok, Result, nat_lt, if◌then◌else◌}
use Rattle.program_model.specs.declared.kinds.ClassId.{ClassId}
use Rattle.program_model.specs.declared.kinds.FieldId.{FieldId}
use Rattle.program_model.specs.declared.kinds.MethodId.{MethodId}
use Rattle.program_model.specs.declared.program.Method.{Method}
use Rattle.program_model.specs.declared.program.Program.{Program}
use Rattle.program_model.specs.Lookups.{method_at, optional}
use Rattle.rlc_base.specs.declared.faults.NoMemory.{NoMemory}
use Rattle.rlc_base.specs.declared.place.Pos.{Pos}
use Rattle.ledger_state.specs.declared.entry.Entry.{Entry}
use Rattle.ledger_state.specs.declared.entry.LeakWord.TheVariants as words
use Rattle.ledger_state.specs.declared.entry.Owner.{Owner}
use Rattle.ledger_state.specs.declared.entry.Owner.TheVariants as owners
use Rattle.ledger_state.specs.declared.object.Link.{Link}
use Rattle.ledger_state.specs.declared.object.Object.{Object}
use Rattle.ledger_state.specs.declared.locals.Locals.{Locals}
use Rattle.ledger_state.specs.declared.value.Value.{Value}
use Rattle.ledger_state.specs.Contents.{HeapContents}
use Rattle.ledger_state.specs.Heaps.{changed_from, has_number, object_at, put_field, same_root, with_objects}
use Rattle.ledger_obligations.specs.declared.stores.OwningStore.{OwningStore}
use Rattle.ledger_obligations.specs.Obligations.{displaced, given_up, held_at, holds, is_unmet, lose, lost_object, moved_where, owner_holds, released_where, stored_owning, with_owner}
use Rattle.ledger_steps.specs.Entries.{by_number, leak_entries}
use Rattle.control_actions.specs.declared.action.Action.{Action}
use Rattle.control_actions.specs.Owned.{is_owning}
use Rattle.ledger_steps.specs.declared.store.Store.{Store}
use Rattle.ledger_steps.specs.Effects.{left}
use Rattle.ledger_steps.specs.InnerSteps.{displaced_entries, displaced_lines, heap_stored, inner, is_bound, owning_lines, store_entries, store_lines, store_of, store_unless, stored_by, thrown_heap}
use Rattle.settled_heaps.specs.Settled.{Settled, is_kept, is_settled}
use Rattle.draft_steps.specs.SpreadNotes.{add_made, put_each}
use Rattle.heap_drafts.specs.declared.saved.SavedObject.{SavedObject}
use Rattle.heap_drafts.specs.Drafts.{ChangesAmong, Drafted, is_saved, numbers_rise, roots_of}
use Rattle.heap_drafts.proofs.DraftLaws.{among_same}
use Rattle.heap_drafts.proofs.RootLaws.{SameLinks, root_of_same, some_among}
use Rattle.heap_drafts.proofs.SettledLaws.{rest_settled}
use Rattle.draft_steps.specs.declared.steps.DraftStep.{DraftStep}
use Rattle.draft_steps.specs.Steps.{IsDraft, put_stored}
use Rattle.draft_stores.specs.OwningStores.{StoredBy, StoresToo, is_zero, store_leaks, store_written}

-- One root

has_one : (o : Option ℕ) (c : ℕ) → o ≡ Some c → has_number (optional o) c ≡ true
has_one o c is = let own : nat_eq c c ≡ true = grind (arith, common_steps) in ap (λ u. has_number (optional u) c) is ∙ ap (λ t. t || false) own

pub root_rises : (o : Option ℕ) → is_zero o ≡ false → numbers_rise 0 (optional o) ≡ true
root_rises None e = refl
root_rises (Some k) e = let up : nat_lt 0 k ≡ true = grind (arith, common_steps, e) in ap (λ t. t && true) up

pub released_among : (b : Bool) (o : Option ℕ) (h g : HeapContents) → g ≡ released_where b o h → ChangesAmong (optional o) h g
released_among b o h g is = subst (λ (i : HeapContents). ChangesAmong (optional o) h i) (sym is) (go b)
  where
    go : (t : Bool) → ChangesAmong (optional o) h (released_where t o h)
    go true = some_among o given_up h (optional o) (λ c at up. has_one o c at) (λ x. refl)
    go false = among_same h (optional o)

pub moved_among : (b : Bool) (o : Option ℕ) (q : Owner) (h g : HeapContents) → g ≡ moved_where b o q h → ChangesAmong (optional o) h g
moved_among b o q h g is = subst (λ (i : HeapContents). ChangesAmong (optional o) h i) (sym is) (go b)
  where
    go : (t : Bool) → ChangesAmong (optional o) h (moved_where t o q h)
    go true = some_among o (with_owner q) h (optional o) (λ c at up. has_one o c at) (λ x. refl)
    go false = among_same h (optional o)

-- A heap with a field that was stored

field_links : (w : ℕ) (f : FieldId) (v : Value) (h : HeapContents) → SameLinks h (put_field w f v h)
field_links w f v h e = refl

holds_field : (w : ℕ) (f : FieldId) (v : Value) (h : HeapContents) (vs : List Value) (k : ℕ) → holds (put_field w f v h) vs k ≡ holds h vs k
holds_field w f v h [] k = refl
holds_field w f v h (u ∷ vs) k = λ i. same_root (root_of_same h (put_field w f v h) u (field_links w f v h) refl i) (Some k) || holds_field w f v h vs k i

owner_field : (w : ℕ) (f : FieldId) (v : Value) (h : HeapContents) (held : List (List Value)) (o : Owner) (k : ℕ) → owner_holds (put_field w f v h) held o k ≡ owner_holds h held o k
owner_field w f v h held (owners.Frame j) k = holds_field w f v h (held_at held j) k
owner_field w f v h held (owners.Field u g) k = refl
owner_field w f v h held owners.Library k = refl
owner_field w f v h held owners.Released k = refl
owner_field w f v h held owners.Lost k = refl
owner_field w f v h held owners.Unowned k = refl

lost_field : (w : ℕ) (f : FieldId) (v : Value) (h : HeapContents) (held : List (List Value)) (k : ℕ) (x : Object) → lost_object (put_field w f v h) held k x ≡ lost_object h held k x
lost_field w f v h held k x = ap (λ b. if is_unmet x && not b then with_owner owners.Lost x else x) (owner_field w f v h held x.owner k)

changed_alike : (f g : ℕ → Object → Object) (j : ℕ) (xs : List Object) → ((k : ℕ) (x : Object) → f k x ≡ g k x) → changed_from j f xs ≡ changed_from j g xs
changed_alike f g j [] e = refl
changed_alike f g j (x ∷ xs) e = λ i. e j x i ∷ changed_alike f g (j + 1) xs e i

objects_field : (w : ℕ) (f : FieldId) (v : Value) (h : HeapContents) (held : List (List Value)) → changed_from 1 (lost_object (put_field w f v h) held) h.objects ≡ changed_from 1 (lost_object h held) h.objects
objects_field w f v h held = changed_alike (lost_object (put_field w f v h) held) (lost_object h held) 1 h.objects (lost_field w f v h held)

kept_field : (w : ℕ) (f : FieldId) (v : Value) (h : HeapContents) (held : List (List Value)) (o : Owner) (l : Option Link) (k : ℕ) → is_kept (put_field w f v h) held o l k ≡ is_kept h held o l k
kept_field w f v h held (owners.Frame j) None k = holds_field w f v h (held_at held j) k
kept_field w f v h held (owners.Frame j) (Some l) k = refl
kept_field w f v h held (owners.Field u g) l k = refl
kept_field w f v h held owners.Library l k = refl
kept_field w f v h held owners.Released l k = refl
kept_field w f v h held owners.Lost l k = refl
kept_field w f v h held owners.Unowned l k = refl

settled_field : (w : ℕ) (f : FieldId) (v : Value) (h : HeapContents) (held : List (List Value)) → Settled h held → Settled (put_field w f v h) held
settled_field w f v h held settled k x there = ap (λ b. not (is_unmet x) || b) (kept_field w f v h held x.owner x.link k) ∙ settled k x there

-- the end of a step after which a value is stored is that of the step with the store
stored_one : (p : Program) (pos : Pos) (d e : DraftStep) (s : OwningStore) (h g : HeapContents) (held : List (List Value)) (lines leaks : List Entry) → StoresToo d s e → IsDraft d h held (left p pos held lines leaks g) → d.stored ≡ None → IsDraft e h held (left p pos held lines leaks (put_field s.holder s.field s.value g))
stored_one p pos d e s h g held lines leaks too draft none = record {
  heap =
      (λ i. put_stored (too.stored i) (put_each (too.changes i).items (add_made (too.made i) h)))
      ∙ ap (put_field s.holder s.field s.value) (ap (λ q. put_stored q (put_each d.changes.items (add_made d.made h))) (sym none) ∙ draft.heap)
      ∙ heaps;
  lines = (λ i. (too.lines i).items) ∙ draft.lines ∙ (λ i. lines ++ by_number (with_objects g (sym (objects_field s.holder s.field s.value g held) i)) (leaks ++ leak_entries p words.Lost pos g (with_objects g (sym (objects_field s.holder s.field s.value g held) i))));
  settled = subst (λ (i : HeapContents). Settled i held) heaps (settled_field s.holder s.field s.value (lose held g) held draft.settled);
}
  where
    heaps : put_field s.holder s.field s.value (lose held g) ≡ lose held (put_field s.holder s.field s.value g)
    heaps = λ i. put_field s.holder s.field s.value (with_objects g (sym (objects_field s.holder s.field s.value g held) i))

pub stored_whole : (p : Program) (pos : Pos) (step result : Result (Option DraftStep) NoMemory) (s : OwningStore) (h g : HeapContents) (held : List (List Value)) (lines leaks : List Entry) → IfOk result (λ o. IfSome o (λ e. StoredBy step s e)) → IfOk step (λ o. IfSome o (λ d. IsDraft d h held (left p pos held lines leaks g))) → IfOk step (λ o. IfSome o (λ d. d.stored ≡ None)) → IfOk result (λ o. IfSome o (λ e. IsDraft e h held (left p pos held lines leaks (put_field s.holder s.field s.value g))))
stored_whole p pos step (Err x) s h g held lines leaks by draft none = tt
stored_whole p pos step (Ok None) s h g held lines leaks by draft none = tt
stored_whole p pos (Err x) (Ok (Some e)) s h g held lines leaks by draft none = absurd by
stored_whole p pos (Ok None) (Ok (Some e)) s h g held lines leaks by draft none = absurd by
stored_whole p pos (Ok (Some d)) (Ok (Some e)) s h g held lines leaks by draft none = stored_one p pos d e s h g held lines leaks by draft none

pub some_on : {X : Type 0} (o : Option X) (P Q : X → Type 0) → ((x : X) → P x → Q x) → IfSome o P → IfSome o Q
some_on None P Q f h = h
some_on (Some x) P Q f h = f x h

-- what was not saved, and is no root of what the top frame held, is settled
pub store_rest : (first bs : List SavedObject) (h g : HeapContents) (old new : List Value) (rest : List (List Value)) (roots : List ℕ) → Settled h (old ∷ rest) → Drafted first h bs g → roots ≡ roots_of h old → (k : ℕ) (x : Object) → object_at g k ≡ Some x → is_saved bs k ≡ false → has_number roots k ≡ false → is_settled g (new ∷ rest) k x ≡ true
store_rest first bs h g old new rest roots settled drafted is k x there unsaved none =
    rest_settled h g old new rest k x there drafted.links drafted.longer (ap (λ ks. has_number ks k) (sym is) ∙ none) (settled k x (sym (drafted.others k unsaved) ∙ there))

-- What a step comes to that stores

pub owning_as : (p : Program) (h : HeapContents) (m : Option Method) (l : Locals) (pos : Pos) (held : List (List Value)) (st : Store) (s : OwningStore) → is_owning p st.field ≡ true → s.holder ≡ st.holder → s.field ≡ st.field → s.value ≡ st.value → s.bound ≡ is_bound h m l st.value → left p pos held (store_written p pos h s) (store_leaks p pos h s) (stored_owning p h s.holder s.field s.bound s.value) ≡ left p pos held (store_lines p pos m l st h) (displaced_lines p pos st h) (stored_by p m l st h)
owning_as p h m l pos held st s own holder field value bound =
    (λ i. left p pos held (store_written p pos h (now i)) (store_leaks p pos h (now i)) (stored_owning p h (holder i) (field i) (bound i) (value i)))
    ∙ (λ i. left p pos held (if sym own i then owning_lines p pos st (is_bound h m l st.value) h else []) (if sym own i then leak_entries p words.Overwritten pos h (displaced p h st.holder st.field st.value) else []) (if sym own i then stored_owning p h st.holder st.field (is_bound h m l st.value) st.value else put_field st.holder st.field st.value h))
  where
    now : s ≡ record { holder = st.holder; field = st.field; bound = is_bound h m l st.value; value = st.value }
    now = λ i. record { holder = holder i; field = field i; bound = bound i; value = value i }

pub put_as : (p : Program) (h : HeapContents) (m : Option Method) (l : Locals) (pos : Pos) (held : List (List Value)) (st : Store) → is_owning p st.field ≡ false → left p pos held [] [] (put_field st.holder st.field st.value h) ≡ left p pos held (store_lines p pos m l st h) (displaced_lines p pos st h) (stored_by p m l st h)
put_as p h m l pos held st none =
    λ i. left p pos held (if sym none i then owning_lines p pos st (is_bound h m l st.value) h else []) (if sym none i then leak_entries p words.Overwritten pos h (displaced p h st.holder st.field st.value) else []) (if sym none i then stored_owning p h st.holder st.field (is_bound h m l st.value) st.value else put_field st.holder st.field st.value h)

pub inner_stored : (p : Program) (h : HeapContents) (method : MethodId) (l : Locals) (thrown : Option ClassId) (a : Action) (pos : Pos) (held : List (List Value)) (st : Store) → store_unless thrown (store_of l a) ≡ Some st → left p pos held (store_lines p pos (method_at p method) l st h) (displaced_lines p pos st h) (stored_by p (method_at p method) l st h) ≡ inner p h method l thrown a pos held
inner_stored p h method l (Some x) a pos held st done = absurd (cc)
inner_stored p h method l None a pos held st done =
    λ i. left p pos held (store_entries p pos (method_at p method) l (sym done i) h) (displaced_entries p pos (sym done i) h) (heap_stored p (method_at p method) l (sym done i) h)

-- and of one that stores nothing
pub inner_kept : (p : Program) (h : HeapContents) (method : MethodId) (l : Locals) (thrown : Option ClassId) (a : Action) (pos : Pos) (held : List (List Value)) → store_unless thrown (store_of l a) ≡ None → left p pos held [] [] (thrown_heap p thrown h) ≡ inner p h method l thrown a pos held
inner_kept p h method l thrown a pos held none =
    λ i. left p pos held (store_entries p pos (method_at p method) l (sym none i) (thrown_heap p thrown h)) (displaced_entries p pos (sym none i) (thrown_heap p thrown h)) (heap_stored p (method_at p method) l (sym none i) (thrown_heap p thrown h))
