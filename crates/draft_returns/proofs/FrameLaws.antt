-- What frames and constructors give up as they end.
use Rattle.std.proofs.Common.{◌≡◌, ◌∙◌, ap, sym, refl, subst, ℕ, zero, suc, ◌<◌, ◌≤◌, Bool, true, false, ◌||◌, Option, Some, None, List, [], ◌++◌, length, append-nil, arith}
use Rattle.std.proofs.lemmas.Grind.{common_steps}
use Rattle.std.specs.Prelude.{if◌then◌else◌}
use Rattle.program_model.specs.declared.kinds.ClassId.{ClassId}
use Rattle.program_model.specs.declared.program.Method.{Method}
use Rattle.program_model.specs.declared.program.Program.{Program}
use Rattle.rlc_base.specs.declared.place.Pos.{Pos}
use Rattle.must_call_sets.specs.Bodies.{constructs}
use Rattle.ledger_state.specs.declared.entry.LeakWord.{LeakWord}
use Rattle.ledger_state.specs.declared.entry.Owner.{Owner}
use Rattle.ledger_state.specs.declared.entry.Owner.TheVariants as owners
use Rattle.ledger_state.specs.declared.object.Object.{Object}
use Rattle.ledger_state.specs.declared.value.Value.{Value}
use Rattle.ledger_state.specs.Contents.{HeapContents}
use Rattle.ledger_state.specs.Heaps.{has_number, object_at}
use Rattle.ledger_state.specs.Values.{number_of}
use Rattle.ledger_steps.specs.Entries.{leak_entries}
use Rattle.ledger_obligations.specs.Obligations.{end_holder, given_up, given_up_by_frame, given_up_by_holder, is_frame, is_held_by}
use Rattle.ledger_steps.specs.Ends.{constructor_ended}
use Rattle.object_index.specs.declared.index.ObjectIndex.{ObjectIndex}
use Rattle.object_index.specs.FrameOwners.{list_at, lists_in}
use Rattle.object_index.specs.ObjectIndexes.{contents_of, is_content}
use Rattle.object_index.proofs.IndexLaws.{content_of}
use Rattle.draft_lines.specs.declared.change.ObjectChange.{ObjectChange}
use Rattle.draft_lines.specs.declared.leaks.Leak.{Leak}
use Rattle.draft_lines.specs.DraftLines.{AllOfHeap, Changes, leak_changes, leak_entries_of}
use Rattle.draft_lines.proofs.LeakLaws.{leak_between, leak_entries_append, leaks_append, leaks_of_heap}
use Rattle.heap_drafts.specs.declared.saved.SavedObject.{SavedObject}
use Rattle.heap_drafts.specs.Drafts.{HasNumbers, as_it_is, is_saved, snapshots}
use Rattle.heap_drafts.proofs.DraftLaws.{renewed_has}
use Rattle.heap_drafts.proofs.PlacedLaws.{saved_joined}
use Rattle.draft_stages.specs.Stages.{IndexedRest, saved_numbers}
use Rattle.draft_stages.proofs.AliasLaws.{saved_has}
use Rattle.draft_steps.proofs.StepLaws.{no_changes}
use Rattle.draft_returns.specs.DraftReturns.{ListedRest, OwnedSaved, holder_ended}

number_above : (h : HeapContents) (k : ℕ) (x : Object) → object_at h k ≡ Some x → 0 < k
number_above h zero x found = absurd (cc)
number_above h (suc i) x found = omega arith

not_among : (ks js : List ℕ) (k : ℕ) → HasNumbers ks js → 0 < k → has_number js k ≡ false → has_number ks k ≡ false
not_among ks js k has up none = go (has_number ks k) refl
  where
    go : (b : Bool) → has_number ks k ≡ b → has_number ks k ≡ false
    go true e = let bad : true ≡ false = sym (has k up e) ∙ none in absurd (cc)
    go false e = e

or_true : (a : Bool) → (a || true) ≡ true
or_true true = refl
or_true false = refl

-- The frame

-- an object that the frame owns is one of the candidates
frame_among : (j : ℕ) (bs : List SavedObject) (h : HeapContents) (listed ks : List ℕ) → ListedRest j listed bs h → HasNumbers listed ks → HasNumbers (saved_numbers bs) ks → (k : ℕ) (x : Object) → object_at h k ≡ Some x → is_frame x.owner j ≡ true → has_number ks k ≡ true
frame_among j bs h listed ks rest first second k x found own = go (is_saved bs k) refl
  where
    go : (b : Bool) → is_saved bs k ≡ b → has_number ks k ≡ true
    go true e = second k (number_above h k x found) (saved_has bs k ∙ e)
    go false e = first k (number_above h k x found) (rest k x found e own)

pub frame_outside : (j : ℕ) (bs : List SavedObject) (h : HeapContents) (listed ks : List ℕ) → ListedRest j listed bs h → HasNumbers listed ks → HasNumbers (saved_numbers bs) ks → (k : ℕ) (x : Object) → object_at h k ≡ Some x → has_number ks k ≡ false → given_up_by_frame j k x ≡ x
frame_outside j bs h listed ks rest first second k x found none = go (is_frame x.owner j) refl
  where
    go : (b : Bool) → is_frame x.owner j ≡ b → given_up_by_frame j k x ≡ x
    go true e = let bad : true ≡ false = sym (frame_among j bs h listed ks rest first second k x found e) ∙ none in absurd (cc)
    go false e = ap (λ t. if t then given_up x else x) e

pub frame_saved : (j : ℕ) (bs cs : List SavedObject) (h : HeapContents) (listed ks : List ℕ) → ListedRest j listed bs h → HasNumbers listed ks → HasNumbers (saved_numbers bs) ks → cs ≡ bs ++ snapshots h ks → OwnedSaved j cs h
frame_saved j bs cs h listed ks rest first second saved k x found own =
    ap (λ ds. is_saved ds k) saved
    ∙ saved_joined bs (snapshots h ks) k
    ∙ ap (λ b. is_saved bs k || b) (renewed_has as_it_is h ks k x found ∙ frame_among j bs h listed ks rest first second k x found own)
    ∙ or_true (is_saved bs k)

-- The holder

held_there : (xs : List (List ℕ)) (o : Owner) (w k : ℕ) → is_content xs o k ≡ true → is_held_by o w ≡ true → has_number (list_at xs w) k ≡ true
held_there xs (owners.Field v f) w k e own = let same : v ≡ w = grind (arith, common_steps, own) in ap (λ m. has_number (list_at xs m) k) (sym same) ∙ e
held_there xs (owners.Frame j) w k e own = absurd (cc)
held_there xs owners.Library w k e own = absurd (cc)
held_there xs owners.Released w k e own = absurd (cc)
held_there xs owners.Lost w k e own = absurd (cc)
held_there xs owners.Unowned w k e own = absurd (cc)

pub holder_outside : (index : ObjectIndex) (w : ℕ) (bs : List SavedObject) (h : HeapContents) (ks : List ℕ) → IndexedRest index bs h → HasNumbers (contents_of index w) ks → HasNumbers (saved_numbers bs) ks → (k : ℕ) (x : Object) → object_at h k ≡ Some x → has_number ks k ≡ false → given_up_by_holder w k x ≡ x
holder_outside index w bs h ks indexed first second k x found none = go (is_held_by x.owner w) refl
  where
    up : 0 < k
    up = number_above h k x found

    unsaved : is_saved bs k ≡ false
    unsaved = sym (saved_has bs k) ∙ not_among (saved_numbers bs) ks k second up none

    go : (b : Bool) → is_held_by x.owner w ≡ b → given_up_by_holder w k x ≡ x
    go true e =
        let listed : has_number (contents_of index w) k ≡ true = held_there (lists_in index.contents.items) x.owner w k (content_of index k x (indexed k x found unsaved)) e in
        let bad : true ≡ false = sym listed ∙ not_among (contents_of index w) ks k first up none in
        absurd (cc)
    go false e = ap (λ t. if t then given_up x else x) e

-- The leaks

pub leaks_more : (p : Program) (word : LeakWord) (pos : Pos) (h g f : HeapContents) (rows : List ObjectChange) (ls ms : List Leak) → Changes h g rows → ms ≡ ls ++ leak_changes p word pos rows → g ≡ f → leak_entries_of ms ≡ leak_entries_of ls ++ leak_entries p word pos h f
leaks_more p word pos h g f rows ls ms changes is same =
    ap (λ ns. leak_entries_of ns) is
    ∙ leak_entries_append ls (leak_changes p word pos rows)
    ∙ ap (λ es. leak_entries_of ls ++ es) (sym (leak_between p word pos h g rows changes))
    ∙ ap (λ (i : HeapContents). leak_entries_of ls ++ leak_entries p word pos h i) same

pub of_heap_more : (h g : HeapContents) (ls : List Leak) → length h.objects ≤ length g.objects → AllOfHeap h ls → AllOfHeap g ls
of_heap_more h g ls longer all k d within = ((all k d within).0, let most = (all k d within).1 in omega (arith, most, longer))

pub leaks_there : (p : Program) (word : LeakWord) (pos : Pos) (h g : HeapContents) (rows : List ObjectChange) (ls ms : List Leak) → Changes h g rows → length h.objects ≤ length g.objects → ms ≡ ls ++ leak_changes p word pos rows → AllOfHeap h ls → AllOfHeap g ms
leaks_there p word pos h g rows ls ms changes longer is all =
    subst (λ (ns : List Leak). AllOfHeap g ns) (sym is)
    (leaks_append g ls (leak_changes p word pos rows) (of_heap_more h g ls longer all) (leaks_of_heap p word pos h g rows changes.between))

-- A constructor that ends by an exception

pub ended_holder : (self : Value) (runs : Option Method) (e : Option ClassId) (h : HeapContents) → end_holder (holder_ended self runs e) h ≡ constructor_ended self runs e h
ended_holder self runs None h = refl
ended_holder self runs (Some e) h = go (constructs runs)
  where
    go : (b : Bool) → end_holder (if b then number_of self else None) h ≡ (if b then end_holder (number_of self) h else h)
    go true = refl
    go false = refl

pub none_ended : (self : Value) (runs : Option Method) (e : Option ClassId) (h : HeapContents) → holder_ended self runs e ≡ None → h ≡ constructor_ended self runs e h
none_ended self runs e h none = sym (ap (λ o. end_holder o h) none) ∙ ended_holder self runs e h

pub none_leaks : (p : Program) (word : LeakWord) (pos : Pos) (h f : HeapContents) (ls : List Leak) → h ≡ f → leak_entries_of ls ≡ leak_entries_of ls ++ leak_entries p word pos h f
none_leaks p word pos h f ls same =
    sym (append-nil (leak_entries_of ls))
    ∙ ap (λ es. leak_entries_of ls ++ es) (sym (leak_between p word pos h h [] (no_changes h)))
    ∙ ap (λ (i : HeapContents). leak_entries_of ls ++ leak_entries p word pos h i) same
