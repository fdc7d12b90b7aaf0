-- Results that move, and objects that are finished.
use Rattle.std.proofs.Common.{◌≡◌, ◌∙◌, ap, sym, refl, subst, ℕ, Bool, true, false, not, ◌&&◌, ◌||◌, nat_eq, Option, Some, None, List, [], ◌∷◌, ◌++◌, length, drop, append-nil, arith}
use Rattle.std.proofs.lemmas.Grind.{common_steps}
use Rattle.std.specs.Prelude.{if◌then◌else◌}
use Rattle.program_model.specs.declared.kinds.ClassId.{ClassId}
use Rattle.program_model.specs.declared.kinds.VType.{VType}
use Rattle.program_model.specs.declared.program.Method.{Method}
use Rattle.program_model.specs.declared.program.Program.{Program}
use Rattle.program_model.specs.Lookups.{optional}
use Rattle.rlc_base.specs.declared.place.Pos.{Pos}
use Rattle.ledger_state.specs.declared.entry.Entry.{Entry}
use Rattle.ledger_state.specs.declared.entry.Owner.TheVariants as owners
use Rattle.ledger_state.specs.declared.object.Object.{Object}
use Rattle.ledger_state.specs.declared.value.Value.{Value}
use Rattle.control_actions.specs.declared.action.Action.{Action}
use Rattle.control_actions.specs.declared.action.Action.TheVariants as actions
use Rattle.ledger_state.specs.Values.{number_of}
use Rattle.ledger_state.specs.Contents.{HeapContents}
use Rattle.ledger_state.specs.Heaps.{change_one, has_number, link_of, linked_by, object_at, root_of}
use Rattle.ledger_state.proofs.HeapLemmas.{change_one_put}
use Rattle.ledger_calls.specs.Calls.{is_alias}
use Rattle.ledger_calls.specs.Conducts.{owning_in, result_in}
use Rattle.ledger_steps.specs.Entries.{birth_entries, owner_entries}
use Rattle.ledger_steps.specs.Ends.{moved_as, object_finished, program_birth, result_moved, self_finished}
use Rattle.draft_returns.specs.DraftReturns.{newborn}
use Rattle.draft_lines.specs.declared.change.ObjectChange.{ObjectChange}
use Rattle.draft_lines.specs.DraftLines.{birth_changes, owner_changes}
use Rattle.draft_lines.proofs.ChangedLines.{birth_between, owner_between}
use Rattle.heap_drafts.specs.declared.saved.SavedObject.{SavedObject}
use Rattle.heap_drafts.specs.Drafts.{ChangesAmong, HasNumbers, numbers_rise, roots_of, snapshots}
use Rattle.heap_drafts.proofs.DraftLaws.{among_same}
use Rattle.heap_drafts.proofs.RootLaws.{free_among, move_among}
use Rattle.draft_stages.specs.Stages.{changes_since, saved_numbers}
use Rattle.draft_stages.proofs.StageLaws.{rows_after}
use Rattle.draft_steps.proofs.StepLaws.{no_changes}

-- The result

root_here : (o : Option ℕ) (c : ℕ) → o ≡ Some c → has_number (optional o ++ []) c ≡ true
root_here o c is =
    let own : nat_eq c c ≡ true = grind (arith, common_steps) in
    ap (λ u. has_number (optional u ++ []) c) is ∙ ap (λ t. t || false) own

as_among : (p : Program) (i : ℕ) (t : Option VType) (v : Value) (h : HeapContents) (ks : List ℕ) → HasNumbers (roots_of h (v ∷ [])) ks → ChangesAmong ks h (moved_as p i t v h)
as_among p i None v h ks has = among_same h ks
as_among p i (Some t) v h ks has = move_among p t (owners.Frame i) v h ks (λ c root above. has c above (root_here (root_of h v) c root))

where_moved : (b : Bool) (p : Program) (i : ℕ) (t : Option VType) (v : Value) (h : HeapContents) (ks : List ℕ) → HasNumbers (roots_of h (v ∷ [])) ks → ChangesAmong ks h (if b then moved_as p i t v h else h)
where_moved true p i t v h ks has = as_among p i t v h ks has
where_moved false p i t v h ks has = among_same h ks

pub result_among : (p : Program) (i : ℕ) (runs : Option Method) (v : Value) (e : Option ClassId) (h g : HeapContents) (ks : List ℕ) → HasNumbers (roots_of h (v ∷ [])) ks → g ≡ result_moved p i runs v e h → ChangesAmong ks h g
result_among p i runs v None h g ks has is =
    subst (λ (f : HeapContents). ChangesAmong ks h f) (sym is) (where_moved (owning_in runs && not (is_alias runs)) p i (result_in runs) v h ks has)
result_among p i runs v (Some e) h g ks has is = subst (λ (f : HeapContents). ChangesAmong ks h f) (sym is) (among_same h ks)

-- the numbers are the same

pub numbers_as : (js ks ns : List ℕ) → ks ≡ ns → HasNumbers js ns → HasNumbers js ks
numbers_as js ks ns same has = subst (λ (ms : List ℕ). HasNumbers js ms) (sym same) has

pub saved_as_numbers : (bs cs : List SavedObject) (ks ns : List ℕ) → cs ≡ bs → ks ≡ ns → HasNumbers (saved_numbers cs) ns → HasNumbers (saved_numbers bs) ks
saved_as_numbers bs cs ks ns saved same has = numbers_as (saved_numbers bs) ks ns same (subst (λ (ds : List SavedObject). HasNumbers (saved_numbers ds) ns) saved has)

-- A stage by which only objects with these numbers change

pub owners_after : (p : Program) (pos : Pos) (bs cs : List SavedObject) (h g f : HeapContents) (ks : List ℕ) (rows : List ObjectChange) (from : ℕ) → cs ≡ bs ++ snapshots h ks → from ≡ length bs → rows ≡ changes_since g (drop from cs) → numbers_rise 0 ks ≡ true → ChangesAmong ks h g → g ≡ f → (old new : List Entry) → new ≡ old ++ owner_changes p pos rows → new ≡ old ++ owner_entries p pos h f
owners_after p pos bs cs h g f ks rows from saved start is rise among same old new put =
    put
    ∙ ap (λ es. old ++ es) (sym (owner_between p pos h g rows (rows_after bs cs h g ks rows from saved start is rise among)))
    ∙ ap (λ (i : HeapContents). old ++ owner_entries p pos h i) same

pub births_after : (p : Program) (pos : Pos) (bs cs : List SavedObject) (h g f : HeapContents) (ks : List ℕ) (rows : List ObjectChange) (from : ℕ) → cs ≡ bs ++ snapshots h ks → from ≡ length bs → rows ≡ changes_since g (drop from cs) → numbers_rise 0 ks ≡ true → ChangesAmong ks h g → g ≡ f → (old new : List Entry) → new ≡ old ++ birth_changes p pos rows → new ≡ old ++ birth_entries p pos h f
births_after p pos bs cs h g f ks rows from saved start is rise among same old new put =
    put
    ∙ ap (λ es. old ++ es) (sym (birth_between p pos h g rows (rows_after bs cs h g ks rows from saved start is rise among)))
    ∙ ap (λ (i : HeapContents). old ++ birth_entries p pos h i) same

-- The object that is finished

pub birth_among : (p : Program) (i : ℕ) (m : Option Method) (alias : Option ℕ) (h g : HeapContents) (k : ℕ) (x : Object) (ks : List ℕ) → object_at h k ≡ Some x → x.link ≡ None → HasNumbers (k ∷ []) ks → g ≡ change_one k (λ _. object_finished p i m alias x) h → ChangesAmong ks h g
birth_among p i m alias h g k x ks found alone has is =
    let own : nat_eq k k ≡ true = grind (arith, common_steps) in
    let one : has_number (k ∷ []) k ≡ true = ap (λ t. t || false) own in
    let free : link_of (object_at h k) ≡ None = ap link_of found ∙ ap (λ l. linked_by l) alone in
    subst (λ (f : HeapContents). ChangesAmong ks h f) (sym is)
    (free_among k (λ _. object_finished p i m alias x) h ks (λ above. has k above one) free)

pub birth_is : (p : Program) (i : ℕ) (m : Option Method) (alias : Option ℕ) (h g : HeapContents) (k : ℕ) (x : Object) → object_at h k ≡ Some x → g ≡ change_one k (λ _. object_finished p i m alias x) h → g ≡ change_one k (object_finished p i m alias) h
birth_is p i m alias h g k x found is = is ∙ change_one_put (object_finished p i m alias) x h k found

-- No object is finished

pub none_born : (p : Program) (i : ℕ) (a : Action) (named : Option Method) (self : Value) (alias : Option ℕ) (e : Option ClassId) (h : HeapContents) → newborn a self e ≡ None → h ≡ program_birth p i a named (number_of self) alias e h
none_born p i a named self alias (Some e) h none = refl
none_born p i (actions.New m d n) named self alias None h none = sym (ap (λ s. self_finished p i named s alias h) none)
none_born p i a named self alias None h none = refl

pub none_births : (p : Program) (pos : Pos) (h f : HeapContents) (es : List Entry) → h ≡ f → es ≡ es ++ birth_entries p pos h f
none_births p pos h f es same =
    sym (append-nil es)
    ∙ ap (λ fs. es ++ fs) (sym (birth_between p pos h h [] (no_changes h)))
    ∙ ap (λ (i : HeapContents). es ++ birth_entries p pos h i) same
