-- The changes of stages.
use Rattle.std.proofs.Common.{◌≡◌, ◌∙◌, ap, sym, refl, subst, ℕ, zero, suc, ◌<◌, ◌≤◌, drop, Bool, true, false, nat_eq, Some, option_map, List, [], ◌∷◌, ◌++◌, length, arith}
use Rattle.std.specs.Prelude.{if◌then◌else◌}
use Rattle.std.specs.List.{All}
use Rattle.program_model.specs.declared.program.Program.{Program}
use Rattle.rlc_base.specs.declared.place.Pos.{Pos}
use Rattle.ledger_state.specs.declared.entry.LeakWord.{LeakWord}
use Rattle.ledger_state.specs.declared.object.Object.{Object}
use Rattle.ledger_state.specs.declared.value.Value.{Value}
use Rattle.ledger_state.specs.Contents.{HeapContents}
use Rattle.ledger_state.specs.Heaps.{has_number, is_reached, object_at, root}
use Rattle.ledger_obligations.specs.Obligations.{emptied, reset_in, reset_roots}
use Rattle.heap_drafts.specs.Settled.{is_settled}
use Rattle.draft_lines.specs.declared.change.ObjectChange.{ObjectChange}
use Rattle.draft_lines.specs.declared.leaks.Leak.{Leak}
use Rattle.draft_lines.specs.DraftLines.{AllOfHeap, Changes, ResetBy, leak_changes}
use Rattle.draft_lines.proofs.LeakLaws.{leaks_append, leaks_of_heap}
use Rattle.heap_drafts.specs.declared.saved.SavedObject.{SavedObject}
use Rattle.heap_drafts.specs.Drafts.{ChangesAmong, HasNumbers, is_saved, numbers_rise, snapshots}
use Rattle.heap_drafts.proofs.PlacedLaws.{object_each}
use Rattle.draft_stages.specs.Stages.{AllWithRoots, changes_since, saved_numbers}
use Rattle.draft_stages.proofs.AliasLaws.{saved_has}
use Rattle.draft_stages.proofs.RowLaws.{rows_between, rows_reset}

drop_joined : (bs cs : List SavedObject) → drop (length bs) (bs ++ cs) ≡ cs
drop_joined [] cs = refl
drop_joined (b ∷ bs) cs = drop_joined bs cs

-- the changes behind those of the objects that were saved before
pub rows_after : (bs cs : List SavedObject) (h g : HeapContents) (ks : List ℕ) (rows : List ObjectChange) (from : ℕ) → cs ≡ bs ++ snapshots h ks → from ≡ length bs → rows ≡ changes_since g (drop from cs) → numbers_rise 0 ks ≡ true → ChangesAmong ks h g → Changes h g rows
rows_after bs cs h g ks rows from saved start is rise among =
    subst (λ rs. Changes h g rs) (sym (is ∙ (λ i. changes_since g (drop (start i) (saved i))) ∙ ap (changes_since g) (drop_joined bs (snapshots h ks)))) (rows_between h g ks rise among)

saved_within : (bs cs : List SavedObject) → length bs ≤ length (bs ++ cs)
saved_within [] cs = omega arith
saved_within (b ∷ bs) cs = let rest = saved_within bs cs in omega (arith, rest)

-- as many are saved at least as before
pub from_within : (bs cs : List SavedObject) (h : HeapContents) (ks : List ℕ) (from : ℕ) → cs ≡ bs ++ snapshots h ks → from ≡ length bs → from ≤ length cs
from_within bs cs h ks from saved start =
    let within = saved_within bs (snapshots h ks) in
    let count : length cs ≡ length (bs ++ snapshots h ks) = ap length saved in
    omega (arith, within, count, start)

-- Resets

-- what has none of the roots stays
pub reset_outside : (p : Program) (h : HeapContents) (roots ks : List ℕ) → AllWithRoots h roots ks → (k : ℕ) (x : Object) → object_at h k ≡ Some x → has_number ks k ≡ false → reset_in p h roots k x ≡ x
reset_outside p h roots ks with k x found none = go (is_reached h roots k) refl
  where
    go : (b : Bool) → is_reached h roots k ≡ b → reset_in p h roots k x ≡ x
    go true e = let bad : true ≡ false = sym (with.all k x found e) ∙ none in absurd (cc)
    go false e = ap (λ t. if t then emptied p (nat_eq (root h k) k) x else x) e

same_class : (p : Program) (h : HeapContents) (roots : List ℕ) (k : ℕ) (x : Object) → x.class ≡ (reset_in p h roots k x).class
same_class p h roots k x = go (is_reached h roots k) (nat_eq (root h k) k)
  where
    go : (b t : Bool) → x.class ≡ (if b then emptied p t x else x).class
    go true true = refl
    go true false = refl
    go false t = refl

pub reset_after : (p : Program) (bs cs : List SavedObject) (h g : HeapContents) (roots ks : List ℕ) (rows : List ObjectChange) (from : ℕ) → cs ≡ bs ++ snapshots h ks → from ≡ length bs → rows ≡ changes_since g (drop from cs) → AllWithRoots h roots ks → g ≡ reset_roots p roots h → ChangesAmong ks h g → ResetBy h roots rows
reset_after p bs cs h g roots ks rows from saved start is with reset among =
    subst (λ rs. ResetBy h roots rs) (sym (is ∙ (λ i. changes_since g (drop (start i) (saved i))) ∙ ap (changes_since g) (drop_joined bs (snapshots h ks)))) (rows_reset h g roots ks with among classes)
  where
    classes : (k : ℕ) (x y : Object) → object_at h k ≡ Some x → object_at g k ≡ Some y → x.class ≡ y.class
    classes k x y found there =
        let made : object_at g k ≡ Some (reset_in p h roots k x) = ap (λ (i : HeapContents). object_at i k) reset ∙ object_each (reset_in p h roots) h k ∙ ap (option_map (reset_in p h roots k)) found in
        let both : Some (reset_in p h roots k x) ≡ Some y = sym made ∙ there in
        let is : reset_in p h roots k x ≡ y = cc in
        same_class p h roots k x ∙ ap (λ (z : Object). z.class) is

-- The end

above : (h : HeapContents) (k : ℕ) (x : Object) → object_at h k ≡ Some x → 0 < k
above h zero x found = absurd (cc)
above h (suc i) x found = omega arith

not_among : (ks js : List ℕ) (k : ℕ) → HasNumbers ks js → 0 < k → has_number js k ≡ false → has_number ks k ≡ false
not_among ks js k has up none = go (has_number ks k) refl
  where
    go : (b : Bool) → has_number ks k ≡ b → has_number ks k ≡ false
    go true e = let bad : true ≡ false = sym (has k up e) ∙ none in absurd (cc)
    go false e = e

-- what is no candidate is settled
pub rest_is_settled : (h : HeapContents) (held : List (List Value)) (bs : List SavedObject) (roots ks : List ℕ) → HasNumbers roots ks → HasNumbers (saved_numbers bs) ks → ((k : ℕ) (x : Object) → object_at h k ≡ Some x → is_saved bs k ≡ false → has_number roots k ≡ false → is_settled h held k x ≡ true) → (k : ℕ) (x : Object) → object_at h k ≡ Some x → has_number ks k ≡ false → is_settled h held k x ≡ true
rest_is_settled h held bs roots ks first second rest k x found none =
    rest k x found (sym (saved_has bs k) ∙ not_among (saved_numbers bs) ks k second (above h k x found) none) (not_among roots ks k first (above h k x found) none)

-- the leaks of the step's stages, and those of its end, are of objects of the heap after it
pub every_of_heap : (p : Program) (word : LeakWord) (pos : Pos) (h g : HeapContents) (leaks : List Leak) (rows : List ObjectChange) (ks : List ℕ) → ChangesAmong ks h g → Changes h g rows → AllOfHeap h leaks → AllOfHeap g (leaks ++ leak_changes p word pos rows)
every_of_heap p word pos h g leaks rows ks among changes all =
    leaks_append g leaks (leak_changes p word pos rows)
    (subst (λ n. All (λ (l : Leak). (1 ≤ l.number) × (l.number ≤ n)) leaks) (sym among.count) all)
    (leaks_of_heap p word pos h g rows changes.between)
