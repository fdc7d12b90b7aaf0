-- Which lines of the ledger are no leaks.
use Rattle.std.proofs.Common.{◌≡◌, ℕ, suc, ◌+◌, Bool, true, false, not, ◌&&◌, ◌||◌, Option, Some, None, List, [], ◌∷◌, ◌++◌, length, slice_get, option_map, filter, map, refl, sym, ap, ◌∙◌, subst, true≢false, if◌then◌else◌, arith}
use Rattle.std.specs.List.{flat_map, list_any, range_with_len}
use Rattle.program_model.specs.declared.kinds.ClassId.{ClassId}
use Rattle.program_model.specs.declared.program.Program.{Program}
use Rattle.program_model.specs.Lookups.{optional}
use Rattle.rlc_base.specs.declared.name_id.NameId.{NameId}
use Rattle.rlc_base.specs.declared.place.Pos.{Pos}
use Rattle.ledger_obligations.specs.MustCallSets.{is_heavy_class}
use Rattle.ledger_state.specs.Contents.{HeapContents}
use Rattle.ledger_state.specs.Heaps.{is_reached, object_at}
use Rattle.ledger_state.specs.declared.entry.Entry.{Entry}
use Rattle.ledger_state.specs.declared.entry.Entry.TheVariants as entries
use Rattle.ledger_state.specs.declared.entry.LeakWord.{LeakWord}
use Rattle.ledger_state.specs.declared.entry.LeakWord.TheVariants as words
use Rattle.ledger_state.specs.declared.object.Link.{Link}
use Rattle.ledger_state.specs.declared.object.Object.{Object}
use Rattle.ledger_state.specs.declared.value.Value.{Value}
use Rattle.ledger_obligations.specs.Obligations.{end_frame, end_holder, given_up, given_up_by_frame, given_up_by_holder, is_frame, is_held_by, is_unmet, lose}
use Rattle.ledger_steps.specs.Entries.{birth, birth_entries, birth_in, by_number, called_entries, called_in, called_line, heavy_lines, is_among, is_lost, is_owned, leak_entries, leak_in, leak_line, leaks_of, lines, lines_from, names_in_order, new_names, owner_before, owner_entries, owner_in, reset_entries, reset_in, same_owner, was_finished}
use Rattle.ledger_steps.specs.Effects.{left}
use Rattle.ledger_state.specs.Leaks.{is_leak}
use Rattle.heap_laws.proofs.ObjectLaws.{changed_at}

pub any_in_both : (xs ys : List Entry) → list_any is_leak xs ≡ false → list_any is_leak ys ≡ false → list_any is_leak (xs ++ ys) ≡ false
any_in_both [] ys a b = b
any_in_both (x ∷ xs) ys a b = go (is_leak x) a (any_in_both xs ys)
  where
    go : (c : Bool) → (c || list_any is_leak xs) ≡ false → (list_any is_leak xs ≡ false → list_any is_leak ys ≡ false → list_any is_leak (xs ++ ys) ≡ false) → (c || list_any is_leak (xs ++ ys)) ≡ false
    go true bad rest = absurd (true≢false bad)
    go false good rest = rest good b

heavy_any : (p : Program) (c : ClassId) (es : List Entry) → list_any is_leak es ≡ false → list_any is_leak (heavy_lines p c es) ≡ false
heavy_any p c es none = go (is_heavy_class p c)
  where
    go : (b : Bool) → list_any is_leak (if b then es else []) ≡ false
    go true = none
    go false = refl

lines_any : (p : Program) (line : ℕ → Object → List Entry) (j : ℕ) (xs : List Object) → ((k : ℕ) (x : Object) → list_any is_leak (line k x) ≡ false) → list_any is_leak (lines_from p line j xs) ≡ false
lines_any p line j [] none = refl
lines_any p line j (x ∷ xs) none =
    any_in_both (heavy_lines p x.class (line j x)) (lines_from p line (j + 1) xs) (heavy_any p x.class (line j x) (none j x)) (lines_any p line (j + 1) xs none)

pub owner_none : (p : Program) (pos : Pos) (h k : HeapContents) → list_any is_leak (owner_entries p pos h k) ≡ false
owner_none p pos h k = lines_any p (owner_in pos h) 1 k.objects (λ n x. go n x (is_owned x.owner && not (same_owner (owner_before (object_at h n)) x.owner)))
  where
    go : (n : ℕ) (x : Object) (b : Bool) → list_any is_leak (optional (if b then Some (entries.Owner n x.owner pos) else None)) ≡ false
    go n x true = refl
    go n x false = refl

called_any : (pos : Pos) (k : ℕ) (names : List NameId) → list_any is_leak (map (called_line k pos) names) ≡ false
called_any pos k [] = refl
called_any pos k (n ∷ names) = called_any pos k names

pub called_none : (p : Program) (pos : Pos) (h k : HeapContents) → list_any is_leak (called_entries p pos h k) ≡ false
called_none p pos h k = lines_any p (called_in p pos h) 1 k.objects (λ n x. called_any pos n (filter (is_among (new_names (object_at h n) x)) (names_in_order p)))

pub reset_none : (p : Program) (pos : Pos) (roots : List ℕ) (h : HeapContents) → list_any is_leak (reset_entries p pos roots h) ≡ false
reset_none p pos roots h = lines_any p (reset_in pos h roots) 1 h.objects (λ n x. go n (is_reached h roots n))
  where
    go : (n : ℕ) (b : Bool) → list_any is_leak (optional (if b then Some (entries.Reset n pos) else None)) ≡ false
    go n true = refl
    go n false = refl

birth_is_none : (pos : Pos) (k : ℕ) (x : Object) (l : Option Link) → is_leak (birth pos k x l) ≡ false
birth_is_none pos k x None = refl
birth_is_none pos k x (Some l) = refl

pub birth_none : (p : Program) (pos : Pos) (h k : HeapContents) → list_any is_leak (birth_entries p pos h k) ≡ false
birth_none p pos h k = lines_any p (birth_in pos h) 1 k.objects (λ n x. go n x (x.finished && not (was_finished (object_at h n))))
  where
    go : (n : ℕ) (x : Object) (b : Bool) → list_any is_leak (optional (if b then Some (birth pos n x x.link) else None)) ≡ false
    go n x true = rw (birth_is_none pos n x x.link) refl
    go n x false = refl

-- ---- leaks

if_same : (b : Bool) (es : List Entry) → (if b then es else es) ≡ es
if_same true es = refl
if_same false es = refl

heavy_empty : (p : Program) (c : ClassId) → heavy_lines p c [] ≡ []
heavy_empty p c = if_same (is_heavy_class p c) []

lines_empty : (p : Program) (line : ℕ → Object → List Entry) (j : ℕ) (xs : List Object) → ((i : ℕ) (x : Object) → slice_get xs i ≡ Some x → line (j + i) x ≡ []) → lines_from p line j xs ≡ []
lines_empty p line j [] none = refl
lines_empty p line j (x ∷ xs) none =
    let here : line j x ≡ [] = subst (λ (n : ℕ). line n x ≡ []) (omega arith) (none 0 x refl) in
    let rest : lines_from p line (j + 1) xs ≡ [] = lines_empty p line (j + 1) xs (λ i y at. subst (λ (n : ℕ). line n y ≡ []) (omega arith) (none (suc i) y at)) in
    ap (λ (es : List Entry). heavy_lines p x.class es ++ lines_from p line (j + 1) xs) here ∙ ap (λ (es : List Entry). es ++ lines_from p line (j + 1) xs) (heavy_empty p x.class) ∙ rest

objects_empty : (p : Program) (line : ℕ → Object → List Entry) (h : HeapContents) → ((k : ℕ) (x : Object) → object_at h k ≡ Some x → line k x ≡ []) → lines p line h ≡ []
objects_empty p line h none = lines_empty p line 1 h.objects (λ i x at. subst (λ (n : ℕ). line n x ≡ []) (omega arith) (none (suc i) x at))

both_ways : (b : Bool) → (b && not b) ≡ false
both_ways true = refl
both_ways false = refl

pub leaks_unchanged : (p : Program) (word : LeakWord) (pos : Pos) (h : HeapContents) → leak_entries p word pos h h ≡ []
leaks_unchanged p word pos h = objects_empty p (leak_in word pos h) h (λ k x at.
    ap (λ (y : Option Object). optional (leak_line word pos y k x)) at ∙ ap (λ (b : Bool). optional (if b then Some (entries.Leak k word pos) else None)) (both_ways (is_lost x.owner)))

flat_empty : (ks : List ℕ) → flat_map (leaks_of []) ks ≡ []
flat_empty [] = refl
flat_empty (k ∷ ks) = flat_empty ks

pub step_none : (p : Program) (pos : Pos) (held : List (List Value)) (lines : List Entry) (h : HeapContents) → lose held h ≡ h → list_any is_leak lines ≡ false
    → list_any is_leak (left p pos held lines [] h).lines ≡ false
step_none p pos held ls h same none =
    any_in_both ls (by_number (lose held h) (leak_entries p words.Lost pos h (lose held h))) none
    (ap (λ (k : HeapContents). list_any is_leak (by_number k (leak_entries p words.Lost pos h k))) same
    ∙ ap (λ (es : List Entry). list_any is_leak (by_number h es)) (leaks_unchanged p words.Lost pos h)
    ∙ ap (list_any is_leak) (flat_empty (range_with_len 1 (length h.objects))))

-- an object of a frame that ends
kept_or_released : (word : LeakWord) (pos : Pos) (j k : ℕ) (x : Object) → (is_frame x.owner j ≡ true → is_unmet x ≡ false) → optional (leak_line word pos (Some x) k (given_up_by_frame j k x)) ≡ []
kept_or_released word pos j k x met = go (is_frame x.owner j) refl
  where
    go : (b : Bool) → is_frame x.owner j ≡ b → optional (leak_line word pos (Some x) k (if b then given_up x else x)) ≡ []
    go true is = rw (met is) refl
    go false is = ap (λ (b : Bool). optional (if b then Some (entries.Leak k word pos) else None)) (both_ways (is_lost x.owner))

pub end_none : (p : Program) (word : LeakWord) (pos : Pos) (j : ℕ) (h : HeapContents) → ((n : ℕ) (x : Object) → object_at h n ≡ Some x → is_frame x.owner j ≡ true → is_unmet x ≡ false)
    → leak_entries p word pos h (end_frame j h) ≡ []
end_none p word pos j h met = objects_empty p (leak_in word pos h) (end_frame j h) (λ k y at. go k y (object_at h k) refl (sym (changed_at (given_up_by_frame j) h k) ∙ at))
  where
    go : (k : ℕ) (y : Object) (x : Option Object) → object_at h k ≡ x → option_map (given_up_by_frame j k) x ≡ Some y → optional (leak_line word pos (object_at h k) k y) ≡ []
    go k y None before same = absurd (let never : None ≡ Some y = same in cc)
    go k y (Some x) before same =
        ap (λ (z : Option Object). optional (leak_line word pos z k y)) before
        ∙ subst (λ (z : Object). optional (leak_line word pos (Some x) k z) ≡ []) (let one : given_up_by_frame j k x ≡ y = cc in one) (kept_or_released word pos j k x (met k x before))

-- an object that a field of an object owns which ends
kept_or_released_by : (word : LeakWord) (pos : Pos) (w k : ℕ) (x : Object) → (is_held_by x.owner w ≡ true → is_unmet x ≡ false) → optional (leak_line word pos (Some x) k (given_up_by_holder w k x)) ≡ []
kept_or_released_by word pos w k x met = go (is_held_by x.owner w) refl
  where
    go : (b : Bool) → is_held_by x.owner w ≡ b → optional (leak_line word pos (Some x) k (if b then given_up x else x)) ≡ []
    go true is = rw (met is) refl
    go false is = ap (λ (b : Bool). optional (if b then Some (entries.Leak k word pos) else None)) (both_ways (is_lost x.owner))

held_none : (p : Program) (word : LeakWord) (pos : Pos) (w : ℕ) (h : HeapContents) → ((n : ℕ) (x : Object) → object_at h n ≡ Some x → is_held_by x.owner w ≡ true → is_unmet x ≡ false)
    → leak_entries p word pos h (end_holder (Some w) h) ≡ []
held_none p word pos w h met = objects_empty p (leak_in word pos h) (end_holder (Some w) h) (λ k y at. go k y (object_at h k) refl (sym (changed_at (given_up_by_holder w) h k) ∙ at))
  where
    go : (k : ℕ) (y : Object) (x : Option Object) → object_at h k ≡ x → option_map (given_up_by_holder w k) x ≡ Some y → optional (leak_line word pos (object_at h k) k y) ≡ []
    go k y None before same = absurd (let never : None ≡ Some y = same in cc)
    go k y (Some x) before same =
        ap (λ (z : Option Object). optional (leak_line word pos z k y)) before
        ∙ subst (λ (z : Object). optional (leak_line word pos (Some x) k z) ≡ []) (let one : given_up_by_holder w k x ≡ y = cc in one) (kept_or_released_by word pos w k x (met k x before))

pub holder_none : (p : Program) (word : LeakWord) (pos : Pos) (w : Option ℕ) (h : HeapContents) → ((n : ℕ) (x : Object) (k : ℕ) → object_at h n ≡ Some x → is_held_by x.owner k ≡ true → is_unmet x ≡ false)
    → leak_entries p word pos h (end_holder w h) ≡ []
holder_none p word pos None h met = leaks_unchanged p word pos h
holder_none p word pos (Some w) h met = held_none p word pos w h (λ n x at held. met n x w at held)
