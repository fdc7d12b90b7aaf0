-- The leaks of a step: they are those of the changes, and in the order of the objects' numbers.
use Rattle.std.proofs.Common.{Bor, ◌≡◌, ◌∙◌, ap, sym, refl, subst, ℕ, zero, suc, ◌+◌, ◌<◌, ◌≤◌, Bool, true, false, not, ◌&&◌, nat_eq, Some, None, List, [], ◌∷◌, ◌++◌, length, arith}
use Rattle.std.proofs.lemmas.Grind.{common_steps}
use Rattle.std.proofs.lemmas.List.Elements.{All-append, All-cons, All-nil}
use Rattle.std.proofs.lemmas.List.Sorted.{All-permutation}
use Rattle.std.proofs.lemmas.Fn.{always_returns_same}
use Rattle.std.specs.Fn.{Called, ComputesKey, Mut}
use Rattle.std.specs.Prelude.{filter, map, slice_get, slice_index_or, if◌then◌else◌}
use Rattle.std.specs.List.{flat_map, range_with_len}
use Rattle.std.specs.List.Sorted.{IsNonDecreasingBy, IsPermutation, IsStableByKey}
use Rattle.std.specs.Ordering.{nat_cmp, is_lt}
use Rattle.program_model.specs.declared.program.Program.{Program}
use Rattle.program_model.specs.Lookups.{optional}
use Rattle.rlc_base.specs.declared.place.Pos.{Pos}
use Rattle.must_call_sets.specs.MustCallSets.{is_heavy_class}
use Rattle.ledger_state.specs.declared.entry.Entry.{Entry}
use Rattle.ledger_state.specs.declared.entry.Entry.TheVariants as entries
use Rattle.ledger_state.specs.declared.entry.LeakWord.{LeakWord}
use Rattle.ledger_state.specs.declared.entry.LeakWord.TheVariants as words
use Rattle.ledger_state.specs.declared.object.Object.{Object}
use Rattle.ledger_state.specs.Contents.{HeapContents}
use Rattle.ledger_state.specs.Heaps.{object_at}
use Rattle.ledger_entries.specs.Entries.{by_number, is_leak_of, is_lost, leak_entries, leaks_of, owner_before}
use Rattle.draft_lines.specs.declared.change.ObjectChange.{ObjectChange}
use Rattle.draft_lines.specs.declared.leaks.Leak.{Leak}
use Rattle.draft_lines.specs.DraftLines.{AllBetween, AllOfHeap, Changes, IsOfHeap, leak, leak_by, leak_changes, leak_entries_of, leak_entry, leaks_of_change, lines_of_change}
use Rattle.draft_lines.proofs.ChangedLines.{leak_line_by, leak_lines_between}

-- The leaks of changes

map_append : {X Y : Type 0} (f : X → Y) (xs ys : List X) → map f (xs ++ ys) ≡ map f xs ++ map f ys
map_append f [] ys = refl
map_append f (x ∷ xs) ys = ap (λ zs. f x ∷ zs) (map_append f xs ys)

mapped : {X Y Z : Type 0} (f : Y → Z) (g : X → List Y) (h : X → List Z) (xs : List X) → ((x : X) → h x ≡ map f (g x)) → flat_map h xs ≡ map f (flat_map g xs)
mapped f g h [] is = refl
mapped f g h (x ∷ xs) is =
    let rest = mapped f g h xs is in
    (λ i. is x i ++ rest i) ∙ sym (map_append f (g x) (flat_map g xs))

same_leak : (b : Bool) (k : ℕ) (word : LeakWord) (pos : Pos) → optional (if b then Some (entries.Leak k word pos) else None) ≡ leak_entries_of (optional (if b then Some (leak word pos k) else None))
same_leak true k word pos = refl
same_leak false k word pos = refl

where_heavy : (b : Bool) (es : List Entry) (ls : List Leak) → es ≡ leak_entries_of ls → (if b then es else []) ≡ leak_entries_of (if b then ls else [])
where_heavy true es ls e = e
where_heavy false es ls e = refl

one_change : (p : Program) (word : LeakWord) (pos : Pos) (c : ObjectChange) → lines_of_change p (leak_line_by word pos) c ≡ map leak_entry (leaks_of_change p word pos c)
one_change p word pos c =
    where_heavy (is_heavy_class p c.after.class) (leak_line_by word pos c) (optional (leak_by word pos c))
    (same_leak (is_lost c.after.owner && not (is_lost (owner_before c.before))) c.number word pos)

pub leak_between : (p : Program) (word : LeakWord) (pos : Pos) (h g : HeapContents) (cs : List ObjectChange) → Changes h g cs → leak_entries p word pos h g ≡ leak_entries_of (leak_changes p word pos cs)
leak_between p word pos h g cs changes =
    leak_lines_between p word pos h g cs changes
    ∙ mapped leak_entry (leaks_of_change p word pos) (lines_of_change p (leak_line_by word pos)) cs (one_change p word pos)

pub leak_entries_append : (ls ms : List Leak) → leak_entries_of (ls ++ ms) ≡ leak_entries_of ls ++ leak_entries_of ms
leak_entries_append ls ms = map_append leak_entry ls ms

-- They are leaks of objects of the heap

place_within : (xs : List Object) (i : ℕ) (x : Object) → slice_get xs i ≡ Some x → i < length xs
place_within [] i x found = absurd (cc)
place_within (y ∷ ys) zero x found = omega arith
place_within (y ∷ ys) (suc i) x found = let less : i < length ys = place_within ys i x found in omega (arith, less)

number_within : (h : HeapContents) (k : ℕ) (x : Object) → object_at h k ≡ Some x → (1 ≤ k) × (k ≤ length h.objects)
number_within h zero x found = absurd (cc)
number_within h (suc i) x found = let less : i < length h.objects = place_within h.objects i x found in (omega (arith, less), omega (arith, less))

where_lost : (b : Bool) (h : HeapContents) (word : LeakWord) (pos : Pos) (k : ℕ) → (1 ≤ k) × (k ≤ length h.objects) → AllOfHeap h (optional (if b then Some (leak word pos k) else None))
where_lost true h word pos k within = All-cons (IsOfHeap h) (leak word pos k) [] within (All-nil (IsOfHeap h))
where_lost false h word pos k within = All-nil (IsOfHeap h)

where_line : (b : Bool) (h : HeapContents) (ls : List Leak) → AllOfHeap h ls → AllOfHeap h (if b then ls else [])
where_line true h ls all = all
where_line false h ls all = All-nil (IsOfHeap h)

pub leaks_of_heap : (p : Program) (word : LeakWord) (pos : Pos) (h g : HeapContents) (cs : List ObjectChange) → AllBetween h g cs → AllOfHeap g (leak_changes p word pos cs)
leaks_of_heap p word pos h g [] between = All-nil (IsOfHeap g)
leaks_of_heap p word pos h g (c ∷ cs) between =
    All-append (IsOfHeap g) (leaks_of_change p word pos c) (leak_changes p word pos cs)
    (where_line (is_heavy_class p c.after.class) g (optional (leak_by word pos c))
    (where_lost (is_lost c.after.owner && not (is_lost (owner_before c.before))) g word pos c.number (number_within g c.number c.after between.0.1)))
    (leaks_of_heap p word pos h g cs between.1)

pub leaks_append : (h : HeapContents) (ls ms : List Leak) → AllOfHeap h ls → AllOfHeap h ms → AllOfHeap h (ls ++ ms)
leaks_append h ls ms first second = All-append (IsOfHeap h) ls ms first second

-- The order of their numbers

abbrev is_numbered : ℕ → Leak → Bool
is_numbered k l = nat_eq l.number k

filter_yes : {X : Type 0} (test : X → Bool) (x : X) (xs : List X) → test x ≡ true → filter test (x ∷ xs) ≡ x ∷ filter test xs
filter_yes test x xs e = rw e refl

filter_no : {X : Type 0} (test : X → Bool) (x : X) (xs : List X) → test x ≡ false → filter test (x ∷ xs) ≡ filter test xs
filter_no test x xs e = rw e refl

of_number : (k : ℕ) (ls : List Leak) → leaks_of (leak_entries_of ls) k ≡ leak_entries_of (filter (is_numbered k) ls)
of_number k [] = refl
of_number k (l ∷ ls) = go (nat_eq l.number k) refl (of_number k ls)
  where
    go : (t : Bool) → nat_eq l.number k ≡ t → leaks_of (leak_entries_of ls) k ≡ leak_entries_of (filter (is_numbered k) ls) → leaks_of (leak_entries_of (l ∷ ls)) k ≡ leak_entries_of (filter (is_numbered k) (l ∷ ls))
    go true e rest =
        filter_yes (is_leak_of k) (leak_entry l) (map leak_entry ls) e
        ∙ ap (λ es. leak_entry l ∷ es) rest
        ∙ ap (λ ms. map leak_entry ms) (sym (filter_yes (is_numbered k) l ls e))
    go false e rest =
        filter_no (is_leak_of k) (leak_entry l) (map leak_entry ls) e
        ∙ rest
        ∙ ap (λ ms. map leak_entry ms) (sym (filter_no (is_numbered k) l ls e))

-- their numbers do not fall, and the first one is not before `a`
abbrev RisesFrom : ℕ → List Leak → Type 0
RisesFrom a [] = Unit {0}
RisesFrom a (l ∷ ls) = (a ≤ l.number) × RisesFrom l.number ls

abbrev AllBelow : ℕ → List Leak → Type 0
AllBelow n [] = Unit {0}
AllBelow n (l ∷ ls) = (l.number < n) × AllBelow n ls

none_of : (a m : ℕ) (ls : List Leak) → RisesFrom m ls → a < m → filter (is_numbered a) ls ≡ []
none_of a m [] rises less = refl
none_of a m (l ∷ ls) rises less =
    let first : m ≤ l.number = rises.0 in
    let apart : nat_eq l.number a ≡ false = grind (arith, common_steps, first, less) in
    let after : a < l.number = omega (arith, first, less) in
    filter_no (is_numbered a) l ls apart ∙ none_of a l.number ls rises.1 after

flat_same : (f g : ℕ → List Leak) (a n : ℕ) → ((k : ℕ) → a ≤ k → f k ≡ g k) → flat_map f (range_with_len a n) ≡ flat_map g (range_with_len a n)
flat_same f g a zero is = refl
flat_same f g a (suc n) is =
    let rest : flat_map f (range_with_len (a + 1) n) ≡ flat_map g (range_with_len (a + 1) n) = flat_same f g (a + 1) n (λ k above. is k (omega (arith, above))) in
    let first : f a ≡ g a = is a (omega arith) in
    λ i. first i ++ rest i

below_as : (m n : ℕ) (ls : List Leak) → m ≡ n → AllBelow m ls → AllBelow n ls
below_as m n ls e below = subst (λ k. AllBelow k ls) e below

-- the leaks of one number stand first, where no number is before it
one_number : (n a : ℕ) → ((ms : List Leak) → RisesFrom (a + 1) ms → AllBelow (a + 1 + n) ms → flat_map (λ k. filter (is_numbered k) ms) (range_with_len (a + 1) n) ≡ ms) → (ls : List Leak) → RisesFrom a ls → AllBelow (a + 1 + n) ls → filter (is_numbered a) ls ++ flat_map (λ k. filter (is_numbered k) ls) (range_with_len (a + 1) n) ≡ ls
one_number n a further [] rises below = further [] tt tt
one_number n a further (l ∷ ls) rises below = go (nat_eq l.number a) refl (one_number n a further ls)
  where
    go : (t : Bool) → nat_eq l.number a ≡ t → (RisesFrom a ls → AllBelow (a + 1 + n) ls → filter (is_numbered a) ls ++ flat_map (λ k. filter (is_numbered k) ls) (range_with_len (a + 1) n) ≡ ls) → filter (is_numbered a) (l ∷ ls) ++ flat_map (λ k. filter (is_numbered k) (l ∷ ls)) (range_with_len (a + 1) n) ≡ l ∷ ls
    go true e again =
        let here : l.number ≡ a = grind (arith, common_steps, e) in
        let first : filter (is_numbered a) (l ∷ ls) ≡ l ∷ filter (is_numbered a) ls = filter_yes (is_numbered a) l ls e in
        let rest : flat_map (λ k. filter (is_numbered k) (l ∷ ls)) (range_with_len (a + 1) n) ≡ flat_map (λ k. filter (is_numbered k) ls) (range_with_len (a + 1) n) =
        flat_same (λ k. filter (is_numbered k) (l ∷ ls)) (λ k. filter (is_numbered k) ls) (a + 1) n
        (λ k above. filter_no (is_numbered k) l ls (let apart : nat_eq l.number k ≡ false = grind (arith, common_steps, here, above) in apart)) in
        (λ i. first i ++ rest i) ∙ ap (λ ms. l ∷ ms) (again (subst (λ m. RisesFrom m ls) here rises.1) below.1)
    go false e again =
        let least : a ≤ l.number = rises.0 in
        let after : a + 1 ≤ l.number = grind (arith, common_steps, e, least) in
        let none : filter (is_numbered a) (l ∷ ls) ≡ [] = none_of a (a + 1) (l ∷ ls) (after, rises.1) (omega arith) in
        let rest : flat_map (λ k. filter (is_numbered k) (l ∷ ls)) (range_with_len (a + 1) n) ≡ l ∷ ls = further (l ∷ ls) (after, rises.1) below in
        λ i. none i ++ rest i

in_order : (n a : ℕ) (ls : List Leak) → RisesFrom a ls → AllBelow (a + n) ls → flat_map (λ k. filter (is_numbered k) ls) (range_with_len a n) ≡ ls
in_order zero a [] rises below = refl
in_order zero a (l ∷ ls) rises below =
    let least : a ≤ l.number = rises.0 in
    let most : l.number < a + 0 = below.0 in
    absurd (omega (arith, least, most))
in_order (suc n) a ls rises below =
    let as' : a + suc n ≡ a + 1 + n = omega arith in
    one_number n a (in_order n (a + 1)) ls rises (below_as (a + suc n) (a + 1 + n) ls as' below)

rises_of : (a : ℕ) (ls : List Leak) → IsNonDecreasingBy (λ (l : Leak). l.number) ls → ((k : ℕ) (d : Leak) → k < length ls → a ≤ (slice_index_or ls k d).number) → RisesFrom a ls
rises_of a [] sorted least = tt
rises_of a (l ∷ ls) sorted least = (
  least 0 l (omega arith),
  rises_of l.number ls (λ i j d before within. sorted (suc i) (suc j) d (omega (arith, before)) (omega (arith, within))) (λ k d within. sorted 0 (suc k) d (omega arith) (omega (arith, within))),
)

below_of : (n : ℕ) (ls : List Leak) → ((k : ℕ) (d : Leak) → k < length ls → (slice_index_or ls k d).number < n) → AllBelow n ls
below_of n [] most = tt
below_of n (l ∷ ls) most = (most 0 l (omega arith), below_of n ls (λ k d within. most (suc k) d (omega (arith, within))))

-- a stable order by the numbers leaves those of each number as they stand

tie_of : (k m : ℕ) → (not (is_lt (nat_cmp k m)) && not (is_lt (nat_cmp m k))) ≡ nat_eq m k
tie_of k m = grind (arith, common_steps)

some_place : Pos
some_place = record { file = 0; line = 0; col = 0 }

stable_of : (ls ms : List Leak) → IsStableByKey (λ (l : Leak). l.number) nat_cmp ls ms → (k : ℕ) → filter (is_numbered k) ms ≡ filter (is_numbered k) ls
stable_of ls ms stable k =
    let same : (l : Leak) → (not (is_lt (nat_cmp k l.number)) && not (is_lt (nat_cmp l.number k))) ≡ nat_eq l.number k = λ l. tie_of k l.number in
    sym (λ i. filter (λ l. same l i) ms) ∙ stable (leak words.Exit some_place k) ∙ (λ i. filter (λ l. same l i) ls)

-- from the clause `stable` of `sort_by_key`
pub stable_from_sort : {F : Type 0} {g : Mut F (Bor Leak × Unit {0}) ℕ} {f : F} (ls ms : List Leak) → ((key : Leak → ℕ) → ComputesKey g key f → IsStableByKey key nat_cmp ls ms) → ((a : Bor Leak × Unit {0}) (r : ℕ) (f' : F) → Called g f a r f' → (r ≡ a.0.now.number) × (f' ≡ f)) → IsStableByKey (λ (l : Leak). l.number) nat_cmp ls ms
stable_from_sort {g = g} {f = f} ls ms stable h = stable (λ (l : Leak). l.number) (always_returns_same g (λ a r. r ≡ a.0.now.number) f h)

pub by_number_sorted : (h : HeapContents) (ls ms : List Leak) → IsPermutation ls ms → IsNonDecreasingBy (λ (l : Leak). l.number) ms → IsStableByKey (λ (l : Leak). l.number) nat_cmp ls ms → AllOfHeap h ls → by_number h (leak_entries_of ls) ≡ leak_entries_of ms
by_number_sorted h ls ms moved sorted stable all =
    mapped leak_entry (λ k. filter (is_numbered k) ms) (leaks_of (leak_entries_of ls)) (range_with_len 1 (length h.objects))
    (λ k. of_number k ls ∙ ap (λ ks. map leak_entry ks) (sym (stable_of ls ms stable k)))
    ∙ ap (λ ks. map leak_entry ks) (in_order (length h.objects) 1 ms rises below)
  where
    there : AllOfHeap h ms
    there = All-permutation (IsOfHeap h) ls ms moved all

    rises : RisesFrom 1 ms
    rises = rises_of 1 ms sorted (λ k d within. (there k d within).0)

    below : AllBelow (1 + length h.objects) ms
    below = below_of (1 + length h.objects) ms (λ k d within. let most = (there k d within).1 in omega (arith, most))
