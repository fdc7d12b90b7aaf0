-- A turn in which only the notes that the one before it added are looked at.
use Rattle.std.proofs.Common.{◌≡◌, ◌∙◌, ap, sym, refl, ℕ, ◌-◌, ◌≤◌, take, drop, Bool, true, false, ◌&&◌, ◌||◌, nat_eq, List, [], ◌∷◌, ◌++◌, length, arith}
use Rattle.std.proofs.lemmas.Grind.{common_steps, flat_map-append}
use Rattle.std.proofs.lemmas.List.{length-drop, take-append-drop}
use Rattle.std.proofs.Math.Seq.{take-append_seam, take-length}
use Rattle.std.specs.List.{flat_map, list_all}
use Rattle.program_model.specs.declared.program.Program.{Program}
use Rattle.ledger_state.specs.Contents.{HeapContents}
use Rattle.ledger_obligations.specs.declared.note.Note.{Note}
use Rattle.ledger_obligations.specs.Obligations.{follows, has_note, joined, same_bool, same_note}
use Rattle.ledger_obligations.proofs.NoteLaws.{joined_grows}
use Rattle.spread_notes.specs.SpreadNotes.{HasFollows}

-- Notes that are there

same_self : (a : Note) → same_note a a ≡ true
same_self a = kept a.kept
  where
    object : nat_eq a.object a.object ≡ true
    object = grind (arith, common_steps)

    name : nat_eq a.name.0 a.name.0 ≡ true
    name = grind (arith, common_steps)

    kept : (b : Bool) → (nat_eq a.object a.object && nat_eq a.name.0 a.name.0 && same_bool b b) ≡ true
    kept true = rw object (rw name refl)
    kept false = rw object (rw name refl)

or_true : (a : Bool) → (a || true) ≡ true
or_true true = refl
or_true false = refl

has_front : (ns xs : List Note) (a : Note) → has_note ns a ≡ true → has_note (ns ++ xs) a ≡ true
has_front [] xs a e = absurd (cc)
has_front (n ∷ ns) xs a e = go (same_note a n) e (has_front ns xs a)
  where
    go : (b : Bool) → (b || has_note ns a) ≡ true → (has_note ns a ≡ true → has_note (ns ++ xs) a ≡ true) → (b || has_note (ns ++ xs) a) ≡ true
    go true all rest = refl
    go false all rest = rest all

has_last : (ns : List Note) (a : Note) → has_note (ns ++ a ∷ []) a ≡ true
has_last [] a = ap (λ b. b || false) (same_self a)
has_last (n ∷ ns) a = ap (λ b. same_note a n || b) (has_last ns a) ∙ or_true (same_note a n)

joined_keeps : (ns xs : List Note) (a : Note) → has_note ns a ≡ true → has_note (joined ns xs) a ≡ true
joined_keeps ns [] a e = e
joined_keeps ns (x ∷ xs) a e = go (has_note ns x) refl (joined_keeps ns xs a e) (joined_keeps (ns ++ x ∷ []) xs a (has_front ns (x ∷ []) a e))
  where
    go : (b : Bool) → has_note ns x ≡ b → has_note (joined ns xs) a ≡ true → has_note (joined (ns ++ x ∷ []) xs) a ≡ true → has_note (joined ns (x ∷ xs)) a ≡ true
    go true is same more = rw is same
    go false is same more = rw is more

-- what joined is there
joined_has : (ns xs : List Note) → list_all (has_note (joined ns xs)) xs ≡ true
joined_has ns [] = refl
joined_has ns (x ∷ xs) = go (has_note ns x) refl (joined_has ns xs) (joined_has (ns ++ x ∷ []) xs)
  where
    go : (b : Bool) → has_note ns x ≡ b → list_all (has_note (joined ns xs)) xs ≡ true → list_all (has_note (joined (ns ++ x ∷ []) xs)) xs ≡ true → list_all (has_note (joined ns (x ∷ xs))) (x ∷ xs) ≡ true
    go true is same more =
        let now : joined ns (x ∷ xs) ≡ joined ns xs = rw is refl in
        ap (λ ms. list_all (has_note ms) (x ∷ xs)) now ∙ (rw (joined_keeps ns xs x is) same)
    go false is same more =
        let now : joined ns (x ∷ xs) ≡ joined (ns ++ x ∷ []) xs = rw is refl in
        ap (λ ms. list_all (has_note ms) (x ∷ xs)) now ∙ (rw (joined_keeps (ns ++ x ∷ []) xs x (has_last ns x)) more)

-- what is there does not join again
joined_there : (ns xs : List Note) → list_all (has_note ns) xs ≡ true → joined ns xs ≡ ns
joined_there ns [] e = refl
joined_there ns (x ∷ xs) e = go (has_note ns x) refl e (joined_there ns xs)
  where
    go : (b : Bool) → has_note ns x ≡ b → (has_note ns x && list_all (has_note ns) xs) ≡ true → (list_all (has_note ns) xs ≡ true → joined ns xs ≡ ns) → joined ns (x ∷ xs) ≡ ns
    go true is both further = rw is (further (ap (λ b. b && list_all (has_note ns) xs) (sym is) ∙ both))
    go false is both further = absurd (let no : (false && list_all (has_note ns) xs) ≡ true = ap (λ b. b && list_all (has_note ns) xs) (sym is) ∙ both in cc)

-- Turns

joined_both : (ns xs ys : List Note) → joined ns (xs ++ ys) ≡ joined (joined ns xs) ys
joined_both ns [] ys = refl
joined_both ns (x ∷ xs) ys = go (has_note ns x) refl (joined_both ns xs ys) (joined_both (ns ++ x ∷ []) xs ys)
  where
    go : (b : Bool) → has_note ns x ≡ b → joined ns (xs ++ ys) ≡ joined (joined ns xs) ys → joined (ns ++ x ∷ []) (xs ++ ys) ≡ joined (joined (ns ++ x ∷ []) xs) ys → joined ns (x ∷ xs ++ ys) ≡ joined (joined ns (x ∷ xs)) ys
    go true is same more = rw is same
    go false is same more = rw is more

dropped : (ns : List Note) (n : ℕ) → take (length ns - n) (drop n ns) ≡ drop n ns
dropped ns n = ap (λ k. take k (drop n ns)) (sym (length-drop n ns)) ∙ take-length (drop n ns)

-- where what follows from the first ones is there, what follows from the others alone joins
pub turn_rest : (p : Program) (h : HeapContents) (ns further : List Note) (done : ℕ) → HasFollows p h (take done ns) ns → further ≡ flat_map (follows p h) (take (length ns - done) (drop done ns)) → joined ns further ≡ joined ns (flat_map (follows p h) ns)
turn_rest p h ns further done there is =
    let f : Note → List Note = follows p h in
    ap (joined ns) (is ∙ ap (flat_map f) (dropped ns done))
    ∙ ap (λ ms. joined ms (flat_map f (drop done ns))) (sym there)
    ∙ sym (joined_both ns (flat_map f (take done ns)) (flat_map f (drop done ns)))
    ∙ ap (joined ns) (sym (flat_map-append f (take done ns) (drop done ns)))
    ∙ ap (λ ms. joined ns (flat_map f ms)) (take-append-drop done ns)

-- the first notes stand first
joined_front : (ns xs : List Note) → take (length ns) (joined ns xs) ≡ ns
joined_front ns xs = from ns xs (rest ns xs)
  where
    from : (ns xs : List Note) → (zs : List Note) × (joined ns xs ≡ ns ++ zs) → take (length ns) (joined ns xs) ≡ ns
    from ns xs found = ap (take (length ns)) found.1 ∙ take-append_seam ns found.0

    rest : (ns xs : List Note) → (zs : List Note) × (joined ns xs ≡ ns ++ zs)
    rest ns [] = ([], sym (append_nil ns))
      where
        append_nil : (ms : List Note) → ms ++ [] ≡ ms
        append_nil [] = refl
        append_nil (m ∷ ms) = ap (λ ks. m ∷ ks) (append_nil ms)
    rest ns (x ∷ xs) = go (has_note ns x) refl (rest ns xs) (rest (ns ++ x ∷ []) xs)
      where
        assoc : (ms zs : List Note) → (ms ++ x ∷ []) ++ zs ≡ ms ++ x ∷ zs
        assoc [] zs = refl
        assoc (m ∷ ms) zs = ap (λ ks. m ∷ ks) (assoc ms zs)

        go : (b : Bool) → has_note ns x ≡ b → (zs : List Note) × (joined ns xs ≡ ns ++ zs) → (zs : List Note) × (joined (ns ++ x ∷ []) xs ≡ (ns ++ x ∷ []) ++ zs) → (zs : List Note) × (joined ns (x ∷ xs) ≡ ns ++ zs)
        go true is same more = rw is same
        go false is same more = rw is (x ∷ more.0, more.1 ∙ assoc ns more.0)

-- before the first turn nothing was looked at
pub follows_start : (p : Program) (h : HeapContents) (ns : List Note) → HasFollows p h (take 0 ns) ns
follows_start p h ns = refl

-- after a turn what follows from the notes before it is there
pub follows_next : (p : Program) (h : HeapContents) (before after : List Note) (done : ℕ) → done ≡ length before → after ≡ joined before (flat_map (follows p h) before) → HasFollows p h (take done after) after
follows_next p h before after done count is =
    let f : Note → List Note = follows p h in
    let first : take done after ≡ before = (λ i. take (count i) (is i)) ∙ joined_front before (flat_map f before) in
    (λ i. joined (is i) (flat_map f (first i)))
    ∙ joined_there (joined before (flat_map f before)) (flat_map f before) (joined_has before (flat_map f before))
    ∙ sym is

-- and there are no fewer
pub turn_grows : (p : Program) (h : HeapContents) (before after : List Note) (done : ℕ) → done ≡ length before → after ≡ joined before (flat_map (follows p h) before) → done ≤ length after
turn_grows p h before after done count is =
    let grows = joined_grows before (flat_map (follows p h) before) in
    let same : length after ≡ length (joined before (flat_map (follows p h) before)) = ap length is in
    omega (arith, grows, same, count)
