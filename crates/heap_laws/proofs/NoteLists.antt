-- Notes in lists, and what follows from a note.
use Rattle.std.proofs.Common.{◌≡◌, ◌⊎◌, inl, inr, ℕ, zero, suc, ◌+◌, ◌<◌, Bool, true, false, ◌||◌, Option, Some, None, List, [], ◌∷◌, ◌++◌, filter, slice_get, nat_eq, nat_lt, refl, sym, ap, ◌∙◌, subst, true≢false, if◌then◌else◌, arith, eqb-true, eq-eqb}
use Rattle.std.proofs.lemmas.Bool.{or_left, or_right}
use Rattle.std.proofs.lemmas.List.Elements.{All-head, All-tail}
use Rattle.std.specs.FinSet as set
use Rattle.std.specs.List.{All, flat_map, range_with_len}
use Rattle.rlc_base.specs.declared.name_id.NameId.{NameId}
use Rattle.rlc_base.proofs.SetLaws.{either_member, member_of-empty, union_member}
use Rattle.program_model.specs.declared.kinds.ClassId.{ClassId}
use Rattle.program_model.specs.declared.kinds.Target.{Target}
use Rattle.program_model.specs.declared.kinds.Target.TheVariants as targets
use Rattle.program_model.specs.declared.program.Program.{Program}
use Rattle.program_model.specs.declared.program.Promise.{Promise}
use Rattle.program_model.specs.Lookups.{optional}
use Rattle.program_model.specs.NameSets.{names_of_all, when}
use Rattle.ledger_obligations.specs.MustCallSets.{Names}
use Rattle.ledger_state.specs.Classes.{class_in}
use Rattle.ledger_state.specs.Contents.{HeapContents}
use Rattle.ledger_state.specs.Heaps.{object_at}
use Rattle.ledger_state.specs.declared.object.Link.{Link}
use Rattle.ledger_state.specs.declared.object.Object.{Object}
use Rattle.ledger_state.specs.declared.value.Value.{Value}
use Rattle.ledger_state.specs.declared.value.Value.TheVariants as values
use Rattle.ledger_obligations.specs.declared.note.Note.{Note}
use Rattle.ledger_obligations.specs.Obligations.{contents, follows, goes_on, has_note, is_of, joined, keep_all, keep_field, keep_own, kept_fields, kept_name, name_of, note, own_promises, same_bool, same_note, through, through_in, with_name, with_names}
use Rattle.heap_laws.specs.Heaps.{HasSmallName}
use Rattle.heap_laws.proofs.NoteLaws.{has_left, one_note}

-- ---- lists of notes

same_bool_self : (b : Bool) → same_bool b b ≡ true
same_bool_self true = refl
same_bool_self false = refl

pub same_note_self : (a : Note) → same_note a a ≡ true
same_note_self a = rw (eq-eqb a.object a.object refl, eq-eqb a.name.0 a.name.0 refl, same_bool_self a.kept) refl

pub has_right : (ms ns : List Note) (a : Note) → has_note ns a ≡ true → has_note (ms ++ ns) a ≡ true
has_right [] ns a has = has
has_right (m ∷ ms) ns a has = or_right (same_note a m) (has_note (ms ++ ns) a) (has_right ms ns a has)

pub has_either : (ms ns : List Note) (a : Note) → has_note (ms ++ ns) a ≡ true → (has_note ms a ≡ true) ⊎ (has_note ns a ≡ true)
has_either [] ns a has = inr has
has_either (m ∷ ms) ns a has = go (same_note a m) has (has_either ms ns a)
  where
    go : (x : Bool) → (x || has_note (ms ++ ns) a) ≡ true → (has_note (ms ++ ns) a ≡ true → (has_note ms a ≡ true) ⊎ (has_note ns a ≡ true))
        → ((x || has_note ms a) ≡ true) ⊎ (has_note ns a ≡ true)
    go true one further = inl refl
    go false one further = further one

-- the only note of a list
pub has_one : (a b : Note) → has_note (a ∷ []) b ≡ true → b ≡ a
has_one a b has = go (same_note b a) refl has
  where
    go : (x : Bool) → same_note b a ≡ x → (x || false) ≡ true → b ≡ a
    go true same one = one_note b a same
    go false other one = absurd (true≢false (sym one))

-- a note stands at a place of the list
pub note_at : (ns : List Note) (a : Note) → has_note ns a ≡ true → (j : ℕ) × (slice_get ns j ≡ Some a)
note_at [] a has = absurd (true≢false (sym has))
note_at (b ∷ bs) a has = go (same_note a b) refl has (note_at bs a)
  where
    go : (x : Bool) → same_note a b ≡ x → (x || has_note bs a) ≡ true → (has_note bs a ≡ true → (j : ℕ) × (slice_get bs j ≡ Some a)) → (j : ℕ) × (slice_get (b ∷ bs) j ≡ Some a)
    go true same one further = (0, ap Some (sym (one_note a b same)))
    go false other one further = let there = further one in (suc there.0, there.1)

pub stands_at : (ns : List Note) (j : ℕ) (a : Note) → slice_get ns j ≡ Some a → has_note ns a ≡ true
stands_at [] j a at = absurd (let never : None ≡ Some a = at in cc)
stands_at (b ∷ bs) zero a at =
    let same : a ≡ b = (let both : Some b ≡ Some a = at in cc) in
    ap (λ (c : Note). has_note (b ∷ bs) c) same ∙ or_left (same_note b b) (has_note bs b) (same_note_self b)
stands_at (b ∷ bs) (suc j) a at = or_right (same_note a b) (has_note bs a) (stands_at bs j a at)

-- what an element makes is among what all make
pub flat_has : {X : Type 0} (f : X → List Note) (xs : List X) (j : ℕ) (x : X) (b : Note) → slice_get xs j ≡ Some x → has_note (f x) b ≡ true → has_note (flat_map f xs) b ≡ true
flat_has f [] j x b at has = absurd (let never : None ≡ Some x = at in cc)
flat_has f (y ∷ ys) zero x b at has =
    let same : x ≡ y = (let both : Some y ≡ Some x = at in cc) in
    has_left (f y) (flat_map f ys) b (ap (λ z. has_note (f z) b) (sym same) ∙ has)
flat_has f (y ∷ ys) (suc j) x b at has = has_right (f y) (flat_map f ys) b (flat_has f ys j x b at has)

-- and comes of one of them
pub flat_from : {X : Type 0} (f : X → List Note) (xs : List X) (b : Note) → has_note (flat_map f xs) b ≡ true → (x : X) × (j : ℕ) × (slice_get xs j ≡ Some x) × (has_note (f x) b ≡ true)
flat_from f [] b has = absurd (true≢false (sym has))
flat_from f (x ∷ xs) b has = elim (has_either (f x) (flat_map f xs) b has) [
  | inl here ↦ (x, 0, refl, here)
  | inr there ↦ (let y = flat_from f xs b there in (y.0, suc y.1, y.2, y.3))
]

pub joined_from : (ms ns : List Note) (a : Note) → has_note (joined ms ns) a ≡ true → (has_note ms a ≡ true) ⊎ (has_note ns a ≡ true)
joined_from ms [] a has = inl has
joined_from ms (b ∷ bs) a has = go (has_note ms b) has (joined_from ms bs a) (joined_from (ms ++ b ∷ []) bs a)
  where
    later : (has_note bs a ≡ true) → has_note (b ∷ bs) a ≡ true
    later is = or_right (same_note a b) (has_note bs a) is

    here : has_note (b ∷ []) a ≡ true → has_note (b ∷ bs) a ≡ true
    here is = ap (λ (c : Note). has_note (b ∷ bs) c) (has_one b a is) ∙ or_left (same_note b b) (has_note bs b) (same_note_self b)

    go : (x : Bool) → has_note (if x then joined ms bs else joined (ms ++ b ∷ []) bs) a ≡ true
        → (has_note (joined ms bs) a ≡ true → (has_note ms a ≡ true) ⊎ (has_note bs a ≡ true))
        → (has_note (joined (ms ++ b ∷ []) bs) a ≡ true → (has_note (ms ++ b ∷ []) a ≡ true) ⊎ (has_note bs a ≡ true))
        → (has_note ms a ≡ true) ⊎ (has_note (b ∷ bs) a ≡ true)
    go true is old new = elim (old is) [
      | inl before ↦ inl before
      | inr more ↦ inr (later more)
    ]
    go false is old new = elim (new is) [
      | inl before ↦ elim (has_either ms (b ∷ []) a before) [
        | inl first ↦ inl first
        | inr last ↦ inr (here last)
      ]
      | inr more ↦ inr (later more)
    ]

-- notes that stand already join nothing
pub joined_stays : (ms ns : List Note) → ((a : Note) → has_note ns a ≡ true → has_note ms a ≡ true) → joined ms ns ≡ ms
joined_stays ms [] all = refl
joined_stays ms (b ∷ bs) all = go (has_note ms b) (all b (or_left (same_note b b) (has_note bs b) (same_note_self b)))
    (joined_stays ms bs (λ a has. all a (or_right (same_note a b) (has_note bs a) has)))
  where
    go : (x : Bool) → x ≡ true → joined ms bs ≡ ms → (if x then joined ms bs else joined (ms ++ b ∷ []) bs) ≡ ms
    go true there same = same
    go false there same = absurd (true≢false (sym there))

-- ---- small names

pub small_names : (ns : List Note) → All HasSmallName ns → (a : Note) → has_note ns a ≡ true → a.name.0 < 128
small_names [] all a has = absurd (true≢false (sym has))
small_names (b ∷ bs) all a has = go (same_note a b) refl has (small_names bs (All-tail HasSmallName b bs all) a)
  where
    go : (x : Bool) → same_note a b ≡ x → (x || has_note bs a) ≡ true → (has_note bs a ≡ true → a.name.0 < 128) → a.name.0 < 128
    go true same one further = subst (λ (c : Note). c.name.0 < 128) (sym (one_note a b same)) (All-head HasSmallName b bs all)
    go false other one further = further one

-- ---- what follows from a note

-- a note that follows is a kept one, of the same name or of a small one
abbrev pub IsFollower : Note → Note → Type 0
IsFollower a b = (b.kept ≡ true) × ((b.name ≡ a.name) ⊎ (b.name.0 < 128))

range_at : (a n j i : ℕ) → slice_get (range_with_len a n) j ≡ Some i → i < a + n
range_at a zero j i at = absurd (let never : None ≡ Some i = at in cc)
range_at a (suc n) zero i at = let same : a ≡ i = (let both : Some a ≡ Some i = at in cc) in omega (arith, same)
range_at a (suc n) (suc j) i at = let below = range_at (a + 1) n j i at in omega (arith, below)

pub range_has : (a n i : ℕ) → i < n → slice_get (range_with_len a n) i ≡ Some (a + i)
range_has a zero i below = absurd (omega (arith, below))
range_has a (suc n) zero below = let same : a ≡ a + 0 = omega arith in ap Some same
range_has a (suc n) (suc i) below = let same : a + 1 + i ≡ a + suc i = omega arith in range_has (a + 1) n i (omega (arith, below)) ∙ ap Some same

kept_name_follows : (k : ℕ) (names : Names) (i : ℕ) (b : Note) → i < 128 → has_note (kept_name k names i) b ≡ true → (b.kept ≡ true) × (b.name.0 < 128)
kept_name_follows k names i b small has = go (set.contains names i) has
  where
    go : (x : Bool) → has_note (if x then note true k (name_of i) ∷ [] else []) b ≡ true → (b.kept ≡ true) × (b.name.0 < 128)
    go true is =
        let one = has_one (note true k (name_of i)) b is in
        (ap (λ (c : Note). c.kept) one, subst (λ (c : Note). c.name.0 < 128) (sym one) small)
    go false is = absurd (true≢false (sym is))

keep_all_follows : (k : Option ℕ) (names : Names) (b : Note) → has_note (keep_all k names) b ≡ true → (b.kept ≡ true) × (b.name.0 < 128)
keep_all_follows None names b has = absurd (true≢false (sym has))
keep_all_follows (Some k) names b has =
    let from = flat_from (kept_name k names) (range_with_len 0 128) b has in
    kept_name_follows k names from.0 b (range_at 0 128 from.1 from.0 from.2) from.3

keep_field_follows : (p : Program) (h : HeapContents) (self : Value) (q : Promise) (t : Target) (b : Note) → has_note (keep_field p h self q t) b ≡ true → (b.kept ≡ true) × (b.name.0 < 128)
keep_field_follows p h self q (targets.OfField f) b has = keep_all_follows _ q.names b has
keep_field_follows p h self q (targets.At k) b has = absurd (true≢false (sym has))

kept_fields_follow : (p : Program) (h : HeapContents) (k : ℕ) (n : NameId) (c : Option ClassId) (b : Note) → has_note (kept_fields p h k n c) b ≡ true → (b.kept ≡ true) × (b.name.0 < 128)
kept_fields_follow p h k n None b has = absurd (true≢false (sym has))
kept_fields_follow p h k n (Some c) b has =
    let from = flat_from (keep_own p h (values.Object k)) (own_promises p c n) b has in
    keep_field_follows p h (values.Object k) from.0 from.0.target b from.3

contents_follow : (p : Program) (h : HeapContents) (a : Note) (kept : Bool) (b : Note) → has_note (contents p h a kept) b ≡ true → (b.kept ≡ true) × (b.name.0 < 128)
contents_follow p h a true b has = kept_fields_follow p h a.object a.name (class_in (object_at h a.object)) b has
contents_follow p h a false b has = absurd (true≢false (sym has))

through_follows : (p : Program) (n : NameId) (x : Object) (l : Option Link) (b : Note) → has_note (optional (through p n x l)) b ≡ true → (b.kept ≡ true) × (b.name ≡ n)
through_follows p n x None b has = absurd (true≢false (sym has))
through_follows p n x (Some l) b has = go (goes_on p n x l) has
  where
    go : (y : Bool) → has_note (optional (if y then Some (note true l.to n) else None)) b ≡ true → (b.kept ≡ true) × (b.name ≡ n)
    go true is = let one = has_one (note true l.to n) b is in (ap (λ (c : Note). c.kept) one, ap (λ (c : Note). c.name) one)
    go false is = absurd (true≢false (sym is))

through_in_follows : (p : Program) (n : NameId) (x : Option Object) (b : Note) → has_note (optional (through_in p n x)) b ≡ true → (b.kept ≡ true) × (b.name ≡ n)
through_in_follows p n None b has = absurd (true≢false (sym has))
through_in_follows p n (Some x) b has = through_follows p n x x.link b has

pub follower : (p : Program) (h : HeapContents) (a b : Note) → has_note (follows p h a) b ≡ true → IsFollower a b
follower p h a b has = elim (has_either (optional (through_in p a.name (object_at h a.object))) (contents p h a a.kept) b has) [
  | inl on ↦ (let is = through_in_follows p a.name (object_at h a.object) b on in (is.0, inl is.1))
  | inr in' ↦ (let is = contents_follow p h a a.kept b in' in (is.0, inr is.1))
]

pub small_follower : (p : Program) (h : HeapContents) (a b : Note) → a.name.0 < 128 → has_note (follows p h a) b ≡ true → b.name.0 < 128
small_follower p h a b small has = elim (follower p h a b has).1 [
  | inl same ↦ subst (λ (n : NameId). n.0 < 128) (sym same) small
  | inr below ↦ below
]

-- nothing follows from a note on no object
pub no_follower : (p : Program) (h : HeapContents) (a : Note) → object_at h a.object ≡ None → follows p h a ≡ []
no_follower p h a none = ap (λ (x : Option Object). optional (through_in p a.name x) ++ contents p h a a.kept) none ∙ by_kept a.kept
  where
    by_kept : (kept : Bool) → contents p h a kept ≡ []
    by_kept true = ap (λ (x : Option Object). kept_fields p h a.object a.name (class_in x)) none
    by_kept false = refl

-- a name that the link takes on
pub link_follows : (p : Program) (h : HeapContents) (kept : Bool) (k : ℕ) (n : NameId) (x : Object) (l : Link) → object_at h k ≡ Some x → x.link ≡ Some l → goes_on p n x l ≡ true
    → has_note (follows p h (note kept k n)) (note true l.to n) ≡ true
link_follows p h kept k n x l at link on =
    has_left (optional (through_in p n (object_at h k))) (contents p h (note kept k n) kept) (note true l.to n)
    (ap (λ (y : Option Object). has_note (optional (through_in p n y)) (note true l.to n)) at
    ∙ ap (λ (m : Option Link). has_note (optional (through p n x m)) (note true l.to n)) link
    ∙ rw on (or_left (same_note (note true l.to n) (note true l.to n)) false (same_note_self (note true l.to n))))

-- ---- names of all

pub name_from_all : {X : Type 0} (f : X → Names) (xs : List X) (i : ℕ) → set.contains (names_of_all f xs) i ≡ true → (x : X) × (j : ℕ) × (slice_get xs j ≡ Some x) × (set.contains (f x) i ≡ true)
name_from_all f [] i has = absurd (true≢false (sym has ∙ member_of-empty i))
name_from_all f (x ∷ xs) i has = elim (union_member (f x) (names_of_all f xs) i has) [
  | inl here ↦ (x, 0, refl, here)
  | inr there ↦ (let y = name_from_all f xs i there in (y.0, suc y.1, y.2, y.3))
]

pub name_where : (b : Bool) (names : Names) (i : ℕ) → set.contains (when b names) i ≡ true → (b ≡ true) × (set.contains names i ≡ true)
name_where true names i has = (refl, has)
name_where false names i has = absurd (true≢false (sym has ∙ member_of-empty i))

-- ---- names of notes on an object

-- a note among these is of the object, and of the name with this number
abbrev pub HasNamed : ℕ → ℕ → List Note → Type 0
HasNamed k i ns = (a : Note) × (has_note ns a ≡ true) × (a.object ≡ k) × (a.name.0 ≡ i)

pub name_from_notes : (k i : ℕ) (ns : List Note) (s : Names) → set.contains (with_names s (filter (is_of k) ns)) i ≡ true
    → (set.contains s i ≡ true) ⊎ HasNamed k i ns
name_from_notes k i [] s has = inl has
name_from_notes k i (b ∷ bs) s has = go (nat_eq b.object k) refl has (name_from_notes k i bs)
  where
    later : HasNamed k i bs → HasNamed k i (b ∷ bs)
    later one = (one.0, or_right (same_note one.0 b) (has_note bs one.0) one.1, one.2, one.3)

    here : b.object ≡ k → (c : Bool) → set.contains (if c then set.insert s b.name.0 else s) i ≡ true → (set.contains s i ≡ true) ⊎ HasNamed k i (b ∷ bs)
    here at true is = elim (either_member s b.name.0 i is) [
      | inl same ↦ inr (b, or_left (same_note b b) (has_note bs b) (same_note_self b), at, sym same)
      | inr old ↦ inl old
    ]
    here at false is = inl is

    go : (x : Bool) → nat_eq b.object k ≡ x → set.contains (with_names s (if x then b ∷ filter (is_of k) bs else filter (is_of k) bs)) i ≡ true
        → ((t : Names) → set.contains (with_names t (filter (is_of k) bs)) i ≡ true → (set.contains t i ≡ true) ⊎ HasNamed k i bs)
        → (set.contains s i ≡ true) ⊎ HasNamed k i (b ∷ bs)
    go true at is further = elim (further (with_name s b.name) is) [
      | inl now ↦ here (eqb-true b.object k at) (nat_lt b.name.0 128) now
      | inr one ↦ inr (later one)
    ]
    go false at is further = elim (further s is) [
      | inl old ↦ inl old
      | inr one ↦ inr (later one)
    ]
