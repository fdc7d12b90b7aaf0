-- Notes add names, and theirs are among them.
use Rattle.std.proofs.Common.{◌≡◌, ℕ, zero, suc, ◌*◌, ◌<◌, Bool, true, false, ◌&&◌, ◌||◌, List, [], ◌∷◌, ◌++◌, length, filter, option_map, nat_eq, nat_lt, refl, sym, ap, ◌∙◌, subst, true≢false, if◌then◌else◌, lt-ltb, eqb-true, eq-eqb}
use Rattle.std.proofs.lemmas.Bool.{and_parts, or_left, or_right}
use Rattle.std.specs.FinSet as set
use Rattle.std.specs.List.{flat_map}
use Rattle.rlc_base.specs.declared.name_id.NameId.{NameId}
use Rattle.rlc_base.proofs.SetLaws.{new_member, within_at, within_insert, within_self, within_trans}
use Rattle.program_model.specs.declared.program.Program.{Program}
use Rattle.ledger_obligations.specs.MustCallSets.{Names}
use Rattle.ledger_state.specs.Contents.{HeapContents}
use Rattle.ledger_state.specs.declared.object.Object.{Object}
use Rattle.ledger_obligations.specs.declared.note.Note.{Note}
use Rattle.ledger_obligations.specs.Obligations.{all_notes, follows, has_note, is_of, joined, noted, noted_object, same_bool, same_note, spread, with_name, with_names}
use Rattle.heap_laws.specs.Heaps.{Evolves, GoesOn}
use Rattle.heap_laws.proofs.ObjectLaws.{changed_at}

name_grows : (s : Names) (n : NameId) → set.is_subset s (with_name s n) ≡ true
name_grows s n = go (nat_lt n.0 128)
  where
    go : (b : Bool) → set.is_subset s (if b then set.insert s n.0 else s) ≡ true
    go true = within_insert s n.0
    go false = within_self s

names_grow : (s : Names) (ns : List Note) → set.is_subset s (with_names s ns) ≡ true
names_grow s [] = within_self s
names_grow s (a ∷ as') = within_trans s (with_name s a.name) (with_names (with_name s a.name) as') (name_grows s a.name) (names_grow (with_name s a.name) as')

pub noted_goes_on : (notes : List Note) (k : ℕ) (x : Object) → GoesOn x (noted_object notes k x)
noted_goes_on notes k x = record { class = refl; link = refl; finished = refl; must = refl; called = names_grow x.called (filter (is_of k) notes) }

pub noted_evolves : (p : Program) (notes : List Note) (h : HeapContents) → Evolves h (noted p notes h)
noted_evolves p notes h n x at =
    (noted_object (all_notes p h notes) n x, changed_at (noted_object (all_notes p h notes)) h n ∙ ap (option_map (noted_object (all_notes p h notes) n)) at, noted_goes_on (all_notes p h notes) n x)

named : (s : Names) (n : NameId) → n.0 < 128 → set.contains (with_name s n) n.0 ≡ true
named s n small = rw (lt-ltb n.0 128 small) (new_member s n.0)

equal_bools : (b c : Bool) → same_bool b c ≡ true → b ≡ c
equal_bools true c is = sym is
equal_bools false true is = absurd (true≢false (sym is))
equal_bools false false is = refl

-- equal notes are one
same_parts : (a b : Note) → same_note a b ≡ true → (a.object ≡ b.object) × (a.name.0 ≡ b.name.0) × (a.kept ≡ b.kept)
same_parts a b is =
    let first = and_parts (nat_eq a.object b.object && nat_eq a.name.0 b.name.0) (same_bool a.kept b.kept) is in
    let second = and_parts (nat_eq a.object b.object) (nat_eq a.name.0 b.name.0) first.0 in
    (eqb-true a.object b.object second.0, eqb-true a.name.0 b.name.0 second.1, equal_bools a.kept b.kept first.1)

pub one_note : (a b : Note) → same_note a b ≡ true → a ≡ b
one_note a b is =
    let parts = same_parts a b is in
    ap (λ (k : ℕ). (let z : Note = record a { object = k } in z)) parts.0
    ∙ ap (λ (n : ℕ). (let z : Note = record { object = b.object; name = record { 0 = n }; kept = a.kept } in z)) parts.1
    ∙ ap (λ (c : Bool). (let z : Note = record b { kept = c } in z)) parts.2

-- the name of a note is there
pub name_stands : (ns : List Note) (s : Names) (a : Note) → has_note ns a ≡ true → a.name.0 < 128 → set.contains (with_names s (filter (is_of a.object) ns)) a.name.0 ≡ true
name_stands [] s a has small = absurd (true≢false (sym has))
name_stands (b ∷ bs) s a has small = go (same_note a b) refl (nat_eq b.object a.object) refl has (λ t more. name_stands bs t a more small)
  where
    here : same_note a b ≡ true → set.contains (with_names (with_name s b.name) (filter (is_of a.object) bs)) a.name.0 ≡ true
    here same = within_at (with_name s b.name) (with_names (with_name s b.name) (filter (is_of a.object) bs)) (names_grow (with_name s b.name) (filter (is_of a.object) bs)) a.name.0
        (subst (λ (c : Note). set.contains (with_name s c.name) a.name.0 ≡ true) (one_note a b same) (named s a.name small))

    go : (x : Bool) → same_note a b ≡ x → (y : Bool) → nat_eq b.object a.object ≡ y → (x || has_note bs a) ≡ true
        → ((t : Names) → has_note bs a ≡ true → set.contains (with_names t (filter (is_of a.object) bs)) a.name.0 ≡ true)
        → set.contains (with_names s (if y then b ∷ filter (is_of a.object) bs else filter (is_of a.object) bs)) a.name.0 ≡ true
    go true same true at one further = here same
    go true same false at one further = absurd (true≢false (sym (eq-eqb b.object a.object (sym (same_parts a b same).0)) ∙ at))
    go false same true at one further = further (with_name s b.name) one
    go false same false at one further = further s one

pub has_left : (ms ns : List Note) (a : Note) → has_note ms a ≡ true → has_note (ms ++ ns) a ≡ true
has_left [] ns a has = absurd (true≢false (sym has))
has_left (m ∷ ms) ns a has = go (same_note a m) has (has_left ms ns a)
  where
    go : (x : Bool) → (x || has_note ms a) ≡ true → (has_note ms a ≡ true → has_note (ms ++ ns) a ≡ true) → (x || has_note (ms ++ ns) a) ≡ true
    go true one further = refl
    go false one further = further one

has_last : (ms : List Note) (a b : Note) → same_note a b ≡ true → has_note (ms ++ b ∷ []) a ≡ true
has_last [] a b same = or_left (same_note a b) false same
has_last (m ∷ ms) a b same = or_right (same_note a m) (has_note (ms ++ b ∷ []) a) (has_last ms a b same)

pub joined_keep : (ms ns : List Note) (a : Note) → has_note ms a ≡ true → has_note (joined ms ns) a ≡ true
joined_keep ms [] a has = has
joined_keep ms (b ∷ bs) a has = go (has_note ms b) (joined_keep ms bs a has) (joined_keep (ms ++ b ∷ []) bs a (has_left ms (b ∷ []) a has))
  where
    go : (x : Bool) → has_note (joined ms bs) a ≡ true → has_note (joined (ms ++ b ∷ []) bs) a ≡ true → has_note (if x then joined ms bs else joined (ms ++ b ∷ []) bs) a ≡ true
    go true old new = old
    go false old new = new

pub joined_add : (ms ns : List Note) (a : Note) → has_note ns a ≡ true → has_note (joined ms ns) a ≡ true
joined_add ms [] a has = absurd (true≢false (sym has))
joined_add ms (b ∷ bs) a has = go (has_note ms b) refl (same_note a b) refl has (joined_add ms bs a) (joined_add (ms ++ b ∷ []) bs a)
  where
    go : (x : Bool) → has_note ms b ≡ x → (y : Bool) → same_note a b ≡ y → (y || has_note bs a) ≡ true
        → (has_note bs a ≡ true → has_note (joined ms bs) a ≡ true) → (has_note bs a ≡ true → has_note (joined (ms ++ b ∷ []) bs) a ≡ true)
        → has_note (if x then joined ms bs else joined (ms ++ b ∷ []) bs) a ≡ true
    go true there true same one old new = joined_keep ms bs a (ap (has_note ms) (one_note a b same) ∙ there)
    go true there false other one old new = old one
    go false fresh true same one old new = joined_keep (ms ++ b ∷ []) bs a (has_last ms a b same)
    go false fresh false other one old new = new one

pub spread_keep : (n : ℕ) (p : Program) (h : HeapContents) (ns : List Note) (a : Note) → has_note ns a ≡ true → has_note (spread n p h ns) a ≡ true
spread_keep zero p h ns a has = has
spread_keep (suc n) p h ns a has = spread_keep n p h (joined ns (flat_map (follows p h) ns)) a (joined_keep ns (flat_map (follows p h) ns) a has)

pub noted_has : (p : Program) (notes : List Note) (h : HeapContents) (a : Note) (x : Object) → has_note notes a ≡ true → a.name.0 < 128
    → set.contains (noted_object (all_notes p h notes) a.object x).called a.name.0 ≡ true
noted_has p notes h a x has small =
    name_stands (all_notes p h notes) x.called a (spread_keep (256 * length h.objects) p h (joined [] notes) a (joined_add [] notes a has)) small

-- what stands among all notes was called
pub stands_noted : (p : Program) (notes : List Note) (h : HeapContents) (a : Note) (x : Object) → has_note (all_notes p h notes) a ≡ true → a.name.0 < 128
    → set.contains (noted_object (all_notes p h notes) a.object x).called a.name.0 ≡ true
stands_noted p notes h a x has small = name_stands (all_notes p h notes) x.called a has small
