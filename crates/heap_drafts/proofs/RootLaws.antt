-- Roots, where no link changes, and changes of one object.
use Rattle.std.proofs.Common.{◌≡◌, ◌∙◌, ap, sym, refl, subst, ℕ, zero, suc, ◌<◌, Bool, true, false, nat_eq, Option, Some, None, option_map, List, length, arith}
use Rattle.std.proofs.lemmas.Grind.{common_steps}
use Rattle.std.specs.Prelude.{if◌then◌else◌}
use Rattle.program_model.specs.declared.kinds.VType.{VType}
use Rattle.program_model.specs.declared.program.Program.{Program}
use Rattle.ledger_state.specs.declared.entry.Owner.{Owner}
use Rattle.ledger_state.specs.declared.object.Object.{Object}
use Rattle.ledger_state.specs.declared.value.Value.{Value}
use Rattle.ledger_state.specs.declared.value.Value.TheVariants as values
use Rattle.ledger_state.specs.Contents.{HeapContents}
use Rattle.ledger_state.specs.Heaps.{change_one, change_some, follow, has_number, link_of, linked_by, object_at, only_at, root, root_of, root_within}
use Rattle.ledger_obligations.specs.Obligations.{may_move, move, moved_to, with_owner}
use Rattle.heap_drafts.specs.Drafts.{ChangesAmong, LinksStay}
use Rattle.heap_drafts.proofs.PlacedLaws.{length_changed, object_each}
use Rattle.heap_drafts.proofs.DraftLaws.{among_same}

-- each object has the link that it had
abbrev pub SameLinks : HeapContents → HeapContents → Type 0
SameLinks h g = (e : ℕ) → link_of (object_at g e) ≡ link_of (object_at h e)

pub links_then : (h g i : HeapContents) → SameLinks h g → SameLinks g i → SameLinks h i
links_then h g i first second e = second e ∙ first e

root_within_same : (n : ℕ) (h g : HeapContents) (k : ℕ) → SameLinks h g → root_within n g k ≡ root_within n h k
root_within_same zero h g k same = refl
root_within_same (suc n) h g k same =
    ap (follow (root_within n g) k) (same k) ∙ go (link_of (object_at h k)) (λ j. root_within_same n h g j same)
  where
    go : (o : Option ℕ) → ((j : ℕ) → root_within n g j ≡ root_within n h j) → follow (root_within n g) k o ≡ follow (root_within n h) k o
    go None further = refl
    go (Some j) further = further j

pub root_same : (h g : HeapContents) (k : ℕ) → SameLinks h g → length g.objects ≡ length h.objects → root g k ≡ root h k
root_same h g k same count = ap (λ n. root_within n g k) count ∙ root_within_same (length h.objects) h g k same

pub root_of_same : (h g : HeapContents) (v : Value) → SameLinks h g → length g.objects ≡ length h.objects → root_of g v ≡ root_of h v
root_of_same h g (values.Object k) same count = ap Some (root_same h g k same count)
root_of_same h g values.Nothing same count = refl
root_of_same h g values.Null same count = refl
root_of_same h g values.Text same count = refl
root_of_same h g (values.Number z) same count = refl
root_of_same h g (values.Array a) same count = refl

-- Changes one after the other

pub among_then : (ks : List ℕ) (h g i : HeapContents) → ChangesAmong ks h g → ChangesAmong ks g i → ChangesAmong ks h i
among_then ks h g i first second = record {
  others = λ k e. second.others k e ∙ first.others k e;
  fields = second.fields ∙ first.fields;
  count = second.count ∙ first.count;
  links = λ e j was. second.links e j (first.links e j was);
}

-- One object

link_one : (c : ℕ) (f : Object → Object) (h : HeapContents) → ((x : Object) → object_at h c ≡ Some x → (f x).link ≡ x.link) → SameLinks h (change_one c f h)
link_one c f h link e = ap link_of (object_each (only_at c f) h e) ∙ go (object_at h e) refl (nat_eq e c) refl
  where
    go : (o : Option Object) → object_at h e ≡ o → (b : Bool) → nat_eq e c ≡ b → link_of (option_map (only_at c f e) o) ≡ link_of o
    go None found b same = refl
    go (Some x) found true same =
        let is : e ≡ c = grind (arith, common_steps, same) in
        ap (λ t. linked_by (if t then f x else x).link) same ∙ ap linked_by (link x (ap (object_at h) (sym is) ∙ found))
    go (Some x) found false same = ap (λ t. linked_by (if t then f x else x).link) same

links_from : (h g : HeapContents) → SameLinks h g → LinksStay h g
links_from h g same e j was = same e ∙ was

object_above : (h : HeapContents) (k : ℕ) (x : Object) → object_at h k ≡ Some x → 0 < k
object_above h zero x found = absurd (cc)
object_above h (suc i) x found = omega arith

one_among : (c : ℕ) (f : Object → Object) (h : HeapContents) (ks : List ℕ) → (0 < c → has_number ks c ≡ true) → LinksStay h (change_one c f h) → ChangesAmong ks h (change_one c f h)
one_among c f h ks has links = record {
  others = others;
  fields = refl;
  count = length_changed (only_at c f) 1 h.objects;
  links = links;
}
  where
    others : (k : ℕ) → has_number ks k ≡ false → object_at (change_one c f h) k ≡ object_at h k
    others k none = object_each (only_at c f) h k ∙ go (object_at h k) refl (nat_eq k c) refl
      where
        go : (o : Option Object) → object_at h k ≡ o → (b : Bool) → nat_eq k c ≡ b → option_map (only_at c f k) o ≡ o
        go None found b same = refl
        go (Some x) found false same = ap (λ t. Some (if t then f x else x)) same
        go (Some x) found true same =
            let is : k ≡ c = grind (arith, common_steps, same) in
            let above : 0 < c = subst (λ m. 0 < m) is (object_above h k x found) in
            let bad : true ≡ false = sym (has above) ∙ ap (has_number ks) (sym is) ∙ none in
            absurd (cc)

pub some_same : (o : Option ℕ) (f : Object → Object) (h : HeapContents) → ((x : Object) → (f x).link ≡ x.link) → SameLinks h (change_some o f h)
some_same None f h link e = refl
some_same (Some c) f h link e = link_one c f h (λ x found. link x) e

pub some_among : (o : Option ℕ) (f : Object → Object) (h : HeapContents) (ks : List ℕ) → ((c : ℕ) → o ≡ Some c → 0 < c → has_number ks c ≡ true) → ((x : Object) → (f x).link ≡ x.link) → ChangesAmong ks h (change_some o f h)
some_among None f h ks has link = among_same h ks
some_among (Some c) f h ks has link = one_among c f h ks (has c refl) (links_from h (change_one c f h) (link_one c f h (λ x found. link x)))

-- one object that had no link
pub free_among : (c : ℕ) (f : Object → Object) (h : HeapContents) (ks : List ℕ) → (0 < c → has_number ks c ≡ true) → link_of (object_at h c) ≡ None → ChangesAmong ks h (change_one c f h)
free_among c f h ks has free = one_among c f h ks has links
  where
    links : LinksStay h (change_one c f h)
    links e j was = ap link_of (object_each (only_at c f) h e) ∙ go (object_at h e) refl (nat_eq e c) refl
      where
        go : (o : Option Object) → object_at h e ≡ o → (b : Bool) → nat_eq e c ≡ b → link_of (option_map (only_at c f e) o) ≡ Some j
        go None found b same = absurd (let none : link_of None ≡ Some j = ap link_of (sym found) ∙ was in cc)
        go (Some x) found false same = ap (λ t. linked_by (if t then f x else x).link) same ∙ ap link_of (sym found) ∙ was
        go (Some x) found true same =
            let is : e ≡ c = grind (arith, common_steps, same) in
            let bad : None ≡ Some j = sym free ∙ ap (λ m. link_of (object_at h m)) (sym is) ∙ was in
            absurd (cc)

-- Moves

moved_link : (p : Program) (t : VType) (o : Owner) (x : Object) → (moved_to p t o x).link ≡ x.link
moved_link p t o x = go (may_move p t x)
  where
    go : (b : Bool) → (if b then with_owner o x else x).link ≡ x.link
    go true = refl
    go false = refl

pub move_same : (p : Program) (t : VType) (o : Owner) (v : Value) (h : HeapContents) → SameLinks h (move p t o v h)
move_same p t o v h = some_same (root_of h v) (moved_to p t o) h (moved_link p t o)

pub move_among : (p : Program) (t : VType) (o : Owner) (v : Value) (h : HeapContents) (ks : List ℕ) → ((c : ℕ) → root_of h v ≡ Some c → 0 < c → has_number ks c ≡ true) → ChangesAmong ks h (move p t o v h)
move_among p t o v h ks has = some_among (root_of h v) (moved_to p t o) h ks has (moved_link p t o)
