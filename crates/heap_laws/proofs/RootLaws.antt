-- The ends of links, where each link leads to an object that was made before.
use Rattle.std.proofs.Common.{◌≡◌, ℕ, zero, suc, ◌<◌, ◌≤◌, Option, Some, None, List, [], ◌∷◌, length, slice_get, refl, sym, ap, ◌∙◌, arith}
use Rattle.ledger_state.specs.Contents.{HeapContents}
use Rattle.ledger_state.specs.Heaps.{follow, link_of, linked_by, next_number, object_at, root, root_of, root_within}
use Rattle.ledger_state.specs.declared.object.Link.{Link}
use Rattle.ledger_state.specs.declared.object.Object.{Object}
use Rattle.ledger_state.specs.declared.value.Value.{Value}
use Rattle.ledger_state.specs.declared.value.Value.TheVariants as values
use Rattle.heap_laws.specs.Heaps.{Evolves, HasEarlierLinks, KeepsLinks}
use Rattle.heap_laws.proofs.ObjectLaws.{in_range}

-- ---- the objects of a heap

element_at : (xs : List Object) (i : ℕ) → i < length xs → (x : Object) × (slice_get xs i ≡ Some x)
element_at [] i below = absurd (omega (arith, below))
element_at (x ∷ xs) zero below = (x, refl)
element_at (x ∷ xs) (suc i) below = element_at xs i (omega (arith, below))

-- each number in range is that of an object
pub object_of_number : (h : HeapContents) (k : ℕ) → 0 < k → k < next_number h → (x : Object) × (object_at h k ≡ Some x)
object_of_number h zero above below = absurd (omega (arith, above))
object_of_number h (suc k) above below = element_at h.objects k (omega (arith, below))

pub one_object : (x y : Object) (o : Option Object) → o ≡ Some x → o ≡ Some y → x ≡ y
one_object x y o is' is = let both : Some x ≡ Some y = sym is' ∙ is in cc

-- ---- the way

pub end_here : (h : HeapContents) (n k : ℕ) → link_of (object_at h k) ≡ None → root_within n h k ≡ k
end_here h zero k none = refl
end_here h (suc n) k none = ap (λ (l : Option ℕ). follow (root_within n h) k l) none

-- where the object is linked, the way leads on
pub further : (h : HeapContents) (n k : ℕ) (x : Object) (l : Link) → object_at h k ≡ Some x → x.link ≡ Some l → root_within (suc n) h k ≡ root_within n h l.to
further h n k x l at link = ap (λ (j : Option ℕ). follow (root_within n h) k j) (ap link_of at ∙ ap linked_by link)

pub none_here : (h : HeapContents) (k : ℕ) (x : Object) → object_at h k ≡ Some x → x.link ≡ None → link_of (object_at h k) ≡ None
none_here h k x at none = ap link_of at ∙ ap linked_by none

-- the number to which the object is linked
leads_back : (h : HeapContents) → HasEarlierLinks h → (k j : ℕ) (x : Option Object) → object_at h k ≡ x → link_of x ≡ Some j → j < k
leads_back h links k j None at is = absurd (let never : None ≡ Some j = is in cc)
leads_back h links k j (Some x) at is = go x.link refl is
  where
    go : (l : Option Link) → x.link ≡ l → linked_by l ≡ Some j → j < k
    go None none is' = absurd (let never : None ≡ Some j = is' in cc)
    go (Some l) some is' =
        let before = (links k x l at some).before in
        let same : l.to ≡ j = (let both : Some l.to ≡ Some j = is' in cc) in
        omega (arith, before, same)

-- as many turns as the number of the object are enough
pub enough : (h : HeapContents) → HasEarlierLinks h → (n m k : ℕ) → k ≤ n → k ≤ m → root_within n h k ≡ root_within m h k
enough h links zero m k below above =
    let none : link_of (object_at h k) ≡ None = (let first : k ≡ 0 = omega (arith, below) in ap (λ (i : ℕ). link_of (object_at h i)) first) in
    sym (end_here h m k none)
enough h links (suc n) zero k below above =
    let none : link_of (object_at h k) ≡ None = (let first : k ≡ 0 = omega (arith, above) in ap (λ (i : ℕ). link_of (object_at h i)) first) in
    end_here h (suc n) k none
enough h links (suc n) (suc m) k below above = go (link_of (object_at h k)) refl (λ j before. enough h links n m j (omega (arith, before, below)) (omega (arith, before, above)))
  where
    go : (l : Option ℕ) → link_of (object_at h k) ≡ l → ((j : ℕ) → j < k → root_within n h j ≡ root_within m h j) → follow (root_within n h) k l ≡ follow (root_within m h) k l
    go None is same = refl
    go (Some j) is same = same j (leads_back h links k j (object_at h k) refl is)

-- ---- roots

pub root_itself : (h : HeapContents) (k : ℕ) (x : Object) → object_at h k ≡ Some x → x.link ≡ None → root h k ≡ k
root_itself h k x at none = end_here h (length h.objects) k (none_here h k x at none)

pub root_absent : (h : HeapContents) (k : ℕ) → object_at h k ≡ None → root h k ≡ k
root_absent h k none = end_here h (length h.objects) k (ap link_of none)

-- the number of an object is not above the count of them
counted : (h : HeapContents) (k : ℕ) (x : Object) → object_at h k ≡ Some x → k ≤ length h.objects
counted h k x at = let below = (in_range h k x at).1 in omega (arith, below)

pub root_linked : (h : HeapContents) (k : ℕ) (x : Object) (l : Link) → HasEarlierLinks h → object_at h k ≡ Some x → x.link ≡ Some l → root h k ≡ root h l.to
root_linked h k x l links at link =
    let below = counted h k x at in
    enough h links (length h.objects) (suc (length h.objects)) k below (omega (arith, below)) ∙ further h (length h.objects) k x l at link

-- an object to which one is linked is there
pub linked_to_object : (h : HeapContents) (k : ℕ) (x : Object) (l : Link) → HasEarlierLinks h → object_at h k ≡ Some x → x.link ≡ Some l → (y : Object) × (object_at h l.to ≡ Some y)
linked_to_object h k x l links at link =
    let is = links k x l at link in
    let above = is.there in
    let before = is.before in
    let below = (in_range h k x at).1 in
    object_of_number h l.to above (omega (arith, before, below))

end_there : (h : HeapContents) → HasEarlierLinks h → (n k : ℕ) (x : Object) → k ≤ n → object_at h k ≡ Some x → (y : Object) × (object_at h (root_within n h k) ≡ Some y) × (y.link ≡ None)
end_there h links zero k x below at = absurd (let above = (in_range h k x at).0 in omega (arith, below, above))
end_there h links (suc n) k x below at = go x.link refl (λ j y before there. end_there h links n j y (omega (arith, before, below)) there)
  where
    go : (l : Option Link) → x.link ≡ l → ((j : ℕ) (y : Object) → j < k → object_at h j ≡ Some y → (z : Object) × (object_at h (root_within n h j) ≡ Some z) × (z.link ≡ None))
        → (y : Object) × (object_at h (root_within (suc n) h k) ≡ Some y) × (y.link ≡ None)
    go None none on = (x, ap (object_at h) (end_here h (suc n) k (none_here h k x at none)) ∙ at, none)
    go (Some l) some on =
        let next = linked_to_object h k x l links at some in
        let end = on l.to next.0 (links k x l at some).before next.1 in
        (end.0, ap (object_at h) (further h n k x l at some) ∙ end.1, end.2)

pub root_there : (h : HeapContents) (k : ℕ) (x : Object) → HasEarlierLinks h → object_at h k ≡ Some x → (y : Object) × (object_at h (root h k) ≡ Some y) × (y.link ≡ None)
root_there h k x links at = end_there h links (length h.objects) k x (counted h k x at) at

-- ---- objects that go on

same_way : (h k : HeapContents) → HasEarlierLinks h → KeepsLinks h k → (m n : ℕ) (x : Object) → object_at h n ≡ Some x → root_within m k n ≡ root_within m h n
same_way h k links keeps zero n x at = refl
same_way h k links keeps (suc m) n x at = go x.link refl (λ j y there. same_way h k links keeps m j y there)
  where
    go : (l : Option Link) → x.link ≡ l → ((j : ℕ) (y : Object) → object_at h j ≡ Some y → root_within m k j ≡ root_within m h j) → root_within (suc m) k n ≡ root_within (suc m) h n
    go None none on =
        let y = keeps n x at in
        end_here k (suc m) n (none_here k n y.0 y.1 (y.2 ∙ none)) ∙ sym (end_here h (suc m) n (none_here h n x at none))
    go (Some l) some on =
        let y = keeps n x at in
        let next = linked_to_object h n x l links at some in
        further k m n y.0 l y.1 (y.2 ∙ some) ∙ on l.to next.0 next.1 ∙ sym (further h m n x l at some)

pub root_goes_on : (h k : HeapContents) (n : ℕ) (x : Object) → HasEarlierLinks h → KeepsLinks h k → object_at h n ≡ Some x → root k n ≡ root h n
root_goes_on h k n x links keeps at =
    let y = keeps n x at in
    same_way h k links keeps (length k.objects) n x at ∙ enough h links (length k.objects) (length h.objects) n (counted k n y.0 y.1) (counted h n x at)

-- an object that has a root in the heap is there
pub has_object : (h : HeapContents) (n o : ℕ) (x : Object) → root h n ≡ o → object_at h o ≡ Some x → (y : Object) × (object_at h n ≡ Some y)
has_object h n o x is at = go (object_at h n) refl
  where
    go : (y : Option Object) → object_at h n ≡ y → (z : Object) × (object_at h n ≡ Some z)
    go None none =
        let itself : n ≡ o = sym (root_absent h n none) ∙ is in
        absurd (let never : None ≡ Some x = sym none ∙ ap (object_at h) itself ∙ at in cc)
    go (Some y) there = (y, there)

pub root_of_goes_on : (h k : HeapContents) (v : Value) (o : ℕ) (x : Object) → HasEarlierLinks h → KeepsLinks h k → root_of h v ≡ Some o → object_at h o ≡ Some x → root_of k v ≡ Some o
root_of_goes_on h k values.Nothing o x links keeps is at = absurd (let never : None ≡ Some o = is in cc)
root_of_goes_on h k (values.Object n) o x links keeps is at =
    let here : root h n ≡ o = (let both : Some (root h n) ≡ Some o = is in cc) in
    let y = has_object h n o x here at in
    ap Some (root_goes_on h k n y.0 links keeps y.1) ∙ is
root_of_goes_on h k v o x links keeps is at = absurd (let never : None ≡ Some o = is in cc)

pub root_is_not_linked : (h : HeapContents) (v : Value) (o : ℕ) (x : Object) → HasEarlierLinks h → root_of h v ≡ Some o → object_at h o ≡ Some x → x.link ≡ None
root_is_not_linked h values.Nothing o x links is at = absurd (let never : None ≡ Some o = is in cc)
root_is_not_linked h (values.Object n) o x links is at =
    let here : root h n ≡ o = (let both : Some (root h n) ≡ Some o = is in cc) in
    let y = has_object h n o x here at in
    let end = root_there h n y.0 links y.1 in
    ap (λ (z : Object). z.link) (one_object x end.0 (object_at h o) at (ap (object_at h) (sym here) ∙ end.1)) ∙ end.2
root_is_not_linked h v o x links is at = absurd (let never : None ≡ Some o = is in cc)

-- ---- the links of a heap that has gone on

pub earlier_links_go_on : (h k : HeapContents) → HasEarlierLinks h
    → ((n : ℕ) (y : Object) (l : Link) → object_at k n ≡ Some y → y.link ≡ Some l → (x : Object) × (object_at h n ≡ Some x) × (x.link ≡ Some l) × (y.owner ≡ x.owner) × (y.finished ≡ x.finished))
    → HasEarlierLinks k
earlier_links_go_on h k links same n y l at link =
    let x = same n y l at link in
    let was = links n x.0 l x.1 x.2 in
    record { there = was.there; before = was.before; owner = x.3 ∙ was.owner; finished = x.4 ∙ was.finished }

pub evolves_links : (h k : HeapContents) → Evolves h k → KeepsLinks h k
evolves_links h k evolves n x at = let y = evolves n x at in (y.0, y.1, y.2.link)
