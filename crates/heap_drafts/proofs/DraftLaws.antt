-- Parts of a step that can be taken back.
use Rattle.std.proofs.Common.{◌≡◌, ◌∙◌, ap, sym, refl, subst, ℕ, zero, suc, ◌≤◌, Bool, true, false, ◌||◌, nat_eq, Option, Some, None, option_map, List, [], ◌∷◌, ◌++◌, length, take, length-append, arith}
use Rattle.std.proofs.lemmas.Grind.{common_steps}
use Rattle.std.specs.Prelude.{nat_le, slice_get}
use Rattle.program_model.specs.declared.kinds.ClassId.{ClassId}
use Rattle.program_model.specs.Lookups.{optional}
use Rattle.ledger_state.specs.declared.object.Object.{Object}
use Rattle.ledger_state.specs.Contents.{HeapContents}
use Rattle.ledger_state.specs.Heaps.{append, change_each, has_number, link_of, linked_by, next_number, object_at, unfinished, with_objects}
use Rattle.ledger_obligations.proofs.ChangeLaws.{change_absent}
use Rattle.heap_drafts.specs.declared.saved.SavedObject.{SavedObject}
use Rattle.heap_drafts.specs.Drafts.{ChangesAmong, Drafted, LinksStay, as_it_is, is_saved, put_back, renewed, renewed_by, renewed_one, saved_as, shortened, snapshots}
use Rattle.heap_drafts.proofs.PlacedLaws.{AllAre, back_joined, length_changed, object_each, object_short, object_there, placed, placed_at, placed_fields, placed_found, placed_none, placed_other, same_heaps, saved_joined, short_all, within}

or_true : (a : Bool) → (a || true) ≡ true
or_true true = refl
or_true false = refl

or_right : (a b : Bool) → (a || b) ≡ false → b ≡ false
or_right false b e = e
or_right true b e = absurd (cc)

-- What is made of objects

are_joined : (k : ℕ) (z : Object) (bs cs : List SavedObject) → AllAre k z bs → AllAre k z cs → AllAre k z (bs ++ cs)
are_joined k z [] cs are more = more
are_joined k z (b ∷ bs) cs are more = (are.0, are_joined k z bs cs are.1 more)

one_are : (f : ℕ → Object → Object) (k j : ℕ) (x : Object) (o : Option Object) → (nat_eq j k ≡ true → o ≡ Some x) → AllAre k (f k x) (optional (option_map (renewed_by f j) o))
one_are f k j x None found = tt
one_are f k j x (Some y) found = (
  λ e.
      let same : j ≡ k = grind (arith, common_steps, e) in
      let both : Some y ≡ Some x = found e in
      let is : y ≡ x = cc in
      λ i. f (same i) (is i),
  tt,
)

pub renewed_are : (f : ℕ → Object → Object) (h : HeapContents) (ks : List ℕ) (k : ℕ) (x : Object) → object_at h k ≡ Some x → AllAre k (f k x) (renewed f h ks)
renewed_are f h [] k x found = tt
renewed_are f h (j ∷ js) k x found =
    are_joined k (f k x) (renewed_one f h j) (renewed f h js)
    (one_are f k j x (object_at h j) (λ e. let same : j ≡ k = grind (arith, common_steps, e) in ap (object_at h) same ∙ found))
    (renewed_are f h js k x found)

is_one : (f : ℕ → Object → Object) (h : HeapContents) (j k : ℕ) (x : Object) → object_at h k ≡ Some x → is_saved (renewed_one f h j) k ≡ nat_eq j k
is_one f h j k x found = go (nat_eq j k) refl (object_at h j) refl
  where
    alone : (a : Bool) → (a || false) ≡ a
    alone true = refl
    alone false = refl

    go : (t : Bool) → nat_eq j k ≡ t → (o : Option Object) → object_at h j ≡ o → is_saved (optional (option_map (renewed_by f j) o)) k ≡ nat_eq j k
    go t e (Some y) there = alone (nat_eq j k)
    go true e None there =
        let same : j ≡ k = grind (arith, common_steps, e) in
        let both : None ≡ Some x = sym there ∙ ap (object_at h) same ∙ found in
        absurd (cc)
    go false e None there = sym e

-- an object that is there is among them where its number is
pub renewed_has : (f : ℕ → Object → Object) (h : HeapContents) (ks : List ℕ) (k : ℕ) (x : Object) → object_at h k ≡ Some x → is_saved (renewed f h ks) k ≡ has_number ks k
renewed_has f h [] k x found = refl
renewed_has f h (j ∷ js) k x found =
    saved_joined (renewed_one f h j) (renewed f h js) k
    ∙ (λ i. is_one f h j k x found i || renewed_has f h js k x found i)

or_left : (a b : Bool) → (a || b) ≡ false → a ≡ false
or_left false b e = refl
or_left true b e = e

or_first : (a b : Bool) → a ≡ true → (a || b) ≡ true
or_first true b e = refl
or_first false b e = absurd (cc)

-- One object more

get_more : (xs ys : List Object) (i : ℕ) (x : Object) → slice_get xs i ≡ Some x → slice_get (xs ++ ys) i ≡ Some x
get_more [] ys i x e = absurd (cc)
get_more (y ∷ xs) ys zero x e = e
get_more (y ∷ xs) ys (suc i) x e = get_more xs ys i x e

last_link : (h : HeapContents) (c : ClassId) (e j : ℕ) → link_of (object_at h e) ≡ Some j → (o : Option Object) → object_at h e ≡ o → link_of (object_at (append h c) e) ≡ Some j
last_link h c zero j was o there = absurd (cc)
last_link h c (suc i) j was None there = absurd (let none : link_of None ≡ Some j = ap link_of (sym there) ∙ was in cc)
last_link h c (suc i) j was (Some w) there = ap link_of (get_more h.objects (unfinished c ∷ []) i w there) ∙ ap link_of (sym there) ∙ was

get_other : (xs : List Object) (y : Object) (i : ℕ) → nat_eq (length xs) i ≡ false → slice_get (xs ++ y ∷ []) i ≡ slice_get xs i
get_other [] y zero e = absurd (cc)
get_other [] y (suc i) e = refl
get_other (x ∷ xs) y zero e = refl
get_other (x ∷ xs) y (suc i) e = get_other xs y i (grind (arith, common_steps, e))

last_other : (h : HeapContents) (c : ClassId) (k : ℕ) → nat_eq (next_number h) k ≡ false → object_at (append h c) k ≡ object_at h k
last_other h c zero e = refl
last_other h c (suc i) e = get_other h.objects (unfinished c) i (grind (arith, common_steps, e))

take_before : (n : ℕ) (xs ys : List Object) → n ≤ length xs → take n (xs ++ ys) ≡ take n xs
take_before zero xs ys low = refl
take_before (suc n) [] ys low = absurd (omega arith)
take_before (suc n) (x ∷ xs) ys low = ap (λ zs. x ∷ zs) (take_before n xs ys (omega arith))

room_back : (h : HeapContents) (x : Object) (n : ℕ) → n ≤ length h.objects → put_back (saved_as (next_number h) x ∷ []) (shortened n h) ≡ shortened n h
room_back h x n low =
    sym (change_absent (λ _. x) (next_number h) (shortened n h) (object_short n (next_number h) h ∙ ap (λ t. within t (object_at h (next_number h))) past))
  where
    past : nat_le (next_number h) n ≡ false
    past = grind (arith, common_steps, low)

last_back : (h : HeapContents) (c : ClassId) (x : Object) (n : ℕ) → n ≤ length h.objects → put_back (saved_as (next_number h) x ∷ []) (shortened n (append h c)) ≡ shortened n h
last_back h c x n low =
    ap (λ (g : HeapContents). put_back (saved_as (next_number h) x ∷ []) g) short ∙ room_back h x n low
  where
    short : shortened n (append h c) ≡ shortened n h
    short = ap (with_objects h) (take_before n h.objects (unfinished c ∷ []) low)

-- what is changed in these places alone is changed in each
pub renewed_each : (f : ℕ → Object → Object) (h : HeapContents) (ks : List ℕ) → ((k : ℕ) (x : Object) → object_at h k ≡ Some x → has_number ks k ≡ false → f k x ≡ x) → put_back (renewed f h ks) h ≡ change_each f h
renewed_each f h ks same = same_heaps (put_back (renewed f h ks) h) (change_each f h) each (placed_fields (renewed f h ks) h)
  where
    at : (k : ℕ) (x : Object) → object_at h k ≡ Some x → (t : Bool) → has_number ks k ≡ t → placed (renewed f h ks) k (Some x) ≡ Some (f k x)
    at k x found true e = placed_found (renewed f h ks) k x (f k x) (renewed_are f h ks k x found) (renewed_has f h ks k x found ∙ e)
    at k x found false e = placed_other (renewed f h ks) k (Some x) (renewed_has f h ks k x found ∙ e) ∙ ap Some (sym (same k x found e))

    go : (k : ℕ) (o : Option Object) → object_at h k ≡ o → placed (renewed f h ks) k o ≡ option_map (f k) o
    go k None found = placed_none (renewed f h ks) k
    go k (Some x) found = at k x found (has_number ks k) refl

    each : (k : ℕ) → object_at (put_back (renewed f h ks) h) k ≡ object_at (change_each f h) k
    each k = placed_at (renewed f h ks) h k ∙ go k (object_at h k) refl ∙ sym (object_each f h k)

-- Parts of a step

pub drafted_same : (bs : List SavedObject) (h : HeapContents) → Drafted bs h bs h
drafted_same bs h = record { back = λ n low. refl; more = λ k e. e; others = λ k e. refl; fields = refl; longer = omega arith; links = λ e j was. was }

pub drafted_on : (bs : List SavedObject) (h : HeapContents) (cs : List SavedObject) (g : HeapContents) (ds : List SavedObject) (i : HeapContents) → Drafted bs h cs g → Drafted cs g ds i → Drafted bs h ds i
drafted_on bs h cs g ds i first second = record {
  back = λ n low. let longer = first.longer in second.back n (omega (arith, low, longer)) ∙ first.back n low;
  more = λ k e. second.more k (first.more k e);
  others = λ k e. second.others k e ∙ first.others k (go k (is_saved cs k) refl e);
  fields = second.fields ∙ first.fields;
  longer = (let one = first.longer in let two = second.longer in omega (arith, one, two));
  links = λ e j was. second.links e j (first.links e j was);
}
  where
    go : (k : ℕ) (t : Bool) → is_saved cs k ≡ t → is_saved ds k ≡ false → is_saved cs k ≡ false
    go k true e none = absurd (let all : is_saved ds k ≡ true = second.more k e in cc)
    go k false e none = e

-- with what they were put back, the objects are what they were, whatever became of them
pub taken_back : (h g : HeapContents) (ks : List ℕ) (n : ℕ) → ((k : ℕ) → has_number ks k ≡ false → object_at g k ≡ object_at h k) → g.fields ≡ h.fields → length g.objects ≡ length h.objects → put_back (snapshots h ks) (shortened n g) ≡ shortened n h
taken_back h g ks n others fields count = same_heaps (put_back (snapshots h ks) (shortened n g)) (shortened n h) each (placed_fields (snapshots h ks) (shortened n g) ∙ fields)
  where
    there : (k : ℕ) (x : Object) → object_at h k ≡ Some x → (t : Bool) → has_number ks k ≡ t → placed (snapshots h ks) k (object_at g k) ≡ Some x
    there k x found true e =
        let other = object_there h g k x found (omega (arith, count)) in
        ap (placed (snapshots h ks) k) other.1
        ∙ placed_found (snapshots h ks) k other.0 x (renewed_are as_it_is h ks k x found) (renewed_has as_it_is h ks k x found ∙ e)
    there k x found false e =
        placed_other (snapshots h ks) k (object_at g k) (renewed_has as_it_is h ks k x found ∙ e) ∙ others k e ∙ found

    missing : (k : ℕ) → object_at h k ≡ None → (o : Option Object) → object_at g k ≡ o → placed (snapshots h ks) k o ≡ None
    missing k found None other = placed_none (snapshots h ks) k
    missing k found (Some y) other =
        let back = object_there g h k y other (omega (arith, count)) in
        let no : None ≡ Some back.0 = sym found ∙ back.1 in
        absurd (cc)

    go : (k : ℕ) (o : Option Object) → object_at h k ≡ o → placed (snapshots h ks) k (object_at g k) ≡ o
    go k None found = missing k found (object_at g k) refl
    go k (Some x) found = there k x found (has_number ks k) refl

    short : (k : ℕ) (t : Bool) → placed (snapshots h ks) k (within t (object_at g k)) ≡ within t (object_at h k)
    short k true = go k (object_at h k) refl
    short k false = placed_none (snapshots h ks) k

    each : (k : ℕ) → object_at (put_back (snapshots h ks) (shortened n g)) k ≡ object_at (shortened n h) k
    each k =
        placed_at (snapshots h ks) (shortened n g) k
        ∙ ap (placed (snapshots h ks) k) (object_short n k g)
        ∙ short k (nat_le k n)
        ∙ sym (object_short n k h)

-- a part of a step that changes what it saved
pub drafted_by : (bs cs : List SavedObject) (h g : HeapContents) (ks : List ℕ) → cs ≡ bs ++ snapshots h ks → ChangesAmong ks h g → Drafted bs h cs g
drafted_by bs cs h g ks saved among =
    subst (λ (ds : List SavedObject). Drafted bs h ds g) (sym saved) (record {
      back = λ n low. back_joined bs (snapshots h ks) (shortened n g) ∙ ap (put_back bs) (taken_back h g ks n among.others among.fields among.count);
      more = λ k e. saved_joined bs (snapshots h ks) k ∙ or_one (is_saved bs k) (is_saved (snapshots h ks) k) e;
      others = λ k e. other k (or_right (is_saved bs k) (is_saved (snapshots h ks) k) (sym (saved_joined bs (snapshots h ks) k) ∙ e)) (has_number ks k) refl (object_at h k) refl;
      fields = among.fields;
      longer = (let count = among.count in omega (arith, count));
      links = among.links;
    })
  where
    or_one : (a b : Bool) → a ≡ true → (a || b) ≡ true
    or_one true b e = refl
    or_one false b e = absurd (cc)

    missing : (k : ℕ) → object_at h k ≡ None → (o : Option Object) → object_at g k ≡ o → o ≡ object_at h k
    missing k found None other = sym found
    missing k found (Some y) other =
        let count = among.count in
        let back = object_there g h k y other (omega (arith, count)) in
        let no : None ≡ Some back.0 = sym found ∙ back.1 in
        absurd (cc)

    other : (k : ℕ) → is_saved (snapshots h ks) k ≡ false → (t : Bool) → has_number ks k ≡ t → (o : Option Object) → object_at h k ≡ o → object_at g k ≡ object_at h k
    other k none false e o found = among.others k e
    other k none true e None found = missing k found (object_at g k) refl
    other k none true e (Some x) found =
        let is : false ≡ true = sym none ∙ renewed_has as_it_is h ks k x found ∙ e in
        absurd (cc)

-- a part of a step that changes each object, where that leaves the links
pub links_each : (f : ℕ → Object → Object) (h : HeapContents) → ((k : ℕ) (x : Object) → (f k x).link ≡ x.link) → LinksStay h (change_each f h)
links_each f h link e j was = go (object_at h e) refl
  where
    go : (o : Option Object) → object_at h e ≡ o → link_of (object_at (change_each f h) e) ≡ Some j
    go None there = absurd (let none : link_of None ≡ Some j = ap link_of (sym there) ∙ was in cc)
    go (Some w) there =
        let now : object_at (change_each f h) e ≡ Some (f e w) = object_each f h e ∙ ap (option_map (f e)) there in
        ap link_of now ∙ ap linked_by (link e w) ∙ ap link_of (sym there) ∙ was

pub among_each : (f : ℕ → Object → Object) (h g : HeapContents) (ks : List ℕ) → g ≡ put_back (renewed f h ks) h → ((k : ℕ) (x : Object) → object_at h k ≡ Some x → has_number ks k ≡ false → f k x ≡ x) → ((k : ℕ) (x : Object) → (f k x).link ≡ x.link) → ChangesAmong ks h g
among_each f h g ks put same link =
    subst (λ (i : HeapContents). ChangesAmong ks h i) (sym (put ∙ renewed_each f h ks same))
    (record { others = others; fields = refl; count = length_changed f 1 h.objects; links = links_each f h link })
  where
    others : (k : ℕ) → has_number ks k ≡ false → object_at (change_each f h) k ≡ object_at h k
    others k e = object_each f h k ∙ go (object_at h k) refl
      where
        go : (o : Option Object) → object_at h k ≡ o → option_map (f k) o ≡ o
        go None found = refl
        go (Some x) found = ap Some (same k x found e)

pub drafted_each : (bs cs : List SavedObject) (f : ℕ → Object → Object) (h g : HeapContents) (ks : List ℕ) → cs ≡ bs ++ snapshots h ks → g ≡ put_back (renewed f h ks) h → ((k : ℕ) (x : Object) → object_at h k ≡ Some x → has_number ks k ≡ false → f k x ≡ x) → ((k : ℕ) (x : Object) → (f k x).link ≡ x.link) → Drafted bs h cs g
drafted_each bs cs f h g ks saved put same link = drafted_by bs cs h g ks saved (among_each f h g ks put same link)

pub among_same : (h : HeapContents) (ks : List ℕ) → ChangesAmong ks h h
among_same h ks = record { others = λ k e. refl; fields = refl; count = refl; links = λ e j was. was }

-- saving alone
pub drafted_saved : (bs cs : List SavedObject) (h : HeapContents) (ks : List ℕ) → cs ≡ bs ++ snapshots h ks → Drafted bs h cs h
drafted_saved bs cs h ks saved = drafted_by bs cs h h ks saved (among_same h ks)

-- an object more
pub drafted_more : (bs cs : List SavedObject) (h g : HeapContents) (c : ClassId) (x : Object) → cs ≡ bs ++ saved_as (next_number h) x ∷ [] → g ≡ append h c → Drafted bs h cs g
drafted_more bs cs h g c x saved made =
    subst (λ (ds : List SavedObject). Drafted bs h ds g) (sym saved)
    (subst (λ (i : HeapContents). Drafted bs h (bs ++ saved_as (next_number h) x ∷ []) i) (sym made) (record {
      back = λ n low. back_joined bs (saved_as (next_number h) x ∷ []) (shortened n (append h c)) ∙ ap (put_back bs) (last_back h c x n low);
      more = λ k e. saved_joined bs (saved_as (next_number h) x ∷ []) k ∙ or_first (is_saved bs k) (is_saved (saved_as (next_number h) x ∷ []) k) e;
      others = λ k e. last_other h c k (or_left (nat_eq (next_number h) k) false (or_right (is_saved bs k) (is_saved (saved_as (next_number h) x ∷ []) k) (sym (saved_joined bs (saved_as (next_number h) x ∷ []) k) ∙ e)));
      fields = refl;
      longer = (let more = length-append h.objects (unfinished c ∷ []) in omega (arith, more));
      links = λ e j was. last_link h c e j was (object_at h e) refl;
    }))

-- room for an object more, which was not made
pub drafted_room : (bs cs : List SavedObject) (h : HeapContents) (x : Object) → cs ≡ bs ++ saved_as (next_number h) x ∷ [] → Drafted bs h cs h
drafted_room bs cs h x saved =
    subst (λ (ds : List SavedObject). Drafted bs h ds h) (sym saved) (record {
      back = λ n low. back_joined bs (saved_as (next_number h) x ∷ []) (shortened n h) ∙ ap (put_back bs) (room_back h x n low);
      more = λ k e. saved_joined bs (saved_as (next_number h) x ∷ []) k ∙ or_first (is_saved bs k) (is_saved (saved_as (next_number h) x ∷ []) k) e;
      others = λ k e. refl;
      fields = refl;
      longer = omega arith;
      links = λ e j was. was;
    })

-- a step that is taken back leaves the heap as it was
pub taken_whole : (first : List SavedObject) (h : HeapContents) (bs : List SavedObject) (g : HeapContents) (n : ℕ) → first ≡ [] → Drafted first h bs g → n ≡ length h.objects → put_back bs (shortened n g) ≡ h
taken_whole first h bs g n none drafted count =
    drafted.back n (omega (arith, count))
    ∙ ap (λ (cs : List SavedObject). put_back cs (shortened n h)) none
    ∙ ap (λ m. shortened m h) count ∙ short_all h
