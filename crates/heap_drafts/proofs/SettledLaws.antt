-- What stays settled.
use Rattle.std.proofs.Common.{◌≡◌, ◌∙◌, ap, sym, refl, subst, ℕ, zero, suc, ◌+◌, ◌<◌, ◌≤◌, Bool, true, false, not, ◌||◌, nat_eq, Option, Some, None, option_map, List, [], ◌∷◌, ◌++◌, length, take, get_or, arith}
use Rattle.std.proofs.lemmas.Grind.{common_steps, flat_map-append}
use Rattle.std.proofs.lemmas.List.{take_more}
use Rattle.std.specs.Prelude.{if◌then◌else◌}
use Rattle.program_model.specs.Lookups.{optional}
use Rattle.ledger_state.specs.declared.entry.Owner.{Owner}
use Rattle.ledger_state.specs.declared.entry.Owner.TheVariants as owners
use Rattle.ledger_state.specs.declared.object.Link.{Link}
use Rattle.ledger_state.specs.declared.object.Object.{Object}
use Rattle.ledger_state.specs.declared.value.Value.{Value}
use Rattle.ledger_state.specs.declared.value.Value.TheVariants as values
use Rattle.ledger_state.specs.Contents.{HeapContents}
use Rattle.ledger_state.specs.Heaps.{has_number, link_of, linked_by, object_at, root, root_of, root_within, same_root}
use Rattle.ledger_state.proofs.HeapLemmas.{root_by_link, root_without_link}
use Rattle.ledger_obligations.specs.Obligations.{held_at, holds, is_unmet, lose, lost_object, owner_holds, with_owner}
use Rattle.settled_heaps.specs.Settled.{Settled, is_kept, is_settled}
use Rattle.settled_heaps.proofs.SettledLaws.{same_root_is}
use Rattle.heap_drafts.specs.declared.saved.SavedObject.{SavedObject}
use Rattle.heap_drafts.specs.Drafts.{ChangesAmong, Drafted, LinksStay, put_back, renewed, renewed_by, renewed_one, roots_of, saved_as, snapshots}
use Rattle.heap_drafts.specs.LostObjects.{AllLost, LeftSettled}
use Rattle.heap_drafts.proofs.PlacedLaws.{length_changed, object_each}
use Rattle.heap_drafts.proofs.DraftLaws.{among_each, drafted_by, links_each, renewed_each}
use Rattle.heap_drafts.proofs.LinkLaws.{lost_link}

-- a way along links that stay comes to the same end
root_kept : (n m : ℕ) (h g : HeapContents) (v k : ℕ) → LinksStay h g → n ≤ m → link_of (object_at g k) ≡ None → root_within n h v ≡ k → root_within m g v ≡ k
root_kept zero m h g v k links longer ends at = root_without_link m g v (ap (λ z. link_of (object_at g z)) at ∙ ends) ∙ at
root_kept (suc n) zero h g v k links longer ends at = absurd (omega arith)
root_kept (suc n) (suc m) h g v k links longer ends at =
    go (link_of (object_at h v)) refl (λ j there. root_kept n m h g j k links (omega arith) ends there)
  where
    go : (o : Option ℕ) → link_of (object_at h v) ≡ o → ((j : ℕ) → root_within n h j ≡ k → root_within m g j ≡ k) → root_within (suc m) g v ≡ k
    go None e further =
        let same : v ≡ k = sym (root_without_link (suc n) h v e) ∙ at in
        root_without_link (suc m) g v (ap (λ z. link_of (object_at g z)) same ∙ ends) ∙ same
    go (Some j) e further = root_by_link m g v j (links v j e) ∙ further j (sym (root_by_link n h v j e) ∙ at)

pub value_kept : (h g : HeapContents) (v : Value) (k : ℕ) → LinksStay h g → length h.objects ≤ length g.objects → link_of (object_at g k) ≡ None → root_of h v ≡ Some k → root_of g v ≡ Some k
value_kept h g (values.Object e) k links longer ends at =
    let there : root h e ≡ k = cc in
    ap Some (root_kept (length h.objects) (length g.objects) h g e k links longer ends there)
value_kept h g values.Nothing k links longer ends at = absurd (cc)
value_kept h g values.Null k links longer ends at = absurd (cc)
value_kept h g values.Text k links longer ends at = absurd (cc)
value_kept h g (values.Number z) k links longer ends at = absurd (cc)
value_kept h g (values.Array a) k links longer ends at = absurd (cc)

same_as_itself : (k : ℕ) → same_root (Some k) (Some k) ≡ true
same_as_itself k = grind (arith, common_steps)

or_true : (a : Bool) → (a || true) ≡ true
or_true true = refl
or_true false = refl

-- so do the places that hold an object
holds_kept : (h g : HeapContents) (vs : List Value) (k : ℕ) → LinksStay h g → length h.objects ≤ length g.objects → link_of (object_at g k) ≡ None → holds h vs k ≡ true → holds g vs k ≡ true
holds_kept h g [] k links longer ends held = absurd (cc)
holds_kept h g (v ∷ vs) k links longer ends held =
    go (same_root (root_of h v) (Some k)) refl held (holds_kept h g vs k links longer ends)
  where
    go : (b : Bool) → same_root (root_of h v) (Some k) ≡ b → (b || holds h vs k) ≡ true → (holds h vs k ≡ true → holds g vs k ≡ true) → holds g (v ∷ vs) k ≡ true
    go true e any further =
        let there : root_of g v ≡ Some k = value_kept h g v k links longer ends (same_root_is (root_of h v) k e) in
        ap (λ o. same_root o (Some k) || holds g vs k) there ∙ ap (λ b. b || holds g vs k) (same_as_itself k)
    go false e any further = ap (λ b. same_root (root_of g v) (Some k) || b) (further any) ∙ or_true (same_root (root_of g v) (Some k))

kept_more : (h g : HeapContents) (held : List (List Value)) (o : Owner) (l : Option Link) (k : ℕ) → LinksStay h g → length h.objects ≤ length g.objects → link_of (object_at g k) ≡ linked_by l → is_kept h held o l k ≡ true → is_kept g held o l k ≡ true
kept_more h g held (owners.Frame j) None k links longer ends kept = holds_kept h g (held_at held j) k links longer ends kept
kept_more h g held (owners.Frame j) (Some l) k links longer ends kept = kept
kept_more h g held (owners.Field w f) l k links longer ends kept = refl
kept_more h g held owners.Library l k links longer ends kept = refl
kept_more h g held owners.Released l k links longer ends kept = refl
kept_more h g held owners.Lost l k links longer ends kept = refl
kept_more h g held owners.Unowned l k links longer ends kept = refl

-- an object with the same owner and link that is unmet only if the other was
pub settled_more : (h g : HeapContents) (held : List (List Value)) (k : ℕ) (x y : Object) → LinksStay h g → length h.objects ≤ length g.objects → object_at g k ≡ Some y → y.owner ≡ x.owner → y.link ≡ x.link → (is_unmet y ≡ true → is_unmet x ≡ true) → is_settled h held k x ≡ true → is_settled g held k y ≡ true
settled_more h g held k x y links longer there owner link unmet settled = go (is_unmet y) refl
  where
    go : (b : Bool) → is_unmet y ≡ b → (not (is_unmet y) || is_kept g held y.owner y.link k) ≡ true
    go false e = rw e refl
    go true e =
        let was : is_kept h held x.owner x.link k ≡ true = rw (unmet e) at settled in
        let here : link_of (object_at g k) ≡ linked_by x.link = ap link_of there ∙ ap linked_by link in
        let now : is_kept g held x.owner x.link k ≡ true = kept_more h g held x.owner x.link k links longer here was in
        rw e ((λ i. is_kept g held (owner i) (link i) k) ∙ now)

-- What is lost of one object

kept_owner : (h : HeapContents) (held : List (List Value)) (o : Owner) (l : Option Link) (k : ℕ) → is_kept h held o l k ≡ true → owner_holds h held o k ≡ true
kept_owner h held (owners.Frame j) None k e = e
kept_owner h held (owners.Frame j) (Some l) k e = absurd (cc)
kept_owner h held (owners.Field w f) l k e = refl
kept_owner h held owners.Library l k e = refl
kept_owner h held owners.Released l k e = refl
kept_owner h held owners.Lost l k e = refl
kept_owner h held owners.Unowned l k e = refl

pub kept_object : (h : HeapContents) (held : List (List Value)) (k : ℕ) (x : Object) → is_settled h held k x ≡ true → lost_object h held k x ≡ x
kept_object h held k x settled = go (is_unmet x) refl settled
  where
    go : (u : Bool) → is_unmet x ≡ u → (not u || is_kept h held x.owner x.link k) ≡ true → lost_object h held k x ≡ x
    go false e s = rw e refl
    go true e s =
        let keeps : owner_holds h held x.owner k ≡ true = kept_owner h held x.owner x.link k s in
        rw (e, keeps) refl

not_kept : (h : HeapContents) (held : List (List Value)) (o : Owner) (l : Option Link) (k : ℕ) → l ≡ None → is_kept h held o l k ≡ false → owner_holds h held o k ≡ false
not_kept h held (owners.Frame j) None k alone e = e
not_kept h held (owners.Frame j) (Some l) k alone e = absurd (cc)
not_kept h held (owners.Field w f) l k alone e = absurd (cc)
not_kept h held owners.Library l k alone e = absurd (cc)
not_kept h held owners.Released l k alone e = absurd (cc)
not_kept h held owners.Lost l k alone e = absurd (cc)
not_kept h held owners.Unowned l k alone e = absurd (cc)

lost_is : (h : HeapContents) (held : List (List Value)) (k : ℕ) (x : Object) → x.link ≡ None → is_settled h held k x ≡ false → lost_object h held k x ≡ with_owner owners.Lost x
lost_is h held k x alone left = go (is_unmet x) refl left
  where
    go : (u : Bool) → is_unmet x ≡ u → (not u || is_kept h held x.owner x.link k) ≡ false → lost_object h held k x ≡ with_owner owners.Lost x
    go false e s = absurd (cc)
    go true e s =
        let drops : owner_holds h held x.owner k ≡ false = not_kept h held x.owner x.link k alone s in
        rw (e, drops) refl

pub left_settled : (h : HeapContents) (held : List (List Value)) (k : ℕ) (x : Object) → is_settled h held k x ≡ true → LeftSettled h held k x x
left_settled h held k x settled = (sym (kept_object h held k x settled), settled)

pub left_lost : (h : HeapContents) (held : List (List Value)) (k : ℕ) (x y : Object) → x.link ≡ None → is_settled h held k x ≡ false → y ≡ with_owner owners.Lost x → LeftSettled h held k x y
left_lost h held k x y alone left is = (
  is ∙ sym (lost_is h held k x alone left),
  ap (λ (z : Object). is_settled h held k z) is ∙ or_true (not (is_unmet x)),
)

-- What is lost of some objects

pub lost_start : (h : HeapContents) (held : List (List Value)) → AllLost h held [] []
lost_start h held = record { made = refl; settled = λ k x found has. absurd (cc) }

either : (a b : Bool) (P : Type 0) → (a ≡ true → P) → (b ≡ true → P) → (a || b) ≡ true → P
either true b P f g e = f refl
either false b P f g e = g e

has_end : (ks : List ℕ) (n k : ℕ) → has_number (ks ++ n ∷ []) k ≡ true → (P : Type 0) → (has_number ks k ≡ true → P) → (n ≡ k → P) → P
has_end [] n k has P f g = either (nat_eq n k) false P (λ e. g (grind (arith, common_steps, e))) (λ e. absurd (cc)) has
has_end (j ∷ js) n k has P f g = go (nat_eq j k) refl has (has_end js n k)
  where
    go : (b : Bool) → nat_eq j k ≡ b → (b || has_number (js ++ n ∷ []) k) ≡ true → (has_number (js ++ n ∷ []) k ≡ true → (Q : Type 0) → (has_number js k ≡ true → Q) → (n ≡ k → Q) → Q) → P
    go true e any further = f (ap (λ b. b || has_number js k) e)
    go false e any further = further any P (λ h. f (ap (λ b. b || has_number js k) e ∙ h)) g

lost_on : (h : HeapContents) (held : List (List Value)) (ks : List ℕ) (bs : List SavedObject) (n : ℕ) (o : Option Object) → object_at h n ≡ o → ((x : Object) → o ≡ Some x → is_settled h held n (lost_object h held n x) ≡ true) → AllLost h held ks bs → AllLost h held (ks ++ n ∷ []) (bs ++ optional (option_map (renewed_by (lost_object h held) n) o))
lost_on h held ks bs n o there settled all = record {
  made =
      (λ i. all.made i ++ optional (option_map (renewed_by (lost_object h held) n) (sym there i)))
      ∙ ap (λ cs. renewed (lost_object h held) h ks ++ cs) (sym (alone (renewed_one (lost_object h held) h n)))
      ∙ sym (flat_map-append (renewed_one (lost_object h held) h) ks (n ∷ []));
  settled = λ k x found has.
      has_end ks n k has (is_settled h held k (lost_object h held k x) ≡ true)
      (all.settled k x found)
      (λ e. subst (λ m. is_settled h held m (lost_object h held m x) ≡ true) e (settled x (sym there ∙ ap (object_at h) e ∙ found)));
}
  where
    alone : (cs : List SavedObject) → cs ++ [] ≡ cs
    alone [] = refl
    alone (c ∷ cs) = ap (λ ds. c ∷ ds) (alone cs)

pub lost_none : (h : HeapContents) (held : List (List Value)) (ks : List ℕ) (bs : List SavedObject) (i n d : ℕ) → i < length ks → n ≡ get_or ks i d → object_at h n ≡ None → AllLost h held (take i ks) bs → AllLost h held (take (i + 1) ks) bs
lost_none h held ks bs i n d within is there all =
    subst (λ js. AllLost h held js bs) (ap (λ m. take i ks ++ m ∷ []) is ∙ sym (take_more ks i d within))
    (subst (λ (cs : List SavedObject). AllLost h held (take i ks ++ n ∷ []) cs) (alone bs) (lost_on h held (take i ks) bs n None there (λ x no. absurd (cc)) all))
  where
    alone : (cs : List SavedObject) → cs ++ [] ≡ cs
    alone [] = refl
    alone (c ∷ cs) = ap (λ ds. c ∷ ds) (alone cs)

pub lost_some : (h : HeapContents) (held : List (List Value)) (ks : List ℕ) (bs cs : List SavedObject) (i n d : ℕ) (x y : Object) → i < length ks → n ≡ get_or ks i d → object_at h n ≡ Some x → LeftSettled h held n x y → cs ≡ bs ++ saved_as n y ∷ [] → AllLost h held (take i ks) bs → AllLost h held (take (i + 1) ks) cs
lost_some h held ks bs cs i n d x y within is there left put all =
    subst (λ js. AllLost h held js cs) (ap (λ m. take i ks ++ m ∷ []) is ∙ sym (take_more ks i d within))
    (subst (λ (ds : List SavedObject). AllLost h held (take i ks ++ n ∷ []) ds) (ap (λ (z : Object). bs ++ saved_as n z ∷ []) (sym left.0) ∙ sym put)
    (lost_on h held (take i ks) bs n (Some x) there
    (λ z both. let same : x ≡ z = cc in ap (λ (w : Object). is_settled h held n (lost_object h held n w)) (sym same) ∙ ap (λ (w : Object). is_settled h held n w) (sym left.0) ∙ left.1) all))

-- the object stays settled where others are lost
lost_settled : (h : HeapContents) (held : List (List Value)) (k : ℕ) (x : Object) → object_at h k ≡ Some x → is_settled h held k (lost_object h held k x) ≡ true → is_settled (lose held h) held k (lost_object h held k x) ≡ true
lost_settled h held k x found settled = go (is_unmet (lost_object h held k x)) refl settled
  where
    links : LinksStay h (lose held h)
    links = links_each (lost_object h held) h (lost_link h held)

    longer : length h.objects ≤ length (lose held h).objects
    longer = let count = length_changed (lost_object h held) 1 h.objects in omega (arith, count)

    go : (u : Bool) → is_unmet (lost_object h held k x) ≡ u → (not u || is_kept h held (lost_object h held k x).owner (lost_object h held k x).link k) ≡ true → (not (is_unmet (lost_object h held k x)) || is_kept (lose held h) held (lost_object h held k x).owner (lost_object h held k x).link k) ≡ true
    go false e s = ap (λ b. not b || is_kept (lose held h) held (lost_object h held k x).owner (lost_object h held k x).link k) e
    go true e s =
        let there : object_at (lose held h) k ≡ Some (lost_object h held k x) = object_each (lost_object h held) h k ∙ ap (option_map (lost_object h held k)) found in
        ap (λ b. not b || is_kept (lose held h) held (lost_object h held k x).owner (lost_object h held k x).link k) e
        ∙ kept_more h (lose held h) held (lost_object h held k x).owner (lost_object h held k x).link k links longer (ap link_of there) s

was_there : (f : Object → Object) (o : Option Object) (y : Object) → option_map f o ≡ Some y → (x : Object) × (o ≡ Some x) × (f x ≡ y)
was_there f None y e = absurd (cc)
was_there f (Some x) y e = (x, refl, cc)

-- what the loss of some leaves, where all others are settled
pub lose_some : (h g : HeapContents) (held : List (List Value)) (ks : List ℕ) (bs : List SavedObject) → AllLost h held ks bs → ((k : ℕ) (x : Object) → object_at h k ≡ Some x → has_number ks k ≡ false → is_settled h held k x ≡ true) → g ≡ put_back bs h → g ≡ lose held h
lose_some h g held ks bs all rest put =
    put ∙ ap (λ cs. put_back cs h) all.made ∙ renewed_each (lost_object h held) h ks (λ k x found none. kept_object h held k x (rest k x found none))

pub lose_leaves : (h g : HeapContents) (held : List (List Value)) (ks : List ℕ) (bs : List SavedObject) → AllLost h held ks bs → ((k : ℕ) (x : Object) → object_at h k ≡ Some x → has_number ks k ≡ false → is_settled h held k x ≡ true) → g ≡ put_back bs h → Settled g held
lose_leaves h g held ks bs all rest put =
    subst (λ (i : HeapContents). Settled i held) (sym (lose_some h g held ks bs all rest put)) each
  where
    one : (k : ℕ) (x : Object) → object_at h k ≡ Some x → (b : Bool) → has_number ks k ≡ b → is_settled h held k (lost_object h held k x) ≡ true
    one k x found true e = all.settled k x found e
    one k x found false e = let was = rest k x found e in ap (λ (z : Object). is_settled h held k z) (kept_object h held k x was) ∙ was

    each : Settled (lose held h) held
    each k z there = go (was_there (lost_object h held k) (object_at h k) z (sym (object_each (lost_object h held) h k) ∙ there))
      where
        go : (x : Object) × (object_at h k ≡ Some x) × (lost_object h held k x ≡ z) → is_settled (lose held h) held k z ≡ true
        go was =
            ap (λ (w : Object). is_settled (lose held h) held k w) (sym was.2)
            ∙ lost_settled h held k was.0 was.1 (one k was.0 was.1 (has_number ks k) refl)

-- What a step does not touch

or_right : (a b : Bool) → (a || b) ≡ false → b ≡ false
or_right false b e = e
or_right true b e = absurd (cc)

-- none of these is the root of what the places hold
no_root : (h : HeapContents) (vs : List Value) (k : ℕ) → has_number (roots_of h vs) k ≡ false → holds h vs k ≡ true → ⊥
no_root h [] k none held = cc
no_root h (v ∷ vs) k none held = go (root_of h v) refl (same_root (root_of h v) (Some k)) refl held (no_root h vs k)
  where
    go : (o : Option ℕ) → root_of h v ≡ o → (b : Bool) → same_root (root_of h v) (Some k) ≡ b → (b || holds h vs k) ≡ true → (has_number (roots_of h vs) k ≡ false → holds h vs k ≡ true → ⊥) → ⊥
    go None e true same any further = let bad : same_root None (Some k) ≡ true = ap (λ o. same_root o (Some k)) (sym e) ∙ same in cc
    go None e false same any further = further (ap (λ o. has_number (optional o ++ roots_of h vs) k) (sym e) ∙ none) any
    go (Some r) e true same any further =
        let is : nat_eq r k ≡ true = ap (λ o. same_root o (Some k)) (sym e) ∙ same in
        let first : (nat_eq r k || has_number (roots_of h vs) k) ≡ false = ap (λ o. has_number (optional o ++ roots_of h vs) k) (sym e) ∙ none in
        let both : true ≡ false = ap (λ b. b || has_number (roots_of h vs) k) (sym is) ∙ first in
        cc
    go (Some r) e false same any further =
        let first : (nat_eq r k || has_number (roots_of h vs) k) ≡ false = ap (λ o. has_number (optional o ++ roots_of h vs) k) (sym e) ∙ none in
        further (or_right (nat_eq r k) (has_number (roots_of h vs) k) first) any

-- an object that a step leaves as it is stays settled, where it is not the root of what the top frame held before
pub rest_settled : (h g : HeapContents) (old new : List Value) (rest : List (List Value)) (k : ℕ) (x : Object) → object_at g k ≡ Some x → LinksStay h g → length h.objects ≤ length g.objects → has_number (roots_of h old) k ≡ false → is_settled h (old ∷ rest) k x ≡ true → is_settled g (new ∷ rest) k x ≡ true
rest_settled h g old new rest k x there links longer none settled = go (is_unmet x) refl settled x.owner refl x.link refl
  where
    frame : (j : ℕ) (b : Bool) → nat_eq (length rest + 1) j ≡ b → is_kept h (old ∷ rest) (owners.Frame j) None k ≡ true → link_of (object_at g k) ≡ None → is_kept g (new ∷ rest) (owners.Frame j) None k ≡ true
    frame j true e kept ends =
        let top : holds h old k ≡ true = ap (λ b. holds h (if b then old else held_at rest j) k) (sym e) ∙ kept in
        absurd (no_root h old k none top)
    frame j false e kept ends =
        let other : holds h (held_at rest j) k ≡ true = ap (λ b. holds h (if b then old else held_at rest j) k) (sym e) ∙ kept in
        ap (λ b. holds g (if b then new else held_at rest j) k) e ∙ holds_kept h g (held_at rest j) k links longer ends other

    owner : (o : Owner) (l : Option Link) → link_of (object_at g k) ≡ linked_by l → is_kept h (old ∷ rest) o l k ≡ true → is_kept g (new ∷ rest) o l k ≡ true
    owner (owners.Frame j) None ends kept = frame j (nat_eq (length rest + 1) j) refl kept ends
    owner (owners.Frame j) (Some l) ends kept = kept
    owner (owners.Field w f) l ends kept = refl
    owner owners.Library l ends kept = refl
    owner owners.Released l ends kept = refl
    owner owners.Lost l ends kept = refl
    owner owners.Unowned l ends kept = refl

    go : (u : Bool) → is_unmet x ≡ u → (not u || is_kept h (old ∷ rest) x.owner x.link k) ≡ true → (o : Owner) → x.owner ≡ o → (l : Option Link) → x.link ≡ l → (not (is_unmet x) || is_kept g (new ∷ rest) x.owner x.link k) ≡ true
    go false e s o own l link = ap (λ b. not b || is_kept g (new ∷ rest) x.owner x.link k) e
    go true e s o own l link = ap (λ b. not b || is_kept g (new ∷ rest) x.owner x.link k) e ∙ owner x.owner x.link (ap link_of there) s

pub lose_among_changes : (h g : HeapContents) (held : List (List Value)) (ks : List ℕ) (bs : List SavedObject) → AllLost h held ks bs → ((k : ℕ) (x : Object) → object_at h k ≡ Some x → has_number ks k ≡ false → is_settled h held k x ≡ true) → g ≡ put_back bs h → ChangesAmong ks h g
lose_among_changes h g held ks bs all rest put =
    among_each (lost_object h held) h g ks (put ∙ ap (λ cs. put_back cs h) all.made) (λ k x found none. kept_object h held k x (rest k x found none)) (lost_link h held)

pub lose_drafts : (ds es : List SavedObject) (h g : HeapContents) (held : List (List Value)) (ks : List ℕ) (bs : List SavedObject) → es ≡ ds ++ snapshots h ks → AllLost h held ks bs → ((k : ℕ) (x : Object) → object_at h k ≡ Some x → has_number ks k ≡ false → is_settled h held k x ≡ true) → g ≡ put_back bs h → Drafted ds h es g
lose_drafts ds es h g held ks bs saved all rest put = drafted_by ds es h g ks saved (lose_among_changes h g held ks bs all rest put)
