-- What keeps a heap settled.
use Rattle.std.proofs.Common.{◌≡◌, ◌∙◌, ap, sym, refl, subst, ℕ, zero, suc, ◌+◌, Bool, true, false, not, ◌&&◌, ◌||◌, nat_eq, Option, Some, None, List, [], ◌∷◌, length, add-zero, arith}
use Rattle.std.proofs.lemmas.Grind.{common_steps}
use Rattle.std.specs.Prelude.{slice_get}
use Rattle.std.specs.List.{list_any}
use Rattle.ledger_state.specs.declared.entry.Owner.{Owner}
use Rattle.ledger_state.specs.declared.entry.Owner.TheVariants as owners
use Rattle.ledger_state.specs.declared.object.Link.{Link}
use Rattle.ledger_state.specs.declared.object.Object.{Object}
use Rattle.ledger_state.specs.declared.value.Value.{Value}
use Rattle.ledger_state.specs.Contents.{HeapContents}
use Rattle.ledger_state.specs.Heaps.{changed_from, object_at, root_of, same_root, with_objects}
use Rattle.ledger_obligations.specs.Obligations.{held_at, holds, is_frame, is_unmet, lose, lost_object, owner_holds}
use Rattle.settled_heaps.specs.Settled.{Settled, drops, drops_any, drops_object, drops_root, is_kept, is_settled}
use Rattle.settled_heaps.proofs.Booleans.{not_false, or_left, or_right}

-- it is the one root
pub same_root_is : (o : Option ℕ) (k : ℕ) → same_root o (Some k) ≡ true → o ≡ Some k
same_root_is None k e = absurd (cc)
same_root_is (Some r) k e = grind (arith, common_steps, e)

-- what a frame held before and does not drop, it holds
held_on : (h : HeapContents) (t : ℕ) (old new : List Value) (k : ℕ) (x : Object) → object_at h k ≡ Some x → is_unmet x ≡ true → is_frame x.owner t ≡ true → list_any (drops h t new) old ≡ false → holds h old k ≡ true → holds h new k ≡ true
held_on h t [] new k x found unmet own none held = absurd (cc)
held_on h t (v ∷ vs) new k x found unmet own none held =
    go (same_root (root_of h v) (Some k)) refl held (λ any. held_on h t vs new k x found unmet own (or_right (drops h t new v) (list_any (drops h t new) vs) none) any)
  where
    go : (b : Bool) → same_root (root_of h v) (Some k) ≡ b → (b || holds h vs k) ≡ true → (holds h vs k ≡ true → holds h new k ≡ true) → holds h new k ≡ true
    go true e any further =
        let root : root_of h v ≡ Some k = same_root_is (root_of h v) k e in
        let first : drops h t new v ≡ false = or_left (drops h t new v) (list_any (drops h t new) vs) none in
        let there : drops_object h t new k (Some x) ≡ false = ap (drops_object h t new k) (sym found) ∙ ap (drops_root h t new) (sym root) ∙ first in
        let short : not (holds h new k) ≡ false = rw (unmet, own) at there in
        not_false (holds h new k) short
    go false e any further = further any

-- a frame that drops nothing keeps what is settled, whatever its places hold
pub still_settled : (h : HeapContents) (old new : List Value) (rest : List (List Value)) → Settled h (old ∷ rest) → drops_any h (length rest + 1) old new ≡ false → Settled h (new ∷ rest)
still_settled h old new rest before none k x found =
    go (is_unmet x) refl x.owner refl x.link (before k x found)
  where
    top : (j : ℕ) (b : Bool) → nat_eq (length rest + 1) j ≡ b → is_unmet x ≡ true → x.owner ≡ owners.Frame j → holds h (held_at (old ∷ rest) j) k ≡ true → holds h (held_at (new ∷ rest) j) k ≡ true
    top j true e unmet own holds_it =
        let at_old : held_at (old ∷ rest) j ≡ old = rw e refl in
        let at_new : held_at (new ∷ rest) j ≡ new = rw e refl in
        let same : nat_eq j (length rest + 1) ≡ true = grind (arith, common_steps, e) in
        let mine : is_frame x.owner (length rest + 1) ≡ true = ap (λ o. is_frame o (length rest + 1)) own ∙ same in
        ap (λ vs. holds h vs k) at_new
        ∙ held_on h (length rest + 1) old new k x found unmet mine none (ap (λ vs. holds h vs k) (sym at_old) ∙ holds_it)
    top j false e unmet own holds_it =
        let at_old : held_at (old ∷ rest) j ≡ held_at rest j = rw e refl in
        let at_new : held_at (new ∷ rest) j ≡ held_at rest j = rw e refl in
        ap (λ vs. holds h vs k) (at_new ∙ sym at_old) ∙ holds_it

    go : (u : Bool) → is_unmet x ≡ u → (o : Owner) → x.owner ≡ o → (l : Option Link) → (not u || is_kept h (old ∷ rest) o l k) ≡ true → (not u || is_kept h (new ∷ rest) o l k) ≡ true
    go false e o own l kept = refl
    go true e (owners.Frame j) own None kept = top j (nat_eq (length rest + 1) j) refl e own kept
    go true e (owners.Frame j) own (Some l) kept = kept
    go true e (owners.Field w f) own l kept = refl
    go true e owners.Library own l kept = refl
    go true e owners.Released own l kept = refl
    go true e owners.Lost own l kept = refl
    go true e owners.Unowned own l kept = refl

-- each object that a change leaves as it is
pub changed_same : (f : ℕ → Object → Object) (j : ℕ) (xs : List Object) → ((i : ℕ) (x : Object) → slice_get xs i ≡ Some x → f (j + i) x ≡ x) → changed_from j f xs ≡ xs
changed_same f j [] same = refl
changed_same f j (x ∷ xs) same =
    let first : f j x ≡ x = rw add-zero at (same 0 x refl) in
    let rest : changed_from (j + 1) f xs ≡ xs = changed_same f (j + 1) xs (λ i y found. let n : j + 1 + i ≡ j + suc i = omega arith in ap (λ m. f m y) n ∙ same (suc i) y found) in
    cc

-- nothing is left to lose
kept_owner : (h : HeapContents) (held : List (List Value)) (o : Owner) (l : Option Link) (k : ℕ) → is_kept h held o l k ≡ true → owner_holds h held o k ≡ true
kept_owner h held (owners.Frame j) None k e = e
kept_owner h held (owners.Frame j) (Some l) k e = absurd (cc)
kept_owner h held (owners.Field w f) l k e = refl
kept_owner h held owners.Library l k e = refl
kept_owner h held owners.Released l k e = refl
kept_owner h held owners.Lost l k e = refl
kept_owner h held owners.Unowned l k e = refl

kept_object : (h : HeapContents) (held : List (List Value)) (k : ℕ) (x : Object) → is_settled h held k x ≡ true → lost_object h held k x ≡ x
kept_object h held k x settled = go (is_unmet x) refl settled
  where
    go : (u : Bool) → is_unmet x ≡ u → (not u || is_kept h held x.owner x.link k) ≡ true → lost_object h held k x ≡ x
    go false e s = rw e refl
    go true e s =
        let keeps : owner_holds h held x.owner k ≡ true = kept_owner h held x.owner x.link k s in
        rw (e, keeps) refl

pub lose_settled : (h : HeapContents) (held : List (List Value)) → Settled h held → lose held h ≡ h
lose_settled h held settled =
    ap (with_objects h) (changed_same (lost_object h held) 1 h.objects (λ i x found. let n : 1 + i ≡ suc i = omega arith in rw n (kept_object h held (suc i) x (settled (suc i) x found))))
