-- The ways up from objects to those whose fields own them, where each of them ends: there is no way round, each object has a top, and how these go on.
use Rattle.std.proofs.Common.{◌≡◌, inl, inr, ℕ, true, false, Option, Some, None, refl, sym, ap, ◌∙◌, subst, true≢false}
use Rattle.program_model.specs.declared.kinds.FieldId.{FieldId}
use Rattle.ledger_state.specs.Contents.{HeapContents}
use Rattle.ledger_state.specs.Heaps.{object_at}
use Rattle.ledger_state.specs.declared.entry.Owner.{Owner}
use Rattle.ledger_state.specs.declared.entry.Owner.TheVariants as owners
use Rattle.ledger_state.specs.declared.object.Object.{Object}
use Rattle.heap_laws.specs.Anew.{is_field_owner}
use Rattle.heap_laws.specs.Holders.{FieldsOwnOneMore, HasTop, IsWithin, UnfinishedAreUnowned, itself, by_field}
use Rattle.heap_laws.proofs.RootLaws.{one_object}
use Rattle.heap_laws.proofs.WaysUp.{IsHeldOrNot, StepsUp, ends, free, goes, has_holders_top, held, held_or_not, own_top, steps_up, within_further}
use Rattle.agreement.specs.Chains.{Ends, HaveEnds, IsLast, ends_here, of_field}

-- the owner is no field
pub unheld_is_last : (o : Owner) → is_field_owner o ≡ false → IsLast o
unheld_is_last (owners.Field v f) none = absurd (true≢false none)
unheld_is_last (owners.Frame j) none = tt
unheld_is_last owners.Library none = tt
unheld_is_last owners.Released none = tt
unheld_is_last owners.Lost none = tt
unheld_is_last owners.Unowned none = tt

-- where a field is the owner, the way up ends from the owner of its object
pub ends_above : (h : HeapContents) (o : Owner) (v : ℕ) (f : FieldId) → Ends h o → o ≡ owners.Field v f → (z : Object) × (object_at h v ≡ Some z) × Ends h z.owner
ends_above h _ v f (ends_here o is) same = absurd (subst IsLast same is)
ends_above h _ v f (of_field w g z at rest) same = (z, (let to : w ≡ v = cc in ap (object_at h) (sym to) ∙ at), rest)

-- ---- no way round

-- no object is within one whose field it owns: from its owner the way up ends
none_round : (h : HeapContents) (owner : Owner) → Ends h owner → (o v : ℕ) (f : FieldId) (x : Object) → owner ≡ x.owner → object_at h o ≡ Some x → x.owner ≡ owners.Field v f → IsWithin h v o → ⊥
none_round h _ (ends_here owner is) o v f x same at owned up = subst IsLast (same ∙ owned) is
none_round h _ (of_field w g z there rest) o v f x same at owned up =
    go (steps_up h v o up) (λ u k own above. none_round h z.owner rest w u k z refl there own above)
  where
    to : w ≡ v
    to = let both : ◌≡◌ {A = Owner} (owners.Field w g) (owners.Field v f) = same ∙ owned in cc

    go : StepsUp h v o → ((u : ℕ) (k : FieldId) → z.owner ≡ owners.Field u k → IsWithin h u w → ⊥) → ⊥
    go (ends round) again =
        let one : z ≡ x = one_object z x (object_at h o) (ap (object_at h) (sym round ∙ sym to) ∙ there) at in
        again w g (ap (λ (y : Object). y.owner) one ∙ sym same) (itself w)
    go (goes u k y at' own above) again =
        let one : z ≡ y = one_object z y (object_at h v) (ap (object_at h) (sym to) ∙ there) at' in
        again u k (ap (λ (n : Object). n.owner) one ∙ own)
        (within_further h u o w above (subst (λ (n : ℕ). IsWithin h o n) (sym to) (by_field o v v f x at owned (itself v))))

pub no_way_round : (h : HeapContents) → HaveEnds h → (o v : ℕ) (f : FieldId) (x : Object) → object_at h o ≡ Some x → x.owner ≡ owners.Field v f → IsWithin h v o → ⊥
no_way_round h have o v f x at owned up = none_round h x.owner (have.ends o x at) o v f x refl at owned up

-- ---- tops

top_from : (h : HeapContents) (owner : Owner) → Ends h owner → (o : ℕ) (x : Object) → owner ≡ x.owner → object_at h o ≡ Some x → (e : ℕ) × HasTop h o e
top_from h _ (ends_here owner is) o x same at = (o, own_top h o x at (last_is_unheld x.owner (subst IsLast same is)))
  where
    last_is_unheld : (w : Owner) → IsLast w → is_field_owner w ≡ false
    last_is_unheld (owners.Field v f) none = absurd none
    last_is_unheld (owners.Frame j) none = refl
    last_is_unheld owners.Library none = refl
    last_is_unheld owners.Released none = refl
    last_is_unheld owners.Lost none = refl
    last_is_unheld owners.Unowned none = refl
top_from h _ (of_field w f z there rest) o x same at =
    let top = top_from h z.owner rest w z refl there in
    (top.0, has_holders_top h o w top.0 f x at (sym same) top.1)

-- each object has one
pub has_top : (h : HeapContents) → HaveEnds h → (o : ℕ) (x : Object) → object_at h o ≡ Some x → (e : ℕ) × HasTop h o e
has_top h have o x at = top_from h x.owner (have.ends o x at) o x refl at

-- the heap `k` has the objects of the heap `h`
abbrev pub KeepsObjects : HeapContents → HeapContents → Type 0
KeepsObjects h k = (o : ℕ) (x : Object) → object_at h o ≡ Some x → (y : Object) × (object_at k o ≡ Some y)

-- ---- one object more is owned by a field

module _ (h k : HeapContents) (n w : ℕ) (more : FieldsOwnOneMore n w h k) (stay : KeepsObjects h k) (apart : IsWithin h w n → ⊥) where
  -- the way up from an object that is not within the one that is stored
  end_apart : (owner : Owner) → Ends h owner → (o : ℕ) (x y : Object) → owner ≡ x.owner → object_at h o ≡ Some x → (IsWithin h o n → ⊥) → object_at k o ≡ Some y → Ends k y.owner
  end_apart _ (ends_here owner is) o x y same at other there = go (held_or_not y.owner)
    where
      go : IsHeldOrNot y.owner → Ends k y.owner
      go (free none) = ends_here y.owner (unheld_is_last y.owner none)
      go (held v f owned) = elim (more o y v f there owned) [
        | inl before ↦ absurd (subst IsLast (same ∙ ap (λ (z : Object). z.owner) (one_object x before.0 (object_at h o) at before.1) ∙ before.2) is)
        | inr new ↦ absurd (other (subst (λ (m : ℕ). IsWithin h o m) new.0 (itself o)))
      ]
  end_apart _ (of_field u g z up rest) o x y same at other there = go (held_or_not y.owner) (let next = stay u z up in (next.0, next.1, λ far. end_apart z.owner rest u z next.0 refl up far next.1))
    where
      go : IsHeldOrNot y.owner → (next : Object) × (object_at k u ≡ Some next) × ((IsWithin h u n → ⊥) → Ends k next.owner) → Ends k y.owner
      go (free none) next = ends_here y.owner (unheld_is_last y.owner none)
      go (held v f owned) next = elim (more o y v f there owned) [
        | inl before ↦
            (let to : u ≡ v = (let both : ◌≡◌ {A = Owner} (owners.Field u g) (owners.Field v f) = same ∙ ap (λ (m : Object). m.owner) (one_object x before.0 (object_at h o) at before.1) ∙ before.2 in cc) in
            subst (Ends k) (sym owned) (of_field v f next.0 (ap (object_at k) (sym to) ∙ next.1) (next.2 (λ below. other (by_field o v n f before.0 before.1 before.2 (subst (λ (m : ℕ). IsWithin h m n) to below))))))
        | inr new ↦ absurd (other (subst (λ (m : ℕ). IsWithin h o m) new.0 (itself o)))
      ]

  module _ (holder : Object) (holder_at : object_at h w ≡ Some holder) (have : HaveEnds h) where
    -- the way up from the object that is stored leads on from its holder
    stored_ends : (o v : ℕ) (f : FieldId) (y : Object) → y.owner ≡ owners.Field v f → v ≡ w → Ends k y.owner
    stored_ends o v f y owned to =
        let z = stay w holder holder_at in
        subst (Ends k) (sym owned) (of_field v f z.0 (ap (object_at k) to ∙ z.1) (end_apart holder.owner (have.ends w holder holder_at) w holder z.0 refl holder_at apart z.1))

    end_any : (owner : Owner) → Ends h owner → (o : ℕ) (x y : Object) → owner ≡ x.owner → object_at h o ≡ Some x → object_at k o ≡ Some y → Ends k y.owner
    end_any _ (ends_here owner is) o x y same at there = go (held_or_not y.owner)
      where
        go : IsHeldOrNot y.owner → Ends k y.owner
        go (free none) = ends_here y.owner (unheld_is_last y.owner none)
        go (held v f owned) = elim (more o y v f there owned) [
          | inl before ↦ absurd (subst IsLast (same ∙ ap (λ (z : Object). z.owner) (one_object x before.0 (object_at h o) at before.1) ∙ before.2) is)
          | inr new ↦ stored_ends o v f y owned new.1
        ]
    end_any _ (of_field u g z up rest) o x y same at there = go (held_or_not y.owner) (let next = stay u z up in (next.0, next.1, end_any z.owner rest u z next.0 refl up next.1))
      where
        go : IsHeldOrNot y.owner → (next : Object) × (object_at k u ≡ Some next) × Ends k next.owner → Ends k y.owner
        go (free none) next = ends_here y.owner (unheld_is_last y.owner none)
        go (held v f owned) next = elim (more o y v f there owned) [
          | inl before ↦
              (let to : u ≡ v = (let both : ◌≡◌ {A = Owner} (owners.Field u g) (owners.Field v f) = same ∙ ap (λ (m : Object). m.owner) (one_object x before.0 (object_at h o) at before.1) ∙ before.2 in cc) in
              subst (Ends k) (sym owned) (of_field v f next.0 (ap (object_at k) (sym to) ∙ next.1) next.2))
          | inr new ↦ stored_ends o v f y owned new.1
        ]

    -- an object of the second heap that was not in the first is owned by no field, but that it may be the one that is stored
    fresh_ends : (o : ℕ) (y : Object) → object_at h o ≡ None → object_at k o ≡ Some y → Ends k y.owner
    fresh_ends o y none there = go (held_or_not y.owner)
      where
        go : IsHeldOrNot y.owner → Ends k y.owner
        go (free none') = ends_here y.owner (unheld_is_last y.owner none')
        go (held v f owned) = elim (more o y v f there owned) [
          | inl before ↦ absurd (let never : None ≡ Some before.0 = sym none ∙ before.1 in cc)
          | inr new ↦ stored_ends o v f y owned new.1
        ]

    -- each way up ends, where the new holder was not within the object that is stored
    pub ends_with_one_more : UnfinishedAreUnowned k → HaveEnds k
    ends_with_one_more unowned = record { ends = λ o y there. by_object o y there (object_at h o) refl; unfinished = unowned }
      where
        by_object : (o : ℕ) (y : Object) → object_at k o ≡ Some y → (x : Option Object) → object_at h o ≡ x → Ends k y.owner
        by_object o y there None none = fresh_ends o y none there
        by_object o y there (Some x) at = end_any x.owner (have.ends o x at) o x y refl at there
