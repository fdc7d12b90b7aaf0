-- A call spares what its frame may count on: what the frame owns or makes, where the call does not create its obligation anew; what the call spared that began the frame;
-- and what a field of `this` owns that is lent, where the call creates neither obligation anew.
use Rattle.std.proofs.Common.{◌≡◌, ◌⊎◌, inl, inr, ℕ, ◌+◌, Bool, true, false, not, ◌&&◌, None, Some, List, ◌∷◌, length, refl, sym, ap, ◌∙◌, subst, true≢false, eq-eqb, arith, lt-ltb}
use Rattle.std.proofs.lemmas.Bool.{and_parts}
use Rattle.program_model.specs.declared.kinds.FieldId.{FieldId}
use Rattle.program_model.specs.Lookups.{method_at}
use Rattle.program_model.specs.declared.program.Program.{Program}
use Rattle.ledger_state.specs.Contents.{HeapContents}
use Rattle.ledger_state.specs.Heaps.{object_at}
use Rattle.ledger_state.specs.declared.entry.Owner.{Owner}
use Rattle.ledger_state.specs.declared.entry.Owner.TheVariants as owners
use Rattle.ledger_state.specs.declared.object.Object.{Object}
use Rattle.ledger_state.specs.declared.value.Value.TheVariants as values
use Rattle.heap_laws.specs.Anew.{is_field_owner}
use Rattle.heap_laws.specs.Holders.{HasTop, HoldersAreUnlinked, IsComparable, IsWithin, by_field, itself}
use Rattle.heap_laws.proofs.RootLaws.{one_object}
use Rattle.heap_laws.proofs.WaysUp.{on_from_holder, own_top, top_is_last}
use Rattle.place_laws.specs.Obligations.{is_held_by, is_library_owner}
use Rattle.ownership_rules.specs.MustCallSets.{is_heavy_class}
use Rattle.ledger_runs.specs.Configuration.{Frame}
use Rattle.agreement.specs.Chains.{HaveEnds}
use Rattle.agreement.specs.FieldContents.{AreNew, AreUnfinished}
use Rattle.agreement.specs.PlaceFacts.{EndsBelow, IsHolder, IsOwnedBelow, IsSpared, OwesOrHolds, Spares, is_frame_below}
use Rattle.agreement.specs.Renewing.{HasInHand, IsHeldBy, IsLentFrom, IsOwnedByThis, IsWholeObject, answers_for_fields, is_renewed, lends_this}
use Rattle.agreement.proofs.Spared.{KeepsContent}
use Rattle.agreement.proofs.SparingCalls.{constructor_of, content_apart, lent_ends_below, made_top, not_made_here, owned_apart, spared_apart, tops_meet, unmade}
use Rattle.agreement.proofs.Tops.{no_way_round}

-- The frame may count on what was called on the object: it owns the object, or a constructor that it runs has it in a field of what it makes, whose obligation the call does not create anew; or the call that began the frame spared the
-- object, whose way up ends below; or a field of `this` owns it, which is lent, and whose obligation the call does not create anew.
pub data CountsOn (p : Program) (h : HeapContents) (c : Frame) (below : List Frame) (o : ℕ) (x : Object) : Type 0 where
  counts_as_owned : x.owner ≡ owners.Frame (length below + 1) → CountsOn p h c below o x
  counts_as_made : (held : IsHeldBy p c x.owner) → is_renewed p h c (held.1).holder ≡ false → CountsOn p h c below o x
  counts_as_spared : IsSpared p h below o → EndsBelow h below o → CountsOn p h c below o x
  counts_as_content : (w : ℕ) (f : FieldId) → KeepsContent p h c below w f o x → EndsBelow h below o → CountsOn p h c below o x

module _ (p : Program) (h : HeapContents) (have : HaveEnds h) (c : Frame) (below : List Frame) (new : AreNew p (c ∷ below)) (unfinished : AreUnfinished p h (c ∷ below)) where
  abbrev InHand : ℕ → Owner → Type 0
  InHand u owner = HasInHand p h (IsLentFrom p h below) (length below + 1) c u owner

  -- what is in hand on the way of what a constructor has in a field of its object is that object, or the constructor's
  pub made_apart : (o u : ℕ) (x y : Object) → object_at h o ≡ Some x → (held : IsHeldBy p c x.owner) → (u ≡ (held.1).holder → ⊥) → object_at h u ≡ Some y → InHand u y.owner → IsComparable h u o → u ≡ o
  made_apart o u x y at held other_than there hand comes = by hand
    where
      w : ℕ
      w = (held.1).holder

      its_top : HasTop h o w
      its_top = made_top p h have c below unfinished o x at held

      by : InHand u y.owner → u ≡ o
      by (inl mine) =
          let same = tops_meet p h have u o u w comes (own_top h u y there (ap is_field_owner mine)) its_top in
          let z = unmade p h have c below unfinished o x at held in
          let one = one_object z.object y (object_at h u) (ap (object_at h) same ∙ z.at) there in
          absurd (let never : ◌≡◌ {A = Owner} owners.Unowned (owners.Frame (length below + 1)) = sym z.unowned ∙ ap (λ (v : Object). v.owner) one ∙ mine in cc)
      by (inr (inl lent)) =
          let ends = lent_ends_below p h have below unfinished.1 u y there lent in
          let same = tops_meet p h have u o ends.end w comes ends.top its_top in
          absurd (not_made_here p h have c below new unfinished u o x ends at held (subst (HasTop h u) same ends.top))
      by (inr (inr (inl other))) = sibling comes
        where
          owns : y.owner ≡ owners.Field w (other.1).field
          owns = (other.1).owns ∙ ap (λ (n : ℕ). owners.Field n (other.1).field) (let both : values.Object (other.1).holder ≡ values.Object w = sym (other.1).runs ∙ (held.1).runs in (let one : (other.1).holder ≡ w = cc in one))

          sibling : IsComparable h u o → u ≡ o
          sibling (inl up) = elim (on_from_holder h u w o (other.1).field y there owns up) [ inl same ↦ same | inr round ↦ absurd (no_way_round h have o w (held.1).field x at (held.1).owns round) ]
          sibling (inr down) = elim (on_from_holder h o w u (held.1).field x at (held.1).owns down) [ inl same ↦ sym same | inr round ↦ absurd (no_way_round h have u w (other.1).field y there owns round) ]
      by (inr (inr (inr (inl lends)))) = absurd (true≢false (sym (constructor_of p h have c x.owner held) ∙ lends.method))
      by (inr (inr (inr (inr made)))) = absurd (other_than (let both : values.Object u ≡ values.Object (held.1).holder = sym made.0.runs ∙ (held.1).runs in cc))

  -- what the frame owns is owned below the frame above it
  pub owned_is_below : (a : Owner) → a ≡ owners.Frame (length below + 1) → IsOwnedBelow p (c ∷ below) a
  owned_is_below a owner = inl (ap (is_frame_below (length (c ∷ below) + 1)) owner ∙ lt-ltb (length below + 1) (length (c ∷ below) + 1) (omega arith))

  -- so is what a field of its `this` owns, where the frame answers for it, and does not lend `this`
  pub held_is_below : (a : Owner) → answers_for_fields (method_at p c.method) ≡ true → lends_this p c ≡ false → IsOwnedByThis p c a → IsOwnedBelow p (c ∷ below) a
  held_is_below a answers keeps by = inr (answers, keeps, by)

  -- what the frame renews while it waits, on the way of object `o`, is in its hands, and it does not renew that object
  pub counted_is_spared : (o : ℕ) (x : Object) → object_at h o ≡ Some x → ((u : ℕ) (y : Object) → object_at h u ≡ Some y → IsWholeObject p y → IsComparable h u o → is_renewed p h c u ≡ true → InHand u y.owner)
      → is_renewed p h c o ≡ false → CountsOn p h c below o x → Spares p h c o
  counted_is_spared o x at hands old counts u y there heavy comes = unrenewed (is_renewed p h c u) refl
    where
      same_as : u ≡ o → is_renewed p h c u ≡ true → ⊥
      same_as same renews = true≢false (sym renews ∙ ap (is_renewed p h c) same ∙ old)

      never : is_renewed p h c u ≡ true → CountsOn p h c below o x → ⊥
      never renews (counts_as_owned owner) = same_as (owned_apart p h have c below new unfinished o u x y at owner there (hands u y there heavy comes renews) comes) renews
      never renews (counts_as_made held keeps) =
          same_as (made_apart o u x y at held (λ same. true≢false (sym renews ∙ ap (is_renewed p h c) same ∙ keeps)) there (hands u y there heavy comes renews) comes) renews
      never renews (counts_as_spared spares ends) = spared_apart p h have c below new unfinished o u y spares ends there heavy (hands u y there heavy comes renews) comes
      never renews (counts_as_content w f keeps ends) = content_apart p h have c below new unfinished w f o u x y keeps ends there renews (hands u y there heavy comes renews) comes

      unrenewed : (b : Bool) → is_renewed p h c u ≡ b → is_renewed p h c u ≡ false
      unrenewed true is = absurd (never is counts)
      unrenewed false is = is

-- ---- what is on the way of an object that is in a fact

module _ (p : Program) (h : HeapContents) (have : HaveEnds h) (unlinked : HoldersAreUnlinked (is_heavy_class p) h) where
  -- what such an object is within is it, or a field of it owns one
  holds_within : (o u : ℕ) (x : Object) → object_at h o ≡ Some x → is_heavy_class p x.class ≡ true → IsWithin h o u → (o ≡ u) ⊎ IsHolder p h u
  holds_within _ _ x at heavy (itself o) = inl refl
  holds_within _ _ x at heavy (by_field o v u f z there mine rest) = go (holds_within v u up.0 up.1 up.3 rest)
    where
      heavy' : is_heavy_class p z.class ≡ true
      heavy' = ap (λ (w : Object). is_heavy_class p w.class) (one_object z x (object_at h o) there at) ∙ heavy

      up : (y : Object) × (object_at h v ≡ Some y) × (y.link ≡ None) × (is_heavy_class p y.class ≡ true)
      up = unlinked o z v f there heavy' mine

      done : (b : Bool) → z.finished ≡ b → z.finished ≡ true
      done true is = is
      done false open' = absurd (let never : ◌≡◌ {A = Owner} owners.Unowned (owners.Field v f) = sym (have.unfinished o z there open') ∙ mine in cc)

      go : (v ≡ u) ⊎ IsHolder p h u → (o ≡ u) ⊎ IsHolder p h u
      go (inl same) = inr (o, z, there, done z.finished refl, heavy', ap (λ (a : Owner). is_held_by a u) mine ∙ eq-eqb v u same)
      go (inr holds) = inr holds

  -- so what is on the way of one that may owe a call, or of which a field owns something, is so, too
  pub comparable_bears : (o u : ℕ) (x y : Object) → object_at h o ≡ Some x → object_at h u ≡ Some y → is_heavy_class p x.class ≡ true → IsComparable h u o → OwesOrHolds p h o x → OwesOrHolds p h u y
  comparable_bears o u x y at there heavy comes owes = go (y.finished && is_library_owner y.owner) refl
    where
      same_bears : o ≡ u → OwesOrHolds p h u y
      same_bears same = subst (λ (z : Object). OwesOrHolds p h u z) (one_object x y (object_at h u) (ap (object_at h) (sym same) ∙ at) there) (subst (λ (n : ℕ). OwesOrHolds p h n x) same owes)

      no_field : (a : Owner) → is_library_owner a ≡ true → is_field_owner a ≡ false
      no_field owners.Library is = refl
      no_field (owners.Field w f) is = absurd (true≢false (sym is))
      no_field (owners.Frame i) is = refl
      no_field owners.Released is = refl
      no_field owners.Lost is = refl
      no_field owners.Unowned is = refl

      by : IsComparable h u o → is_field_owner y.owner ≡ false → OwesOrHolds p h u y
      by (inl up) free = same_bears (sym (top_is_last h u o y there free up))
      by (inr down) free = elim (holds_within o u x at heavy down) [ inl same ↦ same_bears same | inr holds ↦ inr (inl holds) ]

      go : (b : Bool) → (y.finished && is_library_owner y.owner) ≡ b → OwesOrHolds p h u y
      go false none = inl (ap not none)
      go true is = by comes (no_field y.owner (and_parts y.finished (is_library_owner y.owner) is).1)
