-- A reset reaches no object that the call which began a frame spares, where that frame, or one above it, has the reset's target in hand.
use Rattle.std.proofs.Common.{◌≡◌, ◌⊎◌, inl, inr, ℕ, ◌+◌, ◌≤◌, true, false, not, Option, Some, None, List, [], ◌∷◌, ◌++◌, length, refl, sym, ap, ◌∙◌, subst, true≢false, arith}
use Rattle.std.proofs.lemmas.Bool.{and_parts}
use Rattle.std.proofs.lemmas.Bool.Decides.{nat_tests}
use Rattle.program_model.specs.declared.kinds.FieldId.{FieldId}
use Rattle.program_model.specs.declared.kinds.MethodId.{MethodId}
use Rattle.program_model.specs.declared.program.Field.{Field}
use Rattle.program_model.specs.declared.program.Program.{Program}
use Rattle.program_model.specs.Lookups.{field_at, method_at}
use Rattle.ownership_rules.specs.Bodies.{alias_in, constructs, is_class_of}
use Rattle.ownership_rules.specs.Signatures.{is_present}
use Rattle.ledger_state.specs.Contents.{HeapContents}
use Rattle.ledger_state.specs.Heaps.{object_at}
use Rattle.ledger_state.specs.declared.entry.Owner.{Owner}
use Rattle.ledger_state.specs.declared.entry.Owner.TheVariants as owners
use Rattle.ledger_state.specs.declared.object.Object.{Object}
use Rattle.ledger_state.specs.declared.value.Value.TheVariants as values
use Rattle.heap_laws.specs.Anew.{is_field_owner}
use Rattle.heap_laws.specs.Holders.{HasTop, IsComparable, IsWithin, by_field, itself}
use Rattle.heap_laws.proofs.RootLaws.{one_object}
use Rattle.heap_laws.proofs.WaysUp.{on_from_holder, one_top, one_way_up, own_top, within_further}
use Rattle.ledger_runs.specs.Configuration.{Frame}
use Rattle.agreement.specs.Chains.{HaveEnds}
use Rattle.agreement.proofs.Tops.{ends_above, no_way_round}
use Rattle.agreement.specs.FieldContents.{AreNew, AreUnfinished, DeclaresOwning, RunOnOthers}
use Rattle.agreement.specs.PlaceFacts.{EndsBelow, IsSpared, RunsOn, is_frame_from}
use Rattle.agreement.specs.Renewing.{HasInHand, IsHeldBy, IsLentFrom, IsMadeBy, IsWholeObject, is_declared_beside, is_renewed}

-- ---- frames

length_both : (xs ys : List Frame) → length ys ≤ length (xs ++ ys)
length_both [] ys = omega arith
length_both (x ∷ xs) ys = let more = length_both xs ys in omega (arith, more)

-- a frame at a position from this one on
pub from_here : (n m : ℕ) → n ≤ m → is_frame_from (n + 1) (owners.Frame (m + 1)) ≡ true
from_here n m less = grind (arith, nat_tests, less)

-- the class of a frame's method declares the owning field by which the frame holds something
pub declares : (p : Program) (m : MethodId) (f : FieldId) → is_declared_beside p m (field_at p f) ≡ true → DeclaresOwning p m
declares p m f is = go (field_at p f) refl is
  where
    go : (x : Option Field) → field_at p f ≡ x → is_declared_beside p m x ≡ true → DeclaresOwning p m
    go None at never = absurd (true≢false (sym never))
    go (Some x) at both = let parts = and_parts x.owning (is_class_of x.class (method_at p m)) both in (f, x, at, parts.0, parts.1)

-- a frame that is one of those below runs on no object on which none of all runs
pub elsewhere : (xs ys : List Frame) (w : ℕ) → RunOnOthers w (xs ++ ys) → RunsOn w ys → ⊥
elsewhere [] [] w others runs = runs
elsewhere [] (y ∷ ys) w others (inl here) = others.0 here
elsewhere [] (y ∷ ys) w others (inr below) = elsewhere [] ys w others.1 below
elsewhere (x ∷ xs) ys w others runs = elsewhere xs ys w others.1 runs

runs_on_further : (xs ys : List Frame) (w : ℕ) → RunsOn w ys → RunsOn w (xs ++ ys)
runs_on_further [] ys w runs = runs
runs_on_further (x ∷ xs) ys w runs = inr (runs_on_further xs ys w runs)

-- ---- the way of a reset

-- The way up from object `z` ends below the frame that stands on `below`, and the target `t` of a reset is within `z`.
module _ (p : Program) (h : HeapContents) (have : HaveEnds h) (below : List Frame) (z t : ℕ) (known : EndsBelow h below z) (within : IsWithin h t z) where
  -- what the target is within, and is an end of its own, is the end of the way from `z`
  same_end : (o : ℕ) → IsWithin h t o → HasTop h o o → known.end ≡ o
  same_end o up top =
      one_top h t known.end o
      (record { within = within_further h t z known.end within known.top.within; object = known.top.object; at = known.top.at; unheld = known.top.unheld })
      (record { within = up; object = top.object; at = top.at; unheld = top.unheld })

  same_object : (o : ℕ) (x : Object) → IsWithin h t o → object_at h o ≡ Some x → is_field_owner x.owner ≡ false → (known.end ≡ o) × (known.top.object ≡ x)
  same_object o x up at none =
      let same = same_end o up (own_top h o x at none) in
      (same, one_object known.top.object x (object_at h o) (ap (object_at h) (sym same) ∙ known.top.at) at)

  -- a frame from there on does not own what the target is within
  owned_above : (n o : ℕ) (x : Object) → length below ≤ n → IsWithin h t o → object_at h o ≡ Some x → x.owner ≡ owners.Frame (n + 1) → ⊥
  owned_above n o x less up at owner =
      let same = same_object o x up at (ap is_field_owner owner) in
      true≢false (sym (from_here (length below) n less) ∙ ap (is_frame_from (length below + 1)) (sym owner ∙ ap (λ (y : Object). y.owner) (sym same.1)) ∙ known.below)

  -- and no constructor from there on has it in a field of its object
  made_above : (fr : Frame) (mid : List Frame) → AreNew p (fr ∷ (mid ++ below)) → AreUnfinished p h (fr ∷ (mid ++ below)) → (o : ℕ) (x : Object) → IsWithin h t o → object_at h o ≡ Some x → IsHeldBy p fr x.owner → ⊥
  made_above fr mid new unfinished o x up at (makes, by) =
      let y = ends_above h x.owner by.holder by.field (have.ends o x at) by.owns in
      let unmade = unfinished.0 by.holder y.0 here constructor by.runs y.1 in
      let unowned = have.unfinished by.holder y.0 y.1 unmade in
      let same = same_object by.holder y.0 (within_further h t o by.holder up (by_field o by.holder by.holder by.field x at by.owns (itself by.holder))) y.1 (ap is_field_owner unowned) in
      elsewhere mid below by.holder (new.0 by.holder here constructor by.runs)
      (subst (λ (w : ℕ). RunsOn w below) same.0 (known.older (ap (λ (v : Object). v.finished) same.1 ∙ unmade)))
    where
      here : DeclaresOwning p fr.method
      here = declares p fr.method by.field by.declared

      constructor : constructs (method_at p fr.method) ≡ true
      constructor = (and_parts (constructs (method_at p fr.method)) (not (is_present (alias_in (method_at p fr.method)))) makes).0

  -- nor does one make it
  making_above : (fr : Frame) (mid : List Frame) → AreNew p (fr ∷ (mid ++ below)) → AreUnfinished p h (fr ∷ (mid ++ below)) → (o : ℕ) (x : Object) → IsWithin h t o → object_at h o ≡ Some x → IsMadeBy p fr o → ⊥
  making_above fr mid new unfinished o x up at made =
      let here = declares p fr.method made.field made.declared in
      let makes = (and_parts (constructs (method_at p fr.method)) (not (is_present (alias_in (method_at p fr.method)))) made.alone).0 in
      let open' = unfinished.0 o x here makes made.runs at in
      let same = same_object o x up at (ap is_field_owner (have.unfinished o x at open')) in
      elsewhere mid below o (new.0 o here makes made.runs) (subst (λ (w : ℕ). RunsOn w below) same.0 (known.older (ap (λ (v : Object). v.finished) same.1 ∙ open')))

  -- the way from what is lent to a frame from there on, where what is lent to the last of these is none of this
  module _ (rest : (o : ℕ) (x : Object) → IsWithin h t o → object_at h o ≡ Some x → IsWholeObject p x → IsLentFrom p h below o x.owner → ⊥) where
    pub lent_above : (mid : List Frame) → AreNew p (mid ++ below) → AreUnfinished p h (mid ++ below) → (o : ℕ) (x : Object) → IsWithin h t o → object_at h o ≡ Some x → IsWholeObject p x → IsLentFrom p h (mid ++ below) o x.owner → ⊥
    lent_above [] new unfinished o x up at heavy lent = rest o x up at heavy lent
    lent_above (fr ∷ mid) new unfinished o x up at heavy (renewed, inl owner) = owned_above (length (mid ++ below)) o x (length_both mid below) up at owner
    lent_above (fr ∷ mid) new unfinished o x up at heavy (renewed, inr (inl lent)) = lent_above mid new.1 unfinished.1 o x up at heavy lent
    lent_above (fr ∷ mid) new unfinished o x up at heavy (renewed, inr (inr (inl held))) = made_above fr mid new unfinished o x up at held
    lent_above (fr ∷ mid) new unfinished o x up at heavy (renewed, inr (inr (inr (inl held)))) =
        lent_above mid new.1 unfinished.1 held.holder held.object
        (within_further h t o held.holder up (by_field o held.holder held.holder held.field x at held.owns (itself held.holder))) held.at (held.whole, held.heavy) held.lends
    lent_above (fr ∷ mid) new unfinished o x up at heavy (renewed, inr (inr (inr (inr made)))) = making_above fr mid new unfinished o x up at made.0

    -- and so it is with what a frame from there on has in hand
    in_hand_above : (fr : Frame) (mid : List Frame) → AreNew p (fr ∷ (mid ++ below)) → AreUnfinished p h (fr ∷ (mid ++ below)) → (x : Object) → object_at h t ≡ Some x → IsWholeObject p x
        → HasInHand p h (IsLentFrom p h (mid ++ below)) (length (mid ++ below) + 1) fr t x.owner → ⊥
    in_hand_above fr mid new unfinished x at heavy (inl owner) = owned_above (length (mid ++ below)) t x (length_both mid below) (itself t) at owner
    in_hand_above fr mid new unfinished x at heavy (inr (inl lent)) = lent_above mid new.1 unfinished.1 t x (itself t) at heavy lent
    in_hand_above fr mid new unfinished x at heavy (inr (inr (inl held))) = made_above fr mid new unfinished t x (itself t) at held
    in_hand_above fr mid new unfinished x at heavy (inr (inr (inr (inl held)))) =
        lent_above mid new.1 unfinished.1 held.holder held.object (by_field t held.holder held.holder held.field x at held.owns (itself held.holder)) held.at (held.whole, held.heavy) held.lends
    in_hand_above fr mid new unfinished x at heavy (inr (inr (inr (inr made)))) = making_above fr mid new unfinished t x (itself t) at made.0

  -- both are above the target
  comparable : (o : ℕ) → IsWithin h t o → IsComparable h o z
  comparable o up = one_way_up h t o z up within

  -- ---- what is spared

  -- the call that began the frame renews what is on the way
  renewed_below : IsSpared p h below z → (o : ℕ) (x : Object) → IsWithin h t o → object_at h o ≡ Some x → IsWholeObject p x → IsLentFrom p h below o x.owner → ⊥
  renewed_below spared o x up at heavy lent = go below spared lent
    where
      go : (frs : List Frame) → IsSpared p h frs z → IsLentFrom p h frs o x.owner → ⊥
      go [] spares never = never
      go (fr ∷ frs) spares lent' = true≢false (sym lent'.0 ∙ spares o x at heavy (comparable o up))

-- A reset reaches no object `z` that the call spares which began the frame on `below`, and whose way up ends below that frame: here the target `t` is in hand of that frame, or of one
-- above it.
pub spared_is_not_reached : (p : Program) (h : HeapContents) → HaveEnds h → (below : List Frame) (z t : ℕ) → IsSpared p h below z → EndsBelow h below z → (fr : Frame) (mid : List Frame)
    → AreNew p (fr ∷ (mid ++ below)) → AreUnfinished p h (fr ∷ (mid ++ below)) → (x : Object) → object_at h t ≡ Some x → IsWholeObject p x
    → HasInHand p h (IsLentFrom p h (mid ++ below)) (length (mid ++ below) + 1) fr t x.owner → IsWithin h t z → ⊥
spared_is_not_reached p h have below z t spared known fr mid new unfinished x at heavy hand within =
    in_hand_above p h have below z t known within (renewed_below p h have below z t known within spared) fr mid new unfinished x at heavy hand

-- ---- what a field of an object owns that is lent

-- The frame `g` has object `w`, its `this`, lent, and runs no constructor; field `f` of `w` owns object `z`. The call at which it waits creates neither the obligation of `w` nor that
-- of `z` anew; and the call that began it does so of one object.
pub record KeepsContent (p : Program) (h : HeapContents) (g : Frame) (below : List Frame) (w : ℕ) (f : FieldId) (z : ℕ) (x : Object) : Type 0 where
  pub at : object_at h z ≡ Some x
  pub owns : x.owner ≡ owners.Field w f
  pub runs : g.locals.this ≡ values.Object w
  pub method : constructs (method_at p g.method) ≡ false
  pub holder : is_renewed p h g w ≡ false
  pub content : is_renewed p h g z ≡ false
  pub one : (o : ℕ) (owner : Owner) → IsLentFrom p h below o owner → o ≡ w

module _ (p : Program) (h : HeapContents) (have : HaveEnds h) (g : Frame) (below : List Frame) (w : ℕ) (f : FieldId) (z : ℕ) (y : Object) (keeps : KeepsContent p h g below w f z y) (t : ℕ) (known : EndsBelow h below z)
    (within : IsWithin h t z) where
  -- what another field of the object owns is on another way
  sibling : (o : ℕ) (x : Object) (v : FieldId) → object_at h o ≡ Some x → x.owner ≡ owners.Field w v → IsWithin h t o → o ≡ z
  sibling o x v at owned up = go (one_way_up h t o z up within)
    where
      go : IsWithin h o z ⊎ IsWithin h z o → o ≡ z
      go (inl below') = elim (on_from_holder h o w z v x at owned below') [ inl same ↦ same | inr round ↦ absurd (no_way_round h have z w f y keeps.at keeps.owns round) ]
      go (inr above) = elim (on_from_holder h z w o f y keeps.at keeps.owns above) [ inl same ↦ sym same | inr round ↦ absurd (no_way_round h have o w v x at owned round) ]

  -- so nothing on the way is in hand of the frame while it waits
  waiting : (o : ℕ) (x : Object) → IsWithin h t o → object_at h o ≡ Some x → IsWholeObject p x → IsLentFrom p h (g ∷ below) o x.owner → ⊥
  waiting o x up at heavy (renewed, inl owner) = owned_above p h have below z t known within (length below) o x (omega arith) up at owner
  waiting o x up at heavy (renewed, inr (inl lent)) = true≢false (sym renewed ∙ ap (is_renewed p h g) (keeps.one o x.owner lent) ∙ keeps.holder)
  waiting o x up at heavy (renewed, inr (inr (inl held))) = true≢false (sym (and_parts (constructs (method_at p g.method)) (not (is_present (alias_in (method_at p g.method)))) held.0).0 ∙ keeps.method)
  waiting o x up at heavy (renewed, inr (inr (inr (inl held)))) =
      let same : held.holder ≡ w = (let both : values.Object held.holder ≡ values.Object w = sym held.runs ∙ keeps.runs in cc) in
      true≢false (sym renewed ∙ ap (is_renewed p h g) (sibling o x held.field at (held.owns ∙ ap (λ (n : ℕ). owners.Field n held.field) same) up) ∙ keeps.content)
  waiting o x up at heavy (renewed, inr (inr (inr (inr made)))) = true≢false (sym (and_parts (constructs (method_at p g.method)) (not (is_present (alias_in (method_at p g.method)))) made.0.alone).0 ∙ keeps.method)
