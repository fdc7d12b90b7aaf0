-- While a method that creates the obligation of `this` anew runs, which may store into the fields of its `this`, each frame below it that runs on the same object lends this object, or is not settled: so what
-- is said of the fields of `this` in settled frames, and in those that answer for the fields of `this`, is not touched by stores of frames above.
use Rattle.std.proofs.Common.{◌≡◌, ◌⊎◌, inl, inr, ℕ, ◌+◌, Bool, true, false, not, ◌&&◌, ◌||◌, Some, None, List, [], ◌∷◌, length, refl, sym, ap, ◌∙◌, subst, true≢false, eqb-true}
use Rattle.std.proofs.lemmas.Bool.{and_parts, not-true}
use Rattle.program_model.specs.declared.kinds.FieldId.{FieldId}
use Rattle.program_model.specs.declared.program.Program.{Program}
use Rattle.program_model.specs.Lookups.{method_at}
use Rattle.ownership_rules.specs.Bodies.{alias_in, constructs}
use Rattle.ownership_rules.specs.MustCallSets.{is_heavy_class}
use Rattle.ownership_rules.specs.Signatures.{is_present}
use Rattle.ledger_state.specs.Contents.{HeapContents}
use Rattle.ledger_state.specs.Heaps.{object_at, same_root}
use Rattle.ledger_state.specs.Values.{number_of}
use Rattle.ledger_state.specs.declared.entry.Owner.{Owner}
use Rattle.ledger_state.specs.declared.entry.Owner.TheVariants as owners
use Rattle.ledger_state.specs.declared.object.Object.{Object}
use Rattle.ledger_state.specs.declared.value.Value.{Value}
use Rattle.ledger_state.specs.declared.value.Value.TheVariants as values
use Rattle.heap_laws.specs.Anew.{is_field_owner}
use Rattle.heap_laws.specs.Holders.{HoldersAreUnlinked, IsWithin, itself}
use Rattle.heap_laws.proofs.RootLaws.{one_object}
use Rattle.heap_laws.proofs.WaysUp.{top_is_last}
use Rattle.ledger_runs.specs.Configuration.{Frame}
use Rattle.agreement.specs.Chains.{HaveEnds}
use Rattle.agreement.specs.FieldContents.{AreNew, AreUnfinished}
use Rattle.agreement.specs.PlaceFacts.{EndsBelow, IsHeavyObject, OwesOrHolds, is_frame_from, is_settled, leaves_all, run_on_one}
use Rattle.agreement.specs.Renewing.{HasInHand, IsLentFrom, IsMadeBy, IsWholeObject, is_renewed, lends_this, reopens}
use Rattle.agreement.proofs.Spared.{declares, lent_above}
use Rattle.agreement.proofs.SparingEnds.{comparable_bears}
use Rattle.agreement.proofs.SparingCalls.{ends_further, lent_ends_below, no_frame_end}
use Rattle.agreement.proofs.Tops.{no_way_round}

-- ---- what a frame that waits has in hand

-- What the call at which a frame waits creates the obligation of anew, the frame, which stands on these, has in hand, and it is one object at most. A method that leaves all as it is owns it. It is the
-- `this` of a method that creates the obligation of `this` anew, or of a constructor, only where the frame lends this; such a method has `this` lent; what a constructor makes is not finished; and where the
-- frame is settled, `this`, if it is finished, ends below.
pub record RenewsInHand (p : Program) (h : HeapContents) (fr : Frame) (frs : List Frame) : Type 0 where
  pub hands : (u : ℕ) (x : Object) → object_at h u ≡ Some x → IsWholeObject p x → OwesOrHolds p h u x → is_renewed p h fr u ≡ true → HasInHand p h (IsLentFrom p h frs) (length frs + 1) fr u x.owner
  pub one : (u v : ℕ) → is_renewed p h fr u ≡ true → is_renewed p h fr v ≡ true → u ≡ v
  pub own : (u : ℕ) (x : Object) → object_at h u ≡ Some x → IsWholeObject p x → OwesOrHolds p h u x → is_renewed p h fr u ≡ true → leaves_all p (method_at p fr.method) ≡ true → x.owner ≡ owners.Frame (length frs + 1)
  pub this : (w : ℕ) (y : Object) → fr.locals.this ≡ values.Object w → object_at h w ≡ Some y → IsWholeObject p y → OwesOrHolds p h w y → y.link ≡ None → (reopens (method_at p fr.method) ≡ true) ⊎ (constructs (method_at p fr.method) ≡ true) → is_renewed p h fr w ≡ true → lends_this p fr ≡ true
  pub lent : (w : ℕ) (y : Object) → fr.locals.this ≡ values.Object w → object_at h w ≡ Some y → IsWholeObject p y → OwesOrHolds p h w y → y.link ≡ None → reopens (method_at p fr.method) ≡ true → IsLentFrom p h frs w y.owner
  pub made : (w : ℕ) (y : Object) → fr.locals.this ≡ values.Object w → object_at h w ≡ Some y → IsHeavyObject p y → OwesOrHolds p h w y → y.link ≡ None → constructs (method_at p fr.method) ≡ true → ⊥
  pub ends : (w : ℕ) (y : Object) → fr.locals.this ≡ values.Object w → object_at h w ≡ Some y → IsHeavyObject p y → y.link ≡ None → is_settled p fr frs ≡ true → EndsBelow h frs w

-- so it is with each of these frames
abbrev pub AllRenewInHand : Program → HeapContents → List Frame → Type 0
AllRenewInHand p h [] = Unit {0}
AllRenewInHand p h (fr ∷ frs) = RenewsInHand p h fr frs × AllRenewInHand p h frs

-- ---- tests

or_parts : (a b : Bool) → (a || b) ≡ true → (a ≡ true) ⊎ (b ≡ true)
or_parts true b is = inl refl
or_parts false b is = inr is

-- both frames run on one object
pub same_this : (fr caller : Frame) (w : ℕ) → run_on_one fr caller ≡ true → fr.locals.this ≡ values.Object w → caller.locals.this ≡ values.Object w
same_this fr caller w one this = by caller.locals.this refl (sym (ap (λ (v : Value). same_root (number_of v) (number_of caller.locals.this)) this) ∙ one)
  where
    by : (v : Value) → caller.locals.this ≡ v → same_root (Some w) (number_of caller.locals.this) ≡ true → caller.locals.this ≡ values.Object w
    by (values.Object u) is same = is ∙ ap values.Object (sym (eqb-true w u (sym (ap (λ (v : Value). same_root (Some w) (number_of v)) is) ∙ same)))
    by values.Nothing is never = absurd (true≢false (sym never ∙ ap (λ (v : Value). same_root (Some w) (number_of v)) is))
    by v is never = absurd (true≢false (sym never ∙ ap (λ (v' : Value). same_root (Some w) (number_of v')) is))

-- ---- what a frame renews is not above its `this`

module _ (p : Program) (h : HeapContents) (have : HaveEnds h) (unlinked : HoldersAreUnlinked (is_heavy_class p) h) (w : ℕ) (y : Object) (there : object_at h w ≡ Some y) (heavy : IsHeavyObject p y) (single : y.link ≡ None) (bears : OwesOrHolds p h w y) where
  -- what it is within is such an object, too
  bears_above : (u : ℕ) (x : Object) → object_at h u ≡ Some x → IsWithin h w u → OwesOrHolds p h u x
  bears_above u x at up = comparable_bears p h have unlinked w u y x there at heavy.1 (inr up) bears

  -- no frame owns the end where `this` ends below it
  not_owned : (frs : List Frame) (u : ℕ) (x : Object) → EndsBelow h frs w → object_at h u ≡ Some x → x.owner ≡ owners.Frame (length frs + 1) → IsWithin h w u → ⊥
  not_owned frs u x ends at owner up = no_frame_end p h have frs w u x ends at owner (record { within = up; object = x; at = at; unheld = ap is_field_owner owner })

  -- what a field of `this` owns is not above it
  not_content : (u : ℕ) (x : Object) (v : ℕ) (f : FieldId) → object_at h u ≡ Some x → x.owner ≡ owners.Field v f → v ≡ w → IsWithin h w u → ⊥
  not_content u x v f at owns same up = no_way_round h have u v f x at owns (subst (λ (n : ℕ). IsWithin h n u) (sym same) up)

  -- a method that creates the obligation of `this` anew, and does not lend it
  pub reopening_renews : (c : Frame) (frs : List Frame) → RenewsInHand p h c frs → AllRenewInHand p h frs → AreUnfinished p h frs → c.locals.this ≡ values.Object w → reopens (method_at p c.method) ≡ true → lends_this p c ≡ false
      → (u : ℕ) (x : Object) → object_at h u ≡ Some x → IsWholeObject p x → IsWithin h w u → is_renewed p h c u ≡ true → HasInHand p h (IsLentFrom p h frs) (length frs + 1) c u x.owner → ⊥
  reopening_renews c frs renews below unfinished this opens keeps u x at wide up anew hand = by hand
    where
      mine : IsLentFrom p h frs w y.owner
      mine = renews.lent w y this there (inl heavy.0, heavy.1) bears single opens

      -- it is not `this` itself
      other : u ≡ w → ⊥
      other same = true≢false (sym (renews.this w y this there (inl heavy.0, heavy.1) bears single (inl opens) (ap (is_renewed p h c) (sym same) ∙ anew)) ∙ keeps)

      -- two objects that are lent from there are one
      lent_once : (gs : List Frame) → AllRenewInHand p h gs → IsLentFrom p h gs w y.owner → IsLentFrom p h gs u x.owner → u ≡ w
      lent_once [] all never other' = absurd never
      lent_once (g ∷ gs) all first second = (all.0).one u w second.0 first.0

      by : HasInHand p h (IsLentFrom p h frs) (length frs + 1) c u x.owner → ⊥
      by (inl owner) = not_owned frs u x (lent_ends_below p h have frs unfinished w y there mine) at owner up
      by (inr (inl lent)) = other (lent_once frs below mine lent)
      by (inr (inr (inl held))) =
          let makes = (and_parts (constructs (method_at p c.method)) (not (is_present (alias_in (method_at p c.method)))) held.0).0 in
          renews.made w y this there heavy bears single makes
      by (inr (inr (inr (inl held)))) =
          not_content u x held.holder held.field at held.owns (let both : values.Object held.holder ≡ values.Object w = sym held.runs ∙ this in (let one : held.holder ≡ w = cc in one)) up
      by (inr (inr (inr (inr made)))) = renews.made w y this there heavy bears single (and_parts (constructs (method_at p c.method)) (not (is_present (alias_in (method_at p c.method)))) made.0.alone).0

  -- what a frame that is no constructor has in hand, and `this` is within, is lent to it, or it owns it
  in_hand : (g : Frame) (frs : List Frame) → RenewsInHand p h g frs → g.locals.this ≡ values.Object w → EndsBelow h frs w → (u : ℕ) (x : Object) → object_at h u ≡ Some x → IsWithin h w u
      → HasInHand p h (IsLentFrom p h frs) (length frs + 1) g u x.owner → (IsLentFrom p h frs u x.owner → ⊥) → ⊥
  in_hand g frs renews this ends u x at up (inl owner) on = not_owned frs u x ends at owner up
  in_hand g frs renews this ends u x at up (inr (inl lent)) on = on lent
  in_hand g frs renews this ends u x at up (inr (inr (inl held))) on =
      renews.made w y this there heavy bears single (and_parts (constructs (method_at p g.method)) (not (is_present (alias_in (method_at p g.method)))) held.0).0
  in_hand g frs renews this ends u x at up (inr (inr (inr (inl held)))) on =
      not_content u x held.holder held.field at held.owns (let both : values.Object held.holder ≡ values.Object w = sym held.runs ∙ this in (let one : held.holder ≡ w = cc in one)) up
  in_hand g frs renews this ends u x at up (inr (inr (inr (inr made)))) on =
      renews.made w y this there heavy bears single (and_parts (constructs (method_at p g.method)) (not (is_present (alias_in (method_at p g.method)))) made.0.alone).0

  -- a settled frame renews nothing that `this` is within
  pub settled_renews : (g : Frame) (frs : List Frame) → RenewsInHand p h g frs → AllRenewInHand p h frs → AreUnfinished p h frs → g.locals.this ≡ values.Object w → is_settled p g frs ≡ true
      → (u : ℕ) (x : Object) → object_at h u ≡ Some x → IsWholeObject p x → IsWithin h w u → is_renewed p h g u ≡ true → ⊥
  settled_renews g [] renews below unfinished this settled u x at wide up anew =
      in_hand g [] renews this (renews.ends w y this there heavy single settled) u x at up (renews.hands u x at wide (bears_above u x at up) anew) (λ lent. lent)
  settled_renews g (c ∷ rest) renews below unfinished this settled u x at wide up anew =
      on (λ its further lent. settled_renews c rest below.0 below.1 unfinished.1 its further u x at wide up lent.0)
    where
      ends : EndsBelow h (c ∷ rest) w
      ends = renews.ends w y this there heavy single settled

      chained : (c.locals.this ≡ values.Object w → is_settled p c rest ≡ true → IsLentFrom p h (c ∷ rest) u x.owner → ⊥)
          → (run_on_one g c && not (lends_this p c) && (constructs (method_at p c.method) || (reopens (method_at p c.method) || is_settled p c rest))) ≡ true → IsLentFrom p h (c ∷ rest) u x.owner → ⊥
      chained again chain lent =
          let parts = and_parts (run_on_one g c && not (lends_this p c)) (constructs (method_at p c.method) || (reopens (method_at p c.method) || is_settled p c rest)) chain in
          let first = and_parts (run_on_one g c) (not (lends_this p c)) parts.0 in
          let its = same_this g c w first.0 this in
          elim (or_parts (constructs (method_at p c.method)) (reopens (method_at p c.method) || is_settled p c rest) parts.1) [
            | inl makes ↦ (below.0).made w y its there heavy bears single makes
            | inr more ↦ elim (or_parts (reopens (method_at p c.method)) (is_settled p c rest) more) [
              | inl opens ↦ reopening_renews c rest below.0 below.1 unfinished.1 its opens (not-true (lends_this p c) first.1) u x at wide up lent.0 lent.1
              | inr further ↦ again its further lent
            ]
          ]

      on : (c.locals.this ≡ values.Object w → is_settled p c rest ≡ true → IsLentFrom p h (c ∷ rest) u x.owner → ⊥) → ⊥
      on again = elim (or_parts (leaves_all p (method_at p g.method)) (run_on_one g c && not (lends_this p c) && (constructs (method_at p c.method) || (reopens (method_at p c.method) || is_settled p c rest))) settled) [
        | inl leaves ↦ not_owned (c ∷ rest) u x ends at (renews.own u x at wide (bears_above u x at up) anew leaves) up
        | inr chain ↦ in_hand g (c ∷ rest) renews this ends u x at up (renews.hands u x at wide (bears_above u x at up) anew) (chained again chain)
      ]

-- ---- what is not finished

-- The object is not finished, so nobody owns it, and it is within itself alone.
module _ (p : Program) (h : HeapContents) (have : HaveEnds h) (w : ℕ) (y : Object) (there : object_at h w ≡ Some y) (whole : IsWholeObject p y) (single : y.link ≡ None) (bears : OwesOrHolds p h w y) (open' : y.finished ≡ false) where
  unowned : y.owner ≡ owners.Unowned
  unowned = have.unfinished w y there open'

  -- it is lent to a frame that runs on it, or the frame makes it
  in_hand_open : (g : Frame) (frs : List Frame) → HasInHand p h (IsLentFrom p h frs) (length frs + 1) g w y.owner → IsLentFrom p h frs w y.owner ⊎ IsMadeBy p g w
  in_hand_open g frs (inl owner) = absurd (let never : ◌≡◌ {A = Owner} owners.Unowned (owners.Frame (length frs + 1)) = sym unowned ∙ owner in cc)
  in_hand_open g frs (inr (inl lent)) = inl lent
  in_hand_open g frs (inr (inr (inl held))) = absurd (let never : ◌≡◌ {A = Owner} owners.Unowned (owners.Field (held.1).holder (held.1).field) = sym unowned ∙ (held.1).owns in cc)
  in_hand_open g frs (inr (inr (inr (inl held)))) = absurd (let never : ◌≡◌ {A = Owner} owners.Unowned (owners.Field held.holder held.field) = sym unowned ∙ held.owns in cc)
  in_hand_open g frs (inr (inr (inr (inr made)))) = inr made.0

  -- a settled frame does not renew it
  pub settled_open : (g : Frame) (frs : List Frame) → RenewsInHand p h g frs → AllRenewInHand p h frs → AreNew p (g ∷ frs) → g.locals.this ≡ values.Object w → is_settled p g frs ≡ true → IsLentFrom p h (g ∷ frs) w y.owner → ⊥
  settled_open g [] renews below new this settled lent =
      let never : ◌≡◌ {A = Owner} owners.Unowned (owners.Frame 1) = sym unowned ∙ renews.own w y there whole bears lent.0 settled in cc
  settled_open g (c ∷ rest) renews below new this settled lent =
      elim (or_parts (leaves_all p (method_at p g.method)) (run_on_one g c && not (lends_this p c) && (constructs (method_at p c.method) || (reopens (method_at p c.method) || is_settled p c rest))) settled) [
        | inl leaves ↦ (let never : ◌≡◌ {A = Owner} owners.Unowned (owners.Frame (length (c ∷ rest) + 1)) = sym unowned ∙ renews.own w y there whole bears lent.0 leaves in cc)
        | inr chain ↦ chained (λ its further from. settled_open c rest below.0 below.1 new.1 its further from) chain
      ]
    where
      chained : (c.locals.this ≡ values.Object w → is_settled p c rest ≡ true → IsLentFrom p h (c ∷ rest) w y.owner → ⊥)
          → (run_on_one g c && not (lends_this p c) && (constructs (method_at p c.method) || (reopens (method_at p c.method) || is_settled p c rest))) ≡ true → ⊥
      chained again chain =
          let parts = and_parts (run_on_one g c && not (lends_this p c)) (constructs (method_at p c.method) || (reopens (method_at p c.method) || is_settled p c rest)) chain in
          let first = and_parts (run_on_one g c) (not (lends_this p c)) parts.0 in
          let its = same_this g c w first.0 this in
          let keeps = not-true (lends_this p c) first.1 in
          elim (in_hand_open g (c ∷ rest) lent.1) [
            | inr made ↦ (new.0 w (declares p g.method made.field made.declared) (and_parts (constructs (method_at p g.method)) (not (is_present (alias_in (method_at p g.method)))) made.alone).0 this).0 its
            | inl further ↦ elim (or_parts (constructs (method_at p c.method)) (reopens (method_at p c.method) || is_settled p c rest) parts.1) [
              | inl makes ↦ true≢false (sym ((below.0).this w y its there whole bears single (inr makes) further.0) ∙ keeps)
              | inr more ↦ elim (or_parts (reopens (method_at p c.method)) (is_settled p c rest) more) [
                | inl opens ↦ true≢false (sym ((below.0).this w y its there whole bears single (inl opens) further.0) ∙ keeps)
                | inr on ↦ again its on further
              ]
            ]
          ]

-- ---- a frame that has `this` lent stands above

module _ (p : Program) (h : HeapContents) (have : HaveEnds h) (unlinked : HoldersAreUnlinked (is_heavy_class p) h) (w : ℕ) (y : Object) (there : object_at h w ≡ Some y) (heavy : IsWholeObject p y) (single : y.link ≡ None) (bears : OwesOrHolds p h w y) where
  -- What is lent above these frames, where it ends below them, was lent to the last of them: it is not so that none is that it is within.
  abbrev pub IsOnTheWay : List Frame → Type 0
  IsOnTheWay gs = EndsBelow h gs w → ((o : ℕ) (x : Object) → IsWithin h w o → object_at h o ≡ Some x → IsWholeObject p x → IsLentFrom p h gs o x.owner → ⊥) → ⊥

  pub way_begins : (gs : List Frame) → IsLentFrom p h gs w y.owner → IsOnTheWay gs
  way_begins gs lent ends none = none w y (itself w) there heavy lent

  pub way_goes_down : (g : Frame) (gs : List Frame) → AreNew p (g ∷ gs) → AreUnfinished p h (g ∷ gs) → IsOnTheWay (g ∷ gs) → IsOnTheWay gs
  way_goes_down g gs new unfinished way ends none =
      way (ends_further h g gs w ends) (λ o x up at wide lent. lent_above p h have gs w w ends (itself w) (λ o' x' up' at' wide' from. none o' x' up' at' wide' from) (g ∷ []) new unfinished o x up at wide lent)

  -- the frame `g` runs on it
  module _ (g : Frame) (below : List Frame) (way : IsOnTheWay (g ∷ below)) (new : AreNew p (g ∷ below)) (unfinished : AreUnfinished p h below) (renews : RenewsInHand p h g below) (all : AllRenewInHand p h below) (this : g.locals.this ≡ values.Object w) where
    -- where it is not finished, it is lent to the frame above
    lent_above_here : y.finished ≡ false → (IsLentFrom p h (g ∷ below) w y.owner → ⊥) → ⊥
    lent_above_here open' none = way ends (λ o x up at wide lent. by o x up at lent)
      where
        unheld : is_field_owner y.owner ≡ false
        unheld = ap is_field_owner (have.unfinished w y there open')

        ends : EndsBelow h (g ∷ below) w
        ends = record { end = w; top = record { within = itself w; object = y; at = there; unheld = unheld }; below = ap (is_frame_from (length (g ∷ below) + 1)) (have.unfinished w y there open'); older = λ o. inl this }

        by : (o : ℕ) (x : Object) → IsWithin h w o → object_at h o ≡ Some x → IsLentFrom p h (g ∷ below) o x.owner → ⊥
        by o x up at lent =
            let same = top_is_last h w o y there unheld up in
            let one = one_object y x (object_at h o) (ap (object_at h) (sym same) ∙ there) at in
            none (subst (λ (z : Object). IsLentFrom p h (g ∷ below) w z.owner) (sym one) (subst (λ (n : ℕ). IsLentFrom p h (g ∷ below) n x.owner) (sym same) lent))

    through : EndsBelow h below w → ((u : ℕ) (x : Object) → object_at h u ≡ Some x → IsWholeObject p x → IsWithin h w u → is_renewed p h g u ≡ true → HasInHand p h (IsLentFrom p h below) (length below + 1) g u x.owner → ⊥) → ⊥
    through ends none = way (ends_further h g below w ends) (λ o x up at wide from. none o x at wide up from.0 from.1)

    pub is_unsettled : is_settled p g below ≡ false
    is_unsettled = by (is_settled p g below) refl y.finished refl
      where
        by : (b : Bool) → is_settled p g below ≡ b → (d : Bool) → y.finished ≡ d → is_settled p g below ≡ false
        by false is d of = is
        by true is true done =
            absurd (through (renews.ends w y this there (done, heavy.1) single is) (λ u x at wide up anew hand. settled_renews p h have unlinked w y there (done, heavy.1) single bears g below renews all unfinished this is u x at wide up anew))
        by true is false open' = absurd (lent_above_here open' (λ lent. settled_open p h have w y there heavy single bears open' g below renews all new this is lent))

    pub is_lending : reopens (method_at p g.method) ≡ true → lends_this p g ≡ true
    is_lending opens = by (lends_this p g) refl y.finished refl
      where
        by : (b : Bool) → lends_this p g ≡ b → (d : Bool) → y.finished ≡ d → lends_this p g ≡ true
        by true is d of = is
        by false is true done =
            absurd (through (lent_ends_below p h have below unfinished w y there (renews.lent w y this there heavy bears single opens))
            (λ u x at wide up anew hand. reopening_renews p h have unlinked w y there (done, heavy.1) single bears g below renews all unfinished this opens is u x at wide up anew hand))
        by false is false open' = absurd (lent_above_here open' (λ lent. true≢false (sym (renews.this w y this there heavy bears single (inl opens) lent.0) ∙ is)))

    -- a constructor lends it
    pub making_lends : constructs (method_at p g.method) ≡ true → lends_this p g ≡ true
    making_lends makes = by (lends_this p g) refl y.finished refl
      where
        by : (b : Bool) → lends_this p g ≡ b → (d : Bool) → y.finished ≡ d → lends_this p g ≡ true
        by true is d of = is
        by false is true done = absurd (renews.made w y this there (done, heavy.1) bears single makes)
        by false is false open' = absurd (lent_above_here open' (λ lent. true≢false (sym (renews.this w y this there heavy bears single (inr makes) lent.0) ∙ is)))
