-- What is lent has its end below the frame that it is lent to; and a call creates anew the obligation of nothing that is within, or is within which, what its frame owns, what was spared, or
-- what another field of an object owns that is lent, but for the target itself. So the frame that the call begins leaves the names that were called on these.
use Rattle.std.proofs.Common.{◌≡◌, inl, inr, ℕ, suc, ◌+◌, ◌≤◌, true, false, not, Some, List, [], ◌∷◌, length, refl, sym, ap, ◌∙◌, subst, true≢false, arith}
use Rattle.std.proofs.lemmas.Bool.{and_parts}
use Rattle.std.proofs.lemmas.Bool.Decides.{nat_tests}
use Rattle.program_model.specs.declared.kinds.FieldId.{FieldId}
use Rattle.program_model.specs.declared.program.Program.{Program}
use Rattle.program_model.specs.Lookups.{method_at}
use Rattle.ownership_rules.specs.Bodies.{alias_in, constructs}
use Rattle.ownership_rules.specs.Signatures.{is_present}
use Rattle.ledger_state.specs.Contents.{HeapContents}
use Rattle.ledger_state.specs.Heaps.{object_at}
use Rattle.ledger_state.specs.declared.entry.Owner.{Owner}
use Rattle.ledger_state.specs.declared.entry.Owner.TheVariants as owners
use Rattle.ledger_state.specs.declared.object.Object.{Object}
use Rattle.ledger_state.specs.declared.value.Value.TheVariants as values
use Rattle.heap_laws.specs.Anew.{is_field_owner}
use Rattle.heap_laws.specs.Holders.{HasTop, IsComparable, by_field, itself}
use Rattle.heap_laws.proofs.RootLaws.{one_object}
use Rattle.heap_laws.proofs.WaysUp.{has_holders_top, on_from_holder, one_top, own_top, top_is_last, within_further, within_top}
use Rattle.ledger_runs.specs.Configuration.{Frame}
use Rattle.agreement.specs.Chains.{HaveEnds}
use Rattle.agreement.specs.FieldContents.{AreNew, AreUnfinished}
use Rattle.agreement.specs.PlaceFacts.{EndsBelow, IsSpared, RunsOn, is_frame_from}
use Rattle.agreement.specs.Renewing.{HasInHand, IsHeldBy, IsLentFrom, IsMadeBy, IsWholeObject, is_renewed}
use Rattle.agreement.proofs.Spared.{KeepsContent, declares, elsewhere, from_here}
use Rattle.agreement.proofs.Tops.{ends_above, no_way_round}

-- ---- what is lent ends below

-- the end is owned by a frame below, or by none
below_further : (n m : ℕ) (o : Owner) → n ≤ m → is_frame_from (n + 1) o ≡ false → is_frame_from (m + 1) o ≡ false
below_further n m (owners.Frame i) less is = grind (arith, nat_tests, less, is)
below_further n m (owners.Field v k) less is = refl
below_further n m owners.Library less is = refl
below_further n m owners.Released less is = refl
below_further n m owners.Lost less is = refl
below_further n m owners.Unowned less is = refl

-- so it does from a frame above
pub ends_further : (h : HeapContents) (fr : Frame) (frs : List Frame) (o : ℕ) → EndsBelow h frs o → EndsBelow h (fr ∷ frs) o
ends_further h fr frs o ends = record {
  end = ends.end;
  top = ends.top;
  below = below_further (length frs) (suc (length frs)) ends.top.object.owner (omega arith) ends.below;
  older = λ unmade. inr (ends.older unmade);
}

frame_is_below : (n : ℕ) → is_frame_from (suc n + 1) (owners.Frame (n + 1)) ≡ false
frame_is_below n = grind (arith, nat_tests)

module _ (p : Program) (h : HeapContents) (have : HaveEnds h) where
  -- the object that a constructor makes, and whose field owns something, is not finished, and nobody owns it
  pub record IsUnmade (w : ℕ) : Type 0 where
    pub object : Object
    pub at : object_at h w ≡ Some object
    pub unfinished : object.finished ≡ false
    pub unowned : object.owner ≡ owners.Unowned

  pub constructor_of : (fr : Frame) (owner : Owner) → IsHeldBy p fr owner → constructs (method_at p fr.method) ≡ true
  constructor_of fr owner held = (and_parts (constructs (method_at p fr.method)) (not (is_present (alias_in (method_at p fr.method)))) held.0).0

  pub unmade : (fr : Frame) (frs : List Frame) → AreUnfinished p h (fr ∷ frs) → (o : ℕ) (x : Object) → object_at h o ≡ Some x → (held : IsHeldBy p fr x.owner) → IsUnmade (held.1).holder
  unmade fr frs unfinished o x at held =
      let by = held.1 in
      let y = ends_above h x.owner by.holder by.field (have.ends o x at) by.owns in
      let open' = unfinished.0 by.holder y.0 (declares p fr.method by.field by.declared) (constructor_of fr x.owner held) by.runs y.1 in
      record { object = y.0; at = y.1; unfinished = open'; unowned = have.unfinished by.holder y.0 y.1 open' }

  -- what a constructor makes is not finished
  pub making : (fr : Frame) (o : ℕ) → IsMadeBy p fr o → constructs (method_at p fr.method) ≡ true
  making fr o made = (and_parts (constructs (method_at p fr.method)) (not (is_present (alias_in (method_at p fr.method)))) made.alone).0

  pub made_open : (fr : Frame) (frs : List Frame) → AreUnfinished p h (fr ∷ frs) → (o : ℕ) (x : Object) → object_at h o ≡ Some x → IsMadeBy p fr o → x.finished ≡ false
  made_open fr frs unfinished o x at made = unfinished.0 o x (declares p fr.method made.field made.declared) (making fr o made) made.runs at

  -- the way up from what a constructor has in a field ends at its object
  pub made_top : (fr : Frame) (frs : List Frame) → AreUnfinished p h (fr ∷ frs) → (o : ℕ) (x : Object) → object_at h o ≡ Some x → (held : IsHeldBy p fr x.owner) → HasTop h o (held.1).holder
  made_top fr frs unfinished o x at held =
      let by = held.1 in
      let w = unmade fr frs unfinished o x at held in
      has_holders_top h o by.holder by.holder by.field x at by.owns (own_top h by.holder w.object w.at (ap is_field_owner w.unowned))

  -- what a field of an object owns ends where that does
  pub content_ends_below : (frs : List Frame) (o : ℕ) (x : Object) (w : ℕ) (f : FieldId) → object_at h o ≡ Some x → x.owner ≡ owners.Field w f → EndsBelow h frs w → EndsBelow h frs o
  content_ends_below frs o x w f at owns ends = record {
    end = ends.end;
    top = record { within = by_field o w ends.end f x at owns ends.top.within; object = ends.top.object; at = ends.top.at; unheld = ends.top.unheld };
    below = ends.below;
    older = ends.older;
  }

  -- what is lent to a frame ends below it
  pub lent_ends_below : (frs : List Frame) → AreUnfinished p h frs → (o : ℕ) (x : Object) → object_at h o ≡ Some x → IsLentFrom p h frs o x.owner → EndsBelow h frs o
  lent_ends_below [] unfinished o x at lent = absurd lent
  lent_ends_below (fr ∷ frs) unfinished o x at (renewed, inl owner) = record {
    end = o;
    top = record { within = itself o; object = x; at = at; unheld = ap is_field_owner owner };
    below = ap (is_frame_from (suc (length frs) + 1)) owner ∙ frame_is_below (length frs);
    older = λ open'. absurd (let never : ◌≡◌ {A = Owner} owners.Unowned (owners.Frame (length frs + 1)) = sym (have.unfinished o x at open') ∙ owner in cc);
  }
  lent_ends_below (fr ∷ frs) unfinished o x at (renewed, inr (inl lent)) = ends_further h fr frs o (lent_ends_below frs unfinished.1 o x at lent)
  lent_ends_below (fr ∷ frs) unfinished o x at (renewed, inr (inr (inl held))) =
      let w = unmade fr frs unfinished o x at held in
      let by = held.1 in
      record {
        end = by.holder;
        top = record { within = by_field o by.holder by.holder by.field x at by.owns (itself by.holder); object = w.object; at = w.at; unheld = ap is_field_owner w.unowned };
        below = ap (is_frame_from (suc (length frs) + 1)) w.unowned;
        older = λ open'. inl by.runs;
      }
  lent_ends_below (fr ∷ frs) unfinished o x at (renewed, inr (inr (inr (inl held)))) =
      ends_further h fr frs o (content_ends_below frs o x held.holder held.field at held.owns (lent_ends_below frs unfinished.1 held.holder held.object held.at held.lends))
  lent_ends_below (fr ∷ frs) unfinished o x at (renewed, inr (inr (inr (inr made)))) =
      let unowned = made.1 in
      record {
        end = o;
        top = record { within = itself o; object = x; at = at; unheld = ap is_field_owner unowned };
        below = ap (is_frame_from (suc (length frs) + 1)) unowned;
        older = λ open'. inl made.0.runs;
      }

  -- ---- objects on one way

  -- two such objects have one top
  pub tops_meet : (a b d e : ℕ) → IsComparable h a b → HasTop h a d → HasTop h b e → d ≡ e
  tops_meet a b d e (inl up) first second = one_top h b d e (within_top h a b d first up) second
  tops_meet a b d e (inr down) first second = one_top h a d e first (within_top h b a e second down)

  -- no frame from this one on owns the end
  pub no_frame_end : (frs : List Frame) (o u : ℕ) (x : Object) → EndsBelow h frs o → object_at h u ≡ Some x → x.owner ≡ owners.Frame (length frs + 1) → HasTop h o u → ⊥
  no_frame_end frs o u x ends at owner top =
      let same = one_top h o ends.end u ends.top top in
      let one = one_object ends.top.object x (object_at h u) (ap (object_at h) (sym same) ∙ ends.top.at) at in
      true≢false (sym (from_here (length frs) (length frs) (omega arith)) ∙ ap (is_frame_from (length frs + 1)) (sym owner ∙ ap (λ (y : Object). y.owner) (sym one)) ∙ ends.below)

  -- the frame `c` stands on these
  module _ (c : Frame) (below : List Frame) (new : AreNew p (c ∷ below)) (unfinished : AreUnfinished p h (c ∷ below)) where
    abbrev position : ℕ
    position = length below + 1

    abbrev InHand : ℕ → Owner → Type 0
    InHand u owner = HasInHand p h (IsLentFrom p h below) position c u owner

    -- no end below is the object that this constructor makes
    pub not_made_here : (o u : ℕ) (x : Object) → EndsBelow h below o → object_at h u ≡ Some x → (held : IsHeldBy p c x.owner) → HasTop h o (held.1).holder → ⊥
    not_made_here o u x ends at held top =
        let by = held.1 in
        let w = unmade c below unfinished u x at held in
        let same = one_top h o ends.end by.holder ends.top top in
        let one = one_object ends.top.object w.object (object_at h by.holder) (ap (object_at h) (sym same) ∙ ends.top.at) w.at in
        elsewhere [] below by.holder (new.0 by.holder (declares p c.method by.field by.declared) (constructor_of c x.owner held) by.runs)
        (subst (λ (n : ℕ). RunsOn n below) same (ends.older (ap (λ (y : Object). y.finished) one ∙ w.unfinished)))

    -- nor one that it makes
    pub not_making_here : (o u : ℕ) (x : Object) → EndsBelow h below o → object_at h u ≡ Some x → IsMadeBy p c u → HasTop h o u → ⊥
    not_making_here o u x ends at made top =
        let same = one_top h o ends.end u ends.top top in
        let one = one_object ends.top.object x (object_at h u) (ap (object_at h) (sym same) ∙ ends.top.at) at in
        elsewhere [] below u (new.0 u (declares p c.method made.field made.declared) (making c u made) made.runs)
        (subst (λ (n : ℕ). RunsOn n below) same (ends.older (ap (λ (y : Object). y.finished) one ∙ made_open c below unfinished u x at made)))

    -- what is in hand on the way of an object that the frame owns is that object
    pub owned_apart : (o u : ℕ) (x y : Object) → object_at h o ≡ Some x → x.owner ≡ owners.Frame position → object_at h u ≡ Some y → InHand u y.owner → IsComparable h u o → u ≡ o
    owned_apart o u x y at owner there hand (inr down) = sym (top_is_last h o u x at (ap is_field_owner owner) down)
    owned_apart o u x y at owner there (inl mine) (inl up) = top_is_last h u o y there (ap is_field_owner mine) up
    owned_apart o u x y at owner there (inr (inl lent)) (inl up) =
        absurd (no_frame_end below u o x (lent_ends_below below unfinished.1 u y there lent) at owner (record { within = up; object = x; at = at; unheld = ap is_field_owner owner }))
    owned_apart o u x y at owner there (inr (inr (inl held))) (inl up) =
        let w = unmade c below unfinished u y there held in
        let same = one_top h u (held.1).holder o (made_top c below unfinished u y there held) (record { within = up; object = x; at = at; unheld = ap is_field_owner owner }) in
        absurd (let never : ◌≡◌ {A = Owner} owners.Unowned (owners.Frame position) = sym w.unowned ∙ ap (λ (z : Object). z.owner) (one_object w.object x (object_at h o) (ap (object_at h) (sym same) ∙ w.at) at) ∙ owner in cc)
    owned_apart o u x y at owner there (inr (inr (inr (inl held)))) (inl up) =
        absurd (no_frame_end below u o x
        (content_ends_below below u y held.holder held.field there held.owns (lent_ends_below below unfinished.1 held.holder held.object held.at held.lends))
        at owner (record { within = up; object = x; at = at; unheld = ap is_field_owner owner }))
    owned_apart o u x y at owner there (inr (inr (inr (inr made)))) (inl up) = top_is_last h u o y there (ap is_field_owner made.1) up

    -- nothing in hand is on the way of an object that the call spares which began the frame, and that ends below
    pub spared_apart : (o u : ℕ) (y : Object) → IsSpared p h below o → EndsBelow h below o → object_at h u ≡ Some y → IsWholeObject p y → InHand u y.owner → IsComparable h u o → ⊥
    spared_apart o u y spared ends there heavy (inl mine) comes =
        let top = own_top h u y there (ap is_field_owner mine) in
        let same = tops_meet u o u ends.end comes top ends.top in
        no_frame_end below o u y ends there mine (subst (HasTop h o) (sym same) ends.top)
    spared_apart o u y spared ends there heavy (inr (inl lent)) comes = renewed below spared lent
      where
        renewed : (frs : List Frame) → IsSpared p h frs o → IsLentFrom p h frs u y.owner → ⊥
        renewed [] spares never = never
        renewed (fr ∷ frs) spares lent' = true≢false (sym lent'.0 ∙ spares u y there heavy comes)
    spared_apart o u y spared ends there heavy (inr (inr (inl held))) comes =
        let same = tops_meet u o (held.1).holder ends.end comes (made_top c below unfinished u y there held) ends.top in
        not_made_here o u y ends there held (subst (HasTop h o) (sym same) ends.top)
    spared_apart o u y spared ends there heavy (inr (inr (inr (inl held)))) comes = renewed below spared held.lends
      where
        above : IsComparable h u o → IsComparable h held.holder o
        above (inl up) = elim (on_from_holder h u held.holder o held.field y there held.owns up) [
          | inl same ↦ inr (by_field o held.holder held.holder held.field y (ap (object_at h) (sym same) ∙ there) held.owns (itself held.holder))
          | inr further ↦ inl further
        ]
        above (inr down) = inr (within_further h o u held.holder down (by_field u held.holder held.holder held.field y there held.owns (itself held.holder)))

        renewed : (frs : List Frame) → IsSpared p h frs o → IsLentFrom p h frs held.holder held.object.owner → ⊥
        renewed [] spares never = never
        renewed (fr ∷ frs) spares lent' = true≢false (sym lent'.0 ∙ spares held.holder held.object held.at (held.whole, held.heavy) (above comes))
    spared_apart o u y spared ends there heavy (inr (inr (inr (inr made)))) comes =
        let same = tops_meet u o u ends.end comes (own_top h u y there (ap is_field_owner made.1)) ends.top in
        not_making_here o u y ends there made.0 (subst (HasTop h o) (sym same) ends.top)

    -- nor on the way of what a field of `this` owns that is lent, but that object and `this`
    pub content_apart : (w : ℕ) (f : FieldId) (o u : ℕ) (x y : Object) → KeepsContent p h c below w f o x → EndsBelow h below o → object_at h u ≡ Some y → is_renewed p h c u ≡ true → InHand u y.owner
        → IsComparable h u o → ⊥
    content_apart w f o u x y keeps ends there renews (inl mine) comes =
        let top = own_top h u y there (ap is_field_owner mine) in
        let same = tops_meet u o u ends.end comes top ends.top in
        no_frame_end below o u y ends there mine (subst (HasTop h o) (sym same) ends.top)
    content_apart w f o u x y keeps ends there renews (inr (inl lent)) comes = true≢false (sym renews ∙ ap (is_renewed p h c) (keeps.one u y.owner lent) ∙ keeps.holder)
    content_apart w f o u x y keeps ends there renews (inr (inr (inl held))) comes = true≢false (sym (constructor_of c y.owner held) ∙ keeps.method)
    content_apart w f o u x y keeps ends there renews (inr (inr (inr (inr made)))) comes = true≢false (sym (making c u made.0) ∙ keeps.method)
    content_apart w f o u x y keeps ends there renews (inr (inr (inr (inl held)))) comes = true≢false (sym renews ∙ ap (is_renewed p h c) (same_content comes) ∙ keeps.content)
      where
        owns : y.owner ≡ owners.Field w held.field
        owns = held.owns ∙ ap (λ (n : ℕ). owners.Field n held.field) (let both : values.Object held.holder ≡ values.Object w = sym held.runs ∙ keeps.runs in (let one : held.holder ≡ w = cc in one))

        same_content : IsComparable h u o → u ≡ o
        same_content (inl up) = elim (on_from_holder h u w o held.field y there owns up) [ inl same ↦ same | inr round ↦ absurd (no_way_round h have o w f x keeps.at keeps.owns round) ]
        same_content (inr down) = elim (on_from_holder h o w u f x keeps.at keeps.owns down) [ inl same ↦ sym same | inr round ↦ absurd (no_way_round h have u w held.field y there owns round) ]
