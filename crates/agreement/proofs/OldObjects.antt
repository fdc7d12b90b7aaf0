-- What is old when a frame begins: the finished objects whose way up ends at one that neither this frame nor one above owns; and what was old for the frame below.
use Rattle.std.proofs.Common.{◌≡◌, ◌⊎◌, inl, inr, ℕ, ◌+◌, Bool, true, false, not, ◌&&◌, ◌||◌, Option, Some, None, List, ◌∷◌, length, refl, sym, ap, ◌∙◌, true≢false}
use Rattle.std.proofs.lemmas.Bool.{and_from, and_parts, not-true, or_right}
use Rattle.program_model.specs.declared.program.Program.{Program}
use Rattle.program_model.specs.Lookups.{method_at}
use Rattle.ledger_state.specs.Contents.{HeapContents}
use Rattle.ledger_state.specs.Heaps.{object_at}
use Rattle.ledger_state.specs.declared.entry.Owner.{Owner}
use Rattle.ledger_state.specs.declared.entry.Owner.TheVariants as owners
use Rattle.ledger_state.specs.declared.object.Object.{Object}
use Rattle.ledger_state.specs.declared.value.Value.TheVariants as values
use Rattle.heap_laws.specs.Anew.{is_field_owner}
use Rattle.heap_laws.specs.Holders.{HasTop, itself}
use Rattle.heap_laws.proofs.RootLaws.{one_object}
use Rattle.heap_laws.proofs.WaysUp.{one_top}
use Rattle.ledger_runs.specs.Configuration.{Frame}
use Rattle.agreement.specs.Chains.{HaveEnds}
use Rattle.agreement.specs.PlaceFacts.{IsContentOfThis, IsHeavyObject, IsInFieldBelow, IsOld, RunsOn, is_frame_below, is_frame_from, is_settled, leaves_all}
use Rattle.agreement.proofs.SparingCalls.{ends_further}
use Rattle.agreement.proofs.Tops.{has_top}

-- what a frame below owns no frame from here on owns
below_not_from : (n : ℕ) (a : Owner) → is_frame_below n a ≡ true → is_frame_from n a ≡ false
below_not_from n (owners.Frame i) is = ap not is
below_not_from n (owners.Field w f) is = refl
below_not_from n owners.Library is = refl
below_not_from n owners.Released is = refl
below_not_from n owners.Lost is = refl
below_not_from n owners.Unowned is = refl

module _ (h : HeapContents) (have : HaveEnds h) (n : ℕ) where
  -- the owner of the end of the way up
  abbrev end_owner : (o : ℕ) (x : Object) → object_at h o ≡ Some x → Owner
  end_owner o x at = (has_top h have o x at).1.object.owner

  abbrev old_in : (o : ℕ) (x : Option Object) → object_at h o ≡ x → Bool
  old_in o None at = false
  old_in o (Some x) at = x.finished && not (is_frame_from n (end_owner o x at))

  -- whether the object is old for a frame that begins at this position
  abbrev pub old_now : ℕ → Bool
  old_now o = old_in o (object_at h o) refl

  -- the end of an old object
  pub record IsOldNow (o : ℕ) : Type 0 where
    pub object : Object
    pub at : object_at h o ≡ Some object
    pub finished : object.finished ≡ true
    pub end : ℕ
    pub top : HasTop h o end
    pub free : is_frame_from n top.object.owner ≡ false

  pub old_ends : (o : ℕ) → old_now o ≡ true → IsOldNow o
  old_ends o is = go (object_at h o) refl is
    where
      go : (x : Option Object) (at : object_at h o ≡ x) → old_in o x at ≡ true → IsOldNow o
      go None at never = absurd (true≢false (sym never))
      go (Some x) at both =
          let parts = and_parts x.finished (not (is_frame_from n (end_owner o x at))) both in
          let top = has_top h have o x at in
          record { object = x; at = at; finished = parts.0; end = top.0; top = top.1; free = not-true (is_frame_from n top.1.object.owner) parts.1 }

  pub ends_old : (o : ℕ) (x : Object) → object_at h o ≡ Some x → x.finished ≡ true → (e : ℕ) (top : HasTop h o e) → is_frame_from n top.object.owner ≡ false → old_now o ≡ true
  ends_old o x at done e top free = go (object_at h o) refl at
    where
      go : (y : Option Object) (at' : object_at h o ≡ y) → y ≡ Some x → old_in o y at' ≡ true
      go None at' never = absurd (let no' : None ≡ Some x = never in cc)
      go (Some y) at' same =
          let one : y ≡ x = (let both : Some y ≡ Some x = same in cc) in
          let top' = has_top h have o y at' in
          let end : top'.0 ≡ e = one_top h o top'.0 e top'.1 top in
          let owner : top'.1.object ≡ top.object = one_object top'.1.object top.object (object_at h e) (ap (object_at h) (sym end) ∙ top'.1.at) top.at in
          and_from y.finished (not (is_frame_from n (end_owner o y at'))) (ap (λ (u : Object). u.finished) one ∙ done) (ap not (ap (λ (u : Object). is_frame_from n u.owner) owner ∙ free))

-- A frame begins over these: where an end that is not finished is one on which one of them runs; and what a field of `this` of the frame below owns that answers for it, what a field of `this` owns in a method that
-- leaves all as it is, and `this`, where the frame is settled, end elsewhere.
pub begins_old : (p : Program) (h : HeapContents) (have : HaveEnds h) (frs : List Frame) (fr : Frame)
    → ((o e : ℕ) (x : Object) → object_at h o ≡ Some x → IsHeavyObject p x → (top : HasTop h o e) → top.object.finished ≡ false → RunsOn e frs)
    → ((o e : ℕ) (x : Object) → object_at h o ≡ Some x → IsHeavyObject p x → IsInFieldBelow p frs x.owner → (top : HasTop h o e) → is_frame_from (length frs + 1) top.object.owner ≡ false)
    → ((o e : ℕ) (x : Object) → object_at h o ≡ Some x → IsHeavyObject p x → IsContentOfThis p fr x.owner → leaves_all p (method_at p fr.method) ≡ true → (top : HasTop h o e) → is_frame_from (length frs + 1) top.object.owner ≡ false)
    → ((w e : ℕ) (y : Object) → fr.locals.this ≡ values.Object w → object_at h w ≡ Some y → IsHeavyObject p y → y.link ≡ None → is_settled p fr frs ≡ true → (top : HasTop h w e) → is_frame_from (length frs + 1) top.object.owner ≡ false)
    → IsOld p h frs fr (old_now h have (length frs + 1))
begins_old p h have frs fr made held contents self = record {
  there = λ o was. (let it = old_ends h have (length frs + 1) o was in (it.object, it.at, it.finished));
  ends = λ o x at heavy was. (let it = old_ends h have (length frs + 1) o was in record { end = it.end; top = it.top; below = it.free; older = λ open'. made o it.end x at heavy it.top open' });
  below = λ o x at heavy owned. elim owned [
    | inl low ↦ ends_old h have (length frs + 1) o x at heavy.0 o (record { within = itself o; object = x; at = at; unheld = below_unheld (length frs + 1) x.owner low }) (below_not_from (length frs + 1) x.owner low)
    | inr field ↦ (let top = has_top h have o x at in ends_old h have (length frs + 1) o x at heavy.0 top.0 top.1 (held o top.0 x at heavy field top.1))
  ];
  contents = λ o x at heavy content leaves. (let top = has_top h have o x at in ends_old h have (length frs + 1) o x at heavy.0 top.0 top.1 (contents o top.0 x at heavy content leaves top.1));
  self = λ w y this at heavy single settled. (let top = has_top h have w y at in ends_old h have (length frs + 1) w y at heavy.0 top.0 top.1 (self w top.0 y this at heavy single settled top.1));
}
  where
    below_unheld : (n : ℕ) (a : Owner) → is_frame_below n a ≡ true → is_field_owner a ≡ false
    below_unheld n (owners.Frame i) is = refl
    below_unheld n (owners.Field v f) is = absurd (true≢false (sym is))
    below_unheld n owners.Library is = refl
    below_unheld n owners.Released is = refl
    below_unheld n owners.Lost is = refl
    below_unheld n owners.Unowned is = refl

-- What was old for a frame is so for the one that it begins, besides what is old now.
pub begins_over : (p : Program) (h : HeapContents) (frs : List Frame) (caller fr : Frame) (was now : ℕ → Bool) → IsOld p h frs caller was → IsOld p h (caller ∷ frs) fr now → IsOld p h (caller ∷ frs) fr (λ o. was o || now o)
begins_over p h frs caller fr was now before is = record {
  there = λ o old. elim (either (was o) (now o) old) [ inl first ↦ before.there o first | inr second ↦ is.there o second ];
  ends = λ o x at heavy old. elim (either (was o) (now o) old) [ inl first ↦ ends_further h caller frs o (before.ends o x at heavy first) | inr second ↦ is.ends o x at heavy second ];
  below = λ o x at heavy owned. or_right (was o) (now o) (is.below o x at heavy owned);
  contents = λ o x at heavy content leaves. or_right (was o) (now o) (is.contents o x at heavy content leaves);
  self = λ w y this at heavy single settled. or_right (was w) (now w) (is.self w y this at heavy single settled);
}
  where
    either : (a b : Bool) → (a || b) ≡ true → (a ≡ true) ⊎ (b ≡ true)
    either true b some = inl refl
    either false b some = inr some
