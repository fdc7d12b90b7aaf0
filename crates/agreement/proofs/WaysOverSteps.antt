-- The ways up over a step: what fields owned they own still, but those of objects that are not finished, and new to what frames below know; and what a field owns besides was owned by a frame from a
-- position on, and its holder is not finished. So ways up from finished objects with obligations that end below stay, and what is on them was on them.
use Rattle.std.proofs.Common.{◌≡◌, ◌⊎◌, inl, inr, ℕ, ◌+◌, Bool, true, false, Some, None, List, [], ◌∷◌, length, refl, sym, ap, ◌∙◌, subst, true≢false}
use Rattle.program_model.specs.declared.kinds.FieldId.{FieldId}
use Rattle.program_model.specs.declared.program.Program.{Program}
use Rattle.ownership_rules.specs.MustCallSets.{is_heavy_class}
use Rattle.ledger_state.specs.Contents.{HeapContents}
use Rattle.ledger_state.specs.Heaps.{object_at}
use Rattle.ledger_state.specs.declared.entry.Owner.{Owner}
use Rattle.ledger_state.specs.declared.entry.Owner.TheVariants as owners
use Rattle.ledger_state.specs.declared.object.Object.{Object}
use Rattle.heap_laws.specs.Anew.{is_field_owner}
use Rattle.heap_laws.specs.Holders.{HasTop, HoldersAreUnlinked, IsComparable, IsWithin, by_field, itself}
use Rattle.heap_laws.proofs.RootLaws.{one_object}
use Rattle.heap_laws.proofs.WaysUp.{StepsUp, ends, goes, one_top, steps_up, top_is_last}
use Rattle.ledger_runs.specs.Configuration.{Frame}
use Rattle.agreement.specs.Chains.{HaveEnds}
use Rattle.agreement.specs.PlaceFacts.{EndsBelow, IsAnswered, IsHeavyObject, IsInFieldBelow, IsOwnedBelow, RunsOn, is_frame_below, is_frame_from, is_given_up}
use Rattle.agreement.specs.Renewing.{IsOwnedByThis}
use Rattle.agreement.proofs.Tops.{has_top}

-- What is known of a step, from the heap `h` to the heap `k`, at frames `frs`: `apart` holds of objects on which none of these frames runs.
pub record KeepsWays (p : Program) (h k : HeapContents) (frs : List Frame) (apart : ℕ → Type 0) : Type 0 where
  pub none : (w : ℕ) → apart w → RunsOn w frs → ⊥
  pub objects : (o : ℕ) (x : Object) → object_at h o ≡ Some x → (y : Object) × (object_at k o ≡ Some y) × (y.class ≡ x.class) × (x.finished ≡ true → y.finished ≡ true)
  -- of what fields owned some go on owning it; the others are those of an object that is not finished
  pub kept : (o : ℕ) (x y : Object) (w : ℕ) (f : FieldId) → object_at h o ≡ Some x → object_at k o ≡ Some y → IsHeavyObject p x → x.owner ≡ owners.Field w f
      → (y.owner ≡ owners.Field w f) ⊎ (apart w × ((z : Object) → object_at h w ≡ Some z → z.finished ≡ false))
  -- what no field owned, nor a frame from here on, none of them comes to own
  pub free : (o : ℕ) (x y : Object) → object_at h o ≡ Some x → object_at k o ≡ Some y → IsHeavyObject p x → is_field_owner x.owner ≡ false → is_frame_from (length frs + 1) x.owner ≡ false
      → (is_field_owner y.owner ≡ false) × (is_frame_from (length frs + 1) y.owner ≡ false)
  -- what a frame below owns it owned
  pub low : (o : ℕ) (x y : Object) → object_at h o ≡ Some x → object_at k o ≡ Some y → IsHeavyObject p x → is_frame_below (length frs + 1) y.owner ≡ true → is_frame_below (length frs + 1) x.owner ≡ true
  -- what is not finished stays so, and nobody owns it; or it is such an object, and neither a field owns it nor a frame below
  pub unmade : (o : ℕ) (x y : Object) → object_at h o ≡ Some x → object_at k o ≡ Some y → x.finished ≡ false
      → ((y.finished ≡ false) × (y.owner ≡ owners.Unowned)) ⊎ (apart o × (is_field_owner y.owner ≡ false) × (is_frame_below (length frs + 1) y.owner ≡ false))
  -- what a field owns besides is that of an object that was not finished, on which none of these frames runs
  pub new : (o : ℕ) (x y : Object) (w : ℕ) (f : FieldId) → object_at h o ≡ Some x → object_at k o ≡ Some y → IsHeavyObject p x → y.owner ≡ owners.Field w f
      → (x.owner ≡ owners.Field w f) ⊎ (((z : Object) × (object_at h w ≡ Some z) × (z.finished ≡ false)) × (RunsOn w frs → ⊥))
  -- what was given up is given up
  pub gone : (o : ℕ) (x y : Object) → object_at h o ≡ Some x → object_at k o ≡ Some y → IsHeavyObject p x → is_given_up x.owner ≡ true → is_given_up y.owner ≡ true

-- no field owns what is given up
given_up_unheld : (a : Owner) → is_given_up a ≡ true → is_field_owner a ≡ false
given_up_unheld owners.Released is = refl
given_up_unheld owners.Lost is = refl
given_up_unheld (owners.Frame i) is = absurd (true≢false (sym is))
given_up_unheld (owners.Field v f) is = absurd (true≢false (sym is))
given_up_unheld owners.Library is = absurd (true≢false (sym is))
given_up_unheld owners.Unowned is = absurd (true≢false (sym is))

module _ (p : Program) (h k : HeapContents) (have : HaveEnds h) (unlinked : HoldersAreUnlinked (is_heavy_class p) h) (frs : List Frame) (apart : ℕ → Type 0) (keeps : KeepsWays p h k frs apart) where
  -- what a field owns is finished
  owned_done : (o : ℕ) (x : Object) (w : ℕ) (f : FieldId) → object_at h o ≡ Some x → x.owner ≡ owners.Field w f → x.finished ≡ true
  owned_done o x w f at owned = go x.finished refl
    where
      go : (b : Bool) → x.finished ≡ b → x.finished ≡ true
      go true done = done
      go false open' = absurd (let never : ◌≡◌ {A = Owner} owners.Unowned (owners.Field w f) = sym (have.unfinished o x at open') ∙ owned in cc)

  -- the way from an object whose class has an obligation to one that is not such that its contents go
  way_stays : (a b : ℕ) (x : Object) → object_at h a ≡ Some x → is_heavy_class p x.class ≡ true → (apart b → (z : Object) → object_at h b ≡ Some z → z.finished ≡ false → ⊥) → IsWithin h a b → IsWithin k a b
  way_stays _ _ x at heavy last (itself o) = itself o
  way_stays _ _ x at heavy last (by_field o v b f x' at' owned rest) =
      let same = one_object x' x (object_at h o) at' at in
      let heavy' : is_heavy_class p x'.class ≡ true = ap (λ (u : Object). is_heavy_class p u.class) same ∙ heavy in
      let y = keeps.objects o x' at' in
      let z = unlinked o x' v f at' heavy' owned in
      go y.0 y.1 (keeps.kept o x' y.0 v f at' y.1 (owned_done o x' v f at' owned, heavy') owned) z.0 z.1 (way_stays v b z.0 z.1 z.3 last rest)
    where
      go : (y : Object) → object_at k o ≡ Some y → (y.owner ≡ owners.Field v f) ⊎ (apart v × ((z : Object) → object_at h v ≡ Some z → z.finished ≡ false)) → (z : Object) → object_at h v ≡ Some z → IsWithin k v b → IsWithin k o b
      go y there (inl stays) z at'' on = by_field o v b f y there stays on
      go y there (inr gone) z at'' on =
          let open' = gone.1 z at'' in
          let end : v ≡ b = top_is_last h v b z at'' (ap is_field_owner (have.unfinished v z at'' open')) rest in
          absurd (last (subst apart end gone.0) z (ap (object_at h) (sym end) ∙ at'') open')

  -- the end of a way from such an object is such an object, but that it need not be finished
  end_heavy : (a b : ℕ) (x z : Object) → object_at h a ≡ Some x → is_heavy_class p x.class ≡ true → object_at h b ≡ Some z → IsWithin h a b → is_heavy_class p z.class ≡ true
  end_heavy _ _ x z at heavy there (itself o) = ap (λ (u : Object). is_heavy_class p u.class) (one_object z x (object_at h o) there at) ∙ heavy
  end_heavy _ _ x z at heavy there (by_field o v b f x' at' owned rest) =
      let w = unlinked o x' v f at' (ap (λ (u : Object). is_heavy_class p u.class) (one_object x' x (object_at h o) at' at) ∙ heavy) owned in
      end_heavy v b w.0 z w.1 w.3 there rest

  -- so it ends below still
  pub ends_below_still : (o : ℕ) (x : Object) → object_at h o ≡ Some x → is_heavy_class p x.class ≡ true → EndsBelow h frs o → EndsBelow k frs o
  ends_below_still o x at heavy ends' = by_end (ends'.top.object.finished) refl
    where
      z : (y : Object) × (object_at k ends'.end ≡ Some y) × (y.class ≡ ends'.top.object.class) × (ends'.top.object.finished ≡ true → y.finished ≡ true)
      z = keeps.objects ends'.end ends'.top.object ends'.top.at

      heavy_end : is_heavy_class p ends'.top.object.class ≡ true
      heavy_end = end_heavy o ends'.end x ends'.top.object at heavy ends'.top.at ends'.top.within

      way : IsWithin k o ends'.end
      way = way_stays o ends'.end x at heavy last ends'.top.within
        where
          last : apart ends'.end → (y : Object) → object_at h ends'.end ≡ Some y → y.finished ≡ false → ⊥
          last away y there open' =
              keeps.none ends'.end away (ends'.older (ap (λ (u : Object). u.finished) (one_object ends'.top.object y (object_at h ends'.end) ends'.top.at there) ∙ open'))

      by_end : (b : Bool) → ends'.top.object.finished ≡ b → EndsBelow k frs o
      by_end true done =
          let free = keeps.free ends'.end ends'.top.object z.0 ends'.top.at z.1 (done, heavy_end) ends'.top.unheld ends'.below in
          record {
            end = ends'.end;
            top = record { within = way; object = z.0; at = z.1; unheld = free.0 };
            below = free.1;
            older = λ open'. absurd (true≢false (sym (z.3 done) ∙ open'));
          }
      by_end false open' = elim (keeps.unmade ends'.end ends'.top.object z.0 ends'.top.at z.1 open') [
        | inl still ↦ record {
          end = ends'.end;
          top = record { within = way; object = z.0; at = z.1; unheld = ap is_field_owner still.1 };
          below = ap (is_frame_from (length frs + 1)) still.1;
          older = λ open''. ends'.older open';
        }
        | inr away ↦ absurd (keeps.none ends'.end away.0 (ends'.older open'))
      ]

  -- two finished objects with obligations of which one is within the other are so still
  pub comparable_still : (a b : ℕ) (x y : Object) → object_at h a ≡ Some x → object_at h b ≡ Some y → IsHeavyObject p x → IsHeavyObject p y → IsComparable h a b → IsComparable k a b
  comparable_still a b x y at there first second (inl up) =
      inl (way_stays a b x at first.1 (λ away z at' open'. true≢false (sym second.0 ∙ ap (λ (u : Object). u.finished) (one_object y z (object_at h b) there at') ∙ open')) up)
  comparable_still a b x y at there first second (inr down) =
      inr (way_stays b a y there second.1 (λ away z at' open'. true≢false (sym first.0 ∙ ap (λ (u : Object). u.finished) (one_object x z (object_at h a) at at') ∙ open')) down)

  -- so it is where the second is finished, and ends below, and the first is not finished
  pub comparable_below : (a b : ℕ) (x y : Object) → object_at h a ≡ Some x → object_at h b ≡ Some y → is_heavy_class p x.class ≡ true → IsHeavyObject p y → EndsBelow h frs b → IsComparable h a b → IsComparable k a b
  comparable_below a b x y at there first second below (inl up) =
      inl (way_stays a b x at first (λ away z at' open'. true≢false (sym second.0 ∙ ap (λ (u : Object). u.finished) (one_object y z (object_at h b) there at') ∙ open')) up)
  comparable_below a b x y at there first second below (inr down) = inr (way_stays b a y there second.1 (λ away z at' open'. keeps.none a away (runs z at' open')) down)
    where
      runs : (z : Object) → object_at h a ≡ Some z → z.finished ≡ false → RunsOn a frs
      runs z at' open' =
          let end = one_top h b below.end a below.top (record { within = down; object = z; at = at'; unheld = ap is_field_owner (have.unfinished a z at' open') }) in
          subst (λ (n : ℕ). RunsOn n frs) end (below.older (ap (λ (u : Object). u.finished) (one_object below.top.object z (object_at h below.end) below.top.at (ap (object_at h) end ∙ at')) ∙ open'))

  -- no field owns what is not finished before the step
  pub unmade_unheld : (o : ℕ) (x y : Object) → object_at h o ≡ Some x → object_at k o ≡ Some y → x.finished ≡ false → is_field_owner y.owner ≡ false
  unmade_unheld o x y before at open' = elim (keeps.unmade o x y before at open') [ inl still ↦ ap is_field_owner still.1 | inr away ↦ away.1 ]

  -- a way up after the step to an object that was finished was there before it
  way_was : (a b : ℕ) (x z : Object) → object_at h a ≡ Some x → is_heavy_class p x.class ≡ true → object_at h b ≡ Some z → z.finished ≡ true → IsWithin k a b → IsWithin h a b
  way_was _ _ x z at heavy there done (itself o) = itself o
  way_was _ _ x z at heavy there done (by_field o v b f y at' owned rest) = by_done x.finished refl (λ holder. way_was v b holder.0 z holder.1 holder.3 there done rest)
    where
      by_done : (c : Bool) → x.finished ≡ c → ((w : Object) × (object_at h v ≡ Some w) × (w.link ≡ None) × (is_heavy_class p w.class ≡ true) → IsWithin h v b) → IsWithin h o b
      by_done false open' on = absurd (true≢false (sym (ap is_field_owner owned) ∙ unmade_unheld o x y at at' open'))
      by_done true made on = elim (keeps.new o x y v f at at' (made, heavy) owned) [
        | inl was ↦ by_field o v b f x at was (on (unlinked o x v f at heavy was))
        | inr new ↦ absurd (end (steps_up k v b rest) new.0.0 new.0.1 new.0.2)
      ]
        where
          end : StepsUp k v b → (w : Object) → object_at h v ≡ Some w → w.finished ≡ false → ⊥
          end (ends same) w at'' open' = true≢false (sym done ∙ ap (λ (u : Object). u.finished) (one_object z w (object_at h b) there (ap (object_at h) (sym same) ∙ at'')) ∙ open')
          end (goes u g w' at'' owned' more) w was open' = true≢false (sym (ap is_field_owner owned') ∙ unmade_unheld v w w' was at'' open')

  pub comparable_was : (a b : ℕ) (x y : Object) → object_at h a ≡ Some x → object_at h b ≡ Some y → IsHeavyObject p x → IsHeavyObject p y → IsComparable k a b → IsComparable h a b
  comparable_was a b x y at there first second (inl up) = inl (way_was a b x y at first.1 there second.0 up)
  comparable_was a b x y at there first second (inr down) = inr (way_was b a y x there second.1 at first.0 down)

  -- what a frame below owns, or a field of `this` of the one that stands last, was owned so
  pub below_before : (o : ℕ) (x y : Object) → object_at h o ≡ Some x → object_at k o ≡ Some y → IsHeavyObject p x → IsOwnedBelow p frs y.owner → IsOwnedBelow p frs x.owner
  below_before o x y at there heavy (inl low) = inl (keeps.low o x y at there heavy low)
  below_before o x y at there heavy (inr held) = inr (in_field frs held (λ w f owns. keeps.new o x y w f at there heavy owns))
    where
      in_field : (gs : List Frame) → IsInFieldBelow p gs y.owner
          → ((w : ℕ) (f : FieldId) → y.owner ≡ owners.Field w f → (x.owner ≡ owners.Field w f) ⊎ (((z : Object) × (object_at h w ≡ Some z) × (z.finished ≡ false)) × (RunsOn w gs → ⊥))) → IsInFieldBelow p gs x.owner
      in_field [] never new = absurd never
      in_field (g ∷ gs) (answers, keeps', by) new = elim (new by.holder by.field by.owns) [
        | inl was ↦ (answers, keeps', subst (IsOwnedByThis p g) (by.owns ∙ sym was) by)
        | inr other ↦ absurd (other.1 (inl by.runs))
      ]

  -- what was given up is given up
  pub answered_before : (o : ℕ) (x : Object) → object_at h o ≡ Some x → is_heavy_class p x.class ≡ true → IsAnswered k o → IsAnswered h o
  answered_before o x at heavy answered = go (has_top h have o x at)
    where
      go : (e : ℕ) × HasTop h o e → IsAnswered h o
      go (e, top) = by (is_given_up top.object.owner) refl
        where
          z : (y : Object) × (object_at k e ≡ Some y) × (y.class ≡ top.object.class) × (top.object.finished ≡ true → y.finished ≡ true)
          z = keeps.objects e top.object top.at

          never_open : is_given_up top.object.owner ≡ true → (y : Object) → object_at h e ≡ Some y → y.finished ≡ false → ⊥
          never_open gone y there open' =
              true≢false (sym gone ∙ ap is_given_up (ap (λ (u : Object). u.owner) (one_object top.object y (object_at h e) top.at there) ∙ have.unfinished e y there open'))

          made : (b : Bool) → top.object.finished ≡ b → is_given_up top.object.owner ≡ true → top.object.finished ≡ true
          made true done gone = done
          made false open' gone = absurd (never_open gone top.object top.at open')

          by : (b : Bool) → is_given_up top.object.owner ≡ b → IsAnswered h o
          by false answers = (e, top, answers)
          by true gone =
              let way = way_stays o e x at heavy (λ away y there open'. never_open gone y there open') top.within in
              let still = keeps.gone e top.object z.0 top.at z.1 (made top.object.finished refl gone, end_heavy o e x top.object at heavy top.at top.within) gone in
              let end = one_top k o e answered.0 (record { within = way; object = z.0; at = z.1; unheld = given_up_unheld z.0.owner still }) answered.1 in
              let one = one_object z.0 answered.1.object (object_at k answered.0) (ap (object_at k) (sym end) ∙ z.1) answered.1.at in
              absurd (true≢false (sym still ∙ ap (λ (u : Object). is_given_up u.owner) one ∙ answered.2))
