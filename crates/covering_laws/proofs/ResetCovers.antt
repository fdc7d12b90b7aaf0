-- A heap whose objects are those of another, but that the obligations of some are created anew, which a reset reaches whose target a frame has in hand: what facts say of the others
-- stays true, and of these no fact says what a reset changes but that of the frame that owns the object, and that is read anew while the frame waits.
use Rattle.std.proofs.Common.{◌≡◌, ◌⊎◌, inl, inr, ℕ, ◌+◌, Bool, true, false, true≢false, not, ◌&&◌, ◌||◌, Option, Some, None, List, [], ◌∷◌, length, refl, sym, ap, ◌∙◌, subst, arith}
use Rattle.std.specs.List.{list_any}
use Rattle.std.specs.FinSet as set
use Rattle.std.proofs.lemmas.Bool.{and_from}
use Rattle.rlc_base.proofs.SetLaws.{empty_within, within_self}
use Rattle.program_model.specs.declared.kinds.ClassId.{ClassId}
use Rattle.program_model.specs.declared.kinds.MethodId.{MethodId}
use Rattle.program_model.specs.declared.program.Method.{Method}
use Rattle.program_model.specs.declared.program.ParamSig.{ParamSig}
use Rattle.program_model.specs.declared.program.Program.{Program}
use Rattle.program_model.specs.Lookups.{method_at}
use Rattle.ledger_obligations.specs.MustCallSets.{Names, fits, fits_type, is_heavy_class, must_of, no_names}
use Rattle.java_control.specs.Control.{Step}
use Rattle.control_actions.specs.declared.action.Action.{Action}
use Rattle.control_actions.specs.declared.fact.Fact.{Fact}
use Rattle.control_actions.specs.declared.fact.Origin.{Origin}
use Rattle.control_actions.specs.declared.place.Place.{Place}
use Rattle.ownership_rules.specs.Bodies.{reset_in}
use Rattle.ownership_rules.specs.Callees.{callee}
use Rattle.ownership_rules.specs.Facts.{has, is_held, is_own, need}
use Rattle.ledger_state.specs.Contents.{HeapContents}
use Rattle.ledger_state.specs.Fields.{field_value}
use Rattle.ledger_state.specs.Heaps.{object_at, root_of, same_root}
use Rattle.ledger_state.specs.declared.entry.Owner.{Owner}
use Rattle.ledger_state.specs.declared.entry.Owner.TheVariants as owners
use Rattle.ledger_state.specs.declared.locals.Locals.{Locals}
use Rattle.ledger_state.specs.declared.object.Object.{Object}
use Rattle.ledger_state.specs.declared.value.Value.{Value}
use Rattle.value_laws.specs.Chains.{HaveEnds}
use Rattle.value_laws.specs.Places.{place_value}
use Rattle.ledger_steps.specs.LedgerCallsCalls.{operand_of}
use Rattle.value_laws.specs.Configuration.{Frame}
use Rattle.value_laws.specs.FieldContents.{MakersOwn}
use Rattle.value_laws.specs.Choosing.{frame_steps}
use Rattle.ledger_obligations.specs.Obligations.{is_library_owner}
use Rattle.value_laws.specs.PlaceFacts.{AreWaiting, Covers, IsApart, IsCovered, IsInField, IsKeyed, IsOld, IsOwned, IsSpared, IsTrueOf, IsUnowned, MayStore, OwesOrHolds, asked_of, claims, gives_away, is_given, is_frame_from, is_taken_at, is_taken_by, is_taken_from, owned, tells_calls, unowned}
use Rattle.value_laws.specs.Renewing.{HasOwningField, IsLentFrom, fact_as, is_renewed, is_reread, lends_this, renews, renews_at}
use Rattle.value_laws.proofs.Needs.{origin_needs_all}
use Rattle.covering_laws.proofs.AlikeHeaps.{AreAlike, alike_holders, alike_turned, answered_alike, old_alike, spared_alike, whole_alike}
use Rattle.covering_laws.proofs.HeavyFields.{claims_by, claims_owned}
use Rattle.covering_laws.proofs.InFields.{held_by_this, held_in_field, held_kept}
use Rattle.covering_laws.proofs.Owners.{HoldersStay, lent_not_from, from_frame}
use Rattle.covering_laws.proofs.ReachedAbove.{AllRenewIt, IsOwnedHere, IsReachedBy, not_spared, reached_below}
use Rattle.covering_laws.proofs.Waiting.{KeepsFields, same_place}

-- The object `x` is `y` where its obligation is created anew: no name was called, and all that its class asks for must be called, or what had to be. Where its class has one, a reset
-- reaches it whose target a frame from these on has in hand, and each of these frames that owns it waits for a call that creates its obligation anew.
pub record IsRenewed (p : Program) (h : HeapContents) (frs : List Frame) (o : ℕ) (x y : Object) : Type 0 where
  pub class : y.class ≡ x.class
  pub finished : y.finished ≡ x.finished
  pub owner : y.owner ≡ x.owner
  pub called : y.called ≡ set.empty
  pub must : (y.must ≡ must_of p y.class) ⊎ (y.must ≡ x.must)
  pub reached : is_heavy_class p y.class ≡ true → OwesOrHolds p h o x → IsReachedBy p h frs o × AllRenewIt p h frs o x.owner

-- what may owe a call, or holds something, did so before
pub bears_before : (p : Program) (h k : HeapContents) → HoldersStay p h k → (o : ℕ) (x y : Object) → y.class ≡ x.class → y.finished ≡ x.finished → y.owner ≡ x.owner → OwesOrHolds p k o y → OwesOrHolds p h o x
bears_before p h k stay o x y class finished owner (inl owes) =
    inl (ap (λ (b : Bool). not (b && is_library_owner x.owner)) (sym finished) ∙ ap (λ (u : Owner). not (y.finished && is_library_owner u)) (sym owner) ∙ owes)
bears_before p h k stay o x y class finished owner (inr (inl holds)) = inr (inl (stay o holds))
bears_before p h k stay o x y class finished owner (inr (inr may)) = inr (inr (subst (MayStore p) class may))

waiting_renewed : (p : Program) (h : HeapContents) (fr : Frame) (frs : List Frame) (o : ℕ) (x y : Object) → IsRenewed p h (fr ∷ frs) o x y → IsRenewed p h frs o x y
waiting_renewed p h fr frs o x y it = record {
  class = it.class;
  finished = it.finished;
  owner = it.owner;
  called = it.called;
  must = it.must;
  reached = λ heavy owes. (let was = it.reached heavy owes in (reached_below p h fr frs o was.0, was.1.1));
}

-- a frame has not lent what it owns
pub not_lent : (p : Program) (h : HeapContents) (frs : List Frame) (o : ℕ) (w : Owner) → w ≡ owners.Frame (length frs + 1) → IsLentFrom p h frs o w → ⊥
not_lent p h frs o w own lent = true≢false (sym (ap (λ (a : Owner). is_frame_from (length frs + 1) a) own ∙ from_frame (length frs + 1) (length frs + 1) (omega arith)) ∙ lent_not_from p h frs o w lent)

-- What a fact says of the object, read anew, is true of it when its obligation is created anew.
pub true_anew : (p : Program) (g : Origin) (f : Fact) (x y : Object) → g.full ≡ must_of p g.class → (f.called ≡ no_names) × (f.full ≡ true) → y.class ≡ x.class → y.finished ≡ x.finished → y.called ≡ set.empty
    → (y.must ≡ must_of p y.class) ⊎ (y.must ≡ x.must) → IsTrueOf p x g f → IsTrueOf p y g f
true_anew p g f x y all none class finished called must was = record {
  finished = finished ∙ was.finished;
  class = ap (λ (c : ClassId). fits p c g.class) class ∙ was.class;
  bounded = elim must [
    | inl every ↦ ap (λ (t : Names). set.is_subset t (must_of p y.class)) every ∙ within_self (must_of p y.class)
    | inr kept ↦ ap (λ (t : Names). set.is_subset t (must_of p y.class)) kept ∙ ap (λ (c : ClassId). set.is_subset x.must (must_of p c)) class ∙ was.bounded
  ];
  need = elim must [
    | inl every ↦ ap (λ (t : Names). set.is_subset t (need g f)) every ∙ full_need (must_of p y.class) (ap (λ (c : ClassId). fits p c g.class) class ∙ was.class)
    | inr kept ↦ ap (λ (t : Names). set.is_subset t (need g f)) kept ∙ was.need
  ];
  called = ap (λ (t : Names). set.is_subset t y.called) none.0 ∙ empty_within y.called;
}
  where
    full_need : (t : Names) → set.is_subset t (must_of p g.class) ≡ true → set.is_subset t (need g f) ≡ true
    full_need t inside = rw none.1 (ap (set.is_subset t) all ∙ inside)

module _ (p : Program) (h k : HeapContents) (same : (v : Value) → root_of k v ≡ root_of h v) (fields : KeepsFields p h k) (alike : AreAlike h k) where
  -- ---- the places, and what is given

  pub same_held : (m : MethodId) (l : Locals) (q : Place) → root_of k (place_value p k m l q) ≡ root_of h (place_value p h m l q)
  same_held m l q = same (place_value p k m l q) ∙ ap (root_of h) (same_place p h k fields m l q)

  same_taken : (l : Locals) (a : Action) (o : ℕ) (c : ClassId) (j : ℕ) (xs : List ParamSig) → is_taken_from p k l a o c j xs ≡ is_taken_from p h l a o c j xs
  same_taken l a o c j [] = refl
  same_taken l a o c j (x ∷ xs) =
      ap (λ (r : Option ℕ). (x.owning && fits_type p c (Some x.vtype) && same_root r (Some o)) || is_taken_from p k l a o c (j + 1) xs) (same (operand_of l a (j + 1)))
      ∙ ap (λ (b : Bool). is_taken_at p h l a o c j x || b) (same_taken l a o c (j + 1) xs)

  same_gives : (l : Locals) (a : Action) (o : ℕ) (c : ClassId) → gives_away p k l a o c ≡ gives_away p h l a o c
  same_gives l a o c = go (callee p a)
    where
      go : (m : Option Method) → is_taken_by p k l a o c m ≡ is_taken_by p h l a o c m
      go None = refl
      go (Some m) = same_taken l a o c 0 m.sig.params.items

  same_any : (fr : Frame) (o : ℕ) (c : ClassId) (ss : List Step) → list_any (λ s. gives_away p k fr.locals s.action o c) ss ≡ list_any (λ s. gives_away p h fr.locals s.action o c) ss
  same_any fr o c [] = refl
  same_any fr o c (s ∷ ss) =
      ap (λ (b : Bool). b || list_any (λ t. gives_away p k fr.locals t.action o c) ss) (same_gives fr.locals s.action o c)
      ∙ ap (λ (b : Bool). gives_away p h fr.locals s.action o c || b) (same_any fr o c ss)

  pub same_given : (fr : Frame) (o : ℕ) (c : ClassId) → is_given p k fr o c ≡ is_given p h fr o c
  same_given fr o c = same_any fr o c (frame_steps p fr)

  -- ---- what is created anew

  same_renews : (l : Locals) (a : Action) (o : ℕ) → renews p k l a o ≡ renews p h l a o
  same_renews l a o = go (reset_in (callee p a))
    where
      go : (i : Option ℕ) → renews_at k l a o i ≡ renews_at h l a o i
      go None = refl
      go (Some i) = ap (λ (r : Option ℕ). same_root r (Some o)) (same (operand_of l a i))

  any_renews : (fr : Frame) (o : ℕ) (ss : List Step) → list_any (λ s. renews p k fr.locals s.action o) ss ≡ list_any (λ s. renews p h fr.locals s.action o) ss
  any_renews fr o [] = refl
  any_renews fr o (s ∷ ss) =
      ap (λ (b : Bool). b || list_any (λ t. renews p k fr.locals t.action o) ss) (same_renews fr.locals s.action o)
      ∙ ap (λ (b : Bool). renews p h fr.locals s.action o || b) (any_renews fr o ss)

  pub same_renewed : (fr : Frame) (o : ℕ) → is_renewed p k fr o ≡ is_renewed p h fr o
  same_renewed fr o = any_renews fr o (frame_steps p fr)

  same_reread : (fr : Frame) (o : ℕ) (a : Owner) → is_reread p k fr o a ≡ is_reread p h fr o a
  same_reread fr o a = same_renewed fr o

  pub same_lent : (frs : List Frame) (o : ℕ) (w : Owner) → IsLentFrom p h frs o w → IsLentFrom p k frs o w
  same_lent [] o w lent = lent
  same_lent (fr ∷ frs) o w (is, inl here) = (same_renewed fr o ∙ is, inl here)
  same_lent (fr ∷ frs) o w (is, inr (inl on)) = (same_renewed fr o ∙ is, inr (inl (same_lent frs o w on)))
  same_lent (fr ∷ frs) o w (is, inr (inr (inl held))) = (same_renewed fr o ∙ is, inr (inr (inl held)))
  same_lent (fr ∷ frs) o w (is, inr (inr (inr (inl held)))) =
      let y = alike.forth held.holder held.object held.at in (
        same_renewed fr o ∙ is,
        inr (inr (inr (inl (record {
          holder = held.holder;
          field = held.field;
          owns = held.owns;
          runs = held.runs;
          method = held.method;
          object = y.0;
          at = y.1;
          whole = whole_alike p held.object y.0 y.2 held.whole;
          unlinked = λ done. y.2.link ∙ held.unlinked (sym y.2.finished ∙ done);
          heavy = ap (is_heavy_class p) y.2.class ∙ held.heavy;
          lends = subst (IsLentFrom p k frs held.holder) (sym y.2.owner) (same_lent frs held.holder held.object.owner held.lends);
        })))),
      )
  same_lent (fr ∷ frs) o w (is, inr (inr (inr (inr made)))) = (same_renewed fr o ∙ is, inr (inr (inr (inr made))))

  -- what is spared was so
  spared_before : (frs : List Frame) (o : ℕ) → IsSpared p k frs o → IsSpared p h frs o
  spared_before frs o spared = spared_alike p k h (alike_turned h k alike) (λ fr u. sym (same_renewed fr u)) frs o spared

  -- ---- one object

  module _ (away anew later : Bool) (old : ℕ → Bool) (frs : List Frame) (fr : Frame) (o : ℕ) (x y : Object) (class : y.class ≡ x.class) (finished : y.finished ≡ x.finished) (owner : y.owner ≡ x.owner) where
    was_apart : (f : Fact) → IsApart p k old frs fr o f → IsApart p h old frs fr o f
    was_apart f apart = (apart.0, spared_before frs o apart.1, answered_alike k h (alike_turned h k alike) o apart.2, apart.3)

    -- a fact stands for it as before, where what it claims is true and what it knows was called
    pub covers_so : (c : Covers p h away anew old frs fr o x) → (claims p (method_at p fr.method) c.origin c.fact ≡ true → (away && is_own c.fact.mode) ≡ false → (is_held c.fact.mode && lends_this p fr) ≡ false → IsTrueOf p y c.origin (fact_as later c.fact))
        → (x.finished ≡ true → tells_calls p fr.method c.origin c.fact ≡ true → IsApart p h old frs fr o c.fact → later ≡ false)
        → (x.finished ≡ true → tells_calls p fr.method c.origin c.fact ≡ true → IsApart p h old frs fr o c.fact → later ≡ false
        → set.is_subset c.fact.called (set.union (asked_of p (method_at p fr.method) c.origin.kind) y.called) ≡ true) → Covers p k away later old frs fr o y
    covers_so c truth quiet known = record {
      body = c.body;
      id = c.id;
      origin = c.origin;
      fact = c.fact;
      reached = c.reached;
      alone = c.alone;
      places = λ said z small open' is. same_held fr.method fr.locals z ∙ c.places said z small open' is;
      true' = truth;
      lent = c.lent;
      lends = λ mode done. let was = c.lends mode (sym finished ∙ done) in (was.0, subst (IsLentFrom p k frs o) (sym owner) (same_lent frs o x.owner was.1));
      free = λ done held answers keeps wide. (
        held_kept p h away anew old frs fr o x c (sym finished ∙ done) held answers keeps wide,
        subst (IsInField p fr c.fact.places) (sym owner) (held_in_field p h away anew old frs fr o x c (sym finished ∙ done) held answers keeps wide),
      );
      unrenewed = λ done tells apart. quiet (sym finished ∙ done) tells (was_apart c.fact apart);
      known = λ done tells apart stays. known (sym finished ∙ done) tells (was_apart c.fact apart) stays;
      makes = λ new this. finished ∙ c.makes new this;
      begun = λ mode other declares open'.
          let was = c.begun mode other (subst (HasOwningField p) class declares) (sym finished ∙ open') in
          (was.0, subst (IsLentFrom p k frs o) (sym owner) (same_lent frs o x.owner was.1), was.2);
      fields = c.fields;
      held = c.held;
      outside = c.outside;
    }

  -- what the fields of what these frames make own they own
  pub makers_alike : (gs : List Frame) → MakersOwn p h gs → MakersOwn p k gs
  makers_alike [] mine = tt
  makers_alike (g ∷ gs) mine = (
    λ w f o x made owning heavy held at wide owes.
        let z = alike.back o x at in
        z.2.owner
        ∙ mine.0 w f o z.0 made owning heavy (sym (same (field_value p h w f)) ∙ ap (root_of k) (sym (fields w f owning)) ∙ held) z.1 (ap (is_heavy_class p) (sym z.2.class) ∙ wide)
        (bears_before p h k (alike_holders p h k alike) o z.0 x z.2.class z.2.finished z.2.owner owes),
    makers_alike gs mine.1,
  )

  -- an object that is as it was
  module _ (away anew : Bool) (old : ℕ → Bool) (frs : List Frame) (fr : Frame) (o : ℕ) (x : Object) where
    covers_same : Covers p h away anew old frs fr o x → Covers p k away anew old frs fr o x
    covers_same c = covers_so away anew anew old frs fr o x x refl refl refl c c.true' c.unrenewed c.known

    unowned_same : (q : Place) → IsUnowned p h away anew old frs fr q o x → IsUnowned p k away anew old frs fr q o x
    unfolding covers_same covers_so
    unowned_same q u = record { covers = covers_same u.covers; here = u.here; unowned = u.unowned }

    pub keyed_same : (q : Place) → IsKeyed p h away anew old frs fr q o x → IsKeyed p k away anew old frs fr q o x
    unfolding covers_same covers_so
    keyed_same q (unowned u) = unowned (unowned_same q u)
    keyed_same q (owned c in' key) = owned (covers_same c) in' (record {
      owning = key.owning;
      owner = key.owner;
      others = λ z small open' is. elim (key.others z small open' (sym (same_held fr.method fr.locals z) ∙ is)) [ inl has' ↦ inl has' | inr u ↦ inr (unowned_same z u) ];
    })

  -- an object whose obligation is created anew, which a reset reaches whose target a frame from the ones below on has in hand
  module _ (have : HaveEnds h) (away anew later : Bool) (old : ℕ → Bool) (frs : List Frame) (fr : Frame) (is : IsOld p h frs fr old) (o : ℕ) (x y : Object) (before : object_at h o ≡ Some x) (heavy : is_heavy_class p x.class ≡ true)
      (class : y.class ≡ x.class) (finished : y.finished ≡ x.finished) (owner : y.owner ≡ x.owner) (reached : IsReachedBy p h frs o) where
    -- no fact knows what was called on it
    no_news : (f : Fact) → x.finished ≡ true → IsApart p h old frs fr o f → ⊥
    no_news f done apart = not_spared p h have frs o reached apart.1 (is.ends o x before (done, heavy) apart.0)

    covers_anew : (c : Covers p h away anew old frs fr o x) → (claims p (method_at p fr.method) c.origin c.fact ≡ true → (away && is_own c.fact.mode) ≡ false → (is_held c.fact.mode && lends_this p fr) ≡ false → IsTrueOf p y c.origin (fact_as later c.fact))
        → Covers p k away later old frs fr o y
    covers_anew c truth = covers_so away anew later old frs fr o x y class finished owner c truth (λ done tells apart. absurd (no_news c.fact done apart)) (λ done tells apart stays. absurd (no_news c.fact done apart))

    pub unowned_anew : (q : Place) → IsUnowned p h away anew old frs fr q o x → IsUnowned p k away later old frs fr q o y
    unfolding covers_anew covers_so
    unowned_anew q u = record {
      covers = covers_anew u.covers (λ claimed apart keeps. absurd (true≢false (sym claimed ∙ u.unowned)));
      here = u.here;
      unowned = u.unowned;
    }

    -- the fact that owns it, where what it claims is true
    pub owned_anew : (q : Place) (c : Covers p h away anew old frs fr o x) → has c.fact.places q ≡ true → IsOwned p h away anew old frs fr o x c
        → (claims p (method_at p fr.method) c.origin c.fact ≡ true → (away && is_own c.fact.mode) ≡ false → (is_held c.fact.mode && lends_this p fr) ≡ false → IsTrueOf p y c.origin (fact_as later c.fact)) → IsKeyed p k away later old frs fr q o y
    unfolding covers_anew covers_so
    owned_anew q c in' key truth = owned (covers_anew c truth) in' (record {
      owning = key.owning;
      owner = λ stays own. owner ∙ key.owner stays own;
      others = λ z small open' is. elim (key.others z small open' (sym (same_held fr.method fr.locals z) ∙ is)) [ inl has' ↦ inl has' | inr u ↦ inr (unowned_anew z u) ];
    })

  -- an object that is not finished yet: no fact claims anything of it
  module _ (anew later : Bool) (old : ℕ → Bool) (frs : List Frame) (fr : Frame) (q : Place) (o : ℕ) (x y : Object) (class : y.class ≡ x.class) (finished : y.finished ≡ x.finished) (owner : y.owner ≡ x.owner) (unmade : x.finished ≡ false) where
    covers_unmade : Covers p h false anew old frs fr o x → Covers p k false later old frs fr o y
    covers_unmade c =
        covers_so false anew later old frs fr o x y class finished owner c (λ claimed apart keeps. absurd (true≢false (sym (c.true' claimed apart keeps).finished ∙ unmade))) (λ done tells apart. absurd (true≢false (sym done ∙ unmade)))
        (λ done tells apart stays. absurd (true≢false (sym done ∙ unmade)))

    unowned_unmade : (z : Place) → IsUnowned p h false anew old frs fr z o x → IsUnowned p k false later old frs fr z o y
    unfolding covers_unmade covers_so
    unowned_unmade z u = record { covers = covers_unmade u.covers; here = u.here; unowned = u.unowned }

    pub keyed_unmade : IsKeyed p h false anew old frs fr q o x → IsKeyed p k false later old frs fr q o y
    unfolding covers_unmade covers_so
    keyed_unmade (unowned u) = unowned (unowned_unmade q u)
    keyed_unmade (owned c in' key) = owned (covers_unmade c) in' (record {
      owning = key.owning;
      owner = λ stays own. owner ∙ key.owner stays own;
      others = λ z small open' is. elim (key.others z small open' (sym (same_held fr.method fr.locals z) ∙ is)) [ inl has' ↦ inl has' | inr u ↦ inr (unowned_unmade z u) ];
    })

  -- a frame that waits: it reads its facts anew, where it claims the object
  module _ (have : HaveEnds h) (away : Bool) (old : ℕ → Bool) (frs : List Frame) (fr : Frame) (is : IsOld p h frs fr old) (o : ℕ) (x y : Object) (before : object_at h o ≡ Some x) (heavy : is_heavy_class p x.class ≡ true)
      (it : IsRenewed p h (fr ∷ frs) o x y) (reached : IsReachedBy p h (fr ∷ frs) o) (renews : IsOwnedHere p frs fr x.owner → is_renewed p h fr o ≡ true) where
    keyed_waiting : (q : Place) → IsKeyed p h away (is_renewed p h fr o) old frs fr q o x → IsKeyed p k away (is_renewed p h fr o) old frs fr q o y
    keyed_waiting q (unowned u) =
        unowned (unowned_anew have away (is_renewed p h fr o) (is_renewed p h fr o) old frs fr is o x y before heavy it.class it.finished it.owner (reached_below p h fr frs o reached) q u)
    keyed_waiting q (owned c in' key) =
        owned_anew have away (is_renewed p h fr o) (is_renewed p h fr o) old frs fr is o x y before heavy it.class it.finished it.owner (reached_below p h fr frs o reached) q c in' key truth
      where
        -- read anew
        turned : (b : Bool) → is_renewed p h fr o ≡ b → b ≡ true → claims p (method_at p fr.method) c.origin c.fact ≡ true → (away && is_own c.fact.mode) ≡ false → (is_held c.fact.mode && lends_this p fr) ≡ false
            → IsTrueOf p y c.origin (fact_as (is_renewed p h fr o) c.fact)
        turned true is' one claimed apart keeps =
            subst (λ (b : Bool). IsTrueOf p y c.origin (fact_as b c.fact)) (sym is')
            (true_anew p c.origin (fact_as true c.fact) x y (origin_needs_all p c.body c.origin fr.control c.fact c.reached) (refl, refl) it.class it.finished it.called it.must
            (subst (λ (b : Bool). IsTrueOf p x c.origin (fact_as b c.fact)) is' (c.true' claimed apart keeps)))
        turned false is' one claimed apart keeps = absurd (true≢false (sym one))

        truth : claims p (method_at p fr.method) c.origin c.fact ≡ true → (away && is_own c.fact.mode) ≡ false → (is_held c.fact.mode && lends_this p fr) ≡ false → IsTrueOf p y c.origin (fact_as (is_renewed p h fr o) c.fact)
        truth claimed apart keeps = turned (is_renewed p h fr o) refl renewed claimed apart keeps
          where
            not_given : is_own c.fact.mode ≡ true → away ≡ false
            not_given own = by away refl
              where
                by : (b : Bool) → away ≡ b → away ≡ false
                by false none = none
                by true gone = absurd (true≢false (sym (and_from away (is_own c.fact.mode) gone own) ∙ apart))

            not_lending : is_held c.fact.mode ≡ true → lends_this p fr ≡ false
            not_lending held = ap (λ (b : Bool). b && lends_this p fr) (sym held) ∙ keeps

            renewed : is_renewed p h fr o ≡ true
            renewed = elim (claims_by p (method_at p fr.method) c.origin c.fact claimed) [
              | inl own ↦ renews (inl (key.owner (not_given own) own))
              | inr held ↦ renews (inr (
                held.1,
                not_lending held.0,
                held_by_this p h away (is_renewed p h fr o) old frs fr o x c (c.true' claimed apart keeps).finished held.0 held.1 (not_lending held.0)
                    (claims_owned p (method_at p fr.method) c.origin c.fact claimed).0,
              ))
            ]

  -- ---- the frames that wait

  -- the objects that values have for their roots
  abbrev pub Turns : List Frame → Type 0
  Turns frs = (o : ℕ) (y : Object) (v : Value) → root_of k v ≡ Some o → object_at k o ≡ Some y → (x : Object) × (object_at h o ≡ Some x) × ((y ≡ x) ⊎ IsRenewed p h frs o x y)

  turns_on : (fr : Frame) (frs : List Frame) → Turns (fr ∷ frs) → Turns frs
  turns_on fr frs turns o y v root' now =
      let t = turns o y v root' now in
      (t.0, t.1, elim t.2 [ inl it ↦ inl it | inr it ↦ inr (waiting_renewed p h fr frs o t.0 y it) ])

  covered_waiting : HaveEnds h → (old : ℕ → Bool) (fr : Frame) (frs : List Frame) → IsOld p h frs fr old → Turns (fr ∷ frs) → IsCovered p h (is_given p h fr) (is_reread p h fr) old frs fr
      → IsCovered p k (is_given p k fr) (is_reread p k fr) old frs fr
  covered_waiting have old fr frs is turns covered q o y small open' held at heavy owes =
      subst (λ (b : Bool). IsKeyed p k (is_given p k fr o y.class) b old frs fr q o y) (sym (same_reread fr o y.owner))
      (subst (λ (b : Bool). IsKeyed p k b (is_reread p h fr o y.owner) old frs fr q o y) (sym (same_given fr o y.class)) (go (turns o y (place_value p k fr.method fr.locals q) held at)))
    where
      stay : HoldersStay p h k
      stay = alike_holders p h k alike

      was_held : root_of h (place_value p h fr.method fr.locals q) ≡ Some o
      was_held = sym (same_held fr.method fr.locals q) ∙ held

      go : (x : Object) × (object_at h o ≡ Some x) × ((y ≡ x) ⊎ IsRenewed p h (fr ∷ frs) o x y) → IsKeyed p k (is_given p h fr o y.class) (is_reread p h fr o y.owner) old frs fr q o y
      go (x, before, inl it) =
          subst (λ (z : Object). IsKeyed p k (is_given p h fr o z.class) (is_reread p h fr o z.owner) old frs fr q o z) (sym it)
          (keyed_same (is_given p h fr o x.class) (is_reread p h fr o x.owner) old frs fr o x q
          (covered q o x small open' was_held before (ap (λ (z : Object). is_heavy_class p z.class) (sym it) ∙ heavy) (bears_before p h k stay o x y (ap (λ (z : Object). z.class) it) (ap (λ (z : Object). z.finished) it) (ap (λ (z : Object). z.owner) it) owes)))
      go (x, before, inr anew) =
          subst (λ (c : ClassId). IsKeyed p k (is_given p h fr o c) (is_reread p h fr o y.owner) old frs fr q o y) (sym anew.class)
          (keyed_waiting have (is_given p h fr o x.class) old frs fr is o x y before heavy' anew (anew.reached heavy owes').0 (anew.reached heavy owes').1.0 q (covered q o x small open' was_held before heavy' owes'))
        where
          heavy' : is_heavy_class p x.class ≡ true
          heavy' = ap (is_heavy_class p) (sym anew.class) ∙ heavy

          owes' : OwesOrHolds p h o x
          owes' = bears_before p h k stay o x y anew.class anew.finished anew.owner owes

  pub waiting_anew : HaveEnds h → (above : ℕ → Bool) (frs : List Frame) → Turns frs → AreWaiting p h above frs → AreWaiting p k above frs
  waiting_anew have above [] turns waits = tt
  waiting_anew have above (fr ∷ frs) turns (old, up, is, covered, waits) =
      (old, up, old_alike p h k alike frs fr old is, covered_waiting have old fr frs is turns covered, waiting_anew have old frs (turns_on fr frs turns) waits)
