-- A store into an owning field is first taken as the store that it would be without its reset: then the holder's obligation, where that is finished and what moves in is unmet, and that of the finished
-- objects on the way up from it, is created anew.
use Rattle.std.specs.FinSet as set
use Rattle.std.proofs.Common.{◌≡◌, ◌⊎◌, inl, inr, ℕ, Bool, true, false, true≢false, Some, None, List, nat_eq, refl, sym, ap, ◌∙◌, subst, eq-eqb}
use Rattle.program_model.specs.declared.kinds.FieldId.{FieldId}
use Rattle.program_model.specs.declared.program.Program.{Program}
use Rattle.must_call_sets.specs.MustCallSets.{is_heavy_class, must_of}
use Rattle.ledger_state.specs.Contents.{HeapContents}
use Rattle.ledger_state.specs.Fields.{field_of}
use Rattle.ledger_state.specs.Heaps.{is_reached, object_at, put_field, root}
use Rattle.ledger_state.specs.declared.entry.Owner.TheVariants as owners
use Rattle.ledger_state.specs.declared.object.Object.{Object}
use Rattle.ledger_state.specs.declared.value.Value.{Value}
use Rattle.ledger_state.specs.declared.value.Value.TheVariants as values
use Rattle.ledger_obligations.specs.Obligations.{emptied, finished_in, holder_roots, moved_in, reset_in, resets_holder, roots_where, stored_owning}
use Rattle.covering_laws.specs.Heaps.{HasEarlierLinks}
use Rattle.covering_laws.specs.Holders.{HoldersAreUnlinked}
use Rattle.covering_laws.proofs.Renewed.{reset_keeps}
use Rattle.covering_laws.proofs.ResetHeaps.{IsResetOf, reset_back, reset_forth, reset_number}
use Rattle.covering_laws.proofs.RootLaws.{root_itself}
use Rattle.covering_laws.proofs.StoredObjects.{moved_links, unfinished_stays}
use Rattle.covering_laws.proofs.StoreResets.{store_begins, store_goes_up, store_resets, store_tested}
use Rattle.content_laws.proofs.Renewals.{Renews, StaysAside}

module _ (p : Program) (h : HeapContents) (w : ℕ) (f : FieldId) (bound : Bool) (v : Value) (links : HasEarlierLinks h) (holders : HoldersAreUnlinked (is_heavy_class p) h) (self : Object) (self_at : object_at h w ≡ Some self)
    (ready : self.finished ≡ true → (self.link ≡ None) × (is_heavy_class p self.class ≡ true)) where
  abbrev pub moved : HeapContents
  moved = moved_in p h w f bound v

  -- the roots that the reset reaches
  abbrev pub roots : List ℕ
  roots = holder_roots p h w f bound v

  abbrev pub anew : ℕ → Bool
  anew n = is_reached moved roots n

  -- the heap without the reset, and with it
  abbrev pub plain : HeapContents
  plain = put_field w f v moved

  abbrev pub whole : HeapContents
  whole = stored_owning p h w f bound v

  reset_of : IsResetOf p moved roots plain whole
  reset_of = let it = store_resets p h w f bound v in record { count = it.count; objects = it.objects }

  -- nothing is created anew, where the holder is not finished
  pub none_anew : self.finished ≡ false → (n : ℕ) → anew n ≡ false
  none_anew open' n = ap (λ (b : Bool). is_reached moved (roots_where b moved w) n) (unfinished_stays p h w f v bound (field_of p h (values.Object w) f) (ap finished_in self_at ∙ open'))

  turned : (n : ℕ) (z : Object) → object_at moved n ≡ Some z → StaysAside p (anew n) z (reset_in p moved roots n z)
  turned n z at = record {
    class = keeps.0;
    link = keeps.1;
    finished = keeps.2;
    owner = inl keeps.3;
    same = λ out. (let one : reset_in p moved roots n z ≡ z = rw out refl in (ap (λ (u : Object). u.must) one, ap (λ (u : Object). u.called) one));
    emptied = λ is. (ap (λ (u : Object). u.called) (turn is) ∙ no_names (nat_eq (root moved n) n), λ none. ap (λ (u : Object). u.must) (turn is) ∙ whole_set (sym keeps.1 ∙ none) ∙ ap (must_of p) (sym keeps.0));
  }
    where
      keeps : ((reset_in p moved roots n z).class ≡ z.class) × ((reset_in p moved roots n z).link ≡ z.link) × ((reset_in p moved roots n z).finished ≡ z.finished) × ((reset_in p moved roots n z).owner ≡ z.owner)
      keeps = reset_keeps p moved roots n z

      turn : anew n ≡ true → reset_in p moved roots n z ≡ emptied p (nat_eq (root moved n) n) z
      turn is = rw is refl

      no_names : (b : Bool) → (emptied p b z).called ≡ set.empty
      no_names true = refl
      no_names false = refl

      whole_set : z.link ≡ None → (emptied p (nat_eq (root moved n) n) z).must ≡ must_of p z.class
      whole_set none = ap (λ (b : Bool). (emptied p b z).must) (eq-eqb (root moved n) n (root_itself moved n z at none))

  rises : (n : ℕ) (z : Object) (u : ℕ) (g : FieldId) → object_at moved n ≡ Some z → anew n ≡ true → z.link ≡ None → z.owner ≡ owners.Field u g → (finished_in (object_at moved u) ≡ false) ⊎ (anew u ≡ true)
  rises n z u g at is none owner = by_self self.finished refl
    where
      by_self : (b : Bool) → self.finished ≡ b → (finished_in (object_at moved u) ≡ false) ⊎ (anew u ≡ true)
      by_self false open' = absurd (true≢false (sym is ∙ none_anew open' n))
      by_self true done = by_holder (finished_in (object_at moved u)) refl
        where
          by_holder : (b : Bool) → finished_in (object_at moved u) ≡ b → (finished_in (object_at moved u) ≡ false) ⊎ (anew u ≡ true)
          by_holder false open' = inl open'
          by_holder true up = inr (store_goes_up p h w f bound v links self self_at (ready done).0 done (is_heavy_class p) holders (ready done).1 n u g z at none
              (store_tested p h w f bound v links self self_at (ready done).0 done (is_heavy_class p) holders (ready done).1 n z at none is) owner up is)

  pub store_renews : Renews p anew plain whole
  store_renews = record {
    forth = λ n z at. (reset_in p moved roots n z, reset_forth p moved roots plain whole reset_of n z at, turned n z at);
    back = λ n y at. (let z = reset_back p moved roots plain whole reset_of n y at in (z.0, z.1, subst (StaysAside p (anew n) z.0) z.2 (turned n z.0 z.1)));
    roots = reset_number p moved roots plain whole reset_of;
    fields = λ u g own. refl;
    up = λ n z u g at is none heavy owner. elim (rises n z u g at is none owner) [ inl open' ↦ inl open' | inr up ↦ inr (inl up) ];
  }

  -- the holder's obligation is created anew, where it is finished, and what moves in is unmet and was not in the field
  pub holder_anew : resets_holder p h w f bound (field_of p h (values.Object w) f) v ≡ true → anew w ≡ true
  holder_anew resets = by_self self.finished refl
    where
      by_self : (b : Bool) → self.finished ≡ b → anew w ≡ true
      by_self false open' = absurd (true≢false (sym resets ∙ unfinished_stays p h w f v bound (field_of p h (values.Object w) f) (ap finished_in self_at ∙ open')))
      by_self true done = store_begins p h w f bound v links self self_at (ready done).0 done resets

  -- links lead to earlier objects
  pub whole_links : HasEarlierLinks whole
  whole_links n y l at some =
      let z = reset_back p moved roots plain whole reset_of n y at in
      let keeps = reset_keeps p moved roots n z.0 in
      let was = moved_links p h w f bound v links n z.0 l z.1 (sym keeps.1 ∙ ap (λ (u : Object). u.link) z.2 ∙ some) in
      record {
        there = was.there;
        before = was.before;
        owner = ap (λ (u : Object). u.owner) (sym z.2) ∙ keeps.3 ∙ was.owner;
        finished = ap (λ (u : Object). u.finished) (sym z.2) ∙ keeps.2 ∙ was.finished;
      }
