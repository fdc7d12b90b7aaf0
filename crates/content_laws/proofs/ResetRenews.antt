-- A heap whose objects are those of another, but that those which a reset reaches are emptied: what owning fields hold and own stays, where the reset reaches the finished
-- holder of what it reaches, or nothing was called on that, also over what is lost.
use Rattle.std.specs.Prelude.{◌&&◌, not, if◌then◌else◌}
use Rattle.std.proofs.Common.{◌≡◌, ◌⊎◌, inl, inr, ℕ, Bool, true, false, true≢false, Option, Some, None, List, nat_eq, option_map, refl, sym, ap, ◌∙◌, subst, eq-eqb}
use Rattle.std.specs.FinSet as set
use Rattle.std.proofs.lemmas.Bool.{and_parts}
use Rattle.program_model.specs.declared.kinds.FieldId.{FieldId}
use Rattle.program_model.specs.declared.program.Program.{Program}
use Rattle.java_control.specs.Owned.{is_owning}
use Rattle.ledger_state.specs.Contents.{HeapContents}
use Rattle.ledger_state.specs.Fields.{field_value}
use Rattle.ledger_state.specs.Heaps.{is_reached, object_at, root}
use Rattle.ledger_state.specs.declared.entry.Owner.{Owner}
use Rattle.ledger_state.specs.declared.entry.Owner.TheVariants as owners
use Rattle.ledger_state.specs.declared.object.Object.{Object}
use Rattle.ledger_state.specs.declared.value.Value.{Value}
use Rattle.ledger_obligations.specs.Obligations.{emptied, finished_in, is_library_owner, is_unmet, lose, lost_object, owner_holds, reset_in, with_owner}
use Rattle.must_call_sets.specs.MustCallSets.{is_heavy_class, must_of}
use Rattle.covering_laws.proofs.HeapLaws.{root_of_changed}
use Rattle.covering_laws.proofs.ObjectLaws.{changed_at}
use Rattle.covering_laws.proofs.Renewed.{reset_keeps}
use Rattle.covering_laws.proofs.ResetHeaps.{IsResetOf, reset_number}
use Rattle.content_laws.proofs.Renewals.{Renews, StaysAside}

module _ (p : Program) (c : HeapContents) (roots : List ℕ) (plain whole : HeapContents) (it : IsResetOf p c roots plain whole) (held : List (List Value))
    (itself : (n : ℕ) (x : Object) → object_at plain n ≡ Some x → is_reached c roots n ≡ true → x.link ≡ None
    → (root c n ≡ n)
    × ((w : ℕ) (f : FieldId) → is_heavy_class p x.class ≡ true → x.owner ≡ owners.Field w f
    → (finished_in (object_at plain w) ≡ false) ⊎ ((is_reached c roots w ≡ true) ⊎ ((z : Object) → object_at plain w ≡ Some z → (z.called ≡ set.empty) × (z.must ≡ must_of p z.class)))))
    (fields : (w : ℕ) (f : FieldId) → is_owning p f ≡ true → field_value p whole w f ≡ field_value p plain w f) where
  abbrev turned : ℕ → Object → Object
  turned n x = reset_in p c roots n x

  abbrev anew : ℕ → Bool
  anew n = is_reached c roots n

  not_library : (o : Owner) (n : ℕ) → not (owner_holds whole held o n) ≡ true → is_library_owner o ≡ false
  not_library (owners.Frame j) n is = refl
  not_library (owners.Field w f) n is = refl
  not_library owners.Library n is = absurd (true≢false (sym is))
  not_library owners.Released n is = refl
  not_library owners.Lost n is = refl
  not_library owners.Unowned n is = refl

  -- what is lost stays but for its owner
  lost_stays : (n : ℕ) (y : Object) (b : Bool) → (is_unmet y && not (owner_holds whole held y.owner n)) ≡ b → StaysAside p false y (if b then with_owner owners.Lost y else y)
  lost_stays n y true is = record {
    class = refl;
    link = refl;
    finished = refl;
    owner = inr (refl, not_library y.owner n (and_parts (is_unmet y) (not (owner_holds whole held y.owner n)) is).1);
    same = λ out. (refl, refl);
    emptied = λ never. absurd (true≢false (sym never));
  }
  lost_stays n y false is = record { class = refl; link = refl; finished = refl; owner = inl refl; same = λ out. (refl, refl); emptied = λ never. absurd (true≢false (sym never)) }

  -- an object, as it is after both
  abbrev changed : ℕ → Object → Object
  changed n x = lost_object whole held n (turned n x)

  module _ (n : ℕ) (x : Object) (at : object_at plain n ≡ Some x) where
    kept : ((turned n x).class ≡ x.class) × ((turned n x).link ≡ x.link) × ((turned n x).finished ≡ x.finished) × ((turned n x).owner ≡ x.owner)
    kept = reset_keeps p c roots n x

    lost : StaysAside p false (turned n x) (changed n x)
    lost = lost_stays n (turned n x) (is_unmet (turned n x) && not (owner_holds whole held (turned n x).owner n)) refl

    -- what is reached has no names that were called, and as a root the set of its class
    reached_names : anew n ≡ true → ((turned n x).called ≡ set.empty) × (x.link ≡ None → (turned n x).must ≡ must_of p x.class)
    reached_names is = (ap (λ (u : Object). u.called) one ∙ no_names (nat_eq (root c n) n), λ none. ap (λ (u : Object). u.must) one ∙ whole_set none)
      where
        one : turned n x ≡ emptied p (nat_eq (root c n) n) x
        one = rw is refl

        no_names : (b : Bool) → (emptied p b x).called ≡ set.empty
        no_names true = refl
        no_names false = refl

        whole_set : x.link ≡ None → (emptied p (nat_eq (root c n) n) x).must ≡ must_of p x.class
        whole_set none = ap (λ (b : Bool). (emptied p b x).must) (eq-eqb (root c n) n (itself n x at is none).0)

    stays : StaysAside p (anew n) x (changed n x)
    stays = record {
      class = lost.class ∙ kept.0;
      link = lost.link ∙ kept.1;
      finished = lost.finished ∙ kept.2;
      owner = elim lost.owner [ inl same ↦ inl (same ∙ kept.3) | inr gone ↦ inr (gone.0, ap is_library_owner (sym kept.3) ∙ gone.1) ];
      same = λ out. (let one : turned n x ≡ x = rw out refl in ((lost.same refl).0 ∙ ap (λ (u : Object). u.must) one, (lost.same refl).1 ∙ ap (λ (u : Object). u.called) one));
      emptied = λ is.
          let names = reached_names is in
          ((lost.same refl).1 ∙ names.0, λ none. (lost.same refl).0 ∙ names.1 (sym kept.1 ∙ sym lost.link ∙ none) ∙ ap (must_of p) (sym (lost.class ∙ kept.0)));
    }

  at_after : (n : ℕ) → object_at (lose held whole) n ≡ option_map (changed n) (object_at plain n)
  at_after n = changed_at (lost_object whole held) whole n ∙ ap (option_map (lost_object whole held n)) (it.objects n) ∙ both (object_at plain n)
    where
      both : (x : Option Object) → option_map (lost_object whole held n) (option_map (turned n) x) ≡ option_map (changed n) x
      both None = refl
      both (Some x) = refl

  back_at : (n : ℕ) (y : Object) → object_at (lose held whole) n ≡ Some y → (x : Object) × (object_at plain n ≡ Some x) × (changed n x ≡ y)
  back_at n y at = by (object_at plain n) refl (sym (at_after n) ∙ at)
    where
      by : (x : Option Object) → object_at plain n ≡ x → option_map (changed n) x ≡ Some y → (z : Object) × (object_at plain n ≡ Some z) × (changed n z ≡ y)
      by None at' is = absurd (let never : None ≡ Some y = is in cc)
      by (Some x) at' is = (x, at', (let one : changed n x ≡ y = (let both : Some (changed n x) ≡ Some y = is in cc) in one))

  pub reset_renews : Renews p (is_reached c roots) plain (lose held whole)
  reset_renews = record {
    forth = λ n x at. (changed n x, at_after n ∙ ap (option_map (changed n)) at, stays n x at);
    back = λ n y at. (let x = back_at n y at in (x.0, x.1, subst (StaysAside p (anew n) x.0) x.2 (stays n x.0 x.1)));
    roots = λ n. root_of_changed (lost_object whole held) whole n (λ k x. (lost_stays k x (is_unmet x && not (owner_holds whole held x.owner k)) refl).link) ∙ reset_number p c roots plain whole it n;
    fields = λ w f own. fields w f own;
    up = λ n x w f at is none heavy owner. (itself n x at is none).1 w f heavy owner;
  }
