-- A call of the library that creates an obligation anew, beside the same call without its reset.
use Rattle.covering_laws.proofs.ResetsUp.{IsTestedTarget, library_reset_rises}
use Rattle.covering_laws.specs.Holders.{HoldersAreUnlinked}
use Rattle.covering_laws.proofs.Links.{library_evolves}
use Rattle.std.specs.Prelude.{◌&&◌, nat_lt, not, if◌then◌else◌}
use Rattle.std.proofs.Common.{Bool, List, None, Option, Some, ap, false, inl, inr, option_map, refl, subst, suc, sym, true, true≢false, zero, ℕ, ◌∙◌, ◌≡◌, ◌⊎◌}
use Rattle.std.proofs.lemmas.Bool.{and_parts}
use Rattle.program_model.specs.declared.kinds.FieldId.{FieldId}
use Rattle.program_model.specs.declared.program.Method.{Method}
use Rattle.program_model.specs.declared.program.Program.{Program}
use Rattle.control_actions.specs.declared.action.Action.{Action}
use Rattle.control_actions.specs.declared.action.Action.TheVariants as actions
use Rattle.ledger_state.specs.Locals.{temp_in}
use Rattle.ledger_state.specs.Values.{number_of}
use Rattle.stub_conduct.specs.declared.choice.Conduct.{Conduct}
use Rattle.ledger_state.specs.Contents.{HeapContents}
use Rattle.ledger_state.specs.Heaps.{object_at, root}
use Rattle.ledger_state.specs.declared.entry.Owner.{Owner}
use Rattle.ledger_state.specs.declared.entry.Owner.TheVariants as owners
use Rattle.ledger_state.specs.declared.locals.Locals.{Locals}
use Rattle.ledger_state.specs.declared.object.Object.{Object}
use Rattle.ledger_state.specs.declared.value.Value.{Value}
use Rattle.ledger_state.specs.declared.value.Value.TheVariants as values
use Rattle.ledger_obligations.specs.Obligations.{finished_holder, finished_in, is_library_owner, is_unmet, lose, lost_object, owner_holds, reset_in, with_owner}
use Rattle.ledger_steps.specs.LedgerCallsCalls.{interest_in, object_by, reset_position, reset_target}
use Rattle.ledger_steps.specs.Conducts.{positions}
use Rattle.covering_laws.specs.Nexts.{IsConstantRead}
use Rattle.must_call_sets.specs.Bodies as bodies
use Rattle.ledger_steps.specs.CallSteps.{library_called, library_heap, library_roots}
use Rattle.covering_laws.proofs.ObjectLaws.{changed_at}
use Rattle.covering_laws.proofs.HeapLaws.{root_of_changed, roots_of_links-itself}
use Rattle.covering_laws.specs.Chains.{Ends, HaveEnds, IsLast, ends_here, of_field}
use Rattle.covering_laws.specs.HeapAnew.{HasNoHolder, is_anew, target_root}
use Rattle.covering_laws.specs.Heaps.{HasEarlierLinks, IsOlder}
use Rattle.must_call_sets.specs.MustCallSets.{is_heavy_class, must_of}
use Rattle.covering_laws.proofs.Emptied.{as_it_was, emptied_root, fresh_stays}
use Rattle.covering_laws.proofs.Growth.{library_grows}
use Rattle.covering_laws.proofs.LibraryCallLaws.{emptied_objects, emptied_roots-root}
use Rattle.covering_laws.proofs.MadeObjects.{grown_fields, older_or_new}
use Rattle.covering_laws.proofs.Renewed.{renewed, reset_keeps, same_root, says_nothing, without_reset}
use Rattle.content_laws.proofs.Renewals.{Renews, StaysAside}

-- the name by which the call counts is the same without the reset
pub same_interest : (m : Option Method) → interest_in (without_reset m) ≡ interest_in m
same_interest None = refl
same_interest (Some m) = refl

-- an object one of whose fields owns another one is there
holder_there : (h : HeapContents) (o : Owner) → Ends h o → (w : ℕ) (f : FieldId) → o ≡ owners.Field w f → (y : Object) × (object_at h w ≡ Some y)
holder_there h _ (ends_here o is) w f same = absurd (subst IsLast same is)
holder_there h _ (of_field v g y at rest) w f same = let one : v ≡ w = cc in (y, subst (λ (z : ℕ). object_at h z ≡ Some y) one at)

-- it is not finished, where it is no finished holder
unready_holder : (h : HeapContents) (w : ℕ) (f : FieldId) → finished_holder h (owners.Field w f) ≡ None → finished_in (object_at h w) ≡ false
unready_holder h w f none = go (finished_in (object_at h w)) refl none
  where
    go : (b : Bool) → finished_in (object_at h w) ≡ b → (if b then Some w else None) ≡ None → finished_in (object_at h w) ≡ false
    go true done some = absurd (let never : Some w ≡ None = some in cc)
    go false unready is = unready

module _ (p : Program) (l : Locals) (a : Action) (m r : Option Method) (d : Conduct) (i : ℕ) (h : HeapContents) (held : List (List Value)) (links : HasEarlierLinks h) (ends : HaveEnds h)
    (unlinked' : HoldersAreUnlinked (is_heavy_class p) h) (tops : IsTestedTarget p l a m r d h links (is_heavy_class p) unlinked' ⊎ HasNoHolder h (target_root h l a m)) where
  abbrev plain : HeapContents
  plain = library_heap p l a (without_reset m) r d i h

  abbrev whole : HeapContents
  whole = library_heap p l a m r d i h

  abbrev turned : ℕ → Object → Object
  turned n x = reset_in p (library_called p l a m r d h) (library_roots p l a m r d h) n x

  abbrev anew : ℕ → Bool
  anew n = is_anew p l a m r d h n

  not_library : (o : Owner) (n : ℕ) → not (owner_holds whole held o n) ≡ true → is_library_owner o ≡ false
  not_library (owners.Frame j) n is = refl
  not_library (owners.Field w f) n is = refl
  not_library owners.Library n is = absurd (true≢false (sym is))
  not_library owners.Released n is = refl
  not_library owners.Lost n is = refl
  not_library owners.Unowned n is = refl

  -- what is lost stays but for its owner
  lost_stays : (n : ℕ) (y : Object) (b : Bool) → (is_unmet y && not (owner_holds whole held y.owner n)) ≡ b → StaysAside p false y (if b then with_owner owners.Lost y else y)
  lost_stays n y true is = record {
    class = refl;
    link = refl;
    finished = refl;
    owner = inr (refl, not_library y.owner n (and_parts (is_unmet y) (not (owner_holds whole held y.owner n)) is).1);
    same = λ out. (refl, refl);
    emptied = λ never. absurd (true≢false (sym never));
  }
  lost_stays n y false is = record { class = refl; link = refl; finished = refl; owner = inl refl; same = λ out. (refl, refl); emptied = λ never. absurd (true≢false (sym never)) }

  -- an object, as it is after both
  abbrev changed : ℕ → Object → Object
  changed n x = lost_object whole held n (turned n x)

  module _ (n : ℕ) (x : Object) (at : object_at plain n ≡ Some x) where
    kept : ((turned n x).class ≡ x.class) × ((turned n x).link ≡ x.link) × ((turned n x).finished ≡ x.finished) × ((turned n x).owner ≡ x.owner)
    kept = reset_keeps p (library_called p l a m r d h) (library_roots p l a m r d h) n x

    lost : StaysAside p false (turned n x) (changed n x)
    lost = lost_stays n (turned n x) (is_unmet (turned n x) && not (owner_holds whole held (turned n x).owner n)) refl

    here : object_at whole n ≡ Some (turned n x)
    here = renewed p l a m r d i h n ∙ ap (option_map (turned n)) at

    -- what is created anew was there before the call
    was_there : anew n ≡ true → IsOlder h n x owners.Library
    was_there is = elim (older_or_new p l a (without_reset m) r i h (says_nothing m) links d n x at) [
      | inl was ↦ was
      | inr new ↦ absurd (true≢false (sym is ∙ ap anew new ∙ fresh_stays p l a m r d i h))
    ]

    unlinked : (was : IsOlder h n x owners.Library) → (changed n x).link ≡ None → was.before.link ≡ None
    unlinked was none = sym was.goes_on.link ∙ sym kept.1 ∙ sym lost.link ∙ none

    stays : StaysAside p (anew n) x (changed n x)
    stays = record {
      class = lost.class ∙ kept.0;
      link = lost.link ∙ kept.1;
      finished = lost.finished ∙ kept.2;
      owner = elim lost.owner [ inl same ↦ inl (same ∙ kept.3) | inr gone ↦ inr (gone.0, ap is_library_owner (sym kept.3) ∙ gone.1) ];
      same = λ out.
          let it = as_it_was p l a m r d i h n x out in
          ((lost.same refl).0 ∙ ap (λ (u : Object). u.must) it, (lost.same refl).1 ∙ ap (λ (u : Object). u.called) it);
      emptied = λ is.
          let was = was_there is in (
            (lost.same refl).1 ∙ (emptied_objects p l a m r d i h n was.before (turned n x) is was.at here).called,
            λ none. (lost.same refl).0 ∙ emptied_root p l a m r d i h n was.before (turned n x) is was.at (unlinked was none) here ∙ ap (must_of p) (sym lost.class),
          );
    }

    -- a field of no finished object owns it
    no_holder_of : HasNoHolder h (target_root h l a m) → anew n ≡ true → x.link ≡ None → (w : ℕ) (f : FieldId) → x.owner ≡ owners.Field w f → finished_in (object_at plain w) ≡ false
    no_holder_of free is none w f owner =
        let was = was_there is in
        let root_is : target_root h l a m ≡ Some n =
        emptied_roots-root p l a m r d h n was.before links free was.at is ∙ ap Some (roots_of_links-itself h n was.before was.at (sym was.goes_on.link ∙ none)) in
        elim was.owner [
          | inr gave ↦ absurd (let never : owners.Field w f ≡ owners.Library = sym owner ∙ gave in cc)
          | inl still ↦ (
              let held : was.before.owner ≡ owners.Field w f = sym still ∙ owner in
              let holder = holder_there h was.before.owner (ends.ends n was.before was.at) w f held in
              let later = library_evolves p l a (without_reset m) r d i h (says_nothing m) w holder.0 holder.1 in
              ap finished_in later.1 ∙ later.2.finished ∙ sym (ap finished_in holder.1) ∙ unready_holder h w f (sym (ap (finished_holder h) held) ∙ free n was.before root_is was.at))
        ]

  -- with each root that the reset reaches it reaches the object whose field owns it, where that is finished
  rises : IsTestedTarget p l a m r d h links (is_heavy_class p) unlinked' → (n w : ℕ) (f : FieldId) (x : Object) → object_at plain n ≡ Some x → anew n ≡ true → x.link ≡ None → x.owner ≡ owners.Field w f
      → (finished_in (object_at plain w) ≡ false) ⊎ (anew w ≡ true)
  unfolding is_anew
  rises tested n w f x at is none owner = library_reset_rises p l a m r d h links (is_heavy_class p) unlinked' i tested n w f x at is none owner

  at_after : (n : ℕ) → object_at (lose held whole) n ≡ option_map (changed n) (object_at plain n)
  at_after n = changed_at (lost_object whole held) whole n ∙ ap (option_map (lost_object whole held n)) (renewed p l a m r d i h n) ∙ both (object_at plain n)
    where
      both : (x : Option Object) → option_map (lost_object whole held n) (option_map (turned n) x) ≡ option_map (changed n) x
      both None = refl
      both (Some x) = refl

  back_at : (n : ℕ) (y : Object) → object_at (lose held whole) n ≡ Some y → (x : Object) × (object_at plain n ≡ Some x) × (changed n x ≡ y)
  back_at n y at = by (object_at plain n) refl (sym (at_after n) ∙ at)
    where
      by : (x : Option Object) → object_at plain n ≡ x → option_map (changed n) x ≡ Some y → (z : Object) × (object_at plain n ≡ Some z) × (changed n z ≡ y)
      by None at' is = absurd (let never : None ≡ Some y = is in cc)
      by (Some x) at' is = (x, at', (let one : changed n x ≡ y = (let both : Some (changed n x) ≡ Some y = is in cc) in one))

  pub library_renews : Renews p anew plain (lose held whole)
  library_renews = record {
    forth = λ n x at. (changed n x, at_after n ∙ ap (option_map (changed n)) at, stays n x at);
    back = λ n y at. (let x = back_at n y at in (x.0, x.1, subst (StaysAside p (anew n) x.0) x.2 (stays n x.0 x.1)));
    roots = λ n. root_of_changed (lost_object whole held) whole n (λ k x. (lost_stays k x (is_unmet x && not (owner_holds whole held x.owner k)) refl).link)
        ∙ (let both : Some (root whole n) ≡ Some (root plain n) = same_root p l a m r d i h (values.Object n) in (let one : root whole n ≡ root plain n = cc in one));
    fields = λ w f own. grown_fields p h whole (library_grows p l a m r d i h) w f own ∙ sym (grown_fields p h plain (library_grows p l a (without_reset m) r d i h) w f own);
    up = λ n x w f at is none heavy owner. elim tops [
      | inl tested ↦ elim (rises tested n w f x at is none owner) [ inl unready ↦ inl unready | inr up ↦ inr (inl up) ]
      | inr free ↦ inl (no_holder_of n x at free is none w f owner)
    ];
  }

-- ---- no reset

-- a signature that resets nothing
pub position_none : (m : Option Method) → bodies.reset_in m ≡ None → reset_position m ≡ None
position_none None none = refl
position_none (Some m) none = none

-- a read has no operand, so nothing is reset at it
pub read_resets_nothing : (l : Locals) (a : Action) → IsConstantRead a → (k : ℕ) (d : Conduct) (m : Option Method) → reset_target (positions l a k d) m ≡ None
read_resets_nothing l actions.Skip read k d m = absurd read
read_resets_nothing l (actions.Plain q v) read k d m = by (reset_position m)
  where
    nothing : (b : Bool) → number_of (temp_in l (if b then None else None)) ≡ None
    nothing true = refl
    nothing false = refl

    by : (r : Option ℕ) → object_by (positions l (actions.Plain q v) k d) r ≡ None
    by None = refl
    by (Some zero) = nothing (nat_lt 0 4294967296)
    by (Some (suc i)) = nothing (nat_lt (suc i) 4294967296)
read_resets_nothing l a read k d m = absurd read
