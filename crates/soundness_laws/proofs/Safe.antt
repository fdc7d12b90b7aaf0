-- What agrees with the facts, and whose fields own what they hold, is safe.
use Rattle.ledger_obligations.specs.MustCallSets.{is_heavy_class}
use Rattle.std.proofs.Common.{◌≡◌, ◌⊎◌, inl, inr, ℕ, Bool, true, false, not, ◌||◌, Option, Some, None, List, [], ◌∷◌, refl, sym, ap, ◌∙◌, subst, true≢false}
use Rattle.std.proofs.lemmas.Bool.{and_parts, or_left, or_right}
use Rattle.program_model.specs.declared.kinds.ClassId.{ClassId}
use Rattle.program_model.specs.declared.program.Program.{Program}
use Rattle.program_model.specs.Lookups.{method_at}
use Rattle.ledger_obligations.specs.Bodies.{is_class_of}
use Rattle.content_laws.specs.Accept.{Accept}
use Rattle.ledger_state.specs.Heaps.{object_at, root}
use Rattle.ledger_state.specs.declared.entry.Owner.{Owner}
use Rattle.ledger_state.specs.declared.entry.Owner.TheVariants as owners
use Rattle.ledger_state.specs.declared.object.Object.{Object}
use Rattle.ledger_state.specs.declared.value.Value.TheVariants as values
use Rattle.ledger_obligations.specs.Obligations.{is_unmet, is_unmet_in, owner_in}
use Rattle.ledger_steps.specs.LedgerCallsCalls.{is_alias}
use Rattle.content_laws.specs.Configuration.{Config, Frame}
use Rattle.content_laws.specs.Safety.{IsGiven, IsLive, IsSafeAt, IsUnmet, by_itself, constructs_object, is_being_made, owner_of, within}
use Rattle.content_laws.proofs.LibraryCallLaws.{roots_go_on-root, roots_of_links-itself}
use Rattle.content_laws.specs.Agreement.{Agree, IsTracked, is_answering}
use Rattle.content_laws.specs.Chains.{Ends, IsLast, ends_here, of_field}
use Rattle.content_laws.specs.FieldContents.{HaveContents, IsContent, is_made_in, makes_holder, makes_object}
use Rattle.content_laws.proofs.Landing.{tracked_held}
use Rattle.content_laws.proofs.UnmetHolders.{holder_is_unmet}

-- a constructor of the class among the frames is a constructor
made_is_being_made : (p : Program) (w : ℕ) (c : ClassId) (frs : List Frame) → is_made_in p w c frs ≡ true → is_being_made p frs w ≡ true
made_is_being_made p w c [] is = absurd (true≢false (sym is))
made_is_being_made p w c (fr ∷ frs) is = go (makes_holder p w c fr) refl is (made_is_being_made p w c frs)
  where
    go : (b : Bool) → makes_holder p w c fr ≡ b → (b || is_made_in p w c frs) ≡ true → (is_made_in p w c frs ≡ true → is_being_made p frs w ≡ true) → is_being_made p (fr ∷ frs) w ≡ true
    go true one is' rest = or_left (constructs_object p w fr) (is_being_made p frs w)
        (and_parts (constructs_object p w fr) (is_class_of c (method_at p fr.method)) (and_parts (makes_object p w c fr) (not (is_alias (method_at p fr.method))) one).0).0
    go false none is' rest = or_right (constructs_object p w fr) (is_being_made p frs w) (rest is')

module _ (p : Program) (ac : Accept p) (c : Config) (agrees : Agree p c) (contents : HaveContents p c.frames c.heap) where
  -- the object of a number that is unmet
  unmet_object : (k : ℕ) → IsUnmet c.heap k → (x : Object) × (object_at c.heap (root c.heap k) ≡ Some x) × (is_unmet x ≡ true)
  unmet_object k unmet = go (object_at c.heap (root c.heap k)) refl unmet
    where
      go : (x : Option Object) → object_at c.heap (root c.heap k) ≡ x → is_unmet_in x ≡ true → (x : Object) × (object_at c.heap (root c.heap k) ≡ Some x) × (is_unmet x ≡ true)
      go None at is = absurd (true≢false (sym is))
      go (Some x) at is = (x, at, is)

  -- a root is linked to none
  end_is_free : (k : ℕ) (x : Object) → object_at c.heap (root c.heap k) ≡ Some x → x.link ≡ None
  end_is_free k x at = roots_go_on-root c.heap (values.Object k) (root c.heap k) x agrees.links refl at

  -- an object that answers for nobody is not unmet
  unanswered : (r : ℕ) (x : Object) (w : Owner) → object_at c.heap r ≡ Some x → x.link ≡ None → is_unmet x ≡ true → x.owner ≡ w → is_answering w ≡ false → ⊥
  unanswered r x w at free unmet owner none = true≢false (sym (agrees.answered r x at free unmet) ∙ ap is_answering owner ∙ none)

  unmet_root : (w : ℕ) (y : Object) → object_at c.heap w ≡ Some y → y.link ≡ None → is_unmet y ≡ true → IsUnmet c.heap w
  unmet_root w y at free unmet = ap (λ (r : ℕ). is_unmet_in (object_at c.heap r)) (roots_of_links-itself c.heap w y at free) ∙ ap is_unmet_in at ∙ unmet

  live : (r : ℕ) (x : Object) (w : Owner) → object_at c.heap r ≡ Some x → x.link ≡ None → is_unmet x ≡ true → x.owner ≡ w → IsLive p c r w
  live r x owners.Library at free unmet owner = tt
  live r x (owners.Frame j) at free unmet owner = tracked_held p c.heap c.frames r x j (agrees.tracked r x j at unmet owner)
  live r x (owners.Field w f) at free unmet owner = (k.held, go k.holder.finished refl)
    where
      k : IsContent p c.frames c.heap r x w f
      k = contents r x w f at (or_left (is_unmet x) (is_heavy_class p x.class) unmet) owner

      go : (b : Bool) → k.holder.finished ≡ b → IsUnmet c.heap w ⊎ (is_being_made p c.frames w ≡ true)
      go true finished = inl (unmet_root w k.holder k.at k.unlinked (holder_is_unmet p ac c.frames c.heap r x w f k finished unmet))
      go false unmade = inr (made_is_being_made p w k.field.class c.frames (k.made unmade))
  live r x owners.Released at free unmet owner = absurd (unanswered r x owners.Released at free unmet owner refl)
  live r x owners.Lost at free unmet owner = absurd (unanswered r x owners.Lost at free unmet owner refl)
  live r x owners.Unowned at free unmet owner = absurd (unanswered r x owners.Unowned at free unmet owner refl)

  owned : (k : ℕ) → IsUnmet c.heap k → IsLive p c (root c.heap k) (owner_of c.heap k)
  owned k unmet =
      let x = unmet_object k unmet in
      subst (IsLive p c (root c.heap k)) (sym (ap owner_in x.1)) (live (root c.heap k) x.0 x.0.owner x.1 (end_is_free k x.0 x.1) x.2 refl)

  -- ---- the end of a run

  module _ (ended : c.frames ≡ []) where
    owner_at : (k : ℕ) (x : Object) → object_at c.heap (root c.heap k) ≡ Some x → owner_of c.heap k ≡ x.owner
    owner_at k x at = ap owner_in at

    last_given : (k : ℕ) (x : Object) (o : Owner) → object_at c.heap (root c.heap k) ≡ Some x → is_unmet x ≡ true → x.owner ≡ o → IsLast o → IsGiven c.heap k
    last_given k x owners.Library at unmet owner is = by_itself (owner_at k x at ∙ owner)
    last_given k x (owners.Frame j) at unmet owner is =
        absurd (subst (λ (frs : List Frame). IsTracked p c.heap frs (root c.heap k) x j) ended (agrees.tracked (root c.heap k) x j at unmet owner))
    last_given k x (owners.Field w f) at unmet owner is = absurd is
    last_given k x owners.Released at unmet owner is = absurd (unanswered (root c.heap k) x owners.Released at (end_is_free k x at) unmet owner refl)
    last_given k x owners.Lost at unmet owner is = absurd (unanswered (root c.heap k) x owners.Lost at (end_is_free k x at) unmet owner refl)
    last_given k x owners.Unowned at unmet owner is = absurd (unanswered (root c.heap k) x owners.Unowned at (end_is_free k x at) unmet owner refl)

    -- no holder is being made
    is_finished : (w : ℕ) (d : ClassId) (y : Object) → (y.finished ≡ false → is_made_in p w d c.frames ≡ true) → y.finished ≡ true
    is_finished w d y made = go y.finished refl
      where
        go : (b : Bool) → y.finished ≡ b → y.finished ≡ true
        go true is = is
        go false is = absurd (true≢false (sym (sym (ap (is_made_in p w d) ended) ∙ made is)))

    given_by : (o : Owner) → Ends c.heap o → (n : ℕ) (x : Object) → object_at c.heap (root c.heap n) ≡ Some x → is_unmet x ≡ true → x.owner ≡ o → IsGiven c.heap n
    given_by _ (ends_here o is) n x at unmet owner = last_given n x o at unmet owner is
    given_by _ (of_field w f z there rest) n x at unmet owner =
        let k = contents (root c.heap n) x w f at (or_left (is_unmet x) (is_heavy_class p x.class) unmet) owner in
        let same : k.holder ≡ z = (let both : Some k.holder ≡ Some z = sym k.at ∙ there in cc) in
        let finished : k.holder.finished ≡ true = is_finished w k.field.class k.holder k.made in
        let unmade : is_unmet z ≡ true = sym (ap is_unmet same) ∙ holder_is_unmet p ac c.frames c.heap (root c.heap n) x w f k finished unmet in
        let itself : root c.heap w ≡ w = roots_of_links-itself c.heap w k.holder k.at k.unlinked in
        within f (owner_at n x at ∙ owner) (given_by z.owner rest w z (ap (object_at c.heap) itself ∙ there) unmade refl)

    given_root : (k : ℕ) → IsUnmet c.heap k → IsGiven c.heap k
    given_root k unmet =
        let x = unmet_object k unmet in
        given_by x.0.owner (agrees.ends.ends (root c.heap k) x.0 x.1) k x.0 x.1 x.2 refl

  pub safe_at : IsSafeAt p c
  safe_at = record { owned = owned; no_leak = agrees.no_leak; given = given_root }
