-- What owning fields hold and own where an operator other than `=` stores a text into one of them.
use Rattle.covering_laws.proofs.OlderHolders.{field_of_owner}
use Rattle.covering_laws.proofs.ResetCovers.{bears_before}
use Rattle.covering_laws.proofs.Owners.{HoldersStay}
use Rattle.std.proofs.Common.{◌≡◌, inl, inr, ℕ, true, false, true≢false, Some, None, List, ◌∷◌, sym, ap, ◌∙◌, subst}
use Rattle.std.proofs.lemmas.List.Elements.{All-tail}
use Rattle.program_model.specs.declared.kinds.ClassId.{ClassId}
use Rattle.program_model.specs.declared.kinds.FieldId.{FieldId}
use Rattle.program_model.specs.declared.program.Field.{Field}
use Rattle.program_model.specs.declared.program.Program.{Program}
use Rattle.must_call_sets.specs.MustCallSets.{is_heavy_class}
use Rattle.java_control.specs.Owned.{is_owning, is_owning_field}
use Rattle.ledger_state.specs.Contents.{HeapContents}
use Rattle.ledger_state.specs.Fields.{field_value}
use Rattle.ledger_state.specs.Heaps.{object_at, root_of}
use Rattle.ledger_state.specs.declared.entry.Owner.{Owner}
use Rattle.ledger_state.specs.declared.entry.Owner.TheVariants as owners
use Rattle.ledger_state.specs.declared.object.Object.{Object}
use Rattle.ledger_obligations.specs.Obligations.{given_up}
use Rattle.covering_laws.specs.Configuration.{Frame}
use Rattle.covering_laws.specs.Chains.{IsLast}
use Rattle.covering_laws.specs.FieldContents.{FieldsHold, HaveContents, IsContent, LinksLead, OwningFieldsOwn, has_obligation, is_made_in}
use Rattle.covering_laws.specs.Heaps.{Evolves, HasEarlierLinks}
use Rattle.covering_laws.specs.Leading.{CallsOnField, Leads, by_library, by_program, here}
use Rattle.covering_laws.specs.PlaceFacts.{IsHolder, OwesOrHolds}
use Rattle.covering_laws.specs.Ranges.{LocalsInRange}
use Rattle.covering_laws.specs.Renewable.{IsFollowed}
use Rattle.covering_laws.specs.TextUpdates.{HoldsOrTakesText, IsLeftByText}
use Rattle.covering_laws.proofs.Chains.{given_up_last}
use Rattle.covering_laws.proofs.TextStores.{left_goes_on, light_root}
use Rattle.content_laws.proofs.Goes.{dispatched_on, roots_by_links, root_stays, unfinished_on, obligation_is_heavy}
use Rattle.content_laws.proofs.Steps.{IsSameFrame, LocalsIn, same_dispatched, same_fresh, same_makes, same_new, same_unfinished, this_in}
use Rattle.content_laws.specs.Going.{KeepsRoots}

-- what is given up no field owns
not_a_fields : (x : Object) (w : ℕ) (f : FieldId) → (given_up x).owner ≡ owners.Field w f → ⊥
not_a_fields x w f is = absurd (subst (λ (o : Owner). IsLast o) is (given_up_last x))

module _ (p : Program) (h k : HeapContents) (links : HasEarlierLinks h) (forward : (n : ℕ) (x : Object) → object_at h n ≡ Some x → (y : Object) × (object_at k n ≡ Some y) × IsLeftByText p x y)
    (back : (n : ℕ) (y : Object) → object_at k n ≡ Some y → (x : Object) × (object_at h n ≡ Some x) × IsLeftByText p x y)
    (fields : (w : ℕ) (f : FieldId) → is_owning p f ≡ true → HoldsOrTakesText p h k w f) where
  pub text_forth : Evolves h k
  text_forth n x at = let y = forward n x at in (y.0, y.1, left_goes_on p x y.0 y.2)

  text_roots : KeepsRoots h k
  text_roots = roots_by_links h k links text_forth

  -- ---- links

  -- calls on an object that is linked to none lead to itself
  light_leads : (c r : ℕ) (x : Object) → Leads p h c r → ((z : Object) → object_at h c ≡ Some z → (is_heavy_class p z.class ≡ false) × (z.link ≡ None)) → object_at h r ≡ Some x → is_heavy_class p x.class ≡ true → ⊥
  light_leads _ _ x (here n z at free) light there heavy =
      let both : Some z ≡ Some x = sym at ∙ there in
      let same : z ≡ x = cc in
      true≢false (sym heavy ∙ ap (λ (u : Object). is_heavy_class p u.class) (sym same) ∙ (light z at).0)
  light_leads _ _ x (by_library n r z l at link library rest) light there heavy = absurd (let never : None ≡ Some l = sym (light z at).1 ∙ link in cc)
  light_leads _ _ x (by_program n c r z l f field at link declared owning calls held rest more) light there heavy = absurd (let never : None ≡ Some l = sym (light z at).1 ∙ link in cc)

  -- where calls led to an object whose class has an obligation, they lead there
  leads_on : (n r : ℕ) (x : Object) → Leads p h n r → object_at h r ≡ Some x → is_heavy_class p x.class ≡ true → Leads p k n r
  leads_on _ _ x (here n z at free) there heavy = let y = text_forth n z at in here n y.0 y.1 (y.2.link ∙ free)
  leads_on _ _ x (by_library n r z l at link library rest) there heavy =
      let y = text_forth n z at in by_library n r y.0 l y.1 (y.2.link ∙ link) library (leads_on l.to r x rest there heavy)
  leads_on _ _ x (by_program n c r z l f field at link declared owning calls held rest more) there heavy = elim (fields n f (ap is_owning_field declared ∙ owning)) [
    | inl same ↦ (let y = text_forth n z at in
        by_program n c r y.0 l f field y.1 (y.2.link ∙ link) declared owning (subst (λ (d : ClassId). CallsOnField p d f) (sym y.2.class) calls) (same ∙ held)
        (leads_on l.to r x rest there heavy) (leads_on c r x more there heavy))
    | inr text ↦ absurd (light_leads c r x more (λ u at'. text.0 c u held at') there heavy)
  ]

  -- what fields own they owned
  text_holders : HoldersStay p h k
  text_holders w (c, y, now, done, heavy, held) = by (back c y now)
    where
      by : (x : Object) × (object_at h c ≡ Some x) × IsLeftByText p x y → IsHolder p h w
      by (x, before, inl same) = (c, y, before ∙ ap Some (sym same), done, heavy, held)
      by (x, before, inr gone) = (let f = field_of_owner y.owner w held in absurd (not_a_fields x w f.0 (ap (λ (z : Object). z.owner) (sym gone.0) ∙ f.1)))

  text_leads : LinksLead p h → LinksLead p k
  text_leads led n o x y at root' at' heavy owes =
      let x' = back n x at in
      let y' = back o y at' in
      let on = left_goes_on p y'.0 y y'.2 in
      let heavy' : is_heavy_class p y'.0.class ≡ true = ap (is_heavy_class p) (sym on.class) ∙ heavy in
      leads_on n o y'.0 (led n o x'.0 y'.0 x'.1 (sym (text_roots n x'.0 x'.1) ∙ root') y'.1 heavy' (might_owe y'.0 y y'.2 heavy' owes)) y'.1 heavy'
    where
      might_owe : (u v : Object) → IsLeftByText p u v → is_heavy_class p u.class ≡ true → OwesOrHolds p k o v → OwesOrHolds p h o u
      might_owe u v (inl same) heavy' owes' = bears_before p h k text_holders o u v (ap (λ (z : Object). z.class) same) (ap (λ (z : Object). z.finished) same) (ap (λ (z : Object). z.owner) same) owes'
      might_owe u v (inr gone) heavy' owes' = absurd (true≢false (sym heavy' ∙ gone.1))

  -- ---- contents

  module _ (frs gs : List Frame) (makes : (w : ℕ) (c : ClassId) → is_made_in p w c frs ≡ true → is_made_in p w c gs ≡ true) where
    -- the holder goes on as it is, but for its owner
    holder_on : (o : ℕ) (x : Object) (w : ℕ) (f : FieldId) (content : IsContent p frs h o x w f) → root_of k (field_value p k w f) ≡ Some o → (z : Object) → object_at k w ≡ Some z → IsLeftByText p content.holder z → IsContent p gs k o x w f
    holder_on o x w f content held z now (inl same) = record {
      holder = content.holder;
      at = now ∙ ap Some same;
      field = content.field;
      declared = content.declared;
      class = content.class;
      program = content.program;
      owning = content.owning;
      held = held;
      bounded = content.bounded;
      own = content.own;
      whole = content.whole;
      unlinked = content.unlinked;
      kept = content.kept;
      made = λ un. makes w content.field.class (content.made un);
    }
    holder_on o x w f content held z now (inr gone) = record {
      holder = given_up content.holder;
      at = now ∙ ap Some gone.0;
      field = content.field;
      declared = content.declared;
      class = content.class;
      program = content.program;
      owning = content.owning;
      held = held;
      bounded = content.bounded;
      own = content.own;
      whole = content.whole;
      unlinked = content.unlinked;
      kept = content.kept;
      made = λ un. makes w content.field.class (content.made un);
    }

    text_contents : HaveContents p frs h → HaveContents p gs k
    text_contents have o y w f at owed' owner = by (back o y at)
      where
        by : (x : Object) × (object_at h o ≡ Some x) × IsLeftByText p x y → IsContent p gs k o y w f
        by (x, before, inr gone) = absurd (not_a_fields x w f (sym (ap (λ (u : Object). u.owner) gone.0) ∙ owner))
        by (x, before, inl same) =
            let owed : has_obligation p x ≡ true = ap (has_obligation p) (sym same) ∙ owed' in
            let content = have o x w f before owed (ap (λ (u : Object). u.owner) (sym same) ∙ owner) in
            let z = forward w content.holder content.at in
            subst (λ (u : Object). IsContent p gs k o u w f) (sym same) (holder_on o x w f content (held_on x content owed before) z.0 z.1 z.2)
          where
            held_on : (x : Object) (content : IsContent p frs h o x w f) → has_obligation p x ≡ true → object_at h o ≡ Some x → root_of k (field_value p k w f) ≡ Some o
            held_on x content owed before = elim (fields w f (ap is_owning_field content.declared ∙ content.owning)) [
              | inl same ↦ ap (root_of k) same ∙ root_stays h k text_roots (field_value p h w f) o x content.held before
              | inr text ↦ absurd (true≢false (sym (obligation_is_heavy p x owed (λ unmet. content.own)) ∙ light_root p h (field_value p h w f) o x text.0 content.held before))
            ]

  text_owning : OwningFieldsOwn p h → OwningFieldsOwn p k
  text_owning own o y w f at owner = by (back o y at)
    where
      by : (x : Object) × (object_at h o ≡ Some x) × IsLeftByText p x y → (is_owning p f ≡ true) × IsFollowed p y.class
      by (x, before, inl same) = subst (λ (u : Object). (is_owning p f ≡ true) × IsFollowed p u.class) (sym same) (own o x w f before (ap (λ (u : Object). u.owner) (sym same) ∙ owner))
      by (x, before, inr gone) = absurd (not_a_fields x w f (sym (ap (λ (u : Object). u.owner) gone.0) ∙ owner))

  -- ---- all of it

  pub text_holds : (fr after : Frame) (frs : List Frame) → IsSameFrame fr after → LocalsIn h (fr ∷ frs) → FieldsHold p (fr ∷ frs) h → FieldsHold p (after ∷ frs) k
  text_holds fr after frs same in' hold = record {
    contents = text_contents (fr ∷ frs) (after ∷ frs) (λ w c made. same_makes p fr after frs same w c ∙ made) hold.contents;
    owning = text_owning hold.owning;
    leads = text_leads hold.leads;
    new = same_new p fr after frs same hold.new;
    fresh = same_fresh p fr after frs same hold.fresh;
    unfinished = same_unfinished p fr after frs same k (unfinished_on p h k text_forth (fr ∷ frs) (this_in h (fr ∷ frs) in') hold.unfinished);
    dispatched = same_dispatched p fr after frs same k (dispatched_on p h k text_forth fr frs (All-tail (λ (x : Frame). LocalsInRange h x.locals) fr frs in') hold.dispatched);
  }
