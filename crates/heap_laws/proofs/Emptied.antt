-- The laws on a call of the library that may create an obligation anew, from those on the same call without its reset.
use Rattle.std.proofs.Common.{◌≡◌, ◌⊎◌, inl, inr, ℕ, ◌+◌, ◌<◌, Bool, true, false, Option, Some, None, List, slice_get, option_map, nat_eq, refl, sym, ap, ◌∙◌, subst, true≢false, if◌then◌else◌, eq-eqb}
use Rattle.std.specs.FinSet as set
use Rattle.program_model.specs.declared.kinds.FieldId.{FieldId}
use Rattle.program_model.specs.declared.kinds.Target.TheVariants as promised
use Rattle.program_model.specs.declared.program.Method.{Method}
use Rattle.program_model.specs.declared.program.ParamSig.{ParamSig}
use Rattle.program_model.specs.declared.program.Program.{Program}
use Rattle.program_model.specs.declared.program.Promise.{Promise}
use Rattle.ledger_obligations.specs.MustCallSets.{must_of}
use Rattle.control_actions.specs.declared.action.Action.{Action}
use Rattle.stub_conduct.specs.declared.choice.Conduct.{Conduct}
use Rattle.ledger_state.specs.Contents.{HeapContents}
use Rattle.ledger_state.specs.Fields.{field_of}
use Rattle.ledger_state.specs.Heaps.{is_reached, next_number, object_at, root, root_of}
use Rattle.ledger_state.specs.Values.{number_of}
use Rattle.ledger_state.specs.declared.entry.Owner.{Owner}
use Rattle.ledger_state.specs.declared.entry.Owner.TheVariants as owners
use Rattle.ledger_state.specs.declared.locals.Locals.{Locals}
use Rattle.ledger_state.specs.declared.object.Object.{Object}
use Rattle.ledger_state.specs.declared.value.Value.TheVariants as values
use Rattle.ledger_obligations.specs.declared.note.Note.{Note}
use Rattle.ledger_obligations.specs.Obligations.{emptied, has_note, may_move, reset_in}
use Rattle.ledger_steps.specs.LedgerCallsCalls.{alias_position, operand_of, params_in, receiver_note}
use Rattle.ledger_steps.specs.Conducts.{promises_by}
use Rattle.ledger_steps.specs.CallSteps.{library_called, library_heap, library_roots}
use Rattle.heap_laws.specs.Heaps.{GoesOn, HasEarlierLinks, IsOlder, KeepsLinks}
use Rattle.heap_laws.specs.Leading.{Leads, is_passed_on}
use Rattle.heap_laws.proofs.RootLaws.{one_object, root_itself}
use Rattle.heap_laws.specs.Anew.{EvolvesAside, GoesOnAside, IsEmptied, IsOlderAside, is_anew}
use Rattle.heap_laws.specs.LibraryCalls.{HasSmallInterest, IsAliasMadeAs, IsMadeAs}
use Rattle.heap_laws.proofs.Links.{called_evolves, called_on_root, library_evolves, library_links}
use Rattle.heap_laws.proofs.Promises.{called_at, called_in_field}
use Rattle.heap_laws.proofs.Renewed.{emptied_keeps, fresh_apart, renewed, reset_keeps, same_params, says_nothing, without_reset}
use Rattle.heap_laws.proofs.Traces.{given_stays, older_or_alias, older_or_made, unowned_stays}

-- what a call without its reset notes of its receiver
pub plain_note : (l : Locals) (a : Action) (named : Option Method) → receiver_note l a (without_reset named) ≡ receiver_note l a named
plain_note l a None = refl
plain_note l a (Some m) = refl

pub plain_interest : (named : Option Method) → HasSmallInterest named → HasSmallInterest (without_reset named)
plain_interest None small = small
plain_interest (Some m) small = small

-- an object of which more names were called goes on, whether or not it is emptied then
emptied_aside : (p : Program) (is anew : Bool) (x z : Object) → GoesOn x z → GoesOnAside anew x (if anew then emptied p is z else z)
emptied_aside p is true x z on =
    let keeps = emptied_keeps p is z in
    record {
      class = keeps.0 ∙ on.class;
      link = keeps.1 ∙ on.link;
      finished = keeps.2 ∙ on.finished;
      must = λ out. absurd (true≢false out);
      called = λ out. absurd (true≢false out);
    }
emptied_aside p is false x z on = record { class = on.class; link = on.link; finished = on.finished; must = λ out. on.must; called = λ out. on.called }

-- objects that go on so stay linked as they were
pub aside_links : (anew : ℕ → Bool) (h k : HeapContents) → EvolvesAside anew h k → KeepsLinks h k
aside_links anew h k evolves n x at = let y = evolves n x at in (y.0, y.1, y.2.link)

module _ (p : Program) (l : Locals) (a : Action) (named m : Option Method) (d : Conduct) (i : ℕ) (h : HeapContents) where
  abbrev after : HeapContents
  after = library_heap p l a named m d i h

  -- the heap that the call would leave without its reset
  abbrev pub plain : HeapContents
  plain = library_heap p l a (without_reset named) m d i h

  -- what the reset makes of object `n`
  abbrev pub turned : ℕ → Object → Object
  turned n x = reset_in p (library_called p l a named m d h) (library_roots p l a named m d h) n x

  pub back : (n : ℕ) (y : Object) → object_at after n ≡ Some y → (z : Object) × (object_at plain n ≡ Some z) × (turned n z ≡ y)
  back n y at = go (object_at plain n) refl (sym (renewed p l a named m d i h n) ∙ at)
    where
      go : (z : Option Object) → object_at plain n ≡ z → option_map (turned n) z ≡ Some y → (w : Object) × (object_at plain n ≡ Some w) × (turned n w ≡ y)
      go None before same = absurd (let never : None ≡ Some y = same in cc)
      go (Some z) before same = (z, before, (let one : turned n z ≡ y = cc in one))

  forth : (n : ℕ) (z : Object) → object_at plain n ≡ Some z → object_at after n ≡ Some (turned n z)
  forth n z at = renewed p l a named m d i h n ∙ ap (option_map (turned n)) at

  aside : (n : ℕ) (x z : Object) → GoesOn x z → GoesOnAside (is_anew p l a named m d h n) x (turned n z)
  unfolding is_anew
  aside n x z on = emptied_aside p (nat_eq (root (library_called p l a named m d h) n) n) (is_reached (library_called p l a named m d h) (library_roots p l a named m d h) n) x z on

  -- what the call makes is not created anew
  pub fresh_stays : is_anew p l a named m d h (next_number h) ≡ false
  unfolding is_anew
  fresh_stays = fresh_apart p l a named m d i h

  -- what is not reset is as it would be
  pub as_it_was : (n : ℕ) (z : Object) → is_anew p l a named m d h n ≡ false → turned n z ≡ z
  unfolding is_anew
  as_it_was n z out = rw out refl

  pub objects_go_on : EvolvesAside (is_anew p l a named m d h) h after
  objects_go_on n x at =
      let z = library_evolves p l a (without_reset named) m d i h (says_nothing named) n x at in
      (turned n z.0, forth n z.0 z.1, aside n x z.0 z.2)

  older : (n : ℕ) (z y : Object) (o : Owner) → IsOlder h n z o → turned n z ≡ y → IsOlderAside (is_anew p l a named m d h) h n y o
  older n z y o was same = record {
    before = was.before;
    at = was.at;
    goes_on = subst (λ (u : Object). GoesOnAside (is_anew p l a named m d h n) was.before u) same (aside n was.before z was.goes_on);
    owner = subst (λ (w : Owner). (w ≡ was.before.owner) ⊎ (w ≡ o))
        (sym (reset_keeps p (library_called p l a named m d h) (library_roots p l a named m d h) n z).3 ∙ ap (λ (u : Object). u.owner) same) was.owner;
  }

  -- what the call makes is not reset
  new : (n : ℕ) (z y : Object) → n ≡ next_number h → turned n z ≡ y → z ≡ y
  new n z y here same =
      let out : is_reached (library_called p l a named m d h) (library_roots p l a named m d h) n ≡ false =
      ap (is_reached (library_called p l a named m d h) (library_roots p l a named m d h)) here ∙ fresh_apart p l a named m d i h in
      let kept : turned n z ≡ z = rw out refl in
      sym kept ∙ same

  pub any_older_or_made : (n : ℕ) (y : Object) → alias_position m ≡ None → object_at after n ≡ Some y
      → IsOlderAside (is_anew p l a named m d h) h n y owners.Library ⊎ ((n ≡ next_number h) × IsMadeAs p a m i d y)
  any_older_or_made n y none at =
      let z = back n y at in
      elim (older_or_made p l a (without_reset named) m d i h n z.0 (says_nothing named) none z.1) [
        | inl was ↦ inl (older n z.0 y owners.Library was z.2)
        | inr made ↦ inr (made.0, subst (IsMadeAs p a m i d) (new n z.0 y made.0 z.2) made.1)
      ]

  pub any_older_or_alias : (n k : ℕ) (y : Object) → alias_position m ≡ Some k → object_at after n ≡ Some y
      → IsOlderAside (is_anew p l a named m d h) h n y owners.Library ⊎ ((n ≡ next_number h) × IsAliasMadeAs l a k d y)
  any_older_or_alias n k y alias at =
      let z = back n y at in
      elim (older_or_alias p l a (without_reset named) m d i h n k z.0 (says_nothing named) alias z.1) [
        | inl was ↦ inl (older n z.0 y owners.Library was z.2)
        | inr made ↦ inr (made.0, subst (IsAliasMadeAs l a k d) (new n z.0 y made.0 z.2) made.1)
      ]

  pub links_stay : HasEarlierLinks h → ((k w : ℕ) → alias_position m ≡ Some k → number_of (operand_of l a k) ≡ Some w → (0 < w) × (w < next_number h)) → HasEarlierLinks after
  links_stay links there n y link at some =
      let z = back n y at in
      let keeps = reset_keeps p (library_called p l a named m d h) (library_roots p l a named m d h) n z.0 in
      let was = library_links p l a (without_reset named) m d i h links (says_nothing named) there n z.0 link z.1 (sym keeps.1 ∙ ap (λ (u : Object). u.link) z.2 ∙ some) in
      record {
        there = was.there;
        before = was.before;
        owner = ap (λ (u : Object). u.owner) (sym z.2) ∙ keeps.3 ∙ was.owner;
        finished = ap (λ (u : Object). u.finished) (sym z.2) ∙ keeps.2 ∙ was.finished;
      }

  pub given_stay_given : (j : ℕ) (q : ParamSig) (n : ℕ) (x y : Object) → slice_get (params_in named) j ≡ Some q → q.owning ≡ true → root_of h (operand_of l a (1 + j)) ≡ Some n
      → object_at h n ≡ Some x → may_move p q.vtype x ≡ true → object_at after n ≡ Some y → y.owner ≡ owners.Library
  given_stay_given j q n x y there owning root before may at =
      let z = back n y at in
      ap (λ (u : Object). u.owner) (sym z.2)
      ∙ (reset_keeps p (library_called p l a named m d h) (library_roots p l a named m d h) n z.0).3
      ∙ given_stays p l a (without_reset named) m d i j q h n x z.0 (says_nothing named) (ap (λ (qs : List ParamSig). slice_get qs j) (same_params named) ∙ there) owning root before may z.1

  pub unmade_unowned : (n : ℕ) (y : Object) → ((k : ℕ) (x : Object) → object_at h k ≡ Some x → x.finished ≡ false → x.owner ≡ owners.Unowned)
      → object_at after n ≡ Some y → y.finished ≡ false → y.owner ≡ owners.Unowned
  unmade_unowned n y unowned at unmade =
      let z = back n y at in
      let keeps = reset_keeps p (library_called p l a named m d h) (library_roots p l a named m d h) n z.0 in
      ap (λ (u : Object). u.owner) (sym z.2) ∙ keeps.3
      ∙ unowned_stays p l a (without_reset named) m d i h n z.0 (says_nothing named) unowned z.1 (sym keeps.2 ∙ ap (λ (u : Object). u.finished) z.2 ∙ unmade)

  -- the names called on what is not reset are those that would be called
  names_stay : (n : ℕ) (y : Object) → is_anew p l a named m d h n ≡ false → object_at after n ≡ Some y → object_at plain n ≡ Some y
  names_stay n y out at = let z = back n y at in z.1 ∙ ap Some (sym (as_it_was n z.0 out) ∙ z.2)

  pub receiver_called : (note : Note) (r : ℕ) (x y : Object) → HasEarlierLinks h → HasSmallInterest named → is_anew p l a named m d h r ≡ false → has_note (receiver_note l a named) note ≡ true
      → object_at h note.object ≡ Some x → is_passed_on p note x ≡ true → Leads p h note.object r → object_at after r ≡ Some y → set.contains y.called note.name.0 ≡ true
  receiver_called note r x y links small out has before on leads at =
      called_on_root p l a (without_reset named) m d i h note r x y links (plain_interest named small) (says_nothing named) (ap (λ (ns : List Note). has_note ns note) (plain_note l a named) ∙ has)
      before on leads (names_stay r y out at)

  pub promised_called : (j : ℕ) (q : Promise) (k n o : ℕ) (x y : Object) → HasEarlierLinks h → HasSmallInterest named → is_anew p l a named m d h o ≡ false → slice_get (promises_by m d) j ≡ Some q
      → q.target ≡ promised.At k → set.contains q.names n ≡ true → n < 128 → root_of h (operand_of l a k) ≡ Some o → object_at h o ≡ Some x
      → ((w : ℕ) → operand_of l a k ≡ values.Object w → Leads p h w o) → object_at after o ≡ Some y → set.contains y.called n ≡ true
  promised_called j q k n o x y links small out there target has low holds before leads at =
      called_at p l a (without_reset named) m d i h j q k n o x y links (plain_interest named small) (says_nothing named) there target has low holds before leads (names_stay o y out at)

  pub promised_in_field : (j : ℕ) (q : Promise) (f : FieldId) (n o : ℕ) (x y : Object) → HasEarlierLinks h → HasSmallInterest named → is_anew p l a named m d h o ≡ false
      → slice_get (promises_by m d) j ≡ Some q → q.target ≡ promised.OfField f → set.contains q.names n ≡ true → n < 128 → root_of h (field_of p h (operand_of l a 0) f) ≡ Some o → object_at h o ≡ Some x
      → ((w : ℕ) → field_of p h (operand_of l a 0) f ≡ values.Object w → Leads p h w o) → object_at after o ≡ Some y → set.contains y.called n ≡ true
  promised_in_field j q f n o x y links small out there target has low holds before leads at =
      called_in_field p l a (without_reset named) m d i h j q f n o x y links (plain_interest named small) (says_nothing named) there target has low holds before leads (names_stay o y out at)

  pub emptied_at : (n : ℕ) (x y : Object) → is_anew p l a named m d h n ≡ true → object_at h n ≡ Some x → object_at after n ≡ Some y → IsEmptied p x y
  unfolding is_anew
  emptied_at n x y is before at =
      let z = library_evolves p l a (without_reset named) m d i h (says_nothing named) n x before in
      let same : turned n z.0 ≡ y = one_object (turned n z.0) y (object_at after n) (forth n z.0 z.1) at in
      let turn : turned n z.0 ≡ emptied p (nat_eq (root (library_called p l a named m d h) n) n) z.0 = rw is refl in
      subst (IsEmptied p x) (sym turn ∙ same) (by_test (nat_eq (root (library_called p l a named m d h) n) n) z.0 z.2)
    where
      by_test : (b : Bool) (w : Object) → GoesOn x w → IsEmptied p x (emptied p b w)
      by_test true w on = record { called = refl; must = inl refl }
      by_test false w on = record { called = refl; must = inr on.must }

  -- what is linked to none has the set of its class
  pub emptied_root : (n : ℕ) (x y : Object) → is_anew p l a named m d h n ≡ true → object_at h n ≡ Some x → x.link ≡ None → object_at after n ≡ Some y → y.must ≡ must_of p y.class
  unfolding is_anew
  emptied_root n x y is before unlinked at =
      let z = library_evolves p l a (without_reset named) m d i h (says_nothing named) n x before in
      let w = called_evolves p l a named m d i h n x before in
      let same : turned n z.0 ≡ y = one_object (turned n z.0) y (object_at after n) (forth n z.0 z.1) at in
      let itself : root (library_called p l a named m d h) n ≡ n = root_itself (library_called p l a named m d h) n w.0 w.1 (w.2.link ∙ unlinked) in
      let turn : turned n z.0 ≡ emptied p true z.0 = rw (is, eq-eqb (root (library_called p l a named m d h) n) n itself) refl in
      subst (λ (u : Object). u.must ≡ must_of p u.class) (sym turn ∙ same) refl
