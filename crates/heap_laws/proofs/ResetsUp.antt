-- Of which objects a call creates the obligation anew, where fields may own objects: of what has the target's root for its root, of the finished object whose field owns that, and so on
-- upwards; for a call of the library, and for the end of a call of the program.
use Rattle.std.proofs.Common.{◌≡◌, ◌⊎◌, inl, inr, ℕ, Bool, true, false, Option, Some, None, option_map, nat_eq, refl, sym, ap, ◌∙◌, subst, true≢false, if◌then◌else◌, arith, eqb-true}
use Rattle.program_model.specs.declared.kinds.ClassId.{ClassId}
use Rattle.program_model.specs.declared.kinds.FieldId.{FieldId}
use Rattle.program_model.specs.declared.program.Method.{Method}
use Rattle.program_model.specs.declared.program.Program.{Program}
use Rattle.control_actions.specs.declared.action.Action.{Action}
use Rattle.stub_conduct.specs.declared.choice.Conduct.{Conduct}
use Rattle.stub_conduct.specs.declared.choice.Conduct.TheVariants as conducts
use Rattle.ledger_state.specs.Contents.{HeapContents}
use Rattle.ledger_state.specs.Heaps.{append, change_one, has_number, is_reached, next_number, object_at, only_at, root}
use Rattle.ledger_state.specs.declared.entry.Owner.{Owner}
use Rattle.ledger_state.specs.declared.entry.Owner.TheVariants as owners
use Rattle.ledger_state.specs.declared.locals.Locals.{Locals}
use Rattle.ledger_state.specs.declared.object.Object.{Object}
use Rattle.ledger_obligations.specs.Obligations.{all_notes, finished, finished_in, first_set, noted_object, reached}
use Rattle.ledger_steps.specs.LedgerCallsCalls.{arguments_moved, operand_of, params_in, position_of, receiver_note, reset_target}
use Rattle.ledger_steps.specs.Conducts.{fresh_born, library_birth, library_notes, object_made, positions}
use Rattle.ledger_steps.specs.CallSteps.{library_called, library_heap, library_made, library_reset, library_roots}
use Rattle.ledger_steps.specs.Ends.{returned_called, returned_roots}
use Rattle.heap_laws.specs.Heaps.{Evolves, GoesOn, HasEarlierLinks}
use Rattle.heap_laws.specs.Anew.{finished_root, is_anew, is_anew_at_end, target_root}
use Rattle.heap_laws.specs.Holders.{FieldsGoOnOwning, HoldersAreUnlinked, IsTested, IsWithin}
use Rattle.heap_laws.proofs.HeapLaws.{changed_object_at-object, evolving_heaps-links, notes_add_names-heap, notes_add_names-owner, numbers_are_in_range, roots_go_on-number}
use Rattle.heap_laws.proofs.Links.{called_evolves}
use Rattle.heap_laws.proofs.MoveLaws.{params_count}
use Rattle.heap_laws.proofs.Reached.{nothing_open, target_position}
use Rattle.heap_laws.proofs.ReachedRoots.{reached_begins, reached_goes_up, reached_is_above}
use Rattle.heap_laws.proofs.Renewed.{called_back, fresh_apart, fresh_unfinished, says_nothing, without_reset}
use Rattle.heap_laws.proofs.RootLaws.{one_object, root_absent, root_itself, root_there}
use Rattle.heap_laws.proofs.Traces.{made_object, mapped_back, no_reset}
use Rattle.heap_laws.proofs.WaysUp.{within_goes_on}

-- Of object `n` of the heap `g` a reset creates the obligation anew whose target has the root `r`: this is finished, and so is the root of `n`, in which the target's root is.
pub record IsResetUp (g : HeapContents) (target : Option ℕ) (n : ℕ) : Type 0 where
  pub start : ℕ
  pub is_target : target ≡ Some start
  pub within : IsWithin g start (root g n)
  pub finished : finished_in (object_at g (root g n)) ≡ true

-- ---- a heap in which objects of another have gone on, and fields own no more than they did

pub holders_go_on : (g c : HeapContents) → Evolves g c → FieldsGoOnOwning c g → (test : ClassId → Bool) → HoldersAreUnlinked test g → HoldersAreUnlinked test c
holders_go_on g c on from test unlinked o y w f at tested owned = let x = from o y w f at owned in by_object x.0 x.1 x.2 (on o x.0 x.1)
  where
    by_holder : (z : Object) → z.link ≡ None → test z.class ≡ true → (u : Object) × (object_at c w ≡ Some u) × GoesOn z u → (u : Object) × (object_at c w ≡ Some u) × (u.link ≡ None) × (test u.class ≡ true)
    by_holder z none tested' (u, now, goes) = (u, now, goes.link ∙ none, ap test goes.class ∙ tested')

    by_object : (x : Object) → object_at g o ≡ Some x → x.owner ≡ owners.Field w f → (u : Object) × (object_at c o ≡ Some u) × GoesOn x u → (u : Object) × (object_at c w ≡ Some u) × (u.link ≡ None) × (test u.class ≡ true)
    by_object x before had (u, still, goes) =
        let same : u.class ≡ y.class = ap (λ (v : Object). v.class) (one_object u y (object_at c o) still at) in
        let holder = unlinked o x w f before (ap test (sym goes.class ∙ same) ∙ tested) had in
        by_holder holder.0 holder.2 holder.3 (on w holder.0 holder.1)

module _ (g c : HeapContents) (links : HasEarlierLinks g) (on : Evolves g c) (from : FieldsGoOnOwning c g) (test : ClassId → Bool) (unlinked : HoldersAreUnlinked test c) where
  same_root : (n : ℕ) (x : Object) → object_at g n ≡ Some x → root c n ≡ root g n
  same_root n x at = roots_go_on-number g c n x links (evolving_heaps-links g c on) at

  -- the root of an object that was there is as finished as it was
  same_finished : (n : ℕ) (x : Object) → object_at g n ≡ Some x → finished_in (object_at c (root c n)) ≡ finished_in (object_at g (root g n))
  same_finished n x at =
      let end = root_there g n x links at in
      let now = on (root g n) end.0 end.1 in
      ap (λ (k : ℕ). finished_in (object_at c k)) (same_root n x at) ∙ ap finished_in now.1 ∙ now.2.finished ∙ sym (ap finished_in end.1)

  of_finished_root : (k : ℕ) → finished_in (object_at g (root g k)) ≡ true → finished_root g (Some k) ≡ Some (root g k)
  of_finished_root k done = rw done refl

  root_of_finished : (k r : ℕ) → finished_root g (Some k) ≡ Some r → (finished_in (object_at g (root g k)) ≡ true) × (root g k ≡ r)
  root_of_finished k r is = go (finished_in (object_at g (root g k))) refl is
    where
      go : (b : Bool) → finished_in (object_at g (root g k)) ≡ b → (if b then Some (root g k) else None) ≡ Some r → (finished_in (object_at g (root g k)) ≡ true) × (root g k ≡ r)
      go true done same = (done, let one : root g k ≡ r = (let both : Some (root g k) ≡ Some r = same in cc) in one)
      go false open' same = absurd (let never : None ≡ Some r = same in cc)

  -- the classes stay
  still_tested : (n o : ℕ) (x : Object) → object_at g n ≡ Some x → root g n ≡ o → IsTested test g o → IsTested test c o
  still_tested n o x at is tested y there =
      let end = root_there g n x links at in
      let before : object_at g o ≡ Some end.0 = ap (object_at g) (sym is) ∙ end.1 in
      let now = on o end.0 before in
      ap (λ (u : Object). test u.class) (one_object y now.0 (object_at c o) there now.1) ∙ ap test now.2.class ∙ tested end.0 before

  pub reset_is_up : (k n : ℕ) (z x : Object) → IsTested test g (root g k) → object_at g k ≡ Some z → object_at g n ≡ Some x → has_number (reached c (Some k)) (root c n) ≡ true → IsResetUp g (finished_root g (Some k)) n
  reset_is_up k n z x tested there at is = record {
    start = root g k;
    is_target = of_finished_root k (finishes (finished_in (object_at c (root c k))) refl);
    within = within_goes_on c g (root g k) (root g n) from (subst (λ (j : ℕ). IsWithin c j (root g n)) (same_root k z there) (subst (IsWithin c (root c k)) (same_root n x at) up.0));
    finished = sym (same_finished n x at) ∙ up.1;
  }
    where
      up : IsWithin c (root c k) (root c n) × (finished_in (object_at c (root c n)) ≡ true) × IsTested test c (root c n)
      up = reached_is_above c test unlinked k (root c n) (subst (IsTested test c) (sym (same_root k z there)) (still_tested k (root g k) z there refl tested)) is

      finishes : (b : Bool) → finished_in (object_at c (root c k)) ≡ b → finished_in (object_at g (root g k)) ≡ true
      finishes true done = sym (same_finished k z there) ∙ done
      finishes false open' = absurd (nothing_open c k (root c n) open' is)

  pub reset_begins : (k n r : ℕ) (z x : Object) → object_at g k ≡ Some z → object_at g n ≡ Some x → finished_root g (Some k) ≡ Some r → root g n ≡ r → has_number (reached c (Some k)) (root c n) ≡ true
  reset_begins k n r z x there at is here =
      let done = root_of_finished k r is in
      let same : root c k ≡ root c n = same_root k z there ∙ done.1 ∙ sym here ∙ sym (same_root n x at) in
      subst (λ (j : ℕ). has_number (reached c (Some k)) j ≡ true) same (reached_begins c k (same_finished k z there ∙ done.0))

  -- the object whose field owns a root
  pub reset_goes_up : (k n w : ℕ) (f : FieldId) (x y z : Object) → object_at g n ≡ Some x → x.link ≡ None → test x.class ≡ true → object_at c n ≡ Some y → y.owner ≡ owners.Field w f → object_at g w ≡ Some z → z.finished ≡ true
      → has_number (reached c (Some k)) (root c n) ≡ true → has_number (reached c (Some k)) (root c w) ≡ true
  reset_goes_up k n w f x y z before none tested at owned there done is =
      let itself' : root c n ≡ n = same_root n x before ∙ root_itself g n x before none in
      let now = on w z there in
      let still = on n x before in
      let tested' : test y.class ≡ true = ap (λ (u : Object). test u.class) (one_object y still.0 (object_at c n) at still.1) ∙ ap test still.2.class ∙ tested in
      let held = unlinked n y w f at tested' owned in
      let holder : root c w ≡ w = root_itself c w held.0 held.1 held.2 in
      ap (has_number (reached c (Some k))) holder
      ∙ reached_goes_up c test unlinked k n w f y (subst (λ (j : ℕ). has_number (reached c (Some k)) j ≡ true) itself' is) at tested' owned (ap finished_in now.1 ∙ now.2.finished ∙ done)

-- ---- a call of the library

plain_called : (p : Program) (l : Locals) (a : Action) (named m : Option Method) (d : Conduct) (h : HeapContents) → library_called p l a (without_reset named) m d h ≡ library_called p l a named m d h
plain_called p l a None m d h = refl
plain_called p l a (Some named) m d h = refl

module _ (p : Program) (l : Locals) (a : Action) (named m : Option Method) (d : Conduct) (h : HeapContents) where
  abbrev called : HeapContents
  called = library_called p l a named m d h

  abbrev notes : HeapContents → ℕ → Object → Object
  notes made = noted_object (all_notes p made (library_notes p made l a named m (next_number h) d))

  -- nobody owns yet what the call makes
  fresh_unowned : (x : Object) → object_at called (next_number h) ≡ Some x → x.owner ≡ owners.Unowned
  fresh_unowned x at =
      let z = mapped_back (notes (library_made p l a named d h)) (library_made p l a named d h) (next_number h) x at in
      ap (λ (u : Object). u.owner) (sym z.2) ∙ by_conduct d z.0 z.1
    where
      never : (z : Object) → object_at (arguments_moved p owners.Library l a named h) (next_number h) ≡ Some z → z.owner ≡ owners.Unowned
      never z there =
          let below = (numbers_are_in_range (arguments_moved p owners.Library l a named h) (next_number h) z there).1 in
          let same = params_count p owners.Library (operand_of l a) 1 (params_in named) h in
          absurd (omega (arith, below, same))

      new : (e : ClassId) (z : Object) → object_at (append (arguments_moved p owners.Library l a named h) e) (next_number h) ≡ Some z → z.owner ≡ owners.Unowned
      new e z there = elim (made_object p l a named m d 0 h e (next_number h) z there) [
        | inl made ↦ ap (λ (u : Object). u.owner) made.1
        | inr old ↦ absurd (old.0 refl)
      ]

      by_conduct : (c : Conduct) (z : Object) → object_at (object_made c (arguments_moved p owners.Library l a named h)) (next_number h) ≡ Some z → z.owner ≡ owners.Unowned
      by_conduct conducts.Null z there = never z there
      by_conduct (conducts.Throws e) z there = new e z there
      by_conduct (conducts.Fresh e) z there = new e z there
      by_conduct c z there = never z there

  -- when the call is noted, fields own no more than they did
  pub called_owns_no_more : FieldsGoOnOwning called h
  called_owns_no_more o y w f at owned = elim (called_back p l a named m d 0 h o y at) [
    | inl was ↦ elim was.2 [
      | inl stays ↦ (was.0, was.1, sym stays ∙ owned)
      | inr given ↦ absurd (let never : ◌≡◌ {A = Owner} owners.Library (owners.Field w f) = sym given ∙ owned in cc)
    ]
    | inr made ↦ absurd (let never : ◌≡◌ {A = Owner} owners.Unowned (owners.Field w f) = sym (fresh_unowned y (ap (object_at called) (sym made) ∙ at)) ∙ owned in cc)
  ]

  -- and the holders are linked to none
  pub called_holders : (test : ClassId → Bool) → HoldersAreUnlinked test h → HoldersAreUnlinked test called
  called_holders test = holders_go_on h called (called_evolves p l a named m d 0 h) called_owns_no_more test

  module _ (links : HasEarlierLinks h) (test : ClassId → Bool) (unlinked : HoldersAreUnlinked test h) where
    on : Evolves h called
    on = called_evolves p l a named m d 0 h

    -- the class of the target's root passes the test
    abbrev pub IsTestedTarget : Type 0
    IsTestedTarget = (k : ℕ) → reset_target (operand_of l a) named ≡ Some k → IsTested test h (root h k)

    -- what was not there is not finished
    not_there : (k : ℕ) → object_at h k ≡ None → finished_in (object_at called (root called k)) ≡ false
    not_there k none = go (object_at called k) refl
      where
        go : (w : Option Object) → object_at called k ≡ w → finished_in (object_at called (root called k)) ≡ false
        go None now = ap (λ (j : ℕ). finished_in (object_at called j)) (root_absent called k now) ∙ ap finished_in now
        go (Some w) now = elim (called_back p l a named m d 0 h k w now) [
          | inl was ↦ absurd (let never : None ≡ Some was.0 = sym none ∙ was.1 in cc)
          | inr made ↦ ap (λ (j : ℕ). finished_in (object_at called (root called j))) made ∙ fresh_unfinished p l a named m d 0 h
        ]

    -- of what the call creates the obligation anew, its root is finished, and the target's root is within it
    pub anew_is_up : (n : ℕ) (x : Object) → IsTestedTarget → object_at h n ≡ Some x → is_anew p l a named m d h n ≡ true → IsResetUp h (target_root h l a named) n
    unfolding is_anew
    anew_is_up n x tested at is = go (reset_target (positions l a (next_number h) d) named) refl is
      where
        old : (k : ℕ) → reset_target (operand_of l a) named ≡ Some k → has_number (reached called (Some k)) (root called n) ≡ true → (z : Option Object) → object_at h k ≡ z → IsResetUp h (target_root h l a named) n
        old k target has (Some z) there =
            subst (λ (t : Option ℕ). IsResetUp h t n) (ap (finished_root h) (sym target)) (reset_is_up h called links on called_owns_no_more test (called_holders test unlinked) k n z x (tested k target) there at has)
        old k target has None none = absurd (nothing_open called k (root called n) (not_there k none) has)

        go : (t : Option ℕ) → reset_target (positions l a (next_number h) d) named ≡ t → has_number (reached called t) (root called n) ≡ true → IsResetUp h (target_root h l a named) n
        go None target has = absurd (true≢false (sym has))
        go (Some k) target has = elim (target_position l a named (next_number h) d k target) [
          | inl operand ↦ old k operand has (object_at h k) refl
          | inr made ↦ absurd (nothing_open called k (root called n) (ap (λ (j : ℕ). finished_in (object_at called (root called j))) made ∙ fresh_unfinished p l a named m d 0 h) has)
        ]

    -- with what a field of a finished object owns it does so of that object
    pub anew_goes_up : (n w : ℕ) (f : FieldId) (x y z : Object) → object_at h n ≡ Some x → x.link ≡ None → test x.class ≡ true → object_at called n ≡ Some y → y.owner ≡ owners.Field w f → object_at h w ≡ Some z → z.finished ≡ true
        → is_anew p l a named m d h n ≡ true → is_anew p l a named m d h w ≡ true
    unfolding is_anew
    anew_goes_up n w f x y z before none tested at owned there done is = go (reset_target (positions l a (next_number h) d) named) is
      where
        go : (t : Option ℕ) → has_number (reached called t) (root called n) ≡ true → has_number (reached called t) (root called w) ≡ true
        go None has = absurd (true≢false (sym has))
        go (Some k) has = reset_goes_up h called links on called_owns_no_more test (called_holders test unlinked) k n w f x y z before none tested at owned there done has

    -- what has a reset root for its root is of a class that passes the test, where that of the target is
    tested_anew : (n : ℕ) (y : Object) → IsTestedTarget → is_reached called (library_roots p l a named m d h) n ≡ true → object_at called n ≡ Some y → y.link ≡ None → test y.class ≡ true
    tested_anew n y tested is at none = go (reset_target (positions l a (next_number h) d) named) refl is
      where
        itself' : root called n ≡ n
        itself' = root_itself called n y at none

        old : (k : ℕ) → reset_target (operand_of l a) named ≡ Some k → has_number (reached called (Some k)) (root called n) ≡ true → (z : Option Object) → object_at h k ≡ z → test y.class ≡ true
        old k target has (Some z) there =
            let up = reached_is_above called test (called_holders test unlinked) k (root called n)
            (subst (IsTested test called) (sym (same_root h called links on called_owns_no_more test (called_holders test unlinked) k z there))
            (still_tested h called links on called_owns_no_more test (called_holders test unlinked) k (root h k) z there refl (tested k target))) has in
            up.2 y (ap (object_at called) itself' ∙ at)
        old k target has None none' = absurd (nothing_open called k (root called n) (not_there k none') has)

        go : (t : Option ℕ) → reset_target (positions l a (next_number h) d) named ≡ t → has_number (reached called t) (root called n) ≡ true → test y.class ≡ true
        go None target has = absurd (true≢false (sym has))
        go (Some k) target has = elim (target_position l a named (next_number h) d k target) [
          | inl operand ↦ old k operand has (object_at h k) refl
          | inr made ↦ absurd (nothing_open called k (root called n) (ap (λ (j : ℕ). finished_in (object_at called (root called j))) made ∙ fresh_unfinished p l a named m d 0 h) has)
        ]

    module _ (i : ℕ) where
      -- the heap that the call would leave without its reset
      abbrev without : HeapContents
      without = library_heap p l a (without_reset named) m d i h

      -- but for what it makes, it is the heap when the call is noted
      without_at : (n : ℕ) → (n ≡ next_number h → ⊥) → object_at without n ≡ object_at called n
      without_at n other = by_birth d ∙ ap (λ (g : HeapContents). object_at g n) (no_reset p l a (without_reset named) m d i h (says_nothing named) ∙ plain_called p l a named m d h)
        where
          elsewhere : (j : HeapContents) (b : Object → Object) → object_at (change_one (next_number h) b j) n ≡ object_at j n
          elsewhere j b = changed_object_at-object (only_at (next_number h) b) j n ∙ go (object_at j n) (nat_eq n (next_number h)) refl
            where
              go : (x : Option Object) (c : Bool) → nat_eq n (next_number h) ≡ c → option_map (only_at (next_number h) b n) x ≡ x
              go None c is = refl
              go (Some x) true is = absurd (other (eqb-true n (next_number h) is))
              go (Some x) false is = rw is refl

          by_birth : (c : Conduct)
              → object_at (library_birth p l a m i (next_number h) c (library_reset p l a (without_reset named) m d h)) n ≡ object_at (library_reset p l a (without_reset named) m d h) n
          by_birth conducts.Null = refl
          by_birth (conducts.Throws e) = elsewhere (library_reset p l a (without_reset named) m d h) (finished (first_set p e None) owners.Library)
          by_birth (conducts.Fresh e) = elsewhere (library_reset p l a (without_reset named) m d h) (fresh_born p e m a i (position_of None l a))
          by_birth c = refl

      -- with each root that the reset reaches it reaches the object whose field owns it, where that is finished
      pub library_reset_rises : IsTestedTarget → (n w : ℕ) (f : FieldId) (x : Object) → object_at without n ≡ Some x → is_reached called (library_roots p l a named m d h) n ≡ true → x.link ≡ None → x.owner ≡ owners.Field w f
          → (finished_in (object_at without w) ≡ false) ⊎ (is_reached called (library_roots p l a named m d h) w ≡ true)
      unfolding is_anew
      library_reset_rises tested n w f x at is none owned = go (finished_in (object_at without w)) refl
        where
          other : n ≡ next_number h → ⊥
          other here = true≢false (sym is ∙ ap (is_reached called (library_roots p l a named m d h)) here ∙ fresh_apart p l a named m d i h)

          now : object_at called n ≡ Some x
          now = sym (without_at n other) ∙ at

          test_x : test x.class ≡ true
          test_x = tested_anew n x tested is now none

          was : (u : Object) × (object_at h n ≡ Some u) × (u.owner ≡ owners.Field w f)
          was = called_owns_no_more n x w f now owned

          still : (u : Object) × (object_at called n ≡ Some u) × GoesOn was.0 u
          still = on n was.0 was.1

          same : still.0 ≡ x
          same = one_object still.0 x (object_at called n) still.1 now

          test_was : test was.0.class ≡ true
          test_was = ap test (sym still.2.class ∙ ap (λ (u : Object). u.class) same) ∙ test_x

          holder : (z : Object) × (object_at h w ≡ Some z) × (z.link ≡ None) × (test z.class ≡ true)
          holder = unlinked n was.0 w f was.1 test_was was.2

          holder_old : w ≡ next_number h → ⊥
          holder_old here = let below = (numbers_are_in_range h w holder.0 holder.1).1 in omega (arith, below, here)

          go : (b : Bool) → finished_in (object_at without w) ≡ b → (finished_in (object_at without w) ≡ false) ⊎ (is_reached called (library_roots p l a named m d h) w ≡ true)
          go false open' = inl open'
          go true done =
              let later = on w holder.0 holder.1 in
              let finished' : holder.0.finished ≡ true = sym later.2.finished ∙ (sym (ap finished_in later.1) ∙ (sym (ap finished_in (without_at w holder_old)) ∙ done)) in
              inr (anew_goes_up n w f was.0 x holder.0 was.1 (sym still.2.link ∙ ap (λ (u : Object). u.link) same ∙ none) test_was now owned holder.1 finished' is)

-- ---- the end of a call of the program

module _ (p : Program) (l : Locals) (a : Action) (named : Option Method) (g : HeapContents) where
  abbrev end_called : HeapContents
  end_called = returned_called p l a named g

  abbrev end_notes : ℕ → Object → Object
  end_notes = noted_object (all_notes p g (receiver_note l a named))

  end_on : Evolves g end_called
  end_on = notes_add_names-heap p (receiver_note l a named) g

  -- each object has the owner that it had
  end_back : (n : ℕ) (y : Object) → object_at end_called n ≡ Some y → (x : Object) × (object_at g n ≡ Some x) × (y.owner ≡ x.owner) × (y.link ≡ x.link)
  end_back n y at =
      let x = mapped_back end_notes g n y at in
      (x.0, x.1, ap (λ (u : Object). u.owner) (sym x.2) ∙ notes_add_names-owner (all_notes p g (receiver_note l a named)) n x.0, ap (λ (u : Object). u.link) (sym x.2))

  pub end_owns_no_more : FieldsGoOnOwning end_called g
  end_owns_no_more o y w f at owned = let x = end_back o y at in (x.0, x.1, sym x.2 ∙ owned)

  pub end_holders : (test : ClassId → Bool) → HoldersAreUnlinked test g → HoldersAreUnlinked test end_called
  end_holders test = holders_go_on g end_called end_on end_owns_no_more test

  module _ (links : HasEarlierLinks g) (test : ClassId → Bool) (unlinked : HoldersAreUnlinked test g) where
    -- what was not there is not finished
    not_there_at_end : (k : ℕ) → object_at g k ≡ None → finished_in (object_at end_called (root end_called k)) ≡ false
    not_there_at_end k none = go (object_at end_called k) refl
      where
        go : (w : Option Object) → object_at end_called k ≡ w → finished_in (object_at end_called (root end_called k)) ≡ false
        go None now = ap (λ (j : ℕ). finished_in (object_at end_called j)) (root_absent end_called k now) ∙ ap finished_in now
        go (Some w) now = let was = end_back k w now in absurd (let never : None ≡ Some was.0 = sym none ∙ was.1 in cc)

    abbrev pub IsTestedEndTarget : Type 0
    IsTestedEndTarget = (k : ℕ) → reset_target (operand_of l a) named ≡ Some k → IsTested test g (root g k)

    pub end_is_up : (n : ℕ) (x : Object) → IsTestedEndTarget → object_at g n ≡ Some x → is_anew_at_end p l a named g n ≡ true → IsResetUp g (target_root g l a named) n
    unfolding is_anew_at_end
    end_is_up n x tested at is = go (reset_target (operand_of l a) named) refl is
      where
        old : (k : ℕ) → reset_target (operand_of l a) named ≡ Some k → has_number (reached end_called (Some k)) (root end_called n) ≡ true → (z : Option Object) → object_at g k ≡ z → IsResetUp g (target_root g l a named) n
        old k target has (Some z) there =
            subst (λ (t : Option ℕ). IsResetUp g t n) (ap (finished_root g) (sym target)) (reset_is_up g end_called links end_on end_owns_no_more test (end_holders test unlinked) k n z x (tested k target) there at has)
        old k target has None none = absurd (nothing_open end_called k (root end_called n) (not_there_at_end k none) has)

        go : (t : Option ℕ) → reset_target (operand_of l a) named ≡ t → has_number (reached end_called t) (root end_called n) ≡ true → IsResetUp g (target_root g l a named) n
        go None target has = absurd (true≢false (sym has))
        go (Some k) target has = old k target has (object_at g k) refl

    -- the target's root, where it is finished
    pub end_begins : (n r : ℕ) (x : Object) → object_at g n ≡ Some x → target_root g l a named ≡ Some r → root g n ≡ r → is_anew_at_end p l a named g n ≡ true
    unfolding is_anew_at_end
    end_begins n r x at is here = go (reset_target (operand_of l a) named) is
      where
        there : (k : ℕ) → finished_root g (Some k) ≡ Some r → (z : Option Object) → object_at g k ≡ z → has_number (reached end_called (Some k)) (root end_called n) ≡ true
        there k is' (Some z) at' = reset_begins g end_called links end_on end_owns_no_more test (end_holders test unlinked) k n r z x at' at is' here
        there k is' None none = absurd (let same : finished_root g (Some k) ≡ None = rw (root_absent g k none, none) refl in let never : None ≡ Some r = sym same ∙ is' in cc)

        go : (t : Option ℕ) → finished_root g t ≡ Some r → has_number (reached end_called t) (root end_called n) ≡ true
        go None is' = absurd (let never : None ≡ Some r = is' in cc)
        go (Some k) is' = there k is' (object_at g k) refl

    pub end_goes_up : (n w : ℕ) (f : FieldId) (x z : Object) → object_at g n ≡ Some x → x.link ≡ None → test x.class ≡ true → x.owner ≡ owners.Field w f → object_at g w ≡ Some z → z.finished ≡ true
        → is_anew_at_end p l a named g n ≡ true → is_anew_at_end p l a named g w ≡ true
    unfolding is_anew_at_end
    end_goes_up n w f x z before none tested owned there done is = go (reset_target (operand_of l a) named) is
      where
        y : (y : Object) × (object_at end_called n ≡ Some y)
        y = let now = end_on n x before in (now.0, now.1)

        held : y.0.owner ≡ owners.Field w f
        held = let was = end_back n y.0 y.1 in was.2 ∙ ap (λ (u : Object). u.owner) (one_object was.0 x (object_at g n) was.1 before) ∙ owned

        go : (t : Option ℕ) → has_number (reached end_called t) (root end_called n) ≡ true → has_number (reached end_called t) (root end_called w) ≡ true
        go None has = absurd (true≢false (sym has))
        go (Some k) has = reset_goes_up g end_called links end_on end_owns_no_more test (end_holders test unlinked) k n w f x y.0 z before none tested y.1 held there done has

    tested_at_end : (n : ℕ) (y : Object) → IsTestedEndTarget → is_reached end_called (returned_roots p l a named g) n ≡ true → object_at end_called n ≡ Some y → y.link ≡ None → test y.class ≡ true
    tested_at_end n y tested is at none = go (reset_target (operand_of l a) named) refl is
      where
        itself' : root end_called n ≡ n
        itself' = root_itself end_called n y at none

        old : (k : ℕ) → reset_target (operand_of l a) named ≡ Some k → has_number (reached end_called (Some k)) (root end_called n) ≡ true → (z : Option Object) → object_at g k ≡ z → test y.class ≡ true
        old k target has (Some z) there =
            let up = reached_is_above end_called test (end_holders test unlinked) k (root end_called n)
            (subst (IsTested test end_called) (sym (same_root g end_called links end_on end_owns_no_more test (end_holders test unlinked) k z there))
            (still_tested g end_called links end_on end_owns_no_more test (end_holders test unlinked) k (root g k) z there refl (tested k target))) has in
            up.2 y (ap (object_at end_called) itself' ∙ at)
        old k target has None none' = absurd (nothing_open end_called k (root end_called n) (not_there_at_end k none') has)

        go : (t : Option ℕ) → reset_target (operand_of l a) named ≡ t → has_number (reached end_called t) (root end_called n) ≡ true → test y.class ≡ true
        go None target has = absurd (true≢false (sym has))
        go (Some k) target has = old k target has (object_at g k) refl

    -- with each root that the reset reaches it reaches the object whose field owns it, where that was finished when the frame had gone
    pub end_reset_rises : IsTestedEndTarget → (n w : ℕ) (f : FieldId) (x : Object) → object_at end_called n ≡ Some x → is_reached end_called (returned_roots p l a named g) n ≡ true → x.link ≡ None → x.owner ≡ owners.Field w f
        → (finished_in (object_at g w) ≡ false) ⊎ (is_reached end_called (returned_roots p l a named g) w ≡ true)
    unfolding is_anew_at_end
    end_reset_rises tested n w f x at is none owned = go (finished_in (object_at g w)) refl
      where
        test_x : test x.class ≡ true
        test_x = tested_at_end n x tested is at none

        was : (u : Object) × (object_at g n ≡ Some u) × (x.owner ≡ u.owner) × (x.link ≡ u.link)
        was = end_back n x at

        still : (u : Object) × (object_at end_called n ≡ Some u) × GoesOn was.0 u
        still = end_on n was.0 was.1

        test_was : test was.0.class ≡ true
        test_was = ap test (sym still.2.class ∙ ap (λ (u : Object). u.class) (one_object still.0 x (object_at end_called n) still.1 at)) ∙ test_x

        holder : (z : Object) × (object_at g w ≡ Some z) × (z.link ≡ None) × (test z.class ≡ true)
        holder = unlinked n was.0 w f was.1 test_was (sym was.2 ∙ owned)

        go : (b : Bool) → finished_in (object_at g w) ≡ b → (finished_in (object_at g w) ≡ false) ⊎ (is_reached end_called (returned_roots p l a named g) w ≡ true)
        go false open' = inl open'
        go true done = inr (end_goes_up n w f was.0 holder.0 was.1 (sym was.3 ∙ none) test_was (sym was.2 ∙ owned) holder.1 (sym (ap finished_in holder.1) ∙ done) is)
