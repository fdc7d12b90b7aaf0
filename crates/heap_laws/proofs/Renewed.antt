-- The heap after a call of the library is the one that the call would leave if its signature said nothing of a reset, but that the objects of the reached roots
-- are emptied.
use Rattle.std.proofs.Common.{◌≡◌, ◌⊎◌, inl, inr, ℕ, zero, suc, ◌+◌, Bool, true, false, not, ◌||◌, Option, Some, None, List, [], ◌∷◌, ◌++◌, length, option_map, nat_eq, refl, sym, ap, ◌∙◌, subst, true≢false, if◌then◌else◌, arith, eqb-true}
use Rattle.std.proofs.lemmas.Bool.{or_parts}
use Rattle.std.proofs.lemmas.List.Folds.{list_any-append}
use Rattle.program_model.specs.declared.kinds.ClassId.{ClassId}
use Rattle.program_model.specs.declared.program.Method.{Method}
use Rattle.program_model.specs.declared.program.Program.{Program}
use Rattle.ledger_obligations.specs.Obligations.{all_notes, emptied, finished, finished_holder, finished_in, first_set, noted_object, owner_in, reach_on, reached, reached_within, reset_in, reset_roots, stops}
use Rattle.control_actions.specs.declared.action.Action.{Action}
use Rattle.stub_conduct.specs.declared.choice.Conduct.{Conduct}
use Rattle.stub_conduct.specs.declared.choice.Conduct.TheVariants as conducts
use Rattle.ledger_state.specs.Contents.{HeapContents}
use Rattle.ledger_state.specs.Heaps.{append, change_one, follow, has_number, is_reached, link_of, linked_by, next_number, object_at, only_at, root, root_of, root_within}
use Rattle.ledger_state.specs.declared.entry.Owner.{Owner}
use Rattle.ledger_state.specs.declared.entry.Owner.TheVariants as owners
use Rattle.ledger_state.specs.declared.locals.Locals.{Locals}
use Rattle.ledger_state.specs.declared.object.Object.{Object}
use Rattle.ledger_steps.specs.LedgerCallsCalls.{arguments_moved, operand_of, params_in, position_of, reset_position, reset_target}
use Rattle.ledger_steps.specs.Conducts.{fresh_born, library_birth, library_notes, object_made, positions}
use Rattle.ledger_steps.specs.CallSteps.{library_called, library_heap, library_made, library_reset, library_roots}
use Rattle.heap_laws.proofs.HeapLaws.{changed_object_at-object, numbers_are_in_range}
use Rattle.heap_laws.proofs.ObjectLaws.{changed_count}
use Rattle.heap_laws.proofs.Counts.{birth_count}
use Rattle.ledger_state.specs.declared.value.Value.{Value}
use Rattle.ledger_state.specs.declared.value.Value.TheVariants as values
use Rattle.heap_laws.proofs.MoveLaws.{params_count, params_older}
use Rattle.heap_laws.proofs.RootLaws.{root_absent, root_itself}
use Rattle.heap_laws.proofs.Traces.{made_object, mapped_back, no_reset}

-- ---- what a reset reaches

last_number : (ks : List ℕ) (r s : ℕ) → has_number (ks ++ r ∷ []) s ≡ true → (has_number ks s ≡ true) ⊎ (s ≡ r)
last_number ks r s is = go (has_number ks s) refl (nat_eq r s) refl (sym (list_any-append (λ j. nat_eq j s) ks (r ∷ [])) ∙ is)
  where
    go : (x : Bool) → has_number ks s ≡ x → (y : Bool) → nat_eq r s ≡ y → (has_number ks s || (nat_eq r s || false)) ≡ true → (has_number ks s ≡ true) ⊎ (s ≡ r)
    go true one y two any = inl one
    go false one true two any = inr (sym (eqb-true r s two))
    go false one false two any = absurd (true≢false (sym any ∙ rw (one, two) refl))

-- all that a reset reaches is finished
reach_finished : (n : ℕ) (h : HeapContents) (seen : List ℕ) (k : ℕ) → ((s : ℕ) → has_number seen s ≡ true → finished_in (object_at h s) ≡ true)
    → (s : ℕ) → has_number (reached_within n h seen k) s ≡ true → finished_in (object_at h s) ≡ true
reach_finished zero h seen k each s is = each s is
reach_finished (suc n) h seen k each s is = go (stops h seen (root h k)) refl (λ w on has. reach_finished n h (seen ++ root h k ∷ []) w (next on) s has) is
  where
    next : stops h seen (root h k) ≡ false → (u : ℕ) → has_number (seen ++ root h k ∷ []) u ≡ true → finished_in (object_at h u) ≡ true
    next on u has = elim (last_number seen (root h k) u has) [
      | inl old ↦ each u old
      | inr here ↦ by_test u here (finished_in (object_at h (root h k))) refl (or_parts (has_number seen (root h k)) (not (finished_in (object_at h (root h k)))) on).1
    ]
      where
        by_test : (u : ℕ) → u ≡ root h k → (b : Bool) → finished_in (object_at h (root h k)) ≡ b → not (finished_in (object_at h (root h k))) ≡ false → finished_in (object_at h u) ≡ true
        by_test u here true done on' = ap (λ (v : ℕ). finished_in (object_at h v)) here ∙ done
        by_test u here false unmade on' = absurd (true≢false (ap not (sym unmade) ∙ on'))

    further : (w : Option ℕ) → stops h seen (root h k) ≡ false
        → ((w : ℕ) → stops h seen (root h k) ≡ false → has_number (reached_within n h (seen ++ root h k ∷ []) w) s ≡ true → finished_in (object_at h s) ≡ true)
        → has_number (reach_on (reached_within n h) (seen ++ root h k ∷ []) w) s ≡ true → finished_in (object_at h s) ≡ true
    further None on beyond has = next on s has
    further (Some w) on beyond has = beyond w on has

    go : (b : Bool) → stops h seen (root h k) ≡ b → ((w : ℕ) → stops h seen (root h k) ≡ false → has_number (reached_within n h (seen ++ root h k ∷ []) w) s ≡ true → finished_in (object_at h s) ≡ true)
        → has_number (if b then seen else reach_on (reached_within n h) (seen ++ root h k ∷ []) (finished_holder h (owner_in (object_at h (root h k))))) s ≡ true → finished_in (object_at h s) ≡ true
    go true at beyond has = each s has
    go false at beyond has = further (finished_holder h (owner_in (object_at h (root h k)))) at beyond has

pub roots_finished : (h : HeapContents) (k : Option ℕ) (s : ℕ) → has_number (reached h k) s ≡ true → finished_in (object_at h s) ≡ true
roots_finished h None s is = absurd (true≢false (sym is))
roots_finished h (Some k) s is = reach_finished (length h.objects + 1) h [] k (λ u has. absurd (true≢false (sym has))) s is

-- ---- one object that is reset

-- an object goes through a reset with all but its names
pub emptied_keeps : (p : Program) (is : Bool) (x : Object) → ((emptied p is x).class ≡ x.class) × ((emptied p is x).link ≡ x.link) × ((emptied p is x).finished ≡ x.finished) × ((emptied p is x).owner ≡ x.owner)
emptied_keeps p true x = (refl, refl, refl, refl)
emptied_keeps p false x = (refl, refl, refl, refl)

pub reset_keeps : (p : Program) (h : HeapContents) (roots : List ℕ) (n : ℕ) (x : Object)
    → ((reset_in p h roots n x).class ≡ x.class) × ((reset_in p h roots n x).link ≡ x.link) × ((reset_in p h roots n x).finished ≡ x.finished) × ((reset_in p h roots n x).owner ≡ x.owner)
reset_keeps p h roots n x = go (is_reached h roots n)
  where
    go : (b : Bool) → ((if b then emptied p (nat_eq (root h n) n) x else x).class ≡ x.class) × ((if b then emptied p (nat_eq (root h n) n) x else x).link ≡ x.link)
        × ((if b then emptied p (nat_eq (root h n) n) x else x).finished ≡ x.finished) × ((if b then emptied p (nat_eq (root h n) n) x else x).owner ≡ x.owner)
    go true = emptied_keeps p (nat_eq (root h n) n) x
    go false = (refl, refl, refl, refl)

-- a change of one object that the reset does not reach
pub commutes : (p : Program) (c : HeapContents) (roots : List ℕ) (k : ℕ) (f : Object → Object) (n : ℕ) → is_reached c roots k ≡ false
    → object_at (change_one k f (reset_roots p roots c)) n ≡ option_map (reset_in p c roots n) (object_at (change_one k f c) n)
commutes p c roots k f n apart =
    changed_object_at-object (only_at k f) (reset_roots p roots c) n
    ∙ ap (option_map (only_at k f n)) (changed_object_at-object (reset_in p c roots) c n)
    ∙ go (object_at c n) refl
    ∙ ap (option_map (reset_in p c roots n)) (sym (changed_object_at-object (only_at k f) c n))
  where
    one : (x : Object) (b : Bool) → object_at c n ≡ Some x → nat_eq n k ≡ b → Some (if b then f (reset_in p c roots n x) else reset_in p c roots n x) ≡ Some (reset_in p c roots n (if b then f x else x))
    one x true at here =
        let same : n ≡ k = eqb-true n k here in
        let out : is_reached c roots n ≡ false = subst (λ (j : ℕ). is_reached c roots j ≡ false) (sym same) apart in
        rw out refl
    one x false at other = refl

    go : (x : Option Object) → object_at c n ≡ x → option_map (only_at k f n) (option_map (reset_in p c roots n) x) ≡ option_map (reset_in p c roots n) (option_map (only_at k f n) x)
    go None at = refl
    go (Some x) at = one x (nat_eq n k) at refl

-- ---- the call without its reset

abbrev pub without_reset : Option Method → Option Method
without_reset None = None
without_reset (Some m) = Some (record m { sig = record m.sig { reset = None } })

pub says_nothing : (named : Option Method) → reset_position (without_reset named) ≡ None
says_nothing None = refl
says_nothing (Some m) = refl

pub same_params : (named : Option Method) → params_in (without_reset named) ≡ params_in named
same_params None = refl
same_params (Some m) = refl

same_called : (p : Program) (l : Locals) (a : Action) (named m : Option Method) (d : Conduct) (h : HeapContents) → library_called p l a (without_reset named) m d h ≡ library_called p l a named m d h
same_called p l a None m d h = refl
same_called p l a (Some named) m d h = refl

module _ (p : Program) (l : Locals) (a : Action) (named m : Option Method) (d : Conduct) (i : ℕ) (h : HeapContents) where
  abbrev called : HeapContents
  called = library_called p l a named m d h

  abbrev roots : List ℕ
  roots = library_roots p l a named m d h

  abbrev notes : HeapContents → ℕ → Object → Object
  notes made = noted_object (all_notes p made (library_notes p made l a named m (next_number h) d))

  -- the object that the call makes is not finished, and linked to none
  pub fresh : (x : Object) → object_at called (next_number h) ≡ Some x → (x.finished ≡ false) × (x.link ≡ None)
  fresh x at =
      let z = mapped_back (notes (library_made p l a named d h)) (library_made p l a named d h) (next_number h) x at in
      let is = by_conduct d z.0 z.1 in
      (ap (λ (u : Object). u.finished) (sym z.2) ∙ is.0, ap (λ (u : Object). u.link) (sym z.2) ∙ is.1)
    where
      never : (z : Object) → object_at (arguments_moved p owners.Library l a named h) (next_number h) ≡ Some z → (z.finished ≡ false) × (z.link ≡ None)
      never z there =
          let below = (numbers_are_in_range (arguments_moved p owners.Library l a named h) (next_number h) z there).1 in
          let same = params_count p owners.Library (operand_of l a) 1 (params_in named) h in
          absurd (omega (arith, below, same))

      new : (e : ClassId) (z : Object) → object_at (append (arguments_moved p owners.Library l a named h) e) (next_number h) ≡ Some z → (z.finished ≡ false) × (z.link ≡ None)
      new e z there = elim (made_object p l a named m d i h e (next_number h) z there) [
        | inl made ↦ (ap (λ (u : Object). u.finished) made.1, ap (λ (u : Object). u.link) made.1)
        | inr old ↦ absurd (old.0 refl)
      ]

      by_conduct : (c : Conduct) (z : Object) → object_at (object_made c (arguments_moved p owners.Library l a named h)) (next_number h) ≡ Some z → (z.finished ≡ false) × (z.link ≡ None)
      by_conduct conducts.Null z there = never z there
      by_conduct (conducts.Throws e) z there = new e z there
      by_conduct (conducts.Fresh e) z there = new e z there
      by_conduct c z there = never z there

  pub fresh_unfinished : finished_in (object_at called (root called (next_number h))) ≡ false
  fresh_unfinished = go (object_at called (next_number h)) refl
    where
      go : (x : Option Object) → object_at called (next_number h) ≡ x → finished_in (object_at called (root called (next_number h))) ≡ false
      go None at = ap (λ (k : ℕ). finished_in (object_at called k)) (root_absent called (next_number h) at) ∙ ap finished_in at
      go (Some x) at =
          ap (λ (k : ℕ). finished_in (object_at called k)) (root_itself called (next_number h) x at (fresh x at).1) ∙ ap finished_in at ∙ (fresh x at).0

  -- so no reset reaches it
  pub fresh_apart : is_reached called roots (next_number h) ≡ false
  fresh_apart = go (is_reached called roots (next_number h)) refl
    where
      go : (b : Bool) → is_reached called roots (next_number h) ≡ b → is_reached called roots (next_number h) ≡ false
      go false is = is
      go true is = absurd (true≢false (sym (roots_finished called (reset_target (positions l a (next_number h) d) named) (root called (next_number h)) is) ∙ fresh_unfinished))

  -- any other was there, and has its owner, or was given to the library
  pub called_back : (n : ℕ) (w : Object) → object_at called n ≡ Some w
      → ((x : Object) × (object_at h n ≡ Some x) × ((w.owner ≡ x.owner) ⊎ (w.owner ≡ owners.Library))) ⊎ (n ≡ next_number h)
  called_back n w at =
      let z = mapped_back (notes (library_made p l a named d h)) (library_made p l a named d h) n w at in
      by_conduct z.0 (ap (λ (u : Object). u.owner) (sym z.2)) d z.1
    where
      old : (z : Object) → w.owner ≡ z.owner → object_at (arguments_moved p owners.Library l a named h) n ≡ Some z
          → ((x : Object) × (object_at h n ≡ Some x) × ((w.owner ≡ x.owner) ⊎ (w.owner ≡ owners.Library))) ⊎ (n ≡ next_number h)
      old z same there =
          let was = params_older p owners.Library (operand_of l a) 1 (params_in named) h n z there in
          inl (was.before, was.at, subst (λ (o : Owner). (o ≡ was.before.owner) ⊎ (o ≡ owners.Library)) (sym same) was.owner)

      new : (e : ClassId) (z : Object) → w.owner ≡ z.owner → object_at (append (arguments_moved p owners.Library l a named h) e) n ≡ Some z
          → ((x : Object) × (object_at h n ≡ Some x) × ((w.owner ≡ x.owner) ⊎ (w.owner ≡ owners.Library))) ⊎ (n ≡ next_number h)
      new e z same there = elim (made_object p l a named m d i h e n z there) [
        | inl made ↦ inr made.0
        | inr before ↦ old z same before.1
      ]

      by_conduct : (z : Object) → w.owner ≡ z.owner → (c : Conduct) → object_at (object_made c (arguments_moved p owners.Library l a named h)) n ≡ Some z
          → ((x : Object) × (object_at h n ≡ Some x) × ((w.owner ≡ x.owner) ⊎ (w.owner ≡ owners.Library))) ⊎ (n ≡ next_number h)
      by_conduct z same conducts.Null there = old z same there
      by_conduct z same (conducts.Throws e) there = new e z same there
      by_conduct z same (conducts.Fresh e) there = new e z same there
      by_conduct z same c there = old z same there

  -- the heap that the call leaves, and the one that it would leave without its reset
  pub renewed : (n : ℕ) → object_at (library_heap p l a named m d i h) n ≡ option_map (reset_in p called roots n) (object_at (library_heap p l a (without_reset named) m d i h) n)
  renewed n = by_birth d ∙ ap (λ (g : HeapContents). option_map (reset_in p called roots n) (object_at (library_birth p l a m i (next_number h) d g) n)) (sym plain)
    where
      plain : library_reset p l a (without_reset named) m d h ≡ called
      plain = no_reset p l a (without_reset named) m d i h (says_nothing named) ∙ same_called p l a named m d h

      by_birth : (c : Conduct) → object_at (library_birth p l a m i (next_number h) c (reset_roots p roots called)) n ≡ option_map (reset_in p called roots n) (object_at (library_birth p l a m i (next_number h) c called) n)
      by_birth conducts.Null = changed_object_at-object (reset_in p called roots) called n
      by_birth (conducts.Throws e) = commutes p called roots (next_number h) (finished (first_set p e None) owners.Library) n fresh_apart
      by_birth (conducts.Fresh e) = commutes p called roots (next_number h) (fresh_born p e m a i (position_of None l a)) n fresh_apart
      by_birth c = changed_object_at-object (reset_in p called roots) called n

  -- both have the same numbers
  same_count : next_number (library_heap p l a named m d i h) ≡ next_number (library_heap p l a (without_reset named) m d i h)
  same_count =
      birth_count p l a m i (next_number h) d (library_reset p l a named m d h)
      ∙ changed_count (reset_in p called roots) called
      ∙ ap next_number (sym (no_reset p l a (without_reset named) m d i h (says_nothing named) ∙ same_called p l a named m d h))
      ∙ sym (birth_count p l a m i (next_number h) d (library_reset p l a (without_reset named) m d h))

  same_link : (n : ℕ) → link_of (object_at (library_heap p l a named m d i h) n) ≡ link_of (object_at (library_heap p l a (without_reset named) m d i h) n)
  same_link n = ap link_of (renewed n) ∙ go (object_at (library_heap p l a (without_reset named) m d i h) n)
    where
      go : (x : Option Object) → link_of (option_map (reset_in p called roots n) x) ≡ link_of x
      go None = refl
      go (Some x) = ap linked_by (reset_keeps p called roots n x).1

  same_way : (j n : ℕ) → root_within j (library_heap p l a named m d i h) n ≡ root_within j (library_heap p l a (without_reset named) m d i h) n
  same_way zero n = refl
  same_way (suc j) n =
      ap (λ (x : Option ℕ). follow (root_within j (library_heap p l a named m d i h)) n x) (same_link n)
      ∙ further (link_of (object_at (library_heap p l a (without_reset named) m d i h) n)) (λ w. same_way j w)
    where
      further : (x : Option ℕ) → ((w : ℕ) → root_within j (library_heap p l a named m d i h) w ≡ root_within j (library_heap p l a (without_reset named) m d i h) w)
          → follow (root_within j (library_heap p l a named m d i h)) n x ≡ follow (root_within j (library_heap p l a (without_reset named) m d i h)) n x
      further None same = refl
      further (Some w) same = same w

  -- so each value has the same root
  pub same_root : (v : Value) → root_of (library_heap p l a named m d i h) v ≡ root_of (library_heap p l a (without_reset named) m d i h) v
  same_root values.Nothing = refl
  same_root (values.Object n) = ap Some (ap (λ (j : ℕ). root_within j (library_heap p l a named m d i h) n) (let one = same_count in omega (arith, one)) ∙ same_way (length (library_heap p l a (without_reset named) m d i h).objects) n)
  same_root v = refl
