-- The heap at the end of a program's call is the one that the end would leave if the signature said nothing of a reset, but that the objects of the reached
-- roots are emptied; and those are the root of the target alone, where no field of a finished object owns it.
use Rattle.std.proofs.Common.{◌≡◌, ℕ, Bool, true, false, Option, Some, None, List, option_map, nat_eq, refl, sym, ap, ◌∙◌, true≢false, if◌then◌else◌}
use Rattle.program_model.specs.declared.kinds.ClassId.{ClassId}
use Rattle.program_model.specs.declared.program.Method.{Method}
use Rattle.program_model.specs.declared.program.Program.{Program}
use Rattle.control_actions.specs.declared.action.Action.{Action}
use Rattle.control_actions.specs.declared.action.Action.TheVariants as actions
use Rattle.ledger_state.specs.Contents.{HeapContents}
use Rattle.ledger_state.specs.Heaps.{has_number, is_reached, object_at, only_at, root}
use Rattle.ledger_state.specs.Values.{number_of}
use Rattle.ledger_state.specs.declared.locals.Locals.{Locals}
use Rattle.ledger_state.specs.declared.object.Object.{Object}
use Rattle.ledger_state.specs.declared.value.Value.{Value}
use Rattle.ledger_obligations.specs.Obligations.{all_notes, finished_holder, finished_in, noted_object, owner_in, reached, reset_in, reset_roots}
use Rattle.ledger_steps.specs.LedgerCallsCalls.{alias_position, alias_target, operand_of, receiver_note, reset_target}
use Rattle.ledger_steps.specs.Ends.{call_ended, finished_by_new, object_finished, program_birth, returned_called, returned_reset, returned_roots, self_finished}
use Rattle.heap_laws.specs.Heaps.{GoesOn, HasEarlierLinks}
use Rattle.heap_laws.specs.Anew.{HasNoHolder, finished_root, is_anew_at_end, target_root}
use Rattle.heap_laws.specs.ProgramCalls.{is_new}
use Rattle.heap_laws.proofs.HeapLaws.{changed_object_at-object, evolving_heaps-links, notes_add_names-heap, notes_add_names-owner, roots_go_on-number}
use Rattle.heap_laws.proofs.ObjectLaws.{changed_count}
use Rattle.heap_laws.proofs.Reached.{StaysUnfinished, alone, holder_stays, nothing_open}
use Rattle.heap_laws.proofs.Renewed.{commutes, roots_finished, says_nothing, without_reset}
use Rattle.heap_laws.proofs.ResetHeaps.{IsResetOf}
use Rattle.heap_laws.proofs.Returned.{birth_count, end_count, reset_nothing}
use Rattle.heap_laws.proofs.RootLaws.{root_absent, root_itself, root_there}
use Rattle.heap_laws.proofs.Traces.{mapped_back}

-- a signature without its reset has the same aliased argument
pub plain_alias_position : (m : Option Method) → alias_position (without_reset m) ≡ alias_position m
plain_alias_position None = refl
plain_alias_position (Some m) = refl

module _ (p : Program) (i : ℕ) (self : Value) (l : Locals) (a : Action) (named : Option Method) (e : Option ClassId) (g : HeapContents) where
  abbrev pub called : HeapContents
  called = returned_called p l a named g

  abbrev pub roots : List ℕ
  roots = returned_roots p l a named g

  abbrev aliased : Option ℕ
  aliased = alias_target (operand_of l a) named

  -- what is noted of the receiver
  abbrev notes : ℕ → Object → Object
  notes = noted_object (all_notes p g (receiver_note l a named))

  -- the call without its reset
  plain_reset : returned_reset p l a (without_reset named) g ≡ called
  plain_reset = reset_nothing p i self l a (without_reset named) g (says_nothing named) ∙ go named
    where
      go : (m : Option Method) → returned_called p l a (without_reset m) g ≡ returned_called p l a m g
      go None = refl
      go (Some m) = refl

  plain_finish : (m : Option Method) (x : Object) → object_finished p i (without_reset m) (alias_target (operand_of l a) (without_reset m)) x ≡ object_finished p i m (alias_target (operand_of l a) m) x
  plain_finish None x = refl
  plain_finish (Some m) x = refl

  -- an object when the `new` has finished its own
  plain_birth : (k : HeapContents) (n : ℕ)
      → object_at (program_birth p i a (without_reset named) (number_of self) (alias_target (operand_of l a) (without_reset named)) e k) n ≡ object_at (program_birth p i a named (number_of self) aliased e k) n
  plain_birth k n = by_end e
    where
      one : (w : ℕ) (x : Option Object) → option_map (only_at w (object_finished p i (without_reset named) (alias_target (operand_of l a) (without_reset named))) n) x ≡ option_map (only_at w (object_finished p i named aliased) n) x
      one w None = refl
      one w (Some x) = ap (λ (y : Object). Some (if nat_eq n w then y else x)) (plain_finish named x)

      by_self : (w : Option ℕ) → object_at (self_finished p i (without_reset named) w (alias_target (operand_of l a) (without_reset named)) k) n ≡ object_at (self_finished p i named w aliased k) n
      by_self None = refl
      by_self (Some w) =
          changed_object_at-object (only_at w (object_finished p i (without_reset named) (alias_target (operand_of l a) (without_reset named)))) k n ∙ one w (object_at k n)
          ∙ sym (changed_object_at-object (only_at w (object_finished p i named aliased)) k n)

      by_action : (b : Action)
          → object_at (finished_by_new p i b (without_reset named) (number_of self) (alias_target (operand_of l a) (without_reset named)) k) n ≡ object_at (finished_by_new p i b named (number_of self) aliased k) n
      by_action actions.Skip = refl
      by_action (actions.New m d c) = by_self (number_of self)
      by_action b = refl

      by_end : (x : Option ClassId)
          → object_at (program_birth p i a (without_reset named) (number_of self) (alias_target (operand_of l a) (without_reset named)) x k) n ≡ object_at (program_birth p i a named (number_of self) aliased x k) n
      by_end None = by_action a
      by_end (Some c) = refl

  plain_end : (n : ℕ) → object_at (call_ended p i self l a (without_reset named) e g) n ≡ object_at (program_birth p i a named (number_of self) aliased e called) n
  plain_end n =
      ap (λ (k : HeapContents). object_at (program_birth p i a (without_reset named) (number_of self) (alias_target (operand_of l a) (without_reset named)) e k) n) plain_reset ∙ plain_birth called n

  -- object `n` of the first heap is that of the second, but for the reset
  abbrev pub IsTurnedAt : ℕ → HeapContents → HeapContents → Type 0
  IsTurnedAt n j k = object_at j n ≡ option_map (reset_in p called roots n) (object_at k n)

  -- the object of a `new` is not finished yet, and linked to none
  module _ (made : (w : ℕ) (x : Object) → is_new a ≡ true → number_of self ≡ Some w → object_at g w ≡ Some x → (x.finished ≡ false) × (x.link ≡ None)) where
    -- so no reset reaches it
    unfinished_root : (w : ℕ) → is_new a ≡ true → number_of self ≡ Some w → finished_in (object_at called (root called w)) ≡ false
    unfinished_root w new is = go (object_at called w) refl
      where
        go : (x : Option Object) → object_at called w ≡ x → finished_in (object_at called (root called w)) ≡ false
        go None at = ap (λ (k : ℕ). finished_in (object_at called k)) (root_absent called w at) ∙ ap finished_in at
        go (Some x) at =
            let z = mapped_back notes g w x at in
            let free = made w z.0 new is z.1 in
            ap (λ (k : ℕ). finished_in (object_at called k)) (root_itself called w x at (ap (λ (u : Object). u.link) (sym z.2) ∙ free.1)) ∙ ap finished_in at
            ∙ ap (λ (u : Object). u.finished) (sym z.2) ∙ free.0

    pub made_apart : (w : ℕ) → is_new a ≡ true → number_of self ≡ Some w → is_reached called roots w ≡ false
    made_apart w new is = go (is_reached called roots w) refl
      where
        go : (b : Bool) → is_reached called roots w ≡ b → is_reached called roots w ≡ false
        go false out = out
        go true in' = absurd (true≢false (sym (roots_finished called (reset_target (operand_of l a) named) (root called w) in') ∙ unfinished_root w new is))

    -- the heap that the end leaves, and the one that it would leave without the reset
    pub renewed_at_end : IsResetOf p called roots (call_ended p i self l a (without_reset named) e g) (call_ended p i self l a named e g)
    renewed_at_end = record {
      count =
          birth_count p i a named e (number_of self) aliased (reset_roots p roots called) ∙ changed_count (reset_in p called roots) called ∙ sym (end_count p i self l a (without_reset named) g (says_nothing named) e ∙ sym (changed_count notes g));
      objects = λ n. by_end e refl n ∙ ap (option_map (reset_in p called roots n)) (sym (plain_end n));
    }
      where
        by_self : (w : Option ℕ) → number_of self ≡ w → is_new a ≡ true → (n : ℕ) → IsTurnedAt n (self_finished p i named w aliased (reset_roots p roots called)) (self_finished p i named w aliased called)
        by_self None is new n = changed_object_at-object (reset_in p called roots) called n
        by_self (Some w) is new n = commutes p called roots w (object_finished p i named aliased) n (made_apart w new is)

        by_action : (b : Action) → a ≡ b → (n : ℕ) → IsTurnedAt n (finished_by_new p i b named (number_of self) aliased (reset_roots p roots called)) (finished_by_new p i b named (number_of self) aliased called)
        by_action actions.Skip is n = changed_object_at-object (reset_in p called roots) called n
        by_action (actions.New m d c) is n = by_self (number_of self) refl (ap is_new is) n
        by_action b is n = changed_object_at-object (reset_in p called roots) called n

        by_end : (x : Option ClassId) → e ≡ x → (n : ℕ) → IsTurnedAt n (program_birth p i a named (number_of self) aliased x (reset_roots p roots called)) (program_birth p i a named (number_of self) aliased x called)
        by_end None is n = by_action a refl n
        by_end (Some c) is n = changed_object_at-object (reset_in p called roots) called n

-- which objects the reset reaches, where no field of a finished object owns the root of its target
module _ (p : Program) (l : Locals) (a : Action) (named : Option Method) (g : HeapContents) (links : HasEarlierLinks g) (free : HasNoHolder g (target_root g l a named)) (n : ℕ) (x : Object) (at : object_at g n ≡ Some x) where
  abbrev end_called : HeapContents
  end_called = returned_called p l a named g

  abbrev end_notes : ℕ → Object → Object
  end_notes = noted_object (all_notes p g (receiver_note l a named))

  -- an object that was there keeps its root
  same_root : (k : ℕ) (z : Object) → object_at g k ≡ Some z → root end_called k ≡ root g k
  same_root k z before = roots_go_on-number g end_called k z links (evolving_heaps-links g end_called (notes_add_names-heap p (receiver_note l a named) g)) before

  unfinished_then : StaysUnfinished g end_called
  unfinished_then w unmade = go (object_at end_called w) refl
    where
      old : (z : Object) → object_at g w ≡ Some z → finished_in (object_at end_called w) ≡ false
      old z before = let y = notes_add_names-heap p (receiver_note l a named) g w z before in ap finished_in y.1 ∙ y.2.finished ∙ (sym (ap finished_in before) ∙ unmade)

      go : (y : Option Object) → object_at end_called w ≡ y → finished_in (object_at end_called w) ≡ false
      go None now = ap finished_in now
      go (Some y) now = let was = mapped_back end_notes g w y now in old was.0 was.1

  there : (k : ℕ) (z : Object) → object_at g k ≡ Some z → reset_target (operand_of l a) named ≡ Some k → has_number (reached end_called (Some k)) (root end_called n) ≡ true
      → target_root g l a named ≡ Some (root g n)
  there k z before target is = go end.0.finished refl
    where
      end : (e : Object) × (object_at g (root g k) ≡ Some e) × (e.link ≡ None)
      end = root_there g k z links before

      now : (w : Object) × (object_at end_called (root g k) ≡ Some w) × GoesOn end.0 w
      now = notes_add_names-heap p (receiver_note l a named) g (root g k) end.0 end.1

      here : object_at end_called (root end_called k) ≡ Some now.0
      here = ap (object_at end_called) (same_root k z before) ∙ now.1

      finishes : finished_in (object_at end_called (root end_called k)) ≡ end.0.finished
      finishes = ap finished_in here ∙ now.2.finished

      go : (b : Bool) → end.0.finished ≡ b → target_root g l a named ≡ Some (root g n)
      go false unmade = absurd (nothing_open end_called k (root end_called n) (finishes ∙ unmade) is)
      go true done =
          is_root ∙ ap Some (sym (same_root k z before) ∙ sym (alone end_called k (root end_called n) (finishes ∙ done)
          (ap (λ (o : Option Object). finished_holder end_called (owner_in o)) here ∙ held) is) ∙ same_root n x at)
        where
          is_root : target_root g l a named ≡ Some (root g k)
          is_root = ap (finished_root g) target ∙ rw (ap finished_in end.1 ∙ done) refl

          held : finished_holder end_called now.0.owner ≡ None
          held =
              let was = mapped_back end_notes g (root g k) now.0 now.1 in
              ap (finished_holder end_called) (ap (λ (u : Object). u.owner) (sym was.2) ∙ notes_add_names-owner (all_notes p g (receiver_note l a named)) (root g k) was.0)
              ∙ holder_stays g end_called unfinished_then was.0.owner (free (root g k) was.0 is_root was.1)

  -- what was not there is not finished
  absent : (k : ℕ) → object_at g k ≡ None → finished_in (object_at end_called (root end_called k)) ≡ false
  absent k none = go (object_at end_called k) refl
    where
      go : (w : Option Object) → object_at end_called k ≡ w → finished_in (object_at end_called (root end_called k)) ≡ false
      go None now = ap (λ (j : ℕ). finished_in (object_at end_called j)) (root_absent end_called k now) ∙ ap finished_in now
      go (Some w) now = let was = mapped_back end_notes g k w now in absurd (let never : None ≡ Some was.0 = sym none ∙ was.1 in cc)

  pub reached_target : is_reached (returned_called p l a named g) (returned_roots p l a named g) n ≡ true → target_root g l a named ≡ Some (root g n)
  reached_target is = go (reset_target (operand_of l a) named) refl is
    where
      by_target : (k : ℕ) → reset_target (operand_of l a) named ≡ Some k → has_number (reached end_called (Some k)) (root end_called n) ≡ true → (z : Option Object) → object_at g k ≡ z → target_root g l a named ≡ Some (root g n)
      by_target k target has None none = absurd (nothing_open end_called k (root end_called n) (absent k none) has)
      by_target k target has (Some z) before = there k z before target has

      go : (t : Option ℕ) → reset_target (operand_of l a) named ≡ t → has_number (reached end_called t) (root end_called n) ≡ true → target_root g l a named ≡ Some (root g n)
      go None target has = absurd (true≢false (sym has))
      go (Some k) target has = by_target k target has (object_at g k) refl

  pub end_of_target : is_anew_at_end p l a named g n ≡ true → target_root g l a named ≡ Some (root g n)
  unfolding is_anew_at_end
  end_of_target is = reached_target is
