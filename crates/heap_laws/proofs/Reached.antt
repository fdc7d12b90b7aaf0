-- Which objects a reset at a call of the library reaches, where no field of a finished object owns the root of its target.
use Rattle.std.proofs.Common.{◌≡◌, ◌⊎◌, inl, inr, ℕ, zero, suc, ◌+◌, Bool, true, false, not, ◌||◌, Option, Some, None, [], ◌∷◌, length, nat_eq, refl, sym, ap, ◌∙◌, subst, true≢false, if◌then◌else◌, arith, eqb-true}
use Rattle.program_model.specs.declared.program.Method.{Method}
use Rattle.program_model.specs.declared.program.Program.{Program}
use Rattle.control_actions.specs.declared.action.Action.{Action}
use Rattle.control_actions.specs.declared.action.Action.TheVariants as actions
use Rattle.stub_conduct.specs.declared.choice.Conduct.{Conduct}
use Rattle.stub_conduct.specs.declared.choice.Conduct.TheVariants as conducts
use Rattle.ledger_state.specs.Contents.{HeapContents}
use Rattle.ledger_state.specs.Heaps.{has_number, next_number, object_at, root}
use Rattle.ledger_state.specs.Values.{number_of}
use Rattle.ledger_state.specs.declared.entry.Owner.{Owner}
use Rattle.ledger_state.specs.declared.entry.Owner.TheVariants as owners
use Rattle.ledger_state.specs.declared.locals.Locals.{Locals}
use Rattle.ledger_state.specs.declared.object.Object.{Object}
use Rattle.ledger_obligations.specs.Obligations.{finished_holder, finished_in, owner_in, reach_on, reached, reached_within}
use Rattle.ledger_steps.specs.LedgerCallsCalls.{object_by, operand_of, reset_position, reset_target}
use Rattle.ledger_steps.specs.Conducts.{positions}
use Rattle.ledger_steps.specs.CallSteps.{library_called}
use Rattle.heap_laws.specs.Heaps.{GoesOn, HasEarlierLinks}
use Rattle.heap_laws.proofs.HeapLaws.{evolving_heaps-links, numbers_are_in_range, roots_go_on-number}
use Rattle.heap_laws.proofs.RootLaws.{root_absent, root_there}
use Rattle.heap_laws.specs.Anew.{HasNoHolder, finished_root, is_anew, target_root}
use Rattle.heap_laws.proofs.Links.{called_evolves}
use Rattle.heap_laws.proofs.Renewed.{called_back, fresh, fresh_unfinished}

-- what is not finished in the heap `h`, or not there, is not finished in the heap `k`
abbrev pub StaysUnfinished : HeapContents → HeapContents → Type 0
StaysUnfinished h k = (w : ℕ) → finished_in (object_at h w) ≡ false → finished_in (object_at k w) ≡ false

-- so the owner is the field of no finished object there, where it was none
pub holder_stays : (h k : HeapContents) → StaysUnfinished h k → (o : Owner) → finished_holder h o ≡ None → finished_holder k o ≡ None
holder_stays h k stays (owners.Field w f) none = go (finished_in (object_at h w)) refl none
  where
    go : (b : Bool) → finished_in (object_at h w) ≡ b → (if b then Some w else None) ≡ None → finished_holder k (owners.Field w f) ≡ None
    go true is some = absurd (let never : Some w ≡ None = some in cc)
    go false is same = rw (stays w is) refl
holder_stays h k stays (owners.Frame j) none = refl
holder_stays h k stays owners.Library none = refl
holder_stays h k stays owners.Released none = refl
holder_stays h k stays owners.Lost none = refl
holder_stays h k stays owners.Unowned none = refl

-- a reset of object `k` begins at its root, and reaches nothing where that is not finished
begins : (h : HeapContents) (k s : ℕ) → has_number (reached h (Some k)) s ≡ true
    → has_number (if false || not (finished_in (object_at h (root h k))) then [] else reach_on (reached_within (length h.objects) h) (root h k ∷ []) (finished_holder h (owner_in (object_at h (root h k))))) s ≡ true
begins h k s is = subst (λ (n : ℕ). has_number (reached_within n h [] k) s ≡ true) (let more : length h.objects + 1 ≡ suc (length h.objects) = omega arith in more) is

pub nothing_open : (h : HeapContents) (k s : ℕ) → finished_in (object_at h (root h k)) ≡ false → has_number (reached h (Some k)) s ≡ true → ⊥
nothing_open h k s unmade is = let never : false ≡ true = rw unmade at (begins h k s is) in true≢false (sym never)

-- where it is finished and no field of a finished object owns it, the reset reaches it alone
pub alone : (h : HeapContents) (k s : ℕ) → finished_in (object_at h (root h k)) ≡ true → finished_holder h (owner_in (object_at h (root h k))) ≡ None
    → has_number (reached h (Some k)) s ≡ true → s ≡ root h k
alone h k s done none is = by_test (nat_eq (root h k) s) refl (let one : (nat_eq (root h k) s || false) ≡ true = rw (done, none) at (begins h k s is) in one)
  where
    by_test : (b : Bool) → nat_eq (root h k) s ≡ b → (b || false) ≡ true → s ≡ root h k
    by_test true here any = sym (eqb-true (root h k) s here)
    by_test false other any = absurd (true≢false (sym any))

-- an operand at position 0 is the receiver, but that a `new` makes its object
of_positions : (l : Locals) (a : Action) (made : ℕ) (d : Conduct) (k w : ℕ) → number_of (positions l a made d k) ≡ Some w → (number_of (operand_of l a k) ≡ Some w) ⊎ (w ≡ made)
of_positions l a made d (suc k) w is = inl is
of_positions l (actions.New m e n) made (conducts.Throws c) zero w is = inl is
of_positions l (actions.New m e n) made d zero w is = inr (let both : Some made ≡ Some w = is in (let one : w ≡ made = cc in one))
of_positions l a made d zero w is = inl is

pub target_position : (l : Locals) (a : Action) (named : Option Method) (made : ℕ) (d : Conduct) (w : ℕ) → reset_target (positions l a made d) named ≡ Some w
    → (reset_target (operand_of l a) named ≡ Some w) ⊎ (w ≡ made)
target_position l a named made d w is = go (reset_position named) is
  where
    go : (k : Option ℕ) → object_by (positions l a made d) k ≡ Some w → (object_by (operand_of l a) k ≡ Some w) ⊎ (w ≡ made)
    go None never = absurd (let no' : None ≡ Some w = never in cc)
    go (Some k) at = of_positions l a made d k w at

module _ (p : Program) (l : Locals) (a : Action) (named m : Option Method) (d : Conduct) (h : HeapContents) where
  abbrev called : HeapContents
  called = library_called p l a named m d h

  pub nothing_anew : (n : ℕ) → reset_position named ≡ None → is_anew p l a named m d h n ≡ false
  unfolding is_anew
  nothing_anew n none = rw none refl

  -- an object that was there keeps its root
  same_root : (n : ℕ) (x : Object) → HasEarlierLinks h → object_at h n ≡ Some x → root called n ≡ root h n
  same_root n x links at = roots_go_on-number h called n x links (evolving_heaps-links h called (called_evolves p l a named m d 0 h)) at

  -- what the call makes is not finished
  unfinished_then : StaysUnfinished h called
  unfinished_then w unmade = go (object_at called w) refl
    where
      old : (x : Object) → object_at h w ≡ Some x → finished_in (object_at called w) ≡ false
      old x at = let y = called_evolves p l a named m d 0 h w x at in ap finished_in y.1 ∙ y.2.finished ∙ (sym (ap finished_in at) ∙ unmade)

      go : (z : Option Object) → object_at called w ≡ z → finished_in (object_at called w) ≡ false
      go None at = ap finished_in at
      go (Some z) at = elim (called_back p l a named m d 0 h w z at) [
        | inl was ↦ old was.0 was.1
        | inr made ↦ ap finished_in at ∙ (fresh p l a named m d 0 h z (ap (object_at called) (sym made) ∙ at)).0
      ]

  module _ (links : HasEarlierLinks h) (free : HasNoHolder h (target_root h l a named)) (n : ℕ) (x : Object) (at : object_at h n ≡ Some x) where
    -- the target was there
    there : (k : ℕ) (z : Object) → object_at h k ≡ Some z → reset_target (operand_of l a) named ≡ Some k → has_number (reached called (Some k)) (root called n) ≡ true
        → target_root h l a named ≡ Some (root h n)
    there k z before target is = go end.0.finished refl
      where
        end : (e : Object) × (object_at h (root h k) ≡ Some e) × (e.link ≡ None)
        end = root_there h k z links before

        now : (w : Object) × (object_at called (root h k) ≡ Some w) × GoesOn end.0 w
        now = called_evolves p l a named m d 0 h (root h k) end.0 end.1

        here : object_at called (root called k) ≡ Some now.0
        here = ap (object_at called) (same_root k z links before) ∙ now.1

        finishes : finished_in (object_at called (root called k)) ≡ end.0.finished
        finishes = ap finished_in here ∙ now.2.finished

        go : (b : Bool) → end.0.finished ≡ b → target_root h l a named ≡ Some (root h n)
        go false unmade = absurd (nothing_open called k (root called n) (finishes ∙ unmade) is)
        go true done = is_root ∙ ap Some (sym (same_root k z links before) ∙ sym (alone called k (root called n) (finishes ∙ done) (ap (λ (o : Option Object). finished_holder called (owner_in o)) here ∙ held) is) ∙ same_root n x links at)
          where
            is_root : target_root h l a named ≡ Some (root h k)
            is_root = ap (finished_root h) target ∙ rw (ap finished_in end.1 ∙ done) refl

            held : finished_holder called now.0.owner ≡ None
            held = elim (called_back p l a named m d 0 h (root h k) now.0 now.1) [
              | inl was ↦ elim was.2 [
                | inl stays ↦ ap (finished_holder called) stays ∙ holder_stays h called unfinished_then was.0.owner (free (root h k) was.0 is_root was.1)
                | inr given ↦ ap (finished_holder called) given
              ]
              | inr made ↦ absurd (let below = (numbers_are_in_range h (root h k) end.0 end.1).1 in omega (arith, below, made))
            ]

    -- where it was not, it is not finished
    absent : (k : ℕ) → object_at h k ≡ None → finished_in (object_at called (root called k)) ≡ false
    absent k none = go (object_at called k) refl
      where
        go : (w : Option Object) → object_at called k ≡ w → finished_in (object_at called (root called k)) ≡ false
        go None now = ap (λ (j : ℕ). finished_in (object_at called j)) (root_absent called k now) ∙ ap finished_in now
        go (Some w) now = elim (called_back p l a named m d 0 h k w now) [
          | inl was ↦ absurd (let never : None ≡ Some was.0 = sym none ∙ was.1 in cc)
          | inr made ↦ ap (λ (j : ℕ). finished_in (object_at called (root called j))) made ∙ fresh_unfinished p l a named m d 0 h
        ]

    pub of_target : is_anew p l a named m d h n ≡ true → target_root h l a named ≡ Some (root h n)
    unfolding is_anew
    of_target is = go (reset_target (positions l a (next_number h) d) named) refl is
      where
        old : (k : ℕ) → reset_target (operand_of l a) named ≡ Some k → has_number (reached called (Some k)) (root called n) ≡ true → (z : Option Object) → object_at h k ≡ z → target_root h l a named ≡ Some (root h n)
        old k target has None none = absurd (nothing_open called k (root called n) (absent k none) has)
        old k target has (Some z) before = there k z before target has

        go : (t : Option ℕ) → reset_target (positions l a (next_number h) d) named ≡ t → has_number (reached called t) (root called n) ≡ true → target_root h l a named ≡ Some (root h n)
        go None target has = absurd (true≢false (sym has))
        go (Some k) target has = elim (target_position l a named (next_number h) d k target) [
          | inl operand ↦ old k operand has (object_at h k) refl
          | inr made ↦ absurd (nothing_open called k (root called n) (ap (λ (j : ℕ). finished_in (object_at called (root called j))) made ∙ fresh_unfinished p l a named m d 0 h) has)
        ]
