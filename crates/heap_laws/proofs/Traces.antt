-- Where an object after a call of the library comes from: it was there when the arguments had moved, and notes were added; or the
-- call made it.
use Rattle.std.proofs.Common.{◌≡◌, ◌⊎◌, inl, inr, ℕ, ◌+◌, Bool, true, false, not, ◌&&◌, Option, Some, None, List, [], ◌++◌, slice_get, option_map, nat_eq, refl, sym, ap, ◌∙◌, subst, true≢false, if◌then◌else◌, arith, eqb-true, eq-eqb}
use Rattle.std.specs.FinSet as set
use Rattle.std.specs.List.{list_any}
use Rattle.std.proofs.lemmas.Bool.{and_parts}
use Rattle.rlc_base.specs.declared.place.Pos.{Pos}
use Rattle.program_model.specs.declared.kinds.ClassId.{ClassId}
use Rattle.program_model.specs.declared.kinds.VType.{VType}
use Rattle.program_model.specs.declared.program.Method.{Method}
use Rattle.program_model.specs.declared.program.ParamSig.{ParamSig}
use Rattle.program_model.specs.declared.program.Program.{Program}
use Rattle.ledger_obligations.specs.MustCallSets.{must_of, must_of_type}
use Rattle.control_actions.specs.declared.action.Action.{Action}
use Rattle.stub_conduct.specs.declared.choice.Conduct.{Conduct}
use Rattle.stub_conduct.specs.declared.choice.Conduct.TheVariants as conducts
use Rattle.ledger_state.specs.Contents.{HeapContents}
use Rattle.ledger_state.specs.Heaps.{append, change_each, change_one, next_number, object_at, only_at, root_of, unfinished}
use Rattle.ledger_state.specs.declared.entry.Owner.TheVariants as owners
use Rattle.ledger_state.specs.declared.locals.Locals.{Locals}
use Rattle.ledger_state.specs.declared.object.Object.{Object}
use Rattle.ledger_state.specs.declared.value.Value.{Value}
use Rattle.ledger_obligations.specs.declared.note.Note.{Note}
use Rattle.ledger_obligations.specs.Obligations.{alias_born, all_notes, finished, first_set, is_library_owner, may_move, noted_object, reset_in}
use Rattle.ledger_steps.specs.LedgerCallsCalls.{alias_position, alias_target, arguments_moved, is_alias, operand_of, params_in, position_object, position_of, reset_position}
use Rattle.ledger_steps.specs.Conducts.{first_in, fresh_born, library_notes, result_owner}
use Rattle.ledger_steps.specs.CallSteps.{library_called, library_entries, library_heap, library_made, library_reset, library_roots}
use Rattle.ledger_steps.specs.InnerSteps.{thrown_heap}
use Rattle.ledger_steps.specs.Entries.{birth_entries, called_entries, owner_entries, reset_entries}
use Rattle.ledger_state.specs.Leaks.{is_leak}
use Rattle.heap_laws.specs.Heaps.{GoesOn, IsOlder}
use Rattle.heap_laws.proofs.LineLaws.{any_in_both, birth_none, called_none, owner_none, reset_none}
use Rattle.heap_laws.proofs.MoveLaws.{params_caused, params_count, params_given, params_older}
use Rattle.heap_laws.proofs.NoteLaws.{noted_goes_on}
use Rattle.heap_laws.proofs.ObjectLaws.{appended_at, changed_at, goes_on_further, in_range, unchanged}
use Rattle.heap_laws.specs.LibraryCalls.{IsAliasMadeAs, IsAliasOf, IsMadeAs}

pub mapped_back : (f : ℕ → Object → Object) (h : HeapContents) (n : ℕ) (y : Object) → object_at (change_each f h) n ≡ Some y → (x : Object) × (object_at h n ≡ Some x) × (f n x ≡ y)
mapped_back f h n y at = go (object_at h n) refl (sym (changed_at f h n) ∙ at)
  where
    go : (x : Option Object) → object_at h n ≡ x → option_map (f n) x ≡ Some y → (x : Object) × (object_at h n ≡ Some x) × (f n x ≡ y)
    go None before same = absurd (let never : None ≡ Some y = same in cc)
    go (Some x) before same = (x, before, (let one : f n x ≡ y = cc in one))

-- one object is changed
one_back : (k : ℕ) (f : Object → Object) (h : HeapContents) (n : ℕ) (y : Object) → object_at (change_one k f h) n ≡ Some y
    → (x : Object) × (object_at h n ≡ Some x) × (((n ≡ k) × (f x ≡ y)) ⊎ (((n ≡ k) → ⊥) × (x ≡ y)))
one_back k f h n y at =
    let x = mapped_back (only_at k f) h n y at in
    (x.0, x.1, go x.0 (nat_eq n k) refl x.2)
  where
    go : (x : Object) (b : Bool) → nat_eq n k ≡ b → (if b then f x else x) ≡ y → ((n ≡ k) × (f x ≡ y)) ⊎ (((n ≡ k) → ⊥) × (x ≡ y))
    go x true is same = inl (eqb-true n k is, same)
    go x false is same = inr ((λ at'. true≢false (sym (eq-eqb n k at') ∙ is)), same)

module _ (p : Program) (l : Locals) (a : Action) (named m : Option Method) (d : Conduct) (i : ℕ) (h : HeapContents) where
  abbrev moved : HeapContents
  moved = arguments_moved p owners.Library l a named h

  abbrev notes : List Note
  notes = library_notes p (library_made p l a named d h) l a named m (next_number h) d

  abbrev all : List Note
  all = all_notes p (library_made p l a named d h) notes

  count : next_number moved ≡ next_number h
  count = params_count p owners.Library (operand_of l a) 1 (params_in named) h

  -- no root is reset
  pub no_reset : reset_position named ≡ None → library_reset p l a named m d h ≡ library_called p l a named m d h
  no_reset none = rw none (unchanged (reset_in p (library_called p l a named m d h) []) (library_called p l a named m d h) (λ k x at. refl))

  abbrev IsOld : ℕ → Object → Type 0
  IsOld n y = (x : Object) × (object_at moved n ≡ Some x) × (noted_object all n x ≡ y)

  -- an object that is made has the link and the class of the appended one
  pub made_object : (e : ClassId) (n : ℕ) (x : Object) → object_at (append moved e) n ≡ Some x → ((n ≡ next_number h) × (x ≡ unfinished e)) ⊎ (((n ≡ next_number h) → ⊥) × (object_at moved n ≡ Some x))
  made_object e n x at = go (nat_eq n (next_number moved)) refl (sym (appended_at moved e n) ∙ at)
    where
      go : (b : Bool) → nat_eq n (next_number moved) ≡ b → (if b then Some (unfinished e) else object_at moved n) ≡ Some x
          → ((n ≡ next_number h) × (x ≡ unfinished e)) ⊎ (((n ≡ next_number h) → ⊥) × (object_at moved n ≡ Some x))
      go true is same = inl (eqb-true n (next_number moved) is ∙ count, (let one : x ≡ unfinished e = cc in one))
      go false is same = inr ((λ here. true≢false (sym (eq-eqb n (next_number moved) (here ∙ sym count)) ∙ is)), same)

  -- the call makes no object
  plain_trace : (n : ℕ) (y : Object) → library_made p l a named d h ≡ moved → library_heap p l a named m d i h ≡ library_reset p l a named m d h → reset_position named ≡ None
      → object_at (library_heap p l a named m d i h) n ≡ Some y → IsOld n y
  plain_trace n y made heap none at =
      let x = mapped_back (noted_object all) (library_made p l a named d h) n y (subst (λ (g : HeapContents). object_at g n ≡ Some y) (heap ∙ no_reset none) at) in
      (x.0, subst (λ (g : HeapContents). object_at g n ≡ Some x.0) made x.1, x.2)

  -- the call makes an object of the class, which is born by `f`
  making_trace : (P : Object → Type 0) (f : Object → Object) (e : ClassId) (n : ℕ) (y : Object) → library_made p l a named d h ≡ append moved e
      → library_heap p l a named m d i h ≡ change_one (next_number h) f (library_reset p l a named m d h) → reset_position named ≡ None
      → ((x : Object) → x.class ≡ e → x.link ≡ None → x.owner ≡ owners.Unowned → P (f x))
      → object_at (library_heap p l a named m d i h) n ≡ Some y → IsOld n y ⊎ ((n ≡ next_number h) × P y)
  making_trace P f e n y made heap none born at =
      let x = one_back (next_number h) f (library_reset p l a named m d h) n y (subst (λ (g : HeapContents). object_at g n ≡ Some y) heap at) in
      let z = mapped_back (noted_object all) (library_made p l a named d h) n x.0 (subst (λ (g : HeapContents). object_at g n ≡ Some x.0) (no_reset none) x.1) in
      let w = made_object e n z.0 (subst (λ (g : HeapContents). object_at g n ≡ Some z.0) made z.1) in
      go x.0 z.0 z.2 w x.2
    where
      go : (x z : Object) → noted_object all n z ≡ x → ((n ≡ next_number h) × (z ≡ unfinished e)) ⊎ (((n ≡ next_number h) → ⊥) × (object_at moved n ≡ Some z))
          → ((n ≡ next_number h) × (f x ≡ y)) ⊎ (((n ≡ next_number h) → ⊥) × (x ≡ y)) → IsOld n y ⊎ ((n ≡ next_number h) × P y)
      go x z same (inl (here, new)) (inl (is, last)) =
          inr (here, subst P last (born x (sym (ap (λ (u : Object). u.class) same) ∙ ap (λ (u : Object). u.class) new) (sym (ap (λ (u : Object). u.link) same) ∙ ap (λ (u : Object). u.link) new) (sym (ap (λ (u : Object). u.owner) same) ∙ ap (λ (u : Object). u.owner) new)))
      go x z same (inl (here, new)) (inr (other, last)) = absurd (other here)
      go x z same (inr (other, old)) (inl (is, last)) = absurd (other is)
      go x z same (inr (other, old)) (inr (out, last)) = inl (z, old, same ∙ last)

-- what the call makes, where the aliased argument is at this position, or there is none
abbrev pub IsBornAs : Program → Locals → Action → Option Method → ℕ → Conduct → Object → Option ℕ → Type 0
IsBornAs p l a m i d y None = IsMadeAs p a m i d y
IsBornAs p l a m i d y (Some k) = IsAliasMadeAs l a k d y

abbrev pub IsTraced : Program → Locals → Action → Option Method → Option Method → Conduct → ℕ → HeapContents → ℕ → Object → Option ℕ → Type 0
IsTraced p l a named m d i h n y alias =
    ((x : Object) × (object_at (arguments_moved p owners.Library l a named h) n ≡ Some x)
    × (noted_object (all_notes p (library_made p l a named d h) (library_notes p (library_made p l a named d h) l a named m (next_number h) d)) n x ≡ y))
    ⊎ ((n ≡ next_number h) × IsBornAs p l a m i d y alias)

-- a fresh result is born so
fresh_is_born : (p : Program) (l : Locals) (a : Action) (m : Option Method) (i : ℕ) (e : ClassId) (alias : Option ℕ) → alias_position m ≡ alias → (x : Object) → x.class ≡ e → x.link ≡ None
    → x.owner ≡ owners.Unowned → IsBornAs p l a m i (conducts.Fresh e) (fresh_born p e m a i (position_of None l a) x) alias
fresh_is_born p l a m i e None is x class link owner = rw is (class, refl, refl, link)
fresh_is_born p l a m i e (Some k) is x class link owner =
    subst (λ (y : Object). IsBornAs p l a m i (conducts.Fresh e) y (Some k)) (sym born) (by_target (position_object (position_of None l a) k))
  where
    born : fresh_born p e m a i (position_of None l a) x ≡ alias_born p true (position_object (position_of None l a) k) x
    born = rw is refl

    by_target : (t : Option ℕ) → ((alias_born p true t x).class ≡ e) × ((alias_born p true t x).finished ≡ true) × IsAliasOf t (alias_born p true t x)
    by_target None = (class, refl, (refl, refl, link))
    by_target (Some w) = (class, refl, (owner, refl))

-- an exception is born so
thrown_is_born : (p : Program) (l : Locals) (a : Action) (m : Option Method) (i : ℕ) (e : ClassId) (alias : Option ℕ) (x : Object) → x.class ≡ e → x.link ≡ None
    → IsBornAs p l a m i (conducts.Throws e) (finished (first_set p e None) owners.Library x) alias
thrown_is_born p l a m i e None x class link = (refl, link, class)
thrown_is_born p l a m i e (Some k) x class link = (refl, link, class)

pub trace : (p : Program) (l : Locals) (a : Action) (named m : Option Method) (d : Conduct) (i : ℕ) (h : HeapContents) (n : ℕ) (y : Object) (alias : Option ℕ) → reset_position named ≡ None
    → alias_position m ≡ alias → object_at (library_heap p l a named m d i h) n ≡ Some y → IsTraced p l a named m d i h n y alias
trace p l a named m (conducts.Throws e) i h n y alias none is at =
    making_trace p l a named m (conducts.Throws e) i h (λ (z : Object). IsBornAs p l a m i (conducts.Throws e) z alias) (finished (first_set p e None) owners.Library) e n y refl refl none
    (λ x class link owner. thrown_is_born p l a m i e alias x class link) at
trace p l a named m (conducts.Fresh e) i h n y alias none is at =
    making_trace p l a named m (conducts.Fresh e) i h (λ (z : Object). IsBornAs p l a m i (conducts.Fresh e) z alias) (fresh_born p e m a i (position_of None l a)) e n y refl refl none
    (fresh_is_born p l a m i e alias is) at
trace p l a named m conducts.Null i h n y alias none is at = inl (plain_trace p l a named m conducts.Null i h n y refl refl none at)
trace p l a named m (conducts.Existing k) i h n y alias none is at = inl (plain_trace p l a named m (conducts.Existing k) i h n y refl refl none at)
trace p l a named m conducts.Argument i h n y alias none is at = inl (plain_trace p l a named m conducts.Argument i h n y refl refl none at)
trace p l a named m (conducts.Value z) i h n y alias none is at = inl (plain_trace p l a named m (conducts.Value z) i h n y refl refl none at)
trace p l a named m conducts.Nothing i h n y alias none is at = inl (plain_trace p l a named m conducts.Nothing i h n y refl refl none at)

older_or_born : (p : Program) (l : Locals) (a : Action) (named m : Option Method) (d : Conduct) (i : ℕ) (h : HeapContents) (n : ℕ) (y : Object) (alias : Option ℕ)
    → reset_position named ≡ None → alias_position m ≡ alias → object_at (library_heap p l a named m d i h) n ≡ Some y
    → IsOlder h n y owners.Library ⊎ ((n ≡ next_number h) × IsBornAs p l a m i d y alias)
older_or_born p l a named m d i h n y alias none is at = go (trace p l a named m d i h n y alias none is at)
  where
    go : IsTraced p l a named m d i h n y alias → IsOlder h n y owners.Library ⊎ ((n ≡ next_number h) × IsBornAs p l a m i d y alias)
    go (inr made) = inr made
    go (inl (x, before, same)) =
        let old = params_older p owners.Library (operand_of l a) 1 (params_in named) h n x before in
        let notes = all_notes p (library_made p l a named d h) (library_notes p (library_made p l a named d h) l a named m (next_number h) d) in
        inl (record {
          before = old.before;
          at = old.at;
          goes_on = subst (λ (z : Object). GoesOn old.before z) same (goes_on_further old.before x (noted_object notes n x) old.goes_on (noted_goes_on notes n x));
          owner = subst (λ (z : Object). (z.owner ≡ old.before.owner) ⊎ (z.owner ≡ owners.Library)) same old.owner;
        })

pub older_or_made : (p : Program) (l : Locals) (a : Action) (named m : Option Method) (d : Conduct) (i : ℕ) (h : HeapContents) (n : ℕ) (y : Object)
    → reset_position named ≡ None → alias_position m ≡ None → object_at (library_heap p l a named m d i h) n ≡ Some y
    → IsOlder h n y owners.Library ⊎ ((n ≡ next_number h) × IsMadeAs p a m i d y)
older_or_made p l a named m d i h n y none plain at = older_or_born p l a named m d i h n y None none plain at

pub older_or_alias : (p : Program) (l : Locals) (a : Action) (named m : Option Method) (d : Conduct) (i : ℕ) (h : HeapContents) (n k : ℕ) (y : Object)
    → reset_position named ≡ None → alias_position m ≡ Some k → object_at (library_heap p l a named m d i h) n ≡ Some y
    → IsOlder h n y owners.Library ⊎ ((n ≡ next_number h) × IsAliasMadeAs l a k d y)
older_or_alias p l a named m d i h n k y none alias at = older_or_born p l a named m d i h n y (Some k) none alias at

-- an object that was there before the call is traced to the arguments that moved
traced : (p : Program) (l : Locals) (a : Action) (named m : Option Method) (d : Conduct) (i : ℕ) (h : HeapContents) (n : ℕ) (x y : Object) → reset_position named ≡ None
    → object_at h n ≡ Some x → object_at (library_heap p l a named m d i h) n ≡ Some y
    → (z : Object) × (object_at (arguments_moved p owners.Library l a named h) n ≡ Some z)
    × (noted_object (all_notes p (library_made p l a named d h) (library_notes p (library_made p l a named d h) l a named m (next_number h) d)) n z ≡ y)
traced p l a named m d i h n x y none before at = go (trace p l a named m d i h n y (alias_position m) none refl at)
  where
    go : IsTraced p l a named m d i h n y (alias_position m)
        → (z : Object) × (object_at (arguments_moved p owners.Library l a named h) n ≡ Some z)
        × (noted_object (all_notes p (library_made p l a named d h) (library_notes p (library_made p l a named d h) l a named m (next_number h) d)) n z ≡ y)
    go (inl old) = old
    go (inr (here, made)) = absurd (let range = in_range h n x before in omega (arith, range.1, here))

pub given_stays : (p : Program) (l : Locals) (a : Action) (named m : Option Method) (d : Conduct) (i j : ℕ) (q : ParamSig) (h : HeapContents) (n : ℕ) (x y : Object)
    → reset_position named ≡ None → slice_get (params_in named) j ≡ Some q → q.owning ≡ true → root_of h (operand_of l a (1 + j)) ≡ Some n
    → object_at h n ≡ Some x → may_move p q.vtype x ≡ true → object_at (library_heap p l a named m d i h) n ≡ Some y → y.owner ≡ owners.Library
given_stays p l a named m d i j q h n x y none there owning root before may at =
    let z = traced p l a named m d i h n x y none before at in
    let w = params_given p owners.Library (operand_of l a) 1 j (params_in named) q h n x there owning root before may in
    let same : w.0 ≡ z.0 = (let both : Some w.0 ≡ Some z.0 = sym w.1 ∙ z.1 in cc) in
    sym (ap (λ (u : Object). u.owner) z.2) ∙ sym (ap (λ (u : Object). u.owner) same) ∙ w.2

-- ---- what is not finished

alias_finished : (p : Program) (t : Option ℕ) (x : Object) → (alias_born p true t x).finished ≡ true
alias_finished p None x = refl
alias_finished p (Some w) x = refl

fresh_finished : (p : Program) (e : ClassId) (m : Option Method) (a : Action) (i : ℕ) (at : ℕ → Value) (x : Object) → (fresh_born p e m a i at x).finished ≡ true
fresh_finished p e m a i at x = go (is_alias m)
  where
    go : (b : Bool) → (if b then alias_born p true (alias_target at m) x else finished (first_set p e (first_in m)) (result_owner a m i) x).finished ≡ true
    go true = alias_finished p (alias_target at m) x
    go false = refl

made_or_old : {X : Type 0} (n k : ℕ) (y : Object) → X ⊎ ((n ≡ k) × (y.finished ≡ true)) → y.finished ≡ false → X
made_or_old n k y (inl old) unmade = old
made_or_old n k y (inr new) unmade = absurd (true≢false (sym new.1 ∙ unmade))

-- what is not finished was there
unfinished_trace : (p : Program) (l : Locals) (a : Action) (named m : Option Method) (d : Conduct) (i : ℕ) (h : HeapContents) (n : ℕ) (y : Object) → reset_position named ≡ None
    → object_at (library_heap p l a named m d i h) n ≡ Some y → y.finished ≡ false → IsOld p l a named m d i h n y
unfinished_trace p l a named m (conducts.Throws e) i h n y none at unmade =
    made_or_old n (next_number h) y (making_trace p l a named m (conducts.Throws e) i h (λ (z : Object). z.finished ≡ true) (finished (first_set p e None) owners.Library) e n y refl refl none
    (λ x class link owner. refl) at) unmade
unfinished_trace p l a named m (conducts.Fresh e) i h n y none at unmade =
    made_or_old n (next_number h) y (making_trace p l a named m (conducts.Fresh e) i h (λ (z : Object). z.finished ≡ true) (fresh_born p e m a i (position_of None l a)) e n y refl refl none
    (λ x class link owner. fresh_finished p e m a i (position_of None l a) x) at) unmade
unfinished_trace p l a named m conducts.Null i h n y none at unmade = plain_trace p l a named m conducts.Null i h n y refl refl none at
unfinished_trace p l a named m (conducts.Existing k) i h n y none at unmade = plain_trace p l a named m (conducts.Existing k) i h n y refl refl none at
unfinished_trace p l a named m conducts.Argument i h n y none at unmade = plain_trace p l a named m conducts.Argument i h n y refl refl none at
unfinished_trace p l a named m (conducts.Value z) i h n y none at unmade = plain_trace p l a named m (conducts.Value z) i h n y refl refl none at
unfinished_trace p l a named m conducts.Nothing i h n y none at unmade = plain_trace p l a named m conducts.Nothing i h n y refl refl none at

-- what may move is finished
may_finished : (p : Program) (t : VType) (x : Object) → may_move p t x ≡ true → x.finished ≡ true
may_finished p t x may =
    let parts = and_parts (x.finished && not (is_library_owner x.owner)) (set.is_subset (must_of p x.class) (must_of_type p t)) may in
    (and_parts x.finished (not (is_library_owner x.owner)) parts.0).0

-- and nobody owns it, where that was so
pub unowned_stays : (p : Program) (l : Locals) (a : Action) (named m : Option Method) (d : Conduct) (i : ℕ) (h : HeapContents) (n : ℕ) (y : Object) → reset_position named ≡ None
    → ((k : ℕ) (x : Object) → object_at h k ≡ Some x → x.finished ≡ false → x.owner ≡ owners.Unowned)
    → object_at (library_heap p l a named m d i h) n ≡ Some y → y.finished ≡ false → y.owner ≡ owners.Unowned
unowned_stays p l a named m d i h n y none unowned at unmade =
    let x = unfinished_trace p l a named m d i h n y none at unmade in
    let old = params_older p owners.Library (operand_of l a) 1 (params_in named) h n x.0 x.1 in
    let before : old.before.finished ≡ false = sym old.goes_on.finished ∙ ap (λ (u : Object). u.finished) x.2 ∙ unmade in
    sym (ap (λ (u : Object). u.owner) x.2) ∙ elim (params_caused p owners.Library (operand_of l a) 1 (params_in named) h n old.before x.0 old.at x.1) [
      | inl same ↦ same ∙ unowned n old.before old.at before
      | inr given ↦ absurd (true≢false (sym (may_finished p given.param.vtype old.before given.may) ∙ before))
    ]

pub leaks_nothing : (p : Program) (pos : Pos) (l : Locals) (a : Action) (named m : Option Method) (d : Conduct) (i : ℕ) (h : HeapContents)
    → list_any is_leak (library_entries p pos l a named m d i h) ≡ false
leaks_nothing p pos l a named m d i h =
    let owners' = owner_entries p pos h (arguments_moved p owners.Library l a named h) in
    let called = called_entries p pos (library_made p l a named d h) (library_called p l a named m d h) in
    let resets = reset_entries p pos (library_roots p l a named m d h) (library_called p l a named m d h) in
    let births = birth_entries p pos (library_reset p l a named m d h) (library_heap p l a named m d i h) in
    any_in_both (owners' ++ called ++ resets) births
    (any_in_both (owners' ++ called) resets
    (any_in_both owners' called (owner_none p pos h (arguments_moved p owners.Library l a named h)) (called_none p pos (library_made p l a named d h) (library_called p l a named m d h)))
    (reset_none p pos (library_roots p l a named m d h) (library_called p l a named m d h)))
    (birth_none p pos (library_reset p l a named m d h) (library_heap p l a named m d i h))

pub thrown_is_librarys : (p : Program) (e : Option ClassId) (h : HeapContents) (n : ℕ) (y : Object) → object_at (thrown_heap p e h) n ≡ Some y
    → (object_at h n ≡ Some y) ⊎ ((n ≡ next_number h) × (y.owner ≡ owners.Library) × (y.link ≡ None) × (e ≡ Some y.class))
thrown_is_librarys p None h n y at = inl at
thrown_is_librarys p (Some e) h n y at =
    let x = one_back (next_number h) (finished (must_of p e) owners.Library) (append h e) n y at in
    go x.0 (nat_eq n (next_number h)) refl (sym (appended_at h e n) ∙ x.1) x.2
  where
    go : (x : Object) (b : Bool) → nat_eq n (next_number h) ≡ b → (if b then Some (unfinished e) else object_at h n) ≡ Some x
        → ((n ≡ next_number h) × (finished (must_of p e) owners.Library x ≡ y)) ⊎ (((n ≡ next_number h) → ⊥) × (x ≡ y))
        → (object_at h n ≡ Some y) ⊎ ((n ≡ next_number h) × (y.owner ≡ owners.Library) × (y.link ≡ None) × (Some e ≡ Some y.class))
    go x true is new (inl (here, last)) =
        let one : x ≡ unfinished e = cc in
        inr (here, sym (ap (λ (u : Object). u.owner) last), sym (ap (λ (u : Object). u.link) last) ∙ ap (λ (u : Object). u.link) one, ap Some (sym (ap (λ (u : Object). u.class) one) ∙ ap (λ (u : Object). u.class) last))
    go x true is new (inr (out, last)) = absurd (out (eqb-true n (next_number h) is))
    go x false is old (inl (here, last)) = absurd (true≢false (sym (eq-eqb n (next_number h) here) ∙ is))
    go x false is old (inr (out, last)) = inl (old ∙ ap Some last)

-- an exception is finished
pub thrown_unfinished : (p : Program) (e : Option ClassId) (h : HeapContents) (n : ℕ) (y : Object) → object_at (thrown_heap p e h) n ≡ Some y → y.finished ≡ false → object_at h n ≡ Some y
thrown_unfinished p None h n y at unmade = at
thrown_unfinished p (Some e) h n y at unmade =
    let x = one_back (next_number h) (finished (must_of p e) owners.Library) (append h e) n y at in
    go x.0 (nat_eq n (next_number h)) refl (sym (appended_at h e n) ∙ x.1) x.2
  where
    go : (x : Object) (b : Bool) → nat_eq n (next_number h) ≡ b → (if b then Some (unfinished e) else object_at h n) ≡ Some x
        → ((n ≡ next_number h) × (finished (must_of p e) owners.Library x ≡ y)) ⊎ (((n ≡ next_number h) → ⊥) × (x ≡ y)) → object_at h n ≡ Some y
    go x b is at' (inl (here, last)) = absurd (true≢false (ap (λ (u : Object). u.finished) last ∙ unmade))
    go x true is new (inr (out, last)) = absurd (out (eqb-true n (next_number h) is))
    go x false is old (inr (out, last)) = old ∙ ap Some last
