-- Where an object comes from when a call of the program has begun.
use Rattle.std.proofs.Common.{◌≡◌, ◌⊎◌, inl, inr, ℕ, ◌+◌, ◌<◌, ◌≤◌, Bool, true, false, Option, Some, None, slice_get, nat_eq, refl, sym, ap, ◌∙◌, if◌then◌else◌, arith, eqb-true}
use Rattle.std.specs.List.{list_any}
use Rattle.rlc_base.specs.declared.place.Pos.{Pos}
use Rattle.program_model.specs.declared.kinds.ClassId.{ClassId}
use Rattle.program_model.specs.declared.program.Method.{Method}
use Rattle.program_model.specs.declared.program.ParamSig.{ParamSig}
use Rattle.program_model.specs.declared.program.Program.{Program}
use Rattle.control_actions.specs.declared.action.Action.{Action}
use Rattle.control_actions.specs.declared.action.Action.TheVariants as actions
use Rattle.ledger_state.specs.Contents.{HeapContents}
use Rattle.ledger_state.specs.Heaps.{append, next_number, object_at, root, root_of, unfinished}
use Rattle.ledger_state.specs.declared.entry.Owner.TheVariants as owners
use Rattle.ledger_state.specs.declared.locals.Locals.{Locals}
use Rattle.ledger_state.specs.declared.object.Object.{Object}
use Rattle.ledger_state.specs.declared.value.Value.{Value}
use Rattle.ledger_state.specs.declared.value.Value.TheVariants as values
use Rattle.ledger_obligations.specs.Obligations.{may_move}
use Rattle.ledger_operations.specs.Places.{class_of_method}
use Rattle.ledger_steps.specs.LedgerCallsCalls.{operand_of, params_in}
use Rattle.ledger_steps.specs.CallSteps.{began_entries, began_heap, object_begun, object_of_new}
use Rattle.ledger_state.specs.Leaks.{is_leak}
use Rattle.heap_laws.specs.Heaps.{Evolves, HasEarlierLinks, IsGiven}
use Rattle.heap_laws.proofs.LineLaws.{owner_none}
use Rattle.heap_laws.proofs.MoveLaws.{params_caused, params_count, params_given, params_older}
use Rattle.heap_laws.proofs.ObjectLaws.{appended_at, appended_count, in_range}
use Rattle.heap_laws.proofs.HeapLaws.{evolving_heaps-further, evolving_heaps-same, links_stay-made, links_stay-moved, moved_arguments_are_older-evolves, objects_go_on-made, roots_go_on-number, roots_go_on-value, roots_of_links-absent, roots_of_links-itself}
use Rattle.heap_laws.specs.ProgramCalls.{IsNewAtStart, IsOlderAtStart}

-- ---- one object more

-- an object of the heap with one object more is that one, or was there
appended_back : (h : HeapContents) (c : ClassId) (n : ℕ) (x : Object) → object_at (append h c) n ≡ Some x → ((n ≡ next_number h) × (x ≡ unfinished c)) ⊎ (object_at h n ≡ Some x)
appended_back h c n x at = go (nat_eq n (next_number h)) refl (sym (appended_at h c n) ∙ at)
  where
    go : (b : Bool) → nat_eq n (next_number h) ≡ b → (if b then Some (unfinished c) else object_at h n) ≡ Some x → ((n ≡ next_number h) × (x ≡ unfinished c)) ⊎ (object_at h n ≡ Some x)
    go true is same = inl (eqb-true n (next_number h) is, (let one : x ≡ unfinished c = cc in one))
    go false is same = inr same

appended_keeps : (h : HeapContents) (c : ClassId) (n : ℕ) (x : Object) → object_at h n ≡ Some x → object_at (append h c) n ≡ Some x
appended_keeps h c n x at = appended_at h c n ∙ go (nat_eq n (next_number h)) refl
  where
    go : (b : Bool) → nat_eq n (next_number h) ≡ b → (if b then Some (unfinished c) else object_at h n) ≡ Some x
    go true is = absurd (let range = in_range h n x at in let here = eqb-true n (next_number h) is in omega (arith, range.1, here))
    go false is = at

-- ---- the object of a `new`

-- an object of the heap in which the call's object is made
abbrev pub IsThere : Option Method → HeapContents → ℕ → Object → Type 0
IsThere named h n x = ((n ≡ next_number h) × (x.finished ≡ false) × (x.link ≡ None) × (class_of_method named ≡ Some x.class)) ⊎ (object_at h n ≡ Some x)

there : (a : Action) (named : Option Method) (h : HeapContents) (n : ℕ) (x : Object) → object_at (object_of_new a named h) n ≡ Some x → IsThere named h n x
there actions.Skip named h n x at = inr at
there (actions.New m d c) None h n x at = inr at
there (actions.New m d c) (Some k) h n x at = elim (appended_back h k.class n x at) [
  | inl new ↦ inl (new.0, ap (λ (z : Object). z.finished) new.1, ap (λ (z : Object). z.link) new.1, sym (ap (λ (z : Object). Some z.class) new.1))
  | inr old ↦ inr old
]
there a named h n x at = inr at

stays_there : (a : Action) (named : Option Method) (h : HeapContents) (n : ℕ) (x : Object) → object_at h n ≡ Some x → object_at (object_of_new a named h) n ≡ Some x
stays_there actions.Skip named h n x at = at
stays_there (actions.New m d c) None h n x at = at
stays_there (actions.New m d c) (Some k) h n x at = appended_keeps h k.class n x at
stays_there a named h n x at = at

no_fewer : (a : Action) (named : Option Method) (h : HeapContents) → next_number h ≤ next_number (object_of_new a named h)
no_fewer actions.Skip named h = omega arith
no_fewer (actions.New m d c) None h = omega arith
no_fewer (actions.New m d c) (Some k) h = let more = appended_count h k.class in omega (arith, more)
no_fewer a named h = omega arith

module _ (p : Program) (l : Locals) (a : Action) (named : Option Method) (j : ℕ) (h : HeapContents) (links : HasEarlierLinks h) where
  -- an object that was there has the root that it had, and the new one is its own
  root_before : (k n : ℕ) (x : Object) → object_at h n ≡ Some x → root (object_of_new a named h) k ≡ n → root h k ≡ n
  root_before k n x at is = go (object_at h k) refl
    where
      itself : object_at h k ≡ None → root (object_of_new a named h) k ≡ k
      itself none = by_made (object_at (object_of_new a named h) k) refl
        where
          by_made : (y : Option Object) → object_at (object_of_new a named h) k ≡ y → root (object_of_new a named h) k ≡ k
          by_made None absent = roots_of_links-absent (object_of_new a named h) k absent
          by_made (Some y) here = elim (there a named h k y here) [
            | inl new ↦ roots_of_links-itself (object_of_new a named h) k y here new.2
            | inr old ↦ absurd (let never : None ≡ Some y = sym none ∙ old in cc)
          ]

      go : (y : Option Object) → object_at h k ≡ y → root h k ≡ n
      go None none = absurd (let same : k ≡ n = sym (itself none) ∙ is in let never : None ≡ Some x = sym none ∙ ap (object_at h) same ∙ at in cc)
      go (Some y) here = sym (roots_go_on-number h (object_of_new a named h) k y links (λ m z before. (z, stays_there a named h m z before, refl)) here) ∙ is

  value_before : (v : Value) (n : ℕ) (x : Object) → object_at h n ≡ Some x → root_of (object_of_new a named h) v ≡ Some n → root_of h v ≡ Some n
  value_before values.Nothing n x at is = is
  value_before (values.Object k) n x at is = ap Some (root_before k n x at (let both : Some (root (object_of_new a named h) k) ≡ Some n = is in (let one : root (object_of_new a named h) k ≡ n = cc in one)))
  value_before v n x at is = is

  given_before : (n : ℕ) (x : Object) → object_at h n ≡ Some x → IsGiven p (operand_of l a) 1 (params_in named) (object_of_new a named h) n x → IsGiven p (operand_of l a) 1 (params_in named) h n x
  given_before n x at g = record {
    index = g.index;
    param = g.param;
    at = g.at;
    owning = g.owning;
    root = value_before (operand_of l a (1 + g.index)) n x at g.root;
    may = g.may;
  }

  pub begun_from : (n : ℕ) (y : Object) → object_at (began_heap p l a named j h) n ≡ Some y → IsNewAtStart named h n y ⊎ IsOlderAtStart p l a named j h n y
  begun_from n y at =
      let old = params_older p (owners.Frame j) (operand_of l a) 1 (params_in named) (object_of_new a named h) n y at in
      let cause = params_caused p (owners.Frame j) (operand_of l a) 1 (params_in named) (object_of_new a named h) n old.before y old.at at in
      elim (there a named h n old.before old.at) [
        | inl new ↦ inl (record {
          number = new.0;
          unfinished = old.goes_on.finished ∙ new.1;
          link = old.goes_on.link ∙ new.2;
          class = new.3 ∙ ap Some (sym old.goes_on.class);
        })
        | inr before ↦ inr (record {
          before = old.before;
          at = before;
          goes_on = old.goes_on;
          owner = elim cause [
            | inl kept ↦ inl kept
            | inr given ↦ elim old.owner [ inl kept ↦ inl kept | inr callee ↦ inr (callee, given_before n old.before before given) ]
          ];
        })
      ]

  -- what an owning parameter takes is the callee's
  pub begun_given : (i : ℕ) (q : ParamSig) (n : ℕ) (x y : Object) → slice_get (params_in named) i ≡ Some q → q.owning ≡ true → root_of h (operand_of l a (1 + i)) ≡ Some n
      → object_at h n ≡ Some x → may_move p q.vtype x ≡ true → object_at (began_heap p l a named j h) n ≡ Some y → y.owner ≡ owners.Frame j
  begun_given i q n x y at owning root before may now =
      let w = params_given p (owners.Frame j) (operand_of l a) 1 i (params_in named) q (object_of_new a named h) n x at owning (roots_go_on-value h (object_of_new a named h) (operand_of l a (1 + i)) n x links (λ m z before'. (z, stays_there a named h m z before', refl)) root before) (stays_there a named h n x before) may in
      let same : w.0 ≡ y = (let both : Some w.0 ≡ Some y = sym w.1 ∙ now in cc) in
      sym (ap (λ (z : Object). z.owner) same) ∙ w.2

  pub begun_count : next_number h ≤ next_number (began_heap p l a named j h)
  begun_count =
      let same = params_count p (owners.Frame j) (operand_of l a) 1 (params_in named) (object_of_new a named h) in
      let more = no_fewer a named h in
      omega (arith, same, more)

  -- the links stay the library's
  pub begun_links : HasEarlierLinks (began_heap p l a named j h)
  begun_links = links_stay-moved p (owners.Frame j) (operand_of l a) 1 (params_in named) (object_of_new a named h) (by_action a)
    where
      of_method : (k : Option Method) → HasEarlierLinks (object_begun k h)
      of_method None = links
      of_method (Some k) = links_stay-made h k.class links

      by_action : (b : Action) → HasEarlierLinks (object_of_new b named h)
      by_action actions.Skip = links
      by_action (actions.New m d c) = of_method named
      by_action b = links

  pub begun_leaks_nothing : (pos : Pos) → list_any is_leak (began_entries p pos l a named j h) ≡ false
  begun_leaks_nothing pos = owner_none p pos (object_of_new a named h) (began_heap p l a named j h)

abbrev pub IsNewAction : Action → Type 0
IsNewAction (actions.New m d n) = Unit {0}
IsNewAction a = ⊥

-- a `new` makes an object
pub begun_makes : (p : Program) (l : Locals) (a : Action) (k : Method) (j : ℕ) (h : HeapContents) → IsNewAction a → next_number h < next_number (began_heap p l a (Some k) j h)
begun_makes p l actions.Skip k j h new = absurd new
begun_makes p l (actions.New m d c) k j h new =
    let same = params_count p (owners.Frame j) (operand_of l (actions.New m d c)) 1 (params_in (Some k)) (append h k.class) in
    let more = appended_count h k.class in
    omega (arith, same, more)
begun_makes p l a k j h new = absurd new

-- each object goes on
pub begun_evolves : (p : Program) (l : Locals) (a : Action) (named : Option Method) (j : ℕ) (h : HeapContents) → Evolves h (began_heap p l a named j h)
begun_evolves p l a named j h = evolving_heaps-further h (object_of_new a named h) (began_heap p l a named j h) (by_action a)
    (moved_arguments_are_older-evolves p (owners.Frame j) (operand_of l a) 1 (params_in named) (object_of_new a named h))
  where
    of_method : (k : Option Method) → Evolves h (object_begun k h)
    of_method None = evolving_heaps-same h
    of_method (Some k) = objects_go_on-made h k.class

    by_action : (b : Action) → Evolves h (object_of_new b named h)
    by_action actions.Skip = evolving_heaps-same h
    by_action (actions.New m d c) = of_method named
    by_action b = evolving_heaps-same h
