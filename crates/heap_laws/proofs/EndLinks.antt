-- The links of a heap, and its objects, where a frame and its call end.
use Rattle.std.proofs.Common.{◌≡◌, inl, inr, ℕ, ◌+◌, ◌<◌, Bool, true, false, true≢false, not, ◌&&◌, Option, Some, None, option_map, nat_eq, refl, sym, ap, ◌∙◌, subst, if◌then◌else◌, eq-eqb, eqb-true}
use Rattle.std.specs.FinSet as set
use Rattle.program_model.specs.declared.kinds.ClassId.{ClassId}
use Rattle.program_model.specs.declared.kinds.VType.{VType}
use Rattle.program_model.specs.declared.program.Method.{Method}
use Rattle.program_model.specs.declared.program.Program.{Program}
use Rattle.ledger_obligations.specs.Bodies.{constructs}
use Rattle.ledger_obligations.specs.MustCallSets.{must_of}
use Rattle.control_actions.specs.declared.action.Action.{Action}
use Rattle.control_actions.specs.declared.action.Action.TheVariants as actions
use Rattle.ledger_state.specs.Contents.{HeapContents}
use Rattle.ledger_state.specs.Heaps.{change_one, object_at, only_at}
use Rattle.ledger_state.specs.Values.{number_of}
use Rattle.ledger_state.specs.declared.entry.Owner.TheVariants as owners
use Rattle.ledger_state.specs.declared.object.Link.{Link}
use Rattle.ledger_state.specs.declared.locals.Locals.{Locals}
use Rattle.ledger_state.specs.declared.object.Object.{Object}
use Rattle.ledger_state.specs.declared.value.Value.{Value}
use Rattle.ledger_obligations.specs.Obligations.{alias_born, end_holder, finished}
use Rattle.ledger_steps.specs.LedgerCallsCalls.{alias_target, is_alias, operand_of, receiver_note, reset_position}
use Rattle.ledger_steps.specs.Conducts.{owning_in, result_in}
use Rattle.ledger_steps.specs.Ends.{call_ended, constructor_ended, finished_by_new, frame_ended, frame_gone, moved_as, object_finished, result_moved, returned_reset, self_finished}
use Rattle.heap_laws.specs.Heaps.{Evolves, GoesOn, HasEarlierLinks, IsEarlierLink, KeepsLinks}
use Rattle.heap_laws.specs.Leading.{LinksOne}
use Rattle.heap_laws.proofs.HeapLaws.{changed_object_at-object, evolving_heaps-further, evolving_heaps-links, evolving_heaps-same, links_stay-frame, links_stay-holder, links_stay-noted, links_stay-value, notes_add_names-heap, objects_go_on-frame, objects_go_on-holder, objects_go_on-value}
use Rattle.heap_laws.specs.ProgramCalls.{IsLinkedTo, is_new}
use Rattle.heap_laws.proofs.Returned.{IsFrom, end_back, end_count, reset_nothing}

not_number : (n w : ℕ) → (n ≡ w → ⊥) → nat_eq n w ≡ false
not_number n w other = go (nat_eq n w) refl
  where
    go : (b : Bool) → nat_eq n w ≡ b → b ≡ false
    go true same = absurd (other (eqb-true n w same))
    go false is = refl

-- ---- the result and the frame

module _ (p : Program) (i : ℕ) (runs : Option Method) (v : Value) (h : HeapContents) where
  as_evolves : (t : Option VType) → Evolves h (moved_as p i t v h)
  as_evolves None = evolving_heaps-same h
  as_evolves (Some t) = objects_go_on-value p t (owners.Frame i) v h

  as_links : HasEarlierLinks h → (t : Option VType) → HasEarlierLinks (moved_as p i t v h)
  as_links links None = links
  as_links links (Some t) = links_stay-value p t (owners.Frame i) v h links

  pub result_evolves : (e : Option ClassId) → Evolves h (result_moved p i runs v e h)
  result_evolves (Some c) = evolving_heaps-same h
  result_evolves None = go (owning_in runs && not (is_alias runs))
    where
      go : (b : Bool) → Evolves h (if b then moved_as p i (result_in runs) v h else h)
      go true = as_evolves (result_in runs)
      go false = evolving_heaps-same h

  pub result_links : HasEarlierLinks h → (e : Option ClassId) → HasEarlierLinks (result_moved p i runs v e h)
  result_links links (Some c) = links
  result_links links None = go (owning_in runs && not (is_alias runs))
    where
      go : (b : Bool) → HasEarlierLinks (if b then moved_as p i (result_in runs) v h else h)
      go true = as_links links (result_in runs)
      go false = links

constructor_evolves : (self : Value) (runs : Option Method) (e : Option ClassId) (h : HeapContents) → Evolves h (constructor_ended self runs e h)
constructor_evolves self runs None h = evolving_heaps-same h
constructor_evolves self runs (Some c) h = go (constructs runs)
  where
    go : (b : Bool) → Evolves h (if b then end_holder (number_of self) h else h)
    go true = objects_go_on-holder (number_of self) h
    go false = evolving_heaps-same h

constructor_links : (self : Value) (runs : Option Method) (e : Option ClassId) (h : HeapContents) → HasEarlierLinks h → HasEarlierLinks (constructor_ended self runs e h)
constructor_links self runs None h links = links
constructor_links self runs (Some c) h links = go (constructs runs)
  where
    go : (b : Bool) → HasEarlierLinks (if b then end_holder (number_of self) h else h)
    go true = links_stay-holder (number_of self) h links
    go false = links

module _ (p : Program) (i : ℕ) (self : Value) (runs : Option Method) (v : Value) (e : Option ClassId) (h : HeapContents) where
  pub gone_evolves : Evolves h (frame_gone p i self runs v e h)
  gone_evolves =
      evolving_heaps-further h (result_moved p i runs v e h) (frame_gone p i self runs v e h) (result_evolves p i runs v h e)
      (evolving_heaps-further (result_moved p i runs v e h) (frame_ended p i runs v e h) (frame_gone p i self runs v e h)
      (objects_go_on-frame (i + 1) (result_moved p i runs v e h)) (constructor_evolves self runs e (frame_ended p i runs v e h)))

  pub gone_links : HasEarlierLinks h → HasEarlierLinks (frame_gone p i self runs v e h)
  gone_links links =
      constructor_links self runs e (frame_ended p i runs v e h) (links_stay-frame (i + 1) (result_moved p i runs v e h) (result_links p i runs v h links e))

-- ---- the call

module _ (p : Program) (i : ℕ) (self : Value) (l : Locals) (a : Action) (named : Option Method) (g : HeapContents) (no_reset : reset_position named ≡ None) where
  pub called_evolves : Evolves g (returned_reset p l a named g)
  called_evolves = subst (Evolves g) (sym (reset_nothing p i self l a named g no_reset)) (notes_add_names-heap p (receiver_note l a named) g)

  pub called_links : HasEarlierLinks g → HasEarlierLinks (returned_reset p l a named g)
  called_links links = subst HasEarlierLinks (sym (reset_nothing p i self l a named g no_reset)) (links_stay-noted p (receiver_note l a named) g links)

  abbrev aliased : Option ℕ
  aliased = alias_target (operand_of l a) named

  -- the object of a `new` has the link that it had, where its constructor has no aliased argument, or that is null
  same_link : aliased ≡ None → (x : Object) → (object_finished p i named aliased x).link ≡ x.link
  same_link none x = ap (λ (t : Option ℕ). (object_finished p i named t x).link) none ∙ go (is_alias named)
    where
      go : (b : Bool) → (if b then alias_born p false None (record x { called = set.empty }) else finished (must_of p x.class) (owners.Frame i) (record x { called = set.empty })).link ≡ x.link
      go true = refl
      go false = refl

  self_keeps : aliased ≡ None → (w : Option ℕ) → KeepsLinks g (self_finished p i named w aliased (returned_reset p l a named g))
  self_keeps free None n x at = evolving_heaps-links g (returned_reset p l a named g) called_evolves n x at
  self_keeps free (Some k) n x at =
      let y = called_evolves n x at in (
        only_at k (object_finished p i named aliased) n y.0,
        changed_object_at-object (only_at k (object_finished p i named aliased)) (returned_reset p l a named g) n ∙ ap (option_map (only_at k (object_finished p i named aliased) n)) y.1,
        by_number (nat_eq n k) y.0 ∙ y.2.link,
      )
    where
      by_number : (b : Bool) (y : Object) → (if b then object_finished p i named aliased y else y).link ≡ y.link
      by_number true y = same_link free y
      by_number false y = refl

  by_action : (b : Action) → a ≡ b → (is_new a ≡ true → aliased ≡ None) → KeepsLinks g (finished_by_new p i b named (number_of self) aliased (returned_reset p l a named g))
  by_action actions.Skip is free = evolving_heaps-links g (returned_reset p l a named g) called_evolves
  by_action (actions.New m d c) is free = self_keeps (free (ap is_new is)) (number_of self)
  by_action b is free = evolving_heaps-links g (returned_reset p l a named g) called_evolves

  -- where no object is linked
  pub end_keeps : (e : Option ClassId) → (e ≡ None → is_new a ≡ true → aliased ≡ None) → KeepsLinks g (call_ended p i self l a named e g)
  end_keeps None free = by_action a refl (free refl)
  end_keeps (Some c) free = evolving_heaps-links g (returned_reset p l a named g) called_evolves

  -- Links lead to earlier objects, where a `new` ends whose object was not finished, and nobody owned it, and was made after the argument of
  -- which it is to be an alias.
  pub end_links : HasEarlierLinks g → ((n : ℕ) (x : Object) → is_new a ≡ true → number_of self ≡ Some n → object_at g n ≡ Some x → (x.finished ≡ false) × (x.owner ≡ owners.Unowned))
      → ((n w : ℕ) → is_new a ≡ true → number_of self ≡ Some n → aliased ≡ Some w → (0 < w) × (w < n)) → (e : Option ClassId) → HasEarlierLinks (call_ended p i self l a named e g)
  end_links links made after e n y link at some = go (end_back p i self l a named g no_reset e n y at)
    where
      -- what was linked was finished
      never : (z : Object) → is_new a ≡ true → number_of self ≡ Some n → object_at g n ≡ Some z → y.link ≡ z.link → IsEarlierLink n y link
      never z new is before same = absurd (true≢false (sym (links n z link before (sym same ∙ some)).finished ∙ (made n z new is before).0))

      by_argument : (z : Object) (t : Option ℕ) → aliased ≡ t → is_new a ≡ true → number_of self ≡ Some n → object_at g n ≡ Some z → y.finished ≡ true → IsLinkedTo p t z y → IsEarlierLink n y link
      by_argument z None is new self' before done linked = never z new self' before linked.2
      by_argument z (Some w) is new self' before done linked =
          let one : record { to = w; by_library = false } ≡ link = (let both : ◌≡◌ {A = Option Link} (Some (record { to = w; by_library = false })) (Some link) = sym linked.2 ∙ some in cc) in
          let range = after n w new self' is in
          record {
            there = subst (λ (m : Link). 0 < m.to) one range.0;
            before = subst (λ (m : Link). m.to < n) one range.1;
            owner = linked.1 ∙ (made n z new self' before).1;
            finished = done;
          }

      go : IsFrom p i self l a named g no_reset e n y → IsEarlierLink n y link
      go (inl (z, before, done)) = never z done.new done.self before done.link
      go (inr (inl (z, before, done))) = by_argument z aliased refl done.new done.self before done.finished done.linked
      go (inr (inr (z, before, same))) =
          let is = links n z link before (ap (λ (x : Object). x.link) same ∙ some) in
          record {
            there = is.there;
            before = is.before;
            owner = ap (λ (x : Object). x.owner) (sym same) ∙ is.owner;
            finished = ap (λ (x : Object). x.finished) (sym same) ∙ is.finished;
          }

  -- ---- the object of a `new` is linked

  born_is : (b : Action) (k : HeapContents) (w : ℕ) → is_new b ≡ true → finished_by_new p i b named (Some w) aliased k ≡ change_one w (object_finished p i named aliased) k
  born_is actions.Skip k w new = absurd (true≢false (sym new))
  born_is (actions.New m d c) k w new = refl
  born_is b k w new = absurd (true≢false (sym new))

  module _ (links : HasEarlierLinks g) (new : is_new a ≡ true) (w : ℕ) (this : number_of self ≡ Some w) where
    abbrev change : Object → Object
    change = object_finished p i named aliased

    ended_is : call_ended p i self l a named None g ≡ change_one w change (returned_reset p l a named g)
    ended_is = ap (λ (n : Option ℕ). finished_by_new p i a named n aliased (returned_reset p l a named g)) this ∙ born_is a (returned_reset p l a named g) w new

    -- an object as the call has ended
    ended_at : (n : ℕ) (x : Object) → object_at g n ≡ Some x
        → (y : Object) × (object_at (call_ended p i self l a named None g) n ≡ Some (only_at w change n y)) × GoesOn x y
    ended_at n x at =
        let y = called_evolves n x at in
        (y.0, ap (λ (k : HeapContents). object_at k n) ended_is ∙ changed_object_at-object (only_at w change) (returned_reset p l a named g) n ∙ ap (option_map (only_at w change n)) y.1, y.2)

    free : (x : Object) → object_at g w ≡ Some x → x.finished ≡ false → x.link ≡ None
    free x at unmade = go x.link refl
      where
        go : (m : Option Link) → x.link ≡ m → m ≡ None
        go None none = refl
        go (Some m) some = absurd (true≢false (sym (links w x m at some).finished ∙ unmade))

    pub end_links_one : (k : ℕ) (x : Object) → is_alias named ≡ true → aliased ≡ Some k → object_at g w ≡ Some x → x.finished ≡ false → 0 < k → k < w
        → LinksOne w (record { to = k; by_library = false }) g (call_ended p i self l a named None g)
    end_links_one k x alias is at unmade there before =
        let y = ended_at w x at in
        record {
          count = end_count p i self l a named g no_reset None;
          others = λ n z other before'. others n z other (ended_at n z before');
          old = x;
          at = at;
          free = free x at unmade;
          new = change y.0;
          now = y.1 ∙ ap (λ (b : Bool). Some (if b then change y.0 else y.0)) (eq-eqb w w refl);
          linked = ap (λ (t : Option ℕ). (object_finished p i named t y.0).link) is ∙ linked y.0;
          there = there;
          before = before;
        }
      where
        others : (n : ℕ) (z : Object) → (n ≡ w → ⊥) → (y : Object) × (object_at (call_ended p i self l a named None g) n ≡ Some (only_at w change n y)) × GoesOn z y
            → (y : Object) × (object_at (call_ended p i self l a named None g) n ≡ Some y) × (y.class ≡ z.class) × (y.link ≡ z.link)
        others n z other (y, now, on) = (y, now ∙ ap (λ (b : Bool). Some (if b then change y else y)) (not_number n w other), on.class, on.link)

        linked : (y : Object) → (object_finished p i named (Some k) y).link ≡ Some (record { to = k; by_library = false })
        linked y = rw alias refl
