-- Where an object comes from when a frame has ended and its call has.
use Rattle.std.proofs.Common.{◌≡◌, ◌⊎◌, inl, inr, ℕ, ◌+◌, Bool, true, false, not, ◌&&◌, Option, Some, None, List, [], ◌++◌, nat_eq, refl, sym, ap, ◌∙◌, subst, true≢false, if◌then◌else◌, eqb-true}
use Rattle.std.specs.FinSet as set
use Rattle.std.specs.List.{list_any}
use Rattle.std.proofs.lemmas.Bool.{and_parts, not-true}
use Rattle.rlc_base.specs.declared.place.Pos.{Pos}
use Rattle.program_model.specs.declared.kinds.ClassId.{ClassId}
use Rattle.program_model.specs.declared.kinds.VType.{VType}
use Rattle.program_model.specs.declared.program.Method.{Method}
use Rattle.program_model.specs.declared.program.Program.{Program}
use Rattle.ledger_obligations.specs.Bodies.{constructs}
use Rattle.ledger_obligations.specs.MustCallSets.{must_of, must_of_type}
use Rattle.control_actions.specs.declared.action.Action.{Action}
use Rattle.control_actions.specs.declared.action.Action.TheVariants as actions
use Rattle.ledger_state.specs.Contents.{HeapContents}
use Rattle.ledger_state.specs.Heaps.{next_number, object_at, only_at, root_of}
use Rattle.ledger_state.specs.Values.{number_of}
use Rattle.ledger_state.specs.declared.entry.Entry.{Entry}
use Rattle.ledger_state.specs.declared.entry.LeakWord.TheVariants as words
use Rattle.ledger_state.specs.declared.entry.Owner.{Owner}
use Rattle.ledger_state.specs.declared.entry.Owner.TheVariants as owners
use Rattle.ledger_state.specs.declared.locals.Locals.{Locals}
use Rattle.ledger_state.specs.declared.object.Object.{Object}
use Rattle.ledger_state.specs.declared.value.Value.{Value}
use Rattle.ledger_obligations.specs.declared.note.Note.{Note}
use Rattle.ledger_obligations.specs.Obligations.{all_notes, end_holder, is_frame, is_held_by, is_library_owner, is_unmet, may_move, noted_object, reset_in}
use Rattle.ledger_steps.specs.LedgerCallsCalls.{alias_position, alias_target, is_alias, operand_of, receiver_note, reset_position}
use Rattle.ledger_steps.specs.Conducts.{owning_in, result_in}
use Rattle.ledger_steps.specs.Entries.{birth_entries, called_entries, leak_entries, owner_entries, reset_entries}
use Rattle.ledger_steps.specs.Ends.{call_end_entries, call_ended, constructor_ended, finished_by_new, frame_end_leaks, frame_ended, frame_gone, moved_as, object_finished, program_birth, result_moved, returned_called, returned_reset, returned_roots, self_finished}
use Rattle.ledger_state.specs.Leaks.{is_leak}
use Rattle.heap_laws.specs.Heaps.{GoesOn, IsKeptOr}
use Rattle.heap_laws.proofs.EndLaws.{changed_back, frame_back, frame_count, holder_back, holder_count, is_held, kept_goes_on}
use Rattle.heap_laws.proofs.LineLaws.{any_in_both, birth_none, called_none, end_none, holder_none, leaks_unchanged, owner_none, reset_none}
use Rattle.heap_laws.proofs.MoveLaws.{moved_back, moved_count, moved_takes}
use Rattle.heap_laws.proofs.ObjectLaws.{changed_count, goes_on_further, goes_on_self, unchanged}
use Rattle.heap_laws.proofs.RootLaws.{one_object}
use Rattle.heap_laws.specs.ProgramCalls.{IsFinished, IsMadeAlias, IsOlderAtResult, is_new}

not_true : (b : Bool) → (b ≡ true → ⊥) → b ≡ false
not_true true never = absurd (never refl)
not_true false never = refl

-- ---- the result

module _ (p : Program) (i : ℕ) (runs : Option Method) (v : Value) (h : HeapContents) where
  as_before : (e : Option ClassId) (n : ℕ) (y : Object) → object_at h n ≡ Some y → IsOlderAtResult p i runs v e h n y
  as_before e n y at = record { before = y; at = at; goes_on = goes_on_self y; owner = inl refl }

  by_type : (n : ℕ) (y : Object) → owning_in runs ≡ true → is_alias runs ≡ false → (t : Option VType) → result_in runs ≡ t → object_at (moved_as p i t v h) n ≡ Some y → IsOlderAtResult p i runs v None h n y
  by_type n y owning own None is at = as_before None n y at
  by_type n y owning own (Some t) is at =
      let x = moved_back p t (owners.Frame i) v h n y at in
      record {
        before = x.0;
        at = x.1;
        goes_on = x.2.0;
        owner = elim x.2.1 [
          | inl kept ↦ inl kept
          | inr given ↦ inr (record { normal = refl; owning = owning; own = own; type = t; result = is; root = given.1; may = given.2; owner = given.0 })
        ];
      }

  pub result_back : (e : Option ClassId) (n : ℕ) (y : Object) → object_at (result_moved p i runs v e h) n ≡ Some y → IsOlderAtResult p i runs v e h n y
  result_back (Some c) n y at = as_before (Some c) n y at
  result_back None n y at = go (owning_in runs && not (is_alias runs)) refl at
    where
      go : (b : Bool) → (owning_in runs && not (is_alias runs)) ≡ b → object_at (if b then moved_as p i (result_in runs) v h else h) n ≡ Some y → IsOlderAtResult p i runs v None h n y
      go true is at' = let parts = and_parts (owning_in runs) (not (is_alias runs)) is in by_type n y parts.0 (not-true (is_alias runs) parts.1) (result_in runs) refl at'
      go false is at' = as_before None n y at'

  -- the result is the caller's
  pub result_takes : (t : VType) (n : ℕ) (x y : Object) → owning_in runs ≡ true → alias_position runs ≡ None → result_in runs ≡ Some t → root_of h v ≡ Some n → object_at h n ≡ Some x
      → may_move p t x ≡ true → object_at (result_moved p i runs v None h) n ≡ Some y → y.owner ≡ owners.Frame i
  result_takes t n x y owning alias result root at may now = moved_takes p t (owners.Frame i) v h n x y root at may (rw (owning, alias, result) at now)

  as_count : (t : Option VType) → next_number (moved_as p i t v h) ≡ next_number h
  as_count None = refl
  as_count (Some t) = moved_count p t (owners.Frame i) v h

  result_count : (e : Option ClassId) → next_number (result_moved p i runs v e h) ≡ next_number h
  result_count (Some c) = refl
  result_count None = go (owning_in runs && not (is_alias runs))
    where
      go : (b : Bool) → next_number (if b then moved_as p i (result_in runs) v h else h) ≡ next_number h
      go true = as_count (result_in runs)
      go false = refl

-- ---- the frame

constructor_count : (self : Value) (runs : Option Method) (e : Option ClassId) (h : HeapContents) → next_number (constructor_ended self runs e h) ≡ next_number h
constructor_count self runs None h = refl
constructor_count self runs (Some c) h = go (constructs runs)
  where
    go : (b : Bool) → next_number (if b then end_holder (number_of self) h else h) ≡ next_number h
    go true = holder_count (number_of self) h
    go false = refl

-- an object of the heap when the constructor has ended
constructor_back : (self : Value) (runs : Option Method) (e : Option ClassId) (h : HeapContents) (n : ℕ) (y : Object) → object_at (constructor_ended self runs e h) n ≡ Some y
    → (x : Object) × (object_at h n ≡ Some x) × IsKeptOr (is_held (number_of self) x) x y
constructor_back self runs None h n y at = (y, at, inl refl)
constructor_back self runs (Some c) h n y at = go (constructs runs) at
  where
    go : (b : Bool) → object_at (if b then end_holder (number_of self) h else h) n ≡ Some y → (x : Object) × (object_at h n ≡ Some x) × IsKeptOr (is_held (number_of self) x) x y
    go true at' = holder_back (number_of self) h n y at'
    go false at' = (y, at', inl refl)

constructor_leaks : (p : Program) (pos : Pos) (self : Value) (runs : Option Method) (e : Option ClassId) (h : HeapContents)
    → ((n : ℕ) (x : Object) (k : ℕ) → object_at h n ≡ Some x → is_held_by x.owner k ≡ true → is_unmet x ≡ false)
    → leak_entries p words.ConstructorThrow pos h (constructor_ended self runs e h) ≡ []
constructor_leaks p pos self runs None h met = leaks_unchanged p words.ConstructorThrow pos h
constructor_leaks p pos self runs (Some c) h met = go (constructs runs)
  where
    go : (b : Bool) → leak_entries p words.ConstructorThrow pos h (if b then end_holder (number_of self) h else h) ≡ []
    go true = holder_none p words.ConstructorThrow pos (number_of self) h met
    go false = leaks_unchanged p words.ConstructorThrow pos h

-- some number holds what is held
held_by_some : (w : Option ℕ) (x : Object) → is_held w x ≡ true → (k : ℕ) × (is_held_by x.owner k ≡ true)
held_by_some None x is = absurd (true≢false (sym is))
held_by_some (Some w) x is = (w, is)

-- what may move is finished
pub finished_by : (p : Program) (t : VType) (x : Object) → may_move p t x ≡ true → x.finished ≡ true
finished_by p t x may =
    let parts = and_parts (x.finished && not (is_library_owner x.owner)) (set.is_subset (must_of p x.class) (must_of_type p t)) may in
    (and_parts x.finished (not (is_library_owner x.owner)) parts.0).0

unowned_kept : (test : Bool) (x y : Object) → IsKeptOr test x y → test ≡ false → y ≡ x
unowned_kept test x y (inl same) never = same
unowned_kept test x y (inr given) never = absurd (true≢false (sym given.0 ∙ never))

held_none : (w : Option ℕ) (x : Object) → x.owner ≡ owners.Unowned → is_held w x ≡ false
held_none None x none = refl
held_none (Some k) x none = ap (λ (o : Owner). is_held_by o k) none

module _ (p : Program) (i : ℕ) (self : Value) (runs : Option Method) (v : Value) (e : Option ClassId) (h : HeapContents) where
  pub gone_back : (n : ℕ) (y : Object) → object_at (frame_gone p i self runs v e h) n ≡ Some y → (x : Object) × (object_at (result_moved p i runs v e h) n ≡ Some x) × GoesOn x y
  gone_back n y at =
      let z = constructor_back self runs e (frame_ended p i runs v e h) n y at in
      let x = frame_back (i + 1) (result_moved p i runs v e h) n z.0 z.1 in
      (x.0, x.1, goes_on_further x.0 z.0 y (kept_goes_on (is_frame x.0.owner (i + 1)) x.0 z.0 x.2) (kept_goes_on (is_held (number_of self) z.0) z.0 y z.2))

  pub gone_count : next_number (frame_gone p i self runs v e h) ≡ next_number h
  gone_count =
      constructor_count self runs e (frame_ended p i runs v e h) ∙ frame_count (i + 1) (result_moved p i runs v e h) ∙ result_count p i runs v h e

  -- an object that is not finished, and that nobody owns, stays so
  pub gone_unowned : (n : ℕ) (x y : Object) → object_at h n ≡ Some x → x.finished ≡ false → x.owner ≡ owners.Unowned → object_at (frame_gone p i self runs v e h) n ≡ Some y
      → (y.finished ≡ false) × (y.owner ≡ owners.Unowned)
  gone_unowned n x y before unmade none at =
      let z = constructor_back self runs e (frame_ended p i runs v e h) n y at in
      let u = frame_back (i + 1) (result_moved p i runs v e h) n z.0 z.1 in
      let old = result_back p i runs v h e n u.0 u.1 in
      let same : old.before ≡ x = one_object old.before x (object_at h n) old.at before in
      let unmade' : old.before.finished ≡ false = ap (λ (w : Object). w.finished) same ∙ unmade in
      let none' : old.before.owner ≡ owners.Unowned = ap (λ (w : Object). w.owner) same ∙ none in
      let owner : u.0.owner ≡ owners.Unowned = elim old.owner [
        | inl kept ↦ kept ∙ none'
        | inr returned ↦ absurd (true≢false (sym (finished_by p returned.type old.before returned.may) ∙ unmade'))
      ] in
      let first : z.0 ≡ u.0 = unowned_kept (is_frame u.0.owner (i + 1)) u.0 z.0 u.2 (ap (λ (o : Owner). is_frame o (i + 1)) owner) in
      let owner' : z.0.owner ≡ owners.Unowned = ap (λ (w : Object). w.owner) first ∙ owner in
      let second : y ≡ z.0 = unowned_kept (is_held (number_of self) z.0) z.0 y z.2 (held_none (number_of self) z.0 owner') in
      (ap (λ (w : Object). w.finished) (second ∙ first) ∙ old.goes_on.finished ∙ unmade', ap (λ (w : Object). w.owner) second ∙ owner')

  -- where the frame owns nothing unmet when its result has moved, and no field does, nothing unmet is given up
  module _ (none : (n : ℕ) (x : Object) → object_at (result_moved p i runs v e h) n ≡ Some x → is_unmet x ≡ true → is_frame x.owner (i + 1) ≡ true → ⊥)
      (free : (n : ℕ) (x : Object) (k : ℕ) → object_at (result_moved p i runs v e h) n ≡ Some x → is_unmet x ≡ true → is_held_by x.owner k ≡ true → ⊥) where
    unmet_at_end : (n : ℕ) (y : Object) → object_at (frame_ended p i runs v e h) n ≡ Some y → is_unmet y ≡ true → object_at (result_moved p i runs v e h) n ≡ Some y
    unmet_at_end n y at unmet =
        let x = frame_back (i + 1) (result_moved p i runs v e h) n y at in
        elim x.2 [
          | inl same ↦ x.1 ∙ ap Some (sym same)
          | inr given ↦ absurd (none n x.0 x.1 (subst (λ (z : Object). is_unmet z ≡ true) given.1 unmet) given.0)
        ]

    pub gone_unmet : (n : ℕ) (y : Object) → object_at (frame_gone p i self runs v e h) n ≡ Some y → is_unmet y ≡ true → object_at (result_moved p i runs v e h) n ≡ Some y
    gone_unmet n y at unmet =
        let x = constructor_back self runs e (frame_ended p i runs v e h) n y at in
        elim x.2 [
          | inl same ↦ unmet_at_end n y (x.1 ∙ ap Some (sym same)) unmet
          | inr given ↦
              let unmet' : is_unmet x.0 ≡ true = subst (λ (z : Object). is_unmet z ≡ true) given.1 unmet in
              let held = held_by_some (number_of self) x.0 given.0 in
              absurd (free n x.0 held.0 (unmet_at_end n x.0 x.1 unmet') unmet' held.1)
        ]

    pub end_leaks_nothing : (pos : Pos) → frame_end_leaks p pos i self runs v e h ≡ []
    end_leaks_nothing pos =
        ap (λ (es : List Entry). es ++ leak_entries p words.ConstructorThrow pos (frame_ended p i runs v e h) (frame_gone p i self runs v e h))
        (end_none p words.Exit pos (i + 1) (result_moved p i runs v e h) (λ n x at frame. not_true (is_unmet x) (λ unmet. none n x at unmet frame)))
        ∙ constructor_leaks p pos self runs e (frame_ended p i runs v e h)
        (λ n x k at held. not_true (is_unmet x) (λ unmet. free n x k (unmet_at_end n x at unmet) unmet held))

-- ---- the call

-- the object of a `new` that is no alias
made_own : (p : Program) (i : ℕ) (self : Value) (a : Action) (named : Option Method) (argument : Option ℕ) (n : ℕ) (notes : List Note) (z : Object) → is_new a ≡ true → number_of self ≡ Some n
    → is_alias named ≡ false → IsFinished p i self a named None n z (object_finished p i named argument (noted_object notes n z))
made_own p i self a named argument n notes z new is plain = record {
  normal = refl;
  new = new;
  own = plain;
  self = is;
  class = rw plain refl;
  finished = rw plain refl;
  link = rw plain refl;
  must = rw plain refl;
  owner = rw plain refl;
  called = rw plain refl;
}

-- and of one that is
made_alias : (p : Program) (i : ℕ) (self : Value) (a : Action) (named : Option Method) (argument : Option ℕ) (n : ℕ) (notes : List Note) (z : Object) → is_new a ≡ true → number_of self ≡ Some n
    → is_alias named ≡ true → IsMadeAlias p self a named argument None n z (object_finished p i named argument (noted_object notes n z))
made_alias p i self a named None n notes z new is alias = record {
  normal = refl;
  new = new;
  alias = alias;
  self = is;
  class = rw alias refl;
  finished = rw alias refl;
  called = rw alias refl;
  linked = rw alias (refl, refl, refl);
}
made_alias p i self a named (Some w) n notes z new is alias = record {
  normal = refl;
  new = new;
  alias = alias;
  self = is;
  class = rw alias refl;
  finished = rw alias refl;
  called = rw alias refl;
  linked = rw alias (refl, refl, refl);
}

-- what is made has its number already
module _ (p : Program) (i : ℕ) (a : Action) (named : Option Method) where
  self_count : (w alias : Option ℕ) (k : HeapContents) → next_number (self_finished p i named w alias k) ≡ next_number k
  self_count None alias k = refl
  self_count (Some n) alias k = changed_count (only_at n (object_finished p i named alias)) k

  new_count : (b : Action) (w alias : Option ℕ) (k : HeapContents) → next_number (finished_by_new p i b named w alias k) ≡ next_number k
  new_count actions.Skip w alias k = refl
  new_count (actions.New m d c) w alias k = self_count w alias k
  new_count b w alias k = refl

  pub birth_count : (e : Option ClassId) (w alias : Option ℕ) (k : HeapContents) → next_number (program_birth p i a named w alias e k) ≡ next_number k
  birth_count None w alias k = new_count a w alias k
  birth_count (Some c) w alias k = refl

module _ (p : Program) (i : ℕ) (self : Value) (l : Locals) (a : Action) (named : Option Method) (g : HeapContents) (no_reset : reset_position named ≡ None) where
  abbrev pub AllNotes : HeapContents → ℕ → Object → Object → Type 0
  AllNotes k n x y = noted_object (all_notes p k (receiver_note l a named)) n x ≡ y

  pub reset_nothing : returned_reset p l a named g ≡ returned_called p l a named g
  reset_nothing = rw no_reset (unchanged (reset_in p (returned_called p l a named g) []) (returned_called p l a named g) (λ k x at. refl))

  -- an object before the one that is made is finished
  abbrev pub IsNoted : ℕ → Object → Type 0
  IsNoted n y = (x : Object) × (object_at g n ≡ Some x) × AllNotes g n x y

  pub noted_back : (n : ℕ) (y : Object) → object_at (returned_reset p l a named g) n ≡ Some y → IsNoted n y
  noted_back n y at = changed_back (noted_object (all_notes p g (receiver_note l a named))) g n y (subst (λ (k : HeapContents). object_at k n ≡ Some y) reset_nothing at)

  abbrev pub argument : Option ℕ
  argument = alias_target (operand_of l a) named

  abbrev pub IsFrom : Option ClassId → ℕ → Object → Type 0
  IsFrom e n y = ((z : Object) × (object_at g n ≡ Some z) × IsFinished p i self a named e n z y) ⊎ (((z : Object) × (object_at g n ≡ Some z) × IsMadeAlias p self a named argument e n z y) ⊎ IsNoted n y)

  finish : (n : ℕ) (x y : Object) → is_new a ≡ true → number_of self ≡ Some n → IsNoted n x → object_finished p i named argument x ≡ y → IsFrom None n y
  finish n x y new is z same = go (is_alias named) refl
    where
      go : (b : Bool) → is_alias named ≡ b → IsFrom None n y
      go true alias = inr (inl (
        z.0,
        z.1,
        subst (IsMadeAlias p self a named argument None n z.0) same
            (subst (λ (w : Object). IsMadeAlias p self a named argument None n z.0 (object_finished p i named argument w)) z.2 (made_alias p i self a named argument n (all_notes p g (receiver_note l a named)) z.0 new is alias)),
      ))
      go false plain = inl (
        z.0,
        z.1,
        subst (IsFinished p i self a named None n z.0) same
            (subst (λ (w : Object). IsFinished p i self a named None n z.0 (object_finished p i named argument w)) z.2 (made_own p i self a named argument n (all_notes p g (receiver_note l a named)) z.0 new is plain)),
      )

  by_self : (w : Option ℕ) → number_of self ≡ w → is_new a ≡ true → (n : ℕ) (y : Object) → object_at (self_finished p i named w argument (returned_reset p l a named g)) n ≡ Some y → IsFrom None n y
  by_self None is new n y at = inr (inr (noted_back n y at))
  by_self (Some k) is new n y at =
      let x = changed_back (only_at k (object_finished p i named argument)) (returned_reset p l a named g) n y at in
      go x.0 (noted_back n x.0 x.1) (nat_eq n k) refl x.2
    where
      go : (x : Object) → IsNoted n x → (b : Bool) → nat_eq n k ≡ b → (if b then object_finished p i named argument x else x) ≡ y → IsFrom None n y
      go x z true here same = finish n x y new (is ∙ ap Some (sym (eqb-true n k here))) z same
      go x z false other same = inr (inr (subst (IsNoted n) same z))

  by_action : (b : Action) → a ≡ b → (n : ℕ) (y : Object) → object_at (finished_by_new p i b named (number_of self) argument (returned_reset p l a named g)) n ≡ Some y → IsFrom None n y
  by_action actions.Skip is n y at = inr (inr (noted_back n y at))
  by_action (actions.New m d c) is n y at = by_self (number_of self) refl (ap is_new is) n y at
  by_action b is n y at = inr (inr (noted_back n y at))

  pub end_back : (e : Option ClassId) (n : ℕ) (y : Object) → object_at (call_ended p i self l a named e g) n ≡ Some y → IsFrom e n y
  end_back None n y at = by_action a refl n y at
  end_back (Some c) n y at = inr (inr (noted_back n y at))

  pub end_count : (e : Option ClassId) → next_number (call_ended p i self l a named e g) ≡ next_number g
  end_count e =
      birth_count p i a named e (number_of self) (alias_target (operand_of l a) named) (returned_reset p l a named g)
      ∙ ap next_number reset_nothing ∙ changed_count (noted_object (all_notes p g (receiver_note l a named))) g

-- no line of the call's end is a leak
pub end_lines : (p : Program) (at : Pos) (i : ℕ) (self : Value) (l : Locals) (a : Action) (named : Option Method) (e : Option ClassId) (g h k : HeapContents)
    → list_any is_leak (call_end_entries p at i self l a named e g ++ owner_entries p at h k) ≡ false
end_lines p at i self l a named e g h k =
    any_in_both (call_end_entries p at i self l a named e g) (owner_entries p at h k)
    (any_in_both (called_entries p at g (returned_called p l a named g) ++ reset_entries p at (returned_roots p l a named g) (returned_called p l a named g))
    (birth_entries p at (returned_reset p l a named g) (call_ended p i self l a named e g))
    (any_in_both (called_entries p at g (returned_called p l a named g)) (reset_entries p at (returned_roots p l a named g) (returned_called p l a named g))
    (called_none p at g (returned_called p l a named g)) (reset_none p at (returned_roots p l a named g) (returned_called p l a named g)))
    (birth_none p at (returned_reset p l a named g) (call_ended p i self l a named e g)))
    (owner_none p at h k)
