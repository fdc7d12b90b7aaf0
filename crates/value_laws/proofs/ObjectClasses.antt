-- Each step leaves each object its class, and what it makes is of the class that the step names.
use Rattle.std.proofs.Common.{◌≡◌, ◌∙◌, ℕ, ◌+◌, Bool, true, false, Option, Some, None, List, [], ◌∷◌, ◌&&◌, not, option_map, refl, sym, ap, nat_eq, eq-eqb, eqb-true, arith, if◌then◌else◌}
use Rattle.std.specs.FinSet as set
use Rattle.rlc_base.specs.declared.place.Pos.{Pos}
use Rattle.program_model.specs.declared.kinds.ClassId.{ClassId}
use Rattle.program_model.specs.declared.kinds.FieldId.{FieldId}
use Rattle.program_model.specs.declared.kinds.MethodId.{MethodId}
use Rattle.program_model.specs.declared.kinds.VType.{VType}
use Rattle.program_model.specs.declared.program.Method.{Method}
use Rattle.program_model.specs.declared.program.ParamSig.{ParamSig}
use Rattle.program_model.specs.declared.program.Program.{Program}
use Rattle.program_model.specs.Lookups.{method_at}
use Rattle.java_control.specs.Owned.{is_owning}
use Rattle.control_actions.specs.declared.action.Action.{Action}
use Rattle.control_actions.specs.declared.action.Action.TheVariants as actions
use Rattle.stub_conduct.specs.declared.choice.Conduct.{Conduct}
use Rattle.stub_conduct.specs.declared.choice.Conduct.TheVariants as conducts
use Rattle.ledger_state.specs.Classes.{class_in}
use Rattle.ledger_state.specs.Contents.{HeapContents}
use Rattle.ledger_state.specs.Fields.{field_of}
use Rattle.ledger_state.specs.Heaps.{append, change_each, change_one, change_some, next_number, object_at, only_at, root, root_of, is_reached, put_field, unfinished}
use Rattle.ledger_state.specs.Values.{number_of}
use Rattle.ledger_state.specs.declared.entry.Owner.{Owner}
use Rattle.ledger_state.specs.declared.entry.Owner.TheVariants as owners
use Rattle.ledger_state.specs.declared.locals.Locals.{Locals}
use Rattle.ledger_state.specs.declared.object.Object.{Object}
use Rattle.ledger_state.specs.declared.value.Value.{Value}
use Rattle.ledger_state.specs.declared.value.Value.TheVariants as values
use Rattle.ledger_steps.specs.Obligations.{alias_born, all_notes, displaced, displaces, emptied, end_frame, end_holder, finished, first_set, given_up, given_up_by_frame, given_up_by_holder, holder_roots, is_frame, is_held_by, lose, lost_object, may_move, move, moved_in, moved_to, moved_where, moves_in, noted_object, released_where, reset_in, reset_roots, stored_owning, with_owner}
use Rattle.ledger_steps.specs.Bodies.{constructs}
use Rattle.ledger_steps.specs.MustCallSets.{must_of}
use Rattle.ledger_steps.specs.LedgerCallsCalls.{alias_target, arguments_moved, is_alias, move_param, move_params, operand_of, params_in, position_of, receiver_note}
use Rattle.ledger_steps.specs.Conducts.{first_in, fresh_born, library_birth, library_notes, object_made, owning_in, result_in, result_owner}
use Rattle.ledger_steps.specs.CallSteps.{began_heap, library_called, library_heap, library_made, library_reset, library_roots, library_done, object_begun, object_of_new, started}
use Rattle.ledger_steps.specs.Ends.{call_ended, constructor_ended, finished_by_new, frame_ended, frame_gone, main_gone, moved_as, object_finished, program_birth, result_moved, returned, returned_called, returned_heap, returned_reset, returned_roots, self_finished}
use Rattle.ledger_steps.specs.InnerSteps.{heap_stored, inner, is_bound, store_of, store_unless, thrown_heap}
use Rattle.ledger_steps.specs.declared.store.Store.{Store}
use Rattle.dispatch_laws.proofs.HeapLaws.{appended_object_at-object, changed_object_at-count, changed_object_at-object, numbers_are_in_range}
use Rattle.value_laws.specs.Objects.{KeepsClasses, object_class}

-- ---- objects that change

-- the change leaves each object its class
abbrev LeavesClass : (ℕ → Object → Object) → Type 0
LeavesClass f = (n : ℕ) (x : Object) → (f n x).class ≡ x.class

changed_class : (f : ℕ → Object → Object) (h : HeapContents) (n : ℕ) → LeavesClass f → object_class (change_each f h) n ≡ object_class h n
changed_class f h n leaves = ap class_in (changed_object_at-object f h n) ∙ go (object_at h n)
  where
    go : (x : Option Object) → class_in (option_map (f n) x) ≡ class_in x
    go None = refl
    go (Some x) = ap Some (leaves n x)

-- one of two objects of the class
either_class : (b : Bool) (x y z : Object) → y.class ≡ x.class → z.class ≡ x.class → (if b then y else z).class ≡ x.class
either_class true x y z one other = one
either_class false x y z one other = other

one_class : (k : ℕ) (f : Object → Object) → ((x : Object) → (f x).class ≡ x.class) → LeavesClass (only_at k f)
one_class k f leaves n x = either_class (nat_eq n k) x (f x) x (leaves x) refl

changed_one : (k : ℕ) (f : Object → Object) (h : HeapContents) (n : ℕ) → ((x : Object) → (f x).class ≡ x.class) → object_class (change_one k f h) n ≡ object_class h n
changed_one k f h n leaves = changed_class (only_at k f) h n (one_class k f leaves)

changed_some : (k : Option ℕ) (f : Object → Object) (h : HeapContents) (n : ℕ) → ((x : Object) → (f x).class ≡ x.class) → object_class (change_some k f h) n ≡ object_class h n
changed_some None f h n leaves = refl
changed_some (Some k) f h n leaves = changed_one k f h n leaves

-- ---- what becomes of obligations

moved_class : (p : Program) (t : VType) (o : Owner) (v : Value) (h : HeapContents) (n : ℕ) → object_class (move p t o v h) n ≡ object_class h n
moved_class p t o v h n = changed_some (root_of h v) (moved_to p t o) h n (λ x. either_class (may_move p t x) x (with_owner o x) x refl refl)

lost_class : (held : List (List Value)) (h : HeapContents) (n : ℕ) → object_class (lose held h) n ≡ object_class h n
lost_class held h n = changed_class (lost_object h held) h n (λ k x. either_class _ x (with_owner owners.Lost x) x refl refl)

frame_class : (j : ℕ) (h : HeapContents) (n : ℕ) → object_class (end_frame j h) n ≡ object_class h n
frame_class j h n = changed_class (given_up_by_frame j) h n (λ k x. either_class (is_frame x.owner j) x (given_up x) x refl refl)

holder_class : (w : Option ℕ) (h : HeapContents) (n : ℕ) → object_class (end_holder w h) n ≡ object_class h n
holder_class None h n = refl
holder_class (Some w) h n = changed_class (given_up_by_holder w) h n (λ k x. either_class (is_held_by x.owner w) x (given_up x) x refl refl)

reset_class : (p : Program) (roots : List ℕ) (h : HeapContents) (n : ℕ) → object_class (reset_roots p roots h) n ≡ object_class h n
reset_class p roots h n = changed_class (reset_in p h roots) h n (λ k x. either_class (is_reached h roots k) x (emptied p (nat_eq (root h k) k) x) x (emptied_class (nat_eq (root h k) k) x) refl)
  where
    emptied_class : (b : Bool) (x : Object) → (emptied p b x).class ≡ x.class
    emptied_class true x = refl
    emptied_class false x = refl

params_class : (p : Program) (o : Owner) (arguments : ℕ → Value) (k : ℕ) (qs : List ParamSig) (h : HeapContents) (n : ℕ) → object_class (move_params p o arguments k qs h) n ≡ object_class h n
params_class p o arguments k [] h n = refl
params_class p o arguments k (q ∷ qs) h n = params_class p o arguments (k + 1) qs (move_param p o (arguments k) q h) n ∙ go q.owning
  where
    go : (b : Bool) → object_class (if b then move p q.vtype o (arguments k) h else h) n ≡ object_class h n
    go true = moved_class p q.vtype o (arguments k) h n
    go false = refl

alias_class : (p : Program) (by : Bool) (k : Option ℕ) (x : Object) → (alias_born p by k x).class ≡ x.class
alias_class p by None x = refl
alias_class p by (Some k) x = refl

-- ---- an object that is made

made_class : (h : HeapContents) (c : ClassId) (n : ℕ) → (nat_eq n (next_number h) ≡ true → object_class (append h c) n ≡ Some c) × (nat_eq n (next_number h) ≡ false → object_class (append h c) n ≡ object_class h n)
made_class h c n = (λ is. at ∙ ap (λ (b : Bool). class_in (if b then Some (unfinished c) else object_at h n)) is, λ is. at ∙ ap (λ (b : Bool). class_in (if b then Some (unfinished c) else object_at h n)) is)
  where
    at : object_class (append h c) n ≡ class_in (if nat_eq n (next_number h) then Some (unfinished c) else object_at h n)
    at = ap class_in (appended_object_at-object h c n)

pub appended_class : (h : HeapContents) (c : ClassId) → object_class (append h c) (next_number h) ≡ Some c
appended_class h c = (made_class h c (next_number h)).0 (eq-eqb (next_number h) (next_number h) refl)

appended_keeps : (h : HeapContents) (c : ClassId) → KeepsClasses h (append h c)
appended_keeps h c n d is = go (nat_eq n (next_number h)) refl
  where
    there : (x : Option Object) → object_at h n ≡ x → class_in x ≡ Some d → n ≡ next_number h → ⊥
    there None at some same = let never : None ≡ Some d = some in cc
    there (Some x) at some same = let below = (numbers_are_in_range h n x at).1 in omega (arith, below, same)

    go : (b : Bool) → nat_eq n (next_number h) ≡ b → object_class (append h c) n ≡ Some d
    go true same = absurd (there (object_at h n) refl is (eqb-true n (next_number h) same))
    go false other = (made_class h c n).1 other ∙ is

-- ---- steps of heaps

same_keeps : (h k : HeapContents) → ((n : ℕ) → object_class k n ≡ object_class h n) → KeepsClasses h k
same_keeps h k same n c is = same n ∙ is

moved_count : (p : Program) (t : VType) (o : Owner) (v : Value) (h : HeapContents) → next_number (move p t o v h) ≡ next_number h
moved_count p t o v h = go (root_of h v)
  where
    go : (r : Option ℕ) → next_number (change_some r (moved_to p t o) h) ≡ next_number h
    go None = refl
    go (Some r) = changed_object_at-count (only_at r (moved_to p t o)) h

params_count : (p : Program) (o : Owner) (arguments : ℕ → Value) (k : ℕ) (qs : List ParamSig) (h : HeapContents) → next_number (move_params p o arguments k qs h) ≡ next_number h
params_count p o arguments k [] h = refl
params_count p o arguments k (q ∷ qs) h = params_count p o arguments (k + 1) qs (move_param p o (arguments k) q h) ∙ go q.owning
  where
    go : (b : Bool) → next_number (if b then move p q.vtype o (arguments k) h else h) ≡ next_number h
    go true = moved_count p q.vtype o (arguments k) h
    go false = refl

-- ---- a step within a frame

module _ (p : Program) (h : HeapContents) (w : ℕ) (f : FieldId) (bound : Bool) (v : Value) (n : ℕ) where
  displaced_class : object_class (displaced p h w f v) n ≡ object_class h n
  displaced_class = go (displaces h w f (field_of p h (values.Object w) f) v) (root_of h (field_of p h (values.Object w) f))
    where
      go : (b : Bool) (r : Option ℕ) → object_class (released_where b r h) n ≡ object_class h n
      go true r = changed_some r given_up h n (λ x. refl)
      go false r = refl

  moved_in_class : object_class (moved_in p h w f bound v) n ≡ object_class h n
  moved_in_class = go (moves_in p h f bound v) (root_of h v) ∙ displaced_class
    where
      go : (b : Bool) (r : Option ℕ) → object_class (moved_where b r (owners.Field w f) (displaced p h w f v)) n ≡ object_class (displaced p h w f v) n
      go true r = changed_some r (with_owner (owners.Field w f)) (displaced p h w f v) n (λ x. refl)
      go false r = refl

  owning_class : object_class (stored_owning p h w f bound v) n ≡ object_class h n
  owning_class = reset_class p (holder_roots p h w f bound v) (moved_in p h w f bound v) n ∙ moved_in_class

stored_class : (p : Program) (m : Option Method) (l : Locals) (s : Option Store) (h : HeapContents) (n : ℕ) → object_class (heap_stored p m l s h) n ≡ object_class h n
stored_class p m l None h n = refl
stored_class p m l (Some s) h n = go (is_owning p s.field)
  where
    go : (b : Bool) → object_class (if b then stored_owning p h s.holder s.field (is_bound h m l s.value) s.value else put_field s.holder s.field s.value h) n ≡ object_class h n
    go true = owning_class p h s.holder s.field (is_bound h m l s.value) s.value n
    go false = refl

thrown_keeps : (p : Program) (e : Option ClassId) (h : HeapContents) → KeepsClasses h (thrown_heap p e h)
thrown_keeps p None h n c is = is
thrown_keeps p (Some e) h n c is = changed_one (next_number h) (finished (must_of p e) owners.Library) (append h e) n (λ x. refl) ∙ appended_keeps h e n c is

pub inner_keeps : (p : Program) (h : HeapContents) (m : MethodId) (l : Locals) (e : Option ClassId) (a : Action) (pos : Pos) (held : List (List Value)) → KeepsClasses h (inner p h m l e a pos held).heap
inner_keeps p h m l e a pos held n c is =
    lost_class held (heap_stored p (method_at p m) l (store_unless e (store_of l a)) (thrown_heap p e h)) n
    ∙ stored_class p (method_at p m) l (store_unless e (store_of l a)) (thrown_heap p e h) n ∙ thrown_keeps p e h n c is

-- ---- a call that begins

module _ (p : Program) (h : HeapContents) (l : Locals) (a : Action) (named : Option Method) (j : ℕ) (pos : Pos) (held : List (List Value)) where
  started_class : (n : ℕ) → object_class (started p h l a named j pos held).heap n ≡ object_class (object_of_new a named h) n
  started_class n = lost_class held (began_heap p l a named j h) n ∙ params_class p (owners.Frame j) (operand_of l a) 1 (params_in named) (object_of_new a named h) n

  object_keeps : (b : Action) → KeepsClasses h (object_of_new b named h)
  object_keeps (actions.New m d n) i c is = go named i c is
    where
      go : (x : Option Method) → KeepsClasses h (object_begun x h)
      go None i c is = is
      go (Some x) i c is = appended_keeps h x.class i c is
  object_keeps actions.Skip i c is = is
  object_keeps b i c is = is

  pub started_keeps : KeepsClasses h (started p h l a named j pos held).heap
  started_keeps n c is = started_class n ∙ object_keeps a n c is

-- the object of a `new` is of the class of the constructor
pub begun_class : (p : Program) (h : HeapContents) (l : Locals) (m : MethodId) (d n : ℕ) (x : Method) (j : ℕ) (pos : Pos) (held : List (List Value))
    → object_class (started p h l (actions.New m d n) (Some x) j pos held).heap (next_number h) ≡ Some x.class
begun_class p h l m d n x j pos held = started_class p h l (actions.New m d n) (Some x) j pos held (next_number h) ∙ appended_class h x.class

-- ---- a call of the library

module _ (p : Program) (h : HeapContents) (l : Locals) (a : Action) (named m : Option Method) (i : ℕ) (pos : Pos) (held : List (List Value)) where
  abbrev given : HeapContents
  given = arguments_moved p owners.Library l a named h

  given_keeps : KeepsClasses h given
  given_keeps = same_keeps h given (params_class p owners.Library (operand_of l a) 1 (params_in named) h)

  birth_class : (d : Conduct) (k : HeapContents) (n : ℕ) → object_class (library_birth p l a m i (next_number h) d k) n ≡ object_class k n
  birth_class (conducts.Throws e) k n = changed_one (next_number h) (finished (first_set p e None) owners.Library) k n (λ x. refl)
  birth_class (conducts.Fresh e) k n = changed_one (next_number h) (fresh_born p e m a i (position_of None l a)) k n (λ x. born x (is_alias m))
    where
      born : (x : Object) (b : Bool) → (if b then alias_born p true (alias_target (position_of None l a) m) x else finished (first_set p e (first_in m)) (result_owner a m i) x).class ≡ x.class
      born x true = alias_class p true (alias_target (position_of None l a) m) x
      born x false = refl
  birth_class conducts.Null k n = refl
  birth_class (conducts.Existing j) k n = refl
  birth_class conducts.Argument k n = refl
  birth_class (conducts.Value z) k n = refl
  birth_class conducts.Nothing k n = refl

  library_class : (d : Conduct) (n : ℕ) → object_class (library_done p h l a named m d i pos held).heap n ≡ object_class (object_made d given) n
  library_class d n =
      lost_class held (library_heap p l a named m d i h) n
      ∙ birth_class d (library_reset p l a named m d h) n
      ∙ reset_class p (library_roots p l a named m d h) (library_called p l a named m d h) n
      ∙ changed_class (noted_object (all_notes p (library_made p l a named d h) (library_notes p (library_made p l a named d h) l a named m (next_number h) d))) (library_made p l a named d h) n (λ k x. refl)

  made_keeps : (d : Conduct) → KeepsClasses given (object_made d given)
  made_keeps (conducts.Throws e) n c is = appended_keeps given e n c is
  made_keeps (conducts.Fresh e) n c is = appended_keeps given e n c is
  made_keeps conducts.Null n c is = is
  made_keeps (conducts.Existing j) n c is = is
  made_keeps conducts.Argument n c is = is
  made_keeps (conducts.Value z) n c is = is
  made_keeps conducts.Nothing n c is = is

  pub library_keeps : (d : Conduct) → KeepsClasses h (library_done p h l a named m d i pos held).heap
  library_keeps d n c is = library_class d n ∙ made_keeps d n c (given_keeps n c is)

  -- the fresh object is of the class that the conduct gives
  pub fresh_class : (e : ClassId) → object_class (library_done p h l a named m (conducts.Fresh e) i pos held).heap (next_number h) ≡ Some e
  fresh_class e =
      library_class (conducts.Fresh e) (next_number h)
      ∙ ap (object_class (append given e)) (sym (params_count p owners.Library (operand_of l a) 1 (params_in named) h))
      ∙ appended_class given e

-- ---- a frame that ends

pub main_keeps : (p : Program) (h : HeapContents) (pos : Pos) → KeepsClasses h (main_gone p h pos).heap
main_keeps p h pos = same_keeps h (main_gone p h pos).heap (frame_class 1 h)

module _ (p : Program) (h : HeapContents) (i : ℕ) (self : Value) (l : Locals) (a : Action) (runs named : Option Method) (v : Value) (n : ℕ) where
  result_class : (e : Option ClassId) → object_class (result_moved p i runs v e h) n ≡ object_class h n
  result_class (Some e) = refl
  result_class None = go (owning_in runs && not (is_alias runs)) (result_in runs)
    where
      go : (b : Bool) (t : Option VType) → object_class (if b then moved_as p i t v h else h) n ≡ object_class h n
      go true None = refl
      go true (Some t) = moved_class p t (owners.Frame i) v h n
      go false t = refl

  gone_class : (e : Option ClassId) → object_class (frame_gone p i self runs v e h) n ≡ object_class h n
  gone_class e = by e ∙ frame_class (i + 1) (result_moved p i runs v e h) n ∙ result_class e
    where
      by : (e' : Option ClassId) → object_class (constructor_ended self runs e' (frame_ended p i runs v e h)) n ≡ object_class (frame_ended p i runs v e h) n
      by None = refl
      by (Some x) = go (constructs runs)
        where
          go : (b : Bool) → object_class (if b then end_holder (number_of self) (frame_ended p i runs v e h) else frame_ended p i runs v e h) n ≡ object_class (frame_ended p i runs v e h) n
          go true = holder_class (number_of self) (frame_ended p i runs v e h) n
          go false = refl

  -- the object of a `new` is finished as the call ends
  module _ (k : HeapContents) (alias : Option ℕ) where
    object_class_stays : (x : Object) → (object_finished p i named alias x).class ≡ x.class
    object_class_stays x = go (is_alias named)
      where
        go : (b : Bool) → (if b then alias_born p false alias (record x { called = set.empty }) else finished (must_of p x.class) (owners.Frame i) (record x { called = set.empty })).class ≡ x.class
        go true = alias_class p false alias (record x { called = set.empty })
        go false = refl

    self_class : (s : Option ℕ) → object_class (self_finished p i named s alias k) n ≡ object_class k n
    self_class None = refl
    self_class (Some s) = changed_one s (object_finished p i named alias) k n object_class_stays

    new_class : (b : Action) (s : Option ℕ) → object_class (finished_by_new p i b named s alias k) n ≡ object_class k n
    new_class (actions.New m d c) s = self_class s
    new_class actions.Skip s = refl
    new_class b s = refl

    birth_stays : (b : Action) (s : Option ℕ) (e : Option ClassId) → object_class (program_birth p i b named s alias e k) n ≡ object_class k n
    birth_stays b s None = new_class b s
    birth_stays b s (Some e) = refl

  call_class : (e : Option ClassId) (k : HeapContents) → object_class (call_ended p i self l a named e k) n ≡ object_class k n
  call_class e k =
      birth_stays (returned_reset p l a named k) (alias_target (operand_of l a) named) a (number_of self) e
      ∙ reset_class p (returned_roots p l a named k) (returned_called p l a named k) n
      ∙ changed_class (noted_object (all_notes p k (receiver_note l a named))) k n (λ j x. refl)

  ended_class : (e : Option ClassId) → object_class (returned_heap p i self l a runs named v e h) n ≡ object_class h n
  ended_class e = call_class e (frame_gone p i self runs v e h) ∙ gone_class e

pub returned_keeps : (p : Program) (h : HeapContents) (i : ℕ) (self : Value) (l : Locals) (a : Action) (runs named : Option Method) (v : Value) (e : Option ClassId) (pos at : Pos) (held : List (List Value))
    → KeepsClasses h (returned p h i self l a runs named v e pos at held).heap
returned_keeps p h i self l a runs named v e pos at held n c is =
    lost_class held (returned_heap p i self l a runs named v e h) n ∙ ended_class p h i self l a runs named v n e ∙ is
