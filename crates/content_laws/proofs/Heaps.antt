-- The heap after each kind of step, as it goes on for what owning fields hold and own.
use Rattle.std.specs.Prelude.{◌<◌}
use Rattle.std.proofs.Common.{◌≡◌, ℕ, Bool, true, false, Option, Some, None, List, [], ◌∷◌, refl, sym, ap, subst, if◌then◌else◌}
use Rattle.rlc_base.specs.declared.name_id.NameId.{NameId}
use Rattle.program_model.specs.declared.kinds.ClassId.{ClassId}
use Rattle.program_model.specs.declared.kinds.FieldId.{FieldId}
use Rattle.program_model.specs.declared.program.Method.{Method}
use Rattle.program_model.specs.declared.program.Program.{Program}
use Rattle.must_call_sets.specs.MustCallSets.{must_of}
use Rattle.control_actions.specs.declared.action.Action.{Action}
use Rattle.control_actions.specs.declared.action.Action.TheVariants as actions
use Rattle.covering_laws.specs.Outcomes.{IsCallRow}
use Rattle.stub_conduct.specs.declared.choice.Conduct.{Conduct}
use Rattle.stub_conduct.specs.declared.choice.Conduct.TheVariants as conducts
use Rattle.ledger_state.specs.Contents.{HeapContents}
use Rattle.ledger_state.specs.Heaps.{append, next_number}
use Rattle.ledger_state.specs.declared.entry.Owner.TheVariants as owners
use Rattle.ledger_state.specs.declared.locals.Locals.{Locals}
use Rattle.ledger_state.specs.declared.object.Link.{Link}
use Rattle.ledger_state.specs.declared.object.Object.{Object}
use Rattle.ledger_state.specs.declared.value.Value.{Value}
use Rattle.ledger_obligations.specs.Obligations.{alias_born, finished, first_set, lose, reached, reset_in, reset_roots}
use Rattle.ledger_steps.specs.LedgerCallsCalls.{alias_target, interest_in, is_alias, object_by, position_of, receiver_note, reset_position, reset_target}
use Rattle.ledger_steps.specs.Conducts.{first_in, fresh_born, library_birth, library_notes, owning_in, positions, promises_by, result_owner}
use Rattle.ledger_steps.specs.CallSteps.{began_heap, library_called, library_heap, library_made, library_reset}
use Rattle.ledger_steps.specs.Ends.{frame_gone, returned_called, returned_reset}
use Rattle.ledger_steps.specs.InnerSteps.{heap_stored, store_of, store_unless, thrown_heap}
use Rattle.ledger_steps.specs.declared.store.Store.{Store}
use Rattle.covering_laws.specs.Heaps.{HasEarlierLinks}
use Rattle.content_laws.proofs.Goes.{changed_roots, goes_further, leaves_goes, leaves_roots, lose_goes, made_goes, noted_goes, self_goes}
use Rattle.content_laws.proofs.Leaves.{Leaves, append_leaves, began_leaves, each_leaves, gone_leaves, library_made_leaves, stays_self}
use Rattle.content_laws.proofs.Noted.{kept_notes, receiver_notes}
use Rattle.content_laws.specs.Going.{Goes, IsBorn, IsNotedBy, NoName}

-- ---- steps within a frame

-- an exception of the machine's own is made
exception_goes : (p : Program) (h : HeapContents) (e : ClassId) → HasEarlierLinks h → Goes p h (thrown_heap p (Some e) h) NoName
exception_goes p h e links =
    made_goes p h (append h e) NoName (finished (must_of p e) owners.Library) (next_number h) links refl (leaves_goes p h (append h e) NoName (leaves_roots h (append h e) links (append_leaves h e)) (append_leaves h e))
    (λ x w f is. absurd (let never : owners.Library ≡ owners.Field w f = is in cc)) (λ x born. born)

thrown_goes : (p : Program) (e : Option ClassId) (h : HeapContents) → HasEarlierLinks h → Goes p h (thrown_heap p e h) NoName
thrown_goes p None h links = self_goes p h NoName
thrown_goes p (Some e) h links = exception_goes p h e links

-- a call stores nothing
pub call_stores_nothing : (l : Locals) (a : Action) → IsCallRow a → store_of l a ≡ None
call_stores_nothing l actions.Skip row = refl
call_stores_nothing l (actions.Put f d through_this) row = absurd row
call_stores_nothing l (actions.PutOwn f d) row = absurd row
call_stores_nothing l a row = refl

-- a step that stores nothing
pub inner_goes : (p : Program) (m : Option Method) (l : Locals) (e : Option ClassId) (a : Action) (held : List (List Value)) (h : HeapContents) → store_unless e (store_of l a) ≡ None → HasEarlierLinks h
    → Goes p h (lose held (heap_stored p m l (store_unless e (store_of l a)) (thrown_heap p e h))) NoName
inner_goes p m l e a held h none links =
    subst (λ (s : Option Store). Goes p h (lose held (heap_stored p m l s (thrown_heap p e h))) NoName) (sym none)
    (goes_further p h (thrown_heap p e h) (lose held (thrown_heap p e h)) NoName (thrown_goes p e h links) (lose_goes p held (thrown_heap p e h) NoName))

-- ---- calls that begin

pub start_goes : (p : Program) (l : Locals) (a : Action) (named : Option Method) (j : ℕ) (held : List (List Value)) (h : HeapContents) → HasEarlierLinks h
    → Goes p h (lose held (began_heap p l a named j h)) NoName
start_goes p l a named j held h links =
    let k = began_heap p l a named j h in
    let began = began_leaves p l a named j h in
    goes_further p h k (lose held k) NoName (leaves_goes p h k NoName (leaves_roots h k links began) began) (lose_goes p held k NoName)

-- ---- calls of the library

none_leaves : (p : Program) (h : HeapContents) → Leaves h (reset_roots p [] h)
none_leaves p h = each_leaves (reset_in p h []) h (record { stays = λ n x. stays_self x; field = λ n x w f owner. owner }) (λ links n x l at link. refl)

-- no root is reset: each object stays
none_is_reset : (p : Program) (h : HeapContents) (roots : List ℕ) (noted' : ℕ → ℕ → Type 0) → roots ≡ [] → Goes p h (reset_roots p roots h) noted'
none_is_reset p h [] noted' none =
    leaves_goes p h (reset_roots p [] h) noted' (changed_roots (reset_in p h []) h (λ n x. refl))
    (none_leaves p h)
none_is_reset p h (r ∷ rs) noted' none = absurd (let never : ◌≡◌ {A = List ℕ} (r ∷ rs) [] = none in cc)

no_target : (at : ℕ → Value) (m : Option Method) (h : HeapContents) → reset_position m ≡ None → reached h (reset_target at m) ≡ []
no_target at m h none = ap (λ (k : Option ℕ). reached h (object_by at k)) none

-- what is born goes to no field
module _ (p : Program) (a : Action) (m : Option Method) (i : ℕ) where
  by_mark : (c : Bool) (w : ℕ) (f : FieldId) → (if c then owners.Frame i else owners.Library) ≡ owners.Field w f → ⊥
  by_mark true w f is = cc
  by_mark false w f is = cc

  no_owner : (b : Action) (w : ℕ) (f : FieldId) → result_owner b m i ≡ owners.Field w f → ⊥
  no_owner actions.Skip w f is = by_mark (owning_in m) w f is
  no_owner (actions.New k d n) w f is = cc
  no_owner (actions.Plain x v) w f is = cc
  no_owner b w f is = by_mark (owning_in m) w f is

  alias_gives : (k : Option ℕ) (x : Object) (w : ℕ) (f : FieldId) → (alias_born p true k x).owner ≡ owners.Field w f → x.owner ≡ owners.Field w f
  alias_gives None x w f is = absurd (let never : owners.Library ≡ owners.Field w f = is in cc)
  alias_gives (Some k) x w f is = is

  fresh_gives : (e : ClassId) (at : ℕ → Value) (x : Object) (w : ℕ) (f : FieldId) → (fresh_born p e m a i at x).owner ≡ owners.Field w f → x.owner ≡ owners.Field w f
  fresh_gives e at x w f is = go (is_alias m) is
    where
      go : (b : Bool) → (if b then alias_born p true (alias_target at m) x else finished (first_set p e (first_in m)) (result_owner a m i) x).owner ≡ owners.Field w f → x.owner ≡ owners.Field w f
      go true same = alias_gives (alias_target at m) x w f same
      go false same = absurd (no_owner a w f same)

  -- and the library links it, if at all
  alias_bears : (k : Option ℕ) (x : Object) → IsBorn x → IsBorn (alias_born p true k x)
  alias_bears None x born = born
  alias_bears (Some k) x born = λ l link. (let same : record { to = k; by_library = true } ≡ l = (let both : Some (record { to = k; by_library = true }) ≡ Some l = link in cc) in sym (ap (λ (z : Link). z.by_library) same))

  fresh_bears : (e : ClassId) (at : ℕ → Value) (x : Object) → IsBorn x → IsBorn (fresh_born p e m a i at x)
  fresh_bears e at x born = go (is_alias m)
    where
      go : (b : Bool) → IsBorn (if b then alias_born p true (alias_target at m) x else finished (first_set p e (first_in m)) (result_owner a m i) x)
      go true = alias_bears (alias_target at m) x born
      go false = born

born_goes : (p : Program) (h j : HeapContents) (noted' : ℕ → ℕ → Type 0) (l : Locals) (a : Action) (m : Option Method) (i : ℕ) (d : Conduct) → HasEarlierLinks h → Goes p h j noted'
    → Goes p h (library_birth p l a m i (next_number h) d j) noted'
born_goes p h j noted' l a m i conducts.Null links goes = goes
born_goes p h j noted' l a m i (conducts.Throws e) links goes =
    made_goes p h j noted' (finished (first_set p e None) owners.Library) (next_number h) links refl goes (λ x w f is. absurd (let never : owners.Library ≡ owners.Field w f = is in cc)) (λ x born. born)
born_goes p h j noted' l a m i (conducts.Fresh e) links goes =
    made_goes p h j noted' (fresh_born p e m a i (position_of None l a)) (next_number h) links refl goes (fresh_gives p a m i e (position_of None l a)) (fresh_bears p a m i e (position_of None l a))
born_goes p h j noted' l a m i d links goes = goes

-- a call that creates no obligation anew, before what no place holds is lost
pub library_goes_by : (p : Program) (l : Locals) (a : Action) (named m : Option Method) (d : Conduct) (i : ℕ) (h : HeapContents) → reset_target (positions l a (next_number h) d) named ≡ None
    → ((n : NameId) → interest_in named ≡ Some n → n.0 < 128) → HasEarlierLinks h → Goes p h (library_heap p l a named m d i h) (IsNotedBy l a named)
library_goes_by p l a named m d i h none small links =
    let g = library_made p l a named d h in
    let c = library_called p l a named m d h in
    let r = library_reset p l a named m d h in
    let leaves = library_made_leaves p l a named d h in
    let made = leaves_goes p h g (IsNotedBy l a named) (leaves_roots h g links leaves) leaves in
    let called : Goes p g c (IsNotedBy l a named) = noted_goes p g l a named (library_notes p g l a named m (next_number h) d)
    (kept_notes p g (positions l a (next_number h) d) (promises_by m d) l a named small) in
    let reset : Goes p c r (IsNotedBy l a named) = none_is_reset p c _ (IsNotedBy l a named) (ap (reached c) none) in
    born_goes p h r (IsNotedBy l a named) l a m i d links (goes_further p h c r (IsNotedBy l a named) (goes_further p h g c (IsNotedBy l a named) made called) reset)

pub library_goes : (p : Program) (l : Locals) (a : Action) (named : Option Method) (d : Conduct) (i : ℕ) (held : List (List Value)) (h : HeapContents) → reset_position named ≡ None
    → ((n : NameId) → interest_in named ≡ Some n → n.0 < 128) → HasEarlierLinks h → Goes p h (lose held (library_heap p l a named named d i h)) (IsNotedBy l a named)
library_goes p l a named d i held h no_reset small links =
    let b = library_heap p l a named named d i h in
    goes_further p h b (lose held b) (IsNotedBy l a named) (library_goes_by p l a named named d i h (ap (object_by (positions l a (next_number h) d)) no_reset) small links) (lose_goes p held b (IsNotedBy l a named))

-- ---- calls that end, before a `new` finishes its object

-- from when the frame has gone
pub after_goes : (p : Program) (l : Locals) (a : Action) (named : Option Method) (g : HeapContents) → reset_position named ≡ None → ((n : NameId) → interest_in named ≡ Some n → n.0 < 128)
    → Goes p g (returned_reset p l a named g) (IsNotedBy l a named)
after_goes p l a named g no_reset small =
    let c = returned_called p l a named g in
    goes_further p g c (returned_reset p l a named g) (IsNotedBy l a named) (noted_goes p g l a named (receiver_note l a named) (receiver_notes l a named small))
    (none_is_reset p c _ (IsNotedBy l a named) (no_target _ named c no_reset))

pub end_goes : (p : Program) (i : ℕ) (self : Value) (l : Locals) (a : Action) (runs named : Option Method) (v : Value) (e : Option ClassId) (h : HeapContents) → reset_position named ≡ None
    → ((n : NameId) → interest_in named ≡ Some n → n.0 < 128) → HasEarlierLinks h → Goes p h (returned_reset p l a named (frame_gone p i self runs v e h)) (IsNotedBy l a named)
end_goes p i self l a runs named v e h no_reset small links =
    let g = frame_gone p i self runs v e h in
    let gone = gone_leaves p i self runs v e h in
    goes_further p h g (returned_reset p l a named g) (IsNotedBy l a named) (leaves_goes p h g (IsNotedBy l a named) (leaves_roots h g links gone) gone)
    (after_goes p l a named g no_reset small)
