-- What a step leaves of the number of objects and of what fields hold.
use Rattle.std.specs.Prelude.{not, ◌&&◌, ◌<◌}
use Rattle.std.proofs.Common.{◌≡◌, ℕ, ◌+◌, ◌≤◌, Bool, true, false, Option, Some, None, List, [], ◌∷◌, refl, ◌∙◌, if◌then◌else◌, arith}
use Rattle.program_model.specs.declared.kinds.ClassId.{ClassId}
use Rattle.program_model.specs.declared.kinds.FieldId.{FieldId}
use Rattle.program_model.specs.declared.kinds.VType.{VType}
use Rattle.program_model.specs.declared.program.Method.{Method}
use Rattle.program_model.specs.declared.program.ParamSig.{ParamSig}
use Rattle.program_model.specs.declared.program.Program.{Program}
use Rattle.ledger_steps.specs.Bodies.{constructs}
use Rattle.control_actions.specs.declared.action.Action.{Action}
use Rattle.control_actions.specs.declared.action.Action.TheVariants as actions
use Rattle.stub_conduct.specs.declared.choice.Conduct.{Conduct}
use Rattle.stub_conduct.specs.declared.choice.Conduct.TheVariants as conducts
use Rattle.ledger_state.specs.Contents.{HeapContents}
use Rattle.ledger_state.specs.Fields.{field_of}
use Rattle.ledger_state.specs.Heaps.{append, change_each, change_some, next_number, root_of}
use Rattle.ledger_state.specs.Values.{number_of}
use Rattle.ledger_state.specs.declared.entry.Owner.{Owner}
use Rattle.ledger_state.specs.declared.entry.Owner.TheVariants as owners
use Rattle.ledger_state.specs.declared.locals.Locals.{Locals}
use Rattle.ledger_state.specs.declared.object.Object.{Object}
use Rattle.ledger_state.specs.declared.value.Value.{Value}
use Rattle.ledger_state.specs.declared.value.Value.TheVariants as values
use Rattle.ledger_steps.specs.Obligations.{displaced, displaces, end_holder, lose, lost_object, moved_in, moved_where, moves_in, released_where}
use Rattle.ledger_steps.specs.Obligations.{holder_roots, move, reset_roots}
use Rattle.ledger_steps.specs.LedgerCallsCalls.{alias_target, arguments_moved, is_alias, move_param, move_params, operand_of, params_in}
use Rattle.ledger_steps.specs.Conducts.{library_birth, object_made, owning_in, result_in}
use Rattle.ledger_steps.specs.CallSteps.{began_heap, library_called, library_heap, library_made, library_reset, object_begun, object_of_new}
use Rattle.ledger_steps.specs.Ends.{call_ended, constructor_ended, finished_by_new, frame_ended, frame_gone, moved_as, moved_normally, program_birth, result_moved, returned_called, returned_heap, returned_reset, self_finished}
use Rattle.ledger_steps.specs.InnerSteps.{thrown_heap, with_exception}
use Rattle.agreement.proofs.ObjectLaws.{appended_count, changed_count}

-- no object goes, and fields hold what they held
pub record Grows (h k : HeapContents) : Type 0 where
  pub count : next_number h ≤ next_number k
  pub fields : k.fields ≡ h.fields

pub grows_self : (h : HeapContents) → Grows h h
grows_self h = record { count = omega arith; fields = refl }

pub grows_further : (h k j : HeapContents) → Grows h k → Grows k j → Grows h j
grows_further h k j a b = record { count = (let one = a.count in let two = b.count in omega (arith, one, two)); fields = b.fields ∙ a.fields }

pub each_grows : (change : ℕ → Object → Object) (h : HeapContents) → Grows h (change_each change h)
each_grows f h = record { count = (let same = changed_count f h in omega (arith, same)); fields = refl }

pub some_grows : (r : Option ℕ) (change : Object → Object) (h : HeapContents) → Grows h (change_some r change h)
some_grows None f h = grows_self h
some_grows (Some k) f h = each_grows _ h

pub append_grows : (h : HeapContents) (c : ClassId) → Grows h (append h c)
append_grows h c = record { count = (let one = appended_count h c in omega (arith, one)); fields = refl }

-- ---- calls that begin

move_grows : (p : Program) (t : VType) (o : Owner) (v : Value) (h : HeapContents) → Grows h (move p t o v h)
move_grows p t o v h = some_grows (root_of h v) _ h

param_grows : (p : Program) (o : Owner) (v : Value) (q : ParamSig) (h : HeapContents) → Grows h (move_param p o v q h)
param_grows p o v q h = go q.owning
  where
    go : (b : Bool) → Grows h (if b then move p q.vtype o v h else h)
    go true = move_grows p q.vtype o v h
    go false = grows_self h

params_grow : (p : Program) (o : Owner) (at : ℕ → Value) (k : ℕ) (qs : List ParamSig) (h : HeapContents) → Grows h (move_params p o at k qs h)
params_grow p o at k [] h = grows_self h
params_grow p o at k (q ∷ qs) h = grows_further h (move_param p o (at k) q h) _ (param_grows p o (at k) q h) (params_grow p o at (k + 1) qs (move_param p o (at k) q h))

begun_grows : (m : Option Method) (h : HeapContents) → Grows h (object_begun m h)
begun_grows None h = grows_self h
begun_grows (Some m) h = append_grows h m.class

new_grows : (a : Action) (m : Option Method) (h : HeapContents) → Grows h (object_of_new a m h)
new_grows actions.Skip m h = grows_self h
new_grows (actions.New c d n) m h = begun_grows m h
new_grows a m h = grows_self h

pub began_grows : (p : Program) (l : Locals) (a : Action) (named : Option Method) (j : ℕ) (h : HeapContents) → Grows h (began_heap p l a named j h)
began_grows p l a named j h = grows_further h (object_of_new a named h) _ (new_grows a named h) (params_grow p (owners.Frame j) (operand_of l a) 1 (params_in named) (object_of_new a named h))

-- ---- calls of the library

made_grows : (d : Conduct) (h : HeapContents) → Grows h (object_made d h)
made_grows conducts.Null h = grows_self h
made_grows (conducts.Throws e) h = append_grows h e
made_grows (conducts.Fresh e) h = append_grows h e
made_grows d h = grows_self h

born_grows : (p : Program) (l : Locals) (a : Action) (m : Option Method) (j k : ℕ) (d : Conduct) (h : HeapContents) → Grows h (library_birth p l a m j k d h)
born_grows p l a m j k conducts.Null h = grows_self h
born_grows p l a m j k (conducts.Throws e) h = each_grows _ h
born_grows p l a m j k (conducts.Fresh e) h = each_grows _ h
born_grows p l a m j k d h = grows_self h

library_made_grows : (p : Program) (l : Locals) (a : Action) (named : Option Method) (d : Conduct) (h : HeapContents) → Grows h (library_made p l a named d h)
library_made_grows p l a named d h =
    grows_further h (arguments_moved p owners.Library l a named h) _ (params_grow p owners.Library (operand_of l a) 1 (params_in named) h) (made_grows d (arguments_moved p owners.Library l a named h))

pub library_grows : (p : Program) (l : Locals) (a : Action) (named m : Option Method) (d : Conduct) (i : ℕ) (h : HeapContents) → Grows h (library_heap p l a named m d i h)
library_grows p l a named m d i h =
    let made = library_made_grows p l a named d h in
    let called = grows_further h (library_made p l a named d h) (library_called p l a named m d h) made (each_grows _ (library_made p l a named d h)) in
    let reset = grows_further h (library_called p l a named m d h) (library_reset p l a named m d h) called (each_grows _ (library_called p l a named m d h)) in
    grows_further h (library_reset p l a named m d h) _ reset (born_grows p l a m i (next_number h) d (library_reset p l a named m d h))

-- ---- calls that end

as_grows : (p : Program) (i : ℕ) (t : Option VType) (v : Value) (h : HeapContents) → Grows h (moved_as p i t v h)
as_grows p i None v h = grows_self h
as_grows p i (Some t) v h = move_grows p t _ v h

normally_grows : (p : Program) (i : ℕ) (runs : Option Method) (v : Value) (h : HeapContents) → Grows h (moved_normally p i runs v h)
normally_grows p i runs v h = go (owning_in runs && not (is_alias runs))
  where
    go : (b : Bool) → Grows h (if b then moved_as p i (result_in runs) v h else h)
    go true = as_grows p i (result_in runs) v h
    go false = grows_self h

result_grows : (p : Program) (i : ℕ) (runs : Option Method) (v : Value) (e : Option ClassId) (h : HeapContents) → Grows h (result_moved p i runs v e h)
result_grows p i runs v None h = normally_grows p i runs v h
result_grows p i runs v (Some e) h = grows_self h

holder_grows : (w : Option ℕ) (h : HeapContents) → Grows h (end_holder w h)
holder_grows None h = grows_self h
holder_grows (Some w) h = each_grows _ h

constructor_grows : (self : Value) (runs : Option Method) (e : Option ClassId) (h : HeapContents) → Grows h (constructor_ended self runs e h)
constructor_grows self runs None h = grows_self h
constructor_grows self runs (Some e) h = go (constructs runs)
  where
    go : (b : Bool) → Grows h (if b then end_holder (number_of self) h else h)
    go true = holder_grows (number_of self) h
    go false = grows_self h

pub gone_grows : (p : Program) (i : ℕ) (self : Value) (runs : Option Method) (v : Value) (e : Option ClassId) (h : HeapContents) → Grows h (frame_gone p i self runs v e h)
gone_grows p i self runs v e h =
    let result = result_grows p i runs v e h in
    let ended = grows_further h (result_moved p i runs v e h) (frame_ended p i runs v e h) result (each_grows _ (result_moved p i runs v e h)) in
    grows_further h (frame_ended p i runs v e h) _ ended (constructor_grows self runs e (frame_ended p i runs v e h))

self_grows : (p : Program) (i : ℕ) (m : Option Method) (k alias : Option ℕ) (h : HeapContents) → Grows h (self_finished p i m k alias h)
self_grows p i m None alias h = grows_self h
self_grows p i m (Some k) alias h = each_grows _ h

finished_grows : (p : Program) (i : ℕ) (a : Action) (m : Option Method) (self alias : Option ℕ) (h : HeapContents) → Grows h (finished_by_new p i a m self alias h)
finished_grows p i actions.Skip m self alias h = grows_self h
finished_grows p i (actions.New c d n) m self alias h = self_grows p i m self alias h
finished_grows p i a m self alias h = grows_self h

birth_grows : (p : Program) (i : ℕ) (a : Action) (m : Option Method) (self alias : Option ℕ) (e : Option ClassId) (h : HeapContents) → Grows h (program_birth p i a m self alias e h)
birth_grows p i a m self alias None h = finished_grows p i a m self alias h
birth_grows p i a m self alias (Some e) h = grows_self h

ended_grows : (p : Program) (i : ℕ) (self : Value) (l : Locals) (a : Action) (named : Option Method) (e : Option ClassId) (h : HeapContents) → Grows h (call_ended p i self l a named e h)
ended_grows p i self l a named e h =
    let called = each_grows _ h in
    let reset = grows_further h (returned_called p l a named h) (returned_reset p l a named h) called (each_grows _ (returned_called p l a named h)) in
    grows_further h (returned_reset p l a named h) _ reset (birth_grows p i a named (number_of self) (alias_target (operand_of l a) named) e (returned_reset p l a named h))

pub returned_grows : (p : Program) (i : ℕ) (self : Value) (l : Locals) (a : Action) (runs named : Option Method) (v : Value) (e : Option ClassId) (h : HeapContents)
    → Grows h (returned_heap p i self l a runs named v e h)
returned_grows p i self l a runs named v e h =
    grows_further h (frame_gone p i self runs v e h) _ (gone_grows p i self runs v e h) (ended_grows p i self l a named e (frame_gone p i self runs v e h))

-- ---- steps within a frame

pub exception_grows : (p : Program) (e : ClassId) (h : HeapContents) → Grows h (with_exception p e h)
exception_grows p e h = grows_further h (append h e) _ (append_grows h e) (each_grows _ (append h e))

pub thrown_grows : (p : Program) (e : Option ClassId) (h : HeapContents) → Grows h (thrown_heap p e h)
thrown_grows p None h = grows_self h
thrown_grows p (Some e) h = exception_grows p e h

released_grows : (b : Bool) (r : Option ℕ) (h : HeapContents) → Grows h (released_where b r h)
released_grows true r h = some_grows r _ h
released_grows false r h = grows_self h

moved_grows : (b : Bool) (r : Option ℕ) (o : Owner) (h : HeapContents) → Grows h (moved_where b r o h)
moved_grows true r o h = some_grows r _ h
moved_grows false r o h = grows_self h

-- a store into an owning field, before the field takes the value
pub stored_grows : (p : Program) (h : HeapContents) (w : ℕ) (f : FieldId) (bound : Bool) (v : Value) → Grows h (reset_roots p (holder_roots p h w f bound v) (moved_in p h w f bound v))
stored_grows p h w f bound v =
    let old = released_grows (displaces h w f (field_of p h (values.Object w) f) v) (root_of h (field_of p h (values.Object w) f)) h in
    let new = moved_grows (moves_in p h f bound v) (root_of h v) (owners.Field w f) (displaced p h w f v) in
    grows_further h (moved_in p h w f bound v) _ (grows_further h (displaced p h w f v) _ old new) (each_grows _ (moved_in p h w f bound v))

-- ---- what is made is there

-- a `new` of a method that is there makes an object
abbrev pub IsNewFuller : Action → Option Method → HeapContents → HeapContents → Type 0
IsNewFuller (actions.New m d n) (Some x) h k = next_number h < next_number k
IsNewFuller a m h k = Unit {0}

-- a `new` makes one object more
pub new_more : (p : Program) (l : Locals) (a : Action) (named : Option Method) (j : ℕ) (held : List (List Value)) (h : HeapContents) → IsNewFuller a named h (lose held (began_heap p l a named j h))
new_more p l actions.Skip named j held h = tt
new_more p l (actions.New m d n) None j held h = tt
new_more p l (actions.New m d n) (Some x) j held h =
    let one = appended_count h x.class in
    let two = (params_grow p (owners.Frame j) (operand_of l (actions.New m d n)) 1 x.sig.params.items (append h x.class)).count in
    let three = (each_grows (lost_object (began_heap p l (actions.New m d n) (Some x) j h) held) (began_heap p l (actions.New m d n) (Some x) j h)).count in
    omega (arith, one, two, three)
new_more p l a named j held h = tt

-- an object that the library makes
abbrev pub IsMadeIn : HeapContents → HeapContents → Conduct → Type 0
IsMadeIn h k (conducts.Throws e) = next_number h < next_number k
IsMadeIn h k (conducts.Fresh e) = next_number h < next_number k
IsMadeIn h k d = Unit {0}

called_more : (p : Program) (l : Locals) (a : Action) (named m : Option Method) (d : Conduct) (h : HeapContents) → next_number (library_made p l a named d h) ≤ next_number (library_called p l a named m d h)
called_more p l a named m d h = (each_grows _ (library_made p l a named d h)).count

reset_more : (p : Program) (l : Locals) (a : Action) (named m : Option Method) (d : Conduct) (h : HeapContents) → next_number (library_called p l a named m d h) ≤ next_number (library_reset p l a named m d h)
reset_more p l a named m d h = (each_grows _ (library_called p l a named m d h)).count

after_made : (p : Program) (l : Locals) (a : Action) (named m : Option Method) (d : Conduct) (i : ℕ) (held : List (List Value)) (h : HeapContents)
    → next_number (library_made p l a named d h) ≤ next_number (lose held (library_heap p l a named m d i h))
after_made p l a named m d i held h =
    let one = called_more p l a named m d h in
    let two = reset_more p l a named m d h in
    let three = (born_grows p l a m i (next_number h) d (library_reset p l a named m d h)).count in
    let four = (each_grows (lost_object (library_heap p l a named m d i h) held) (library_heap p l a named m d i h)).count in
    omega (arith, one, two, three, four)

made_more : (p : Program) (l : Locals) (a : Action) (named m : Option Method) (d : Conduct) (e : ClassId) (i : ℕ) (held : List (List Value)) (h : HeapContents)
    → next_number (library_made p l a named d h) ≡ next_number (arguments_moved p owners.Library l a named h) + 1 → next_number h < next_number (lose held (library_heap p l a named m d i h))
made_more p l a named m d e i held h one =
    let two = (params_grow p owners.Library (operand_of l a) 1 (params_in named) h).count in
    let three = after_made p l a named m d i held h in
    omega (arith, one, two, three)

pub made_there : (p : Program) (l : Locals) (a : Action) (named m : Option Method) (d : Conduct) (i : ℕ) (held : List (List Value)) (h : HeapContents)
    → IsMadeIn h (lose held (library_heap p l a named m d i h)) d
made_there p l a named m conducts.Null i held h = tt
made_there p l a named m (conducts.Throws e) i held h = made_more p l a named m (conducts.Throws e) e i held h (appended_count (arguments_moved p owners.Library l a named h) e)
made_there p l a named m (conducts.Fresh e) i held h = made_more p l a named m (conducts.Fresh e) e i held h (appended_count (arguments_moved p owners.Library l a named h) e)
made_there p l a named m d i held h = tt
