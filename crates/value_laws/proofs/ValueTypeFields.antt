-- What the fields of objects hold: it stays over each change of the heap but a store.
use Rattle.std.proofs.Common.{◌≡◌, ◌∙◌, refl, sym, subst, ℕ, ◌+◌, Bool, true, false, ◌&&◌, not, Option, Some, None, List, [], ◌∷◌, All, if◌then◌else◌, cond, unwrap_or, eqb-true}
use Rattle.std.specs.Prelude.{nat_eq}
use Rattle.std.specs.List.{find, position_from}
use Rattle.std.proofs.lemmas.Bool.{and_parts}
use Rattle.std.proofs.lemmas.List.Elements.{All-head, All-push, All-set, All-tail}
use Rattle.rlc_base.specs.declared.place.Pos.{Pos}
use Rattle.program_model.specs.declared.kinds.ClassId.{ClassId}
use Rattle.program_model.specs.declared.kinds.FieldId.{FieldId}
use Rattle.program_model.specs.declared.kinds.MethodId.{MethodId}
use Rattle.program_model.specs.declared.kinds.VType.{VType}
use Rattle.program_model.specs.declared.kinds.VType.TheVariants as types
use Rattle.program_model.specs.declared.program.Field.{Field}
use Rattle.program_model.specs.declared.program.Method.{Method}
use Rattle.program_model.specs.declared.program.ParamSig.{ParamSig}
use Rattle.program_model.specs.declared.program.Program.{Program}
use Rattle.program_model.specs.declared.tree.Body.{Body}
use Rattle.program_model.specs.Lookups.{field_at, method_at}
use Rattle.ledger_steps.specs.Bodies.{constructs}
use Rattle.control_actions.specs.declared.action.Action.{Action}
use Rattle.control_actions.specs.declared.action.Action.TheVariants as actions
use Rattle.java_control.specs.Owned.{is_owning}
use Rattle.stub_conduct.specs.declared.choice.Conduct.{Conduct}
use Rattle.stub_conduct.specs.declared.choice.Conduct.TheVariants as conducts
use Rattle.ledger_state.specs.declared.entry.Owner.{Owner}
use Rattle.ledger_state.specs.declared.entry.Owner.TheVariants as owners
use Rattle.ledger_state.specs.declared.locals.Locals.{Locals}
use Rattle.ledger_state.specs.declared.object.Object.{Object}
use Rattle.ledger_state.specs.declared.object.StoredField.{StoredField}
use Rattle.ledger_state.specs.declared.value.Value.{Value}
use Rattle.ledger_state.specs.declared.value.Value.TheVariants as values
use Rattle.ledger_state.specs.Contents.{HeapContents}
use Rattle.ledger_state.specs.Fields.{default_in, field_of, field_value}
use Rattle.ledger_state.specs.Heaps.{change_some, is_field_of, next_number, put_at, put_field, root_of, stored, value_stored}
use Rattle.ledger_state.specs.Locals.{temp_value}
use Rattle.ledger_state.specs.Values.{default_of, number_of}
use Rattle.ledger_steps.specs.Obligations.{displaced, displaces, end_holder, given_up, holder_roots, move, moved_in, moved_to, moved_where, moves_in, released_where, reset_roots, stored_owning, with_owner}
use Rattle.ledger_steps.specs.LedgerCallsCalls.{alias_target, arguments_moved, is_alias, move_param, move_params, operand_of, params_in}
use Rattle.ledger_steps.specs.Conducts.{library_birth, object_made, owning_in, result_in}
use Rattle.ledger_steps.specs.declared.store.Store.{Store}
use Rattle.ledger_steps.specs.CallSteps.{library_done, library_reset, object_of_new, started}
use Rattle.ledger_steps.specs.Ends.{constructor_ended, finished_by_new, frame_ended, frame_gone, moved_as, moved_normally, program_birth, result_moved, returned, returned_reset, self_finished}
use Rattle.ledger_steps.specs.InnerSteps.{heap_stored, inner, is_bound, store_into, store_of, store_unless, stored_by, thrown_heap}
use Rattle.dispatch_laws.specs.Operands.{Fits, NoObject, field_type}
use Rattle.dispatch_laws.specs.Values.{IsNoObjectBut, temp_holds_none}
use Rattle.value_laws.specs.Types.{IsStoredNone, StoredHoldNone}

-- ---- changes of objects alone

some_fields : (k : Option ℕ) (change : Object → Object) (h : HeapContents) → (change_some k change h).fields ≡ h.fields
some_fields None change h = refl
some_fields (Some k) change h = refl

move_fields : (p : Program) (t : VType) (o : Owner) (v : Value) (h : HeapContents) → (move p t o v h).fields ≡ h.fields
move_fields p t o v h = some_fields (root_of h v) (moved_to p t o) h

param_fields : (p : Program) (o : Owner) (v : Value) (q : ParamSig) (h : HeapContents) → (move_param p o v q h).fields ≡ h.fields
param_fields p o v q h = go q.owning
  where
    go : (b : Bool) → (if b then move p q.vtype o v h else h).fields ≡ h.fields
    go true = move_fields p q.vtype o v h
    go false = refl

params_fields : (p : Program) (o : Owner) (at : ℕ → Value) (k : ℕ) (qs : List ParamSig) (h : HeapContents) → (move_params p o at k qs h).fields ≡ h.fields
params_fields p o at k [] h = refl
params_fields p o at k (q ∷ qs) h = params_fields p o at (k + 1) qs (move_param p o (at k) q h) ∙ param_fields p o (at k) q h

arguments_fields : (p : Program) (o : Owner) (l : Locals) (a : Action) (named : Option Method) (h : HeapContents) → (arguments_moved p o l a named h).fields ≡ h.fields
arguments_fields p o l a named h = params_fields p o (operand_of l a) 1 (params_in named) h

-- ---- a call begins

new_fields : (a : Action) (x : Option Method) (h : HeapContents) → (object_of_new a x h).fields ≡ h.fields
new_fields (actions.New m d n) None h = refl
new_fields (actions.New m d n) (Some x) h = refl
new_fields actions.Skip x h = refl
new_fields a x h = refl

pub started_fields : (p : Program) (h : HeapContents) (l : Locals) (a : Action) (named : Option Method) (j : ℕ) (pos : Pos) (held : List (List Value)) → (started p h l a named j pos held).heap.fields ≡ h.fields
started_fields p h l a named j pos held = arguments_fields p (owners.Frame j) l a named (object_of_new a named h) ∙ new_fields a named h

-- ---- a call of the library

made_fields : (d : Conduct) (h : HeapContents) → (object_made d h).fields ≡ h.fields
made_fields (conducts.Throws e) h = refl
made_fields (conducts.Fresh e) h = refl
made_fields conducts.Null h = refl
made_fields d h = refl

birth_fields : (p : Program) (l : Locals) (a : Action) (m : Option Method) (j k : ℕ) (d : Conduct) (h : HeapContents) → (library_birth p l a m j k d h).fields ≡ h.fields
birth_fields p l a m j k (conducts.Throws e) h = refl
birth_fields p l a m j k (conducts.Fresh e) h = refl
birth_fields p l a m j k conducts.Null h = refl
birth_fields p l a m j k d h = refl

pub library_fields : (p : Program) (h : HeapContents) (l : Locals) (a : Action) (named m : Option Method) (d : Conduct) (i : ℕ) (pos : Pos) (held : List (List Value))
    → (library_done p h l a named m d i pos held).heap.fields ≡ h.fields
library_fields p h l a named m d i pos held =
    birth_fields p l a m i (next_number h) d (library_reset p l a named m d h) ∙ (made_fields d (arguments_moved p owners.Library l a named h) ∙ arguments_fields p owners.Library l a named h)

-- ---- a frame ends

as_fields : (p : Program) (i : ℕ) (t : Option VType) (v : Value) (h : HeapContents) → (moved_as p i t v h).fields ≡ h.fields
as_fields p i None v h = refl
as_fields p i (Some t) v h = move_fields p t (owners.Frame i) v h

normally_fields : (p : Program) (i : ℕ) (runs : Option Method) (v : Value) (h : HeapContents) → (moved_normally p i runs v h).fields ≡ h.fields
normally_fields p i runs v h = go (owning_in runs && not (is_alias runs))
  where
    go : (b : Bool) → (if b then moved_as p i (result_in runs) v h else h).fields ≡ h.fields
    go true = as_fields p i (result_in runs) v h
    go false = refl

result_fields : (p : Program) (i : ℕ) (runs : Option Method) (v : Value) (e : Option ClassId) (h : HeapContents) → (result_moved p i runs v e h).fields ≡ h.fields
result_fields p i runs v None h = normally_fields p i runs v h
result_fields p i runs v (Some e) h = refl

holder_fields : (w : Option ℕ) (h : HeapContents) → (end_holder w h).fields ≡ h.fields
holder_fields None h = refl
holder_fields (Some w) h = refl

constructor_fields : (self : Value) (runs : Option Method) (e : Option ClassId) (h : HeapContents) → (constructor_ended self runs e h).fields ≡ h.fields
constructor_fields self runs None h = refl
constructor_fields self runs (Some e) h = go (constructs runs)
  where
    go : (b : Bool) → (if b then end_holder (number_of self) h else h).fields ≡ h.fields
    go true = holder_fields (number_of self) h
    go false = refl

gone_fields : (p : Program) (i : ℕ) (self : Value) (runs : Option Method) (v : Value) (e : Option ClassId) (h : HeapContents) → (frame_gone p i self runs v e h).fields ≡ h.fields
gone_fields p i self runs v e h = constructor_fields self runs e (frame_ended p i runs v e h) ∙ result_fields p i runs v e h

self_fields : (p : Program) (i : ℕ) (m : Option Method) (self alias : Option ℕ) (h : HeapContents) → (self_finished p i m self alias h).fields ≡ h.fields
self_fields p i m None alias h = refl
self_fields p i m (Some k) alias h = refl

finished_fields : (p : Program) (i : ℕ) (a : Action) (named : Option Method) (self alias : Option ℕ) (h : HeapContents) → (finished_by_new p i a named self alias h).fields ≡ h.fields
finished_fields p i (actions.New m d n) named self alias h = self_fields p i named self alias h
finished_fields p i actions.Skip named self alias h = refl
finished_fields p i a named self alias h = refl

program_fields : (p : Program) (i : ℕ) (a : Action) (named : Option Method) (self alias : Option ℕ) (e : Option ClassId) (h : HeapContents) → (program_birth p i a named self alias e h).fields ≡ h.fields
program_fields p i a named self alias None h = finished_fields p i a named self alias h
program_fields p i a named self alias (Some e) h = refl

pub returned_fields : (p : Program) (h : HeapContents) (i : ℕ) (self : Value) (l : Locals) (a : Action) (runs named : Option Method) (v : Value) (e : Option ClassId) (pos at : Pos) (held : List (List Value))
    → (returned p h i self l a runs named v e pos at held).heap.fields ≡ h.fields
returned_fields p h i self l a runs named v e pos at held =
    let gone : HeapContents = frame_gone p i self runs v e h in
    program_fields p i a named (number_of self) (alias_target (operand_of l a) named) e (returned_reset p l a named gone) ∙ gone_fields p i self runs v e h

-- the objects of class `String` are these
module _ (texts : ℕ → Bool) where
  -- ---- a store

  abbrev pub StoreFits : Program → Option Store → Type 0
  StoreFits p None = Unit {0}
  StoreFits p (Some s) = NoObject (field_type p s.field) → IsNoObjectBut texts s.value

  put_none : (p : Program) (i : Option ℕ) (s : StoredField) (xs : List StoredField) → IsStoredNone texts p s → All (IsStoredNone texts p) xs → All (IsStoredNone texts p) (put_at i s xs)
  put_none p None s xs none all = All-push (IsStoredNone texts p) xs s all none
  put_none p (Some i) s xs none all = All-set (IsStoredNone texts p) xs i s none all

  field_put : (p : Program) (w : ℕ) (f : FieldId) (v : Value) (h : HeapContents) → (NoObject (field_type p f) → IsNoObjectBut texts v) → StoredHoldNone texts p h → StoredHoldNone texts p (put_field w f v h)
  field_put p w f v h none all = put_none p (position_from (is_field_of w f) 0 h.fields) (stored w f v) h.fields none all

  same_stored : (p : Program) (h k : HeapContents) → k.fields ≡ h.fields → StoredHoldNone texts p h → StoredHoldNone texts p k
  same_stored p h k same all = subst (All (IsStoredNone texts p)) (sym same) all

  released_fields : (b : Bool) (r : Option ℕ) (h : HeapContents) → (released_where b r h).fields ≡ h.fields
  released_fields true r h = some_fields r given_up h
  released_fields false r h = refl

  taken_fields : (b : Bool) (r : Option ℕ) (o : Owner) (h : HeapContents) → (moved_where b r o h).fields ≡ h.fields
  taken_fields true r o h = some_fields r (with_owner o) h
  taken_fields false r o h = refl

  moved_fields : (p : Program) (h : HeapContents) (w : ℕ) (f : FieldId) (bound : Bool) (v : Value) → (moved_in p h w f bound v).fields ≡ h.fields
  moved_fields p h w f bound v =
      taken_fields (moves_in p h f bound v) (root_of h v) (owners.Field w f) (displaced p h w f v)
      ∙ released_fields (displaces h w f (field_of p h (values.Object w) f) v) (root_of h (field_of p h (values.Object w) f)) h

  owning_put : (p : Program) (h : HeapContents) (w : ℕ) (f : FieldId) (bound : Bool) (v : Value) → (NoObject (field_type p f) → IsNoObjectBut texts v) → StoredHoldNone texts p h → StoredHoldNone texts p (stored_owning p h w f bound v)
  owning_put p h w f bound v none all =
      field_put p w f v (reset_roots p (holder_roots p h w f bound v) (moved_in p h w f bound v)) none
      (same_stored p h (reset_roots p (holder_roots p h w f bound v) (moved_in p h w f bound v)) (moved_fields p h w f bound v) all)

  by_store : (p : Program) (m : Option Method) (l : Locals) (s : Store) (h : HeapContents) → (NoObject (field_type p s.field) → IsNoObjectBut texts s.value) → StoredHoldNone texts p h → StoredHoldNone texts p (stored_by p m l s h)
  by_store p m l s h none all = go (is_owning p s.field)
    where
      go : (b : Bool) → StoredHoldNone texts p (if b then stored_owning p h s.holder s.field (is_bound h m l s.value) s.value else put_field s.holder s.field s.value h)
      go true = owning_put p h s.holder s.field (is_bound h m l s.value) s.value none all
      go false = field_put p s.holder s.field s.value h none all

  by_stores : (p : Program) (m : Option Method) (l : Locals) (s : Option Store) (h : HeapContents) → StoreFits p s → StoredHoldNone texts p h → StoredHoldNone texts p (heap_stored p m l s h)
  by_stores p m l None h none all = all
  by_stores p m l (Some s) h none all = by_store p m l s h none all

  thrown_fields : (p : Program) (e : Option ClassId) (h : HeapContents) → (thrown_heap p e h).fields ≡ h.fields
  thrown_fields p None h = refl
  thrown_fields p (Some e) h = refl

  unless_fits : (p : Program) (e : Option ClassId) (s : Option Store) → StoreFits p s → StoreFits p (store_unless e s)
  unless_fits p None s fits = fits
  unless_fits p (Some e) s fits = tt

  into_fits : (p : Program) (w : Option ℕ) (f : FieldId) (v : Value) → (NoObject (field_type p f) → IsNoObjectBut texts v) → StoreFits p (store_into w f v)
  into_fits p None f v none = tt
  into_fits p (Some w) f v none = none

  store_fits : (p : Program) (b : Body) (l : Locals) (a : Action) → Fits p b a (temp_holds_none texts l) → StoreFits p (store_of l a)
  store_fits p b l (actions.PutOwn f d) fits = into_fits p (number_of l.this) f (temp_value l d) fits
  store_fits p b l (actions.Put f d this) fits = into_fits p (number_of (temp_value l d)) f (temp_value l (d + 1)) fits
  store_fits p b l actions.Skip fits = tt
  store_fits p b l a fits = tt

  -- a step within a frame stores no object into a field of no class type
  pub inner_none : (p : Program) (b : Body) (h : HeapContents) (m : MethodId) (l : Locals) (e : Option ClassId) (a : Action) (pos : Pos) (held : List (List Value)) → StoredHoldNone texts p h → Fits p b a (temp_holds_none texts l)
      → StoredHoldNone texts p (inner p h m l e a pos held).heap
  inner_none p b h m l e a pos held all fits =
      by_stores p (method_at p m) l (store_unless e (store_of l a)) (thrown_heap p e h) (unless_fits p e (store_of l a) (store_fits p b l a fits)) (same_stored p h (thrown_heap p e h) (thrown_fields p e h) all)

  -- ---- what a field holds

  default_none : (t : VType) → IsNoObjectBut texts (default_of t)
  default_none (types.Primitive k) = refl
  default_none types.Str = refl
  default_none (types.Arr e) = refl
  default_none (types.Obj c) = refl
  default_none types.NullType = refl

  default_in_none : (f : Option Field) → IsNoObjectBut texts (default_in f)
  default_in_none None = refl
  default_in_none (Some f) = default_none f.vtype

  found_none : (p : Program) (w : ℕ) (f : FieldId) (xs : List StoredField) (v : Value) → All (IsStoredNone texts p) xs → NoObject (field_type p f) → IsNoObjectBut texts v → IsNoObjectBut texts (unwrap_or (value_stored (find (is_field_of w f) xs)) v)
  found_none p w f [] v all kind none = none
  found_none p w f (s ∷ xs) v all kind none = go (is_field_of w f s) refl (found_none p w f xs v (All-tail (IsStoredNone texts p) s xs all) kind none)
    where
      same_type : is_field_of w f s ≡ true → NoObject (field_type p s.field)
      same_type is = subst (λ (n : ℕ). NoObject (field_type p (record { 0 = n }))) (sym (eqb-true s.field.0 f.0 (and_parts (nat_eq s.holder w) (nat_eq s.field.0 f.0) is).1)) kind

      go : (t : Bool) → is_field_of w f s ≡ t → IsNoObjectBut texts (unwrap_or (value_stored (find (is_field_of w f) xs)) v) → IsNoObjectBut texts (unwrap_or (value_stored (cond t (Some s) (find (is_field_of w f) xs))) v)
      go true is further = All-head (IsStoredNone texts p) s xs all (same_type is)
      go false is further = further

  pub field_is_none : (p : Program) (h : HeapContents) (w : ℕ) (f : FieldId) → StoredHoldNone texts p h → NoObject (field_type p f) → IsNoObjectBut texts (field_value p h w f)
  field_is_none p h w f all kind = found_none p w f h.fields (default_in (field_at p f)) all kind (default_in_none (field_at p f))

  pub field_of_none : (p : Program) (h : HeapContents) (v : Value) (f : FieldId) → StoredHoldNone texts p h → NoObject (field_type p f) → IsNoObjectBut texts (field_of p h v f)
  field_of_none p h (values.Object k) f all kind = field_is_none p h k f all kind
  field_of_none p h values.Nothing f all kind = refl
  field_of_none p h v f all kind = refl
