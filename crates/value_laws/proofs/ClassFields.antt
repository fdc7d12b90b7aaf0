-- What the fields of objects hold after a step within a frame.
use Rattle.std.proofs.Common.{◌≡◌, ◌∙◌, refl, sym, subst, ℕ, ◌+◌, Bool, true, false, Option, Some, None, List, [], ◌∷◌, All, if◌then◌else◌, cond, unwrap_or, eqb-true}
use Rattle.std.specs.Prelude.{nat_eq}
use Rattle.std.specs.List.{find, position_from}
use Rattle.std.proofs.lemmas.Bool.{and_parts}
use Rattle.std.proofs.lemmas.List.Elements.{All-head, All-push, All-set, All-tail}
use Rattle.rlc_base.specs.declared.place.Pos.{Pos}
use Rattle.program_model.specs.declared.kinds.ClassId.{ClassId}
use Rattle.program_model.specs.declared.kinds.FieldId.{FieldId}
use Rattle.program_model.specs.declared.kinds.MethodId.{MethodId}
use Rattle.program_model.specs.declared.program.Field.{Field}
use Rattle.program_model.specs.declared.program.Method.{Method}
use Rattle.program_model.specs.declared.program.Program.{Program}
use Rattle.program_model.specs.declared.tree.Body.{Body}
use Rattle.program_model.specs.Lookups.{field_at, method_at}
use Rattle.control_actions.specs.declared.action.Action.{Action}
use Rattle.control_actions.specs.declared.action.Action.TheVariants as actions
use Rattle.java_control.specs.Owned.{is_owning}
use Rattle.ledger_state.specs.declared.entry.Owner.{Owner}
use Rattle.ledger_state.specs.declared.entry.Owner.TheVariants as owners
use Rattle.ledger_state.specs.declared.locals.Locals.{Locals}
use Rattle.ledger_state.specs.declared.object.Object.{Object}
use Rattle.ledger_state.specs.declared.object.StoredField.{StoredField}
use Rattle.ledger_state.specs.declared.value.Value.{Value}
use Rattle.ledger_state.specs.declared.value.Value.TheVariants as values
use Rattle.ledger_state.specs.Contents.{HeapContents}
use Rattle.ledger_state.specs.Fields.{default_in, field_of, field_value}
use Rattle.ledger_state.specs.Heaps.{change_some, is_field_of, put_at, put_field, root_of, stored, value_stored}
use Rattle.ledger_state.specs.Locals.{temp_value}
use Rattle.ledger_state.specs.Values.{number_of}
use Rattle.ledger_steps.specs.Obligations.{displaced, displaces, given_up, holder_roots, moved_in, moved_where, moves_in, released_where, reset_roots, stored_owning, with_owner}
use Rattle.ledger_steps.specs.declared.store.Store.{Store}
use Rattle.ledger_steps.specs.InnerSteps.{heap_stored, inner, is_bound, store_into, store_of, store_unless, stored_by, thrown_heap}
use Rattle.dispatch_laws.specs.ClassOperands.{field_type, type_of_field}
use Rattle.dispatch_laws.specs.ClassOperands.{Fits, OfClass}
use Rattle.value_laws.specs.Values.{FitsClass, temp_fits_class}
use Rattle.value_laws.specs.ClassValues.{StoredFieldFitsClass, StoredFieldsFitClass}
use Rattle.value_laws.proofs.ClassOperands.{default_fits}

some_fields : (k : Option ℕ) (change : Object → Object) (h : HeapContents) → (change_some k change h).fields ≡ h.fields
some_fields None change h = refl
some_fields (Some k) change h = refl

-- ---- a store

abbrev pub StoreFits : Program → ClassId → HeapContents → Option Store → Type 0
StoreFits p bound K None = Unit {0}
StoreFits p bound K (Some s) = OfClass p bound (field_type p s.field) → FitsClass p bound K s.value

put_none : (p : Program) (bound : ClassId) (K : HeapContents) (i : Option ℕ) (s : StoredField) (xs : List StoredField) → StoredFieldFitsClass p bound K s → All (StoredFieldFitsClass p bound K) xs → All (StoredFieldFitsClass p bound K) (put_at i s xs)
put_none p bound K None s xs none all = All-push (StoredFieldFitsClass p bound K) xs s all none
put_none p bound K (Some i) s xs none all = All-set (StoredFieldFitsClass p bound K) xs i s none all

field_put : (p : Program) (bound : ClassId) (K : HeapContents) (w : ℕ) (f : FieldId) (v : Value) (h : HeapContents) → (OfClass p bound (field_type p f) → FitsClass p bound K v) → StoredFieldsFitClass p bound K h → StoredFieldsFitClass p bound K (put_field w f v h)
field_put p bound K w f v h none all = put_none p bound K (position_from (is_field_of w f) 0 h.fields) (stored w f v) h.fields none all

same_stored : (p : Program) (bound : ClassId) (K h k : HeapContents) → k.fields ≡ h.fields → StoredFieldsFitClass p bound K h → StoredFieldsFitClass p bound K k
same_stored p bound K h k same all = subst (All (StoredFieldFitsClass p bound K)) (sym same) all

released_fields : (b : Bool) (r : Option ℕ) (h : HeapContents) → (released_where b r h).fields ≡ h.fields
released_fields true r h = some_fields r given_up h
released_fields false r h = refl

taken_fields : (b : Bool) (r : Option ℕ) (o : Owner) (h : HeapContents) → (moved_where b r o h).fields ≡ h.fields
taken_fields true r o h = some_fields r (with_owner o) h
taken_fields false r o h = refl

moved_fields : (p : Program) (h : HeapContents) (w : ℕ) (f : FieldId) (bound : Bool) (v : Value) → (moved_in p h w f bound v).fields ≡ h.fields
moved_fields p h w f bound v =
    taken_fields (moves_in p h f bound v) (root_of h v) (owners.Field w f) (displaced p h w f v)
    ∙ released_fields (displaces h w f (field_of p h (values.Object w) f) v) (root_of h (field_of p h (values.Object w) f)) h

owning_put : (p : Program) (bound : ClassId) (K h : HeapContents) (w : ℕ) (f : FieldId) (owned : Bool) (v : Value) → (OfClass p bound (field_type p f) → FitsClass p bound K v) → StoredFieldsFitClass p bound K h → StoredFieldsFitClass p bound K (stored_owning p h w f owned v)
owning_put p bound K h w f owned v none all =
    field_put p bound K w f v (reset_roots p (holder_roots p h w f owned v) (moved_in p h w f owned v)) none
    (same_stored p bound K h (reset_roots p (holder_roots p h w f owned v) (moved_in p h w f owned v)) (moved_fields p h w f owned v) all)

by_store : (p : Program) (bound : ClassId) (K : HeapContents) (m : Option Method) (l : Locals) (s : Store) (h : HeapContents) → (OfClass p bound (field_type p s.field) → FitsClass p bound K s.value) → StoredFieldsFitClass p bound K h → StoredFieldsFitClass p bound K (stored_by p m l s h)
by_store p bound K m l s h none all = go (is_owning p s.field)
  where
    go : (b : Bool) → StoredFieldsFitClass p bound K (if b then stored_owning p h s.holder s.field (is_bound h m l s.value) s.value else put_field s.holder s.field s.value h)
    go true = owning_put p bound K h s.holder s.field (is_bound h m l s.value) s.value none all
    go false = field_put p bound K s.holder s.field s.value h none all

by_stores : (p : Program) (bound : ClassId) (K : HeapContents) (m : Option Method) (l : Locals) (s : Option Store) (h : HeapContents) → StoreFits p bound K s → StoredFieldsFitClass p bound K h → StoredFieldsFitClass p bound K (heap_stored p m l s h)
by_stores p bound K m l None h none all = all
by_stores p bound K m l (Some s) h none all = by_store p bound K m l s h none all

thrown_fields : (p : Program) (e : Option ClassId) (h : HeapContents) → (thrown_heap p e h).fields ≡ h.fields
thrown_fields p None h = refl
thrown_fields p (Some e) h = refl

unless_fits : (p : Program) (bound : ClassId) (K : HeapContents) (e : Option ClassId) (s : Option Store) → StoreFits p bound K s → StoreFits p bound K (store_unless e s)
unless_fits p bound K None s fits = fits
unless_fits p bound K (Some e) s fits = tt

into_fits : (p : Program) (bound : ClassId) (K : HeapContents) (w : Option ℕ) (f : FieldId) (v : Value) → (OfClass p bound (field_type p f) → FitsClass p bound K v) → StoreFits p bound K (store_into w f v)
into_fits p bound K None f v none = tt
into_fits p bound K (Some w) f v none = none

store_fits : (p : Program) (bound : ClassId) (K : HeapContents) (b : Body) (l : Locals) (a : Action) → Fits p bound b a (temp_fits_class p bound K l) → StoreFits p bound K (store_of l a)
store_fits p bound K b l (actions.PutOwn f d) fits = into_fits p bound K (number_of l.this) f (temp_value l d) fits
store_fits p bound K b l (actions.Put f d this) fits = into_fits p bound K (number_of (temp_value l d)) f (temp_value l (d + 1)) fits.0
store_fits p bound K b l actions.Skip fits = tt
store_fits p bound K b l a fits = tt

-- a step within a frame stores objects of the class and null alone into fields of a type under the class; `K` is the heap afterwards
pub inner_fits : (p : Program) (bound : ClassId) (K : HeapContents) (b : Body) (h : HeapContents) (m : MethodId) (l : Locals) (e : Option ClassId) (a : Action) (pos : Pos) (held : List (List Value)) → StoredFieldsFitClass p bound K h → Fits p bound b a (temp_fits_class p bound K l)
    → StoredFieldsFitClass p bound K (inner p h m l e a pos held).heap
inner_fits p bound K b h m l e a pos held all fits =
    by_stores p bound K (method_at p m) l (store_unless e (store_of l a)) (thrown_heap p e h) (unless_fits p bound K e (store_of l a) (store_fits p bound K b l a fits)) (same_stored p bound K h (thrown_heap p e h) (thrown_fields p e h) all)

-- ---- what a field holds

default_in_fits : (p : Program) (bound : ClassId) (K : HeapContents) (f : Option Field) → OfClass p bound (type_of_field f) → FitsClass p bound K (default_in f)
default_in_fits p bound K None to = absurd to
default_in_fits p bound K (Some f) to = default_fits p bound K f.vtype to

found_fits : (p : Program) (bound : ClassId) (K : HeapContents) (w : ℕ) (f : FieldId) (xs : List StoredField) (v : Value) → All (StoredFieldFitsClass p bound K) xs → OfClass p bound (field_type p f) → FitsClass p bound K v → FitsClass p bound K (unwrap_or (value_stored (find (is_field_of w f) xs)) v)
found_fits p bound K w f [] v all kind none = none
found_fits p bound K w f (s ∷ xs) v all kind none = go (is_field_of w f s) refl (found_fits p bound K w f xs v (All-tail (StoredFieldFitsClass p bound K) s xs all) kind none)
  where
    same_type : is_field_of w f s ≡ true → OfClass p bound (field_type p s.field)
    same_type is = subst (λ (n : ℕ). OfClass p bound (field_type p (record { 0 = n }))) (sym (eqb-true s.field.0 f.0 (and_parts (nat_eq s.holder w) (nat_eq s.field.0 f.0) is).1)) kind

    go : (t : Bool) → is_field_of w f s ≡ t → FitsClass p bound K (unwrap_or (value_stored (find (is_field_of w f) xs)) v) → FitsClass p bound K (unwrap_or (value_stored (cond t (Some s) (find (is_field_of w f) xs))) v)
    go true is further = All-head (StoredFieldFitsClass p bound K) s xs all (same_type is)
    go false is further = further

pub field_fits : (p : Program) (bound : ClassId) (K h : HeapContents) (w : ℕ) (f : FieldId) → StoredFieldsFitClass p bound K h → OfClass p bound (field_type p f) → FitsClass p bound K (field_value p h w f)
field_fits p bound K h w f all kind = found_fits p bound K w f h.fields (default_in (field_at p f)) all kind (default_in_fits p bound K (field_at p f) kind)

pub field_of_fits : (p : Program) (bound : ClassId) (K h : HeapContents) (v : Value) (f : FieldId) → StoredFieldsFitClass p bound K h → OfClass p bound (field_type p f) → FitsClass p bound K (field_of p h v f)
field_of_fits p bound K h (values.Object k) f all kind = field_fits p bound K h k f all kind
field_of_fits p bound K h values.Nothing f all kind = tt
field_of_fits p bound K h v f all kind = tt
