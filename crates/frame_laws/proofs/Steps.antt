-- Each step of the machine leaves all that is held in range.
use Rattle.std.proofs.Common.{◌≡◌, ℕ, ◌+◌, ◌≤◌, ◌<◌, Bool, true, false, Option, Some, None, List, All, refl, if◌then◌else◌, arith}
use Rattle.std.specs.List.{position_from}
use Rattle.std.proofs.lemmas.List.Elements.{All-push, All-set}
use Rattle.program_model.specs.declared.kinds.ClassId.{ClassId}
use Rattle.program_model.specs.declared.kinds.FieldId.{FieldId}
use Rattle.program_model.specs.declared.program.Method.{Method}
use Rattle.program_model.specs.declared.program.Program.{Program}
use Rattle.java_control.specs.Owned.{is_owning}
use Rattle.control_actions.specs.declared.action.Action.{Action}
use Rattle.control_actions.specs.declared.action.Action.TheVariants as actions
use Rattle.control_actions.specs.declared.action.Completion.{Completion}
use Rattle.control_actions.specs.declared.action.Completion.TheVariants as completions
use Rattle.program_model.specs.declared.kinds.VType.{VType}
use Rattle.program_model.specs.declared.kinds.VType.TheVariants as types
use Rattle.stub_conduct.specs.declared.choice.Choice.{Choice}
use Rattle.ledger_state.specs.Contents.{HeapContents}
use Rattle.ledger_state.specs.Heaps.{append, is_field_of, next_number, put_at, put_field, stored}
use Rattle.ledger_state.specs.Locals.{temp_value}
use Rattle.ledger_state.specs.Values.{default_of, number_of}
use Rattle.ledger_state.specs.declared.array.ArrayObject.{ArrayObject}
use Rattle.ledger_state.specs.declared.locals.Locals.{Locals}
use Rattle.ledger_state.specs.declared.object.StoredField.{StoredField}
use Rattle.ledger_state.specs.declared.object.StoredStatic.{StoredStatic}
use Rattle.ledger_state.specs.declared.value.Value.{Value}
use Rattle.ledger_steps.specs.Obligations.{holder_roots, lose, lost_object, moved_in, reset_roots, stored_owning}
use Rattle.ledger_moves.specs.Operations.{made_value}
use Rattle.ledger_steps.specs.Conducts.{result_in}
use Rattle.ledger_steps.specs.CallSteps.{self_begun}
use Rattle.ledger_steps.specs.Ends.{answered, default_result, result_value}
use Rattle.ledger_steps.specs.declared.store.Store.{Store}
use Rattle.ledger_steps.specs.InnerSteps.{heap_stored, is_bound, store_into, store_of, store_unless, stored_by, thrown_heap, thrown_value}
use Rattle.agreement.proofs.ObjectLaws.{appended_count}
use Rattle.agreement.specs.Ranges.{FieldsInRange, IsInRange, IsNumber, IsStoredInRange, LocalsInRange}
use Rattle.frame_laws.proofs.Growth.{Grows, IsNewFuller, each_grows, stored_grows, thrown_grows}
use Rattle.frame_laws.proofs.Operations.{ArraysIn, StaticsIn, operations_in, plain_in}
use Rattle.frame_laws.proofs.RangeValues.{field_in_range, fields_stay, none_in_range, nothing_in_range, operand_in_range, value_stays}

-- ---- stores

put_in : (h : HeapContents) (i : Option ℕ) (s : StoredField) (fs : List StoredField) → IsStoredInRange h s → All (IsStoredInRange h) fs → All (IsStoredInRange h) (put_at i s fs)
put_in h None s fs one all = All-push (IsStoredInRange h) fs s all one
put_in h (Some i) s fs one all = All-set (IsStoredInRange h) fs i s one all

put_field_in : (h : HeapContents) (w : ℕ) (f : FieldId) (v : Value) → IsNumber h w → IsInRange h v → FieldsInRange h → FieldsInRange (put_field w f v h)
put_field_in h w f v below in' fields = put_in h (position_from (is_field_of w f) 0 h.fields) (stored w f v) h.fields (below, in') fields

-- a heap that has no fewer objects, and whose fields are in range
pub record IsFuller (h k : HeapContents) : Type 0 where
  pub count : next_number h ≤ next_number k
  pub fields : FieldsInRange k

grown : (h k : HeapContents) → Grows h k → FieldsInRange h → IsFuller h k
grown h k grows fields = record { count = grows.count; fields = fields_stay h k grows fields }

pub owning_fuller : (p : Program) (h : HeapContents) (w : ℕ) (f : FieldId) (bound : Bool) (v : Value) → IsNumber h w → IsInRange h v → FieldsInRange h → IsFuller h (stored_owning p h w f bound v)
owning_fuller p h w f bound v below in' fields = record {
  count = grows.count;
  fields = put_field_in before w f v (below.0, (let less = below.1 in let more = grows.count in omega (arith, less, more))) (value_stays h before grows.count v in') (fields_stay h before grows fields);
}
  where
    before : HeapContents
    before = reset_roots p (holder_roots p h w f bound v) (moved_in p h w f bound v)

    grows : Grows h before
    grows = stored_grows p h w f bound v

stored_fuller : (p : Program) (m : Option Method) (l : Locals) (s : Store) (h : HeapContents) → IsNumber h s.holder → IsInRange h s.value → FieldsInRange h → IsFuller h (stored_by p m l s h)
stored_fuller p m l s h below in' fields = go (is_owning p s.field)
  where
    go : (b : Bool) → IsFuller h (if b then stored_owning p h s.holder s.field (is_bound h m l s.value) s.value else put_field s.holder s.field s.value h)
    go true = owning_fuller p h s.holder s.field (is_bound h m l s.value) s.value below in' fields
    go false = record { count = omega arith; fields = put_field_in h s.holder s.field s.value below in' fields }

-- the store is of an object that is there, into one
abbrev pub StoreFits : HeapContents → Option Store → Type 0
StoreFits h None = Unit {0}
StoreFits h (Some s) = IsNumber h s.holder × IsInRange h s.value

store_fits : (h : HeapContents) (l : Locals) → LocalsInRange h l → (a : Action) → StoreFits h (store_of l a)
store_fits h l in' actions.Skip = tt
store_fits h l in' (actions.PutOwn f d) = go (number_of l.this) in'.this
  where
    go : (w : Option ℕ) → ((k : ℕ) → w ≡ Some k → IsNumber h k) → StoreFits h (store_into w f (temp_value l d))
    go None this = tt
    go (Some w) this = (this w refl, in'.temps d)
store_fits h l in' (actions.Put f d through_this) = go (number_of (temp_value l d)) (in'.temps d)
  where
    go : (w : Option ℕ) → ((k : ℕ) → w ≡ Some k → IsNumber h k) → StoreFits h (store_into w f (temp_value l (d + 1)))
    go None there = tt
    go (Some w) there = (there w refl, in'.temps (d + 1))
store_fits h l in' a = tt

unless_fits : (h : HeapContents) (e : Option ClassId) (s : Option Store) → StoreFits h s → StoreFits h (store_unless e s)
unless_fits h None s fits = fits
unless_fits h (Some e) s fits = tt

heap_stored_fuller : (p : Program) (m : Option Method) (l : Locals) (s : Option Store) (h : HeapContents) → StoreFits h s → FieldsInRange h → IsFuller h (heap_stored p m l s h)
heap_stored_fuller p m l None h fits fields = record { count = omega arith; fields = fields }
heap_stored_fuller p m l (Some s) h fits fields = stored_fuller p m l s h fits.0 fits.1 fields

thrown_fits : (h k : HeapContents) → next_number h ≤ next_number k → (s : Option Store) → StoreFits h s → StoreFits k s
thrown_fits h k more None fits = tt
thrown_fits h k more (Some s) fits = ((fits.0.0, (let below = fits.0.1 in omega (arith, below, more))), value_stays h k more s.value fits.1)

-- the heap after a step within a frame
pub inner_fuller : (p : Program) (m : Option Method) (l : Locals) (e : Option ClassId) (a : Action) (held : List (List Value)) (h : HeapContents) → LocalsInRange h l → FieldsInRange h
    → IsFuller h (lose held (heap_stored p m l (store_unless e (store_of l a)) (thrown_heap p e h)))
inner_fuller p m l e a held h in' fields =
    let g = thrown_heap p e h in
    let thrown = grown h g (thrown_grows p e h) fields in
    let fits = thrown_fits h g thrown.count (store_unless e (store_of l a)) (unless_fits h e (store_of l a) (store_fits h l in' a)) in
    let stored = heap_stored_fuller p m l (store_unless e (store_of l a)) g fits thrown.fields in
    let k = heap_stored p m l (store_unless e (store_of l a)) g in
    let lost = grown k (lose held k) (each_grows (lost_object k held) k) stored.fields in
    record { count = (let one = thrown.count in let two = stored.count in let three = lost.count in omega (arith, one, two, three)); fields = lost.fields }

pub inner_after_thrown : (p : Program) (m : Option Method) (l : Locals) (e : Option ClassId) (a : Action) (held : List (List Value)) (h : HeapContents) → LocalsInRange h l → FieldsInRange h
    → next_number (thrown_heap p e h) ≤ next_number (lose held (heap_stored p m l (store_unless e (store_of l a)) (thrown_heap p e h)))
inner_after_thrown p m l e a held h in' fields =
    let g = thrown_heap p e h in
    let thrown = grown h g (thrown_grows p e h) fields in
    let fits = thrown_fits h g thrown.count (store_unless e (store_of l a)) (unless_fits h e (store_of l a) (store_fits h l in' a)) in
    let stored = heap_stored_fuller p m l (store_unless e (store_of l a)) g fits thrown.fields in
    let k = heap_stored p m l (store_unless e (store_of l a)) g in
    let two = stored.count in
    let three = (each_grows (lost_object k held) k).count in
    omega (arith, two, three)

-- ---- what a step within a frame makes

pub made_in_range : (p : Program) (h : HeapContents) (arrays : List ArrayObject) (statics : List StoredStatic) (c : Choice) (l : Locals) (a : Action) → LocalsInRange h l → FieldsInRange h
    → ArraysIn h arrays → StaticsIn h statics → IsInRange h (made_value p h arrays statics c l a)
made_in_range p h arrays statics c l actions.Skip in' fields all none = nothing_in_range h
made_in_range p h arrays statics c l (actions.Plain x v) in' fields all none = plain_in h p statics v none
made_in_range p h arrays statics c l (actions.Op k d n) in' fields all none = operations_in h p h arrays c l k d all in'
made_in_range p h arrays statics c l (actions.Get f d through_this) in' fields all none = field_in_range p h fields (temp_value l d) f
made_in_range p h arrays statics c l (actions.Raise d s) in' fields all none = in'.temps d
made_in_range p h arrays statics c l a in' fields all none = nothing_in_range h

exception_count : (p : Program) (e : ClassId) (h : HeapContents) → next_number h < next_number (thrown_heap p (Some e) h)
exception_count p e h =
    let one = appended_count h e in
    let two = (each_grows (λ n x. x) (append h e)).count in
    let more = thrown_more p e h in
    omega (arith, one, more)
  where
    thrown_more : (p : Program) (e : ClassId) (h : HeapContents) → next_number (append h e) ≤ next_number (thrown_heap p (Some e) h)
    thrown_more p e h = (each_grows _ (append h e)).count

pub thrown_in_range : (p : Program) (e : Option ClassId) (h k : HeapContents) (v : Value) → next_number (thrown_heap p e h) ≤ next_number k → IsInRange h v → IsInRange k (thrown_value h e v)
thrown_in_range p None h k v more in' j is = value_stays h k more v in' j is
thrown_in_range p (Some e) h k v more in' j is =
    let one : next_number h ≡ j = (let both : Some (next_number h) ≡ Some j = is in cc) in
    let two = exception_count p e h in
    (omega (arith, one), omega (arith, one, two, more))

-- ---- calls

pub self_in_range : (l : Locals) (a : Action) (x : Method) (h k : HeapContents) → LocalsInRange k l → (IsNewFuller a (Some x) h k) → IsInRange k (self_begun l a h)
self_in_range l actions.Skip x h k in' more j is = operand_in_range k l in' actions.Skip 0 j is
self_in_range l (actions.New m d n) x h k in' more j is = let one : next_number h ≡ j = (let both : Some (next_number h) ≡ Some j = is in cc) in (omega (arith, one), omega (arith, one, more))
self_in_range l a x h k in' more j is = operand_in_range k l in' a 0 j is

no_default : (t : VType) → number_of (default_of t) ≡ None
no_default (types.Primitive t) = refl
no_default t = refl

default_in_range : (h : HeapContents) (t : Option VType) → IsInRange h (default_result t)
default_in_range h None = nothing_in_range h
default_in_range h (Some t) = none_in_range h (default_of t) (no_default t)

pub result_in_range : (h : HeapContents) (l : Locals) → LocalsInRange h l → (m : Option Method) (q : Completion) → IsInRange h (result_value l m q)
result_in_range h l in' m (completions.ReturnValue d pos) = in'.temps d
result_in_range h l in' m (completions.Return pos) = default_in_range h (result_in m)
result_in_range h l in' m (completions.Throw d t pos) = in'.temps d
result_in_range h l in' m (completions.Break pos) = nothing_in_range h
result_in_range h l in' m (completions.Continue pos) = nothing_in_range h

pub answered_in_range : (h : HeapContents) (self : Value) (a : Action) (v : Value) (e : Option ClassId) → IsInRange h self → IsInRange h v → IsInRange h (answered self a v e)
answered_in_range h self actions.Skip v None this in' = in'
answered_in_range h self (actions.New m d n) v None this in' = this
answered_in_range h self (actions.Super m d n) v None this in' = nothing_in_range h
answered_in_range h self a v None this in' = in'
answered_in_range h self a v (Some e) this in' = in'
