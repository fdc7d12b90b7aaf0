-- The configurations of a run hold what is in range.
use Rattle.std.proofs.Common.{◌≡◌, ℕ, ◌+◌, ◌≤◌, true, Option, Some, None, List, [], ◌∷◌, All, length, map, slice_get, refl, subst}
use Rattle.std.specs.Prelude.{ℤ}
use Rattle.std.specs.List.{range_with_len}
use Rattle.std.proofs.lemmas.List.Elements.{All-append, All-cons, All-nil, All-set}
use Rattle.rlc_base.specs.declared.place.Pos.{Pos}
use Rattle.program_model.specs.declared.kinds.ClassId.{ClassId}
use Rattle.program_model.specs.declared.kinds.MethodId.{MethodId}
use Rattle.program_model.specs.declared.kinds.VType.{VType}
use Rattle.program_model.specs.declared.kinds.VType.TheVariants as types
use Rattle.program_model.specs.declared.program.Method.{Method}
use Rattle.program_model.specs.declared.program.Program.{Program}
use Rattle.program_model.specs.Lookups.{method_at}
use Rattle.java_control.specs.Control.{Step}
use Rattle.control_actions.specs.declared.action.Action.{Action}
use Rattle.control_actions.specs.declared.action.Completion.{Completion}
use Rattle.stub_conduct.specs.declared.choice.Conduct.{Conduct}
use Rattle.stub_conduct.specs.declared.choice.Conduct.TheVariants as conducts
use Rattle.ledger_state.specs.Classes.{library_array}
use Rattle.ledger_state.specs.Contents.{HeapContents}
use Rattle.ledger_state.specs.Heaps.{next_number}
use Rattle.ledger_state.specs.declared.array.ArrayObject.{ArrayObject}
use Rattle.ledger_state.specs.declared.object.StoredStatic.{StoredStatic}
use Rattle.ledger_state.specs.declared.value.Value.{Value}
use Rattle.ledger_state.specs.declared.value.Value.TheVariants as values
use Rattle.ledger_steps.specs.Obligations.{end_frame, given_up_by_frame, lose, lost_object}
use Rattle.ledger_moves.specs.Operations.{arrays_after, made_value, next_choice, statics_after}
use Rattle.ledger_steps.specs.LedgerCallsCalls.{argument_values, begun, operand_of, params_in}
use Rattle.ledger_moves.specs.Configuration.{Config, Frame, held_by}
use Rattle.ledger_steps.specs.Conducts.{array_given, arguments_shared, arrays_given, conduct_value, positions, result_in, share, share_all, share_value}
use Rattle.ledger_moves.specs.LedgerFramesFrames.{frame_after}
use Rattle.ledger_steps.specs.CallSteps.{began_heap, library_heap, self_begun}
use Rattle.ledger_steps.specs.Ends.{answered, result_value, returned_heap}
use Rattle.ledger_steps.specs.InnerSteps.{heap_stored, store_of, store_unless, thrown_heap, thrown_value}
use Rattle.agreement.specs.LedgerRunsSteps.{began, if_thrown, library_went, main_ended, returned, within}
use Rattle.agreement.specs.Ranges.{AreInRange, FieldsInRange, IsInRange, LocalsInRange}
use Rattle.frame_laws.proofs.Growth.{Grows, IsMadeIn, IsNewFuller, began_grows, each_grows, grows_further, library_grows, made_there, new_more, returned_grows}
use Rattle.frame_laws.proofs.Operations.{ArraysIn, ElementsIn, StaticsIn, all_at, arrays_stay, statics_stay}
use Rattle.frame_laws.proofs.Steps.{IsFuller, answered_in_range, inner_after_thrown, inner_fuller, made_in_range, result_in_range, self_in_range, thrown_in_range}
use Rattle.frame_laws.proofs.RangeValues.{all_more, arguments_in_range, begun_in_range, fields_stay, locals_in_range, locals_stay, value_stays}

-- ---- the parts of a configuration, over growth

abbrev pub FramesIn : HeapContents → List Frame → Type 0
FramesIn h frs = All (λ (fr : Frame). LocalsInRange h fr.locals) frs

pub frames_stay : (h k : HeapContents) → next_number h ≤ next_number k → (frs : List Frame) → FramesIn h frs → FramesIn k frs
frames_stay h k more frs all = all_more (λ (fr : Frame). LocalsInRange h fr.locals) (λ (fr : Frame). LocalsInRange k fr.locals) (λ fr in'. locals_stay h k more fr.locals in') frs all

statics_grow : (h k : HeapContents) → next_number h ≤ next_number k → (statics : List StoredStatic) → StaticsIn h statics → StaticsIn k statics
statics_grow h k more statics all = all_more (λ (s : StoredStatic). IsInRange h s.value) (λ (s : StoredStatic). IsInRange k s.value) (λ s in'. value_stays h k more s.value in') statics all

arrays_grow : (h k : HeapContents) → next_number h ≤ next_number k → (arrays : List ArrayObject) → ArraysIn h arrays → ArraysIn k arrays
arrays_grow h k more arrays all =
    all_more (ElementsIn h) (ElementsIn k) (λ a in'. all_more (IsInRange h) (IsInRange k) (λ v one. value_stays h k more v one) a.elements in') arrays all

-- what the arrays hold stays as they are shared, and a new one holds nothing
share_in : (h : HeapContents) (arrays : List ArrayObject) (n : ℕ) (a : Option ArrayObject) → slice_get arrays n ≡ a → ArraysIn h arrays → ArraysIn h (share arrays n a)
share_in h arrays n None at all = all
share_in h arrays n (Some a) at all = All-set (ElementsIn h) arrays n (record a { shared = true }) (all_at (ElementsIn h) arrays n a all at) all

share_value_in : (h : HeapContents) (arrays : List ArrayObject) (v : Value) → ArraysIn h arrays → ArraysIn h (share_value arrays v)
share_value_in h arrays values.Nothing all = all
share_value_in h arrays (values.Array n) all = share_in h arrays n (slice_get arrays n) refl all
share_value_in h arrays v all = all

share_all_in : (h : HeapContents) (arrays : List ArrayObject) (vs : List Value) → ArraysIn h arrays → ArraysIn h (share_all arrays vs)
share_all_in h arrays [] all = all
share_all_in h arrays (v ∷ vs) all = share_all_in h (share_value arrays v) vs (share_value_in h arrays v all)

array_given_in : (h : HeapContents) (t : Option VType) (z : ℤ) → ArraysIn h (array_given t z)
array_given_in h None z = All-nil (ElementsIn h)
array_given_in h (Some (types.Arr e)) z = All-cons (ElementsIn h) (library_array e z) [] (All-nil (IsInRange h)) (All-nil (ElementsIn h))
array_given_in h t z = All-nil (ElementsIn h)

arrays_given_in : (h : HeapContents) (arrays : List ArrayObject) (t : Option VType) (d : Conduct) → ArraysIn h arrays → ArraysIn h (arrays_given arrays t d)
arrays_given_in h arrays t conducts.Null all = all
arrays_given_in h arrays t (conducts.Value z) all = All-append (ElementsIn h) arrays (array_given t z) all (array_given_in h t z)
arrays_given_in h arrays t d all = all

if_thrown_in : {X : Type 0} (P : X → Type 0) (e : Option ClassId) (old new : X) → P old → P new → P (if_thrown e old new)
if_thrown_in P None old new before after = after
if_thrown_in P (Some e) old new before after = before

-- ---- steps

module _ (p : Program) (c : Config) (fr : Frame) (frs : List Frame) (top : LocalsInRange c.heap fr.locals) (below : FramesIn c.heap frs) (in' : AreInRange c) where
  -- a heap that grows, and then loses objects
  lost_grows : (h k : HeapContents) (held : List (List Value)) → Grows h k → Grows h (lose held k)
  lost_grows h k held grows = grows_further h k (lose held k) grows (each_grows (lost_object k held) k)

  pub within_in_range : (e : Option ClassId) (s : Step) → AreInRange (within p c fr frs e s)
  within_in_range e s = record {
    frames = All-cons (λ (x : Frame). LocalsInRange heap x.locals) after frs (locals_in_range p c.heap heap full.count in'.fields fr.method fr.locals top s.action s.edge v value) (frames_stay c.heap heap full.count frs below);
    fields = full.fields;
    statics = statics_grow c.heap heap full.count statics (if_thrown_in (StaticsIn c.heap) e c.statics (statics_after c.statics fr.locals s.action) in'.statics (statics_stay c.heap c.statics fr.locals s.action in'.statics top));
    arrays = arrays_grow c.heap heap full.count arrays (if_thrown_in (ArraysIn c.heap) e c.arrays (arrays_after c.arrays fr.locals s.action) in'.arrays (arrays_stay c.heap c.arrays fr.locals s.action in'.arrays top));
  }
    where
      made : Value
      made = made_value p c.heap c.arrays c.statics (next_choice c.choices c.used) fr.locals s.action

      v : Value
      v = thrown_value c.heap e made

      after : Frame
      after = frame_after p c.heap fr s v

      heap : HeapContents
      heap = lose (held_by (after ∷ frs)) (heap_stored p (method_at p fr.method) fr.locals (store_unless e (store_of fr.locals s.action)) (thrown_heap p e c.heap))

      statics : List StoredStatic
      statics = if_thrown e c.statics (statics_after c.statics fr.locals s.action)

      arrays : List ArrayObject
      arrays = if_thrown e c.arrays (arrays_after c.arrays fr.locals s.action)

      full : IsFuller c.heap heap
      full = inner_fuller p (method_at p fr.method) fr.locals e s.action (held_by (after ∷ frs)) c.heap top in'.fields

      value : IsInRange heap v
      value = thrown_in_range p e c.heap heap made (inner_after_thrown p (method_at p fr.method) fr.locals e s.action (held_by (after ∷ frs)) c.heap top in'.fields)
          (made_in_range p c.heap c.arrays c.statics (next_choice c.choices c.used) fr.locals s.action top in'.fields in'.arrays in'.statics)

  -- all but the frames, where the heap has grown
  module _ (k : HeapContents) (grows : Grows c.heap k) where
    pub statics_further : StaticsIn k c.statics
    statics_further = statics_grow c.heap k grows.count c.statics in'.statics

    pub fields_further : FieldsInRange k
    fields_further = fields_stay c.heap k grows in'.fields

    pub frames_further : FramesIn k (fr ∷ frs)
    frames_further = All-cons (λ (x : Frame). LocalsInRange k x.locals) fr frs (locals_stay c.heap k grows.count fr.locals top) (frames_stay c.heap k grows.count frs below)

  pub began_in_range : (named runs : MethodId) (x : Method) (a : Action) (pos : Pos) → method_at p named ≡ Some x → AreInRange (began p c fr frs named runs a pos)
  began_in_range named runs x a pos at = record {
    frames = All-cons (λ (x : Frame). LocalsInRange heap x.locals) callee (fr ∷ frs)
        (begun_in_range p heap runs (self_begun fr.locals a c.heap) (argument_values fr.locals a (method_at p named))
        (self_in_range fr.locals a x c.heap heap stays new_fuller) (arguments_in_range heap fr.locals stays a (method_at p named)))
        (frames_further heap grows);
    fields = fields_further heap grows;
    statics = statics_further heap grows;
    arrays = arrays_grow c.heap heap grows.count c.arrays in'.arrays;
  }
    where
      callee : Frame
      callee = begun p runs (self_begun fr.locals a c.heap) (argument_values fr.locals a (method_at p named))

      start : HeapContents
      start = began_heap p fr.locals a (method_at p named) (length (callee ∷ fr ∷ frs)) c.heap

      heap : HeapContents
      heap = lose (held_by (callee ∷ fr ∷ frs)) start

      grows : Grows c.heap heap
      grows = lost_grows c.heap start (held_by (callee ∷ fr ∷ frs)) (began_grows p fr.locals a (method_at p named) (length (callee ∷ fr ∷ frs)) c.heap)

      stays : LocalsInRange heap fr.locals
      stays = locals_stay c.heap heap grows.count fr.locals top

      new_fuller : IsNewFuller a (Some x) c.heap heap
      new_fuller = subst (λ (m : Option Method). IsNewFuller a m c.heap heap) at (new_more p fr.locals a (method_at p named) (length (callee ∷ fr ∷ frs)) (held_by (callee ∷ fr ∷ frs)) c.heap)

  pub main_in_range : (pos : Pos) (q : Completion) → AreInRange (main_ended p c fr pos q)
  main_in_range pos q = record {
    frames = All-nil (λ (x : Frame). LocalsInRange heap x.locals);
    fields = fields_further heap grows;
    statics = statics_further heap grows;
    arrays = arrays_grow c.heap heap grows.count c.arrays in'.arrays;
  }
    where
      heap : HeapContents
      heap = end_frame 1 c.heap

      grows : Grows c.heap heap
      grows = each_grows (given_up_by_frame 1) c.heap

  pub library_in_range : (named m : MethodId) (d : Conduct) (s : Step)
      → ((k : HeapContents) → next_number c.heap ≤ next_number k → IsMadeIn c.heap k d → IsInRange k (conduct_value (length (arguments_shared c.arrays fr.locals s.action (method_at p named))) (method_at p m) (positions fr.locals s.action (next_number c.heap) d) (next_number c.heap) d))
      → AreInRange (library_went p c fr frs named m d s)
  library_in_range named m d s gives = record {
    frames = All-cons (λ (x : Frame). LocalsInRange heap x.locals) after frs (locals_in_range p c.heap heap grows.count in'.fields fr.method fr.locals top s.action s.edge value given') (frames_stay c.heap heap grows.count frs below);
    fields = fields_further heap grows;
    statics = statics_further heap grows;
    arrays = arrays_given_in heap shared (result_in (method_at p m)) d
        (share_all_in heap c.arrays (map (operand_of fr.locals s.action) (range_with_len 1 (length (params_in (method_at p named))))) (arrays_grow c.heap heap grows.count c.arrays in'.arrays));
  }
    where
      shared : List ArrayObject
      shared = arguments_shared c.arrays fr.locals s.action (method_at p named)

      value : Value
      value = conduct_value (length shared) (method_at p m) (positions fr.locals s.action (next_number c.heap) d) (next_number c.heap) d

      after : Frame
      after = frame_after p c.heap fr s value

      called : HeapContents
      called = library_heap p fr.locals s.action (method_at p named) (method_at p m) d (length frs + 1) c.heap

      heap : HeapContents
      heap = lose (held_by (after ∷ frs)) called

      grows : Grows c.heap heap
      grows = lost_grows c.heap called (held_by (after ∷ frs)) (library_grows p fr.locals s.action (method_at p named) (method_at p m) d (length frs + 1) c.heap)

      given' : IsInRange heap value
      given' = gives heap grows.count (made_there p fr.locals s.action (method_at p named) (method_at p m) d (length frs + 1) (held_by (after ∷ frs)) c.heap)

-- ---- ends

pub returned_in_range : (p : Program) (c : Config) (fr caller : Frame) (frs : List Frame) → LocalsInRange c.heap fr.locals → LocalsInRange c.heap caller.locals → FramesIn c.heap frs → AreInRange c
    → (pos : Pos) (q : Completion) (e : Option ClassId) (named : MethodId) (t : Step) → AreInRange (returned p c fr caller frs pos q e named t)
returned_in_range p c fr caller frs top waits below in' pos q e named t = record {
  frames = All-cons (λ (x : Frame). LocalsInRange heap x.locals) after frs
      (locals_in_range p c.heap heap grows.count in'.fields caller.method caller.locals waits t.action t.edge answer answer_in) (frames_stay c.heap heap grows.count frs below);
  fields = fields_stay c.heap heap grows in'.fields;
  statics = statics_grow c.heap heap grows.count c.statics in'.statics;
  arrays = arrays_grow c.heap heap grows.count c.arrays in'.arrays;
}
  where
    runs : Option Method
    runs = method_at p fr.method

    v : Value
    v = result_value fr.locals runs q

    answer : Value
    answer = answered fr.locals.this t.action v e

    after : Frame
    after = frame_after p c.heap caller t answer

    ended : HeapContents
    ended = returned_heap p (length frs + 1) fr.locals.this caller.locals t.action runs (method_at p named) v e c.heap

    heap : HeapContents
    heap = lose (held_by (after ∷ frs)) ended

    grows : Grows c.heap heap
    grows = grows_further c.heap ended heap (returned_grows p (length frs + 1) fr.locals.this caller.locals t.action runs (method_at p named) v e c.heap) (each_grows (lost_object ended (held_by (after ∷ frs))) ended)

    answer_in : IsInRange heap answer
    answer_in = value_stays c.heap heap grows.count answer (answered_in_range c.heap fr.locals.this t.action v e top.this (result_in_range c.heap fr.locals top runs q))
