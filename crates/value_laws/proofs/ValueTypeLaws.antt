-- Each step of the machine leaves no object where the type of a place is no class type.
use Rattle.std.proofs.Common.{◌≡◌, ◌⊎◌, inl, inr, ℕ, zero, suc, ◌+◌, ◌<◌, Bool, true, false, ◌&&◌, not, true≢false, Option, Some, None, IsSomeAnd, List, [], ◌∷◌, All, length, map, slice_get, refl, sym, ap, ◌∙◌, subst, arith}
use Rattle.std.specs.Prelude.{ℤ, pos}
use Rattle.std.specs.List.{range_with_len}
use Rattle.std.proofs.lemmas.Bool.{cases_lt, eq-eqb}
use Rattle.std.proofs.lemmas.List.Elements.{All-append, All-cons, All-head, All-nil, All-set, All-tail}
use Rattle.std.proofs.lemmas.List.FromFn.{get_or-map-range_with_len, length-map-range_with_len}
use Rattle.std.proofs.lemmas.Option.{slice_get-get_or, slice_get_past}
use Rattle.program_model.specs.declared.kinds.ClassId.{ClassId}
use Rattle.program_model.specs.declared.kinds.BodyId.{BodyId}
use Rattle.program_model.specs.declared.kinds.ElementType.TheVariants as elements
use Rattle.program_model.specs.declared.kinds.FieldId.{FieldId}
use Rattle.program_model.specs.declared.kinds.MethodId.{MethodId}
use Rattle.program_model.specs.declared.kinds.MethodKind.{MethodKind}
use Rattle.program_model.specs.declared.kinds.MethodKind.TheVariants as methods
use Rattle.program_model.specs.declared.kinds.VType.{VType}
use Rattle.program_model.specs.declared.kinds.VType.TheVariants as types
use Rattle.program_model.specs.declared.program.Method.{Method}
use Rattle.program_model.specs.declared.program.ParamSig.{ParamSig}
use Rattle.program_model.specs.declared.program.Program.{Program}
use Rattle.program_model.specs.declared.tree.Body.{Body}
use Rattle.program_model.specs.Lookups.{method_at}
use Rattle.program_model.specs.Validity.{is_class_type}
use Rattle.program_model.specs.Overrides.{is_library}
use Rattle.rlc_base.specs.declared.place.Pos.{Pos}
use Rattle.java_control.specs.Calls.{called_method}
use Rattle.java_control.specs.Control.{Step, next_of}
use Rattle.java_control.specs.Sources.{is_throws}
use Rattle.control_actions.specs.declared.action.Action.{Action}
use Rattle.control_actions.specs.declared.action.Action.TheVariants as actions
use Rattle.control_actions.specs.declared.action.Completion.{Completion}
use Rattle.control_actions.specs.declared.action.Completion.TheVariants as completions
use Rattle.control_actions.specs.declared.action.Edge.{Edge}
use Rattle.control_actions.specs.declared.action.PlainValue.TheVariants as plain
use Rattle.control_actions.specs.declared.place.Place.TheVariants as places
use Rattle.dispatch_laws.specs.Accept.{Accept}
use Rattle.frame_laws.specs.Paths.{move_of}
use Rattle.stub_conduct.specs.declared.choice.Choice.{Choice}
use Rattle.stub_conduct.specs.declared.choice.Choices.{Choices}
use Rattle.stub_conduct.specs.declared.choice.Conduct.{Conduct}
use Rattle.stub_conduct.specs.declared.choice.Conduct.TheVariants as conducts
use Rattle.ledger_state.specs.Classes.{class_in, is_instance, library_array, runtime_class}
use Rattle.ledger_state.specs.Contents.{HeapContents}
use Rattle.ledger_state.specs.Heaps.{next_number, object_at}
use Rattle.ledger_state.specs.Locals.{temp_value}
use Rattle.ledger_state.specs.Values.{is_null, number_of, value_or_nothing}
use Rattle.ledger_state.specs.declared.array.ArrayObject.{ArrayObject}
use Rattle.ledger_state.specs.declared.locals.Locals.{Locals}
use Rattle.ledger_state.specs.declared.object.Object.{Object}
use Rattle.ledger_state.specs.declared.object.StoredStatic.{StoredStatic}
use Rattle.ledger_state.specs.declared.value.Value.{Value}
use Rattle.ledger_state.specs.declared.value.Value.TheVariants as values
use Rattle.ledger_steps.specs.Obligations.{is_library_method}
use Rattle.ledger_moves.specs.Operations.{arrays_after, is_cast_refused, made_value, next_choice, statics_after, thrown_where}
use Rattle.ledger_steps.specs.LedgerCallsCalls.{argument_values, begun, body_of, control_in, operand_of, params_in}
use Rattle.ledger_steps.specs.Conducts.{arguments_shared, array_given, arrays_given, conduct_value, positions, result_in, share, share_all, share_value}
use Rattle.ledger_moves.specs.Configuration.{Config, Frame, held_by}
use Rattle.ledger_moves.specs.Choosing.{agrees_with, frame_steps, operation_edge, same_edge}
use Rattle.ledger_moves.specs.LedgerFramesFrames.{frame_after}
use Rattle.ledger_steps.specs.CallSteps.{library_done, self_begun}
use Rattle.ledger_steps.specs.Ends.{answered, answered_normally, exception_class, result_value, thrown_in}
use Rattle.ledger_steps.specs.InnerSteps.{thrown_value}
use Rattle.ledger_moves.specs.Moves.{Move, Inner, Start, Library, End, Stray, Rest, has_body, next_move, standing}
use Rattle.ledger_moves.specs.Moves.{Return, Back, StrayBack, NoWay, return_move}
use Rattle.frame_laws.specs.LedgerRunsOutcomes.{went, ended, stray}
use Rattle.frame_laws.specs.Starts.{start_config}
use Rattle.frame_laws.specs.LedgerRunsSteps.{began, end, if_thrown, library_went, main_ended, moved, moved_by, returned, returned_by, step, top_move, within}
use Rattle.frame_laws.specs.Agreement.{HasMadeClasses}
use Rattle.dispatch_laws.specs.PlainForms.{HasPlainForms, IsAnsweredBy, IsPlainAction, IsPlainCall, MayRun, RunsFor, by_class, by_name, run_by}
use Rattle.frame_laws.proofs.CallWays.{one_action}
use Rattle.dispatch_laws.specs.Operands.{Fits, MakesText, NoObject, Returns, field_type, params_of, result_of}
use Rattle.dispatch_laws.specs.StepOrigins.{IsCastToNone, MakesNone}
use Rattle.dispatch_laws.specs.Values.{ArraysHoldNone, ElementsHoldNone, IsNoObjectBut, StaticsHoldNone, temp_holds_none}
use Rattle.dispatch_laws.proofs.OperationTypeLaws.{arrays_keep_none, operations_give_none, plain_gives_none, statics_keep_none}
use Rattle.value_laws.specs.Types.{AreCalled, GiveAsNamed, GivesAsNamed, HaveTypes, HoldTypes, HoldsWhatIsThere, IsStoredNone, KeepAll, KeepsTypes, StoredHoldNone, TopHoldsWhatIsThere, is_text, is_text_class}
use Rattle.value_laws.specs.Objects.{KeepsClasses, object_class}
use Rattle.value_laws.proofs.ObjectClasses.{fresh_class, inner_keeps, library_keeps, main_keeps, returned_keeps, started_keeps}
use Rattle.value_laws.proofs.ValueTypeTexts.{arrays_still, frame_still, frames_still, statics_still, stored_still}
use Rattle.value_laws.proofs.ValueTypeBegun.{ArgumentsHoldNone, BeginsWithNone, arguments_fill, array_fills, begun_keeps, fits, frame_keeps, same_steps, step_there}
use Rattle.value_laws.proofs.ValueTypeFields.{field_of_none, inner_none, library_fields, returned_fields, started_fields}
use Rattle.value_laws.proofs.ValueTypeGifts.{library_text, library_value_none}
use Rattle.value_laws.proofs.Moved.{IsBack, IsBackStep, IsCallNext, IsConstantRead, IsInnerNext, IsLibraryNext, IsNext, IsNoPlain, back_is, call_may, next_is, plain_call, throws_edge}
use Rattle.value_laws.proofs.ValueTypeOperands.{argument_none, result_none}
use Rattle.value_laws.proofs.ValueTypeVariables.{SetsNone}

-- ---- results

-- a call that gives no object but of class `String` names a method whose result is of no class type, or is the `new` of a text
abbrev NamesNone : Program → Action → MethodId → Type 0
NamesNone p a named = NoObject (result_of (method_at p named)) ⊎ ((m : MethodId) × (d : ℕ) × (n : ℕ) × (a ≡ actions.New m d n) × MakesText p named)

names_none : (p : Program) (a : Action) (named : MethodId) → (called_method a ≡ Some named) ⊎ IsConstantRead a named → MakesNone p a → NamesNone p a named
names_none p (actions.Call m d n form) named (inl called) makes = inl (subst (λ (k : MethodId). NoObject (result_of (method_at p k))) (let same : m ≡ named = (let both : Some m ≡ Some named = called in cc) in same) makes)
names_none p (actions.Call m d n form) named (inr reads) makes = absurd reads
names_none p (actions.Plain x (plain.LibraryConstant m)) named row makes = absurd makes
names_none p (actions.Plain x (plain.Literal z)) named (inl called) makes = absurd (let never : None ≡ Some named = called in cc)
names_none p (actions.Plain x (plain.Literal z)) named (inr reads) makes = absurd reads
names_none p (actions.Plain x v) named (inl called) makes = absurd (let never : None ≡ Some named = called in cc)
names_none p (actions.Plain x v) named (inr reads) makes = absurd reads
names_none p (actions.Op o d n) named (inl called) makes = absurd (let never : None ≡ Some named = called in cc)
names_none p (actions.Op o d n) named (inr reads) makes = absurd reads
names_none p (actions.Get f d this) named (inl called) makes = absurd (let never : None ≡ Some named = called in cc)
names_none p (actions.Get f d this) named (inr reads) makes = absurd reads
names_none p (actions.New m d n) named (inl called) makes = inr (m, d, n, refl, subst (MakesText p) (let same : m ≡ named = (let both : Some m ≡ Some named = called in cc) in same) makes)
names_none p (actions.New m d n) named (inr reads) makes = absurd reads
names_none p actions.Skip named row makes = absurd makes
names_none p a named row makes = absurd makes

-- so does what answers the call
answers_none : (p : Program) (a : Action) (named m : MethodId) → IsAnsweredBy p named m → NamesNone p a named → NamesNone p a m
answers_none p a named m (inl same) names = subst (NamesNone p a) (sym same) names
answers_none p a named m (inr runs) (inl none) = inl (subst (λ (x : Option Method). NoObject (result_of x)) (sym runs.running_at) (by runs.method.sig.result refl (subst (λ (x : Option Method). NoObject (result_of x)) runs.named_at none)))
  where
    by : (o : Option VType) → runs.method.sig.result ≡ o → NoObject o → NoObject runs.running.sig.result
    by None is none' = absurd none'
    by (Some t) is light = subst NoObject (sym (runs.fit.kind t is light)) light
answers_none p a named m (inr runs) (inr (k, d, n, is, text)) =
    let makes : IsSomeAnd (Some runs.method) (λ x. (x.kind ≡ methods.Ctor) × (x.class ≡ p.core.string)) = subst (λ (o : Option Method). IsSomeAnd o (λ x. (x.kind ≡ methods.Ctor) × (x.class ≡ p.core.string))) runs.named_at text in
    absurd (no_constructor runs.method.kind makes.0 runs.kind)
  where
    no_constructor : (k : MethodKind) → k ≡ methods.Ctor → k ≡ methods.Instance → ⊥
    no_constructor k constructor instance = let never : methods.Ctor ≡ methods.Instance = sym constructor ∙ instance in cc

-- what names no method runs none
none_runs : (p : Program) (m r : MethodId) → MayRun p m r → method_at p m ≡ None → method_at p r ≡ None
unfolding run_by
none_runs p m _ by_name at = at
none_runs p m _ (by_class c made) at = rw at at

-- the two methods of a call that begins a frame
pub record HasMethods (p : Program) (named runs : MethodId) : Type 0 where
  pub name : Method
  pub run : Method
  pub name_at : method_at p named ≡ Some name
  pub run_at : method_at p runs ≡ Some run
  pub fit : RunsFor p name run

methods_of_call : (p : Program) (named runs : MethodId) → IsPlainCall p named → MayRun p named runs → is_library_method p (method_at p runs) ≡ false → has_body (body_of (method_at p runs)) ≡ true → HasMethods p named runs
methods_of_call p named runs form may written has = go (method_at p named) (method_at p runs) refl refl
  where
    go : (n x : Option Method) → method_at p named ≡ n → method_at p runs ≡ x → HasMethods p named runs
    go n None at there = absurd (true≢false (sym has ∙ ap (λ (y : Option Method). has_body (body_of y)) there))
    go None (Some x) at there = absurd (let never : None ≡ Some x = sym (none_runs p named runs may at) ∙ there in cc)
    go (Some n) (Some x) at there = record { name = n; run = x; name_at = at; run_at = there; fit = form.program runs n x may at there (sym (ap (is_library_method p) there) ∙ written) }

result_kept : (p : Program) (named runs : MethodId) → HasMethods p named runs → NoObject (result_of (method_at p named)) → NoObject (result_of (method_at p runs))
result_kept p named runs have none = subst (λ (o : Option Method). NoObject (result_of o)) (sym have.run_at) (go have.name.sig.result refl (subst (λ (o : Option Method). NoObject (result_of o)) have.name_at none))
  where
    go : (t : Option VType) → have.name.sig.result ≡ t → NoObject t → NoObject have.run.sig.result
    go None is kind = absurd kind
    go (Some t) is kind = subst NoObject (sym (have.fit.kind t is kind)) kind

same_went : (c d : Config) → went c ≡ went d → c ≡ d
same_went c d is = cc

-- the objects of class `String` are these
module _ (texts : ℕ → Bool) where
  -- ---- values that a step makes

  -- what a step makes is no object, where its type says so
  made_none : (p : Program) (b : Body) (h : HeapContents) (arrays : List ArrayObject) (statics : List StoredStatic) (choice : Choice) (l : Locals) (a : Action) → StoredHoldNone texts p h → StaticsHoldNone texts statics → ArraysHoldNone texts arrays
      → Fits p b a (temp_holds_none texts l) → MakesNone p a → IsNoObjectBut texts (made_value p h arrays statics choice l a)
  made_none p b h arrays statics choice l (actions.Plain x v) stored static elements asks makes = plain_gives_none texts p statics v static
  made_none p b h arrays statics choice l (actions.Op o d n) stored static elements asks makes = operations_give_none texts p h arrays choice l o d elements asks
  made_none p b h arrays statics choice l (actions.Get f d this) stored static elements asks makes = field_of_none texts p h (temp_value l d) f stored makes
  made_none p b h arrays statics choice l (actions.Call m d n form) stored static elements asks makes = refl
  made_none p b h arrays statics choice l (actions.New m d n) stored static elements asks makes = refl
  made_none p b h arrays statics choice l actions.Skip stored static elements asks makes = absurd makes
  made_none p b h arrays statics choice l a stored static elements asks makes = absurd makes

  -- neither is what it sets a variable to
  set_none : (p : Program) (h : HeapContents) (arrays : List ArrayObject) (statics : List StoredStatic) (choice : Choice) (l : Locals) (a : Action) → StaticsHoldNone texts statics → SetsNone texts a (made_value p h arrays statics choice l a)
  set_none p h arrays statics choice l (actions.Plain (places.Var x) v) static = plain_gives_none texts p statics v static
  set_none p h arrays statics choice l (actions.Plain (places.Temp d) v) static = tt
  set_none p h arrays statics choice l (actions.Plain x v) static = tt
  set_none p h arrays statics choice l actions.Skip static = tt
  set_none p h arrays statics choice l a static = tt

  sets_nothing : (a : Action) (v : Value) → IsNoPlain a → SetsNone texts a v
  sets_nothing (actions.Plain x w) v other = absurd other
  sets_nothing actions.Skip v other = tt
  sets_nothing a v other = tt

  -- a value that a constant's read or a call gives is no variable's
  set_by_call : (p : Program) (b : Body) (a : Action) (named : MethodId) (v : Value) (held : ℕ → Type 0) → Fits p b a held → (called_method a ≡ Some named) ⊎ IsConstantRead a named → SetsNone texts a v
  set_by_call p b (actions.Plain (places.Var x) (plain.LibraryConstant m)) named v held asks row = absurd asks
  set_by_call p b (actions.Plain (places.Var x) w) named v held asks (inl called) = absurd (let never : None ≡ Some named = called in cc)
  set_by_call p b (actions.Plain (places.Var x) (plain.Literal z)) named v held asks (inr reads) = absurd reads
  set_by_call p b (actions.Plain (places.Var x) (plain.Default t)) named v held asks (inr reads) = absurd reads
  set_by_call p b (actions.Plain (places.Var x) (plain.StaticField f)) named v held asks (inr reads) = absurd reads
  set_by_call p b (actions.Plain (places.Temp d) w) named v held asks row = tt
  set_by_call p b (actions.Plain x w) named v held asks row = tt
  set_by_call p b actions.Skip named v held asks row = tt
  set_by_call p b a named v held asks row = tt

  -- ---- casts

  null_none : (v : Value) → is_null v ≡ true → IsNoObjectBut texts v
  null_none values.Nothing is = refl
  null_none values.Null is = refl
  null_none values.Text is = refl
  null_none (values.Number z) is = refl
  null_none (values.Array a) is = refl
  null_none (values.Object k) is = absurd (true≢false (sym is))

  instance_none : (p : Program) (h : HeapContents) (arrays : List ArrayObject) (t : VType) (v : Value) → is_class_type t ≡ false → is_instance p h arrays t v ≡ true → IsNoObjectBut texts v
  instance_none p h arrays types.Str (values.Object k) none is = absurd (true≢false (sym is))
  instance_none p h arrays (types.Arr e) (values.Object k) none is = absurd (true≢false (sym is))
  instance_none p h arrays (types.Primitive u) (values.Object k) none is = absurd (true≢false (sym is))
  instance_none p h arrays types.NullType (values.Object k) none is = absurd (true≢false (sym is))
  instance_none p h arrays (types.Obj c) (values.Object k) none is = absurd (true≢false none)
  instance_none p h arrays t values.Nothing none is = refl
  instance_none p h arrays t values.Null none is = refl
  instance_none p h arrays t values.Text none is = refl
  instance_none p h arrays t (values.Number z) none is = refl
  instance_none p h arrays t (values.Array a) none is = refl

  module _ (p : Program) (h : HeapContents) (arrays : List ArrayObject) (m : MethodId) (l : Locals) where
    cast_passes : (t : VType) (v : Value) → is_class_type t ≡ false → is_cast_refused p h arrays t v ≡ false → IsNoObjectBut texts v
    cast_passes t v none is = go (is_null v) (is_instance p h arrays t v) refl refl is
      where
        go : (x y : Bool) → is_null v ≡ x → is_instance p h arrays t v ≡ y → (not x && not y) ≡ false → IsNoObjectBut texts v
        go true y null instance passed = null_none v null
        go false true null instance passed = instance_none p h arrays t v none instance
        go false false null instance passed = absurd (true≢false passed)

    -- what passes a cast to a type of no class is no object
    cast_none : (a : Action) (e : Edge) (x : ℕ) → agrees_with p h arrays m l a e ≡ true → is_throws e ≡ false → IsCastToNone a x → IsNoObjectBut texts (temp_value l x)
    cast_none (actions.Cast t d) e x agreeing goes is = subst (temp_holds_none texts l) (sym is.0) (by (is_cast_refused p h arrays t (temp_value l d)) refl agreeing)
      where
        by : (b : Bool) → is_cast_refused p h arrays t (temp_value l d) ≡ b → same_edge (operation_edge (actions.Cast t d) (thrown_where b p.core.class_cast_exception)) e ≡ true → IsNoObjectBut texts (temp_value l d)
        by true refused agree = absurd (true≢false (sym (throws_edge p.core.class_cast_exception e agree) ∙ goes))
        by false passed agree = cast_passes t (temp_value l d) is.1 passed
    cast_none actions.Skip e x agreeing goes is = absurd is
    cast_none a e x agreeing goes is = absurd is

  no_cast : (a : Action) (named : MethodId) (x : ℕ) → (called_method a ≡ Some named) ⊎ IsConstantRead a named → IsCastToNone a x → ⊥
  no_cast (actions.Cast t d) named x (inl called) is = let never : None ≡ Some named = called in cc
  no_cast (actions.Cast t d) named x (inr reads) is = reads
  no_cast actions.Skip named x row is = is
  no_cast a named x row is = is

  -- ---- arrays that the library has

  all_at : {X : Type 0} (P : X → Type 0) (xs : List X) (i : ℕ) (x : X) → All P xs → slice_get xs i ≡ Some x → P x
  all_at P [] zero x all at = absurd (let never : None ≡ Some x = at in cc)
  all_at P [] (suc i) x all at = absurd (let never : None ≡ Some x = at in cc)
  all_at P (y ∷ ys) zero x all at = subst P (let both : Some y ≡ Some x = at in (let same : y ≡ x = cc in same)) (All-head P y ys all)
  all_at P (y ∷ ys) (suc i) x all at = all_at P ys i x (All-tail P y ys all) at

  share_none : (arrays : List ArrayObject) (n : ℕ) (x : Option ArrayObject) → slice_get arrays n ≡ x → ArraysHoldNone texts arrays → ArraysHoldNone texts (share arrays n x)
  share_none arrays n None at all = all
  share_none arrays n (Some a) at all = All-set (ElementsHoldNone texts) arrays n (record a { shared = true }) (all_at (ElementsHoldNone texts) arrays n a all at) all

  share_value_none : (arrays : List ArrayObject) (v : Value) → ArraysHoldNone texts arrays → ArraysHoldNone texts (share_value arrays v)
  share_value_none arrays (values.Array n) all = share_none arrays n (slice_get arrays n) refl all
  share_value_none arrays values.Nothing all = all
  share_value_none arrays v all = all

  share_all_none : (vs : List Value) (arrays : List ArrayObject) → ArraysHoldNone texts arrays → ArraysHoldNone texts (share_all arrays vs)
  share_all_none [] arrays all = all
  share_all_none (v ∷ vs) arrays all = share_all_none vs (share_value arrays v) (share_value_none arrays v all)

  made_array : (t : Option VType) (z : ℤ) → ArraysHoldNone texts (array_given t z)
  made_array (Some (types.Arr e)) z = All-cons (ElementsHoldNone texts) (library_array e z) [] (All-nil (IsNoObjectBut texts)) (All-nil (ElementsHoldNone texts))
  made_array None z = All-nil (ElementsHoldNone texts)
  made_array (Some types.Str) z = All-nil (ElementsHoldNone texts)
  made_array (Some t) z = All-nil (ElementsHoldNone texts)

  given_none : (arrays : List ArrayObject) (t : Option VType) (d : Conduct) → ArraysHoldNone texts arrays → ArraysHoldNone texts (arrays_given arrays t d)
  given_none arrays t (conducts.Value z) all = All-append (ElementsHoldNone texts) arrays (array_given t z) all (made_array t z)
  given_none arrays t conducts.Null all = all
  given_none arrays t d all = all

  shared_none : (arrays : List ArrayObject) (l : Locals) (a : Action) (m : Option Method) → ArraysHoldNone texts arrays → ArraysHoldNone texts (arguments_shared arrays l a m)
  shared_none arrays l a m all = share_all_none (map (operand_of l a) (range_with_len 1 (length (params_in m)))) arrays all

  -- what an operation changes stays where it throws
  thrown_stays : {X : Type 0} (P : X → Type 0) (e : Option ClassId) (old new : X) → P old → P new → P (if_thrown e old new)
  thrown_stays P None old new first second = second
  thrown_stays P (Some e) old new first second = first

  -- ---- arguments

  value_of_argument : (f : ℕ → Value) (n k : ℕ) → IsNoObjectBut texts (f (suc k)) → IsNoObjectBut texts (value_or_nothing (slice_get (map f (range_with_len 1 n)) k))
  value_of_argument f n k none = elim (cases_lt k n) [
    | inl inside ↦ (let all : List Value = map f (range_with_len 1 n) in
        let long : length all ≡ n = length-map-range_with_len f 1 n in
        let there : k < length all = omega (arith, inside, long) in
        subst (IsNoObjectBut texts) (sym (ap value_or_nothing (slice_get-get_or all k values.Nothing there) ∙ get_or-map-range_with_len f 1 n k (suc k) values.Nothing inside (omega arith))) none)
    | inr past ↦ (let all : List Value = map f (range_with_len 1 n) in
        let long : length all ≡ n = length-map-range_with_len f 1 n in
        subst (IsNoObjectBut texts) (sym (ap value_or_nothing (slice_get_past all k (omega (arith, past, long))))) refl)
  ]

  same_params : (m : Option Method) (x : Method) → m ≡ Some x → length (params_in m) ≡ length x.sig.params.items
  same_params m x at = ap (λ (o : Option Method). length (params_in o)) at

  begun_method : (p : Program) (m : MethodId) (self : Value) (arguments : List Value) → (begun p m self arguments).method ≡ m
  begun_method p m self arguments = go (body_of (method_at p m)) _ refl
    where
      go : (x : Option BodyId) (fr : Frame) → fr.method ≡ m → (control_in p x fr).method ≡ m
      go None fr is = is
      go (Some b) fr is = is

  -- ---- a step of the machine

  -- the callers of a frame of the method are those of another one
  renamed : (p : Program) (fr g : Frame) (frs : List Frame) → g.method ≡ fr.method → GiveAsNamed p fr frs → GiveAsNamed p g frs
  renamed p fr g [] same given = tt
  renamed p fr g (z ∷ zs) same given =
      ((λ i t named here called. ((λ none. subst (λ (m : MethodId). NoObject (result_of (method_at p m))) (sym same) ((given.0 i t named here called).0 none)), (given.0 i t named here called).1)), given.1)

  same_fields : (p : Program) (h k : HeapContents) → k.fields ≡ h.fields → StoredHoldNone texts p h → StoredHoldNone texts p k
  same_fields p h k same all = subst (All (IsStoredNone texts p)) (sym same) all

  -- no exception of a class that is not there
  there_or_none : (p : Program) (h : HeapContents) (v : Value) → ((k : ℕ) → number_of v ≡ Some k → object_at h k ≡ None → ⊥) → runtime_class p h v ≡ None → IsNoObjectBut texts v
  there_or_none p h (values.Object k) there is = absurd (there k refl (no_object (object_at h k) is))
    where
      no_object : (x : Option Object) → class_in x ≡ None → x ≡ None
      no_object None none = refl
      no_object (Some x) none = absurd (let never : Some x.class ≡ None = none in cc)
  there_or_none p h values.Nothing there is = refl
  there_or_none p h v there is = refl

  module _ (p : Program) (ac : Accept p) (forms : HasPlainForms p) (lib : is_library p p.core.string ≡ true) where
    -- the steps of a frame are of the plain forms
    plain_forms : (fr : Frame) (keeps : KeepsTypes texts p fr) (i : ℕ) (s : Step) → slice_get (frame_steps p fr) i ≡ Some s → IsPlainAction p s.action
    plain_forms fr keeps i s here = forms.steps keeps.number i (move_of s) keeps.control (step_there texts p ac fr keeps i s here)

    in_steps : (fr : Frame) (keeps : KeepsTypes texts p fr) (i : ℕ) (s : Step) → slice_get (next_of p keeps.number fr.control) i ≡ Some s → slice_get (frame_steps p fr) i ≡ Some s
    in_steps fr keeps i s here = ap (λ (steps : List Step). slice_get steps i) (same_steps texts p ac fr keeps) ∙ here

    module _ (c : Config) (fr : Frame) (frs : List Frame) (keeps : KeepsTypes texts p fr) (rest : KeepAll texts p frs) (called' : GiveAsNamed p fr frs)
        (stored : StoredHoldNone texts p c.heap) (statics' : StaticsHoldNone texts c.statics) (elements : ArraysHoldNone texts c.arrays) where
      abbrev choice : Choice
      choice = next_choice c.choices c.used

      inner_types : (e : Option ClassId) (s : Step) → IsInnerNext p c.heap c.arrays fr.method fr.locals (frame_steps p fr) e s → HoldTypes texts p (within p c fr frs e s)
      inner_types e s next = record {
        frames = (frame_keeps texts p ac fr keeps next.index s next.here c.heap v stored (sets next.thrown) makes casts, rest);
        called = renamed p fr after frs refl called';
        fields = inner_none texts p keeps.body c.heap fr.method fr.locals e s.action s.pos (held_by (after ∷ frs)) stored asks;
        statics = thrown_stays (StaticsHoldNone texts) e c.statics (statics_after c.statics fr.locals s.action) statics' (statics_keep_none texts p keeps.body c.statics fr.locals s.action statics' asks);
        arrays = thrown_stays (ArraysHoldNone texts) e c.arrays (arrays_after c.arrays fr.locals s.action) elements (arrays_keep_none texts p keeps.body c.arrays fr.locals s.action elements asks);
      }
        where
          made : Value
          made = made_value p c.heap c.arrays c.statics choice fr.locals s.action

          v : Value
          v = thrown_value c.heap e made

          after : Frame
          after = frame_after p c.heap fr s v

          asks : Fits p keeps.body s.action (temp_holds_none texts fr.locals)
          asks = fits texts p ac fr keeps next.index s next.here

          sets : (e ≡ None) ⊎ ((is_throws s.edge ≡ true) × IsNoPlain s.action) → SetsNone texts s.action v
          sets (inl goes) = subst (λ (o : Option ClassId). SetsNone texts s.action (thrown_value c.heap o made)) (sym goes) (set_none p c.heap c.arrays c.statics choice fr.locals s.action statics')
          sets (inr throws) = sets_nothing s.action v throws.1

          makes : is_throws s.edge ≡ false → MakesNone p s.action → IsNoObjectBut texts v
          makes goes makes' = by next.thrown
            where
              by : (e ≡ None) ⊎ ((is_throws s.edge ≡ true) × IsNoPlain s.action) → IsNoObjectBut texts v
              by (inl none) = subst (λ (o : Option ClassId). IsNoObjectBut texts (thrown_value c.heap o made)) (sym none) (made_none p keeps.body c.heap c.arrays c.statics choice fr.locals s.action stored statics' elements asks makes')
              by (inr throws) = absurd (true≢false (sym throws.0 ∙ goes))

          casts : (x : ℕ) → is_throws s.edge ≡ false → IsCastToNone s.action x → IsNoObjectBut texts (temp_value fr.locals x)
          casts x goes is = cast_none p c.heap c.arrays fr.method fr.locals s.action s.edge x (next.agreeing goes) goes is

      library_types : (named m : MethodId) (d : Conduct) (s : Step) → IsLibraryNext p c.heap c.arrays fr.locals (frame_steps p fr) named m d s → ((e : ClassId) → d ≡ conducts.Fresh e → e ≡ p.core.string → texts (next_number c.heap) ≡ true)
          → HoldTypes texts p (library_went p c fr frs named m d s)
      library_types named m d s next fresh = record {
        frames = (frame_keeps texts p ac fr keeps next.index s next.here c.heap v stored (set_by_call p keeps.body s.action named v (temp_holds_none texts fr.locals) asks next.row) makes casts, rest);
        called = renamed p fr (frame_after p c.heap fr s v) frs refl called';
        fields = same_fields p c.heap (library_went p c fr frs named m d s).heap (library_fields p c.heap fr.locals s.action (method_at p named) (method_at p m) d (length frs + 1) s.pos (held_by (frame_after p c.heap fr s v ∷ frs))) stored;
        statics = statics';
        arrays = given_none shared (result_in (method_at p m)) d (shared_none c.arrays fr.locals s.action (method_at p named) elements);
      }
        where
          shared : List ArrayObject
          shared = arguments_shared c.arrays fr.locals s.action (method_at p named)

          v : Value
          v = conduct_value (length shared) (method_at p m) (positions fr.locals s.action (next_number c.heap) d) (next_number c.heap) d

          asks : Fits p keeps.body s.action (temp_holds_none texts fr.locals)
          asks = fits texts p ac fr keeps next.index s next.here

          gives : ((e : ClassId) → d ≡ conducts.Throws e → ⊥) → NamesNone p s.action m
              → IsNoObjectBut texts (conduct_value (length shared) (method_at p m) (positions fr.locals s.action (next_number c.heap) d) (next_number c.heap) d)
          gives normal (inl none) =
              library_value_none texts p ac.well_formed.valid.typed c.heap c.arrays m next.by.0 fr.locals s.action d (length shared) (next_number c.heap) next.by.1 normal none
          gives normal (inr (k, j, n, new, text)) =
              library_text texts p c.heap c.arrays m next.by.0 fr.locals s.action d (length shared) (next_number c.heap) j n k new next.by.1 normal fresh text

          makes : is_throws s.edge ≡ false → MakesNone p s.action → IsNoObjectBut texts v
          makes goes makes' = by next.thrown
            where
              by : ((e : ClassId) → d ≡ conducts.Throws e → ⊥) ⊎ (is_throws s.edge ≡ true) → IsNoObjectBut texts v
              by (inl normal) = gives normal (answers_none p s.action named m next.answers (names_none p s.action named next.row makes'))
              by (inr throws) = absurd (true≢false (sym throws ∙ goes))

          casts : (x : ℕ) → is_throws s.edge ≡ false → IsCastToNone s.action x → IsNoObjectBut texts (temp_value fr.locals x)
          casts x goes is = absurd (no_cast s.action named x next.row is)

      start_types : (named runs : MethodId) (a : Action) (place : Pos) → IsCallNext p (frame_steps p fr) named runs a → HoldTypes texts p (began p c fr frs named runs a place)
      start_types named runs a place next = record {
        frames = (begun_keeps texts p ac runs self arguments fills next.body, (keeps, rest));
        called = (as_named, called');
        fields = same_fields p c.heap (began p c fr frs named runs a place).heap (started_fields p c.heap fr.locals a (method_at p named) (length (begun p runs self arguments ∷ fr ∷ frs)) place (held_by (begun p runs self arguments ∷ fr ∷ frs))) stored;
        statics = statics';
        arrays = elements;
      }
        where
          self : Value
          self = self_begun fr.locals a c.heap

          arguments : List Value
          arguments = argument_values fr.locals a (method_at p named)

          asks : Fits p keeps.body a (temp_holds_none texts fr.locals)
          asks = subst (λ (x : Action). Fits p keeps.body x (temp_holds_none texts fr.locals)) next.action (fits texts p ac fr keeps next.index next.step next.here)

          form : IsPlainCall p named
          form = plain_call p a named (subst (IsPlainAction p) next.action (plain_forms fr keeps next.index next.step next.here)) next.called

          have : HasMethods p named runs
          have = methods_of_call p named runs form next.may next.written next.body

          long : length arguments ≡ length have.name.sig.params.items
          long = length-map-range_with_len (operand_of fr.locals a) 1 (length (params_in (method_at p named))) ∙ same_params (method_at p named) have.name have.name_at

          holds : ArgumentsHoldNone texts have.name.sig.params.items arguments
          holds k x at none =
              value_of_argument (operand_of fr.locals a) (length (params_in (method_at p named))) k
              (argument_none texts p keeps.body fr.locals named k x (ap (λ (o : Option Method). slice_get (params_of o) k) have.name_at ∙ at) none a asks next.called)

          fills : BeginsWithNone texts p ac runs arguments
          fills = arguments_fill texts p ac runs have.run have.name.sig.params.items arguments have.run_at have.fit.types long holds

          -- the constructors of `String` are the library's
          runs_no_text : runs ≡ named → MakesText p named → ⊥
          runs_no_text same text =
              true≢false (sym (of_library (method_at p named) text) ∙ (ap (λ (k : MethodId). is_library_method p (method_at p k)) (sym same) ∙ next.written))
            where
              of_library : (x : Option Method) → IsSomeAnd x (λ x. (x.kind ≡ methods.Ctor) × (x.class ≡ p.core.string)) → is_library_method p x ≡ true
              of_library None made = absurd made
              of_library (Some x) made = ap (is_library p) made.1 ∙ lib

          -- all steps of the call name the same method
          as_named : GivesAsNamed p fr (begun p runs self arguments)
          as_named i t other here calls =
              let there = ap (λ (steps : List Step). slice_get steps next.index) (sym (same_steps texts p ac fr keeps)) ∙ next.here in
              let here' = ap (λ (steps : List Step). slice_get steps i) (sym (same_steps texts p ac fr keeps)) ∙ here in
              let action : t.action ≡ next.step.action = one_action p keeps.number fr.control next.index i next.step t there here' (call_may next.step.action named (ap called_method next.action ∙ next.called)) in
              let same : other ≡ named = (let both : Some other ≡ Some named = sym calls ∙ (ap called_method action ∙ (ap called_method next.action ∙ next.called)) in cc) in (
                λ none.
                    subst (λ (k : MethodId). NoObject (result_of (method_at p k))) (sym (begun_method p runs self arguments))
                    (result_kept p named runs have (subst (λ (k : MethodId). NoObject (result_of (method_at p k))) same none)),
                λ k j n new text. runs_no_text (next.new k j n (sym next.action ∙ (sym action ∙ new))) (subst (MakesText p) same text),
              )

    module _ (c : Config) (fr : Frame) (keeps : KeepsTypes texts p fr) (there : HoldsWhatIsThere c.heap fr.locals)
        (stored : StoredHoldNone texts p c.heap) (statics' : StaticsHoldNone texts c.statics) (elements : ArraysHoldNone texts c.arrays) where
      -- a frame that ends gives what its caller may take
      module _ (caller : Frame) (below : List Frame) (waits : KeepsTypes texts p caller) (more : KeepAll texts p below) (given : GiveAsNamed p fr (caller ∷ below)) (place : Pos) (q : Completion)
          (i : ℕ) (s : Step) (here : slice_get (frame_steps p fr) i ≡ Some s) (ends : s.action ≡ actions.End q) where
        abbrev thrown : Option ClassId
        thrown = exception_class p c.heap (thrown_in fr.locals q)

        abbrev v : Value
        v = result_value fr.locals (method_at p fr.method) q

        value_none : thrown ≡ None → NoObject (result_of (method_at p fr.method)) → IsNoObjectBut texts v
        value_none normal none = go (thrown_in fr.locals q) refl normal
          where
            returns : Returns p keeps.body q (temp_holds_none texts fr.locals)
            returns = subst (λ (a : Action). Fits p keeps.body a (temp_holds_none texts fr.locals)) ends (fits texts p ac fr keeps i s here)

            thrown_value' : (x : Completion) (w : Value) → thrown_in fr.locals x ≡ Some w → runtime_class p c.heap w ≡ None → IsNoObjectBut texts (result_value fr.locals (method_at p fr.method) x)
            thrown_value' (completions.Throw d t at) w is gone =
                let same : temp_value fr.locals d ≡ w = (let both : Some (temp_value fr.locals d) ≡ Some w = is in cc) in
                there_or_none p c.heap (temp_value fr.locals d) (λ k number. there d k number) (ap (runtime_class p c.heap) same ∙ gone)
            thrown_value' (completions.ReturnValue d at) w is gone = absurd (let never : None ≡ Some w = is in cc)
            thrown_value' (completions.Return at) w is gone = absurd (let never : None ≡ Some w = is in cc)
            thrown_value' (completions.Break at) w is gone = absurd (let never : None ≡ Some w = is in cc)
            thrown_value' (completions.Continue at) w is gone = absurd (let never : None ≡ Some w = is in cc)

            go : (o : Option Value) → thrown_in fr.locals q ≡ o → exception_class p c.heap o ≡ None → IsNoObjectBut texts v
            go None is normal' = result_none texts p keeps.body fr.locals (method_at p fr.method) q returns is (subst (λ (m : MethodId). NoObject (result_of (method_at p m))) (sym keeps.method) none)
            go (Some w) is normal' = thrown_value' q w is normal'

        back_types : (e : Option ClassId) (named : MethodId) (t : Step) → e ≡ thrown → IsBackStep (frame_steps p caller) e named t → HoldTypes texts p (returned p c fr caller below place q e named t)
        back_types e named t same back = record {
          frames = (frame_keeps texts p ac caller waits back.index t back.here c.heap w stored (set_by_call p waits.body t.action named w (temp_holds_none texts caller.locals) asks (inl back.called)) makes casts, more);
          called = renamed p caller after below refl given.1;
          fields = same_fields p c.heap (returned p c fr caller below place q e named t).heap (returned_fields p c.heap (length below + 1) fr.locals.this caller.locals t.action (method_at p fr.method) (method_at p named) v e place t.pos (held_by (after ∷ below))) stored;
          statics = statics';
          arrays = elements;
        }
          where
            w : Value
            w = answered fr.locals.this t.action v e

            after : Frame
            after = frame_after p c.heap caller t w

            asks : Fits p waits.body t.action (temp_holds_none texts caller.locals)
            asks = fits texts p ac caller waits back.index t back.here

            no_text : (m : MethodId) (d n : ℕ) → t.action ≡ actions.New m d n → MakesText p named → ⊥
            no_text = (given.0 back.index t named back.here back.called).1

            normally : (a : Action) → t.action ≡ a → MakesNone p a → called_method a ≡ Some named → IsNoObjectBut texts v → IsNoObjectBut texts (answered_normally fr.locals.this a v)
            normally (actions.Call m d n form) same makes' calls none = none
            normally (actions.New m d n) same makes' calls none = absurd (no_text m d n same (subst (MakesText p) (let one : m ≡ named = (let both : Some m ≡ Some named = calls in cc) in one) makes'))
            normally (actions.Super m d n) same makes' calls none = refl
            normally actions.Skip same makes' calls none = none
            normally a same makes' calls none = none

            named_none : NamesNone p t.action named → NoObject (result_of (method_at p named))
            named_none (inl none) = none
            named_none (inr (m, d, n, new, text)) = absurd (no_text m d n new text)

            makes : is_throws t.edge ≡ false → MakesNone p t.action → IsNoObjectBut texts w
            makes goes makes' = by back.thrown
              where
                by : (e ≡ None) ⊎ (is_throws t.edge ≡ true) → IsNoObjectBut texts w
                by (inl normal) =
                    subst (λ (o : Option ClassId). IsNoObjectBut texts (answered fr.locals.this t.action v o)) (sym normal)
                    (normally t.action refl makes' back.called
                    (value_none (sym same ∙ normal) ((given.0 back.index t named back.here back.called).0 (named_none (names_none p t.action named (inl back.called) makes')))))
                by (inr throws) = absurd (true≢false (sym throws ∙ goes))

            casts : (x : ℕ) → is_throws t.edge ≡ false → IsCastToNone t.action x → IsNoObjectBut texts (temp_value caller.locals x)
            casts x goes is = absurd (no_cast t.action named x (inl back.called) is)

-- ---- what stands goes on

module _ (p : Program) (ac : Accept p) (forms : HasPlainForms p) (lib : is_library p p.core.string ≡ true) where
  carried : (c d : Config) → went c ≡ went d → HaveTypes p c → HaveTypes p d
  carried c d is have = subst (HaveTypes p) (same_went c d is) have

  module _ (c d : Config) (fr : Frame) (keeps : KeepsTypes (is_text p c.heap) p fr) (there : HoldsWhatIsThere c.heap fr.locals)
      (stored : StoredHoldNone (is_text p c.heap) p c.heap) (statics' : StaticsHoldNone (is_text p c.heap) c.statics) (elements : ArraysHoldNone (is_text p c.heap) c.arrays) (all : HaveTypes p c) where
    module _ (frs : List Frame) (rest : KeepAll (is_text p c.heap) p frs) (given : GiveAsNamed p fr frs) where
      -- a step within the frame
      module _ (e : Option ClassId) (s : Step) (next : IsInnerNext p c.heap c.arrays fr.method fr.locals (frame_steps p fr) e s) where
        abbrev inner_heap : HeapContents
        inner_heap = (within p c fr frs e s).heap

        inner_classes : KeepsClasses c.heap inner_heap
        inner_classes =
            inner_keeps p c.heap fr.method fr.locals e s.action s.pos
            (held_by (frame_after p c.heap fr s (thrown_value c.heap e (made_value p c.heap c.arrays c.statics (next_choice c.choices c.used) fr.locals s.action)) ∷ frs))

        inner_have : HaveTypes p (within p c fr frs e s)
        inner_have =
            inner_types (is_text p inner_heap) p ac forms lib c fr frs (frame_still p c.heap inner_heap inner_classes fr keeps) (frames_still p c.heap inner_heap inner_classes frs rest) given
            (stored_still p c.heap inner_heap inner_classes c.heap.fields stored) (statics_still p c.heap inner_heap inner_classes c.statics statics') (arrays_still p c.heap inner_heap inner_classes c.arrays elements) e s next

      -- a call of the library
      module _ (named m : MethodId) (x : Conduct) (s : Step) (next : IsLibraryNext p c.heap c.arrays fr.locals (frame_steps p fr) named m x s) where
        abbrev library_heap : HeapContents
        library_heap = (library_went p c fr frs named m x s).heap

        abbrev gift : Value
        gift = conduct_value (length (arguments_shared c.arrays fr.locals s.action (method_at p named))) (method_at p m) (positions fr.locals s.action (next_number c.heap) x) (next_number c.heap) x

        abbrev held_then : List (List Value)
        held_then = held_by (frame_after p c.heap fr s gift ∷ frs)

        library_classes : KeepsClasses c.heap library_heap
        library_classes = library_keeps p c.heap fr.locals s.action (method_at p named) (method_at p m) (length frs + 1) s.pos held_then x

        fresh_text : (e : ClassId) → x ≡ conducts.Fresh e → e ≡ p.core.string → is_text p library_heap (next_number c.heap) ≡ true
        fresh_text e is of =
            let made : object_class library_heap (next_number c.heap) ≡ Some e =
            (subst (λ (f : Conduct). object_class (library_done p c.heap fr.locals s.action (method_at p named) (method_at p m) f (length frs + 1) s.pos held_then).heap (next_number c.heap) ≡ Some e) (sym is)
            (fresh_class p c.heap fr.locals s.action (method_at p named) (method_at p m) (length frs + 1) s.pos held_then e)) in
            ap (is_text_class p) made ∙ eq-eqb e.0 p.core.string.0 (ap (λ (k : ClassId). k.0) of)

        library_have : HaveTypes p (library_went p c fr frs named m x s)
        library_have =
            library_types (is_text p library_heap) p ac forms lib c fr frs (frame_still p c.heap library_heap library_classes fr keeps) (frames_still p c.heap library_heap library_classes frs rest) given
            (stored_still p c.heap library_heap library_classes c.heap.fields stored) (statics_still p c.heap library_heap library_classes c.statics statics')
            (arrays_still p c.heap library_heap library_classes c.arrays elements) named m x s next fresh_text

      -- a call begins a frame
      module _ (named runs : MethodId) (a : Action) (place : Pos) (next : IsCallNext p (frame_steps p fr) named runs a) where
        abbrev start_heap : HeapContents
        start_heap = (began p c fr frs named runs a place).heap

        abbrev all_frames : List Frame
        all_frames = begun p runs (self_begun fr.locals a c.heap) (argument_values fr.locals a (method_at p named)) ∷ fr ∷ frs

        start_classes : KeepsClasses c.heap start_heap
        start_classes = started_keeps p c.heap fr.locals a (method_at p named) (length all_frames) place (held_by all_frames)

        start_have : HaveTypes p (began p c fr frs named runs a place)
        start_have =
            start_types (is_text p start_heap) p ac forms lib c fr frs (frame_still p c.heap start_heap start_classes fr keeps) (frames_still p c.heap start_heap start_classes frs rest) given
            (stored_still p c.heap start_heap start_classes c.heap.fields stored) (statics_still p c.heap start_heap start_classes c.statics statics')
            (arrays_still p c.heap start_heap start_classes c.arrays elements) named runs a place next

    -- the first frame ends
    module _ (place : Pos) (q : Completion) where
      abbrev main_heap : HeapContents
      main_heap = (main_ended p c fr place q).heap

      main_classes : KeepsClasses c.heap main_heap
      main_classes = main_keeps p c.heap place

      main_have : HaveTypes p (main_ended p c fr place q)
      main_have = record {
        frames = tt;
        called = tt;
        fields = same_fields (is_text p main_heap) p c.heap main_heap refl (stored_still p c.heap main_heap main_classes c.heap.fields stored);
        statics = statics_still p c.heap main_heap main_classes c.statics statics';
        arrays = arrays_still p c.heap main_heap main_classes c.arrays elements;
      }

    module _ (caller : Frame) (below : List Frame) (waits : KeepsTypes (is_text p c.heap) p caller) (more : KeepAll (is_text p c.heap) p below) (given : GiveAsNamed p fr (caller ∷ below)) (place : Pos) (q : Completion)
        (i : ℕ) (s : Step) (here : slice_get (frame_steps p fr) i ≡ Some s) (ends : s.action ≡ actions.End q) where
      abbrev ended_by : Option ClassId
      ended_by = exception_class p c.heap (thrown_in fr.locals q)

      module _ (e : Option ClassId) (named : MethodId) (t : Step) (same : e ≡ ended_by) (back : IsBackStep (frame_steps p caller) e named t) where
        abbrev back_heap : HeapContents
        back_heap = (returned p c fr caller below place q e named t).heap

        abbrev answer : Value
        answer = result_value fr.locals (method_at p fr.method) q

        back_classes : KeepsClasses c.heap back_heap
        back_classes =
            returned_keeps p c.heap (length below + 1) fr.locals.this caller.locals t.action (method_at p fr.method) (method_at p named) answer e place t.pos
            (held_by (frame_after p c.heap caller t (answered fr.locals.this t.action answer e) ∷ below))

        back_have : HaveTypes p (returned p c fr caller below place q e named t)
        back_have =
            back_types (is_text p back_heap) p ac forms lib c fr (frame_still p c.heap back_heap back_classes fr keeps) there (stored_still p c.heap back_heap back_classes c.heap.fields stored)
            (statics_still p c.heap back_heap back_classes c.statics statics') (arrays_still p c.heap back_heap back_classes c.arrays elements) caller below
            (frame_still p c.heap back_heap back_classes caller waits) (frames_still p c.heap back_heap back_classes below more) given place q i s here ends e named t same back

      returned_types : (r : Return) → IsBack (frame_steps p caller) ended_by r → returned_by p c fr caller below place q r ≡ went d → HaveTypes p d
      returned_types (Back e named t) back same = carried (returned p c fr caller below place q e named t) d same (back_have e named t back.0 back.1)
      returned_types (StrayBack e at) back same = absurd (let never : stray e at ≡ went d = same in cc)
      returned_types NoWay back same = carried c d same all

    end_types : (frs : List Frame) → KeepAll (is_text p c.heap) p frs → GiveAsNamed p fr frs → (place : Pos) (q : Completion) (i : ℕ) (s : Step) → slice_get (frame_steps p fr) i ≡ Some s → s.action ≡ actions.End q
        → end p c fr frs place q ≡ went d → HaveTypes p d
    end_types [] more given place q i s here ends same = carried (main_ended p c fr place q) d same (main_have place q)
    end_types (caller ∷ below) more given place q i s here ends same =
        returned_types caller below more.0 more.1 given place q i s here ends (return_move p (frame_steps p caller) e)
        (subst (λ (steps : List Step). IsBack steps e (return_move p steps e)) (sym (same_steps (is_text p c.heap) p ac caller more.0)) (back_is p more.0.number caller.control e)) same
      where
        e : Option ClassId
        e = exception_class p c.heap (thrown_in fr.locals q)

    moved_types : (frs : List Frame) → KeepAll (is_text p c.heap) p frs → GiveAsNamed p fr frs → (mv : Move) → IsNext p c.heap c.arrays fr.method fr.locals (frame_steps p fr) mv → moved p c fr frs mv ≡ went d → HaveTypes p d
    moved_types frs rest given (Inner e s) next same = carried (within p c fr frs e s) d same (inner_have frs rest given e s next)
    moved_types frs rest given (Start named runs a place) next same = carried (began p c fr frs named runs a place) d same (start_have frs rest given named runs a place next)
    moved_types frs rest given (Library named m x s) next same = carried (library_went p c fr frs named m x s) d same (library_have frs rest given named m x s next)
    moved_types frs rest given (End place q) next same = end_types frs rest given place q next.0 next.1 next.2 next.3 same
    moved_types frs rest given (Stray e place) next same = absurd (let never : stray e place ≡ went d = same in cc)
    moved_types frs rest given Rest next same = carried c d same all

    next_here : HasMadeClasses p c.heap → IsNext p c.heap c.arrays fr.method fr.locals (frame_steps p fr) (next_move p c.heap c.arrays (next_choice c.choices c.used) fr.method fr.locals (frame_steps p fr) (standing (slice_get fr.control 0)))
    next_here made =
        subst (λ (steps : List Step). IsNext p c.heap c.arrays fr.method fr.locals steps (next_move p c.heap c.arrays (next_choice c.choices c.used) fr.method fr.locals steps (standing (slice_get fr.control 0))))
        (sym (same_steps (is_text p c.heap) p ac fr keeps))
        (next_is p keeps.number fr.control (λ i s here. plain_forms (is_text p c.heap) p ac forms lib fr keeps i s (in_steps (is_text p c.heap) p ac forms lib fr keeps i s here)) c.heap c.arrays (next_choice c.choices c.used) fr.method fr.locals made)

  by_frames : (c d : Config) (frs : List Frame) → HasMadeClasses p c.heap → HaveTypes p c → KeepAll (is_text p c.heap) p frs → AreCalled p frs → TopHoldsWhatIsThere c.heap frs → moved_by p c frs (top_move p c frs) ≡ went d → HaveTypes p d
  by_frames c d [] made have keep given there same = absurd (let never : ended c.ended ≡ went d = same in cc)
  by_frames c d (fr ∷ frs) made have keep given there same =
      moved_types c d fr keep.0 there have.fields have.statics have.arrays have frs keep.1 given (top_move p c (fr ∷ frs)) (next_here c d fr keep.0 there have.fields have.statics have.arrays have made) same

-- ---- the laws

pub types_step : (p : Program) → Accept p → HasPlainForms p → is_library p p.core.string ≡ true → (c d : Config) → HasMadeClasses p c.heap → TopHoldsWhatIsThere c.heap c.frames → HaveTypes p c → step p c ≡ went d → HaveTypes p d
unfolding step
types_step p ac forms lib c d made there have same = by_frames p ac forms lib c d c.frames made have have.frames have.called there same

module _ (texts : ℕ → Bool) (p : Program) (ac : Accept p) (main : MethodId) (m : Method) (choices : Choices) (at : method_at p main ≡ Some m) (has : has_body m.body ≡ true) where
  start_holds : HoldTypes texts p (start_config p main choices)
  unfolding start_config
  start_holds = record {
    frames = (begun_keeps texts p ac main values.Nothing (values.Array 0 ∷ []) (array_fills texts p ac main 0) (ap (λ (x : Option Method). has_body (body_of x)) at ∙ has), tt);
    called = tt;
    fields = All-nil (λ s. IsStoredNone texts p s);
    statics = All-nil (λ s. IsNoObjectBut texts s.value);
    arrays = All-cons (ElementsHoldNone texts) (library_array elements.Str (pos choices.args)) [] (All-nil (IsNoObjectBut texts)) (All-nil (ElementsHoldNone texts));
  }

pub types_at_start : (p : Program) → Accept p → (main : MethodId) (m : Method) (choices : Choices) → method_at p main ≡ Some m → has_body m.body ≡ true → HaveTypes p (start_config p main choices)
types_at_start p ac main m choices at has = start_holds (is_text p (start_config p main choices).heap) p ac main m choices at has

module _ (texts : ℕ → Bool) (p : Program) (ac : Accept p) (fr : Frame) (keeps : KeepsTypes texts p fr) where
  pub argument_is_no_object : (i : ℕ) (t : Step) (named : MethodId) (k : ℕ) (x : ParamSig) → slice_get (frame_steps p fr) i ≡ Some t → called_method t.action ≡ Some named
      → slice_get (params_of (method_at p named)) k ≡ Some x → NoObject (Some x.vtype) → IsNoObjectBut texts (operand_of fr.locals t.action (k + 1))
  argument_is_no_object i t named k x here called at none =
      subst (λ (n : ℕ). IsNoObjectBut texts (operand_of fr.locals t.action n)) (let same : suc k ≡ k + 1 = omega arith in same)
      (argument_none texts p keeps.body fr.locals named k x at none t.action (fits texts p ac fr keeps i t here) called)

  pub stored_value_is_no_object : (i : ℕ) (t : Step) (f : FieldId) (d : ℕ) → slice_get (frame_steps p fr) i ≡ Some t → t.action ≡ actions.PutOwn f d → NoObject (field_type p f) → IsNoObjectBut texts (temp_value fr.locals d)
  stored_value_is_no_object i t f d here is none =
      (subst (λ (a : Action). Fits p keeps.body a (temp_holds_none texts fr.locals)) is (fits texts p ac fr keeps i t here)) none

  pub returned_value_is_no_object : (i : ℕ) (t : Step) (q : Completion) → slice_get (frame_steps p fr) i ≡ Some t → t.action ≡ actions.End q → thrown_in fr.locals q ≡ None
      → NoObject (result_of (method_at p fr.method)) → IsNoObjectBut texts (result_value fr.locals (method_at p fr.method) q)
  returned_value_is_no_object i t q here ends normal none =
      result_none texts p keeps.body fr.locals (method_at p fr.method) q
      (subst (λ (a : Action). Fits p keeps.body a (temp_holds_none texts fr.locals)) ends (fits texts p ac fr keeps i t here)) normal
      (subst (λ (m : MethodId). NoObject (result_of (method_at p m))) (sym keeps.method) none)

  pub made_value_is_no_object : (c : Config) → HoldTypes texts p c → (i : ℕ) (t : Step) (choice : Choice) → slice_get (frame_steps p fr) i ≡ Some t → MakesNone p t.action
      → IsNoObjectBut texts (made_value p c.heap c.arrays c.statics choice fr.locals t.action)
  made_value_is_no_object c have i t choice here makes =
      made_none texts p keeps.body c.heap c.arrays c.statics choice fr.locals t.action have.fields have.statics have.arrays (fits texts p ac fr keeps i t here) makes
