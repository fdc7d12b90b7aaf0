-- What a step makes, and what it gives to variables, is an object of the class or null where the type of the place is under the class.
use Rattle.std.proofs.Common.{◌≡◌, ◌⊎◌, inl, inr, ◌∙◌, refl, sym, ap, subst, arith, ℕ, ◌+◌, Bool, true, false, ◌&&◌, not, true≢false, Option, Some, None, List, if◌then◌else◌}
use Rattle.std.specs.Prelude.{nat_le, nat_lt, unwrap_or, ◌||◌}
use Rattle.program_model.specs.declared.kinds.BodyId.{BodyId}
use Rattle.program_model.specs.declared.kinds.ClassId.{ClassId}
use Rattle.program_model.specs.declared.kinds.Literal.{Literal}
use Rattle.program_model.specs.declared.kinds.Literal.TheVariants as literals
use Rattle.program_model.specs.declared.kinds.MethodId.{MethodId}
use Rattle.program_model.specs.declared.kinds.OperandType.TheVariants as operand_types
use Rattle.program_model.specs.declared.kinds.VType.{VType}
use Rattle.program_model.specs.declared.kinds.VType.TheVariants as types
use Rattle.program_model.specs.declared.program.Method.{Method}
use Rattle.program_model.specs.declared.program.Program.{Program}
use Rattle.program_model.specs.declared.tree.Body.{Body}
use Rattle.program_model.specs.Lookups.{body_at, method_at, variable_type}
use Rattle.program_model.specs.Overrides.{method_run}
use Rattle.program_model.specs.SuperTests.{is_under}
use Rattle.program_model.specs.Validity.{IsTypedProgram}
use Rattle.program_model.proofs.HierarchyLaws.{is_under_law}
use Rattle.java_control.specs.Calls.{called_method, temp_at}
use Rattle.java_control.specs.Control.{Step}
use Rattle.java_control.specs.Sources.{is_throws}
use Rattle.control_actions.specs.declared.action.Action.{Action}
use Rattle.control_actions.specs.declared.action.Action.TheVariants as actions
use Rattle.control_actions.specs.declared.action.ClauseId.{ClauseId}
use Rattle.control_actions.specs.declared.action.Edge.{Edge}
use Rattle.control_actions.specs.declared.action.Edge.TheVariants as edges
use Rattle.control_actions.specs.declared.action.Operator.{Operator}
use Rattle.control_actions.specs.declared.action.Operator.TheVariants as operators
use Rattle.control_actions.specs.declared.action.PlainValue.{PlainValue}
use Rattle.control_actions.specs.declared.action.PlainValue.TheVariants as plain
use Rattle.control_actions.specs.declared.action.TargetForm.TheVariants as forms
use Rattle.control_actions.specs.declared.place.Place.{Place}
use Rattle.control_actions.specs.declared.place.Place.TheVariants as places
use Rattle.stub_conduct.specs.declared.choice.Choice.{Choice}
use Rattle.ledger_state.specs.Classes.{is_instance, is_under_class, runtime_class}
use Rattle.ledger_state.specs.Contents.{HeapContents}
use Rattle.ledger_state.specs.Heaps.{next_number}
use Rattle.ledger_state.specs.Locals.{temp_in, temp_value}
use Rattle.ledger_state.specs.Values.{is_null, literal_value}
use Rattle.ledger_state.specs.declared.array.ArrayObject.{ArrayObject}
use Rattle.ledger_state.specs.declared.locals.Locals.{Locals}
use Rattle.ledger_state.specs.declared.object.StoredStatic.{StoredStatic}
use Rattle.ledger_state.specs.declared.value.Value.{Value}
use Rattle.ledger_state.specs.declared.value.Value.TheVariants as values
use Rattle.ledger_moves.specs.Operations.{is_cast_refused, made_value, operator_value, plain_value, thrown_by_operation, thrown_where}
use Rattle.ledger_steps.specs.LedgerCallsCalls.{form_of, operand_of, overriding, overriding_by, overriding_in, running}
use Rattle.ledger_moves.specs.Choosing.{agrees_with, is_taken, method_body, operation_edge, same_edge}
use Rattle.ledger_steps.specs.CallSteps.{self_begun}
use Rattle.ledger_steps.specs.InnerSteps.{thrown_value}
use Rattle.ledger_moves.specs.Moves.{fits_target, is_target_of}
use Rattle.frame_laws.specs.Naming.{IsOfItsKind}
use Rattle.frame_laws.specs.Callees.{may_be_null_target}
use Rattle.frame_laws.specs.Nexts.{IsInnerStep}
use Rattle.frame_laws.specs.Outcomes.{IsCallRow}
use Rattle.dispatch_laws.specs.ClassOperands.{EntersClause, Fits, GivesOwnType, GivesText, IsNotAboveString, IsOfClass, IsNull, OfClass, own_type}
use Rattle.value_laws.proofs.Moved.{IsConstantRead, throws_edge}
use Rattle.value_laws.specs.Values.{FitsClass, HasClassUnder, temp_fits_class}
use Rattle.value_laws.specs.Objects.{KeepsClasses, object_class}
use Rattle.value_laws.specs.Origins.{IsCastToClass, MakesClass}
use Rattle.value_laws.specs.ClassValues.{StoredFieldsFitClass}
use Rattle.dispatch_laws.proofs.OverridingRuns.{class_of_declared, runs_from}
use Rattle.value_laws.proofs.CaughtClasses.{caught_is_of_class}
use Rattle.value_laws.proofs.ClassFields.{field_of_fits}
use Rattle.value_laws.proofs.ClassGifts.{IsMaking, constructor_makes, fits_still, instance_fits, result_makes, under_fits}
use Rattle.value_laws.proofs.ClassOperands.{default_fits}
use Rattle.value_laws.proofs.ClassVariables.{SetsClass}

-- ---- values that a step makes

literal_fits : (p : Program) (bound : ClassId) (K : HeapContents) (l : Literal) → IsNull l → FitsClass p bound K (literal_value l)
literal_fits p bound K (literals.Number z) null = absurd null
literal_fits p bound K (literals.Character c) null = absurd null
literal_fits p bound K (literals.Boolean b) null = absurd null
literal_fits p bound K literals.Text null = absurd null
literal_fits p bound K literals.Null null = tt

plain_fits : (p : Program) (bound : ClassId) (K : HeapContents) (statics : List StoredStatic) (v : PlainValue) → GivesOwnType p bound v → FitsClass p bound K (plain_value p statics v)
plain_fits p bound K statics (plain.Literal l) gives = literal_fits p bound K l gives
plain_fits p bound K statics (plain.Default t) gives = default_fits p bound K t gives
plain_fits p bound K statics (plain.StaticField f) gives = absurd gives
plain_fits p bound K statics (plain.LibraryConstant m) gives = tt

text_fits : (p : Program) (bound : ClassId) (K h : HeapContents) (arrays : List ArrayObject) (choice : Choice) (l : Locals) (k : Operator) (d : ℕ) → GivesText k → FitsClass p bound K (operator_value p h arrays choice l k d)
text_fits p bound K h arrays choice l (operators.Binary o operand_types.Text types.Str) d gives = tt
text_fits p bound K h arrays choice l operators.Length d gives = absurd gives
text_fits p bound K h arrays choice l k d gives = absurd gives

pub made_fits : (p : Program) (bound : ClassId) (K h : HeapContents) (arrays : List ArrayObject) (statics : List StoredStatic) (choice : Choice) (l : Locals) (a : Action) → StoredFieldsFitClass p bound K h → MakesClass p bound a
    → FitsClass p bound K (made_value p h arrays statics choice l a)
made_fits p bound K h arrays statics choice l (actions.Plain x v) stored makes = plain_fits p bound K statics v makes
made_fits p bound K h arrays statics choice l (actions.Op k d n) stored makes = text_fits p bound K h arrays choice l k d makes
made_fits p bound K h arrays statics choice l (actions.Get f d this) stored makes = field_of_fits p bound K h (temp_value l d) f stored makes
made_fits p bound K h arrays statics choice l (actions.Call m d n form) stored makes = tt
made_fits p bound K h arrays statics choice l (actions.New m d n) stored makes = tt
made_fits p bound K h arrays statics choice l actions.Skip stored makes = absurd makes
made_fits p bound K h arrays statics choice l a stored makes = absurd makes

-- a step that does not go by an exception throws none of its own
plain_normal : (p : Program) (h : HeapContents) (arrays : List ArrayObject) (m : MethodId) (l : Locals) (a : Action) (f : Edge) (e : Option ClassId) → e ≡ thrown_by_operation p h arrays l a → agrees_with p h arrays m l a f ≡ true
    → is_throws f ≡ false → e ≡ None
plain_normal p h arrays m l (actions.Test d) f e is agree goes = is
plain_normal p h arrays m l (actions.Enter clause x b d) f e is agree goes = is
plain_normal p h arrays m l actions.Skip f e is agree goes = is
plain_normal p h arrays m l a f None is agree goes = refl
plain_normal p h arrays m l a f (Some c) is agree goes =
    absurd (true≢false (sym (throws_edge c f (ap (λ (x : Option ClassId). same_edge (operation_edge a x) f) is ∙ agree)) ∙ goes))

null_throws : (p : Program) (a : Action) (f : Edge) → may_be_null_target p a f ≡ true → is_throws f ≡ true
null_throws p a (edges.Throws c) is = refl
null_throws p a edges.Go is = absurd (true≢false (sym is))
null_throws p a f is = absurd (true≢false (sym is))

pub inner_normal : (p : Program) (h : HeapContents) (arrays : List ArrayObject) (m : MethodId) (l : Locals) (e : Option ClassId) (s : Step) → IsInnerStep p h arrays m l e s → is_throws s.edge ≡ false → e ≡ None
inner_normal p h arrays m l e s (inl step) goes = plain_normal p h arrays m l s.action s.edge e step.thrown step.agreeing goes
inner_normal p h arrays m l e s (inr (inl null)) goes = absurd (true≢false (sym (null_throws p s.action s.edge null.target) ∙ goes))
inner_normal p h arrays m l e s (inr (inr store)) goes = store.normal

-- what a variable takes that is not computed throws nothing
plain_thrown : (p : Program) (h : HeapContents) (arrays : List ArrayObject) (m : MethodId) (l : Locals) (e : Option ClassId) (s : Step) (x : Place) (w : PlainValue) → IsInnerStep p h arrays m l e s → s.action ≡ actions.Plain x w → e ≡ None
plain_thrown p h arrays m l e s x w (inl step) is = step.thrown ∙ ap (thrown_by_operation p h arrays l) is
plain_thrown p h arrays m l e s x w (inr (inl null)) is = absurd (subst IsCallRow is null.row)
plain_thrown p h arrays m l e s x w (inr (inr store)) is = store.normal

-- ---- casts and catch clauses

null_fits : (p : Program) (bound : ClassId) (K : HeapContents) (v : Value) → is_null v ≡ true → FitsClass p bound K v
null_fits p bound K (values.Number z) is = absurd (true≢false (sym is))
null_fits p bound K values.Nothing is = tt
null_fits p bound K values.Null is = tt
null_fits p bound K values.Text is = tt
null_fits p bound K (values.Object k) is = absurd (true≢false (sym is))
null_fits p bound K (values.Array a) is = tt

call_no_cast : (p : Program) (bound : ClassId) (a : Action) (x : ℕ) → IsCallRow a → IsCastToClass p bound a x → ⊥
call_no_cast p bound (actions.Cast t d) x row is = row
call_no_cast p bound actions.Skip x row is = is
call_no_cast p bound a x row is = is

pub calls_no_cast : (p : Program) (bound : ClassId) (K : HeapContents) (l : Locals) (a : Action) (x : ℕ) → IsCallRow a → IsCastToClass p bound a x → FitsClass p bound K (temp_value l x)
calls_no_cast p bound K l a x row is = absurd (call_no_cast p bound a x row is)

module _ (p : Program) (bound : ClassId) (typed : IsTypedProgram p) (h : HeapContents) (arrays : List ArrayObject) (m : MethodId) (l : Locals) where
  cast_passes : (t : VType) (v : Value) → IsOfClass p bound t → is_cast_refused p h arrays t v ≡ false → FitsClass p bound h v
  cast_passes t v to is = go (is_null v) (is_instance p h arrays t v) refl refl is
    where
      go : (x y : Bool) → is_null v ≡ x → is_instance p h arrays t v ≡ y → (not x && not y) ≡ false → FitsClass p bound h v
      go true y null instance passed = null_fits p bound h v null
      go false true null instance passed = instance_fits p bound typed h arrays t v to instance
      go false false null instance passed = absurd (true≢false passed)

  -- what passes a cast to a type under the class is an object of the class or null
  cast_fits : (a : Action) (e : Edge) (x : ℕ) → agrees_with p h arrays m l a e ≡ true → is_throws e ≡ false → IsCastToClass p bound a x → FitsClass p bound h (temp_value l x)
  cast_fits (actions.Cast t d) e x agreeing goes is = subst (temp_fits_class p bound h l) (sym is.0) (by (is_cast_refused p h arrays t (temp_value l d)) refl agreeing)
    where
      by : (b : Bool) → is_cast_refused p h arrays t (temp_value l d) ≡ b → same_edge (operation_edge (actions.Cast t d) (thrown_where b p.core.class_cast_exception)) e ≡ true → FitsClass p bound h (temp_value l d)
      by true refused agree = absurd (true≢false (sym (throws_edge p.core.class_cast_exception e agree) ∙ goes))
      by false passed agree = cast_passes t (temp_value l d) is.1 passed
  cast_fits actions.Skip e x agreeing goes is = absurd is
  cast_fits a e x agreeing goes is = absurd is

  pub inner_cast : (e : Option ClassId) (s : Step) (x : ℕ) → IsInnerStep p h arrays m l e s → is_throws s.edge ≡ false → IsCastToClass p bound s.action x → FitsClass p bound h (temp_value l x)
  inner_cast e s x (inl step) goes is = cast_fits s.action s.edge x step.agreeing goes is
  inner_cast e s x (inr (inl null)) goes is = calls_no_cast p bound h l s.action x null.row is
  inner_cast e s x (inr (inr store)) goes is = absurd (subst (λ (a : Action). IsCastToClass p bound a x) store.action is)

  -- a clause takes an exception by its class, which fits its parameter
  module _ (own : IsNotAboveString p bound) (n : BodyId) (b : Body) (at : body_at p n ≡ Some b) where
    taken_fits : (clause : ClauseId) (x : ℕ) (v : Value) → EntersClause b clause x → OfClass p bound (variable_type b x) → is_taken p (Some b) clause (runtime_class p h v) ≡ true → FitsClass p bound h v
    taken_fits clause x (values.Number z) enters kind is = absurd (true≢false (sym is))
    taken_fits clause x values.Nothing enters kind is = tt
    taken_fits clause x values.Null enters kind is = tt
    taken_fits clause x values.Text enters kind is = tt
    taken_fits clause x (values.Object k) enters kind is = go (object_class h k) is
      where
        go : (c : Option ClassId) → is_taken p (Some b) clause c ≡ true → HasClassUnder p bound c
        go None is' = absurd (true≢false (sym is'))
        go (Some c) is' = caught_is_of_class p bound typed own n b at c x kind clause enters is'
    taken_fits clause x (values.Array a) enters kind is = tt

    -- what a catch clause's variable takes
    abbrev pub IsCaught : Action → Type 0
    IsCaught (actions.Enter clause x d k) = OfClass p bound (variable_type b x) → temp_fits_class p bound h l k
    IsCaught a = Unit {0}

    module _ (mine : method_body p m ≡ Some b) (held : ℕ → Type 0) where
      agreeing_caught : (a : Action) (e : Edge) → Fits p bound b a held → agrees_with p h arrays m l a e ≡ true → IsCaught a
      agreeing_caught (actions.Enter clause x d k) e enters agreeing =
          λ kind. taken_fits clause x (temp_value l k) enters kind (ap (λ (o : Option Body). is_taken p o clause (runtime_class p h (temp_value l k))) (sym mine) ∙ agreeing)
      agreeing_caught actions.Skip e enters agreeing = tt
      agreeing_caught a e enters agreeing = tt

      call_caught : (a : Action) → IsCallRow a → IsCaught a
      call_caught (actions.Enter clause x d k) row = absurd row
      call_caught actions.Skip row = tt
      call_caught a row = tt

      pub inner_caught : (e : Option ClassId) (s : Step) → Fits p bound b s.action held → IsInnerStep p h arrays m l e s → IsCaught s.action
      inner_caught e s enters (inl step) = agreeing_caught s.action s.edge enters step.agreeing
      inner_caught e s enters (inr (inl null)) = call_caught s.action null.row
      inner_caught e s enters (inr (inr store)) = subst IsCaught (sym store.action) tt

-- ---- what variables take

module _ (p : Program) (bound : ClassId) (K : HeapContents) (b : Body) (l : Locals) where
  pub call_sets_nothing : (a : Action) (v : Value) → IsCallRow a → SetsClass p bound K b l a v
  call_sets_nothing (actions.Plain x w) v row = absurd row
  call_sets_nothing (actions.Enter clause x d k) v row = absurd row
  call_sets_nothing actions.Skip v row = tt
  call_sets_nothing a v row = tt

  -- what a library's constant gives is no variable's
  pub library_sets_nothing : (a : Action) (named : MethodId) (v : Value) (held : ℕ → Type 0) → Fits p bound b a held → (called_method a ≡ Some named) ⊎ IsConstantRead a named → SetsClass p bound K b l a v
  library_sets_nothing (actions.Plain (places.Var x) (plain.LibraryConstant m)) named v held asks row = absurd asks
  library_sets_nothing (actions.Plain (places.Var x) w) named v held asks (inl called) = absurd (let never : None ≡ Some named = called in cc)
  library_sets_nothing (actions.Plain (places.Var x) (plain.Literal z)) named v held asks (inr reads) = absurd reads
  library_sets_nothing (actions.Plain (places.Var x) (plain.Default t)) named v held asks (inr reads) = absurd reads
  library_sets_nothing (actions.Plain (places.Var x) (plain.StaticField f)) named v held asks (inr reads) = absurd reads
  library_sets_nothing (actions.Plain (places.Temp d) w) named v held asks row = tt
  library_sets_nothing (actions.Plain x w) named v held asks row = tt
  library_sets_nothing (actions.Enter clause x d k) named v held asks (inl called) = absurd (let never : None ≡ Some named = called in cc)
  library_sets_nothing (actions.Enter clause x d k) named v held asks (inr reads) = absurd reads
  library_sets_nothing actions.Skip named v held asks row = tt
  library_sets_nothing a named v held asks row = tt

  module _ (h : HeapContents) (arrays : List ArrayObject) (statics : List StoredStatic) (choice : Choice) (e : Option ClassId) (held : ℕ → Type 0) where
    abbrev made : Action → Value
    made a = thrown_value h e (made_value p h arrays statics choice l a)

    -- a variable takes a value that stands there without being computed
    takes_own : (x : ℕ) (w : PlainValue) → e ≡ None → (OfClass p bound (variable_type b x) → GivesOwnType p bound w) → OfClass p bound (variable_type b x) → FitsClass p bound K (made (actions.Plain (places.Var x) w))
    takes_own x w none fits to = subst (λ (o : Option ClassId). FitsClass p bound K (thrown_value h o (plain_value p statics w))) (sym none) (plain_fits p bound K statics w (fits to))

    pub sets_by : (a : Action) → Fits p bound b a held → ((x : Place) (w : PlainValue) → a ≡ actions.Plain x w → e ≡ None) → ((clause : ClauseId) (x d k : ℕ) → a ≡ actions.Enter clause x d k → OfClass p bound (variable_type b x) → temp_fits_class p bound K l k)
        → SetsClass p bound K b l a (made a)
    sets_by (actions.Plain (places.Var x) (plain.LibraryConstant k)) fits none caught = absurd fits
    sets_by (actions.Plain (places.Var x) (plain.Literal z)) fits none caught = takes_own x (plain.Literal z) (none (places.Var x) (plain.Literal z) refl) fits
    sets_by (actions.Plain (places.Var x) (plain.Default t)) fits none caught = takes_own x (plain.Default t) (none (places.Var x) (plain.Default t) refl) fits
    sets_by (actions.Plain (places.Var x) (plain.StaticField f)) fits none caught = takes_own x (plain.StaticField f) (none (places.Var x) (plain.StaticField f) refl) fits
    sets_by (actions.Plain (places.Temp d) w) fits none caught = tt
    sets_by (actions.Plain x w) fits none caught = tt
    sets_by (actions.Enter clause x d k) fits none caught = caught clause x d k refl
    sets_by actions.Skip fits none caught = tt
    sets_by a fits none caught = tt

-- what a step within a frame gives to a variable; `K` is the heap afterwards
pub inner_sets : (p : Program) (bound : ClassId) → IsTypedProgram p → IsNotAboveString p bound → (K h : HeapContents) → KeepsClasses h K → (n : BodyId) (b : Body) → body_at p n ≡ Some b → (m : MethodId) → method_body p m ≡ Some b → (l : Locals) (arrays : List ArrayObject)
    (statics : List StoredStatic) (choice : Choice) (e : Option ClassId) (held : ℕ → Type 0) (s : Step) → Fits p bound b s.action held → IsInnerStep p h arrays m l e s
    → SetsClass p bound K b l s.action (thrown_value h e (made_value p h arrays statics choice l s.action))
inner_sets p bound typed own K h keeps n b at m mine l arrays statics choice e held s fits step =
    sets_by p bound K b l h arrays statics choice e held s.action fits (λ x w is. plain_thrown p h arrays m l e s x w step is)
    (λ clause x d k is kind. fits_still p bound h K (temp_value l k) keeps (subst (IsCaught p bound typed h arrays m l own n b at) is (inner_caught p bound typed h arrays m l own n b at mine held e s fits step) kind))

-- ---- calls

same_method : (m named : MethodId) → ◌≡◌ {A = Option MethodId} (Some m) (Some named) → m ≡ named
same_method m named is = cc

no_method : (named : MethodId) → ◌≡◌ {A = Option MethodId} None (Some named) → ⊥
no_method named is = cc

-- where a call makes an object of the class, so does the method that it names
pub names_making : (p : Program) (bound : ClassId) (typed : IsTypedProgram p) (a : Action) (named : MethodId) → (called_method a ≡ Some named) ⊎ IsConstantRead a named → IsOfItsKind p a → MakesClass p bound a → IsMaking p bound typed (method_at p named)
names_making p bound typed (actions.Call m d n form) named (inl called) kind makes = subst (λ (k : MethodId). IsMaking p bound typed (method_at p k)) (same_method m named called) (result_makes p bound typed m makes)
names_making p bound typed (actions.Call m d n form) named (inr reads) kind makes = absurd reads
names_making p bound typed (actions.New m d n) named (inl called) kind makes = subst (λ (k : MethodId). IsMaking p bound typed (method_at p k)) (same_method m named called) (constructor_makes p bound typed (method_at p m) kind makes)
names_making p bound typed (actions.New m d n) named (inr reads) kind makes = absurd reads
names_making p bound typed (actions.Plain x (plain.LibraryConstant m)) named (inl called) kind makes = absurd (no_method named called)
names_making p bound typed (actions.Plain x (plain.LibraryConstant m)) named (inr reads) kind makes = subst (λ (k : MethodId). IsMaking p bound typed (method_at p k)) reads (result_makes p bound typed m makes)
names_making p bound typed (actions.Plain x (plain.Literal z)) named (inl called) kind makes = absurd (no_method named called)
names_making p bound typed (actions.Plain x (plain.Literal z)) named (inr reads) kind makes = absurd reads
names_making p bound typed (actions.Plain x (plain.Default t)) named (inl called) kind makes = absurd (no_method named called)
names_making p bound typed (actions.Plain x (plain.Default t)) named (inr reads) kind makes = absurd reads
names_making p bound typed (actions.Plain x (plain.StaticField f)) named (inl called) kind makes = absurd makes
names_making p bound typed (actions.Plain x (plain.StaticField f)) named (inr reads) kind makes = absurd makes
names_making p bound typed (actions.Op k d n) named (inl called) kind makes = absurd (no_method named called)
names_making p bound typed (actions.Op k d n) named (inr reads) kind makes = absurd reads
names_making p bound typed (actions.Get f d this) named (inl called) kind makes = absurd (no_method named called)
names_making p bound typed (actions.Get f d this) named (inr reads) kind makes = absurd reads
names_making p bound typed actions.Skip named row kind makes = absurd makes
names_making p bound typed a named row kind makes = absurd makes

-- ---- `this` of a call

-- what runs for an object of the class is declared by the class or one above it, unless it is the named method
pub runs_above : (p : Program) → IsTypedProgram p → (named : MethodId) (x : Method) (c : ClassId) (running : Method) → method_at p (overriding p named x c) ≡ Some running
    → (overriding p named x c ≡ named) ⊎ (is_under p c running.class ≡ true)
runs_above p typed named x c running at = go (x.is_private || not (is_under p c x.class)) (method_run p x c) refl at
  where
    go : (b : Bool) (r : Option MethodId) → method_run p x c ≡ r → method_at p (if b then named else unwrap_or r named) ≡ Some running
        → ((if b then named else unwrap_or r named) ≡ named) ⊎ (is_under p c running.class ≡ true)
    go true r is at' = inl refl
    go false None is at' = inl refl
    go false (Some r) is at' =
        let from = runs_from p typed.hierarchy x c r is in
        let same : running.class ≡ from.declaring = class_of_declared p typed from.declaring r running from.declared at' in
        inr (subst (λ (d : ClassId). is_under p c d ≡ true) (sym same) ((is_under_law p typed.hierarchy c from.declaring).1 from.above))

module _ (p : Program) (bound : ClassId) (typed : IsTypedProgram p) (h : HeapContents) (arrays : List ArrayObject) (l : Locals) (named : MethodId) (x : Method) (named_at : method_at p named ≡ Some x) where
  -- the target of a call of the method of an object
  target_fits : (v : Value) (running : Method) → method_at p (overriding_by p named (runtime_class p h v)) ≡ Some running → is_target_of p h arrays (Some x) v ≡ true → IsOfClass p bound (types.Obj running.class) → FitsClass p bound h v
  target_fits values.Nothing running at is to = tt
  target_fits values.Null running at is to = tt
  target_fits values.Text running at is to = tt
  target_fits (values.Number z) running at is to = absurd (true≢false (sym is))
  target_fits (values.Object k) running at is to = go (object_class h k) refl at is
    where
      go : (c : Option ClassId) → object_class h k ≡ c → method_at p (overriding_by p named c) ≡ Some running → is_under_class p c x.class ≡ true → HasClassUnder p bound (object_class h k)
      go None none at' is' = absurd (true≢false (sym is'))
      go (Some c) same at' is' = subst (HasClassUnder p bound) (sym same) (elim (runs_above p typed named x c running found) [
        | inl itself ↦ under_fits p bound typed c x.class is' (subst (λ (d : ClassId). IsOfClass p bound (types.Obj d)) (let one : running.class ≡ x.class = by_name itself in one) to)
        | inr under ↦ under_fits p bound typed c running.class under to
      ])
        where
          found : method_at p (overriding p named x c) ≡ Some running
          found = ap (λ (o : Option Method). method_at p (overriding_in p named o c)) (sym named_at) ∙ at'

          by_name : overriding p named x c ≡ named → running.class ≡ x.class
          by_name itself =
              let both : Some running ≡ Some x = sym found ∙ ap (method_at p) itself ∙ named_at in
              let one : running ≡ x = cc in
              ap (λ (y : Method). y.class) one
  target_fits (values.Array a) running at is to = tt

module _ (p : Program) (bound : ClassId) (typed : IsTypedProgram p) (h K : HeapContents) (keeps : KeepsClasses h K) (arrays : List ArrayObject) (b : Body) (l : Locals) (named : MethodId) (x : Method) (named_at : method_at p named ≡ Some x) where
  first_operand : (d n : ℕ) → FitsClass p bound K (temp_value l d) → FitsClass p bound K (temp_in l (temp_at d n 0))
  first_operand d n none = go (nat_lt 0 n && nat_le (d + 0) 4294967295)
    where
      go : (t : Bool) → FitsClass p bound K (temp_in l (if t then Some (d + 0) else None))
      go true = subst (temp_fits_class p bound K l) (let here : d ≡ d + 0 = omega arith in here) none
      go false = tt

  abbrev IsNamed : MethodId → Type 0
  IsNamed m = ◌≡◌ {A = Option MethodId} (Some m) (Some named)

  named_type : (m : MethodId) → IsNamed m → IsOfClass p bound (types.Obj x.class) → OfClass p bound (own_type (method_at p m))
  named_type m is to = subst (λ (k : MethodId). OfClass p bound (own_type (method_at p k))) (sym (same_method m named is)) (subst (λ (o : Option Method). OfClass p bound (own_type o)) (sym named_at) to)

  -- where the method runs that is named
  running_named : (runs : MethodId) (running : Method) → method_at p runs ≡ Some running → runs ≡ named → IsOfClass p bound (types.Obj running.class) → IsOfClass p bound (types.Obj x.class)
  running_named runs running at same to =
      let both : Some running ≡ Some x = sym at ∙ ap (method_at p) same ∙ named_at in
      let one : running ≡ x = cc in
      subst (λ (y : Method). IsOfClass p bound (types.Obj y.class)) one to

  -- the object of a `new`, the target of the call, or `this` of the caller
  pub self_fits : (a : Action) → IsCallRow a → called_method a ≡ Some named → Fits p bound b a (temp_fits_class p bound K l) → fits_target p h arrays (Some x) (form_of a) (operand_of l a 0) ≡ true
      → ((m : MethodId) (d n : ℕ) → a ≡ actions.New m d n → object_class K (next_number h) ≡ Some x.class)
      → (runs : MethodId) (other : Method) → runs ≡ running p h l a named → method_at p runs ≡ Some other → IsOfClass p bound (types.Obj other.class) → FitsClass p bound K (self_begun l a h)
  self_fits (actions.Call m d n forms.Static) row called asks fits made runs other selected at to = tt
  self_fits (actions.Call m d n forms.This) row called asks fits made runs other selected at to =
      fits_still p bound h K _ keeps (target_fits p bound typed h arrays l named x named_at _ other (ap (method_at p) (sym selected) ∙ at) fits to)
  self_fits (actions.Call m d n forms.Other) row called asks fits made runs other selected at to =
      fits_still p bound h K _ keeps (target_fits p bound typed h arrays l named x named_at _ other (ap (method_at p) (sym selected) ∙ at) fits to)
  self_fits (actions.Call m d n forms.Super) row called asks fits made runs other selected at to = first_operand d n (asks.1 (named_type m called (running_named runs other at selected to)))
  self_fits (actions.New m d n) row called asks fits made runs other selected at to =
      subst (HasClassUnder p bound) (sym (made m d n refl)) (running_named runs other at selected to)
  self_fits (actions.Super m d n) row called asks fits made runs other selected at to = first_operand d n (asks.1 (named_type m called (running_named runs other at selected to)))
  self_fits actions.Skip row called asks fits made runs other selected at to = absurd row
  self_fits a row called asks fits made runs other selected at to = absurd row
