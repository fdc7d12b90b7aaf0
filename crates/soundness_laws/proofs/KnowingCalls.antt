-- What a call gives as an alias of an object is an object: the library makes it or gives the argument, a `new` gives what it made, and a method of the program returns its aliased argument, which it knows.
use Rattle.std.proofs.Common.{◌≡◌, inl, inr, ℕ, zero, suc, ◌<◌, true, false, not, true≢false, Option, Some, None, List, slice_get, refl, sym, ap, ◌∙◌, subst, eq-eqb}
use Rattle.std.proofs.lemmas.Bool.{and_from}
use Rattle.program_model.specs.declared.kinds.BodyId.{BodyId}
use Rattle.program_model.specs.declared.kinds.ClassId.{ClassId}
use Rattle.program_model.specs.declared.kinds.MethodId.{MethodId}
use Rattle.program_model.specs.declared.kinds.MethodKind.TheVariants as methods
use Rattle.program_model.specs.declared.program.Method.{Method}
use Rattle.program_model.specs.declared.program.Program.{Program}
use Rattle.program_model.specs.Lookups.{method_at}
use Rattle.program_model.specs.Overrides.{is_library}
use Rattle.program_model.specs.Validity.{IfPosition}
use Rattle.ledger_obligations.specs.Bodies.{alias_in, constructs, is_constructor_kind, is_instance_kind}
use Rattle.java_control.specs.Calls.{called_method, operand_at}
use Rattle.java_control.specs.Control.{Step}
use Rattle.control_actions.specs.declared.action.Action.{Action}
use Rattle.control_actions.specs.declared.action.Action.TheVariants as actions
use Rattle.control_actions.specs.declared.action.Completion.{Completion}
use Rattle.control_actions.specs.declared.action.Completion.TheVariants as completions
use Rattle.control_actions.specs.declared.action.Edge.TheVariants as edges
use Rattle.control_actions.specs.declared.action.TargetForm.TheVariants as forms
use Rattle.control_actions.specs.declared.place.Place.TheVariants as places
use Rattle.ownership_rules.specs.Callees.{callee_in, holds_operand}
use Rattle.ownership_rules.specs.Facts.{PlaceSet}
use Rattle.ownership_rules.specs.Signatures.{is_position}
use Rattle.ownership_rules.specs.SmallActions.{IsSmallAction, IsSmallTemp}
use Rattle.ownership_rules.proofs.SmallOperands.{operand_has_room}
use Rattle.stub_conduct.specs.declared.choice.Conduct.{Conduct}
use Rattle.stub_conduct.specs.declared.choice.Conduct.TheVariants as conducts
use Rattle.ledger_state.specs.Contents.{HeapContents}
use Rattle.ledger_state.specs.Locals.{temp_in}
use Rattle.ledger_state.specs.declared.array.ArrayObject.{ArrayObject}
use Rattle.ledger_state.specs.declared.locals.Locals.{Locals}
use Rattle.ledger_state.specs.declared.value.Value.{Value}
use Rattle.ledger_steps.specs.LedgerCallsCalls.{alias_position, operand_of, position_of}
use Rattle.ledger_steps.specs.Conducts.{argument_of, conduct_value, made_by_new, positions, value_at}
use Rattle.ledger_steps.specs.Ends.{answered, answered_normally, exception_class, result_value, thrown_in}
use Rattle.content_laws.specs.Accept.{Accept}
use Rattle.content_laws.specs.Agreement.{IsMadeByNew, Stands, WaitsFor}
use Rattle.content_laws.specs.Aliases.{gives_alias}
use Rattle.content_laws.specs.Arguments.{HasArguments}
use Rattle.content_laws.specs.Choosing.{body_id, frame_steps}
use Rattle.content_laws.specs.Configuration.{Frame}
use Rattle.content_laws.specs.Ends.{is_throw}
use Rattle.content_laws.specs.Naming.{IsOfItsKind}
use Rattle.content_laws.specs.Nexts.{IsBackStep, IsConstantRead, IsLibraryMove}
use Rattle.content_laws.specs.Outcomes.{IsCallRow, IsPlainRow}
use Rattle.content_laws.specs.Paths.{Reach, move_of, relation_of}
use Rattle.content_laws.specs.PlainForms.{HasPlainForms, IsPlainAction, MayRun, RunsFor}
use Rattle.content_laws.specs.Positions.{is_lasting}
use Rattle.content_laws.specs.Running.{HasPlainRuns, is_on_object}
use Rattle.content_laws.specs.Throws.{EndsByException}
use Rattle.content_laws.proofs.AliasConducts.{GivesAlias, gives_object, library_gives}
use Rattle.content_laws.proofs.AliasFacts.{aliased_is_spoken}
use Rattle.content_laws.proofs.AliasRoots.{GivesOperand, gives_operand, plain_super, same_alias}
use Rattle.content_laws.proofs.Bodies.{running_method}
use Rattle.content_laws.proofs.CallNames.{depth_is, holds_at}
use Rattle.content_laws.proofs.CallWays.{one_action}
use Rattle.content_laws.proofs.Following.{same_body}
use Rattle.content_laws.proofs.LastingFacts.{aliased_is_result}
use Rattle.content_laws.proofs.LibraryRuns.{one_alias}
use Rattle.content_laws.proofs.NamedReached.{names_what_is_there}
use Rattle.content_laws.proofs.Ready.{plain_call, plain_step, row_gives_none, step_here, step_there}
use Rattle.content_laws.proofs.Unmet.{call_may}
use Rattle.soundness_laws.specs.Knowing.{IsKnown, IsObject, KnowsArguments}
use Rattle.soundness_laws.specs.Knowing as knowing
use Rattle.soundness_laws.proofs.KnowingFrames.{HoldObjects}

-- ---- operands

-- an operand that is among the places is an object
operand_object : (p : Program) (l : Locals) (a : Action) (k : ℕ) (held : PlaceSet) → IsSmallAction p a → k < 4294967296 → HoldObjects l held → holds_operand a held k ≡ true → IsObject (operand_of l a k)
operand_object p l a k held small below hold is =
    let d = holds_at held (operand_at a k) is in
    let room : d.0 < 64 = subst IsSmallTemp d.1 (operand_has_room p a k small) in
    let object = hold (places.Temp d.0) room d.2 in
    (object.0, ap (temp_in l) (depth_is a k d.0 below d.1) ∙ object.1)

-- ---- the library

-- a read of a constant calls nothing
pub read_row : (a : Action) → IsConstantRead a → IsPlainRow a
read_row actions.Skip read = tt
read_row (actions.Plain q v) read = tt
read_row a read = absurd read

-- what the library gives where it gives an argument
argument_object : (l : Locals) (a : Action) (k j : ℕ) → IsObject (operand_of l a j) → IsObject (position_of (made_by_new a k conducts.Argument) l a j)
argument_object l actions.Skip k zero object = object
argument_object l actions.Skip k (suc j) object = object
argument_object l (actions.New c d n) k zero object = (k, refl)
argument_object l (actions.New c d n) k (suc j) object = object
argument_object l a k zero object = object
argument_object l a k (suc j) object = object

module _ (p : Program) (ac : Accept p) (h : HeapContents) (arrays : List ArrayObject) (l : Locals) (steps : List Step) (named m : MethodId) (d : Conduct) (s : Step) (next : IsLibraryMove p h arrays l steps named m d s)
    (small : IsSmallAction p s.action) (plain : IsPlainAction p s.action) (count k : ℕ) (held : PlaceSet) (hold : HoldObjects l held) (gives : gives_alias p s.action s.edge held ≡ true) where
  abbrev value : Conduct → Value
  value c = conduct_value count (method_at p m) (positions l s.action k c) k c

  module _ (calls : called_method s.action ≡ Some named) where
    aliased_there : GivesOperand s.action held (method_at p named) × (s.edge ≡ edges.Go)
    aliased_there = gives_operand p s.action s.edge held (method_at p named) small (ap (callee_in p) calls) gives

    alias : alias_position (method_at p m) ≡ Some aliased_there.0.position
    alias = one_alias p named m next.answers ∙ aliased_there.0.alias

    operand_is : IsObject (operand_of l s.action aliased_there.0.position)
    operand_is = operand_object p l s.action aliased_there.0.position held small aliased_there.0.small hold aliased_there.0.operand

    by_conduct : (x : Method) (c : Conduct) → d ≡ c → GivesAlias p x c → IsObject (value c)
    by_conduct x (conducts.Throws e) is good = absurd (let to = next.thrown e is in (let never : edges.Go ≡ edges.Throws to.0 = sym aliased_there.1 ∙ to.2 in cc))
    by_conduct x (conducts.Fresh e) is good = (k, refl)
    by_conduct x conducts.Argument is good =
        let object = argument_object l s.action k aliased_there.0.position operand_is in
        (object.0, ap (value_at (positions l s.action k conducts.Argument)) alias ∙ object.1)
    by_conduct x conducts.Null is good = absurd good
    by_conduct x (conducts.Existing j) is good = absurd good
    by_conduct x (conducts.Value z) is good = absurd good
    by_conduct x conducts.Nothing is good = absurd good

    by_method : (x : Option Method) → method_at p m ≡ x → IsObject (value d)
    by_method None at = absurd (let never : None ≡ Some aliased_there.0.position = ap alias_position (sym at) ∙ alias in cc)
    by_method (Some x) at =
        let its : x.sig.alias ≡ Some aliased_there.0.position = ap alias_position (sym at) ∙ alias in
        by_conduct x d refl (subst (GivesAlias p x) (sym next.by.1)
        (library_gives p x aliased_there.0.position its (gives_object p ac.well_formed m x at aliased_there.0.position its) h arrays m at next.by.0 (position_of None l s.action) s.action (plain_super p s.action s.edge held plain gives)))

  pub library_gives_object : IsObject (value d)
  library_gives_object = elim next.row [
    | inl call ↦ by_method call.1 (method_at p m) refl
    | inr read ↦ absurd (true≢false (sym gives ∙ row_gives_none p s.action s.edge held (read_row s.action read)))
  ]

-- ---- the program

module _ (p : Program) (ac : Accept p) (forms' : HasPlainForms p) (runs' : HasPlainRuns p) (h : HeapContents) (fr caller : Frame) (st : Stands p fr) (below : Stands p caller) (waits : WaitsFor p h caller fr) (args : HasArguments p caller fr)
    (exits : EndsByException p h fr) (knows : KnowsArguments p fr) (i : ℕ) (s : Step) (q : Completion) (here : slice_get (frame_steps p fr) i ≡ Some s) (is : s.action ≡ actions.End q) (t : Step) (named : MethodId)
    (back : IsBackStep p (frame_steps p caller) (exception_class p h (thrown_in fr.locals q)) named t) (held : PlaceSet) (hold : HoldObjects caller.locals held) (gives : gives_alias p t.action t.edge held ≡ true) where
  abbrev v : Value
  v = result_value fr.locals (method_at p fr.method) q

  small : IsSmallAction p t.action
  small = (ac.fits below.number).steps back.index (move_of t) below.control (step_there p caller below back.index t back.here)

  form : IsPlainAction p t.action
  form = plain_step p ac forms' caller below back.index t back.here

  kind : IsOfItsKind p t.action
  kind = (names_what_is_there p ac.well_formed.valid.typed below.number below.body caller.control back.index (move_of t) below.at below.control (step_there p caller below back.index t back.here)).1

  given : GivesOperand t.action held (method_at p named) × (t.edge ≡ edges.Go)
  given = gives_operand p t.action t.edge held (method_at p named) small (ap (callee_in p) back.calls) gives

  operand : IsObject (operand_of caller.locals t.action given.0.position)
  operand = operand_object p caller.locals t.action given.0.position held small given.0.small hold given.0.operand

  of_named : (m : MethodId) → called_method t.action ≡ Some m → m ≡ named
  of_named m it = let both : Some m ≡ Some named = sym it ∙ back.calls in (let one : m ≡ named = cc in one)

  named_there : (n : Method) × (method_at p named ≡ Some n)
  named_there = go (method_at p named) refl
    where
      go : (x : Option Method) → method_at p named ≡ x → (n : Method) × (method_at p named ≡ Some n)
      go None at = absurd (let never : None ≡ Some given.0.position = ap alias_position (sym at) ∙ given.0.alias in cc)
      go (Some n) at = (n, at)

  -- the call at which the caller waits is the one that ends
  same_call : waits.step.action ≡ t.action
  same_call = one_action p below.number caller.control back.index waits.index t waits.step (step_here p caller below back.index t back.here) (step_here p caller below waits.index waits.step waits.here) (call_may t.action back.row)

  may : MayRun p named fr.method
  may = subst (λ (z : MethodId). MayRun p z fr.method) (of_named waits.named (ap called_method (sym same_call) ∙ waits.calls)) waits.runs

  -- the method that ran
  run : (x : Method) × (method_at p fr.method ≡ Some x) × (is_library p x.class ≡ false)
  run = running_method p ac fr st

  fit : RunsFor p named_there.0 run.0
  fit = (plain_call p t.action named form back.row back.calls).program fr.method named_there.0 run.0 may named_there.1 run.1 run.2

  aliased : (run.0).sig.alias ≡ Some given.0.position
  aliased = fit.alias ∙ ap alias_position (sym named_there.1) ∙ given.0.alias

  -- ---- a method

  module _ (no_new : is_constructor_kind (run.0).kind ≡ false) (normal : is_throw q ≡ false) where
    -- where the argument is `this`, the method is called on an object
    on_object : (a : Action) → t.action ≡ a → holds_operand a held 0 ≡ true → is_on_object a ≡ true
    on_object actions.Skip it there = absurd (subst IsCallRow it back.row)
    on_object (actions.Call m d n forms.Static) it there = absurd (true≢false (sym there))
    on_object (actions.Call m d n forms.This) it there = refl
    on_object (actions.Call m d n forms.Super) it there = refl
    on_object (actions.Call m d n forms.Other) it there = refl
    on_object (actions.New m d n) it there = absurd (true≢false (sym there))
    on_object (actions.Super m d n) it there =
        absurd (let never : None ≡ Some given.0.position = sym (subst (IsPlainAction p) it form).2 ∙ ap (λ (z : MethodId). alias_in (method_at p z)) (of_named m (ap called_method it)) ∙ sym (same_alias (method_at p named)) ∙ given.0.alias in cc)
    on_object a it there = absurd (subst IsCallRow it back.row)

    instance : given.0.position ≡ 0 → (run.0).kind ≡ methods.Instance
    instance first =
        (runs'.alike below.number back.index (move_of t) named fr.method named_there.0 run.0 below.control (step_there p caller below back.index t back.here) back.calls may named_there.1 run.1 run.2).kind
        (on_object t.action refl (ap (holds_operand t.action held) (sym first) ∙ given.0.operand))

    lasting : (k : ℕ) → given.0.position ≡ k → is_lasting (Some run.0) k ≡ true
    lasting zero at = ap is_instance_kind (instance at)
    lasting (suc x) at =
        and_from (not (is_constructor_kind (run.0).kind)) (is_position (run.0).sig.alias (suc x)) (ap not no_new) (ap (λ (a : Option ℕ). is_position a (suc x)) (aliased ∙ ap Some at) ∙ eq-eqb (suc x) (suc x) refl)

    -- the argument is the operand
    argument : (k : ℕ) → given.0.position ≡ k → IsObject (knowing.argument_of fr.locals k)
    argument zero at =
        let object = subst (λ (k : ℕ). IsObject (operand_of caller.locals t.action k)) at operand in
        (object.0, args.receiver back.index t object.0 back.here object.1)
    argument (suc x) at =
        let object = subst (λ (k : ℕ). IsObject (operand_of caller.locals t.action k)) at operand in
        let inside = subst (λ (a : Option ℕ). IfPosition (run.0).sig a) (aliased ∙ ap Some at) (ac.well_formed.valid.typed.methods fr.method run.0 run.1).signature.alias in
        (object.0, args.parameters back.index t run.0 x back.here run.1 (aliased_is_spoken run.0 x (aliased ∙ ap Some at) inside) ∙ object.1)

    known : IsKnown p fr given.0.position
    known = knows given.0.position (ap (λ (x : Option Method). is_lasting x given.0.position) run.1 ∙ lasting given.0.position refl) (argument given.0.position refl)

    reached : Reach p st.number (relation_of p st.number) known.origin fr.control known.fact
    reached = subst (λ (b : BodyId). Reach p b (relation_of p b) known.origin fr.control known.fact) (same_body known.body st.number (body_id p fr.method) known.id st.id) known.reached

    result_is_object : IsObject v
    result_is_object =
        let result = aliased_is_result p ac st.number st.body run.0 st.at (ap (method_at p) st.method ∙ run.1) given.0.position no_new aliased known.origin fr.control known.fact reached known.at i (move_of s)
        (step_there p fr st i s here) q is normal in
        let object = known.objects (places.Temp result.0) result.3 result.4 in
        (object.0, ap (result_value fr.locals (method_at p fr.method)) result.2 ∙ object.1)

  -- ---- the end

  makes : IsMadeByNew p h t.action fr.locals.this
  makes = subst (λ (a : Action). IsMadeByNew p h a fr.locals.this) same_call waits.makes

  normal_end : exception_class p h (thrown_in fr.locals q) ≡ None → is_throw q ≡ false
  normal_end none = go q is none
    where
      go : (r : Completion) → s.action ≡ actions.End r → exception_class p h (thrown_in fr.locals r) ≡ None → is_throw r ≡ false
      go (completions.Throw d c pos) it none' = absurd (exits i s d c pos here it none')
      go (completions.Return pos) it none' = refl
      go (completions.ReturnValue d pos) it none' = refl
      go (completions.Break pos) it none' = refl
      go (completions.Continue pos) it none' = refl

  normally : exception_class p h (thrown_in fr.locals q) ≡ None → (a : Action) → t.action ≡ a → IsObject (answered_normally fr.locals.this a v)
  normally none actions.Skip it = absurd (subst IsCallRow it back.row)
  normally none (actions.New m d n) it = let made = subst (λ (a : Action). IsMadeByNew p h a fr.locals.this) it makes in (made.0, made.1)
  normally none (actions.Super m d n) it =
      absurd (let never : None ≡ Some given.0.position = sym (subst (IsPlainAction p) it form).2 ∙ ap (λ (z : MethodId). alias_in (method_at p z)) (of_named m (ap called_method it)) ∙ sym (same_alias (method_at p named)) ∙ given.0.alias in cc)
  normally none (actions.Call m d n f) it =
      result_is_object (fit.makes ∙ ap constructs (sym named_there.1) ∙ ap (λ (z : MethodId). constructs (method_at p z)) (sym (of_named m (ap called_method it))) ∙ subst (IsOfItsKind p) it kind) (normal_end none)
  normally none a it = absurd (subst IsCallRow it back.row)

  pub end_gives_object : IsObject (answered fr.locals.this t.action v (exception_class p h (thrown_in fr.locals q)))
  end_gives_object = by_end (exception_class p h (thrown_in fr.locals q)) refl
    where
      by_end : (e : Option ClassId) → exception_class p h (thrown_in fr.locals q) ≡ e → IsObject (answered fr.locals.this t.action v e)
      by_end None none = normally none t.action refl
      by_end (Some c) thrown = absurd (let to = back.thrown c thrown in (let never : edges.Go ≡ edges.Throws to.0 = sym given.1 ∙ to.2 in cc))
