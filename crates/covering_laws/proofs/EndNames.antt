-- The names that a caller's facts know when a call of the program has ended: the call's own, and what the method promises on parameters, on
-- `this` and on its owning fields, which its frame has shown at its end.
use Rattle.std.specs.Prelude.{if◌then◌else◌}
use Rattle.std.proofs.Common.{◌≡◌, inl, inr, ℕ, zero, suc, Bool, true, false, true≢false, Option, Some, None, List, [], ◌∷◌, slice_get, refl, sym, ap, ◌∙◌, subst, eq-eqb, IsSomeAnd, arith, eqb-true, length, lt-ltb, nat_lt, ◌||◌, ◌&&◌, ◌⊎◌, ◌<◌, ◌≤◌, ◌+◌, not}
use Rattle.std.specs.FinSet as set
use Rattle.std.proofs.lemmas.Bool.{and_parts, and_from, or_left, or_right}
use Rattle.std.proofs.lemmas.Option.{slice_get_within}
use Rattle.rlc_base.proofs.SetLaws.{empty_within, union_within, within_at, within_from, within_self, within_trans}
use Rattle.program_model.specs.declared.kinds.ClassId.{ClassId}
use Rattle.program_model.specs.declared.kinds.FieldId.{FieldId}
use Rattle.program_model.specs.declared.kinds.MethodId.{MethodId}
use Rattle.program_model.specs.declared.kinds.Target.{Target}
use Rattle.program_model.specs.declared.kinds.Target.TheVariants as promised
use Rattle.program_model.specs.declared.kinds.VType.{VType}
use Rattle.program_model.specs.declared.kinds.VType.TheVariants as types
use Rattle.program_model.specs.declared.program.Field.{Field}
use Rattle.program_model.specs.declared.program.Method.{Method}
use Rattle.program_model.specs.declared.program.Program.{Program}
use Rattle.program_model.specs.declared.program.Promise.{Promise}
use Rattle.program_model.specs.Lookups.{method_at}
use Rattle.program_model.specs.Overrides.{is_library, is_type}
use Rattle.program_model.specs.SuperTests.{is_class}
use Rattle.ledger_obligations.specs.Bodies.{constructs, has_field_place, is_field_in, method_in, method_of, promises_in, reset_in, throwing_promises_in}
use Rattle.ledger_obligations.specs.MustCallSets.{Names, is_heavy_class, is_empty, must_of, must_of_type}
use Rattle.ownership_rules.specs.Signatures.{is_at, is_position, promised_names, when}
use Rattle.java_control.specs.Calls.{called_method, is_receiver, is_reset_of_this, is_this_form, resets_receiver}
use Rattle.java_control.specs.Control.{Step}
use Rattle.java_control.specs.Owned.{field_number, place_of_field}
use Rattle.control_actions.specs.declared.action.Action.{Action}
use Rattle.control_actions.specs.declared.action.Action.TheVariants as actions
use Rattle.control_actions.specs.declared.action.Completion.{Completion}
use Rattle.control_actions.specs.declared.action.Edge.{Edge}
use Rattle.control_actions.specs.declared.action.Edge.TheVariants as edges
use Rattle.control_actions.specs.declared.action.TargetForm.TheVariants as forms
use Rattle.ownership_rules.specs.Callees.{callee, callee_in, is_this_target, may_be_null_target, holds_operand}
use Rattle.ownership_rules.specs.Facts.{PlaceSet, has, has_part, is_held, is_origin_at, is_own}
use Rattle.ownership_rules.specs.SmallActions.{IsSmallAction}
use Rattle.control_actions.specs.declared.place.Place.{Place}
use Rattle.value_laws.specs.CalledRows.{holds_field, holds_target, is_emptied, promises_at}
use Rattle.value_laws.specs.Accept.{Accept}
use Rattle.ledger_state.specs.Contents.{HeapContents}
use Rattle.ledger_state.specs.Fields.{field_of, field_value}
use Rattle.ledger_state.specs.Heaps.{object_at, root_of, same_root, unfinished}
use Rattle.ledger_state.specs.Values.{number_of}
use Rattle.ledger_state.specs.declared.object.Object.{Object}
use Rattle.ledger_state.specs.declared.value.Value.{Value}
use Rattle.ledger_state.specs.declared.value.Value.TheVariants as values
use Rattle.value_laws.specs.Places.{field_place_value, place_value}
use Rattle.ledger_steps.specs.LedgerCallsCalls.{form_of, operand_of}
use Rattle.value_laws.specs.Configuration.{Frame}
use Rattle.value_laws.specs.Choosing.{frame_steps, body_id}
use Rattle.value_laws.specs.Heaps.{GoesOn}
use Rattle.value_laws.proofs.NoteLists.{name_from_all, name_where}
use Rattle.value_laws.specs.Agreement.{Stands}
use Rattle.value_laws.specs.PlainForms.{HasPlainForms, IsPlainCall, KeepsPromises, IsKeptBy, MayRun, RunsFor, is_lent_parameter}
use Rattle.value_laws.specs.StepTargets.{FindsIt, this_operand}
use Rattle.value_laws.specs.Frames.{KeepsTargets, holds_this}
use Rattle.value_laws.proofs.TargetBegun.{finds}
use Rattle.value_laws.proofs.TargetLaws.{target_is_this}
use Rattle.value_laws.proofs.Chains.{object_there}
use Rattle.value_laws.proofs.Entries.{same_count}
use Rattle.value_laws.specs.Typed.{IsDeclaredElsewhere, NamesMembers}
use Rattle.value_laws.specs.FieldContents.{IsDispatched, is_chosen_by_class}
use Rattle.value_laws.specs.PlaceFacts.{Covers, IsAnswered, IsCovered, OwesOrHolds, Spares, asked_by, asked_of, gives_none, is_given, is_idle, is_lent, is_lent_place, is_settled, renews_none}
use Rattle.value_laws.specs.Renewing.{answers_for_fields, is_of_heavy_class, is_reread, lends_this, reopens}
use Rattle.value_laws.specs.Ranges.{LocalsInRange}
use Rattle.value_laws.proofs.FrameOperations.{all_at}
use Rattle.value_laws.proofs.RangeValues.{operand_in_range}
use Rattle.value_laws.specs.Naming.{IsOfItsKind}
use Rattle.value_laws.proofs.NamedReached.{names_what_is_there}
use Rattle.value_laws.specs.Flow.{flow}
use Rattle.value_laws.specs.Paths.{move_of, Reach, relation_of}
use Rattle.covering_laws.proofs.Following.{small_step, step_there, breaks_nothing, same_body}
use Rattle.covering_laws.proofs.HeavyFields.{HasPlace, asked_here, covered_at, has_place_here, held_tells, held_unlent, known_alone, lent_tells, value_here, lent_not_alone}
use Rattle.covering_laws.proofs.InFields.{field_part}
use Rattle.covering_laws.proofs.SaidFacts.{HoldsApart, answers_neither, ends_lend_nothing, lends_by_step, lent_is_said, no_lent_place, said_apart, said_by, said_why, settled_on}
use Rattle.covering_laws.proofs.Bodies.{running_method}
use Rattle.covering_laws.proofs.EntryBirths.{alike_parameter, same_mark}
use Rattle.covering_laws.proofs.KnownNames.{AreKept, all_kept, operand_holds}
use Rattle.covering_laws.proofs.LocalSteps.{names_members}
use Rattle.covering_laws.proofs.PromisedFields.{IsOwnField, promised_field}
use Rattle.covering_laws.proofs.ThisOperands.{first_value}
use Rattle.std.specs.List.{All, list_any}
use Rattle.program_model.specs.declared.kinds.BodyId.{BodyId}
use Rattle.control_actions.specs.declared.fact.Fact.{Fact}
use Rattle.value_laws.specs.Arguments.{HasArguments}
use Rattle.program_model.specs.Validity.{HasParameters, IsBodyOf, IsPromised, IsValidSig}
use Rattle.value_laws.specs.Outcomes.{IsCallRow, IsFault}
use Rattle.java_control.specs.PlaceNumbers.{IsSmall}
use Rattle.control_actions.specs.declared.fact.OriginKind.{OriginKind}
use Rattle.program_model.specs.declared.program.ParamSig.{ParamSig}
use Rattle.value_laws.proofs.SignedPromises.{Promises}
use Rattle.program_model.specs.declared.tree.Var.{Var}
use Rattle.value_laws.proofs.Ending.{held_stays_here}
use Rattle.value_laws.specs.FactGoing.{is_owned_in}
use Rattle.ledger_obligations.specs.Assigned.{is_spoken_of, is_spoken_variable}
use Rattle.value_laws.specs.Ends.{is_throw}
use Rattle.ownership_rules.specs.MovesAtCalls.{moved_at_call}
use Rattle.value_laws.proofs.CallNames.{object_with_root, operand_has_position}
use Rattle.ownership_rules.specs.Room.{variable_count, variables_in}
use Rattle.ledger_state.specs.Locals.{variable_value}
use Rattle.covering_laws.proofs.ParameterEnds.{AsksFor, return_asks, shown_on_field, shown_on_position, throw_asks, unowned_moves}
use Rattle.covering_laws.proofs.CoveredArguments.{argument_is_given, asked_before}
use Rattle.value_laws.proofs.FactOrigins.{parameters_own, this_own}
use Rattle.control_actions.specs.declared.fact.OriginKind.TheVariants as kinds
use Rattle.control_actions.specs.declared.fact.Mode.TheVariants as modes
use Rattle.control_actions.specs.declared.place.Place.TheVariants as places
use Rattle.ownership_rules.specs.declared.moved.Moved.TheVariants as moves

no_promise : (xs : List Promise) (j : ℕ) (q : Promise) → xs ≡ [] → slice_get xs j ≡ Some q → ⊥
no_promise [] zero q none is = let never : None ≡ Some q = is in cc
no_promise [] (suc j) q none is = let never : None ≡ Some q = is in cc
no_promise (x ∷ xs) j q none is = let never : ◌≡◌ {A = List Promise} (x ∷ xs) [] = none in cc

-- what a list has at a number below its length
pub element_there : {X : Type 0} (xs : List X) (k : ℕ) → k < length xs → (x : X) × (slice_get xs k ≡ Some x)
element_there [] k inside = absurd (omega (arith, inside))
element_there (x ∷ xs) zero inside = (x, refl)
element_there (x ∷ xs) (suc k) inside = element_there xs k (omega (arith, inside))

pub parameters_fit : (vars : List Var) (params : List ParamSig) → HasParameters vars params → length params ≤ length vars
parameters_fit vars [] fit = omega arith
parameters_fit [] (x ∷ params) fit = absurd fit
parameters_fit (v ∷ vars) (x ∷ params) fit = let rest = parameters_fit vars params fit.1 in omega (arith, rest)

pub zero_origin : (kind : OriginKind) → is_origin_at kind (Some 0) ≡ true → kind ≡ kinds.ThisRef
zero_origin (kinds.Param k) is = absurd (let same : k + 1 ≡ 0 = eqb-true (k + 1) 0 is in omega (arith, same))
zero_origin kinds.ThisRef is = refl
zero_origin kind is = absurd (true≢false (sym is))

pub parameter_origin : (v : ℕ) (kind : OriginKind) → is_origin_at kind (Some (v + 1)) ≡ true → kind ≡ kinds.Param v
parameter_origin v (kinds.Param k) is = ap kinds.Param (let same : k + 1 ≡ v + 1 = eqb-true (k + 1) (v + 1) is in omega (arith, same))
parameter_origin v kinds.ThisRef is = absurd (let same : 0 ≡ v + 1 = eqb-true 0 (v + 1) is in omega (arith, same))
parameter_origin v kind is = absurd (true≢false (sym is))

-- a parameter on which there is a promise is one that the signature speaks of
any_at : (v j : ℕ) (xs : List Promise) (u : Promise) → slice_get xs j ≡ Some u → u.target ≡ promised.At (v + 1) → list_any (λ (x : Promise). is_at x.target (v + 1)) xs ≡ true
any_at v j [] u at target = absurd (no_promise [] j u refl at)
any_at v zero (x ∷ xs) u at target =
    let same : x ≡ u = (let both : Some x ≡ Some u = at in (let one : x ≡ u = cc in one)) in
    or_left (is_at x.target (v + 1)) (list_any (λ (y : Promise). is_at y.target (v + 1)) xs)
    (ap (λ (y : Promise). is_at y.target (v + 1)) same ∙ ap (λ (y : Target). is_at y (v + 1)) target ∙ eq-eqb (v + 1) (v + 1) refl)
any_at v (suc j) (x ∷ xs) u at target = or_right (is_at x.target (v + 1)) (list_any (λ (y : Promise). is_at y.target (v + 1)) xs) (any_at v j xs u at target)

third : (a b c d : Bool) → c ≡ true → (a || b || c || d) ≡ true
third true b c d is = refl
third false true c d is = refl
third false false true d is = refl
third false false false d is = absurd (true≢false (sym is))

fourth : (a b c d : Bool) → d ≡ true → (a || b || c || d) ≡ true
fourth true b c d is = refl
fourth false true c d is = refl
fourth false false true d is = refl
fourth false false false d is = is

pub spoken : (n : Method) (v : ℕ) (u : Promise) → Promises n u → u.target ≡ promised.At (v + 1) → v < length n.sig.params.items → is_spoken_variable n v ≡ true
spoken n v u promises target inside = and_from (nat_lt v (length n.sig.params.items)) (is_spoken_of n.sig (v + 1)) (lt-ltb v (length n.sig.params.items) inside) (by promises.1)
  where
    by : (slice_get n.sig.promises.items promises.0 ≡ Some u) ⊎ (slice_get n.sig.on_throw.items promises.0 ≡ Some u) → is_spoken_of n.sig (v + 1) ≡ true
    by (inl at) = third (is_position n.sig.alias (v + 1)) (is_position n.sig.reset (v + 1)) (list_any (λ (x : Promise). is_at x.target (v + 1)) n.sig.promises.items)
        (list_any (λ (x : Promise). is_at x.target (v + 1)) n.sig.on_throw.items) (any_at v promises.0 n.sig.promises.items u at target)
    by (inr at) = fourth (is_position n.sig.alias (v + 1)) (is_position n.sig.reset (v + 1)) (list_any (λ (x : Promise). is_at x.target (v + 1)) n.sig.promises.items)
        (list_any (λ (x : Promise). is_at x.target (v + 1)) n.sig.on_throw.items) (any_at v promises.0 n.sig.on_throw.items u at target)

-- types that are the same have the same must-call set
same_set : (p : Program) (t u : VType) → is_type t u ≡ true → must_of_type p t ≡ must_of_type p u
same_set p (types.Obj c) (types.Obj d) is = ap (λ (n : ℕ). must_of p (record { 0 = n })) (eqb-true c.0 d.0 is)
same_set p (types.Obj c) (types.Primitive k) is = absurd (true≢false (sym is))
same_set p (types.Obj c) u is = absurd (true≢false (sym is))
same_set p (types.Primitive k) (types.Obj d) is = absurd (true≢false (sym is))
same_set p t (types.Obj d) is = absurd (true≢false (sym is))
same_set p (types.Primitive k) u is = refl
same_set p t u is = refl

-- A parameter of the method is one of the named one: owning where it is, with the same must-call set, and the named one asks for all the calls before that it
-- asks for.
abbrev pub HasAlike : Program → Method → Method → Type 0
HasAlike p r n = (v : ℕ) (param : ParamSig) → slice_get r.sig.params.items v ≡ Some param
    → (w : ParamSig) × (slice_get n.sig.params.items v ≡ Some w) × (param.owning ≡ true → w.owning ≡ true) × (must_of_type p param.vtype ≡ must_of_type p w.vtype) × (set.is_subset param.before w.before ≡ true)

-- as it is of the method itself
pub own_alike : (p : Program) (n : Method) → HasAlike p n n
own_alike p n v param at = (param, at, (λ owning. owning), refl, within_self param.before)

-- and of one that runs for the named one
pub run_alike : (p : Program) (n r : Method) → RunsFor p n r → HasAlike p r n
run_alike p n r fit v param at =
    let count = same_count r.sig.params.items n.sig.params.items fit.types in
    let inside = slice_get_within r.sig.params.items v param at in
    let w = element_there n.sig.params.items v (omega (arith, count, inside)) in
    let like = alike_parameter r.sig.params.items n.sig.params.items v w.0 fit.types fit.owning w.1 in
    let same : like.0 ≡ param = (let both : Some like.0 ≡ Some param = sym like.1 ∙ at in (let one : like.0 ≡ param = cc in one)) in (
      w.0,
      w.1,
      (λ owning. same_mark like.0.owning w.0.owning like.3 (ap (λ (u : ParamSig). u.owning) same ∙ owning)),
      ap (λ (u : ParamSig). must_of_type p u.vtype) (sym same) ∙ same_set p like.0.vtype w.0.vtype like.2,
      fit.asks v param w.0 at w.1,
    )

pub at_target : (w : Target) (v : ℕ) → is_at w v ≡ true → w ≡ promised.At v
at_target (promised.At k) v is = ap promised.At (eqb-true k v is)
at_target (promised.OfField f) v is = absurd (true≢false (sym is))

module _ (p : Program) (ac : Accept p) (forms' : HasPlainForms p) (h : HeapContents) (fr caller : Frame) (rest : List Frame) (st : Stands p fr) (below : Stands p caller) (targets : KeepsTargets p caller) (args : HasArguments p caller fr)
    (in' : LocalsInRange h caller.locals) (old older : ℕ → Bool) (covered : IsCovered p h gives_none renews_none old (caller ∷ rest) fr) (i : ℕ) (s : Step) (q : Completion) (here : slice_get (frame_steps p fr) i ≡ Some s) (is : s.action ≡ actions.End q)
    (j : ℕ) (t : Step) (there : slice_get (frame_steps p caller) j ≡ Some t) (row : IsCallRow t.action) (named : MethodId) (n : Method) (called : called_method t.action ≡ Some named) (named_at : method_at p named ≡ Some n)
    (call : IsPlainCall p named) (may : MayRun p named fr.method) (dispatched : IsDispatched p h fr caller)
    (returned : t.edge ≡ edges.Go → is_throw q ≡ false) (thrown : (d : ClassId) → t.edge ≡ edges.Throws d → is_throw q ≡ true) where
  -- the method that ran
  run : (x : Method) × (method_at p fr.method ≡ Some x) × (is_library p x.class ≡ false)
  run = running_method p ac fr st

  same_callee : callee p t.action ≡ Some n
  same_callee = ap (callee_in p) called ∙ named_at

  small : IsSmallAction p t.action
  small = small_step p ac caller below j t there

  -- The object of a fact of the caller, which says that it is owned, or is that of what is lent to the caller. All that was called on the object as the call ends, and
  -- all that the fact knows before, is among the names.
  module _ (o : ℕ) (x y : Object) (c : Covers p h (is_given p h caller o x.class) (is_reread p h caller o x.owner) older rest caller o x) (before : object_at h o ≡ Some x) (aged : old o ≡ true) (spared : Spares p h caller o) (answered : IsAnswered h o) (said : is_idle p rest caller c.fact ≡ false)
      (done : x.finished ≡ true) (goes : GoesOn x y)
      (heavy : is_heavy_class p x.class ≡ true) (owes : OwesOrHolds p h o x) (names : Names) (less : set.is_subset y.called names ≡ true) (knows : set.is_subset c.fact.called names ≡ true) where
    -- what the places of the fact hold, but for those of fields
    holds_apart : HoldsApart p h caller.method caller.locals o c.fact.places
    holds_apart = said_apart p h rest caller o c.fact c.places said

    -- a frame that ends lends nothing
    lends_nothing : (z : Place) → is_lent_place p fr z ≡ false
    lends_nothing = no_lent_place p fr (ends_lend_nothing p fr st i s q here is)

    -- what was called on it before is among them
    called_before : set.is_subset x.called names ≡ true
    called_before = within_trans x.called y.called names goes.called less

    -- ---- an owning field of `this` that the fact has: the named method ran

    module _ (runs : fr.method ≡ named) (f : FieldId) (own : IsOwnField p n f) (on_this : is_this_target t.action ≡ true) (place : has_field_place p below.number f ≡ true) (held : has c.fact.places (place_of_field p f) ≡ true) (full : is_emptied p t.action c.fact.places ≡ false) where
      method_here : method_of p st.number ≡ Some n
      method_here = ap (method_in p) st.at ∙ ap (method_at p) (st.method ∙ runs) ∙ named_at

      mine : HasPlace p caller f
      mine = has_place_here p ac caller below f place

      same_field : mine.field ≡ own.field
      same_field = let both : Some mine.field ≡ Some own.field = sym mine.at ∙ own.at in (let one : mine.field ≡ own.field = cc in one)

      same_class : n.class ≡ mine.method.class
      same_class = sym own.class ∙ sym (ap (λ (w : Field). w.class) same_field) ∙ mine.class

      -- the call does not create the obligation of `this` anew
      resets_not : is_reset_of_this p t.action ≡ false
      resets_not = go (is_reset_of_this p t.action) refl
        where
          go : (b : Bool) → is_reset_of_this p t.action ≡ b → is_reset_of_this p t.action ≡ false
          go false none = none
          go true resets = absurd (true≢false (sym (and_from (is_reset_of_this p t.action) (has_part c.fact.places) resets
              (field_part c.fact.places (field_number p f) mine.small held)) ∙ full))

      lends_not : lends_this p caller ≡ false
      lends_not = lends_by_step p caller below j t there resets_not

      root : root_of h (place_value p h caller.method caller.locals (place_of_field p f)) ≡ Some o
      root = c.places said (place_of_field p f) mine.small (no_lent_place p caller lends_not (place_of_field p f)) held

      -- `this` is an object
      this : (w : ℕ) × (caller.locals.this ≡ values.Object w)
      this = go caller.locals.this refl (ap (λ (v : Option FieldId). root_of h (field_place_value p h caller.locals.this v)) (sym mine.beside) ∙ root)
        where
          go : (v : Value) → caller.locals.this ≡ v → root_of h (field_of p h v f) ≡ Some o → (w : ℕ) × (caller.locals.this ≡ values.Object w)
          go (values.Object w) same root' = (w, same)
          go values.Nothing same root' = absurd (let never : None ≡ Some o = root' in cc)
          go v same root' = absurd (let never : None ≡ Some o = root' in cc)

      abbrev w : ℕ
      w = this.0

      held_root : root_of h (field_value p h w f) ≡ Some o
      held_root = ap (root_of h) (sym (value_here p h caller f mine w this.1)) ∙ root

      -- on the same object
      same_this : fr.locals.this ≡ values.Object w
      same_this = go t.action refl on_this
        where
          by_this : (m : MethodId) (d c' : ℕ) → t.action ≡ actions.Call m d c' forms.This → fr.locals.this ≡ values.Object w
          by_this m d c' same =
              let operand : operand_of caller.locals t.action 0 ≡ values.Object w = this_operand_is m d c' same in
              let number = operand_in_range h caller.locals in' t.action 0 w (ap number_of operand) in
              let class : ClassId = record { 0 = 0 } in
              let object = object_there h w (unfinished class) number.0 number.1 in
              (dispatched j t named n w object.0 there called named_at (ap (λ (b : Action). is_chosen_by_class (form_of b)) same) operand object.1).2
            where
              this_operand_is : (m : MethodId) (d c' : ℕ) → t.action ≡ actions.Call m d c' forms.This → operand_of caller.locals t.action 0 ≡ values.Object w
              this_operand_is m d c' same =
                  let found = target_is_this p ac caller targets j t d there (ap this_operand same) in
                  let few = (finds p ac caller targets j t there) in
                  ap (λ (b : Action). operand_of caller.locals b 0) same ∙ first_value caller.locals d c' (subst (λ (b : Action). FindsIt p targets.body b (holds_this caller.locals)) same few).2
                  (subst (IsSmallAction p) same (small_step p ac caller below j t there)).0 ∙ found.0 ∙ this.1

          go : (a : Action) → t.action ≡ a → is_this_target a ≡ true → fr.locals.this ≡ values.Object w
          go (actions.Call m d c' forms.This) same on = by_this m d c' same
          go (actions.Call m d c' forms.Super) same on =
              let m_is : m ≡ named = (let both : Some m ≡ Some named = ap called_method (sym same) ∙ called in (let one : m ≡ named = cc in one)) in
              let elsewhere : IsDeclaredElsewhere p below.body m = (subst (NamesMembers p below.body) same (names_members p ac forms' caller below j t there)).0 in
              absurd (elsewhere mine.method n (ap (method_at p) below.method ∙ mine.named) (ap (method_at p) m_is ∙ named_at) same_class)
          go (actions.Call m d c' forms.Static) same on = absurd (true≢false (sym on))
          go (actions.Call m d c' forms.Other) same on = absurd (true≢false (sym on))
          go actions.Skip same on = absurd (true≢false (sym on))
          go a same on = absurd (true≢false (sym on))

      place_here : has_field_place p st.number f ≡ true
      place_here = ap (is_field_in p st.number) own.at ∙ rw (own.owning, method_here) (ap (is_class own.field.class) (sym own.class) ∙ eq-eqb own.field.class.0 own.field.class.0 refl)

      its_place : HasPlace p fr f
      its_place = has_place_here p ac fr st f place_here

      found : (c : Covers p h false false old (caller ∷ rest) fr o x) × (has c.fact.places (place_of_field p f) ≡ true)
      found = covered_at p h false false old (caller ∷ rest) fr (place_of_field p f) o x
          (covered (place_of_field p f) o x its_place.small (lends_nothing (place_of_field p f)) (ap (root_of h) (value_here p h fr f its_place w same_this) ∙ held_root) before heavy owes)

      abbrev cover : Covers p h false false old (caller ∷ rest) fr o x
      cover = found.0

      -- a call on `this` is one of no constructor
      no_constructor : constructs (method_at p fr.method) ≡ false
      no_constructor = go t.action refl on_this
        where
          kind : IsOfItsKind p t.action
          kind = (names_what_is_there p ac.well_formed.valid.typed below.number below.body caller.control j (move_of t) below.at below.control (step_there p caller below j t there)).1

          go : (a : Action) → t.action ≡ a → is_this_target a ≡ true → constructs (method_at p fr.method) ≡ false
          go (actions.Call m d c' form) same on =
              let m_is : m ≡ named = (let both : Some m ≡ Some named = ap called_method (sym same) ∙ called in (let one : m ≡ named = cc in one)) in
              ap (λ (z : MethodId). constructs (method_at p z)) (runs ∙ sym m_is) ∙ subst (IsOfItsKind p) same kind
          go actions.Skip same on = absurd (true≢false (sym on))
          go a same on = absurd (true≢false (sym on))

      -- nor one of a method that creates the obligation of `this` anew
      reopens_not : reopens (method_at p fr.method) ≡ false
      reopens_not = go (reopens (method_at p fr.method)) refl
        where
          resets_so : (r : Option ℕ) → is_position r 0 ≡ true → is_receiver r ≡ true
          resets_so None is' = absurd (true≢false (sym is'))
          resets_so (Some k) is' = is'

          receiver : reopens (method_at p fr.method) ≡ true → resets_receiver (method_at p named) ≡ true
          receiver re = ap resets_receiver named_at ∙ resets_so n.sig.reset (ap (λ (m : Option Method). is_position (reset_in m) 0) (sym named_at ∙ ap (method_at p) (sym runs))
              ∙ (and_parts (not (constructs (method_at p fr.method))) (is_position (reset_in (method_at p fr.method)) 0) re).1)

          on : (a : Action) → t.action ≡ a → is_this_target a ≡ true → reopens (method_at p fr.method) ≡ true → is_reset_of_this p a ≡ true
          on (actions.Call m d c' form) same this' re =
              and_from (is_this_form form) (resets_receiver (method_at p m)) this'
              (ap (λ (z : MethodId). resets_receiver (method_at p z)) (let both : Some m ≡ Some named = ap called_method (sym same) ∙ called in (let one : m ≡ named = cc in one)) ∙ receiver re)
          on actions.Skip same this' re = absurd (true≢false (sym this'))
          on a same this' re = absurd (true≢false (sym this'))

          go : (b : Bool) → reopens (method_at p fr.method) ≡ b → reopens (method_at p fr.method) ≡ false
          go false none = none
          go true re = absurd (true≢false (sym (on t.action refl on_this re) ∙ resets_not))

      -- so the fact says that the field holds the object
      held_here : cover.fact.mode ≡ modes.Held
      held_here = cover.outside no_constructor reopens_not (field_number p f) its_place.small found.1

      answers_not : answers_for_fields (method_at p fr.method) ≡ false
      answers_not = answers_neither (method_at p fr.method) no_constructor reopens_not

      -- Nothing is stored into the fields of `this` while the frame runs, or its class has no obligation: it is the class of the caller's method, which keeps `this`.
      its_class : is_of_heavy_class p (method_at p fr.method) ≡ is_of_heavy_class p (method_at p caller.method)
      its_class = ap (is_of_heavy_class p) (ap (method_at p) runs ∙ named_at) ∙ ap (is_heavy_class p) same_class ∙ sym (ap (is_of_heavy_class p) mine.named)

      abbrev Keeps : Type 0
      Keeps = (constructs (method_at p caller.method) ≡ true) ⊎ ((reopens (method_at p caller.method) ≡ true) ⊎ (is_settled p caller rest ≡ true))

      settled_by : Keeps → is_settled p fr (caller ∷ rest) ≡ true
      settled_by keeps = settled_on p fr caller rest
          (ap (λ (v : Value). same_root (number_of v) (number_of caller.locals.this)) same_this ∙ ap (λ (v : Value). same_root (Some w) (number_of v)) this.1 ∙ eq-eqb w w refl) lends_not keeps

      said_here : is_idle p (caller ∷ rest) fr cover.fact ≡ false
      said_here = by (said_why p rest caller c.fact said)
        where
          settled : Keeps → is_idle p (caller ∷ rest) fr cover.fact ≡ false
          settled keeps = said_by p (caller ∷ rest) fr cover.fact (inr (inr (inr (inr (settled_by keeps)))))

          -- the fact has a place of a field: outside such bodies it says that the field holds the object
          unheld : is_held c.fact.mode ≡ false → (a b : Bool) → constructs (method_at p caller.method) ≡ a → reopens (method_at p caller.method) ≡ b → is_idle p (caller ∷ rest) fr cover.fact ≡ false
          unheld none true b makes re = settled (inl makes)
          unheld none false true plain re = settled (inr (inl re))
          unheld none false false plain other = absurd (true≢false (sym (ap is_held (c.outside plain other (field_number p f) mine.small held)) ∙ none))

          by : (is_held c.fact.mode ≡ false) ⊎ ((constructs (method_at p caller.method) ≡ true) ⊎ ((reopens (method_at p caller.method) ≡ true) ⊎ ((is_of_heavy_class p (method_at p caller.method) ≡ false) ⊎ (is_settled p caller rest ≡ true))))
              → is_idle p (caller ∷ rest) fr cover.fact ≡ false
          by (inl none) = unheld none (constructs (method_at p caller.method)) (reopens (method_at p caller.method)) refl refl
          by (inr (inl makes)) = settled (inl makes)
          by (inr (inr (inl re))) = settled (inr (inl re))
          by (inr (inr (inr (inl light)))) = said_by p (caller ∷ rest) fr cover.fact (inr (inr (inr (inl (its_class ∙ light)))))
          by (inr (inr (inr (inr keeps)))) = settled (inr (inr keeps))

      known_here : set.is_subset cover.fact.called x.called ≡ true
      known_here = known_alone p (method_at p fr.method) cover.origin.kind cover.fact.called x.called (held_unlent p h false false old (caller ∷ rest) fr o x cover held_here no_constructor)
          (cover.known done (held_tells p fr.method cover.origin cover.fact answers_not held_here) (aged, spared, answered, said_here) refl)

      by_end : (xs : List Promise) → AsksFor p st.number q xs → (k : ℕ) (u : Promise) → slice_get xs k ≡ Some u → u.target ≡ promised.OfField f → set.is_subset u.names names ≡ true
      by_end xs asks k u at target =
          within_trans u.names x.called names
          (shown_on_field p ac h fr st i s q here is old (caller ∷ rest) o x cover (λ moved. absurd (held_stays_here p st.number cover.origin q cover.fact held_here moved)) x.called known_here xs asks
          f k u at target (and_from (has_field_place p st.number f) (has cover.fact.places (place_of_field p f)) place_here found.1)) called_before

    -- ---- the operand at a position that the fact has: the method that ran has owning parameters where the named one does

    module _ (r : Method) (own_method : method_at p fr.method ≡ Some r) (alike : HasAlike p r n) (g : Fact) (more : moved_at_call p c.origin t.action t.edge c.fact ≡ moves.Moves → is_owned_in g.mode ≡ false)
        (trusted : (is_owned_in g.mode ≡ true) ⊎ (is_lent p (method_at p caller.method) c.origin.kind ≡ true)) (xs : List Promise) (asks : AsksFor p st.number q xs) (k : ℕ) (u : Promise) (at : slice_get xs k ≡ Some u)
        (promises : Promises r u) where
      operand : (v : ℕ) → holds_operand t.action c.fact.places v ≡ true → root_of h (operand_of caller.locals t.action v) ≡ Some o
      operand v holds = operand_holds p h caller.method caller.locals t.action o v c.fact.places small (operand_has_position p t.action c.fact.places v small holds) holds_apart holds

      -- the call breaks no rule
      fine : IsFault (flow p below.number c.origin t.action t.edge c.fact) → ⊥
      fine = breaks_nothing p ac below.number c.origin j (move_of t) c.fact (subst (λ (b : BodyId). Reach p b (relation_of p b) c.origin caller.control c.fact) (same_body c.body below.number (body_id p caller.method) c.id below.id) c.reached)
          (step_there p caller below j t there)

      -- what is lent shows its names, but for those that are asked for before
      of_lent : (place : Place) (v : ℕ) (e : OriginKind) → IsSmall place → root_of h (place_value p h fr.method fr.locals place) ≡ Some o → u.target ≡ promised.At v → is_lent p (Some r) e ≡ true → set.is_subset (asked_of p (Some r) e) names ≡ true
          → ((cover : Covers p h false false old (caller ∷ rest) fr o x) → has cover.fact.places place ≡ true → (is_origin_at cover.origin.kind (Some v) ≡ true) × (cover.origin.kind ≡ e)) → set.is_subset u.names names ≡ true
      of_lent place v e room root target lent asked its =
          let there' = covered_at p h false false old (caller ∷ rest) fr place o x (covered place o x room (lends_nothing place) root before heavy owes) in
          let cover : Covers p h false false old (caller ∷ rest) fr o x = there'.0 in
          let origin = its cover there'.1 in
          let lent' : is_lent p (method_at p fr.method) cover.origin.kind ≡ true = ap (is_lent p (method_at p fr.method)) origin.1 ∙ ap (λ (m : Option Method). is_lent p m e) own_method ∙ lent in
          let asks' : asked_of p (method_at p fr.method) cover.origin.kind ≡ asked_of p (Some r) e = ap (asked_of p (method_at p fr.method)) origin.1 ∙ ap (λ (m : Option Method). asked_of p m e) own_method in
          within_trans u.names (set.union (asked_of p (method_at p fr.method) cover.origin.kind) x.called) names
          (shown_on_position p ac h fr st i s q here is old (caller ∷ rest) o x cover (unowned_moves p st.number cover.origin cover.fact (cover.lent lent').0 q) (set.union (asked_of p (method_at p fr.method) cover.origin.kind) x.called)
          (cover.known done (lent_tells p fr.method cover.origin cover.fact (lent_not_alone p h false false old (caller ∷ rest) fr o x cover lent') lent') (aged, spared, answered, lent_is_said p (caller ∷ rest) fr cover.fact (cover.lent lent').1) refl) xs asks v k u at target origin.0)
          (union_within (asked_of p (method_at p fr.method) cover.origin.kind) x.called names (ap (λ (a : Names). set.is_subset a names) asks' ∙ asked) called_before)

      reached_here : (cover : Covers p h false false old (caller ∷ rest) fr o x) → Reach p st.number (relation_of p st.number) cover.origin fr.control cover.fact
      reached_here cover = subst (λ (b : BodyId). Reach p b (relation_of p b) cover.origin fr.control cover.fact) (same_body cover.body st.number (body_id p fr.method) cover.id st.id) cover.reached

      on_receiver : u.target ≡ promised.At 0 → holds_operand t.action c.fact.places 0 ≡ true → set.is_subset u.names names ≡ true
      on_receiver target holds =
          let w = object_with_root h (operand_of caller.locals t.action 0) o (operand 0 holds) in
          let this : fr.locals.this ≡ values.Object w.0 = args.receiver j t w.0 there w.1 in
          of_lent places.This 0 kinds.ThisRef tt (ap (root_of h) this ∙ ap Some w.2) target refl (empty_within names)
          (λ cover here'. (let own = this_own p ac st.number st.body st.at cover.origin fr.control cover.fact (reached_here cover) here' in (own, zero_origin cover.origin.kind own)))

      -- an owning parameter of a type that has an obligation takes the object, which the fact then does not keep
      never_owning : (v : ℕ) (param : ParamSig) → slice_get r.sig.params.items v ≡ Some param → param.owning ≡ true → not (is_empty (must_of_type p param.vtype)) ≡ true → holds_operand t.action c.fact.places (v + 1) ≡ true → ⊥
      never_owning v param param_at owning wide holds =
          let named' = alike v param param_at in
          let given = argument_is_given p below.number c.origin t.edge c.fact t.action row fine n v named'.0 same_callee named'.1 (named'.2 owning) holds
          (or_right (is_heavy_class p c.origin.class) (not (is_empty (must_of_type p named'.0.vtype))) (ap (λ (a : Names). not (is_empty a)) (sym named'.3) ∙ wide)) in
          elim trusted [
            | inl owned ↦ true≢false (sym owned ∙ more given.1)
            | inr lent ↦ true≢false (sym (and_from (is_heavy_class p c.origin.class) (is_own c.fact.mode) given.0.1 (ap is_own given.0.0)) ∙ (c.lent lent).0)
          ]

      on_parameter : (v : ℕ) → u.target ≡ promised.At (v + 1) → v < length r.sig.params.items → holds_operand t.action c.fact.places (v + 1) ≡ true → set.is_subset u.names names ≡ true
      on_parameter v target inside holds = by (element_there r.sig.params.items v inside)
        where
          parameter : is_spoken_variable r v ≡ true
          parameter = spoken r v u promises target inside

          root : root_of h (variable_value fr.locals v) ≡ Some o
          root = ap (root_of h) (args.parameters j t r v there own_method parameter) ∙ ap (λ (m : ℕ). root_of h (operand_of caller.locals t.action m)) (let same : suc v ≡ v + 1 = omega arith in same) ∙ operand (v + 1) holds

          room : v < 160
          room =
              let few = (ac.fits st.number).room.variables in
              let count : variable_count p st.number ≡ length st.body.vars.items = ap variables_in st.at in
              let more' = parameters_fit st.body.vars.items r.sig.params.items
              (subst (λ (m : Option Method). IsSomeAnd m (IsBodyOf st.number st.body)) (ap (method_at p) st.method ∙ own_method) (ac.well_formed.valid.typed.bodies st.number st.body st.at).method).1 in
              omega (arith, few, count, more', inside)

          -- what it asks for before the fact knows
          asked_there : (param : ParamSig) → slice_get r.sig.params.items v ≡ Some param → set.is_subset param.before names ≡ true
          asked_there param param_at =
              let named' = alike v param param_at in
              within_trans param.before named'.0.before names named'.4
              (within_trans named'.0.before c.fact.called names (asked_before p below.number c.origin t.edge c.fact t.action row fine n v named'.0 same_callee named'.1 holds) knows)

          of_param : (param : ParamSig) → slice_get r.sig.params.items v ≡ Some param → is_lent_parameter p (Some param) ≡ true → set.is_subset u.names names ≡ true
          of_param param param_at lent = of_lent (places.Var v) (v + 1) (kinds.Param v) room root target (ap (is_lent_parameter p) param_at ∙ lent)
              (ap (λ (a : Names). set.is_subset a names) (ap (asked_by p) param_at ∙ asked_here p param lent) ∙ asked_there param param_at)
              (λ cover here'. (let own = parameters_own p ac st.number st.body r v st.at (ap (method_at p) st.method ∙ own_method) parameter cover.origin fr.control cover.fact (reached_here cover) here' in
              (own, parameter_origin v cover.origin.kind own)))

          by : (param : ParamSig) × (slice_get r.sig.params.items v ≡ Some param) → set.is_subset u.names names ≡ true
          by (param, param_at) = lent_or_taken (param.owning && not (is_empty (must_of_type p param.vtype))) refl
            where
              lent_or_taken : (b : Bool) → (param.owning && not (is_empty (must_of_type p param.vtype))) ≡ b → set.is_subset u.names names ≡ true
              lent_or_taken false free = of_param param param_at (ap not free)
              lent_or_taken true takes =
                  let parts = and_parts param.owning (not (is_empty (must_of_type p param.vtype))) takes in
                  absurd (never_owning v param param_at parts.0 parts.1 holds)

      -- a position whose operand the fact has
      on_position : (v : ℕ) → u.target ≡ promised.At v → IsPromised p r.sig (promised.At v) → holds_operand t.action c.fact.places v ≡ true → set.is_subset u.names names ≡ true
      on_position zero target valid holds = on_receiver target holds
      on_position (suc v) target valid holds =
          let next : suc v ≡ v + 1 = omega arith in
          on_parameter v (target ∙ ap promised.At next) (omega (arith, valid)) (ap (holds_operand t.action c.fact.places) (sym next) ∙ holds)

  -- the method that ran is as the named signature says
  alike_here : HasAlike p run.0 n
  alike_here = run_alike p n run.0 (call.program fr.method n run.0 may named_at run.1 run.2)

  valid : IsValidSig p n.sig
  valid = (ac.well_formed.valid.typed.methods named n named_at).signature

  abbrev Kept : PlaceSet → Names → List Promise → Type 0
  Kept held names ps = AreKept p below.number t.action held names ps

  kept_as : (held : PlaceSet) (names : Names) (ps qs : List Promise) → qs ≡ ps → Kept held names ps → Kept held names qs
  kept_as held names ps qs same kept = subst (λ (us : List Promise). AreKept p below.number t.action held names us) (sym same) kept

  pub promises_kept : (o : ℕ) (x y : Object) (c : Covers p h (is_given p h caller o x.class) (is_reread p h caller o x.owner) older rest caller o x) → object_at h o ≡ Some x → (g : Fact) → (moved_at_call p c.origin t.action t.edge c.fact ≡ moves.Moves → is_owned_in g.mode ≡ false)
      → (is_owned_in g.mode ≡ true) ⊎ (is_lent p (method_at p caller.method) c.origin.kind ≡ true) → old o ≡ true → Spares p h caller o → IsAnswered h o → is_idle p rest caller c.fact ≡ false → is_emptied p t.action c.fact.places ≡ false → x.finished ≡ true → GoesOn x y → is_heavy_class p x.class ≡ true → OwesOrHolds p h o x
      → (names : Names) → set.is_subset y.called names ≡ true → set.is_subset c.fact.called names ≡ true → AreKept p below.number t.action c.fact.places names (promises_at p t.action t.edge)
  promises_kept o x y c before g more trusted aged spared answered said full done goes heavy owes names less knows = elim (call.keeps fr.method n run.0 may named_at run.1 run.2) [
    | inl keeps ↦ as_promised keeps t.edge refl
    | inr same ↦ itself same t.edge refl
  ]
    where
      -- all of a list that the end asks for, of the named method
      on_target : (same : fr.method ≡ named) (xs : List Promise) → AsksFor p st.number q xs → (k : ℕ) (u : Promise) → slice_get xs k ≡ Some u → Promises n u → (v : Target) → u.target ≡ v → IsPromised p n.sig v → holds_target p below.number t.action c.fact.places v ≡ true → set.is_subset u.names names ≡ true
      on_target same xs asks k u at promises (promised.At v) target valid' holds =
          on_position o x y c before aged spared answered said done goes heavy owes names less knows n (ap (method_at p) same ∙ named_at) (own_alike p n) g more trusted xs asks k u at promises v target valid' holds
      on_target same xs asks k u at promises (promised.OfField f) target valid' holds =
          let parts = and_parts (is_this_target t.action) (holds_field p below.number c.fact.places f) holds in
          let field = and_parts (has_field_place p below.number f) (has c.fact.places (place_of_field p f)) parts.1 in
          by_end o x y c before aged spared answered said done goes heavy owes names less knows same f (promised_field p ac named n u named_at promises f target) parts.0 field.0 field.1 full xs asks k u at target

      all_of_end : (same : fr.method ≡ named) (xs : List Promise) → AsksFor p st.number q xs → ((k : ℕ) (u : Promise) → slice_get xs k ≡ Some u → Promises n u) → All (λ (v : Promise). IsPromised p n.sig v.target) xs → Kept c.fact.places names xs
      all_of_end same xs asks promises valid' = all_kept p below.number t.action c.fact.places names xs (λ k u at holds.
          on_target same xs asks k u at (promises k u at) u.target refl
          (all_at (λ (v : Promise). IsPromised p n.sig v.target) xs k u valid' at) holds)

      -- and all that the method that ran promises as the named one does
      by_run : (ps ns : List Promise) → AsksFor p st.number q ps → ((k : ℕ) (u : Promise) → slice_get ps k ≡ Some u → Promises run.0 u) → All (λ (v : Promise). IsPromised p run.0.sig v.target) ps
          → All (λ (v : Promise). IsKeptBy ps v.target v.names) ns → Kept c.fact.places names ns
      by_run ps ns asks promises valid' keeps = all_kept p below.number t.action c.fact.places names ns (λ k u at holds. one u.target u.names (all_at (λ (v : Promise). IsKeptBy ps v.target v.names) ns k u keeps at) holds)
        where
          one : (v : Target) (asked : Names) → IsKeptBy ps v asked → holds_target p below.number t.action c.fact.places v ≡ true → set.is_subset asked names ≡ true
          one (promised.OfField f) asked kept holds = absurd kept
          one (promised.At v) asked kept holds = within_from asked names by_name
            where
              by_name : (a : ℕ) → set.contains asked a ≡ true → set.contains names a ≡ true
              by_name a has' =
                  let mine = name_from_all (λ (w : Promise). when (is_at w.target v) w.names) ps a (within_at asked (promised_names (λ w. is_at w v) ps) kept a has') in
                  let parts = name_where (is_at mine.0.target v) mine.0.names a mine.3 in
                  let target = at_target mine.0.target v parts.0 in
                  within_at mine.0.names names
                  (on_position o x y c before aged spared answered said done goes heavy owes names less knows run.0 run.1 alike_here g more trusted ps asks mine.1 mine.0 mine.2 (promises mine.1 mine.0 mine.2) v target
                  (subst (λ (w : Target). IsPromised p run.0.sig w) target (all_at (λ (w : Promise). IsPromised p run.0.sig w.target) ps mine.1 mine.0 valid' mine.2)) holds) a parts.1

      here_run : method_of p st.number ≡ Some run.0
      here_run = ap (method_in p) st.at ∙ ap (method_at p) st.method ∙ run.1

      valid_run : IsValidSig p run.0.sig
      valid_run = (ac.well_formed.valid.typed.methods fr.method run.0 run.1).signature

      as_promised : KeepsPromises n run.0 → (e : Edge) → t.edge ≡ e → Kept c.fact.places names (promises_at p t.action e)
      as_promised keeps edges.Go edge = kept_as c.fact.places names n.sig.promises.items (promises_in (callee p t.action)) (ap promises_in same_callee)
          (by_run run.0.sig.promises.items n.sig.promises.items (subst (λ (m : Option Method). AsksFor p st.number q (promises_in m)) here_run (return_asks p st.number q (returned edge))) (λ k u at. (k, inl at)) valid_run.promises keeps.returning)
      as_promised keeps edges.Null edge = tt
      as_promised keeps edges.NonNull edge = tt
      as_promised keeps edges.True edge = tt
      as_promised keeps edges.False edge = tt
      as_promised keeps (edges.Throws d) edge = by (may_be_null_target p t.action (edges.Throws d))
        where
          by : (b : Bool) → Kept c.fact.places names (if b then [] else throwing_promises_in (callee p t.action))
          by true = tt
          by false = kept_as c.fact.places names n.sig.on_throw.items (throwing_promises_in (callee p t.action)) (ap throwing_promises_in same_callee)
              (by_run run.0.sig.on_throw.items n.sig.on_throw.items (subst (λ (m : Option Method). AsksFor p st.number q (throwing_promises_in m)) here_run (throw_asks p st.number q (thrown d edge))) (λ k u at. (k, inr at))
              valid_run.on_throw keeps.throwing)

      here_is : fr.method ≡ named → method_of p st.number ≡ Some n
      here_is same = ap (method_in p) st.at ∙ ap (method_at p) (st.method ∙ same) ∙ named_at

      at_return : fr.method ≡ named → is_throw q ≡ false → Kept c.fact.places names n.sig.promises.items
      at_return same normal = all_of_end same n.sig.promises.items (subst (λ (m : Option Method). AsksFor p st.number q (promises_in m)) (here_is same) (return_asks p st.number q normal)) (λ k u at. (k, inl at)) valid.promises

      itself : fr.method ≡ named → (e : Edge) → t.edge ≡ e → Kept c.fact.places names (promises_at p t.action e)
      itself same edges.Go edge = kept_as c.fact.places names n.sig.promises.items (promises_in (callee p t.action)) (ap promises_in same_callee) (at_return same (returned edge))
      itself same edges.Null edge = tt
      itself same edges.NonNull edge = tt
      itself same edges.True edge = tt
      itself same edges.False edge = tt
      itself same (edges.Throws d) edge = by (may_be_null_target p t.action (edges.Throws d))
        where
          by : (b : Bool) → Kept c.fact.places names (if b then [] else throwing_promises_in (callee p t.action))
          by true = tt
          by false = kept_as c.fact.places names n.sig.on_throw.items (throwing_promises_in (callee p t.action)) (ap throwing_promises_in same_callee)
              (all_of_end same n.sig.on_throw.items (subst (λ (m : Option Method). AsksFor p st.number q (throwing_promises_in m)) (here_is same) (throw_asks p st.number q (thrown d edge))) (λ k u at. (k, inr at)) valid.on_throw)
