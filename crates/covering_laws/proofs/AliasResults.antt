-- As the frame of a method ends normally that has an aliased argument, its result is that argument, where this may owe a call: the rules on the
-- end of a body ask for it.
use Rattle.std.specs.Prelude.{if◌then◌else◌, not}
use Rattle.std.proofs.Common.{◌≡◌, ℕ, zero, suc, ◌+◌, ◌<◌, ◌≤◌, Bool, true, false, true≢false, ◌&&◌, Option, Some, None, List, ◌∷◌, length, slice_get, refl, sym, ap, ◌∙◌, subst, arith, IsSomeAnd, inl, inr}
use Rattle.std.proofs.lemmas.Bool.{and_from, or_right}
use Rattle.rlc_base.specs.declared.place.Pos.{Pos}
use Rattle.rlc_base.proofs.SetLaws.{within_self}
use Rattle.program_model.specs.declared.kinds.BodyId.{BodyId}
use Rattle.program_model.specs.declared.kinds.ClassId.{ClassId}
use Rattle.program_model.specs.declared.kinds.VType.{VType}
use Rattle.program_model.specs.declared.kinds.VType.TheVariants as types
use Rattle.program_model.specs.declared.program.Method.{Method}
use Rattle.program_model.specs.declared.program.Program.{Program}
use Rattle.program_model.specs.Lookups.{method_at}
use Rattle.program_model.specs.SuperTests.{is_class}
use Rattle.program_model.specs.Validity.{IfPosition, IsBodyOf, type_of_class}
use Rattle.ledger_obligations.specs.Assigned.{is_spoken_variable}
use Rattle.ledger_obligations.specs.Bodies.{alias_in, alias_position, constructs, is_constructor, is_constructor_kind, method_in, method_of}
use Rattle.ledger_obligations.specs.MustCallSets.{is_empty, is_heavy_as, is_heavy_class, must_of, must_of_optional, must_of_type, no_names}
use Rattle.ownership_rules.specs.Signatures.{is_present, type_at, type_in}
use Rattle.java_control.specs.Calls.{completion_temp}
use Rattle.java_control.specs.Control.{Step}
use Rattle.control_actions.specs.declared.action.Action.{Action}
use Rattle.control_actions.specs.declared.action.Action.TheVariants as actions
use Rattle.control_actions.specs.declared.action.Completion.{Completion}
use Rattle.control_actions.specs.declared.action.Completion.TheVariants as completions
use Rattle.control_actions.specs.declared.fact.Fact.{Fact}
use Rattle.control_actions.specs.declared.fact.Mode.{Mode}
use Rattle.control_actions.specs.declared.fact.Mode.TheVariants as modes
use Rattle.control_actions.specs.declared.fact.Origin.{Origin}
use Rattle.control_actions.specs.declared.fact.Outcome.TheVariants.{Fault}
use Rattle.control_actions.specs.declared.fact.Rule.TheVariants as rules
use Rattle.java_control.specs.PlaceNumbers.{IsSmall}
use Rattle.control_actions.specs.declared.place.Place.{Place}
use Rattle.control_actions.specs.declared.place.Place.TheVariants as places
use Rattle.ownership_rules.specs.Facts.{has, has_field, is_alias, is_origin_at, missing, owes, is_held}
use Rattle.ownership_rules.specs.SmallActions.{IsSmallAction, IsSmallTemp}
use Rattle.value_laws.specs.Promises.{broken_promise}
use Rattle.ownership_rules.specs.MovesAtReturns.{heavy_result, kept_alias, moved_at_return, owned_result, owning_result_in, result_type, returned}
use Rattle.ownership_rules.specs.MovesAtReturns as at_returns
use Rattle.ownership_rules.specs.Room.{variable_count, variables_in}
use Rattle.ownership_rules.specs.declared.moved.Moved.{Moved}
use Rattle.ownership_rules.specs.declared.moved.Moved.TheVariants as moves
use Rattle.value_laws.specs.Ends.{after_return, alias_never_returned, constructor_throws, exit_rule, is_throw, left_at_end, promise_at_end}
use Rattle.value_laws.specs.Flow.{flow}
use Rattle.value_laws.specs.Paths.{Reach, move_of, relation_of}
use Rattle.value_laws.specs.Accept.{Accept}
use Rattle.ledger_state.specs.Contents.{HeapContents}
use Rattle.ledger_state.specs.Heaps.{object_at, root_of}
use Rattle.ledger_state.specs.Locals.{temp_value, variable_value}
use Rattle.ledger_state.specs.declared.object.Object.{Object}
use Rattle.ledger_state.specs.declared.value.Value.TheVariants as values
use Rattle.ledger_steps.specs.LedgerCallsCalls.{operand_of}
use Rattle.value_laws.specs.Places.{place_value}
use Rattle.value_laws.specs.Configuration.{Frame}
use Rattle.value_laws.specs.Choosing.{body_id, frame_steps}
use Rattle.ledger_steps.specs.Ends.{default_result, result_value}
use Rattle.value_laws.specs.Agreement.{Stands}
use Rattle.value_laws.specs.Outcomes.{IsFault}
use Rattle.value_laws.specs.Arguments.{HasArguments, has_receiver}
use Rattle.value_laws.proofs.AliasFacts.{aliased_is_spoken, parameter_class, parameter_holds, this_class, this_holds}
use Rattle.value_laws.proofs.FactOrigins.{parameters_own, this_own}
use Rattle.value_laws.proofs.AliasConducts.{argument_has_names, gives_object}
use Rattle.value_laws.proofs.CallNames.{object_with_root}
use Rattle.value_laws.specs.PlaceFacts.{Covers, IsCovered, gives_none, OwesOrHolds, renews_none, is_idle, is_lent_place}
use Rattle.covering_laws.proofs.SaidFacts.{said_by}
use Rattle.covering_laws.proofs.HeavyFields.{covered_at}
use Rattle.covering_laws.proofs.Following.{breaks_nothing, same_body, step_there}
use Rattle.covering_laws.proofs.EndNames.{element_there, parameter_origin, parameters_fit, zero_origin}

-- a default value is no object
pub default_no_root : (h : HeapContents) (t : Option VType) (o : ℕ) → root_of h (default_result t) ≡ Some o → ⊥
default_no_root h None o is = cc
default_no_root h (Some (types.Primitive k)) o is = cc
default_no_root h (Some types.Str) o is = cc
default_no_root h (Some (types.Arr e)) o is = cc
default_no_root h (Some (types.Obj c)) o is = cc
default_no_root h (Some types.NullType) o is = cc

alias_mode : (m : Mode) → is_alias m ≡ true → m ≡ modes.Alias
alias_mode modes.Own is = absurd (true≢false (sym is))
alias_mode modes.None is = absurd (true≢false (sym is))
alias_mode modes.Held is = absurd (true≢false (sym is))
alias_mode modes.Lent is = absurd (true≢false (sym is))
alias_mode modes.Alias is = refl

-- a type with an obligation is that of a class with one
heavy_by_type : (p : Program) (t : Option VType) (c : ClassId) → t ≡ Some (types.Obj c) → is_empty (must_of_optional p t) ≡ false → is_heavy_class p c ≡ true
heavy_by_type p t c is some = ap not (ap (λ (u : Option VType). is_empty (must_of_optional p u)) (sym is) ∙ some)

-- and the type of a class's objects is such, where it has one
heavy_by_class : (p : Program) (c : ClassId) (t : VType) → t ≡ type_of_class p c → is_empty (must_of_type p t) ≡ false → is_heavy_class p c ≡ true
heavy_by_class p c t is some = go (is_class c p.core.string) is
  where
    go : (b : Bool) → t ≡ (if b then types.Str else types.Obj c) → is_heavy_class p c ≡ true
    go true text = absurd (true≢false (sym (within_self no_names) ∙ ap (λ (u : VType). is_empty (must_of_type p u)) (sym text) ∙ some))
    go false object = ap not (ap (λ (u : VType). is_empty (must_of_type p u)) (sym object) ∙ some)

-- ---- the end of a body

-- a fact that moves as the result is in the result's temp
moved_there : (p : Program) (b : BodyId) (o : Origin) (d : ℕ) (f : Fact) → returned p b o d f ≡ moves.Moves → has f.places (places.Temp d) ≡ true
moved_there p b o d f moved = go (has f.places (places.Temp d)) (is_heavy_as p o.class (result_type p b)) refl moved
  where
    go : (x y : Bool) → has f.places (places.Temp d) ≡ x → (if x && y then heavy_result p b o f else moves.Stays) ≡ moves.Moves → has f.places (places.Temp d) ≡ true
    go true y is same = is
    go false y is same = absurd (let never : moves.Stays ≡ moves.Moves = same in cc)

-- what is in the result's temp, and of an obligation by its class or the result's type, moves as an alias
kept_there : (p : Program) (b : BodyId) (o : Origin) (d : ℕ) (f : Fact) (k : ℕ) → alias_position p b ≡ Some k → has f.places (places.Temp d) ≡ true → is_heavy_as p o.class (result_type p b) ≡ true
    → returned p b o d f ≡ kept_alias f
kept_there p b o d f k alias there heavy =
    ap (λ (x : Bool). if x then heavy_result p b o f else moves.Stays) (and_from (has f.places (places.Temp d)) (is_heavy_as p o.class (result_type p b)) there heavy)
    ∙ ap (λ (x : Bool). if x then kept_alias f else (if owning_result_in (method_of p b) then owned_result p b o f else moves.Stays)) (ap is_present alias)

-- an end without the aliased argument breaks a rule
left_breaks : (p : Program) (b : BodyId) (o : Origin) (c : Completion) (f : Fact) → alias_never_returned p b o c f ≡ true → IsFault (left_at_end p b o c f)
left_breaks p b o c f never = go (alias_never_returned p b o c f) never
  where
    go : (z : Bool) → z ≡ true → IsFault (if z then Fault rules.AliasKept (must_of p o.class) else (if owes o f then Fault (exit_rule c) (missing o f)
        else (if constructor_throws p b o c f then Fault rules.CtorThrow (missing o f) else promise_at_end (broken_promise p b o (actions.End c) f))))
    go true is = tt
    go false is = absurd (true≢false (sym is))

-- ---- the end of a frame

module _ (p : Program) (ac : Accept p) (h : HeapContents) (fr caller : Frame) (old : ℕ → Bool) (rest : List Frame) (st : Stands p fr) (args : HasArguments p caller fr) (covered : IsCovered p h gives_none renews_none old (caller ∷ rest) fr) (i : ℕ) (s : Step) (q : Completion)
    (here : slice_get (frame_steps p fr) i ≡ Some s) (is : s.action ≡ actions.End q) (normal : is_throw q ≡ false) (x : Method) (runs : method_at p fr.method ≡ Some x) (k : ℕ) (alias : x.sig.alias ≡ Some k)
    (plain : is_constructor_kind x.kind ≡ false) (j : ℕ) (t : Step) (there : slice_get (frame_steps p caller) j ≡ Some t) (o : ℕ) (y : Object) (at : object_at h o ≡ Some y) (heavy : is_heavy_class p y.class ≡ true)
    (owes' : OwesOrHolds p h o y) where
  body_method : method_of p st.number ≡ Some x
  body_method = ap (method_in p) st.at ∙ ap (method_at p) st.method ∙ runs

  in_body : method_at p st.body.method ≡ Some x
  in_body = ap (method_at p) st.method ∙ runs

  position : alias_position p st.number ≡ Some k
  position = ap alias_in body_method ∙ alias

  no_constructor : is_constructor p st.number ≡ false
  no_constructor = ap constructs body_method ∙ plain

  some_names : is_empty (must_of_optional p (type_at x.sig k)) ≡ false
  some_names = argument_has_names p ac.well_formed fr.method x runs k alias

  -- the fact of a place
  cover : (place : Place) → IsSmall place → is_lent_place p fr place ≡ false → root_of h (place_value p h fr.method fr.locals place) ≡ Some o → (c : Covers p h false false old (caller ∷ rest) fr o y) × (has c.fact.places place ≡ true)
  cover place small kept root = covered_at p h false false old (caller ∷ rest) fr place o y (covered place o y small kept root at heavy owes')

  module _ (c : Covers p h false false old (caller ∷ rest) fr o y) where
    reached : Reach p st.number (relation_of p st.number) c.origin fr.control c.fact
    reached = subst (λ (b : BodyId). Reach p b (relation_of p b) c.origin fr.control c.fact) (same_body c.body st.number (body_id p fr.method) c.id st.id) c.reached

    fine : IsFault (flow p st.number c.origin (actions.End q) s.edge c.fact) → ⊥
    fine fault = breaks_nothing p ac st.number c.origin i (move_of s) c.fact reached (step_there p fr st i s here) (subst (λ (a : Action). IsFault (flow p st.number c.origin a s.edge c.fact)) (sym is) fault)

    -- what becomes of the fact at the end
    ended_as : (m : Moved) → moved_at_return p st.number c.origin (actions.End q) c.fact ≡ m → IsFault (after_return p st.number c.origin q c.fact m) → ⊥
    ended_as m moved fault = fine (subst (λ (u : Moved). IsFault (after_return p st.number c.origin q c.fact u)) (sym moved) fault)

  -- of such a fact something is said
  said : (c : Covers p h false false old (caller ∷ rest) fr o y) → c.fact.mode ≡ modes.Alias → is_idle p (caller ∷ rest) fr c.fact ≡ false
  said c mode = said_by p (caller ∷ rest) fr c.fact (inl (ap is_held mode))

  -- the temp of the result is a place of the frame
  room : (d : ℕ) (pos : Pos) → q ≡ completions.ReturnValue d pos → d < 64
  room d pos end' = subst (λ (r : Completion). IsSmallTemp (completion_temp r)) end' (subst (IsSmallAction p) is ((ac.fits st.number).steps i (move_of s) st.control (step_there p fr st i s here)))

  -- a fact in the result's temp is in mode Alias
  is_aliased : (d : ℕ) (pos : Pos) → q ≡ completions.ReturnValue d pos → (c : Covers p h false false old (caller ∷ rest) fr o y) → has c.fact.places (places.Temp d) ≡ true → c.fact.mode ≡ modes.Alias
  is_aliased d pos end' c in' = alias_mode c.fact.mode (by (is_alias c.fact.mode) refl)
    where
      result_heavy : is_heavy_as p c.origin.class (result_type p st.number) ≡ true
      result_heavy = elim (gives_object p ac.well_formed fr.method x runs k alias) [
        | inl made ↦ absurd (true≢false (sym made.0 ∙ plain))
        | inr gives ↦ or_right (is_heavy_class p c.origin.class) (not (is_empty (must_of_optional p (result_type p st.number))))
            (ap (λ (u : Option VType). not (is_empty (must_of_optional p u))) (ap at_returns.result_in body_method ∙ gives.1.1) ∙ gives.1.2)
      ]

      kept : moved_at_return p st.number c.origin (actions.End q) c.fact ≡ kept_alias c.fact
      kept = ap (λ (r : Completion). moved_at_return p st.number c.origin (actions.End r) c.fact) end' ∙ kept_there p st.number c.origin d c.fact k position in' result_heavy

      by : (b : Bool) → is_alias c.fact.mode ≡ b → is_alias c.fact.mode ≡ true
      by true one = one
      by false none = absurd (ended_as c (moves.Bad rules.AliasKept) (kept ∙ ap (λ (b : Bool). if b then moves.Moves else moves.Bad rules.AliasKept) none) tt)

  -- ---- the argument is the result

  -- a fact of the argument moves as the result
  moves_as_result : (c : Covers p h false false old (caller ∷ rest) fr o y) → is_origin_at c.origin.kind (Some k) ≡ true → is_heavy_class p c.origin.class ≡ true → root_of h (result_value fr.locals (Some x) q) ≡ Some o
  moves_as_result c origin class = by (moved_at_return p st.number c.origin (actions.End q) c.fact) refl
    where
      never : alias_never_returned p st.number c.origin q c.fact ≡ true
      never =
          and_from (not (is_throw q) && is_origin_at c.origin.kind (alias_position p st.number) && is_heavy_class p c.origin.class) (not (is_constructor p st.number && has_field c.fact.places))
          (and_from (not (is_throw q) && is_origin_at c.origin.kind (alias_position p st.number)) (is_heavy_class p c.origin.class)
          (and_from (not (is_throw q)) (is_origin_at c.origin.kind (alias_position p st.number)) (ap not normal) (ap (is_origin_at c.origin.kind) position ∙ origin)) class)
          (ap (λ (z : Bool). not (z && has_field c.fact.places)) no_constructor)

      moves_there : (r : Completion) → q ≡ r → moved_at_return p st.number c.origin (actions.End r) c.fact ≡ moves.Moves → root_of h (result_value fr.locals (Some x) r) ≡ Some o
      moves_there (completions.Break pos) end' moved = absurd (let never' : moves.Stays ≡ moves.Moves = moved in cc)
      moves_there (completions.ReturnValue d pos) end' moved =
          let in' = moved_there p st.number c.origin d c.fact moved in
          c.places (said c (is_aliased d pos end' c in')) (places.Temp d) (room d pos end') refl in'
      moves_there (completions.Continue pos) end' moved = absurd (let never' : moves.Stays ≡ moves.Moves = moved in cc)
      moves_there (completions.Return pos) end' moved = absurd (let never' : moves.Stays ≡ moves.Moves = moved in cc)
      moves_there (completions.Throw d e pos) end' moved = absurd (let never' : moves.Stays ≡ moves.Moves = moved in cc)

      by : (m : Moved) → moved_at_return p st.number c.origin (actions.End q) c.fact ≡ m → root_of h (result_value fr.locals (Some x) q) ≡ Some o
      by moves.Stays moved = absurd (ended_as c moves.Stays moved (left_breaks p st.number c.origin q c.fact never))
      by moves.Moves moved = moves_there q refl moved
      by (moves.Bad rule) moved = absurd (ended_as c (moves.Bad rule) moved tt)

  of_this : k ≡ 0 → root_of h (operand_of caller.locals t.action 0) ≡ Some o → root_of h (result_value fr.locals (Some x) q) ≡ Some o
  of_this zero' root =
      let w = object_with_root h (operand_of caller.locals t.action 0) o root in
      let this : fr.locals.this ≡ values.Object w.0 = args.receiver j t w.0 there w.1 in
      let found = cover places.This tt refl (ap (root_of h) this ∙ ap Some w.2) in
      let c : Covers p h false false old (caller ∷ rest) fr o y = found.0 in
      let own = this_own p ac st.number st.body st.at c.origin fr.control c.fact (reached c) found.1 in
      moves_as_result c (ap (λ (n : ℕ). is_origin_at c.origin.kind (Some n)) zero' ∙ own)
      (ap (is_heavy_class p) (this_class p ac st.number st.body x st.at in_body c.origin fr.control c.fact (reached c) (zero_origin c.origin.kind own))
      ∙ heavy_by_class p x.class x.sig.receiver.vtype (ac.well_formed.valid.typed.methods fr.method x runs).receiver (subst (λ (n : ℕ). is_empty (must_of_optional p (type_at x.sig n)) ≡ false) zero' some_names))

  module _ (v : ℕ) (next : k ≡ suc v) where
    inside : suc v ≤ length x.sig.params.items
    inside = subst (λ (a : Option ℕ). IfPosition x.sig a) (alias ∙ ap Some next) (ac.well_formed.valid.typed.methods fr.method x runs).signature.alias

    spoken : is_spoken_variable x v ≡ true
    spoken = aliased_is_spoken x v (alias ∙ ap Some next) inside

    variable_small : v < 160
    variable_small =
        let few = (ac.fits st.number).room.variables in
        let count : variable_count p st.number ≡ length st.body.vars.items = ap variables_in st.at in
        let more = parameters_fit st.body.vars.items x.sig.params.items (subst (λ (m : Option Method). IsSomeAnd m (IsBodyOf st.number st.body)) in_body (ac.well_formed.valid.typed.bodies st.number st.body st.at).method).1 in
        omega (arith, few, count, more, inside)

    given : variable_value fr.locals v ≡ operand_of caller.locals t.action (suc v)
    given = args.parameters j t x v there runs spoken

    of_parameter : root_of h (operand_of caller.locals t.action (suc v)) ≡ Some o → root_of h (result_value fr.locals (Some x) q) ≡ Some o
    of_parameter root =
        let found = cover (places.Var v) variable_small refl (ap (root_of h) given ∙ root) in
        let c : Covers p h false false old (caller ∷ rest) fr o y = found.0 in
        let own = parameters_own p ac st.number st.body x v st.at in_body spoken c.origin fr.control c.fact (reached c) found.1 in
        let param = element_there x.sig.params.items v (omega (arith, inside)) in
        let class : param.0.vtype ≡ types.Obj c.origin.class =
        parameter_class p ac st.number st.body x v param.0 st.at in_body param.1 c.origin fr.control c.fact (reached c) (parameter_origin v c.origin.kind own) in
        moves_as_result c (ap (λ (n : ℕ). is_origin_at c.origin.kind (Some n)) (next ∙ (let same : suc v ≡ v + 1 = omega arith in same)) ∙ own)
        (heavy_by_type p (type_at x.sig k) c.origin.class (ap (type_at x.sig) next ∙ ap type_in param.1 ∙ ap Some class) some_names)

  -- the result of the call is the aliased argument
  pub argument_is_result : root_of h (operand_of caller.locals t.action k) ≡ Some o → root_of h (result_value fr.locals (Some x) q) ≡ Some o
  argument_is_result root = by k refl
    where
      by : (n : ℕ) → k ≡ n → root_of h (result_value fr.locals (Some x) q) ≡ Some o
      by zero same = of_this same (ap (λ (m : ℕ). root_of h (operand_of caller.locals t.action m)) (sym same) ∙ root)
      by (suc v) same = of_parameter v same (ap (λ (m : ℕ). root_of h (operand_of caller.locals t.action m)) (sym same) ∙ root)

  -- ---- the result is the argument

  from_result : has_receiver t.action ≡ true → (d : ℕ) (pos : Pos) → q ≡ completions.ReturnValue d pos → root_of h (temp_value fr.locals d) ≡ Some o → root_of h (operand_of caller.locals t.action k) ≡ Some o
  from_result receives d pos end' root = by k refl
    where
      found : (c : Covers p h false false old (caller ∷ rest) fr o y) × (has c.fact.places (places.Temp d) ≡ true)
      found = cover (places.Temp d) (room d pos end') refl root

      mode : found.0.fact.mode ≡ modes.Alias
      mode = is_aliased d pos end' found.0 found.1

      by : (n : ℕ) → k ≡ n → root_of h (operand_of caller.locals t.action k) ≡ Some o
      by zero same =
          ap (λ (m : ℕ). root_of h (operand_of caller.locals t.action m)) same ∙ ap (root_of h) (sym (args.target j t there receives))
          ∙ found.0.places (said found.0 mode) places.This tt refl (this_holds p ac st.number st.body x st.at in_body (alias ∙ ap Some same) found.0.origin fr.control found.0.fact (reached found.0) mode)
      by (suc v) same =
          ap (λ (m : ℕ). root_of h (operand_of caller.locals t.action m)) same ∙ ap (root_of h) (sym (given v same))
          ∙ found.0.places (said found.0 mode) (places.Var v) (variable_small v same) refl
          (parameter_holds p ac st.number st.body x v st.at in_body (alias ∙ ap Some same) found.0.origin fr.control found.0.fact (reached found.0) mode)

  -- the aliased argument is the result of the call
  pub result_is_argument : has_receiver t.action ≡ true → root_of h (result_value fr.locals (Some x) q) ≡ Some o → root_of h (operand_of caller.locals t.action k) ≡ Some o
  result_is_argument receives root = by q refl root
    where
      by : (r : Completion) → q ≡ r → root_of h (result_value fr.locals (Some x) r) ≡ Some o → root_of h (operand_of caller.locals t.action k) ≡ Some o
      by (completions.Break pos) end' found = absurd (let never : None ≡ Some o = found in cc)
      by (completions.ReturnValue d pos) end' found = from_result receives d pos end' found
      by (completions.Continue pos) end' found = absurd (let never : None ≡ Some o = found in cc)
      by (completions.Return pos) end' found = absurd (default_no_root h _ o found)
      by (completions.Throw d e pos) end' found = absurd (true≢false (ap is_throw (sym end') ∙ normal))
