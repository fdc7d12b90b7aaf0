-- The result of a method of the program that moves to the caller: the frame that ends owned it, or its end breaks a rule.
use Rattle.std.specs.Prelude.{not, if◌then◌else◌, is_some}
use Rattle.std.proofs.Common.{◌≡◌, ℕ, ◌+◌, ◌<◌, Bool, true, false, true≢false, ◌&&◌, Option, Some, None, List, length, slice_get, refl, sym, ap, ◌∙◌, subst, inl}
use Rattle.std.specs.FinSet as set
use Rattle.std.proofs.lemmas.Bool.{and_from, and_parts, or_right}
use Rattle.rlc_base.specs.declared.place.Pos.{Pos}
use Rattle.program_model.specs.declared.kinds.BodyId.{BodyId}
use Rattle.program_model.specs.declared.kinds.VType.{VType}
use Rattle.program_model.specs.declared.program.Method.{Method}
use Rattle.program_model.specs.declared.program.Program.{Program}
use Rattle.program_model.specs.Lookups.{method_at}
use Rattle.program_model.specs.Overrides.{is_library}
use Rattle.ledger_obligations.specs.Bodies.{alias_in, alias_position, method_in, method_of}
use Rattle.ledger_obligations.specs.MustCallSets.{fits_type, is_heavy_as, is_heavy_class, must_of, must_of_type}
use Rattle.java_control.specs.Calls.{completion_temp}
use Rattle.java_control.specs.Control.{Step}
use Rattle.control_actions.specs.declared.action.Action.{Action}
use Rattle.control_actions.specs.declared.action.Action.TheVariants as actions
use Rattle.control_actions.specs.declared.action.Completion.{Completion}
use Rattle.control_actions.specs.declared.action.Completion.TheVariants as completions
use Rattle.control_actions.specs.declared.action.Edge.{Edge}
use Rattle.control_actions.specs.declared.fact.Fact.{Fact}
use Rattle.control_actions.specs.declared.fact.Mode.{Mode}
use Rattle.control_actions.specs.declared.fact.Mode.TheVariants as modes
use Rattle.control_actions.specs.declared.fact.Origin.{Origin}
use Rattle.control_actions.specs.declared.fact.Rule.{Rule}
use Rattle.control_actions.specs.declared.fact.Rule.TheVariants as rules
use Rattle.control_actions.specs.declared.place.Place.TheVariants as places
use Rattle.ownership_rules.specs.Facts.{has, is_own}
use Rattle.ownership_rules.specs.Signatures.{is_present}
use Rattle.ownership_rules.specs.Heavy.{is_owned}
use Rattle.ownership_rules.specs.SmallActions.{IsSmallAction, IsSmallTemp}
use Rattle.ownership_rules.specs.MovesAtReturns.{heavy_result, kept_alias, moved_at_return, owned_result, owning_result_in, result_type}
use Rattle.ownership_rules.specs.MovesAtReturns as at_returns
use Rattle.ownership_rules.specs.declared.moved.Moved.{Moved}
use Rattle.ownership_rules.specs.declared.moved.Moved.TheVariants as moves
use Rattle.value_laws.specs.Ends.{after_return}
use Rattle.value_laws.specs.Flow.{flow}
use Rattle.value_laws.specs.Paths.{Reach, move_of, relation_of}
use Rattle.value_laws.specs.Accept.{Accept}
use Rattle.ledger_state.specs.Classes.{class_in, runtime_class}
use Rattle.ledger_state.specs.Contents.{HeapContents}
use Rattle.ledger_state.specs.Heaps.{object_at, root_of}
use Rattle.ledger_state.specs.Locals.{temp_value}
use Rattle.ledger_state.specs.Values.{number_of}
use Rattle.ledger_state.specs.declared.entry.Owner.TheVariants as owners
use Rattle.ledger_state.specs.declared.object.Object.{Object}
use Rattle.ledger_obligations.specs.Obligations.{is_library_owner}
use Rattle.ledger_steps.specs.LedgerCallsCalls as calls
use Rattle.ledger_steps.specs.Conducts as conducts
use Rattle.value_laws.specs.Configuration.{Frame}
use Rattle.value_laws.specs.Choosing.{body_id, frame_steps}
use Rattle.ledger_steps.specs.Ends.{exception_class, result_value, thrown_in}
use Rattle.value_laws.specs.ProgramCalls.{IsReturned}
use Rattle.value_laws.specs.Outcomes.{IsFault}
use Rattle.value_laws.specs.Agreement.{Stands}
use Rattle.value_laws.proofs.CallNames.{object_with_root}
use Rattle.value_laws.proofs.Chains.{object_there}
use Rattle.value_laws.specs.PlaceFacts.{Covers, IsCovered, IsKeyed, gives_none, is_owning_fact, OwesOrHolds, may_owe, owned, renews_none, unowned}
use Rattle.value_laws.specs.Ranges.{LocalsInRange}
use Rattle.covering_laws.proofs.Following.{breaks_nothing, same_body, step_there}
use Rattle.covering_laws.proofs.AliasResults.{default_no_root}
use Rattle.covering_laws.proofs.Bodies.{running_method}
use Rattle.covering_laws.proofs.HeavyFields.{unclaimed_not_owning}
use Rattle.covering_laws.proofs.GivenArguments.{heavy_by_fit}

-- ---- a result that breaks no rule

own_mode : (m : Mode) → is_own m ≡ true → m ≡ modes.Own
own_mode modes.Own is = refl
own_mode modes.None is = absurd (true≢false (sym is))
own_mode modes.Held is = absurd (true≢false (sym is))
own_mode modes.Lent is = absurd (true≢false (sym is))
own_mode modes.Alias is = absurd (true≢false (sym is))

-- the returned object is owned, and fits the result's type
pub result_is_owned : (p : Program) (b : BodyId) (o : Origin) (d : ℕ) (pos : Pos) (e : Edge) (f : Fact) (t : VType) → result_type p b ≡ Some t → alias_position p b ≡ None → owning_result_in (method_of p b) ≡ true
    → has f.places (places.Temp d) ≡ true → is_heavy_as p o.class (Some t) ≡ true → (IsFault (flow p b o (actions.End (completions.ReturnValue d pos)) e f) → ⊥)
    → (f.mode ≡ modes.Own) × (is_heavy_class p o.class ≡ true) × (fits_type p o.class (Some t) ≡ true)
result_is_owned p b o d pos e f t type alias owning there heavy fine = by (is_owned p o f) refl (fits_type p o.class (Some t)) refl
  where
    moved_is : moved_at_return p b o (actions.End (completions.ReturnValue d pos)) f ≡ owned_result p b o f
    moved_is =
        ap (λ (x : Bool). if x then heavy_result p b o f else moves.Stays) (and_from (has f.places (places.Temp d)) (is_heavy_as p o.class (result_type p b)) there (ap (is_heavy_as p o.class) type ∙ heavy))
        ∙ ap (λ (x : Bool). if x then kept_alias f else (if owning_result_in (method_of p b) then owned_result p b o f else moves.Stays)) (ap is_present alias)
        ∙ ap (λ (x : Bool). if x then owned_result p b o f else moves.Stays) owning

    no_bad : (rule : Rule) → owned_result p b o f ≡ moves.Bad rule → ⊥
    no_bad rule bad = fine (subst (λ (x : Moved). IsFault (after_return p b o (completions.ReturnValue d pos) f x)) (sym (moved_is ∙ bad)) tt)

    by : (x : Bool) → is_owned p o f ≡ x → (y : Bool) → fits_type p o.class (Some t) ≡ y → (f.mode ≡ modes.Own) × (is_heavy_class p o.class ≡ true) × (fits_type p o.class (Some t) ≡ true)
    by false none y fit = absurd (no_bad rules.NotOwned (ap (λ (x : Bool). if not x then moves.Bad rules.NotOwned else (if not (fits_type p o.class (result_type p b)) then moves.Bad rules.Narrow else moves.Moves)) none))
    by true own false fit = absurd (no_bad rules.Narrow (ap (λ (x : Bool). if not x then moves.Bad rules.NotOwned else (if not (fits_type p o.class (result_type p b)) then moves.Bad rules.Narrow else moves.Moves)) own
        ∙ ap (λ (x : Bool). if not x then moves.Bad rules.Narrow else moves.Moves) (ap (fits_type p o.class) type ∙ fit)))
    by true own true fit = let parts = and_parts (is_heavy_class p o.class) (is_own f.mode) own in (own_mode f.mode parts.1, parts.0, fit)

-- ---- the frame that ends

no_alias : (x : Option ℕ) → is_some x ≡ false → x ≡ None
no_alias None is = refl
no_alias (Some k) is = absurd (true≢false is)

module _ (p : Program) (ac : Accept p) (h : HeapContents) (fr : Frame) (old : ℕ → Bool) (frs : List Frame) (st : Stands p fr) (mine' : LocalsInRange h fr.locals) (covered : IsCovered p h gives_none renews_none old frs fr)
    (i : ℕ) (s : Step) (q : Completion) (here : slice_get (frame_steps p fr) i ≡ Some s) (is : s.action ≡ actions.End q) where
  -- the method that ran
  run : (x : Method) × (method_at p fr.method ≡ Some x) × (is_library p x.class ≡ false)
  run = running_method p ac fr st

  body_method : method_of p st.number ≡ Some run.0
  body_method = ap (method_in p) st.at ∙ ap (method_at p) st.method ∙ run.1

  module _ (n : ℕ) (x : Object) (before : object_at h n ≡ Some x) (heavy : is_heavy_class p x.class ≡ true) (owes : OwesOrHolds p h n x) (type : VType) (owning : run.0.sig.owning_result ≡ true) (plain : run.0.sig.alias ≡ None)
      (result : run.0.sig.result ≡ Some type) (fit : set.is_subset (must_of p x.class) (must_of_type p type) ≡ true) where
    -- the fact of the result says that the frame owns it
    module _ (d : ℕ) (pos : Pos) (end' : q ≡ completions.ReturnValue d pos) (root : root_of h (temp_value fr.locals d) ≡ Some n) where
      room : d < 64
      room = subst (λ (r : Completion). IsSmallTemp (completion_temp r)) end' (subst (IsSmallAction p) is ((ac.fits st.number).steps i (move_of s) st.control (step_there p fr st i s here)))

      is_owning : (c : Covers p h false false old frs fr n x) → has c.fact.places (places.Temp d) ≡ true → is_owning_fact p c.origin c.fact ≡ true
      is_owning c has' =
          let mine = result_is_owned p st.number c.origin d pos s.edge c.fact type (ap at_returns.result_in body_method ∙ result) (ap alias_in body_method ∙ plain) (ap owning_result_in body_method ∙ owning) has'
          (or_right (is_heavy_class p c.origin.class) _ (heavy_by_fit p x.class type heavy fit)) fine in
          and_from (is_heavy_class p c.origin.class) (is_own c.fact.mode) mine.1 (ap is_own mine.0)
        where
          reached : Reach p st.number (relation_of p st.number) c.origin fr.control c.fact
          reached = subst (λ (b : BodyId). Reach p b (relation_of p b) c.origin fr.control c.fact) (same_body c.body st.number (body_id p fr.method) c.id st.id) c.reached

          fine : IsFault (flow p st.number c.origin (actions.End (completions.ReturnValue d pos)) s.edge c.fact) → ⊥
          fine fault = breaks_nothing p ac st.number c.origin i (move_of s) c.fact reached (step_there p fr st i s here)
              (subst (λ (a : Action). IsFault (flow p st.number c.origin a s.edge c.fact)) (sym (is ∙ ap actions.End end')) fault)

      of_value : x.owner ≡ owners.Frame (length frs + 1)
      of_value = by (covered (places.Temp d) n x room refl root before heavy owes)
        where
          by : IsKeyed p h false false old frs fr (places.Temp d) n x → x.owner ≡ owners.Frame (length frs + 1)
          by (owned c has' own) = own.owner refl (and_parts (is_heavy_class p c.origin.class) (is_own c.fact.mode) (is_owning c has')).1
          by (unowned u) = absurd (true≢false (sym (is_owning u.covers u.here) ∙ unclaimed_not_owning p (method_at p fr.method) u.covers.origin u.covers.fact u.unowned))

    -- an object that is thrown has a class
    of_throw : (d : ℕ) → runtime_class p h (temp_value fr.locals d) ≡ None → root_of h (temp_value fr.locals d) ≡ Some n → ⊥
    of_throw d none root =
        let object = object_with_root h (temp_value fr.locals d) n root in
        let number = mine'.temps d object.0 (ap number_of object.1) in
        let there = object_there h object.0 x number.0 number.1 in
        let never : None ≡ Some there.0.class = sym none ∙ ap (runtime_class p h) object.1 ∙ ap class_in there.1 in
        cc

    of_completion : (r : Completion) → q ≡ r → exception_class p h (thrown_in fr.locals r) ≡ None → root_of h (result_value fr.locals (Some run.0) r) ≡ Some n → x.owner ≡ owners.Frame (length frs + 1)
    of_completion (completions.ReturnValue d pos) same none root = of_value d pos same root
    of_completion (completions.Return pos) same none root = absurd (default_no_root h _ n root)
    of_completion (completions.Throw d k pos) same none root = absurd (of_throw d none root)
    of_completion (completions.Break pos) same none root = absurd (let never : None ≡ Some n = root in cc)
    of_completion (completions.Continue pos) same none root = absurd (let never : None ≡ Some n = root in cc)

  pub returned_owner : (at n : ℕ) (x u : Object) → object_at h n ≡ Some x → is_heavy_class p x.class ≡ true → may_owe x ≡ true
      → IsReturned p at (method_at p fr.method) (result_value fr.locals (method_at p fr.method) q) (exception_class p h (thrown_in fr.locals q)) h n x u → x.owner ≡ owners.Frame (length frs + 1)
  returned_owner at n x u before heavy owes r =
      of_completion n x before heavy (inl owes) r.type (sym (ap conducts.owning_in run.1) ∙ r.owning) (no_alias run.0.sig.alias (sym (ap calls.is_alias run.1) ∙ r.own)) (sym (ap conducts.result_in run.1) ∙ r.result)
      (and_parts (x.finished && not (is_library_owner x.owner)) (set.is_subset (must_of p x.class) (must_of_type p r.type)) r.may).1 q refl r.normal
      (ap (λ (m : Option Method). root_of h (result_value fr.locals m q)) (sym run.1) ∙ r.root)
