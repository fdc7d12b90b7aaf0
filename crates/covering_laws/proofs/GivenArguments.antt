-- What an owning parameter of a type with an obligation is given is as the fact of its birth says.
use Rattle.std.proofs.Common.{◌≡◌, ◌⊎◌, inl, inr, ℕ, zero, suc, ◌+◌, ◌<◌, Bool, true, false, not, ◌&&◌, true≢false, Option, Some, None, List, [], length, slice_get, refl, sym, ap, ◌∙◌, subst, arith}
use Rattle.std.specs.FinSet as set
use Rattle.std.proofs.lemmas.Bool.{and_from, and_parts, not-true, or_right}
use Rattle.rlc_base.specs.declared.place.Pos.{Pos}
use Rattle.rlc_base.proofs.SetLaws.{empty_within, within_self, within_trans}
use Rattle.program_model.specs.declared.kinds.BodyId.{BodyId}
use Rattle.program_model.specs.declared.kinds.ClassId.{ClassId}
use Rattle.program_model.specs.declared.kinds.VType.{VType}
use Rattle.program_model.specs.declared.kinds.VType.TheVariants as types
use Rattle.program_model.specs.declared.program.Method.{Method}
use Rattle.program_model.specs.declared.program.ParamSig.{ParamSig}
use Rattle.program_model.specs.declared.program.Program.{Program}
use Rattle.program_model.specs.Lookups.{method_at}
use Rattle.ledger_obligations.specs.MustCallSets.{Names, fits_type, is_empty, is_heavy_as, is_heavy_class, must_of, must_of_optional, must_of_type, no_names}
use Rattle.java_control.specs.Control.{Step}
use Rattle.control_actions.specs.declared.fact.Fact.{Fact}
use Rattle.control_actions.specs.declared.fact.Mode.{Mode}
use Rattle.control_actions.specs.declared.fact.Mode.TheVariants as modes
use Rattle.value_laws.specs.Renewing.{lends_this}
use Rattle.control_actions.specs.declared.fact.Origin.{Origin}
use Rattle.control_actions.specs.declared.fact.OriginKind.{OriginKind}
use Rattle.control_actions.specs.declared.fact.OriginKind.TheVariants as kinds
use Rattle.control_actions.specs.declared.place.Place.{Place}
use Rattle.control_actions.specs.declared.place.Place.TheVariants as places
use Rattle.ownership_rules.specs.Callees.{callee, holds_operand}
use Rattle.java_control.specs.Calls.{operand_at}
use Rattle.java_control.specs.PlaceNumbers.{IsSmall}
use Rattle.ownership_rules.specs.Facts.{has, has_temp, is_own, is_held}
use Rattle.ownership_rules.specs.SmallActions.{IsSmallTemp}
use Rattle.ownership_rules.proofs.SmallOperands.{operand_has_room}
use Rattle.ownership_rules.specs.Births.{fact_at, origin_of}
use Rattle.value_laws.specs.Paths.{Reach, move_of, relation_of}
use Rattle.value_laws.specs.Accept.{Accept}
use Rattle.ledger_state.specs.Contents.{HeapContents}
use Rattle.ledger_state.specs.declared.entry.Owner.{Owner}
use Rattle.ledger_state.specs.Heaps.{object_at, root_of}
use Rattle.ledger_state.specs.declared.object.Object.{Object}
use Rattle.ledger_state.specs.Locals.{temp_value}
use Rattle.ledger_state.specs.declared.entry.Owner.TheVariants as owners
use Rattle.ledger_obligations.specs.Obligations.{is_library_owner, may_move}
use Rattle.ledger_steps.specs.LedgerCallsCalls.{operand_of, params_in}
use Rattle.value_laws.specs.Configuration.{Frame}
use Rattle.value_laws.specs.Choosing.{body_id, frame_steps}
use Rattle.value_laws.specs.Heaps.{GoesOn, IsGiven}
use Rattle.value_laws.specs.Agreement.{Stands}
use Rattle.value_laws.specs.Outcomes.{IsCallRow}
use Rattle.value_laws.specs.PlaceFacts.{Covers, IsCovered, IsKeyed, IsOwned, IsTrueOf, IsUnowned, claims, gives_away, gives_none, is_owning_fact, OwesOrHolds, may_owe, owned, renews_none, unowned}
use Rattle.covering_laws.proofs.CoveredArguments.{IsOwnedAs, argument_is_given, argument_is_owned, asked_before, no_two_arguments}
use Rattle.covering_laws.proofs.GivenAway.{IsTaken, given_taken}
use Rattle.ownership_rules.specs.MovesAtCalls.{moved_at_call}
use Rattle.ownership_rules.specs.declared.moved.Moved.TheVariants as moves
use Rattle.covering_laws.proofs.Following.{breaks_nothing, same_body, small_step, step_there}
use Rattle.covering_laws.proofs.HeavyFields.{own_claims, unclaimed_not_owning}
use Rattle.covering_laws.proofs.KnownNames.{operand_temp}
use Rattle.covering_laws.proofs.Waiting.{still_true}

-- what is true of the argument is true by the fact that is born for the parameter
pub true_of_parameter : (p : Program) (x y : Object) (g : Origin) (f : Fact) (kind : OriginKind) (pos : Pos) (c : ClassId) (q : Place) (before : Names) → IsTrueOf p x g f → GoesOn x y
    → fits_type p g.class (Some (types.Obj c)) ≡ true → set.is_subset before y.called ≡ true → IsTrueOf p y (origin_of p kind pos c None) (fact_at q modes.Own before true)
true_of_parameter p x y g f kind pos c q before truth goes fit asked =
    let still = still_true p x y g f goes truth in
    let class = within_trans (must_of p y.class) (must_of p g.class) (must_of p c) still.class fit in
    record {
      finished = still.finished;
      class = class;
      bounded = still.bounded;
      need = within_trans y.must (must_of p y.class) (must_of p c) still.bounded class;
      called = asked;
    }

-- an object goes on as it is
goes_nowhere : (x : Object) → GoesOn x x
goes_nowhere x = record { class = refl; must = refl; finished = refl; called = within_self x.called; link = refl }

-- the same of the result of a call, which is owned
pub true_of_result : (p : Program) (x y : Object) (g : Origin) (f : Fact) (kind : OriginKind) (pos : Pos) (c : ClassId) (q : Place) → IsTrueOf p x g f → GoesOn x y
    → set.is_subset (must_of p g.class) (must_of p c) ≡ true → IsTrueOf p y (origin_of p kind pos c None) (fact_at q modes.Own no_names false)
true_of_result p x y g f kind pos c q truth goes fit =
    let still = still_true p x y g f goes truth in
    let class = within_trans (must_of p y.class) (must_of p g.class) (must_of p c) still.class fit in
    record {
      finished = still.finished;
      class = class;
      bounded = still.bounded;
      need = within_trans y.must (must_of p y.class) (must_of p c) still.bounded class;
      called = empty_within y.called;
    }

module _ (p : Program) (ac : Accept p) (h : HeapContents) (fr : Frame) (st : Stands p fr) (old : ℕ → Bool) (frs : List Frame) (i : ℕ) (s : Step) (here : slice_get (frame_steps p fr) i ≡ Some s) (row : IsCallRow s.action) where
  -- an argument of an owning parameter that has an obligation is in a fact that says that the frame owns it, or the call breaks a rule
  module _ (away anew : Bool) (o : ℕ) (x : Object) (g : Covers p h away anew old frs fr o x) (m : Method) (j : ℕ) (q : ParamSig) (named : callee p s.action ≡ Some m) (at : slice_get m.sig.params.items j ≡ Some q) (owning : q.owning ≡ true)
      (held : holds_operand s.action g.fact.places (j + 1) ≡ true) (heavy : is_heavy_as p g.origin.class (Some q.vtype) ≡ true) where
    reached : Reach p st.number (relation_of p st.number) g.origin fr.control g.fact
    reached = subst (λ (b : BodyId). Reach p b (relation_of p b) g.origin fr.control g.fact) (same_body g.body st.number (body_id p fr.method) g.id st.id) g.reached

    owned_as : IsOwnedAs p st.number g.origin s.edge g.fact q.vtype
    owned_as = argument_is_owned p st.number g.origin s.edge g.fact s.action row (breaks_nothing p ac st.number g.origin i (move_of s) g.fact reached (step_there p fr st i s here)) m j q named at owning held heavy

    asked : set.is_subset q.before g.fact.called ≡ true
    asked = asked_before p st.number g.origin s.edge g.fact s.action row (breaks_nothing p ac st.number g.origin i (move_of s) g.fact reached (step_there p fr st i s here)) m j q named at held

    pub given_owned : is_owning_fact p g.origin g.fact ≡ true
    given_owned = and_from (is_heavy_class p g.origin.class) (is_own g.fact.mode) owned_as.1 (ap is_own owned_as.0)

    pub given_claims : claims p (method_at p fr.method) g.origin g.fact ≡ true
    given_claims = own_claims p (method_at p fr.method) g.origin g.fact owned_as.0 owned_as.1

  -- the argument is covered in the caller, whose step of the call breaks no rule
  pub given_is_true : (o : ℕ) (x y : Object) (g : Covers p h false false old frs fr o x) → (m : Method) (j : ℕ) (q : ParamSig) → callee p s.action ≡ Some m → slice_get m.sig.params.items j ≡ Some q → q.owning ≡ true
      → holds_operand s.action g.fact.places (j + 1) ≡ true → (c : ClassId) → q.vtype ≡ types.Obj c → is_heavy_class p c ≡ true → (x.finished ≡ true → GoesOn x y)
      → (kind : OriginKind) (pos : Pos) (place : Place) (before : Names) → set.is_subset before q.before ≡ true → IsTrueOf p y (origin_of p kind pos c None) (fact_at place modes.Own before true)
  given_is_true o x y g m j q named at owning held c type heavy goes kind pos place before less =
      let truth = g.true' (given_claims false false o x g m j q named at owning held heavy_as) refl (ap (λ (n : Mode). is_held n && lends_this p fr) (owned_as false false o x g m j q named at owning held heavy_as).0) in
      true_of_parameter p x y g.origin g.fact kind pos c place before truth (goes truth.finished)
      (subst (λ (t : VType). fits_type p g.origin.class (Some t) ≡ true) type (owned_as false false o x g m j q named at owning held heavy_as).2)
      (within_trans before q.before y.called less (within_trans q.before g.fact.called y.called (asked false false o x g m j q named at owning held heavy_as) (still_true p x y g.origin g.fact (goes truth.finished) truth).called))
    where
      heavy_as : is_heavy_as p g.origin.class (Some q.vtype) ≡ true
      heavy_as = subst (λ (t : VType). is_heavy_as p g.origin.class (Some t) ≡ true) (sym type) (or_right (is_heavy_class p g.origin.class) (is_heavy_class p c) heavy)

  -- ---- the operand of an owning parameter

  module _ (covered : IsCovered p h gives_none renews_none old frs fr) (o : ℕ) (x : Object) (there : object_at h o ≡ Some x) (class : is_heavy_class p x.class ≡ true) (owes : OwesOrHolds p h o x) (m : Method) (j : ℕ) (q : ParamSig)
      (named : callee p s.action ≡ Some m) (at : slice_get m.sig.params.items j ≡ Some q) (owning : q.owning ≡ true) (root : root_of h (operand_of fr.locals s.action (j + 1)) ≡ Some o) where
    abbrev pub temp : (n : ℕ) × (operand_at s.action (j + 1) ≡ Some n) × (operand_of fr.locals s.action (j + 1) ≡ temp_value fr.locals n)
    temp = operand_temp fr.locals s.action (j + 1) h o root

    small : IsSmall (places.Temp temp.0)
    small = subst IsSmallTemp temp.1 (operand_has_room p s.action (j + 1) (small_step p ac fr st i s here))

    keyed : IsKeyed p h false false old frs fr (places.Temp temp.0) o x
    keyed = covered (places.Temp temp.0) o x small refl (ap (root_of h) (sym temp.2) ∙ root) there class owes

    holds : (c : Covers p h false false old frs fr o x) → has c.fact.places (places.Temp temp.0) ≡ true → holds_operand s.action c.fact.places (j + 1) ≡ true
    holds c has' = ap (has_temp c.fact.places) temp.1 ∙ has'

    abbrev IsHeavyType : Type 0
    IsHeavyType = not (is_empty (must_of_optional p (Some q.vtype))) ≡ true

    heavy_of : IsHeavyType → (c : Covers p h false false old frs fr o x) → is_heavy_as p c.origin.class (Some q.vtype) ≡ true
    heavy_of heavy c = or_right (is_heavy_class p c.origin.class) (not (is_empty (must_of_optional p (Some q.vtype)))) heavy

    -- the operand is in the one fact that says that the frame owns the object
    pub operand_owned : IsHeavyType → (c : Covers p h false false old frs fr o x) × (has c.fact.places (places.Temp temp.0) ≡ true) × IsOwned p h false false old frs fr o x c
    operand_owned heavy = by keyed
      where
        by : IsKeyed p h false false old frs fr (places.Temp temp.0) o x → (c : Covers p h false false old frs fr o x) × (has c.fact.places (places.Temp temp.0) ≡ true) × IsOwned p h false false old frs fr o x c
        by (owned c has' own) = (c, has', own)
        by (unowned u) = absurd (true≢false (sym (given_owned false false o x u.covers m j q named at owning (holds u.covers u.here) (heavy_of heavy u.covers)) ∙ unclaimed_not_owning p (method_at p fr.method) u.covers.origin u.covers.fact u.unowned))

    -- so the frame owns it
    pub operand_owner : IsHeavyType → x.owner ≡ owners.Frame (length frs + 1)
    operand_owner heavy = let c = operand_owned heavy in c.2.owner refl (and_parts (is_heavy_class p c.0.origin.class) (is_own c.0.fact.mode) (given_owned false false o x c.0 m j q named at owning (holds c.0 c.1) (heavy_of heavy c.0))).1

    -- what an owning parameter asks for before was called on its argument
    pub asked_of_operand : (c : ClassId) → q.vtype ≡ types.Obj c → is_heavy_class p c ≡ true → set.is_subset q.before x.called ≡ true
    asked_of_operand c type heavy =
        let cover = operand_owned (subst (λ (t : VType). not (is_empty (must_of_optional p (Some t))) ≡ true) (sym type) heavy) in
        (given_is_true o x x cover.0 m j q named at owning (holds cover.0 cover.1) c type heavy (λ done. goes_nowhere x) kinds.ThisRef s.pos places.This q.before (within_self q.before)).called

    -- which may move to the parameter
    pub operand_may_move : IsHeavyType → may_move p q.vtype x ≡ true
    operand_may_move heavy =
        let c = operand_owned heavy in
        let as' = owned_as false false o x c.0 m j q named at owning (holds c.0 c.1) (heavy_of heavy c.0) in
        let truth = c.0.true' (given_claims false false o x c.0 m j q named at owning (holds c.0 c.1) (heavy_of heavy c.0)) refl (ap (λ (n : Mode). is_held n && lends_this p fr) as'.0) in
        and_from (x.finished && not (is_library_owner x.owner)) (set.is_subset (must_of p x.class) (must_of_type p q.vtype))
        (and_from x.finished (not (is_library_owner x.owner)) truth.finished (ap (λ (a : Owner). not (is_library_owner a)) (operand_owner heavy)))
        (within_trans (must_of p x.class) (must_of p c.0.origin.class) (must_of_type p q.vtype) truth.class as'.2)

  -- no object is the operand of two owning parameters
  pub two_operands : IsCovered p h gives_none renews_none old frs fr → (o : ℕ) (x : Object) → object_at h o ≡ Some x → is_heavy_class p x.class ≡ true → OwesOrHolds p h o x → (m : Method) (j k : ℕ) (q r : ParamSig) → j < k → callee p s.action ≡ Some m
      → slice_get m.sig.params.items j ≡ Some q → slice_get m.sig.params.items k ≡ Some r → q.owning ≡ true → r.owning ≡ true → not (is_empty (must_of_optional p (Some q.vtype))) ≡ true
      → not (is_empty (must_of_optional p (Some r.vtype))) ≡ true → root_of h (operand_of fr.locals s.action (j + 1)) ≡ Some o → root_of h (operand_of fr.locals s.action (k + 1)) ≡ Some o → ⊥
  two_operands covered o x there class owes m j k q r less named at at' owning owning' heavy heavy' root root' = by (cover.2.others (places.Temp temp'.0) room refl (ap (root_of h) (sym temp'.2) ∙ root'))
    where
      cover : (c : Covers p h false false old frs fr o x) × (has c.fact.places (places.Temp (operand_temp fr.locals s.action (j + 1) h o root).0) ≡ true) × IsOwned p h false false old frs fr o x c
      cover = operand_owned covered o x there class owes m j q named at owning root heavy

      temp' : (n : ℕ) × (operand_at s.action (k + 1) ≡ Some n) × (operand_of fr.locals s.action (k + 1) ≡ temp_value fr.locals n)
      temp' = operand_temp fr.locals s.action (k + 1) h o root'

      room : IsSmall (places.Temp temp'.0)
      room = subst IsSmallTemp temp'.1 (operand_has_room p s.action (k + 1) (small_step p ac fr st i s here))

      held : holds_operand s.action cover.0.fact.places (j + 1) ≡ true
      held = ap (has_temp cover.0.fact.places) (operand_temp fr.locals s.action (j + 1) h o root).1 ∙ cover.1

      reached' : Reach p st.number (relation_of p st.number) cover.0.origin fr.control cover.0.fact
      reached' = subst (λ (b : BodyId). Reach p b (relation_of p b) cover.0.origin fr.control cover.0.fact) (same_body cover.0.body st.number (body_id p fr.method) cover.0.id st.id) cover.0.reached

      by : (has cover.0.fact.places (places.Temp temp'.0) ≡ true) ⊎ IsUnowned p h false false old frs fr (places.Temp temp'.0) o x → ⊥
      by (inl in') = no_two_arguments p st.number cover.0.origin s.edge cover.0.fact s.action row (breaks_nothing p ac st.number cover.0.origin i (move_of s) cover.0.fact reached' (step_there p fr st i s here)) m j k q r less named at at'
          owning owning' held (ap (has_temp cover.0.fact.places) temp'.1 ∙ in') (or_right (is_heavy_class p cover.0.origin.class) (not (is_empty (must_of_optional p (Some q.vtype)))) heavy)
      by (inr u) = true≢false (sym (given_owned false false o x u.covers m k r named at' owning' (ap (has_temp u.covers.fact.places) temp'.1 ∙ u.here)
          (or_right (is_heavy_class p u.covers.origin.class) (not (is_empty (must_of_optional p (Some r.vtype)))) heavy')) ∙ unclaimed_not_owning p (method_at p fr.method) u.covers.origin u.covers.fact u.unowned)

-- ---- what a call gives away

-- what fits a type that has an obligation has one
pub heavy_by_fit : (p : Program) (c : ClassId) (t : VType) → is_heavy_class p c ≡ true → set.is_subset (must_of p c) (must_of_type p t) ≡ true → not (is_empty (must_of_optional p (Some t))) ≡ true
heavy_by_fit p c t heavy fits' = go (is_empty (must_of_type p t)) refl
  where
    go : (b : Bool) → is_empty (must_of_type p t) ≡ b → not b ≡ true
    go false some = refl
    go true none = absurd (true≢false (sym (within_trans (must_of p c) (must_of_type p t) no_names fits' none) ∙ not-true (is_empty (must_of p c)) heavy))

module _ (p : Program) (ac : Accept p) (h : HeapContents) (fr : Frame) (st : Stands p fr) (old : ℕ → Bool) (frs : List Frame) (i : ℕ) (s : Step) (here : slice_get (frame_steps p fr) i ≡ Some s) (row : IsCallRow s.action)
    (covered : IsCovered p h gives_none renews_none old frs fr) (named : Option Method) (calls' : callee p s.action ≡ named) where
  -- the frame owns what it gives
  pub given_owner : (n : ℕ) (x : Object) → object_at h n ≡ Some x → is_heavy_class p x.class ≡ true → may_owe x ≡ true → IsGiven p (operand_of fr.locals s.action) 1 (params_in named) h n x
      → x.owner ≡ owners.Frame (length frs + 1)
  given_owner n x there class owes g = by named refl
    where
      by : (k : Option Method) → named ≡ k → x.owner ≡ owners.Frame (length frs + 1)
      by None none = absurd (no_element g.index (ap (λ (k : Option Method). slice_get (params_in k) g.index) (sym none) ∙ g.at))
        where
          no_element : (n' : ℕ) → slice_get [] n' ≡ Some g.param → ⊥
          no_element zero is = let never : None ≡ Some g.param = is in cc
          no_element (suc n') is = let never : None ≡ Some g.param = is in cc
      by (Some m) is =
          operand_owner p ac h fr st old frs i s here row covered n x there class (inl owes) m g.index g.param (calls' ∙ is) (ap (λ (k : Option Method). slice_get (params_in k) g.index) (sym is) ∙ g.at) g.owning
          (ap (λ (k : ℕ). root_of h (operand_of fr.locals s.action k)) (let same : g.index + 1 ≡ 1 + g.index = omega arith in same) ∙ g.root)
          (heavy_by_fit p x.class g.param.vtype class (and_parts (x.finished && not (is_library_owner x.owner)) (set.is_subset (must_of p x.class) (must_of_type p g.param.vtype)) g.may).1)

module _ (p : Program) (ac : Accept p) (h : HeapContents) (fr : Frame) (st : Stands p fr) (old : ℕ → Bool) (frs : List Frame) (i : ℕ) (s : Step) (here : slice_get (frame_steps p fr) i ≡ Some s) (row : IsCallRow s.action) where
  -- ---- what it gives away

  -- the fact that says that the frame owns what is given away moves at the call
  pub away_moves : (away anew : Bool) (o : ℕ) (x : Object) (d : Covers p h away anew old frs fr o x) → IsOwned p h away anew old frs fr o x d → is_heavy_class p x.class ≡ true → gives_away p h fr.locals s.action o x.class ≡ true
      → moved_at_call p d.origin s.action s.edge d.fact ≡ moves.Moves
  away_moves away anew o x d own heavy gives = elim (own.others (places.Temp temp.0) small refl (ap (root_of h) (sym temp.2) ∙ root)) [
    | inl in' ↦ (argument_is_given p st.number d.origin s.edge d.fact s.action row (breaks_nothing p ac st.number d.origin i (move_of s) d.fact (reached d) (step_there p fr st i s here)) t.0 t.2.index t.2.param t.1 t.2.at t.2.owning
        (holds d in') (heavy_as d)).1
    | inr u ↦ absurd (true≢false (sym (given_owned p ac h fr st old frs i s here row away anew o x u.covers t.0 t.2.index t.2.param t.1 t.2.at t.2.owning (holds u.covers u.here) (heavy_as u.covers)) ∙ unclaimed_not_owning p (method_at p fr.method) u.covers.origin u.covers.fact u.unowned))
  ]
    where
      t : (m : Method) × (callee p s.action ≡ Some m) × IsTaken p h fr.locals s.action o x.class m.sig.params.items 0
      t = given_taken p h fr.locals s.action o x.class gives

      root : root_of h (operand_of fr.locals s.action (t.2.index + 1)) ≡ Some o
      root = ap (λ (k : ℕ). root_of h (operand_of fr.locals s.action k)) (let same : t.2.index + 1 ≡ 0 + t.2.index + 1 = omega arith in same) ∙ t.2.root

      temp : (n : ℕ) × (operand_at s.action (t.2.index + 1) ≡ Some n) × (operand_of fr.locals s.action (t.2.index + 1) ≡ temp_value fr.locals n)
      temp = operand_temp fr.locals s.action (t.2.index + 1) h o root

      small : IsSmall (places.Temp temp.0)
      small = subst IsSmallTemp temp.1 (operand_has_room p s.action (t.2.index + 1) (small_step p ac fr st i s here))

      holds : (c : Covers p h away anew old frs fr o x) → has c.fact.places (places.Temp temp.0) ≡ true → holds_operand s.action c.fact.places (t.2.index + 1) ≡ true
      holds c has' = ap (has_temp c.fact.places) temp.1 ∙ has'

      heavy_as : (c : Covers p h away anew old frs fr o x) → is_heavy_as p c.origin.class (Some t.2.param.vtype) ≡ true
      heavy_as c = or_right (is_heavy_class p c.origin.class) (not (is_empty (must_of_optional p (Some t.2.param.vtype)))) (heavy_by_fit p x.class t.2.param.vtype heavy t.2.fit)

      reached : (c : Covers p h away anew old frs fr o x) → Reach p st.number (relation_of p st.number) c.origin fr.control c.fact
      reached c = subst (λ (b : BodyId). Reach p b (relation_of p b) c.origin fr.control c.fact) (same_body c.body st.number (body_id p fr.method) c.id st.id) c.reached

-- what the frame gives away it owns, as long as it has not given it
pub away_owner : (p : Program) (ac : Accept p) (h : HeapContents) (fr : Frame) (st : Stands p fr) (old : ℕ → Bool) (frs : List Frame) (i : ℕ) (s : Step) → slice_get (frame_steps p fr) i ≡ Some s → IsCallRow s.action
    → IsCovered p h gives_none renews_none old frs fr → (o : ℕ) (x : Object) → object_at h o ≡ Some x → is_heavy_class p x.class ≡ true → OwesOrHolds p h o x → gives_away p h fr.locals s.action o x.class ≡ true → x.owner ≡ owners.Frame (length frs + 1)
away_owner p ac h fr st old frs i s here row covered o x there heavy owes gives =
    let t = given_taken p h fr.locals s.action o x.class gives in
    operand_owner p ac h fr st old frs i s here row covered o x there heavy owes t.0 t.2.index t.2.param t.1 t.2.at t.2.owning
    (ap (λ (k : ℕ). root_of h (operand_of fr.locals s.action k)) (let same : t.2.index + 1 ≡ 0 + t.2.index + 1 = omega arith in same) ∙ t.2.root) (heavy_by_fit p x.class t.2.param.vtype heavy t.2.fit)
