-- As a call ends: what owning fields hold they own, those of the object too that a `new` has made.
use Rattle.std.specs.Prelude.{is_some, not}
use Rattle.std.proofs.Common.{◌≡◌, ◌⊎◌, inl, inr, ℕ, zero, suc, ◌+◌, Bool, true, false, ◌&&◌, true≢false, Option, Some, None, List, ◌∷◌, nat_eq, eq-eqb, eqb-true, slice_get, refl, sym, ap, ◌∙◌, subst}
use Rattle.std.proofs.lemmas.Bool.{and_from}
use Rattle.program_model.specs.declared.kinds.BodyId.{BodyId}
use Rattle.program_model.specs.declared.kinds.ClassId.{ClassId}
use Rattle.program_model.specs.declared.kinds.FieldId.{FieldId}
use Rattle.program_model.specs.declared.kinds.MethodId.{MethodId}
use Rattle.program_model.specs.declared.program.Field.{Field}
use Rattle.program_model.specs.declared.program.Method.{Method}
use Rattle.program_model.specs.declared.program.Program.{Program}
use Rattle.program_model.specs.Lookups.{method_at}
use Rattle.ledger_obligations.specs.Bodies.{alias_in, alias_position, constructs, is_alias_constructor, is_class_of, is_constructor, is_field_in, method_of}
use Rattle.ledger_obligations.specs.MustCallSets.{is_heavy_class}
use Rattle.ownership_rules.specs.Signatures.{is_present}
use Rattle.ownership_rules.specs.Facts.{has, is_held, is_origin_at}
use Rattle.java_control.specs.Control.{Step}
use Rattle.java_control.specs.Owned.{field_number, is_owning, is_owning_field, place_of_field}
use Rattle.control_actions.specs.declared.action.Action.{Action}
use Rattle.control_actions.specs.declared.action.Action.TheVariants as actions
use Rattle.control_actions.specs.declared.fact.Mode.{Mode}
use Rattle.control_actions.specs.declared.fact.Mode.TheVariants as modes
use Rattle.control_actions.specs.declared.place.Place.TheVariants as places
use Rattle.ledger_state.specs.Contents.{HeapContents}
use Rattle.ledger_state.specs.Fields.{field_value}
use Rattle.ledger_state.specs.Heaps.{object_at, root, root_of}
use Rattle.ledger_state.specs.Locals.{variable_value}
use Rattle.ledger_state.specs.Values.{number_of}
use Rattle.ledger_state.specs.declared.entry.Owner.{Owner}
use Rattle.ledger_state.specs.declared.entry.Owner.TheVariants as owners
use Rattle.ledger_state.specs.declared.object.Object.{Object}
use Rattle.ledger_state.specs.declared.value.Value.{Value}
use Rattle.ledger_state.specs.declared.value.Value.TheVariants as values
use Rattle.ledger_obligations.specs.Obligations.{is_frame, is_library_owner}
use Rattle.ledger_steps.specs.Ends.{frame_gone, result_moved, returned_heap}
use Rattle.ledger_steps.specs.LedgerCallsCalls as calls
use Rattle.ledger_steps.specs.LedgerCallsCalls.{alias_target, is_alias, object_by, operand_of, reset_position}
use Rattle.value_laws.specs.Accept.{Accept}
use Rattle.value_laws.specs.Agreement.{IsMadeByNew, RunsItself, Stands}
use Rattle.value_laws.specs.Arguments.{HasArguments}
use Rattle.value_laws.specs.Chains.{HaveEnds}
use Rattle.value_laws.specs.Choosing.{body_id, frame_steps}
use Rattle.value_laws.specs.Configuration.{Frame}
use Rattle.value_laws.specs.FieldContents.{FieldsOwn, IsFieldOfClass, MakersOwn, is_new}
use Rattle.value_laws.specs.Heaps.{HasEarlierLinks, IsKeptOr}
use Rattle.value_laws.specs.Paths.{Reach, relation_of}
use Rattle.value_laws.specs.PlaceFacts.{Covers, IsCovered, OwesOrHolds, gives_none, is_heavy_in, may_owe, renews_none}
use Rattle.value_laws.specs.Places.{class_of_method}
use Rattle.value_laws.specs.PlainForms.{HasPlainForms}
use Rattle.value_laws.specs.ProgramCalls.{IsLinkedTo, IsReturned}
use Rattle.value_laws.specs.Ranges.{FieldsInRange, IsNumber}
use Rattle.value_laws.proofs.AliasConducts.{gives_object}
use Rattle.value_laws.proofs.EndLaws.{frame_back}
use Rattle.value_laws.proofs.HeapLaws.{numbers_are_in_range}
use Rattle.value_laws.proofs.KeptFacts.{held_is_argument, this_stays}
use Rattle.value_laws.proofs.Returned.{end_back, gone_back, result_back}
use Rattle.value_laws.proofs.RootLaws.{one_object}
use Rattle.covering_laws.proofs.AliasedResets.{aliased_resets_nothing}
use Rattle.covering_laws.proofs.Constructors.{parameter_holds, spoken}
use Rattle.covering_laws.proofs.EndOwners.{number_value, same_new}
use Rattle.covering_laws.proofs.MakersOwning.{all_made_kept, makers_own_on}
use Rattle.covering_laws.proofs.FieldOwners.{LinksObject, NewOwn, carried_as_before, field_stays, fields_own_on, finished_keep, held_in_range}
use Rattle.value_laws.specs.Renewing.{lends_this}
use Rattle.covering_laws.proofs.Following.{method_here, same_body}
use Rattle.covering_laws.proofs.HeavyFields.{HasPlace, alone_answers, covers_field, has_place_here, heavy_here, held_claims, makes_alone_by}
use Rattle.covering_laws.proofs.InFields.{held_in_field, one_field, owned_at}
use Rattle.covering_laws.proofs.Owners.{HoldersWere, OwnersGo}
use Rattle.covering_laws.proofs.StoreMoves.{unlinked_root}
use Rattle.covering_laws.proofs.SaidFacts.{said_by}
use Rattle.covering_laws.proofs.Waiting.{Carries, Continues, KeepsFieldsButTexts, KeepsOtherRoots, KeepsRoots, numbered}

-- ---- what the owning fields of `this` hold in a constructor

some_method : (m : Option Method) → constructs m ≡ true → (x : Method) × (m ≡ Some x)
some_method None none = absurd (true≢false (sym none))
some_method (Some x) is = (x, refl)

module _ (p : Program) (ac : Accept p) (h : HeapContents) (old : ℕ → Bool) (frs : List Frame) (fr : Frame) (st : Stands p fr) (covered : IsCovered p h gives_none renews_none old frs fr) (keeps : lends_this p fr ≡ false) (w : ℕ) (this : fr.locals.this ≡ values.Object w)
    (constructor : constructs (method_at p fr.method) ≡ true) (f : FieldId) (owning : is_owning p f ≡ true) (heavy : is_heavy_in p (Some f) ≡ true) (here : HasPlace p fr f) (o : ℕ) (x : Object)
    (held : root_of h (field_value p h w f) ≡ Some o) (at : object_at h o ≡ Some x) (wide : is_heavy_class p x.class ≡ true) (owes : OwesOrHolds p h o x) where
  cover : (c : Covers p h false false old frs fr o x) × (has c.fact.places (place_of_field p f) ≡ true)
  cover = covers_field p h fr f here old frs covered keeps w o x (record { this = this; owning = owning; heavy = heavy; held = held; at = at; class = wide; owes = owes })

  abbrev c : Covers p h false false old frs fr o x
  c = cover.0

  reached : Reach p st.number (relation_of p st.number) c.origin fr.control c.fact
  reached = subst (λ (b : BodyId). Reach p b (relation_of p b) c.origin fr.control c.fact) (same_body c.body st.number (body_id p fr.method) c.id st.id) c.reached

  was : (c.fact.mode ≡ modes.Held) × (is_heavy_class p c.origin.class ≡ true)
  was = c.held (field_number p f) here.small cover.1 (heavy_here p h fr f here heavy)

  method : (m : Method) × (method_at p fr.method ≡ Some m)
  method = some_method (method_at p fr.method) constructor

  -- without an aliased argument the field owns it
  pub alone_owns : alias_position p st.number ≡ None → x.owner ≡ owners.Field w f
  alone_owns none =
      let alone = alone_answers (method_at p fr.method) (makes_alone_by (method_at p fr.method) constructor (ap alias_in (sym (method_here p fr st)) ∙ none)) in
      let done = (c.true' (held_claims p (method_at p fr.method) c.origin c.fact alone was.0 was.1) refl (ap (λ (b : Bool). is_held c.fact.mode && b) keeps ∙ ap (λ (m : Mode). is_held m && false) was.0)).finished in
      let field = held_in_field p h false false old frs fr o x c done (ap is_held was.0) alone keeps was.1 in
      owned_at p fr x.owner w f this field.0 (one_field p fr st ac c.fact.places x.owner field f here cover.1)

  of_argument : (n : ℕ) → alias_position p st.number ≡ Some n → is_origin_at c.origin.kind (alias_position p st.number) ≡ true
  of_argument n some = held_is_argument p ac st.number st.body method.0 st.at (ap (method_at p) st.method ∙ method.1) aliased (λ k n t comes there. aliased_resets_nothing p ac st.number n t comes there aliased) c.origin fr.control c.fact reached was.0
    where
      aliased : is_alias_constructor p st.number ≡ true
      aliased = and_from (is_constructor p st.number) (is_present (alias_position p st.number)) (ap constructs (method_here p fr st) ∙ constructor) (ap is_present some)

  -- else it is the argument
  pub parameter_has : (v : ℕ) → alias_position p st.number ≡ Some (suc v) → root_of h (variable_value fr.locals v) ≡ Some o
  parameter_has v some = parameter_holds p ac fr st method.0 method.1 v constructor some h old frs o x c (of_argument (suc v) some)

  pub this_has : alias_position p st.number ≡ Some 0 → root_of h fr.locals.this ≡ Some o
  this_has some = c.places (said_by p frs fr c.fact (inr (inl constructor))) places.This tt refl (this_stays p ac st.number st.body method.0 st.at (ap (method_at p) st.method ∙ method.1) c.origin fr.control c.fact reached (ap (is_origin_at c.origin.kind) (sym some) ∙ of_argument 0 some))

-- ---- the end of a call

module _ (p : Program) (ac : Accept p) (forms : HasPlainForms p) (h : HeapContents) (links : HasEarlierLinks h) (ranges : FieldsInRange h) (have : HaveEnds h) (fr caller : Frame) (old : ℕ → Bool) (rest : List Frame) (st : Stands p fr)
    (covered : IsCovered p h gives_none renews_none old (caller ∷ rest) fr) (keeps_mine : lends_this p fr ≡ false) (args : HasArguments p caller fr) (j : ℕ) (t : Step) (there : slice_get (frame_steps p caller) j ≡ Some t) (named : MethodId)
    (makes : IsMadeByNew p h t.action fr.locals.this) (itself : RunsItself t.action named fr.method) (constructor : is_new t.action ≡ true → constructs (method_at p fr.method) ≡ true) (named_makes : (m : MethodId) (d n : ℕ) → t.action ≡ actions.New m d n → m ≡ named)
    (plain : Option Method) (alias : calls.alias_position plain ≡ alias_in (method_at p named)) (no_reset : reset_position plain ≡ None) (at : ℕ) (v : Value) (e : Option ClassId)
    (unmade : (w : ℕ) (x : Object) → is_new t.action ≡ true → fr.locals.this ≡ values.Object w → object_at h w ≡ Some x → x.finished ≡ false)
    (mine : (n : ℕ) (x u : Object) → object_at h n ≡ Some x → is_heavy_class p x.class ≡ true → may_owe x ≡ true → IsReturned p at (method_at p fr.method) v e h n x u → x.owner ≡ owners.Frame (at + 1)) where
  abbrev gone : HeapContents
  gone = frame_gone p at fr.locals.this (method_at p fr.method) v e h

  abbrev K : HeapContents
  K = returned_heap p at fr.locals.this caller.locals t.action (method_at p fr.method) plain v e h

  abbrev target : Option ℕ
  target = alias_target (operand_of caller.locals t.action) plain

  -- ---- a `new` runs the constructor that it names

  runs_named : is_new t.action ≡ true → fr.method ≡ named
  runs_named new = go t.action refl new itself
    where
      go : (a : Action) → t.action ≡ a → is_new a ≡ true → RunsItself a named fr.method → fr.method ≡ named
      go actions.Skip is one it = absurd (true≢false (sym one))
      go (actions.New m d n) is one it = it
      go a is one it = absurd (true≢false (sym one))

  class_is : (w : ℕ) (z : Object) → is_new t.action ≡ true → fr.locals.this ≡ values.Object w → object_at h w ≡ Some z → class_of_method (method_at p fr.method) ≡ Some z.class
  class_is w z new this before = go t.action refl new makes
    where
      go : (a : Action) → t.action ≡ a → is_new a ≡ true → IsMadeByNew p h a fr.locals.this → class_of_method (method_at p fr.method) ≡ Some z.class
      go actions.Skip is one made = absurd (true≢false (sym one))
      go (actions.New m d n) is one made =
          let number : made.0 ≡ w = (let both : values.Object made.0 ≡ values.Object w = sym made.1 ∙ this in (let it : made.0 ≡ w = cc in it)) in
          ap (λ (u : MethodId). class_of_method (method_at p u)) (runs_named new ∙ sym (named_makes m d n is)) ∙ made.3 z (ap (object_at h) number ∙ before)
      go a is one made = absurd (true≢false (sym one))

  position : is_new t.action ≡ true → calls.alias_position plain ≡ alias_position p st.number
  position new = alias ∙ ap (λ (u : MethodId). alias_in (method_at p u)) (sym (runs_named new)) ∙ ap alias_in (sym (method_here p fr st))

  -- the frame has a place for each owning field that the object's class declares
  has_place : (w : ℕ) (z : Object) (f : FieldId) → is_new t.action ≡ true → fr.locals.this ≡ values.Object w → object_at h w ≡ Some z → is_owning p f ≡ true → IsFieldOfClass p f z.class → HasPlace p fr f
  has_place w z f new this before owning (field, declared, class) = has_place_here p ac fr st f (ap (is_field_in p st.number) declared ∙ and_from field.owning (is_class_of field.class (method_of p st.number)) (ap is_owning_field (sym declared) ∙ owning) in_class)
    where
      method : (m : Method) × (method_at p fr.method ≡ Some m)
      method = some_method (method_at p fr.method) (constructor new)

      same : method.0.class ≡ z.class
      same = let both : Some method.0.class ≡ Some z.class = ap class_of_method (sym method.1) ∙ class_is w z new this before in (let it : method.0.class ≡ z.class = cc in it)

      in_class : is_class_of field.class (method_of p st.number) ≡ true
      in_class = ap (is_class_of field.class) (method_here p fr st ∙ method.1) ∙ eq-eqb field.class.0 method.0.class.0 (ap (λ (k : ClassId). k.0) (class ∙ sym same))

  -- ---- what a field owned, where the frame ends normally

  normal_gone : e ≡ None → (o : ℕ) (x z : Object) (w : ℕ) (f : FieldId) → object_at h o ≡ Some x → is_heavy_class p x.class ≡ true → may_owe x ≡ true → x.owner ≡ owners.Field w f → object_at gone o ≡ Some z → z.owner ≡ owners.Field w f
  normal_gone normal o x z w f before heavy owes own now = by u.2
    where
      u : (u : Object) × (object_at (result_moved p at (method_at p fr.method) v None h) o ≡ Some u) × IsKeptOr (is_frame u.owner (at + 1)) u z
      u = frame_back (at + 1) (result_moved p at (method_at p fr.method) v None h) o z (subst (λ (c : Option ClassId). object_at (frame_gone p at fr.locals.this (method_at p fr.method) v c h) o ≡ Some z) normal now)

      owned : u.0.owner ≡ owners.Field w f
      owned =
          let was = result_back p at (method_at p fr.method) v h None o u.0 u.1 in
          let same : was.before ≡ x = one_object was.before x (object_at h o) was.at before in
          elim (subst (λ (b : Object). (u.0.owner ≡ b.owner) ⊎ IsReturned p at (method_at p fr.method) v None h o b u.0) same was.owner) [
            | inl kept ↦ kept ∙ own
            | inr result ↦ absurd (let never : owners.Field w f ≡ owners.Frame (at + 1) = sym own ∙ mine o x u.0 before heavy owes (subst (λ (c : Option ClassId). IsReturned p at (method_at p fr.method) v c h o x u.0) (sym normal) result) in cc)
          ]

      by : IsKeptOr (is_frame u.0.owner (at + 1)) u.0 z → z.owner ≡ owners.Field w f
      by (inl same) = ap (λ (b : Object). b.owner) same ∙ owned
      by (inr given) = absurd (true≢false (sym given.0 ∙ ap (λ (b : Owner). is_frame b (at + 1)) owned))

  normal_keeps : e ≡ None → (o : ℕ) (x y : Object) (w : ℕ) (f : FieldId) → object_at h o ≡ Some x → object_at K o ≡ Some y → is_heavy_class p x.class ≡ true → x.owner ≡ owners.Field w f → y.owner ≡ owners.Field w f
  normal_keeps normal o x y w f before now heavy own = elim (end_back p at fr.locals.this caller.locals t.action plain gone no_reset e o y now) [
    | inl made ↦ absurd (not_made (same_new t.action made.2.new) made.2.self)
    | inr other ↦ elim other [
      | inl made ↦ absurd (not_made (same_new t.action made.2.new) made.2.self)
      | inr noted ↦ sym (ap (λ (u : Object). u.owner) noted.2) ∙ normal_gone normal o x noted.0 w f before heavy owes own noted.1
    ]
  ]
    where
      not_made : is_new t.action ≡ true → number_of fr.locals.this ≡ Some o → ⊥
      not_made new self = let never : owners.Unowned ≡ owners.Field w f = sym (have.unfinished o x before (unmade o x new (number_value fr.locals.this o self) before)) ∙ own in cc

      no_library : (b : Bool) → not (b && false) ≡ true
      no_library true = refl
      no_library false = refl

      owes : may_owe x ≡ true
      owes = ap (λ (b : Owner). not (x.finished && is_library_owner b)) own ∙ no_library x.finished

  -- ---- what a step keeps

  module _ (roots : (e ≡ None → is_new t.action ≡ true → target ≡ None) → KeepsRoots h K)
      (linked : e ≡ None → is_new t.action ≡ true → (k : ℕ) → target ≡ Some k → (u : ℕ) × (fr.locals.this ≡ values.Object u) × ((x : Object) × (object_at h u ≡ Some x)) × KeepsOtherRoots h K u × ((n : ℕ) → IsNumber h n → root h n ≡ u → root K n ≡ root h k) × (root K u ≡ root h k))
      (fields : KeepsFieldsButTexts p h K) (carries : Carries h K) (holders : HoldersWere p h K) (goes : OwnersGo p None (caller ∷ rest) at h K) where
    links_object : e ≡ None → is_new t.action ≡ true → (k : ℕ) → target ≡ Some k → LinksObject p h K
    links_object normal new k to = record {
      made = its.0;
      object = its.2.0;
      at = its.2.1;
      unfinished = unmade its.0 its.2.0 new its.1 its.2.1;
      heavy = wide;
      others = its.3;
      mine = λ n number is. its.4 n number is ∙ sym its.5;
    }
      where
        its : (u : ℕ) × (fr.locals.this ≡ values.Object u) × ((x : Object) × (object_at h u ≡ Some x)) × KeepsOtherRoots h K u × ((n : ℕ) → IsNumber h n → root h n ≡ u → root K n ≡ root h k) × (root K u ≡ root h k)
        its = linked normal new k to

        method : (m : Method) × (method_at p fr.method ≡ Some m)
        method = some_method (method_at p fr.method) (constructor new)

        position_of : (a : Option ℕ) → calls.alias_position plain ≡ a → (n : ℕ) × (a ≡ Some n)
        position_of None none = absurd (let never : None ≡ Some k = sym (ap (object_by (operand_of caller.locals t.action)) none) ∙ to in cc)
        position_of (Some n) some = (n, refl)

        aliased : (n : ℕ) × (method.0.sig.alias ≡ Some n)
        aliased = let n = position_of (calls.alias_position plain) refl in (n.0, ap alias_in (sym method.1) ∙ ap (λ (u : MethodId). alias_in (method_at p u)) (runs_named new) ∙ sym alias ∙ n.1)

        same : method.0.class ≡ its.2.0.class
        same = let both : Some method.0.class ≡ Some its.2.0.class = ap class_of_method (sym method.1) ∙ class_is its.0 its.2.0 new its.1 its.2.1 in (let it : method.0.class ≡ its.2.0.class = cc in it)

        wide : is_heavy_class p its.2.0.class ≡ true
        wide = elim (gives_object p ac.well_formed fr.method method.0 method.1 aliased.0 aliased.1) [
          | inl made ↦ ap (is_heavy_class p) (sym same) ∙ made.1
          | inr other ↦ absurd (true≢false (sym (sym (ap constructs method.1) ∙ constructor new) ∙ other.0))
        ]

    roots_go : KeepsRoots h K ⊎ LinksObject p h K
    roots_go = by e refl (is_new t.action) refl target refl
      where
        by : (x : Option ClassId) → e ≡ x → (b : Bool) → is_new t.action ≡ b → (k : Option ℕ) → target ≡ k → KeepsRoots h K ⊎ LinksObject p h K
        by (Some c) thrown b new k to = inl (roots (λ normal one. absurd (let never : None ≡ Some c = sym normal ∙ thrown in cc)))
        by None normal false earlier k to = inl (roots (λ other one. absurd (true≢false (sym one ∙ earlier))))
        by None normal true new None none = inl (roots (λ other one. none))
        by None normal true new (Some k) to = inr (links_object normal new k to)

    -- ---- the object of the `new`

    module _ (normal : e ≡ None) (new : is_new t.action ≡ true) (w : ℕ) (z y : Object) (f : FieldId) (o : ℕ) (x : Object) (this : fr.locals.this ≡ values.Object w) (before : object_at h w ≡ Some z) (owning : is_owning p f ≡ true)
        (heavy : is_heavy_in p (Some f) ≡ true) (class : IsFieldOfClass p f z.class) (at' : object_at K o ≡ Some x) (wide : is_heavy_class p x.class ≡ true) (owes : OwesOrHolds p K o x)
        (n : ℕ) (value : field_value p h w f ≡ values.Object n) (number : IsNumber h n) where
      here : HasPlace p fr f
      here = has_place w z f new this before owning class

      -- where the root of what the field holds stays
      module _ (same : root h n ≡ o) where
        held : root_of h (field_value p h w f) ≡ Some o
        held = ap (root_of h) value ∙ ap Some same

        earlier : (u : Object) × (object_at h o ≡ Some u) × (x.class ≡ u.class) × (OwesOrHolds p K o x → OwesOrHolds p h o u) × (u.finished ≡ true → Continues u x)
        earlier = carried_as_before p h K carries holders o x at' (numbered h links (values.Object n) o (ap Some same) (λ i is. subst (IsNumber h) (let both : Some n ≡ Some i = is in (let one : n ≡ i = cc in one)) number)).1

        earlier_wide : is_heavy_class p earlier.0.class ≡ true
        earlier_wide = ap (is_heavy_class p) (sym earlier.2) ∙ wide

        owned_alone : alias_position p st.number ≡ None → x.owner ≡ owners.Field w f
        owned_alone none = normal_keeps normal o earlier.0 x w f earlier.1 at' earlier_wide (alone_owns p ac h old (caller ∷ rest) fr st covered keeps_mine w this (constructor new) f owning heavy here o earlier.0 held earlier.1 earlier_wide (earlier.3 owes) none)

        argument_held : (i : ℕ) → alias_position p st.number ≡ Some (suc i) → root_of h (operand_of caller.locals t.action (suc i)) ≡ Some o
        argument_held i some =
            let method = some_method (method_at p fr.method) (constructor new) in
            ap (root_of h) (sym (args.parameters j t method.0 i there method.1 (spoken p ac fr st method.0 method.1 i (constructor new) some)))
            ∙ parameter_has p ac h old (caller ∷ rest) fr st covered keeps_mine w this (constructor new) f owning heavy here o earlier.0 held earlier.1 earlier_wide (earlier.3 owes) i some

        itself_held : alias_position p st.number ≡ Some 0 → root h w ≡ o
        itself_held some =
            let both : Some (root h w) ≡ Some o = ap (root_of h) (sym this) ∙ this_has p ac h old (caller ∷ rest) fr st covered keeps_mine w this (constructor new) f owning heavy here o earlier.0 held earlier.1 earlier_wide (earlier.3 owes) some in
            (let one : root h w ≡ o = cc in one)

      -- it is linked to none
      unlinked_owns : target ≡ None → root K n ≡ o → (x.owner ≡ owners.Field w f) ⊎ (root K w ≡ o)
      unlinked_owns none found = by (alias_position p st.number) refl
        where
          keeps : KeepsRoots h K
          keeps = roots (λ other one. none)

          same : root h n ≡ o
          same = sym (keeps n number) ∙ found

          no_argument : (u : Value) → number_of u ≡ None → root_of h u ≡ Some o → ⊥
          no_argument (values.Object i) is root' = let never : Some i ≡ None = is in cc
          no_argument u is root' = let never : None ≡ Some o = root' in cc

          by : (a : Option ℕ) → alias_position p st.number ≡ a → (x.owner ≡ owners.Field w f) ⊎ (root K w ≡ o)
          by None is = inl (owned_alone same is)
          by (Some zero) is = inr (keeps w (numbers_are_in_range h w z before) ∙ itself_held same is)
          by (Some (suc i)) is =
              absurd (no_argument (operand_of caller.locals t.action (suc i)) (sym (ap (object_by (operand_of caller.locals t.action)) (position new ∙ is)) ∙ none) (argument_held same i is))

      -- it is linked to the argument
      linked_owns : (k : ℕ) → target ≡ Some k → root K n ≡ o → (x.owner ≡ owners.Field w f) ⊎ (root K w ≡ o)
      linked_owns k to found = go (nat_eq (root h n) w) refl
        where
          its : (u : ℕ) × (fr.locals.this ≡ values.Object u) × ((x : Object) × (object_at h u ≡ Some x)) × KeepsOtherRoots h K u × ((n : ℕ) → IsNumber h n → root h n ≡ u → root K n ≡ root h k) × (root K u ≡ root h k)
          its = linked normal new k to

          one : its.0 ≡ w
          one = let both : values.Object its.0 ≡ values.Object w = sym its.1 ∙ this in (let it : its.0 ≡ w = cc in it)

          target_root : root K w ≡ root h k
          target_root = ap (root K) (sym one) ∙ its.5

          by_value : (u : Value) → number_of u ≡ Some k → root_of h u ≡ Some o → root h k ≡ o
          by_value (values.Object i) is root' =
              let number' : i ≡ k = (let both : Some i ≡ Some k = is in (let it : i ≡ k = cc in it)) in
              ap (root h) (sym number') ∙ (let both : Some (root h i) ≡ Some o = root' in (let it : root h i ≡ o = cc in it))
          by_value values.Nothing is root' = absurd (let never : None ≡ Some o = root' in cc)
          by_value u is root' = absurd (let never : None ≡ Some o = root' in cc)

          by : (root h n ≡ w → ⊥) → root h n ≡ o → (a : Option ℕ) → alias_position p st.number ≡ a → (x.owner ≡ owners.Field w f) ⊎ (root K w ≡ o)
          by other same None is = inl (owned_alone same is)
          by other same (Some zero) is = absurd (other (same ∙ sym (itself_held same is) ∙ self))
            where
              self : root h w ≡ w
              self = let both : Some (root h w) ≡ Some w = unlinked_root h links w z before (unmade w z new this before) in (let it : root h w ≡ w = cc in it)
          by other same (Some (suc i)) is =
              inr (target_root ∙ by_value (operand_of caller.locals t.action (suc i)) (sym (ap (object_by (operand_of caller.locals t.action)) (position new ∙ is)) ∙ to) (argument_held same i is))

          go : (b : Bool) → nat_eq (root h n) w ≡ b → (x.owner ≡ owners.Field w f) ⊎ (root K w ≡ o)
          go true is = inr (target_root ∙ sym (its.4 n number (eqb-true (root h n) w is ∙ sym one)) ∙ found)
          go false apart =
              let other : root h n ≡ w → ⊥ = λ is. true≢false (sym (eq-eqb (root h n) w is) ∙ apart) in
              by other (sym (its.3 n number (λ is. other (is ∙ one))) ∙ found) (alias_position p st.number) refl

      -- so the field owns it where the constructor has no aliased argument
      plain_owns : alias_position p st.number ≡ None → root K n ≡ o → x.owner ≡ owners.Field w f
      plain_owns none found = owned_alone (sym (roots (λ other one. ap (object_by (operand_of caller.locals t.action)) (position new ∙ none)) n number) ∙ found) none

      new_owns : root K n ≡ o → (x.owner ≡ owners.Field w f) ⊎ (root K w ≡ o)
      new_owns found = by target refl
        where
          by : (k : Option ℕ) → target ≡ k → (x.owner ≡ owners.Field w f) ⊎ (root K w ≡ o)
          by None none = unlinked_owns none found
          by (Some k) to = linked_owns k to found

    new_own : NewOwn p h K
    new_own w z y f o x before now open' done owning heavy class found at' wide owes = elim (end_back p at fr.locals.this caller.locals t.action plain gone no_reset e w y now) [
      | inl made ↦ inl (alone made.2.normal (same_new t.action made.2.new) (number_value fr.locals.this w made.2.self) made.2.own (field_value p h w f) refl found)
      | inr other ↦ elim other [
        | inl made ↦ elim (by made.2.normal (same_new t.action made.2.new) (number_value fr.locals.this w made.2.self) (field_value p h w f) refl found) [
          | inl mine ↦ inl mine
          | inr linked ↦ inr (linked, library_owns target made.0 made.2.linked)
        ]
        | inr noted ↦ absurd (
            let u = gone_back p at fr.locals.this (method_at p fr.method) v e h w noted.0 noted.1 in
            let was = result_back p at (method_at p fr.method) v h e w u.0 u.1 in
            true≢false (sym done ∙ sym (ap (λ (b : Object). b.finished) noted.2) ∙ u.2.finished ∙ was.goes_on.finished ∙ ap (λ (b : Object). b.finished) (one_object was.before z (object_at h w) was.at before) ∙ open'))
      ]
    ]
      where
        by : e ≡ None → is_new t.action ≡ true → fr.locals.this ≡ values.Object w → (u : Value) → field_value p h w f ≡ u → root_of K u ≡ Some o → (x.owner ≡ owners.Field w f) ⊎ (root K w ≡ o)
        by normal new this (values.Object n) value found' =
            new_owns normal new w z y f o x this before owning heavy class at' wide owes n value (held_in_range p h w f n ranges value).1 (let both : Some (root K n) ≡ Some o = found' in (let one : root K n ≡ o = cc in one))
        by normal new this values.Nothing value found' = absurd (let never : None ≡ Some o = found' in cc)
        by normal new this u value found' = absurd (let never : None ≡ Some o = found' in cc)

        no_alias : is_new t.action ≡ true → is_alias plain ≡ false → alias_position p st.number ≡ None
        no_alias new own = sym (position new) ∙ go (calls.alias_position plain) own
          where
            go : (a : Option ℕ) → is_some a ≡ false → a ≡ None
            go None none = refl
            go (Some k) some = absurd (true≢false some)

        alone : e ≡ None → is_new t.action ≡ true → fr.locals.this ≡ values.Object w → is_alias plain ≡ false → (u : Value) → field_value p h w f ≡ u → root_of K u ≡ Some o → x.owner ≡ owners.Field w f
        alone normal new this own (values.Object n) value found' =
            plain_owns normal new w z y f o x this before owning heavy class at' wide owes n value (held_in_range p h w f n ranges value).1 (no_alias new own) (let both : Some (root K n) ≡ Some o = found' in (let one : root K n ≡ o = cc in one))
        alone normal new this own values.Nothing value found' = absurd (let never : None ≡ Some o = found' in cc)
        alone normal new this own u value found' = absurd (let never : None ≡ Some o = found' in cc)

        -- an alias of null is the library's
        library_owns : (k : Option ℕ) (u : Object) → IsLinkedTo p k u y → y.link ≡ None → is_library_owner y.owner ≡ true
        library_owns None u linked none = ap is_library_owner linked.1
        library_owns (Some k) u linked none = absurd (let never : None ≡ Some _ = sym none ∙ linked.2 in cc)

    pub fields_own_at_end : (FieldsOwn p h → FieldsOwn p K) × (MakersOwn p h (caller ∷ rest) → MakersOwn p K (caller ∷ rest))
    fields_own_at_end = (
      λ owned. fields_own_on p h K links ranges have.unfinished (field_stays p h K fields (finished_keep p None (caller ∷ rest) at h K have.unfinished goes)) (carried_as_before p h K carries holders) roots_go new_own owned,
      makers_own_on p h K links ranges have.unfinished fields (carried_as_before p h K carries holders) roots_go (caller ∷ rest)
          (all_made_kept p None (caller ∷ rest) at h K have.unfinished goes (caller ∷ rest) (λ w others. others)),
    )
