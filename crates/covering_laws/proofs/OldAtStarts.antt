-- What is old for a frame as a call begins it: the ways up in the heap that the call makes of what it was.
use Rattle.std.specs.List.{list_all}
use Rattle.std.specs.FinSet as set
use Rattle.std.proofs.Common.{◌≡◌, ◌⊎◌, inl, inr, ℕ, zero, suc, ◌+◌, ◌||◌, ◌&&◌, Bool, true, false, not, Option, Some, None, List, [], ◌∷◌, length, slice_get, refl, sym, ap, ◌∙◌, subst, true≢false, arith}
use Rattle.std.proofs.lemmas.Bool.{and_from, and_parts, or_left, or_right}
use Rattle.rlc_base.proofs.SetLaws.{empty_within}
use Rattle.program_model.specs.declared.kinds.ClassId.{ClassId}
use Rattle.program_model.specs.declared.kinds.FieldId.{FieldId}
use Rattle.program_model.specs.declared.kinds.VType.{VType}
use Rattle.program_model.specs.declared.kinds.VType.TheVariants as types
use Rattle.program_model.specs.declared.program.Method.{Method}
use Rattle.program_model.specs.declared.program.ParamSig.{ParamSig}
use Rattle.program_model.specs.declared.program.Program.{Program}
use Rattle.program_model.specs.Lookups.{method_at}
use Rattle.program_model.specs.Overrides.{is_type}
use Rattle.control_actions.specs.declared.action.Action.{Action}
use Rattle.ledger_obligations.specs.Bodies.{alias_in, constructs, reset_in}
use Rattle.ownership_rules.specs.Signatures.{is_present}
use Rattle.ledger_obligations.specs.MustCallSets.{Names, is_empty, is_heavy_class, must_of, must_of_type, no_names}
use Rattle.ledger_obligations.specs.OverrideCases.{differ}
use Rattle.ledger_obligations.specs.Obligations.{is_library_owner, is_unmet}
use Rattle.ledger_state.specs.Contents.{HeapContents}
use Rattle.ledger_state.specs.Heaps.{object_at}
use Rattle.ledger_state.specs.declared.entry.Owner.TheVariants as owners
use Rattle.ledger_state.specs.declared.locals.Locals.{Locals}
use Rattle.ledger_state.specs.declared.object.Object.{Object}
use Rattle.ledger_state.specs.declared.value.Value.TheVariants as values
use Rattle.ledger_steps.specs.CallSteps.{began_heap}
use Rattle.ledger_steps.specs.LedgerCallsCalls.{operand_of, params_in}
use Rattle.value_laws.specs.Chains.{HaveEnds, IsLast}
use Rattle.value_laws.specs.Configuration.{Frame}
use Rattle.value_laws.specs.FieldContents.{HaveContents, is_made_in}
use Rattle.value_laws.specs.HeapAnew.{is_field_owner}
use Rattle.value_laws.specs.Heaps.{HasEarlierLinks, IsGiven}
use Rattle.value_laws.specs.Holders.{HasTop, HoldersAreUnlinked, IsWithin, UnfinishedAreUnowned, by_field, itself}
use Rattle.value_laws.specs.PlaceFacts.{IsHeavyObject, IsInFieldBelow, IsOld, OwnersBelow, RunsOn, is_frame_from, is_settled, leaves_all, run_on_one, takes_nothing}
use Rattle.value_laws.specs.Renewing.{lends_this, reopens}
use Rattle.value_laws.specs.PlainForms.{RunsFor, is_lent_parameter}
use Rattle.value_laws.proofs.Begun.{begun_from}
use Rattle.value_laws.proofs.Chains.{IsOwnedAs, ends_on, object_there}
use Rattle.value_laws.proofs.Growth.{began_grows}
use Rattle.value_laws.proofs.HeapLaws.{numbers_are_in_range}
use Rattle.value_laws.proofs.OldObjects.{begins_old, old_now}
use Rattle.value_laws.proofs.RootLaws.{one_object}
use Rattle.value_laws.proofs.SettledFrames.{same_this}
use Rattle.value_laws.proofs.WaysUp.{on_from_holder, top_is_last, within_goes_on}
use Rattle.covering_laws.proofs.EntryBirths.{alike_parameter, class_type_is}
use Rattle.covering_laws.proofs.GivenArguments.{heavy_by_fit}
use Rattle.covering_laws.proofs.HeavyFields.{answers_by}
use Rattle.covering_laws.proofs.OlderHolders.{makes_on}
use Rattle.covering_laws.proofs.Owners.{no_frame_from}
use Rattle.covering_laws.proofs.OwnerSteps.{movable, own_frame}
use Rattle.covering_laws.proofs.StepWays.{start_unowned}

module _ (p : Program) (l : Locals) (a : Action) (named : Option Method) (j : ℕ) (h : HeapContents) (links : HasEarlierLinks h) (have : HaveEnds h) where
  abbrev begun : HeapContents
  begun = began_heap p l a named j h

  unowned : UnfinishedAreUnowned begun
  unowned = start_unowned p l a named j h links have.unfinished

  -- the ways up end as they did, or at what the call gives to the frame
  from : (n : ℕ) (y : Object) → object_at begun n ≡ Some y → IsOwnedAs h begun n y
  from n y at = elim (begun_from p l a named j h links n y at) [
    | inl new ↦ (let nobody = unowned n y at new.unfinished in inl (subst IsLast (sym nobody) tt, inr nobody))
    | inr old ↦ elim old.owner [
      | inl same ↦ inr (inl (old.before, old.at, (same, old.goes_on.finished)))
      | inr given ↦ inl (subst IsLast (sym given.0) tt, inl (old.goes_on.finished ∙ (movable p given.1.param.vtype old.before given.1.may).0))
    ]
  ]

  pub start_ends : HaveEnds begun
  start_ends = ends_on h begun have (let grows = began_grows p l a named j h in let count = grows.count in omega (arith, count)) from

  -- what is old for a frame that begins on these, besides what was old for its caller
  abbrev pub old_then : List Frame → ℕ → Bool
  old_then stack = old_now begun start_ends (length stack + 1)

  module _ (caller : Frame) (frs : List Frame) (unlinked : HoldersAreUnlinked (is_heavy_class p) h) (contents : HaveContents p (caller ∷ frs) h) where
    abbrev stack : List Frame
    stack = caller ∷ frs

    -- what a field owns it owned
    held_before : (o : ℕ) (x : Object) (v : ℕ) (f : FieldId) → object_at begun o ≡ Some x → x.owner ≡ owners.Field v f → (z : Object) × (object_at h o ≡ Some z) × (z.owner ≡ owners.Field v f) × (z.class ≡ x.class)
    held_before o x v f at owns = elim (begun_from p l a named j h links o x at) [
      | inl new ↦ absurd (let never : owners.Unowned ≡ owners.Field v f = sym (unowned o x at new.unfinished) ∙ owns in cc)
      | inr old ↦ elim old.owner [
        | inl same ↦ (old.before, old.at, sym same ∙ owns, sym old.goes_on.class)
        | inr given ↦ absurd (let never : owners.Frame j ≡ owners.Field v f = sym given.0 ∙ owns in cc)
      ]
    ]

    -- an object that was there
    there_now : (v : ℕ) (z : Object) → object_at h v ≡ Some z → (y : Object) × (object_at begun v ≡ Some y) × (y.class ≡ z.class) × (y.finished ≡ z.finished)
    there_now v z before =
        let range = numbers_are_in_range h v z before in
        let above = range.0 in
        let under = range.1 in
        let grows = began_grows p l a named j h in
        let count = grows.count in
        let y = object_there begun v z above (omega (arith, under, count)) in
        elim (begun_from p l a named j h links v y.0 y.1) [
          | inl new ↦ absurd (let number = new.number in omega (arith, number, under))
          | inr old ↦ (
              let same = one_object old.before z (object_at h v) old.at before in
              (y.0, y.1, old.goes_on.class ∙ ap (λ (u : Object). u.class) same, old.goes_on.finished ∙ ap (λ (u : Object). u.finished) same))
        ]

    -- The object whose field owns one with an obligation has one; it is finished, or a frame runs on it.
    pub record IsHolderNow (v : ℕ) : Type 0 where
      pub object : Object
      pub at : object_at begun v ≡ Some object
      pub heavy : is_heavy_class p object.class ≡ true
      pub ready : (object.finished ≡ true) ⊎ ((object.finished ≡ false) × RunsOn v stack)

    ready_by : (k : ClassId) (v : ℕ) (b d : Bool) → d ≡ b → (b ≡ false → is_made_in p v k stack ≡ true) → (d ≡ true) ⊎ ((d ≡ false) × RunsOn v stack)
    ready_by k v true d same made = inl same
    ready_by k v false d same made = inr (same, makes_on p v k stack (made refl))

    holder_now : (o : ℕ) (x : Object) (v : ℕ) (f : FieldId) → object_at begun o ≡ Some x → is_heavy_class p x.class ≡ true → x.owner ≡ owners.Field v f → IsHolderNow v
    holder_now o x v f at heavy owns =
        let z = held_before o x v f at owns in
        let wide : is_heavy_class p z.0.class ≡ true = ap (is_heavy_class p) z.3 ∙ heavy in
        let w = unlinked o z.0 v f z.1 wide z.2 in
        let c = contents o z.0 v f z.1 (or_right (is_unmet z.0) (is_heavy_class p z.0.class) wide) z.2 in
        let y = there_now v c.holder c.at in
        record {
          object = y.0;
          at = y.1;
          heavy = ap (is_heavy_class p) (y.2 ∙ ap (λ (u : Object). u.class) (one_object c.holder w.0 (object_at h v) c.at w.1)) ∙ w.3;
          ready = ready_by c.field.class v c.holder.finished y.0.finished y.3 c.made;
        }

    -- the way up from an object with an obligation leads to objects that have one
    heavy_above : (o e : ℕ) (x z : Object) → IsWithin begun o e → object_at begun o ≡ Some x → is_heavy_class p x.class ≡ true → object_at begun e ≡ Some z → is_heavy_class p z.class ≡ true
    heavy_above _ _ x z (itself o) at heavy there = ap (λ (u : Object). is_heavy_class p u.class) (one_object z x (object_at begun o) there at) ∙ heavy
    heavy_above _ _ x z (by_field o v e f y at' owns rest) at heavy there =
        let w = holder_now o x v f at heavy (ap (λ (u : Object). u.owner) (one_object x y (object_at begun o) at at') ∙ owns) in
        heavy_above v e w.object z rest w.at w.heavy there

    -- where such a way ends at an object that is not finished, a frame runs on that
    runs_on_end : (o e : ℕ) (x z : Object) → IsWithin begun o e → object_at begun o ≡ Some x → is_heavy_class p x.class ≡ true → x.finished ≡ true → object_at begun e ≡ Some z → z.finished ≡ false → RunsOn e stack
    runs_on_end _ _ x z (itself o) at heavy done there open' = absurd (true≢false (sym done ∙ ap (λ (u : Object). u.finished) (one_object x z (object_at begun o) at there) ∙ open'))
    runs_on_end _ _ x z (by_field o v e f y at' owns rest) at heavy done there open' =
        let w = holder_now o x v f at heavy (ap (λ (u : Object). u.owner) (one_object x y (object_at begun o) at at') ∙ owns) in
        by w.object w.at w.ready (λ ready. runs_on_end v e w.object z rest w.at w.heavy ready there open')
      where
        by : (u : Object) → object_at begun v ≡ Some u → (u.finished ≡ true) ⊎ ((u.finished ≡ false) × RunsOn v stack) → (u.finished ≡ true → RunsOn e stack) → RunsOn e stack
        by u here (inl ready) on = on ready
        by u here (inr (unready, runs)) on = subst (λ (n : ℕ). RunsOn n stack) (top_is_last begun v e u here (ap is_field_owner (unowned v u here unready)) rest) runs

    -- ---- what the frame takes

    at_all : {X : Type 0} (test : X → Bool) (xs : List X) (i : ℕ) (x : X) → list_all test xs ≡ true → slice_get xs i ≡ Some x → test x ≡ true
    at_all test [] zero x all at = absurd (let never : None ≡ Some x = at in cc)
    at_all test [] (suc i) x all at = absurd (let never : None ≡ Some x = at in cc)
    at_all test (y ∷ ys) zero x all at = ap test (let both : Some x ≡ Some y = sym at in (let one : x ≡ y = cc in one)) ∙ (and_parts (test y) (list_all test ys) all).0
    at_all test (y ∷ ys) (suc i) x all at = at_all test ys i x (and_parts (test y) (list_all test ys) all).1 at

    same_marks : (a b : Bool) → differ a b ≡ false → b ≡ true → a ≡ true
    same_marks true b same is = refl
    same_marks false b same is = absurd (true≢false (sym is ∙ same))

    module _ (n r : Method) (at_named : named ≡ Some n) (fit : RunsFor p n r) (takes : takes_nothing p (Some r) ≡ true) where
      -- nothing with an obligation moves to its parameters
      takes_none : (e : ℕ) (z : Object) → is_heavy_class p z.class ≡ true → IsGiven p (operand_of l a) 1 (params_in named) h e z → ⊥
      takes_none e z heavy g = by g.param.vtype refl
        where
          wide : not (is_empty (must_of_type p g.param.vtype)) ≡ true
          wide = heavy_by_fit p z.class g.param.vtype heavy (and_parts (z.finished && not (is_library_owner z.owner)) (set.is_subset (must_of p z.class) (must_of_type p g.param.vtype)) g.may).1

          like : (x : ParamSig) × (slice_get r.sig.params.items g.index ≡ Some x) × (is_type x.vtype g.param.vtype ≡ true) × (differ x.owning g.param.owning ≡ false)
          like = alike_parameter r.sig.params.items n.sig.params.items g.index g.param fit.types fit.owning (ap (λ (m : Option Method). slice_get (params_in m) g.index) (sym at_named) ∙ g.at)

          lent : is_lent_parameter p (Some like.0) ≡ true
          lent = at_all (λ (x : ParamSig). is_lent_parameter p (Some x)) r.sig.params.items g.index like.0 takes like.1

          owning : like.0.owning ≡ true
          owning = same_marks like.0.owning g.param.owning like.3 g.owning

          light : not (is_empty (must_of_type p like.0.vtype)) ≡ true → ⊥
          light some = true≢false (sym lent ∙ ap not (and_from like.0.owning (not (is_empty (must_of_type p like.0.vtype))) owning some))

          no_names_at : (t : VType) → g.param.vtype ≡ t → must_of_type p t ≡ no_names → ⊥
          no_names_at t type none = true≢false (sym wide ∙ ap (λ (s : VType). not (is_empty (must_of_type p s))) type ∙ ap (λ (s : Names). not (is_empty s)) none ∙ ap not (empty_within no_names))

          by : (t : VType) → g.param.vtype ≡ t → ⊥
          by (types.Obj c) type =
              let same : like.0.vtype ≡ types.Obj c = class_type_is like.0.vtype c (ap (is_type like.0.vtype) (sym type) ∙ like.2) in
              light (ap (λ (s : VType). not (is_empty (must_of_type p s))) (same ∙ sym type) ∙ wide)
          by (types.Primitive k) type = no_names_at (types.Primitive k) type refl
          by types.Str type = no_names_at types.Str type refl
          by (types.Arr k) type = no_names_at (types.Arr k) type refl
          by types.NullType type = no_names_at types.NullType type refl

      -- so no frame from its position on owns an object with an obligation
      owned_below : (i : ℕ) → OwnersBelow h i → (e : ℕ) (z : Object) → object_at begun e ≡ Some z → is_heavy_class p z.class ≡ true → is_frame_from (i + 1) z.owner ≡ false
      owned_below i low e z at heavy = elim (begun_from p l a named j h links e z at) [
        | inl new ↦ ap (is_frame_from (i + 1)) (unowned e z at new.unfinished)
        | inr old ↦ elim old.owner [
          | inl same ↦ ap (is_frame_from (i + 1)) same ∙ low e old.before old.at
          | inr given ↦ absurd (takes_none e old.before (ap (is_heavy_class p) (sym old.goes_on.class) ∙ heavy) given.1)
        ]
      ]

    -- ---- what ends elsewhere

    -- The caller owns what the call gives; and no frame from the caller on owns the end of its `this`, where the frame above may be settled by it.
    module _ (gives : (n : ℕ) (x : Object) → object_at h n ≡ Some x → is_heavy_class p x.class ≡ true → IsGiven p (operand_of l a) 1 (params_in named) h n x → x.owner ≡ owners.Frame (length frs + 1))
        (ends : (w : ℕ) (y : Object) → caller.locals.this ≡ values.Object w → object_at h w ≡ Some y → IsHeavyObject p y → y.link ≡ None → (e : ℕ) (top : HasTop h w e)
        → (constructs (method_at p caller.method) || (reopens (method_at p caller.method) || is_settled p caller frs)) ≡ true → is_frame_from (length frs + 1) top.object.owner ≡ false) where
      -- so it is when the call has begun
      free_still : (w e : ℕ) (y z : Object) → caller.locals.this ≡ values.Object w → object_at begun w ≡ Some y → object_at h w ≡ Some z → IsHeavyObject p z → z.link ≡ None
          → (constructs (method_at p caller.method) || (reopens (method_at p caller.method) || is_settled p caller frs)) ≡ true → is_heavy_class p y.class ≡ true → (top : HasTop begun w e) → is_frame_from (length stack + 1) top.object.owner ≡ false
      free_still w e y z this at before wide none some heavy top = elim (begun_from p l a named j h links e top.object top.at) [
        | inl new ↦ ap (is_frame_from (length stack + 1)) (unowned e top.object top.at new.unfinished)
        | inr old ↦ elim old.owner [
          | inl same ↦ ap (is_frame_from (length stack + 1)) same ∙ no_frame_from (length frs + 1) (length stack + 1) old.before.owner (omega arith) (free old.before old.at (sym (ap is_field_owner same) ∙ top.unheld))
          | inr given ↦ (
              let mine = gives e old.before old.at (ap (is_heavy_class p) (sym old.goes_on.class) ∙ heavy_above w e y top.object top.within at heavy top.at) given.1 in
              absurd (true≢false (sym (own_frame (length frs + 1) old.before.owner mine) ∙ free old.before old.at (ap is_field_owner mine))))
        ]
      ]
        where
          was : IsWithin h w e
          was = within_goes_on begun h w e (λ o x v f there owns. (let it = held_before o x v f there owns in (it.0, it.1, it.2))) top.within

          free : (u : Object) → object_at h e ≡ Some u → is_field_owner u.owner ≡ false → is_frame_from (length frs + 1) u.owner ≡ false
          free u there unheld = ends w z this before wide none e (record { within = was; object = u; at = there; unheld = unheld }) some

      -- an object that is finished was so
      was_ready : (w : ℕ) (y : Object) → object_at begun w ≡ Some y → y.finished ≡ true → (z : Object) × (object_at h w ≡ Some z) × (y.class ≡ z.class) × (y.link ≡ z.link) × (z.finished ≡ true)
      was_ready w y at done = elim (begun_from p l a named j h links w y at) [
        | inl new ↦ absurd (true≢false (sym done ∙ new.unfinished))
        | inr old ↦ (old.before, old.at, old.goes_on.class, old.goes_on.link, sym old.goes_on.finished ∙ done)
      ]

      -- what a field of the caller's `this` owns
      field_free : (o e : ℕ) (x : Object) → object_at begun o ≡ Some x → IsHeavyObject p x → IsInFieldBelow p stack x.owner → (top : HasTop begun o e) → is_frame_from (length stack + 1) top.object.owner ≡ false
      field_free o e x at heavy (answers, keeps, own) top = by (on_from_holder begun o own.holder e own.field x at own.owns top.within)
        where
          holder : IsHolderNow own.holder
          holder = holder_now o x own.holder own.field at heavy.1 own.owns

          some : (constructs (method_at p caller.method) || (reopens (method_at p caller.method) || is_settled p caller frs)) ≡ true
          some = elim (answers_by (method_at p caller.method) answers) [
            | inl alone ↦ or_left (constructs (method_at p caller.method)) (reopens (method_at p caller.method) || is_settled p caller frs)
                (and_parts (constructs (method_at p caller.method)) (not (is_present (alias_in (method_at p caller.method)))) alone).0
            | inr opens ↦ or_right (constructs (method_at p caller.method)) (reopens (method_at p caller.method) || is_settled p caller frs) (or_left (reopens (method_at p caller.method)) (is_settled p caller frs) opens)
          ]

          single : (z : Object) → object_at h own.holder ≡ Some z → z.link ≡ None
          single z before =
              let was = held_before o x own.holder own.field at own.owns in
              let w = unlinked o was.0 own.holder own.field was.1 (ap (is_heavy_class p) was.3 ∙ heavy.1) was.2 in
              ap (λ (u : Object). u.link) (one_object z w.0 (object_at h own.holder) before w.1) ∙ w.2

          at_holder : IsWithin begun own.holder e → is_frame_from (length stack + 1) top.object.owner ≡ false
          at_holder up = elim holder.ready [
            | inl ready ↦ (
                let z = was_ready own.holder holder.object holder.at ready in
                free_still own.holder e holder.object z.0 own.runs holder.at z.1 (z.4, ap (is_heavy_class p) (sym z.2) ∙ holder.heavy) (single z.0 z.1) some holder.heavy
                (record { within = up; object = top.object; at = top.at; unheld = top.unheld }))
            | inr open' ↦ (
                let nobody = unowned own.holder holder.object holder.at open'.0 in
                let same = top_is_last begun own.holder e holder.object holder.at (ap is_field_owner nobody) up in
                ap (λ (u : Object). is_frame_from (length stack + 1) u.owner) (one_object top.object holder.object (object_at begun e) top.at (ap (object_at begun) (sym same) ∙ holder.at)) ∙ ap (is_frame_from (length stack + 1)) nobody)
          ]

          by : (o ≡ e) ⊎ IsWithin begun own.holder e → is_frame_from (length stack + 1) top.object.owner ≡ false
          by (inl same) = absurd (true≢false (
              sym (ap is_field_owner own.owns) ∙ ap (λ (u : Object). is_field_owner u.owner) (one_object x top.object (object_at begun e) (ap (object_at begun) (sym same) ∙ at) top.at) ∙ top.unheld))
          by (inr up) = at_holder up

      -- ---- what is old

      module _ (n r : Method) (at_named : named ≡ Some n) (fit : RunsFor p n r) (low : OwnersBelow h (length stack)) (fr : Frame) (runs : method_at p fr.method ≡ Some r) where
        takes_by : leaves_all p (method_at p fr.method) ≡ true → takes_nothing p (Some r) ≡ true
        takes_by leaves =
            let both = and_parts (not (constructs (method_at p fr.method)) && takes_nothing p (method_at p fr.method)) (not (is_present (reset_in (method_at p fr.method)))) leaves in
            ap (takes_nothing p) (sym runs) ∙ (and_parts (not (constructs (method_at p fr.method))) (takes_nothing p (method_at p fr.method)) both.0).1

        self_free : (w e : ℕ) (y : Object) → fr.locals.this ≡ values.Object w → object_at begun w ≡ Some y → IsHeavyObject p y → y.link ≡ None → is_settled p fr stack ≡ true → (top : HasTop begun w e) → is_frame_from (length stack + 1) top.object.owner ≡ false
        self_free w e y this at heavy none settled top = go (leaves_all p (method_at p fr.method)) refl settled
          where
            go : (b : Bool) → leaves_all p (method_at p fr.method) ≡ b
                → (b || run_on_one fr caller && not (lends_this p caller) && (constructs (method_at p caller.method) || (reopens (method_at p caller.method) || is_settled p caller frs))) ≡ true
                → is_frame_from (length stack + 1) top.object.owner ≡ false
            go true leaves some = owned_below n r at_named fit (takes_by leaves) (length stack) low e top.object top.at (heavy_above w e y top.object top.within at heavy.1 top.at)
            go false other some =
                let both = and_parts (run_on_one fr caller && not (lends_this p caller)) (constructs (method_at p caller.method) || (reopens (method_at p caller.method) || is_settled p caller frs)) some in
                let one = (and_parts (run_on_one fr caller) (not (lends_this p caller)) both.0).0 in
                let z = was_ready w y at heavy.0 in
                free_still w e y z.0 (same_this fr caller w one this) at z.1 (z.4, ap (is_heavy_class p) (sym z.2) ∙ heavy.1) (sym z.3 ∙ none) both.1 heavy.1 top

        pub starts_old : IsOld p begun stack fr (old_then stack)
        starts_old = begins_old p begun start_ends stack fr
            (λ o e x at heavy top open'. runs_on_end o e x top.object top.within at heavy.1 heavy.0 top.at open')
            (λ o e x at heavy field top. field_free o e x at heavy field top)
            (λ o e x at heavy content leaves top. owned_below n r at_named fit (takes_by leaves) (length stack) low e top.object top.at (heavy_above o e x top.object top.within at heavy.1 top.at))
            (λ w e y this at heavy none settled top. self_free w e y this at heavy none settled top)
