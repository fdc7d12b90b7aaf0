-- What a call creates anew, and what is stored into an owning field, is of a class that the rules on owning fields see: by the static types of operands,
-- and by the signatures that make aliases. Where a text may stand in an owning field, no method creates the obligation of a text anew.
use Rattle.std.proofs.Common.{◌≡◌, inl, inr, ℕ, zero, suc, ◌+◌, ◌<◌, ◌≤◌, Bool, true, false, true≢false, not, ◌&&◌, ◌||◌, Option, Some, None, Contains, IsSomeAnd, List, [], ◌∷◌, length, codes, slice_get, refl, sym, ap, ◌∙◌, subst, arith, if◌then◌else◌}
use Rattle.std.specs.FinSet as set
use Rattle.std.specs.List.{All, flat_map, list_any}
use Rattle.std.proofs.lemmas.Bool.{and_from, and_parts, eq-eqb, or_left, or_parts, or_right}
use Rattle.std.proofs.lemmas.List.Elements.{All-head, All-tail}
use Rattle.rlc_base.proofs.SetLaws.{within_self}
use Rattle.rlc_base.specs.declared.code.Code.TheVariants as refused
use Rattle.refusal_order.specs.Refusals.{refused_at, where_true}
use Rattle.program_model.specs.declared.kinds.ClassId.{ClassId}
use Rattle.program_model.specs.declared.kinds.FieldId.{FieldId}
use Rattle.program_model.specs.declared.kinds.MethodId.{MethodId}
use Rattle.program_model.specs.declared.kinds.VType.{VType}
use Rattle.program_model.specs.declared.kinds.VType.TheVariants as types
use Rattle.program_model.specs.declared.program.Class.{Class}
use Rattle.program_model.specs.declared.program.Field.{Field}
use Rattle.program_model.specs.declared.program.Method.{Method}
use Rattle.program_model.specs.declared.program.ParamSig.{ParamSig}
use Rattle.program_model.specs.declared.program.Program.{Program}
use Rattle.program_model.specs.Hierarchy.{itself}
use Rattle.program_model.specs.Lookups.{class_at, field_at, method_at}
use Rattle.program_model.specs.Overrides.{is_library}
use Rattle.program_model.specs.SuperTests.{classes_above, has_class, is_class, is_under}
use Rattle.program_model.specs.Typing.{IsDeclarable}
use Rattle.program_model.specs.Validity.{IsTypedProgram}
use Rattle.program_model.proofs.HierarchyLaws.{is_under_law}
use Rattle.must_call_sets.specs.MustCallSets.{is_empty, is_heavy_class, must_of, must_of_optional, no_names}
use Rattle.must_call_sets.specs.Overridings.{overridings}
use Rattle.must_call_sets.specs.ResetCases.{has_bad_target, is_class_type_in, is_some_finalizer, reset_cases_of_method, reset_cases_of_override}
use Rattle.must_call_sets.specs.OwningCases.{gives_alias_of, gives_as_alias, has_alias, is_alias_of_type, is_assigned_from_outside, is_class_type, is_of_type, is_reset_alias, is_reset_somewhere, is_unseen_reset, may_be_held, may_be_reset, may_hold_unseen_reset, resets_objects, resets_some_alias, type_at_some}
use Rattle.must_call_sets.specs.Bodies.{is_extended}
use Rattle.must_call_sets.specs.Signatures.{is_present, type_at, type_in}
use Rattle.java_control.specs.Calls.{called_method}
use Rattle.java_control.specs.Control.{Step}
use Rattle.control_actions.specs.declared.action.Action.TheVariants as actions
use Rattle.ledger_state.specs.Classes.{class_in}
use Rattle.ledger_state.specs.Contents.{HeapContents}
use Rattle.ledger_state.specs.Heaps.{object_at, root, root_of}
use Rattle.ledger_state.specs.Locals.{temp_value}
use Rattle.ledger_state.specs.Values.{number_of}
use Rattle.ledger_state.specs.declared.object.Link.{Link}
use Rattle.ledger_state.specs.declared.object.Object.{Object}
use Rattle.ledger_state.specs.declared.value.Value.{Value}
use Rattle.ledger_state.specs.declared.value.Value.TheVariants as values
use Rattle.ledger_steps.specs.LedgerCallsCalls.{object_by, operand_of}
use Rattle.ledger_obligations.specs.Obligations.{finished_in}
use Rattle.covering_laws.specs.Accept.{Accept}
use Rattle.covering_laws.specs.AgreementConditions.{OwnsNoRenewedText, may_be_text, may_renew_text}
use Rattle.covering_laws.specs.Choosing.{frame_steps}
use Rattle.covering_laws.specs.Configuration.{Frame}
use Rattle.covering_laws.specs.ClassOperands.{IsNotAboveString, IsOfClass, OfClass, own_type, type_of_field}
use Rattle.covering_laws.proofs.Bodies.{running_method}
use Rattle.covering_laws.specs.Agreement.{AllStand, IsStacked, Stands}
use Rattle.covering_laws.specs.ClassValues.{FrameFitsClass, FramesFitClass, IsOnInstance}
use Rattle.covering_laws.specs.HeapAnew.{finished_root, target_root}
use Rattle.covering_laws.specs.Heaps.{HasEarlierLinks}
use Rattle.covering_laws.specs.LibraryClasses.{HasLightTexts, is_receiver, renews_own_text}
use Rattle.covering_laws.specs.Linking.{IsAliased, IsGivenAsAlias, LinkedAreAliases, LinksReachAliased}
use Rattle.covering_laws.specs.Objects.{object_class}
use Rattle.covering_laws.specs.Operands as operands
use Rattle.covering_laws.specs.Operands.{NoObject, params_of}
use Rattle.covering_laws.specs.Renewable.{IsFollowed, IsRenewable, renews_each, takes_each}
use Rattle.covering_laws.specs.Making.{AreBeingMade}
use Rattle.covering_laws.proofs.MadeTargets.{makes_this}
use Rattle.covering_laws.specs.Sight.{ActsByRules, ActsInSight, AllActByRules, AllActInSight, IsOnObject, MakesThis, RunOnObjects}
use Rattle.covering_laws.specs.TextUpdates.{AllUpdateTexts, UpdatesTexts}
use Rattle.covering_laws.specs.Types.{IsNoObjectButText, KeepAll, KeepsTypes, is_text}
use Rattle.covering_laws.specs.Values.{FitsClass, HasClassUnder}
use Rattle.covering_laws.proofs.AliasConducts.{argument_has_names}
use Rattle.covering_laws.proofs.Cases.{same_class}
use Rattle.covering_laws.proofs.ClassArguments.{IsUnderAt, class_of_fit, parameter_fits, receiver_under, stored_fits}
use Rattle.covering_laws.proofs.GivenAliases.{gives_as, seen_is_heavy, some_passes}
use Rattle.covering_laws.proofs.HeapLaws.{roots_of_links-itself, roots_of_links-linked}
use Rattle.covering_laws.proofs.Root.{each_under_object}
use Rattle.covering_laws.proofs.Texts.{above_light, above_object, texts_lead_to_texts}
use Rattle.covering_laws.proofs.ValueTypeLaws.{argument_is_no_object, stored_value_is_no_object}
use Rattle.covering_laws.proofs.Finalizers.{none_at, parts_empty, well_shaped}

-- ---- lists

some_in : {X : Type 0} (xs : List X) (i : ℕ) → i < length xs → (x : X) × (slice_get xs i ≡ Some x)
some_in [] i below = absurd (let never : ⊥ = omega (arith, below) in never)
some_in (x ∷ xs) zero below = (x, refl)
some_in (x ∷ xs) (suc i) below = some_in xs i (omega (arith, below))

no_element : {X : Type 0} (i : ℕ) (x : X) → slice_get [] i ≡ Some x → ⊥
no_element zero x is = let never : None ≡ Some x = is in cc
no_element (suc i) x is = let never : None ≡ Some x = is in cc

all_at : {X : Type 0} (P : X → Type 0) (xs : List X) (i : ℕ) (x : X) → All P xs → slice_get xs i ≡ Some x → P x
all_at P [] i x all at = absurd (no_element i x at)
all_at P (y ∷ ys) zero x all at = subst P (let both : Some y ≡ Some x = at in (let one : y ≡ x = cc in one)) (All-head P y ys all)
all_at P (y ∷ ys) (suc i) x all at = all_at P ys i x (All-tail P y ys all) at

none_passes : {X : Type 0} (f : X → Bool) (xs : List X) (i : ℕ) (x : X) → list_any f xs ≡ false → slice_get xs i ≡ Some x → f x ≡ false
none_passes f [] i x none at = absurd (no_element i x at)
none_passes f (y ∷ ys) zero x none at = ap f (sym (let both : Some y ≡ Some x = at in (let one : y ≡ x = cc in one))) ∙ (or_parts (f y) (list_any f ys) none).0
none_passes f (y ∷ ys) (suc i) x none at = none_passes f ys i x (or_parts (f y) (list_any f ys) none).1 at

-- some element passes the test
pub any_passes : {X : Type 0} (f : X → Bool) (xs : List X) → list_any f xs ≡ true → (i : ℕ) × (x : X) × (slice_get xs i ≡ Some x) × (f x ≡ true)
any_passes f [] is = absurd (true≢false (sym is))
any_passes {X} f (y ∷ ys) is = go (f y) refl (λ later. any_passes f ys later) is
  where
    go : (b : Bool) → f y ≡ b → (list_any f ys ≡ true → (i : ℕ) × (x : X) × (slice_get ys i ≡ Some x) × (f x ≡ true)) → (b || list_any f ys) ≡ true → (i : ℕ) × (x : X) × (slice_get (y ∷ ys) i ≡ Some x) × (f x ≡ true)
    go true passes later all = (0, y, refl, passes)
    go false passes later all = let x = later all in (suc x.0, x.1, x.2, x.3)

-- ---- classes

-- a class under another is of its type
pub under_type : (p : Program) (e d : ClassId) (k : Class) → class_at p e ≡ Some k → is_under p e d ≡ true → is_of_type k (Some (types.Obj d)) ≡ true
under_type p e d k at under = sym (ap (λ (z : Option Class). has_class (classes_above e z) d) at) ∙ under

-- what is under a class of the table is in the table
pub in_table : (p : Program) (e d : ClassId) (k : Class) → class_at p d ≡ Some k → is_under p e d ≡ true → (z : Class) × (class_at p e ≡ Some z)
in_table p e d k at under = go (class_at p e) refl under
  where
    alone : (b : Bool) → (b || false) ≡ true → b ≡ true
    alone true is = refl
    alone false is = absurd (true≢false (sym is))

    go : (z : Option Class) → class_at p e ≡ z → has_class (classes_above e z) d ≡ true → (y : Class) × (class_at p e ≡ Some y)
    go (Some z) here is = (z, here)
    go None here is = (k, ap (class_at p) (same_class e d (alone (is_class e d) is)) ∙ at)

-- an object of a class is there
pub object_of : (h : HeapContents) (n : ℕ) (e : ClassId) → object_class h n ≡ Some e → (x : Object) × (object_at h n ≡ Some x) × (x.class ≡ e)
object_of h n e is = go (object_at h n) refl is
  where
    go : (z : Option Object) → object_at h n ≡ z → class_in z ≡ Some e → (x : Object) × (object_at h n ≡ Some x) × (x.class ≡ e)
    go None here none = absurd (let never : None ≡ Some e = none in cc)
    go (Some x) here some = (x, here, (let both : Some x.class ≡ Some e = some in (let one : x.class ≡ e = cc in one)))

module _ (p : Program) (ac : Accept p) where
  abbrev typed : IsTypedProgram p
  typed = ac.well_formed.valid.typed

  pub under_itself : (c : ClassId) → is_under p c c ≡ true
  under_itself c = (is_under_law p typed.hierarchy c c).1 (itself c)

  declared_class : (t : VType) (c : ClassId) → IsDeclarable p t → t ≡ types.Obj c → (k : Class) × (class_at p c ≡ Some k)
  declared_class t c declared is = some_in p.classes.items c.0 (subst (IsDeclarable p) is declared).0

  -- the class of a receiver
  pub receiver_class : (m : MethodId) (x : Method) (c : ClassId) → method_at p m ≡ Some x → type_at x.sig 0 ≡ Some (types.Obj c) → x.class ≡ c
  receiver_class m x c at is = go (is_class x.class p.core.string) (sym (typed.methods m x at).receiver ∙ (let both : Some x.sig.receiver.vtype ≡ Some (types.Obj c) = is in (let one : x.sig.receiver.vtype ≡ types.Obj c = cc in one)))
    where
      go : (b : Bool) → (if b then types.Str else types.Obj x.class) ≡ types.Obj c → x.class ≡ c
      go true never = absurd (let none : types.Str ≡ types.Obj c = never in cc)
      go false same = let both : types.Obj x.class ≡ types.Obj c = same in cc

  -- the class of a position's type is in the table
  pub position_class : (m : MethodId) (x : Method) (k : ℕ) (c : ClassId) → method_at p m ≡ Some x → type_at x.sig k ≡ Some (types.Obj c) → (y : Class) × (class_at p c ≡ Some y)
  position_class m x zero c at is = go (class_at p x.class) refl (typed.methods m x at).listed
    where
      go : (z : Option Class) → class_at p x.class ≡ z → IsSomeAnd z (λ k. Contains k.methods.items m) → (y : Class) × (class_at p c ≡ Some y)
      go None here listed = absurd listed
      go (Some z) here listed = (z, ap (class_at p) (sym (receiver_class m x c at is)) ∙ here)
  position_class m x (suc j) c at is = go (slice_get x.sig.params.items j) refl is
    where
      go : (o : Option ParamSig) → slice_get x.sig.params.items j ≡ o → type_in o ≡ Some (types.Obj c) → (y : Class) × (class_at p c ≡ Some y)
      go None here none = absurd (let never : None ≡ Some (types.Obj c) = none in cc)
      go (Some q) here some =
          declared_class q.vtype c (all_at (λ (r : ParamSig). IsDeclarable p r.vtype) x.sig.params.items j q (typed.methods m x at).signature.params here)
          (let both : Some q.vtype ≡ Some (types.Obj c) = some in (let one : q.vtype ≡ types.Obj c = cc in one))

  -- it is not `String`
  position_no_string : (m : MethodId) (x : Method) (k : ℕ) (c : ClassId) → method_at p m ≡ Some x → type_at x.sig k ≡ Some (types.Obj c) → c ≡ p.core.string → ⊥
  position_no_string m x zero c at is same = go (is_class x.class p.core.string) refl (sym (typed.methods m x at).receiver ∙ (let both : Some x.sig.receiver.vtype ≡ Some (types.Obj c) = is in (let one : x.sig.receiver.vtype ≡ types.Obj c = cc in one)))
    where
      go : (b : Bool) → is_class x.class p.core.string ≡ b → (if b then types.Str else types.Obj x.class) ≡ types.Obj c → ⊥
      go true string never = let none : types.Str ≡ types.Obj c = never in cc
      go false string obj =
          let one : x.class ≡ c = (let both : types.Obj x.class ≡ types.Obj c = obj in cc) in
          true≢false (sym (eq-eqb x.class.0 p.core.string.0 (ap (λ (d : ClassId). d.0) (one ∙ same))) ∙ string)
  position_no_string m x (suc j) c at is same = go (slice_get x.sig.params.items j) refl is
    where
      go : (o : Option ParamSig) → slice_get x.sig.params.items j ≡ o → type_in o ≡ Some (types.Obj c) → ⊥
      go None here none = let never : None ≡ Some (types.Obj c) = none in cc
      go (Some q) here some =
          let of_type : q.vtype ≡ types.Obj c = (let both : Some q.vtype ≡ Some (types.Obj c) = some in cc) in
          (subst (IsDeclarable p) of_type (all_at (λ (r : ParamSig). IsDeclarable p r.vtype) x.sig.params.items j q (typed.methods m x at).signature.params here)).1 same

  -- what a signature creates anew is of a class type
  target_type : (m : MethodId) (x : Method) (k : ℕ) → method_at p m ≡ Some x → x.sig.reset ≡ Some k → is_class_type_in (type_at x.sig k) ≡ true
  target_type m x k at reset =
      not_bad (is_class_type_in (type_at x.sig k))
      (sym (ap (has_bad_target x) reset) ∙ not_refused (has_bad_target x x.sig.reset) (parts_empty (where_true (has_bad_target x x.sig.reset) refused.BadReset x.pos) (where_true (is_present x.sig.reset && is_some_finalizer p x) refused.BadReset x.pos) cases).0)
    where
      cases : reset_cases_of_method p x ≡ []
      cases = none_at (reset_cases_of_method p) p.methods.items m.0 x (parts_empty (flat_map (reset_cases_of_method p) p.methods.items) (flat_map reset_cases_of_override (overridings p)) ac.well_formed.resets).0 at

      not_refused : (b : Bool) → where_true b refused.BadReset x.pos ≡ [] → b ≡ false
      not_refused true is = absurd (let never : refused_at refused.BadReset x.pos ∷ [] ≡ [] = is in cc)
      not_refused false is = refl

      not_bad : (b : Bool) → not b ≡ false → b ≡ true
      not_bad true is = refl
      not_bad false is = absurd (true≢false is)

  -- each class of the table is under `Object`
  under_object : (e : ClassId) (k : Class) → class_at p e ≡ Some k → is_under p e p.core.object ≡ true
  under_object e k at = (is_under_law p typed.hierarchy e p.core.object).1 (each_under_object p typed e k at)

  string_listed : (k : Class) × (class_at p p.core.string ≡ Some k)
  string_listed = go (class_at p p.core.string) refl typed.core.string
    where
      go : (z : Option Class) → class_at p p.core.string ≡ z → IsSomeAnd z (λ k. k.name ≡ codes "java.lang.String") → (k : Class) × (class_at p p.core.string ≡ Some k)
      go None here named = absurd named
      go (Some k) here named = (k, here)

  -- ---- types that may be of texts

  module _ (light : HasLightTexts p) where
    -- what a signature gives an alias of is of a class that `String` is not under
    alias_class : (m : MethodId) (x : Method) (j : ℕ) → method_at p m ≡ Some x → x.sig.alias ≡ Some j → (c : ClassId) × (type_at x.sig j ≡ Some (types.Obj c)) × IsNotAboveString p c
    alias_class m x j at alias = go (type_at x.sig j) refl (argument_has_names p ac.well_formed m x at j alias)
      where
        none : is_empty no_names ≡ false → ⊥
        none some = true≢false (sym (within_self no_names) ∙ some)

        heavy : (c : ClassId) → is_empty (must_of p c) ≡ false → (b : Bool) → is_under p p.core.string c ≡ b → IsNotAboveString p c
        heavy c some true under = absurd (true≢false (sym (ap not some) ∙ above_light p ac light c under))
        heavy c some false other = other

        go : (t : Option VType) → type_at x.sig j ≡ t → is_empty (must_of_optional p t) ≡ false → (c : ClassId) × (type_at x.sig j ≡ Some (types.Obj c)) × IsNotAboveString p c
        go (Some (types.Obj c)) type some = (c, type, heavy c some (is_under p p.core.string c) refl)
        go None type some = absurd (none some)
        go (Some t) type some = absurd (none some)

    -- a position that takes each object of a class as such may be of a text
    each_may_be_text : (e : ClassId) (t : Option VType) → takes_each p e t ≡ true → may_be_text p t ≡ true
    each_may_be_text e (Some (types.Obj c)) takes = subst (λ (d : ClassId). is_under p p.core.string d ≡ true) (sym (same_class c p.core.object takes)) (under_object p.core.string string_listed.0 string_listed.1)
    each_may_be_text e (Some types.Str) takes = refl
    each_may_be_text e None takes = absurd (true≢false (sym takes))
    each_may_be_text e (Some t) takes = absurd (true≢false (sym takes))

    -- where no method creates the obligation of a text anew, none creates that of what such a position takes
    renews_none : list_any (may_renew_text p) p.methods.items ≡ false → (e : ClassId) → list_any (renews_each p e) p.methods.items ≡ true → ⊥
    renews_none none e some =
        let m = any_passes (renews_each p e) p.methods.items some in
        true≢false (sym (each_may_be_text e (type_at_some m.1.sig m.1.sig.reset) m.3) ∙ none_passes (may_renew_text p) p.methods.items m.0 m.1 none m.2)

    -- nor that of class `String`, in the words of the rule on the shape of owning fields
    module _ (none : list_any (may_renew_text p) p.methods.items ≡ false) (k : Class) (at : class_at p p.core.string ≡ Some k) where
      above_string : (c : ClassId) → has_class k.above.items c ≡ true → is_under p p.core.string c ≡ true
      above_string c has = ap (λ (z : Option Class). has_class (classes_above p.core.string z) c) at ∙ has

      of_text : (t : Option VType) → is_of_type k t ≡ true → may_be_text p t ≡ true
      of_text (Some (types.Obj c)) has = above_string c has
      of_text (Some types.Str) has = refl
      of_text None has = absurd (true≢false (sym has))
      of_text (Some t) has = absurd (true≢false (sym has))

      no_alias_of : (i : ℕ) (x : Method) → slice_get p.methods.items i ≡ Some x → (o : Option ℕ) → x.sig.alias ≡ o → is_of_type k (type_at_some x.sig o) ≡ true → ⊥
      no_alias_of i x at' None alias has = true≢false (sym has)
      no_alias_of i x at' (Some j) alias has =
          let c = alias_class (record { 0 = i }) x j at' alias in
          true≢false (sym (above_string c.0 (sym (ap (is_of_type k) c.1) ∙ has)) ∙ c.2)

      text_stays : may_be_reset p k ≡ true → ⊥
      text_stays renewed = by (is_reset_somewhere p k) refl renewed
        where
          by : (b : Bool) → is_reset_somewhere p k ≡ b → (b || list_any (gives_alias_of k) p.methods.items && resets_some_alias p) ≡ true → ⊥
          by true itself' is =
              let m = any_passes (resets_objects k) p.methods.items itself' in
              true≢false (sym (of_text (type_at_some m.1.sig m.1.sig.reset) m.3) ∙ none_passes (may_renew_text p) p.methods.items m.0 m.1 none m.2)
          by false itself' is =
              let m = any_passes (gives_alias_of k) p.methods.items (and_parts (list_any (gives_alias_of k) p.methods.items) (resets_some_alias p) is).0 in
              no_alias_of m.0 m.1 m.2 m.1.sig.alias refl m.3

    -- the rule on owning fields that may hold a text
    none_renewed : OwnsNoRenewedText p → (f : FieldId) (x : Field) → field_at p f ≡ Some x → x.owning ≡ true → may_be_text p (Some x.vtype) ≡ true → list_any (may_renew_text p) p.methods.items ≡ false
    none_renewed fields f x at owning text = go x.owning (may_be_text p (Some x.vtype)) owning text (fields f x at)
      where
        go : (a b : Bool) → a ≡ true → b ≡ true → (a && (b && list_any (may_renew_text p) p.methods.items)) ≡ false → list_any (may_renew_text p) p.methods.items ≡ false
        go true true owns holds none = none
        go true false owns holds none = absurd (true≢false (sym holds))
        go false b owns holds none = absurd (true≢false (sym owns))

  -- ---- what a field may hold

  -- no class that asks for no call, and that the field may hold, is created anew
  not_unseen : (f : FieldId) (field : Field) → field_at p f ≡ Some field → field.owning ≡ true → may_hold_unseen_reset p field.vtype ≡ false
  not_unseen f field at owning =
      (or_parts (field.is_static || not field.is_private || not (is_class_type field.vtype) || is_assigned_from_outside p f field || is_extended p field.class) (may_hold_unseen_reset p field.vtype) (well_shaped p ac f field at owning)).1

  not_all : (a b c : Bool) → (a && b && c) ≡ false → b ≡ true → (a && c) ≡ false
  not_all true b c none held = ap (λ (d : Bool). d && c) (sym held) ∙ none
  not_all false b c none held = refl

  -- what a field may hold is followed
  followed_if_held : (f : FieldId) (field : Field) (e : ClassId) (k : Class) → field_at p f ≡ Some field → field.owning ≡ true → class_at p e ≡ Some k → may_be_held p field.vtype k ≡ true
      → (set.is_subset k.must no_names && may_be_reset p k) ≡ false
  followed_if_held f field e k at owning in' held =
      let unseen : is_unseen_reset p field.vtype k ≡ false = none_passes (is_unseen_reset p field.vtype) p.classes.items e.0 k (not_unseen f field at owning) in' in
      not_all (set.is_subset k.must no_names) (may_be_held p field.vtype k) (may_be_reset p k) unseen held

  held_itself : (t : VType) (c e : ClassId) (k : Class) → t ≡ types.Obj c → class_at p e ≡ Some k → is_under p e c ≡ true → may_be_held p t k ≡ true
  held_itself t c e k type in' under =
      or_left (is_of_type k (Some t)) (list_any (gives_alias_of k) p.methods.items && has_alias p t)
      (ap (λ (u : VType). is_of_type k (Some u)) type ∙ under_type p e c k in' under)

  alias_of_type : (t : VType) (c e : ClassId) (k : Class) → t ≡ types.Obj c → class_at p e ≡ Some k → is_under p e c ≡ true → list_any (gives_as_alias k) p.methods.items ≡ true → has_alias p t ≡ true
  alias_of_type t c e k type in' under gives =
      some_passes (is_alias_of_type p t) p.classes.items e.0 k in'
      (and_from (is_of_type k (Some t)) (list_any (gives_as_alias k) p.methods.items) (ap (λ (u : VType). is_of_type k (Some u)) type ∙ under_type p e c k in' under) gives)

  held_through : (t : VType) (k : Class) → list_any (gives_alias_of k) p.methods.items ≡ true → has_alias p t ≡ true → may_be_held p t k ≡ true
  held_through t k gives has =
      or_right (is_of_type k (Some t)) (list_any (gives_alias_of k) p.methods.items && has_alias p t) (and_from (list_any (gives_alias_of k) p.methods.items) (has_alias p t) gives has)

  -- ---- what is linked

  module _ (h : HeapContents) (links : HasEarlierLinks h) (aliases : LinkedAreAliases p h) (reached : LinksReachAliased p h) where
    -- the roots of linked objects up to this number are of classes of which aliases are given
    abbrev AreAliasedTo : ℕ → Type 0
    AreAliasedTo n = (k : ℕ) → k ≤ n → (x : Object) (l : Link) → object_at h k ≡ Some x → x.link ≡ Some l → (y : Object) → object_at h (root h k) ≡ Some y → IsAliased p y.class

    root_next : (n : ℕ) → AreAliasedTo n → AreAliasedTo (suc n)
    root_next n before_aliased k small x l at link y there = by z.0.link refl
      where
        target : (e : ClassId) × (object_class h l.to ≡ Some e) × IsAliased p e
        target = let g = reached k x l at link in (g.0, g.1, g.2.argument)

        z : (w : Object) × (object_at h l.to ≡ Some w) × (w.class ≡ target.0)
        z = object_of h l.to target.0 target.1

        same_root : root h k ≡ root h l.to
        same_root = roots_of_links-linked h k x l links at link

        by : (m : Option Link) → z.0.link ≡ m → IsAliased p y.class
        by None unlinked =
            let here : Some y ≡ Some z.0 = sym there ∙ ap (object_at h) (same_root ∙ roots_of_links-itself h l.to z.0 z.1 unlinked) ∙ z.1 in
            let one : y ≡ z.0 = cc in
            subst (IsAliased p) (sym (ap (λ (w : Object). w.class) one ∙ z.2)) target.2
        by (Some m) linked =
            let later = links k x l at link in
            let before = later.before in
            before_aliased l.to (omega (arith, before, small)) z.0 m z.1 linked y (ap (object_at h) (sym same_root) ∙ there)

    root_aliased : (n : ℕ) → AreAliasedTo n
    root_aliased zero k small x l at link y there = absurd (let later = links k x l at link in let before = later.before in let never : ⊥ = omega (arith, before, small) in never)
    root_aliased (suc n) k small x l at link y there = root_next n (root_aliased n) k small x l at link y there

    -- a class of which aliases are given, in the words of the rule
    pub aliased_gives : (e : ClassId) (k : Class) → class_at p e ≡ Some k → IsAliased p e → list_any (gives_alias_of k) p.methods.items ≡ true
    aliased_gives e k at g =
        some_passes (gives_alias_of k) p.methods.items g.number.0 g.method g.at
        (ap (λ (r : Option ℕ). is_of_type k (type_at_some g.method.sig r)) g.alias ∙ ap (is_of_type k) g.takes ∙ under_type p e g.type k at g.under)

    pub aliased_class : (e : ClassId) → IsAliased p e → (k : Class) × (class_at p e ≡ Some k)
    aliased_class e g = let type = position_class g.number g.method g.position g.type g.at g.takes in in_table p e g.type type.0 type.1 g.under

    -- what is linked is of a class whose objects are given as aliases
    given_class : (e : ClassId) (k : Class) → class_at p e ≡ Some k → IsGivenAsAlias p e → list_any (gives_as_alias k) p.methods.items ≡ true
    given_class e k at g = some_passes (gives_as_alias k) p.methods.items g.number.0 g.method g.at (gives_as p ac e k at g)

    -- ---- what is created anew

    renewed_through : (k : Class) (e : ClassId) (j : Class) → list_any (gives_alias_of k) p.methods.items ≡ true → class_at p e ≡ Some j → list_any (gives_as_alias j) p.methods.items ≡ true → is_reset_somewhere p j ≡ true → may_be_reset p k ≡ true
    renewed_through k e j gives at given resets =
        let some : resets_some_alias p ≡ true =
        some_passes (is_reset_alias p) p.classes.items e.0 j at (and_from (list_any (gives_as_alias j) p.methods.items) (is_reset_somewhere p j) given resets) in
        or_right (is_reset_somewhere p k) (list_any (gives_alias_of k) p.methods.items && resets_some_alias p) (and_from (list_any (gives_alias_of k) p.methods.items) (resets_some_alias p) gives some)

    renewable : (named : MethodId) (m : Method) (k : ℕ) (c : ClassId) (v : Value) (n : ℕ) (x : Object) → method_at p named ≡ Some m → m.sig.reset ≡ Some k → type_at m.sig k ≡ Some (types.Obj c)
        → ((w : ℕ) → v ≡ values.Object w → IsUnderAt p c h w) → finished_root h (number_of v) ≡ Some n → object_at h n ≡ Some x → IsRenewable p x.class
    renewable named m k c (values.Object w) n x named_at reset type fits root' there = by z.0.link refl
      where
        class : (e : ClassId) × (object_class h w ≡ Some e) × (is_under p e c ≡ true)
        class = fits w refl

        z : (o : Object) × (object_at h w ≡ Some o) × (o.class ≡ class.0)
        z = object_of h w class.0 class.1

        its : (y : Class) × (class_at p class.0 ≡ Some y)
        its = let declared = position_class named m k c named_at type in in_table p class.0 c declared.0 declared.1 class.2

        resets : is_reset_somewhere p its.0 ≡ true
        resets = some_passes (resets_objects its.0) p.methods.items named.0 m named_at
            (ap (λ (r : Option ℕ). is_of_type its.0 (type_at_some m.sig r)) reset ∙ ap (is_of_type its.0) type ∙ under_type p class.0 c its.0 its.1 class.2)

        root_is : (b : Bool) → (if b then Some (root h w) else None) ≡ Some n → root h w ≡ n
        root_is true same = let both : Some (root h w) ≡ Some n = same in cc
        root_is false same = absurd (let never : None ≡ Some n = same in cc)

        rooted : root h w ≡ n
        rooted = root_is (finished_in (object_at h (root h w))) root'

        by : (l : Option Link) → z.0.link ≡ l → IsRenewable p x.class
        by None unlinked =
            let here : Some x ≡ Some z.0 = sym there ∙ ap (object_at h) (sym rooted ∙ roots_of_links-itself h w z.0 z.1 unlinked) ∙ z.1 in
            let one : x ≡ z.0 = cc in
            subst (IsRenewable p) (sym (ap (λ (o : Object). o.class) one ∙ z.2))
            (inl (its.0, its.1, or_left (is_reset_somewhere p its.0) (list_any (gives_alias_of its.0) p.methods.items && resets_some_alias p) resets))
        by (Some l) linked =
            let aliased = root_aliased w w (omega arith) z.0 l z.1 linked x (ap (object_at h) rooted ∙ there) in
            let root_class = aliased_class x.class aliased in inl (
              root_class.0,
              root_class.1,
              renewed_through root_class.0 class.0 its.0 (aliased_gives x.class root_class.0 root_class.1 aliased) its.1 (given_class class.0 its.0 its.1 (subst (IsGivenAsAlias p) z.2 (aliases w z.0 l z.1 linked))) resets,
            )
    renewable named m k c values.Nothing n x named_at reset type fits root' there = absurd (let never : None ≡ Some n = root' in cc)
    renewable named m k c v n x named_at reset type fits root' there = absurd (let never : None ≡ Some n = root' in cc)

    -- ---- what is stored

    -- the object that a value of the field's type leads to is of a class that the field may hold
    module _ (t : VType) (declared : IsDeclarable p t) (c : ClassId) (type : t ≡ types.Obj c) (w n : ℕ) (fits : FitsClass p c h (values.Object w)) (rooted : root h w ≡ n) (x : Object) (there : object_at h n ≡ Some x) where
      class : (e : ClassId) × (object_class h w ≡ Some e) × (is_under p e c ≡ true)
      class = class_of_fit p c h w fits

      z : (o : Object) × (object_at h w ≡ Some o) × (o.class ≡ class.0)
      z = object_of h w class.0 class.1

      its : (y : Class) × (class_at p class.0 ≡ Some y)
      its = let known = declared_class t c declared type in in_table p class.0 c known.0 known.1 class.2

      held_unlinked : (k : Class) → class_at p x.class ≡ Some k → z.0.link ≡ None → may_be_held p t k ≡ true
      held_unlinked k in' unlinked =
          let here : Some x ≡ Some z.0 = sym there ∙ ap (object_at h) (sym rooted ∙ roots_of_links-itself h w z.0 z.1 unlinked) ∙ z.1 in
          let one : x ≡ z.0 = cc in
          held_itself t c x.class k type in' (ap (λ (e : ClassId). is_under p e c) (ap (λ (o : Object). o.class) one ∙ z.2) ∙ class.2)

      held_linked : (k : Class) → class_at p x.class ≡ Some k → (l : Link) → z.0.link ≡ Some l → may_be_held p t k ≡ true
      held_linked k in' l linked =
          held_through t k (aliased_gives x.class k in' (root_aliased w w (omega arith) z.0 l z.1 linked x (ap (object_at h) rooted ∙ there)))
          (alias_of_type t c class.0 its.0 type its.1 class.2 (given_class class.0 its.0 its.1 (subst (IsGivenAsAlias p) z.2 (aliases w z.0 l z.1 linked))))

      held : (k : Class) → class_at p x.class ≡ Some k → may_be_held p t k ≡ true
      held k in' = by z.0.link (held_unlinked k in') (held_linked k in') refl
        where
          by : (m : Option Link) → (z.0.link ≡ None → may_be_held p t k ≡ true) → ((l : Link) → z.0.link ≡ Some l → may_be_held p t k ≡ true) → z.0.link ≡ m → may_be_held p t k ≡ true
          by None none some is = none is
          by (Some l) none some is = some l is

      class_is : z.0.link ≡ None → x.class ≡ class.0
      class_is unlinked =
          let here : Some x ≡ Some z.0 = sym there ∙ ap (object_at h) (sym rooted ∙ roots_of_links-itself h w z.0 z.1 unlinked) ∙ z.1 in
          let one : x ≡ z.0 = cc in
          ap (λ (o : Object). o.class) one ∙ z.2

      aliased : (l : Link) → z.0.link ≡ Some l → IsAliased p x.class
      aliased l linked = root_aliased w w (omega arith) z.0 l z.1 linked x (ap (object_at h) rooted ∙ there)

      -- its class is in the table
      listed : (k : Class) × (class_at p x.class ≡ Some k)
      listed = by z.0.link refl
        where
          by : (m : Option Link) → z.0.link ≡ m → (k : Class) × (class_at p x.class ≡ Some k)
          by None unlinked = (its.0, ap (class_at p) (class_is unlinked) ∙ its.1)
          by (Some l) linked = aliased_class x.class (aliased l linked)

      -- and is not `String`
      no_text : HasLightTexts p → IsNotAboveString p c → x.class ≡ p.core.string → ⊥
      no_text light own same = by z.0.link refl
        where
          by : (m : Option Link) → z.0.link ≡ m → ⊥
          by None unlinked = true≢false (sym (subst (λ (e : ClassId). is_under p e c ≡ true) (sym (class_is unlinked) ∙ same) class.2) ∙ own)
          by (Some l) linked =
              let g = aliased l linked in
              let d = alias_class light g.number g.method g.position g.at g.alias in
              let one : d.0 ≡ g.type = (let both : Some (types.Obj d.0) ≡ Some (types.Obj g.type) = sym d.1 ∙ g.takes in cc) in
              true≢false (sym (subst (λ (e : ClassId). is_under p e g.type ≡ true) same g.under) ∙ subst (IsNotAboveString p) one d.2)

    -- what a field of a class that `String` is not under holds is followed
    followed : HasLightTexts p → (f : FieldId) (field : Field) (c : ClassId) (v : Value) (n : ℕ) (x : Object) → field_at p f ≡ Some field → field.owning ≡ true → field.vtype ≡ types.Obj c → IsNotAboveString p c → FitsClass p c h v
        → root_of h v ≡ Some n → object_at h n ≡ Some x → IsFollowed p x.class
    followed light f field c (values.Object w) n x at owning type own fits root' there (inl renewed) =
        let rooted : root h w ≡ n = (let both : Some (root h w) ≡ Some n = root' in (let one : root h w ≡ n = cc in one)) in
        seen_is_heavy p x.class renewed.0 renewed.1
        (followed_if_held f field x.class renewed.0 at owning renewed.1 (held field.vtype (typed.fields f field at).declarable c type w n fits rooted x there renewed.0 renewed.1)) renewed.2
    followed light f field c (values.Object w) n x at owning type own fits root' there (inr each) = by_type (type_at_some m.1.sig m.1.sig.reset) refl m.3
      where
        rooted : root h w ≡ n
        rooted = let both : Some (root h w) ≡ Some n = root' in (let one : root h w ≡ n = cc in one)

        m : (i : ℕ) × (y : Method) × (slice_get p.methods.items i ≡ Some y) × (renews_each p x.class y ≡ true)
        m = any_passes (renews_each p x.class) p.methods.items each

        k : (y : Class) × (class_at p x.class ≡ Some y)
        k = listed field.vtype (typed.fields f field at).declarable c type w n fits rooted x there

        by_type : (t : Option VType) → type_at_some m.1.sig m.1.sig.reset ≡ t → takes_each p x.class t ≡ true → is_heavy_class p x.class ≡ true
        by_type (Some (types.Obj d)) is takes =
            let under : is_under p x.class d ≡ true = subst (λ (e : ClassId). is_under p x.class e ≡ true) (sym (same_class d p.core.object takes)) (under_object x.class k.0 k.1) in
            let resets : is_reset_somewhere p k.0 ≡ true = some_passes (resets_objects k.0) p.methods.items m.0 m.1 m.2 (ap (is_of_type k.0) is ∙ under_type p x.class d k.0 k.1 under) in
            seen_is_heavy p x.class k.0 k.1
            (followed_if_held f field x.class k.0 at owning k.1 (held field.vtype (typed.fields f field at).declarable c type w n fits rooted x there k.0 k.1))
            (or_left (is_reset_somewhere p k.0) (list_any (gives_alias_of k.0) p.methods.items && resets_some_alias p) resets)
        by_type (Some types.Str) is takes = absurd (no_text field.vtype (typed.fields f field at).declarable c type w n fits rooted x there light own (same_class x.class p.core.string takes))
        by_type None is takes = absurd (true≢false (sym takes))
        by_type (Some t) is takes = absurd (true≢false (sym takes))
    followed light f field c values.Nothing n x at owning type own fits root' there renewed = absurd (let never : None ≡ Some n = root' in cc)
    followed light f field c v n x at owning type own fits root' there renewed = absurd (let never : None ≡ Some n = root' in cc)

  -- so is what a field of type `Object` holds
  followed_any : HasLightTexts p → OwnsNoRenewedText p → (f : FieldId) (field : Field) (c : ClassId) (x : Object) → field_at p f ≡ Some field → field.owning ≡ true → field.vtype ≡ types.Obj c → is_under p p.core.string c ≡ true → IsFollowed p x.class
  followed_any light fields f field c x at owning type above (inl renewed) =
      seen_is_heavy p x.class renewed.0 renewed.1
      (followed_if_held f field x.class renewed.0 at owning renewed.1
      (held_itself field.vtype c x.class renewed.0 type renewed.1 (subst (λ (d : ClassId). is_under p x.class d ≡ true) (sym is_object) (under_object x.class renewed.0 renewed.1)))) renewed.2
    where
      is_object : c ≡ p.core.object
      is_object = above_object p ac light c (subst (IsDeclarable p) type (typed.fields f field at).declarable).1 above
  followed_any light fields f field c x at owning type above (inr each) =
      absurd (renews_none light (none_renewed light fields f field at owning (ap (λ (t : VType). may_be_text p (Some t)) type ∙ above)) x.class each)

  -- and what one of type `String` holds
  followed_text : HasLightTexts p → OwnsNoRenewedText p → (f : FieldId) (field : Field) (x : Object) → field_at p f ≡ Some field → field.owning ≡ true → field.vtype ≡ types.Str → x.class ≡ p.core.string → IsFollowed p x.class
  followed_text light fields f field x at owning type same renewed = absurd (by renewed)
    where
      none : list_any (may_renew_text p) p.methods.items ≡ false
      none = none_renewed light fields f field at owning (ap (λ (t : VType). may_be_text p (Some t)) type)

      by : IsRenewable p x.class → ⊥
      by (inl known) = text_stays light none known.0 (ap (class_at p) (sym same) ∙ known.1) known.2
      by (inr each) = renews_none light none x.class each

  -- ---- frames

  -- the operand of a position is of the position's type, where it is an object
  pub operand_under : (h : HeapContents) (fr : Frame) (c : ClassId) (own : IsNotAboveString p c) → FrameFitsClass p c h fr → (i : ℕ) (s : Step) (named : MethodId) (m : Method) (k : ℕ)
      → slice_get (frame_steps p fr) i ≡ Some s → called_method s.action ≡ Some named → method_at p named ≡ Some m → IsOnInstance p h fr.locals s.action (method_at p named)
      → type_at m.sig k ≡ Some (types.Obj c) → (w : ℕ) → operand_of fr.locals s.action k ≡ values.Object w → IsUnderAt p c h w
  operand_under h fr c own keeps i s named m zero here called named_at instance type w is =
      receiver_under p c ac own h fr keeps i s here named m named_at called
      (ap (λ (d : ClassId). is_under p d c) (receiver_class named m c named_at type) ∙ under_itself c) instance w is
  operand_under h fr c own keeps i s named m (suc j) here called named_at instance type w is = go (slice_get m.sig.params.items j) refl type
    where
      go : (o : Option ParamSig) → slice_get m.sig.params.items j ≡ o → type_in o ≡ Some (types.Obj c) → IsUnderAt p c h w
      go None at none = absurd (let never : None ≡ Some (types.Obj c) = none in cc)
      go (Some q) at some =
          let of_type : q.vtype ≡ types.Obj c = (let both : Some q.vtype ≡ Some (types.Obj c) = some in cc) in
          class_of_fit p c h w
          (subst (FitsClass p c h) is
          (subst (λ (n : ℕ). FitsClass p c h (operand_of fr.locals s.action n)) (let next : j + 1 ≡ suc j = omega arith in next)
          (parameter_fits p c ac own h fr keeps i s here named m named_at called j q at (subst (λ (t : VType). IsOfClass p c t) (sym of_type) (under_itself c)))))

  -- the operand of which a signature gives an alias is of a class of which aliases are given
  pub aliased_operand : HasLightTexts p → (h : HeapContents) (fr : Frame) → ((bound : ClassId) → IsNotAboveString p bound → FrameFitsClass p bound h fr) → (i : ℕ) (s : Step) (named : MethodId) (m : Method) (j w : ℕ)
      → slice_get (frame_steps p fr) i ≡ Some s → called_method s.action ≡ Some named → method_at p named ≡ Some m → IsOnInstance p h fr.locals s.action (method_at p named)
      → m.sig.alias ≡ Some j → number_of (operand_of fr.locals s.action j) ≡ Some w → (e : ClassId) × (object_class h w ≡ Some e) × (g : IsAliased p e) × (g.method ≡ m)
  aliased_operand light h fr keeps i s named m j w here called named_at instance alias number =
      by_value (operand_of fr.locals s.action j) (operand_under h fr c.0 c.2 (keeps c.0 c.2) i s named m j here called named_at instance c.1) number
    where
      c : (d : ClassId) × (type_at m.sig j ≡ Some (types.Obj d)) × IsNotAboveString p d
      c = alias_class light named m j named_at alias

      by_value : (v : Value) → ((k : ℕ) → v ≡ values.Object k → IsUnderAt p c.0 h k) → number_of v ≡ Some w → (e : ClassId) × (object_class h w ≡ Some e) × (g : IsAliased p e) × (g.method ≡ m)
      by_value values.Nothing under none = absurd (let never : None ≡ Some w = none in cc)
      by_value (values.Object k) under some =
          let same : k ≡ w = (let both : Some k ≡ Some w = some in cc) in
          let class = under w (ap values.Object same) in
          (class.0, class.1, record { number = named; method = m; at = named_at; position = j; alias = alias; type = c.0; takes = c.1; under = class.2 }, refl)
      by_value v under none = absurd (let never : None ≡ Some w = none in cc)

  module _ (light : HasLightTexts p) (fields : OwnsNoRenewedText p) (h : HeapContents) (links : HasEarlierLinks h) (aliases : LinkedAreAliases p h) (reached : LinksReachAliased p h) (fr : Frame)
      (keeps : (bound : ClassId) → IsNotAboveString p bound → FrameFitsClass p bound h fr) (types' : KeepsTypes (is_text p h) p fr) where
    -- the root of a finished target is that of its operand
    root_of_target : (v : Value) (n : ℕ) → finished_root h (number_of v) ≡ Some n → root_of h v ≡ Some n
    root_of_target (values.Object w) n is = go (finished_in (object_at h (root h w))) is
      where
        go : (b : Bool) → (if b then Some (root h w) else None) ≡ Some n → Some (root h w) ≡ Some n
        go true same = same
        go false same = absurd (let never : None ≡ Some n = same in cc)
    root_of_target values.Nothing n is = absurd (let never : None ≡ Some n = is in cc)
    root_of_target v n is = absurd (let never : None ≡ Some n = is in cc)

    renews : (i : ℕ) (s : Step) (named : MethodId) (n : ℕ) (x : Object) → slice_get (frame_steps p fr) i ≡ Some s → called_method s.action ≡ Some named
        → IsOnInstance p h fr.locals s.action (method_at p named) → target_root h fr.locals s.action (method_at p named) ≡ Some n → object_at h n ≡ Some x → IsRenewable p x.class
    renews i s named n x here called instance is there = by_method (method_at p named) refl is
      where
        -- the position takes each object of the class
        each : (m : Method) (k : ℕ) (t : VType) → method_at p named ≡ Some m → m.sig.reset ≡ Some k → type_at m.sig k ≡ Some t → takes_each p x.class (Some t) ≡ true → IsRenewable p x.class
        each m k t named_at reset type takes =
            inr (some_passes (renews_each p x.class) p.methods.items named.0 m named_at
            (ap (λ (r : Option ℕ). takes_each p x.class (type_at_some m.sig r)) reset ∙ ap (takes_each p x.class) type ∙ takes))

        by_class : (m : Method) (k : ℕ) (c : ClassId) → method_at p named ≡ Some m → m.sig.reset ≡ Some k → finished_root h (number_of (operand_of fr.locals s.action k)) ≡ Some n
            → type_at m.sig k ≡ Some (types.Obj c) → (b : Bool) → is_under p p.core.string c ≡ b → IsRenewable p x.class
        by_class m k c named_at reset root' type true above =
            let same = above_object p ac light c (position_no_string named m k c named_at type) above in
            each m k (types.Obj c) named_at reset type (eq-eqb c.0 p.core.object.0 (ap (λ (d : ClassId). d.0) same))
        by_class m k c named_at reset root' type false own =
            renewable h links aliases reached named m k c (operand_of fr.locals s.action k) n x named_at reset type
            (operand_under h fr c own (keeps c own) i s named m k here called named_at instance type) root' there

        -- a text is a receiver of methods of `String` alone, and these create nothing anew
        by_text : (m : Method) (k : ℕ) → method_at p named ≡ Some m → m.sig.reset ≡ Some k → finished_root h (number_of (operand_of fr.locals s.action k)) ≡ Some n
            → type_at m.sig k ≡ Some types.Str → IsRenewable p x.class
        by_text m zero named_at reset root' type = absurd (go (is_class m.class p.core.string) refl (sym (typed.methods named m named_at).receiver ∙ (let both : Some m.sig.receiver.vtype ≡ Some types.Str = type in (let one : m.sig.receiver.vtype ≡ types.Str = cc in one))))
          where
            go : (b : Bool) → is_class m.class p.core.string ≡ b → (if b then types.Str else types.Obj m.class) ≡ types.Str → ⊥
            go true string same =
                true≢false (sym (and_from (is_class m.class p.core.string) (is_receiver m.sig.reset) string (ap is_receiver reset))
                ∙ none_passes (renews_own_text p) p.methods.items named.0 m light.resets named_at)
            go false string same = let never : types.Obj m.class ≡ types.Str = same in cc
        by_text m (suc j) named_at reset root' type = go (slice_get m.sig.params.items j) refl type
          where
            go : (o : Option ParamSig) → slice_get m.sig.params.items j ≡ o → type_in o ≡ Some types.Str → IsRenewable p x.class
            go None at none = absurd (let never : None ≡ Some types.Str = none in cc)
            go (Some q) at some =
                let of_type : q.vtype ≡ types.Str = (let both : Some q.vtype ≡ Some types.Str = some in cc) in
                let next : j + 1 ≡ suc j = omega arith in
                let text : IsNoObjectButText p h (operand_of fr.locals s.action (suc j)) =
                subst (λ (r : ℕ). IsNoObjectButText p h (operand_of fr.locals s.action r)) next
                (argument_is_no_object (is_text p h) p ac fr types' i s named j q here called (ap (λ (y : Option Method). slice_get (params_of y) j) named_at ∙ at) (subst (λ (t : VType). NoObject (Some t)) (sym of_type) refl)) in
                let same = texts_lead_to_texts p ac light h aliases (operand_of fr.locals s.action (suc j)) n x text (root_of_target (operand_of fr.locals s.action (suc j)) n root') there in
                each m (suc j) types.Str named_at reset type (eq-eqb x.class.0 p.core.string.0 (ap (λ (d : ClassId). d.0) same))

        by_type : (m : Method) (k : ℕ) → method_at p named ≡ Some m → m.sig.reset ≡ Some k → finished_root h (number_of (operand_of fr.locals s.action k)) ≡ Some n
            → (t : Option VType) → type_at m.sig k ≡ t → is_class_type_in t ≡ true → IsRenewable p x.class
        by_type m k named_at reset root' (Some (types.Obj c)) type kind = by_class m k c named_at reset root' type (is_under p p.core.string c) refl
        by_type m k named_at reset root' (Some types.Str) type kind = by_text m k named_at reset root' type
        by_type m k named_at reset root' None type kind = absurd (true≢false (sym kind))
        by_type m k named_at reset root' (Some t) type kind = absurd (true≢false (sym kind))

        by_position : (m : Method) (k : Option ℕ) → method_at p named ≡ Some m → m.sig.reset ≡ k → finished_root h (object_by (operand_of fr.locals s.action) k) ≡ Some n → IsRenewable p x.class
        by_position m None named_at reset root' = absurd (let never : None ≡ Some n = root' in cc)
        by_position m (Some k) named_at reset root' = by_type m k named_at reset root' (type_at m.sig k) refl (target_type named m k named_at reset)

        by_method : (m : Option Method) → method_at p named ≡ m → target_root h fr.locals s.action m ≡ Some n → IsRenewable p x.class
        by_method None named_at root' = absurd (let never : None ≡ Some n = root' in cc)
        by_method (Some m) named_at root' = by_position m m.sig.reset named_at refl root'

    stores : (i : ℕ) (s : Step) (f : FieldId) (field : Field) (d n : ℕ) (x : Object) → slice_get (frame_steps p fr) i ≡ Some s → s.action ≡ actions.PutOwn f d → field_at p f ≡ Some field → field.owning ≡ true
        → root_of h (temp_value fr.locals d) ≡ Some n → object_at h n ≡ Some x → IsFollowed p x.class
    stores i s f field d n x here is at owning root' there = by_type field.vtype refl
      where
        -- the field is of a class type
        class_type : is_class_type field.vtype ≡ true
        class_type =
            let shape = or_parts (field.is_static || not field.is_private || not (is_class_type field.vtype) || is_assigned_from_outside p f field || is_extended p field.class) (may_hold_unseen_reset p field.vtype) (well_shaped p ac f field at owning) in
            let four = or_parts (field.is_static || not field.is_private || not (is_class_type field.vtype) || is_assigned_from_outside p f field) (is_extended p field.class) shape.0 in
            let three = or_parts (field.is_static || not field.is_private || not (is_class_type field.vtype)) (is_assigned_from_outside p f field) four.0 in
            is_true (is_class_type field.vtype) (or_parts (field.is_static || not field.is_private) (not (is_class_type field.vtype)) three.0).1
          where
            is_true : (b : Bool) → not b ≡ false → b ≡ true
            is_true true none = refl
            is_true false none = absurd (true≢false none)

        by_class : (c : ClassId) → field.vtype ≡ types.Obj c → (b : Bool) → is_under p p.core.string c ≡ b → IsFollowed p x.class
        by_class c type true above = followed_any light fields f field c x at owning type above
        by_class c type false own =
            followed h links aliases reached light f field c (temp_value fr.locals d) n x at owning type own
            (stored_fits p c ac own h fr (keeps c own) i s here f d is
            (subst (λ (o : Option Field). OfClass p c (type_of_field o)) (sym at) (subst (λ (t : VType). IsOfClass p c t) (sym type) (under_itself c))))
            root' there

        by_type : (t : VType) → field.vtype ≡ t → IsFollowed p x.class
        by_type (types.Obj c) type = by_class c type (is_under p p.core.string c) refl
        by_type types.Str type =
            followed_text light fields f field x at owning type
            (texts_lead_to_texts p ac light h aliases (temp_value fr.locals d) n x
            (stored_value_is_no_object (is_text p h) p ac fr types' i s f d here is (subst (λ (o : Option Field). NoObject (operands.type_of_field o)) (sym at) (subst (λ (t : VType). NoObject (Some t)) (sym type) refl))) root' there)
        by_type (types.Primitive k) type = absurd (true≢false (sym class_type ∙ ap is_class_type type))
        by_type (types.Arr e) type = absurd (true≢false (sym class_type ∙ ap is_class_type type))
        by_type types.NullType type = absurd (true≢false (sym class_type ∙ ap is_class_type type))

    -- `this` is of the class of the method that runs: it is the program's, and `String` the library's
    stands : ((c d : ClassId) → is_under p c d ≡ true → is_library p c ≡ true → is_library p d ≡ true) → is_library p p.core.string ≡ true → Stands p fr
        → (w : ℕ) (self : Object) (m : Method) → fr.locals.this ≡ values.Object w → object_at h w ≡ Some self → method_at p fr.method ≡ Some m → is_under p self.class m.class ≡ true
    stands library string st w self m this at method =
        subst (HasClassUnder p m.class) (ap class_in at) (subst (FitsClass p m.class h) this (fits.this (subst (λ (d : Option Method). OfClass p m.class (own_type d)) (sym (ap (method_at p) fits.method ∙ method)) (under_itself m.class))))
      where
        run : (d : Method) × (method_at p fr.method ≡ Some d) × (is_library p d.class ≡ false)
        run = running_method p ac fr st

        own : IsNotAboveString p m.class
        own = by (is_under p p.core.string m.class) refl
          where
            one : run.0 ≡ m
            one = let both : Some run.0 ≡ Some m = sym run.1 ∙ method in (let same : run.0 ≡ m = cc in same)

            by : (b : Bool) → is_under p p.core.string m.class ≡ b → is_under p p.core.string m.class ≡ false
            by true above = absurd (true≢false (sym (library p.core.string m.class above string) ∙ ap (λ (d : Method). is_library p d.class) (sym one) ∙ run.2))
            by false apart = apart

        fits : FrameFitsClass p m.class h fr
        fits = keeps m.class own

    -- `this` as the receiver of a method that creates its obligation anew is of the method's class
    receives : ((c d : ClassId) → is_under p c d ≡ true → is_library p c ≡ true → is_library p d ≡ true) → is_library p p.core.string ≡ true → Stands p fr
        → (i : ℕ) (s : Step) (named : MethodId) (n : Method) (w : ℕ) (self : Object) → slice_get (frame_steps p fr) i ≡ Some s → called_method s.action ≡ Some named → method_at p named ≡ Some n → n.sig.reset ≡ Some 0
        → IsOnInstance p h fr.locals s.action (method_at p named) → operand_of fr.locals s.action 0 ≡ values.Object w → fr.locals.this ≡ values.Object w → object_at h w ≡ Some self → is_under p self.class n.class ≡ true
    receives library string st i s named n w self here called named_at reset instance operand this at = by (is_under p p.core.string n.class) refl
      where
        type : type_at n.sig 0 ≡ Some (types.Obj n.class)
        type = ap Some ((typed.methods named n named_at).receiver ∙ go (is_class n.class p.core.string) refl)
          where
            go : (b : Bool) → is_class n.class p.core.string ≡ b → (if is_class n.class p.core.string then types.Str else types.Obj n.class) ≡ types.Obj n.class
            go true text =
                absurd (true≢false (sym (and_from (is_class n.class p.core.string) (is_receiver n.sig.reset) text (ap is_receiver reset)) ∙ none_passes (renews_own_text p) p.methods.items named.0 n light.resets named_at))
            go false other = ap (λ (b : Bool). if b then types.Str else types.Obj n.class) other

        by : (b : Bool) → is_under p p.core.string n.class ≡ b → is_under p self.class n.class ≡ true
        by true above =
            let run = running_method p ac fr st in
            let k = own_class (class_at p (run.0).class) refl (typed.methods fr.method run.0 run.1).listed in
            let z = in_table p self.class (run.0).class k.0 k.1 (stands library string st w self run.0 this at run.1) in
            ap (is_under p self.class) (above_object p ac light n.class (position_no_string named n 0 n.class named_at type) above) ∙ under_object self.class z.0 z.1
          where
            own_class : (x : Option Class) → class_at p (running_method p ac fr st).0.class ≡ x → IsSomeAnd x (λ (j : Class). Contains j.methods.items fr.method) → (k : Class) × (class_at p (running_method p ac fr st).0.class ≡ Some k)
            own_class None none listed = absurd listed
            own_class (Some j) some listed = (j, some)
        by false own =
            let u = operand_under h fr n.class own (keeps n.class own) i s named n 0 here called named_at instance type w operand in
            let same : self.class ≡ u.0 = (let both : Some self.class ≡ Some u.0 = sym (ap class_in at) ∙ u.1 in cc) in
            ap (λ (e : ClassId). is_under p e n.class) same ∙ u.2

    pub frame_in_sight : ((c d : ClassId) → is_under p c d ≡ true → is_library p c ≡ true → is_library p d ≡ true) → is_library p p.core.string ≡ true → Stands p fr → UpdatesTexts p h fr → IsOnObject p fr → MakesThis p h fr → ActsByRules p fr → ActsInSight p h fr
    frame_in_sight library string st updates on makes rules = record { renews = renews; stores = stores; updates = updates; stands = stands library string st; on = on; receives = receives library string st; makes = makes; rules = rules }

stacked_below : (p : Program) (h : HeapContents) (fr : Frame) (frs : List Frame) → IsStacked p h (fr ∷ frs) → IsStacked p h frs
stacked_below p h fr [] stacked = tt
stacked_below p h fr (caller ∷ frs) stacked = stacked.1

making_below : (p : Program) (h : HeapContents) (fr : Frame) (frs : List Frame) → AreBeingMade p h (fr ∷ frs) → AreBeingMade p h frs
making_below p h fr [] making = tt
making_below p h fr (caller ∷ frs) making = making.2

-- the next step of each frame is seen
pub acts_in_sight : (p : Program) → Accept p → HasLightTexts p → OwnsNoRenewedText p → ((c d : ClassId) → is_under p c d ≡ true → is_library p c ≡ true → is_library p d ≡ true) → is_library p p.core.string ≡ true
    → (h : HeapContents) (frs : List Frame) → AllStand p frs → HasEarlierLinks h → ((bound : ClassId) → IsNotAboveString p bound → FramesFitClass p bound h frs) → KeepAll (is_text p h) p frs
    → LinkedAreAliases p h → LinksReachAliased p h → AllUpdateTexts p h frs → RunOnObjects p frs → IsStacked p h frs → AreBeingMade p h frs → AllActByRules p frs → AllActInSight p h frs
acts_in_sight p ac light fields library string h [] standing links keeps types' aliases reached updates on stacked making rules = tt
acts_in_sight p ac light fields library string h (fr ∷ frs) standing links keeps types' aliases reached updates on stacked making rules = (
  frame_in_sight p ac light fields h links aliases reached fr (λ bound own. (keeps bound own).0) types'.0 library string standing.0 updates.0 on.0 (makes_this p ac h links fr frs standing stacked making) rules.0,
  acts_in_sight p ac light fields library string h frs standing.1 links (λ bound own. (keeps bound own).1) types'.1 aliases reached updates.1 on.1 (stacked_below p h fr frs stacked) (making_below p h fr frs making) rules.1,
)
