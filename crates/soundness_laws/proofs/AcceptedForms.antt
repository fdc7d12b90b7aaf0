-- What is accepted has the plain forms.
use Rattle.std.proofs.Common.{◌≡◌, ℕ, true, false, not, ◌||◌, Option, Some, None, IsSomeAnd, List, slice_get, refl, sym, ap, ◌∙◌, subst, true≢false}
use Rattle.std.proofs.lemmas.Bool.{and_from, or_left, or_right}
use Rattle.program_model.specs.declared.kinds.BodyId.{BodyId}
use Rattle.program_model.specs.declared.kinds.ClassId.{ClassId}
use Rattle.program_model.specs.declared.kinds.FieldId.{FieldId}
use Rattle.program_model.specs.declared.kinds.MethodId.{MethodId}
use Rattle.program_model.specs.declared.kinds.MethodKind.TheVariants as methods
use Rattle.program_model.specs.declared.program.Class.{Class}
use Rattle.program_model.specs.declared.program.Field.{Field}
use Rattle.program_model.specs.declared.program.Method.{Method}
use Rattle.program_model.specs.declared.program.Program.{Program}
use Rattle.program_model.specs.declared.tree.Body.{Body}
use Rattle.program_model.specs.Lookups.{body_at, class_at, field_at, method_at}
use Rattle.program_model.specs.SuperTests.{is_class}
use Rattle.ledger_obligations.specs.Bodies.{constructs, has_field_place, is_class_of, is_constructor, is_constructor_kind, is_extended, is_field_in, is_super, method_in, method_of}
use Rattle.must_call_reset.specs.OwningCases.{is_assigned_from_outside, is_class_type, may_hold_unseen_reset}
use Rattle.java_control.specs.Calls.{called_method}
use Rattle.java_control.specs.Owned.{is_beside_method, is_owning, is_owning_field}
use Rattle.java_control.specs.Remaining.{Todo}
use Rattle.control_actions.specs.declared.action.Action.{Action}
use Rattle.control_actions.specs.declared.action.Action.TheVariants as actions
use Rattle.program_model.proofs.HierarchyLaws.{is_under_law}
use Rattle.content_laws.specs.Paths.{Comes, Move, relation_of}
use Rattle.content_laws.specs.Accept.{Accept}
use Rattle.content_laws.proofs.DispatchOwners.{runs_own}
use Rattle.content_laws.specs.Constructors.{CallsSuperClass, IsOfSuperClass, StoresOwnField}
use Rattle.content_laws.proofs.ConstructorReached.{has_its_place}
use Rattle.content_laws.proofs.StartReached.{body_there}
use Rattle.soundness_laws.proofs.FieldsAlone.{owners_alone}
use Rattle.soundness_laws.proofs.FieldShapes.{any_at, not_true, same_class, well_shaped}
use Rattle.soundness_laws.proofs.MadeClasses.{concrete_by}
use Rattle.content_laws.specs.PlainForms.{HasPlainForms, RunsOwnMethods, calls_constructor, run_by}
use Rattle.content_laws.specs.AgreementConditions.{MeetsFileConditions}
use Rattle.soundness_laws.proofs.PlainCalls.{plain_steps, text_updates}
use Rattle.soundness_laws.proofs.SuperCalls.{supers_come_first}

-- ---- dispatch

own_methods : (p : Program) → Accept p → RunsOwnMethods p
unfolding run_by
own_methods p ac named m n d f x i at_n at_d made = runs_own p ac named m n d f x i at_n at_d (concrete_by p d.class made)

-- ---- steps of constructors

-- a constructor calls the super constructor
super_in_constructor : (p : Program) (x : Body) (a : Action) → calls_constructor p a ≡ true → CallsSuperClass p x a → constructs (method_at p x.method) ≡ true
super_in_constructor p x actions.Skip calls place = absurd (true≢false (sym calls))
super_in_constructor p x (actions.Super m d n) calls place = go (method_at p x.method) place
  where
    go : (y : Option Method) → IsSomeAnd y (λ z. (z.kind ≡ methods.Ctor)
        × IsSomeAnd (class_at p z.class) (λ k. IsSomeAnd k.sup (λ c. IsSomeAnd (method_at p m) (λ u. (u.kind ≡ methods.Ctor) × (u.class ≡ c))))) → constructs y ≡ true
    go None has = absurd has
    go (Some y) has = ap is_constructor_kind has.0
super_in_constructor p x a calls place = absurd (true≢false (sym calls))

-- the class of the super constructor is extended
extended_by : (p : Program) (x : Body) (m : MethodId) (c : ClassId) → IsOfSuperClass p x m → is_class_of c (method_at p m) ≡ true → is_extended p c ≡ true
extended_by p x m c place same = by_method (method_at p x.method) place
  where
    by_constructor : (y : Option Method) (d : ClassId) → IsSomeAnd y (λ z. (z.kind ≡ methods.Ctor) × (z.class ≡ d)) → is_class_of c y ≡ true → is_class c d ≡ true
    by_constructor None d has is = absurd has
    by_constructor (Some y) d has is = ap (is_class c) (sym has.1) ∙ is

    by_super : (s : Option ClassId) → IsSomeAnd s (λ d. IsSomeAnd (method_at p m) (λ z. (z.kind ≡ methods.Ctor) × (z.class ≡ d))) → is_super c s ≡ true
    by_super None has = absurd has
    by_super (Some d) has = by_constructor (method_at p m) d has same

    by_class : (n : ClassId) (k : Option Class) → class_at p n ≡ k → IsSomeAnd k (λ z. IsSomeAnd z.sup (λ d. IsSomeAnd (method_at p m) (λ u. (u.kind ≡ methods.Ctor) × (u.class ≡ d)))) → is_extended p c ≡ true
    by_class n None at has = absurd has
    by_class n (Some k) at has = any_at (λ (z : Class). is_super c z.sup) p.classes.items n.0 k at (by_super k.sup has)

    by_method : (y : Option Method) → IsSomeAnd y (λ z. (z.kind ≡ methods.Ctor)
        × IsSomeAnd (class_at p z.class) (λ k. IsSomeAnd k.sup (λ d. IsSomeAnd (method_at p m) (λ u. (u.kind ≡ methods.Ctor) × (u.class ≡ d))))) → is_extended p c ≡ true
    by_method None has = absurd has
    by_method (Some y) has = by_class y.class (class_at p y.class) refl has.1

module _ (p : Program) (ac : Accept p) where
  -- no class extends one with owning fields
  not_extended : (f : FieldId) (x : Field) → field_at p f ≡ Some x → x.owning ≡ true → is_extended p x.class ≡ false
  not_extended f x at owning = not_true (is_extended p x.class) (λ extended. true≢false (
      sym (or_left (x.is_static || not x.is_private || not (is_class_type x.vtype) || is_assigned_from_outside p f x || is_extended p x.class) (may_hold_unseen_reset p x.vtype)
      (or_right (x.is_static || not x.is_private || not (is_class_type x.vtype) || is_assigned_from_outside p f x) (is_extended p x.class) extended)) ∙ well_shaped p ac f x at owning))

  super_is_other : (x : Body) (a : Action) (m : MethodId) (f : FieldId) (y : Field) → CallsSuperClass p x a → calls_constructor p a ≡ true → called_method a ≡ Some m → field_at p f ≡ Some y → y.owning ≡ true
      → is_class_of y.class (method_at p m) ≡ false
  super_is_other x actions.Skip m f y place calls names at owning = absurd (true≢false (sym calls))
  super_is_other x (actions.Super n d count) m f y place calls names at owning =
      let one : n ≡ m = (let both : Some n ≡ Some m = names in cc) in
      not_true (is_class_of y.class (method_at p m)) (λ same. true≢false (
      sym (extended_by p x m y.class (subst (IsOfSuperClass p x) one place) same) ∙ not_extended f y at owning))
  super_is_other x a m f y place calls names at owning = absurd (true≢false (sym calls))

  own_place : (x : Body) (b : BodyId) (f : FieldId) → body_at p b ≡ Some x → is_owning p f ≡ true → is_beside_method (field_at p f) (method_at p x.method) ≡ true → has_field_place p b f ≡ true
  own_place x b f at owning beside = go (field_at p f) owning (ap (is_beside_method (field_at p f)) (ap (method_in p) at) ∙ beside)
    where
      go : (y : Option Field) → is_owning_field y ≡ true → is_beside_method y (method_of p b) ≡ true → is_field_in p b y ≡ true
      go None owning' beside' = absurd (true≢false (sym owning'))
      go (Some y) owning' beside' = and_from y.owning (is_class_of y.class (method_of p b)) owning' (by (method_of p b) beside')
        where
          by : (m : Option Method) → is_beside_method (Some y) m ≡ true → is_class_of y.class m ≡ true
          by None is = absurd (true≢false (sym is))
          by (Some m) is = same_class m.class y.class is

  module _ (files : MeetsFileConditions p) where
    super_calls : (b : BodyId) {k : List Todo} (i : ℕ) (t : Move (List Todo)) → Comes (relation_of p b) k → slice_get ((relation_of p b).next k) i ≡ Some t → calls_constructor p t.action ≡ true
        → is_constructor p b ≡ true
    super_calls b {k = k} i t comes there calls =
        let x = body_there p b k i t there in
        ap constructs (ap (method_in p) x.1) ∙ super_in_constructor p x.0 t.action calls (has_its_place p ac.well_formed.valid.typed b x.0 k i t x.1 comes there).0

    stores : (b : BodyId) {k : List Todo} (i : ℕ) (t : Move (List Todo)) (f : FieldId) (d : ℕ) → Comes (relation_of p b) k → slice_get ((relation_of p b).next k) i ≡ Some t
        → t.action ≡ actions.PutOwn f d → has_field_place p b f ≡ true
    stores b {k = k} i t f d comes there is =
        let x = body_there p b k i t there in
        let own = subst (StoresOwnField p x.0) is (has_its_place p ac.well_formed.valid.typed b x.0 k i t x.1 comes there).1 in
        own_place x.0 b f x.1 own.0 own.1

    parents : (b : BodyId) {k : List Todo} (i : ℕ) (t : Move (List Todo)) (m : MethodId) (f : FieldId) (y : Field) → Comes (relation_of p b) k
        → slice_get ((relation_of p b).next k) i ≡ Some t → calls_constructor p t.action ≡ true → called_method t.action ≡ Some m → field_at p f ≡ Some y → y.owning ≡ true
        → is_class_of y.class (method_at p m) ≡ false
    parents b {k = k} i t m f y comes there calls names at owning =
        let x = body_there p b k i t there in
        super_is_other x.0 t.action m f y (has_its_place p ac.well_formed.valid.typed b x.0 k i t x.1 comes there).0 calls names at owning

    pub plain_forms : HasPlainForms p
    plain_forms = record {
      steps = plain_steps p ac files;
      supers = supers_come_first p ac.well_formed.valid.typed files.passes;
      super_calls = super_calls;
      stores = stores;
      updates = text_updates p ac files;
      parents = parents;
      own = own_methods p ac;
      library = λ c d under is. files.library c d ((is_under_law p ac.well_formed.valid.typed.hierarchy c d).0 under) is;
      given = files.given.results;
      alone = owners_alone p ac files;
    }
