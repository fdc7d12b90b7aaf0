-- A constructor without an aliased argument, of a class that no other one extends, runs on the object that it makes, which is not finished.
use Rattle.std.proofs.Common.{◌≡◌, ℕ, true, false, not, Option, IsSomeAnd, Some, None, List, [], ◌∷◌, refl, sym, ap, ◌∙◌, subst, true≢false, eq-eqb}
use Rattle.std.proofs.lemmas.Bool.{and_parts}
use Rattle.program_model.specs.declared.kinds.ClassId.{ClassId}
use Rattle.program_model.specs.declared.kinds.MethodId.{MethodId}
use Rattle.program_model.specs.declared.kinds.MethodKind.TheVariants as methods
use Rattle.program_model.specs.declared.program.Class.{Class}
use Rattle.program_model.specs.declared.program.Method.{Method}
use Rattle.program_model.specs.declared.program.Program.{Program}
use Rattle.program_model.specs.declared.tree.Body.{Body}
use Rattle.program_model.specs.Lookups.{class_at, method_at}
use Rattle.program_model.specs.SuperTests.{is_class}
use Rattle.ledger_obligations.specs.Bodies.{alias_in, constructs, is_extended, is_extended_in, is_super}
use Rattle.ownership_rules.specs.Signatures.{is_present}
use Rattle.java_control.specs.Calls.{called_method}
use Rattle.control_actions.specs.declared.action.Action.{Action}
use Rattle.control_actions.specs.declared.action.Action.TheVariants as actions
use Rattle.control_actions.specs.declared.action.TargetForm.{TargetForm}
use Rattle.ledger_state.specs.Contents.{HeapContents}
use Rattle.ledger_state.specs.Heaps.{object_at, root_of}
use Rattle.ledger_state.specs.declared.object.Link.{Link}
use Rattle.ledger_state.specs.declared.object.Object.{Object}
use Rattle.ledger_state.specs.declared.value.Value.TheVariants as values
use Rattle.value_laws.specs.Accept.{Accept}
use Rattle.value_laws.specs.Agreement.{AllStand, IsMade, IsMadeByNew, IsStacked, RunsItself, Stands, WaitsFor}
use Rattle.value_laws.specs.Configuration.{Frame}
use Rattle.value_laws.specs.Constructors.{CallsSuperClass, IsOfSuperClass}
use Rattle.value_laws.specs.FieldContents.{is_new}
use Rattle.value_laws.specs.Heaps.{HasEarlierLinks}
use Rattle.value_laws.specs.Naming.{IsOfItsKind}
use Rattle.value_laws.specs.Paths.{move_of}
use Rattle.value_laws.specs.Places.{class_of_method}
use Rattle.value_laws.specs.Renewing.{HasOwningField, IsMadeBy, is_declared_beside, makes_alone}
use Rattle.value_laws.proofs.Chains.{object_there}
use Rattle.value_laws.proofs.ConstructorReached.{has_its_place}
use Rattle.value_laws.proofs.HeapLaws.{roots_of_links-itself}
use Rattle.value_laws.proofs.NamedReached.{names_what_is_there}
use Rattle.covering_laws.specs.Making.{AreBeingMade}
use Rattle.covering_laws.specs.Sight.{MakesThis}
use Rattle.covering_laws.proofs.Following.{step_there}
use Rattle.covering_laws.proofs.GivenAway.{any_at}
pub use Rattle.covering_laws.proofs.ThisOperands.{first_value}

-- ---- classes

-- the class of a super constructor is extended
super_is_extended : (p : Program) (x : Body) (m : MethodId) (r : Method) → IsOfSuperClass p x m → method_at p m ≡ Some r → is_extended p r.class ≡ true
super_is_extended p x m r place named = by_method (method_at p x.method) place
  where
    by_constructor : (y : Option Method) (d : ClassId) → method_at p m ≡ y → IsSomeAnd y (λ z. (z.kind ≡ methods.Ctor) × (z.class ≡ d)) → is_class r.class d ≡ true
    by_constructor None d at has = absurd has
    by_constructor (Some y) d at has =
        let one : r ≡ y = (let both : Some r ≡ Some y = sym named ∙ at in cc) in
        ap (is_class r.class) (sym has.1 ∙ ap (λ (u : Method). u.class) (sym one)) ∙ eq-eqb r.class.0 r.class.0 refl

    by_super : (s : Option ClassId) → IsSomeAnd s (λ d. IsSomeAnd (method_at p m) (λ z. (z.kind ≡ methods.Ctor) × (z.class ≡ d))) → is_super r.class s ≡ true
    by_super None has = absurd has
    by_super (Some d) has = by_constructor (method_at p m) d refl has

    by_class : (n : ClassId) (k : Option Class) → class_at p n ≡ k → IsSomeAnd k (λ z. IsSomeAnd z.sup (λ d. IsSomeAnd (method_at p m) (λ u. (u.kind ≡ methods.Ctor) × (u.class ≡ d)))) → is_extended p r.class ≡ true
    by_class n None at has = absurd has
    by_class n (Some k) at has = any_at (λ (z : Class). is_super r.class z.sup) p.classes.items n.0 k at (by_super k.sup has)

    by_method : (y : Option Method) → IsSomeAnd y (λ z. (z.kind ≡ methods.Ctor)
        × IsSomeAnd (class_at p z.class) (λ k. IsSomeAnd k.sup (λ d. IsSomeAnd (method_at p m) (λ u. (u.kind ≡ methods.Ctor) × (u.class ≡ d))))) → is_extended p r.class ≡ true
    by_method None has = absurd has
    by_method (Some y) has = by_class y.class (class_at p y.class) refl has.1

-- ---- the object that a constructor makes

module _ (p : Program) (ac : Accept p) (h : HeapContents) (links : HasEarlierLinks h) (fr : Frame) (frs : List Frame) (stand : AllStand p (fr ∷ frs)) (stacked : IsStacked p h (fr ∷ frs))
    (making : AreBeingMade p h (fr ∷ frs)) (makes : constructs (method_at p fr.method) ≡ true) (whole : is_extended_in p (method_at p fr.method) ≡ false) where
  abbrev st : Stands p fr
  st = stand.0

  extended : (r : Method) → method_at p fr.method ≡ Some r → is_extended p r.class ≡ true → ⊥
  extended r named is = true≢false (sym (ap (is_extended_in p) named ∙ is) ∙ whole)

  -- the object is the one of a `new`, and not finished
  record IsMadeHere (o : ℕ) (x : Object) : Type 0 where
    this : fr.locals.this ≡ values.Object o
    method : Method
    named : method_at p fr.method ≡ Some method
    class : x.class ≡ method.class
    open' : x.finished ≡ false

  method_there : (r : Option Method) → constructs r ≡ true → (m : Method) × (r ≡ Some m)
  method_there None is = absurd (true≢false (sym is))
  method_there (Some m) is = (m, refl)

  made_here : (gs : List Frame) → AllStand p (fr ∷ gs) → IsStacked p h (fr ∷ gs) → AreBeingMade p h (fr ∷ gs) → (o : ℕ) (x : Object) → root_of h fr.locals.this ≡ Some o → object_at h o ≡ Some x → IsMadeHere o x
  made_here [] stand' stacked' making' o x root at = absurd (true≢false (sym makes ∙ stacked'.1))
  made_here (caller ∷ gs) stand' stacked' making' o x root at = by waits.step.action refl
    where
      waits : WaitsFor p h caller fr
      waits = stacked'.0

      below : Stands p caller
      below = stand'.1.0

      its : (m : Method) × (method_at p fr.method ≡ Some m)
      its = method_there (method_at p fr.method) makes

      itself : (m : MethodId) → called_method waits.step.action ≡ Some m → fr.method ≡ waits.named → fr.method ≡ m
      itself m calls same = same ∙ (let both : Some waits.named ≡ Some m = sym waits.calls ∙ calls in (let one : waits.named ≡ m = cc in one))

      by_new : (m : MethodId) (d n : ℕ) → waits.step.action ≡ actions.New m d n → fr.method ≡ m → IsMade p h m fr.locals.this → IsMadeHere o x
      by_new m d n is same (k, this, under, class, above) = record {
        this = this ∙ ap values.Object number;
        method = its.0;
        named = its.1;
        class = (let both : Some its.0.class ≡ Some x.class = sym (ap class_of_method (ap (method_at p) (sym same) ∙ its.1)) ∙ class x (ap (object_at h) number ∙ at) in (let one : its.0.class ≡ x.class = cc in sym one));
        open' = ap (λ (u : Object). u.finished) (let both : Some x ≡ Some there.0 = sym at ∙ sym (ap (object_at h) number) ∙ there.1 in (let one : x ≡ there.0 = cc in one)) ∙ making'.0 waits.index waits.step k there.0 waits.here (ap is_new is) this there.1;
      }
        where
          there : (z : Object) × (object_at h k ≡ Some z)
          there = object_there h k x above under

          unlinked : (l : Option Link) → there.0.link ≡ l → there.0.link ≡ None
          unlinked None none = none
          unlinked (Some l) some = absurd (true≢false (sym (links k there.0 l there.1 some).finished ∙ making'.0 waits.index waits.step k there.0 waits.here (ap is_new is) this there.1))

          number : k ≡ o
          number =
              let both : Some k ≡ Some o = ap Some (sym (roots_of_links-itself h k there.0 there.1 (unlinked there.0.link refl))) ∙ ap (root_of h) (sym this) ∙ root in
              cc

      by_super : (m : MethodId) (d n : ℕ) → waits.step.action ≡ actions.Super m d n → fr.method ≡ m → IsMadeHere o x
      by_super m d n is same =
          let place = (has_its_place p ac.well_formed.valid.typed below.number below.body caller.control waits.index (move_of waits.step) below.at below.control (step_there p caller below waits.index waits.step waits.here)).0 in
          absurd (extended its.0 its.1 (super_is_extended p below.body m its.0 (subst (CallsSuperClass p below.body) is place) (ap (method_at p) (sym same) ∙ its.1)))

      -- no other call begins a constructor
      by_call : (m : MethodId) (d n : ℕ) (form : TargetForm) → waits.step.action ≡ actions.Call m d n form → IsMadeHere o x
      by_call m d n form is =
          let kind = (names_what_is_there p ac.well_formed.valid.typed below.number below.body caller.control waits.index (move_of waits.step) below.at below.control (step_there p caller below waits.index waits.step waits.here)).1 in
          let named : waits.named ≡ m = (let both : Some waits.named ≡ Some m = sym waits.calls ∙ ap called_method is in (let one : waits.named ≡ m = cc in one)) in
          absurd (true≢false (sym makes ∙ waits.kind ∙ ap (λ (u : MethodId). constructs (method_at p u)) named ∙ subst (IsOfItsKind p) is kind))

      none_called : (a : Action) → waits.step.action ≡ a → called_method a ≡ None → IsMadeHere o x
      none_called a is none = absurd (let never : None ≡ Some waits.named = sym none ∙ ap called_method (sym is) ∙ waits.calls in cc)

      by : (a : Action) → waits.step.action ≡ a → IsMadeHere o x
      by actions.Skip is = none_called actions.Skip is refl
      by (actions.New m d n) is =
          let same : fr.method ≡ m = itself m (ap called_method is) (subst (λ (a : Action). RunsItself a waits.named fr.method) is waits.itself) in
          by_new m d n is same (subst (λ (a : Action). IsMadeByNew p h a fr.locals.this) is waits.makes)
      by (actions.Super m d n) is = by_super m d n is (itself m (ap called_method is) (subst (λ (a : Action). RunsItself a waits.named fr.method) is waits.itself))
      by (actions.Call m d n form) is = by_call m d n form is
      by a is = none_called a is refl

  -- so a constructor runs on what it makes
  makes_here : makes_alone (method_at p fr.method) ≡ true → (o : ℕ) (x : Object) → root_of h fr.locals.this ≡ Some o → object_at h o ≡ Some x → HasOwningField p x.class → IsMadeBy p fr o × (x.finished ≡ false)
  makes_here alone o x root at (field, declared, has, owning, class) =
      let made = made_here frs stand stacked making o x root at in (
        record {
          alone = alone;
          field = field;
          declared = ap (is_declared_beside p fr.method) has ∙ rw (owning, made.named) (ap (is_class declared.class) (sym (class ∙ made.class)) ∙ eq-eqb declared.class.0 declared.class.0 refl);
          runs = made.this;
        },
        made.open',
      )

pub makes_this : (p : Program) → Accept p → (h : HeapContents) → HasEarlierLinks h → (fr : Frame) (frs : List Frame) → AllStand p (fr ∷ frs) → IsStacked p h (fr ∷ frs) → AreBeingMade p h (fr ∷ frs) → MakesThis p h fr
makes_this p ac h links fr frs stand stacked making alone whole =
    makes_here p ac h links fr frs stand stacked making (and_parts (constructs (method_at p fr.method)) (not (is_present (alias_in (method_at p fr.method)))) alone).0 whole alone
