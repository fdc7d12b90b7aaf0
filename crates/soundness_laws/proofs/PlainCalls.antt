-- The calls of an accepted program, and what may run at them.
use Rattle.std.proofs.Common.{◌≡◌, ℕ, Bool, true, false, Option, Some, None, IsSomeAnd, List, slice_get, refl, sym, ap, ◌∙◌, subst, true≢false}
use Rattle.program_model.specs.declared.kinds.BodyId.{BodyId}
use Rattle.program_model.specs.declared.kinds.ClassId.{ClassId}
use Rattle.program_model.specs.declared.kinds.FieldId.{FieldId}
use Rattle.program_model.specs.declared.kinds.MethodId.{MethodId}
use Rattle.program_model.specs.declared.kinds.MethodKind.TheVariants as methods
use Rattle.program_model.specs.declared.program.Class.{Class}
use Rattle.program_model.specs.declared.program.Method.{Method}
use Rattle.program_model.specs.declared.program.Program.{Program}
use Rattle.program_model.specs.declared.tree.Body.{Body}
use Rattle.program_model.specs.Lookups.{body_at, class_at, method_at}
use Rattle.program_model.specs.Overrides.{is_library}
use Rattle.ledger_obligations.specs.Bodies.{constructs, is_constructor_kind}
use Rattle.java_control.specs.Calls.{called_method}
use Rattle.java_control.specs.Owned.{is_owning}
use Rattle.java_control.specs.Remaining.{Todo}
use Rattle.control_actions.specs.declared.action.Action.{Action}
use Rattle.control_actions.specs.declared.action.Action.TheVariants as actions
use Rattle.control_actions.specs.declared.action.TargetForm.TheVariants as forms
use Rattle.content_laws.specs.Paths.{Comes, Move, relation_of}
use Rattle.content_laws.specs.Accept.{Accept}
use Rattle.content_laws.specs.Constructors.{CallsSuperClass, IsOfSuperClass, NamesInstance, StandsInBody, StoresAssignedField}
use Rattle.content_laws.proofs.ConstructorReached.{has_its_place, names_instance, stores_assigned, super_stands}
use Rattle.content_laws.proofs.StartReached.{body_there}
use Rattle.dispatch_laws.specs.Typed.{MovesLocals, NamesMembers}
use Rattle.dispatch_laws.proofs.Reached.{typed_step}
use Rattle.content_laws.specs.ClassOperands.{IsNotAboveString, OfClass}
use Rattle.content_laws.proofs.Calls.{class_runs, instance_runs, light_runs, no_result_runs, plain_call}
use Rattle.ledger_steps.specs.LedgerCallsCalls.{body_of}
use Rattle.content_laws.specs.Choosing.{body_id}
use Rattle.content_laws.specs.PlainForms.{IsPlainAction, IsTextUpdate, MayRun}
use Rattle.content_laws.specs.Running.{HasPlainRuns, IsAlike, is_on_object}
use Rattle.content_laws.specs.ClassValues.{KeepsResultClasses}
use Rattle.content_laws.specs.ClassOperands.{result_of}
use Rattle.content_laws.specs.AgreementConditions.{MeetsFileConditions}
use Rattle.soundness_laws.proofs.ConstantReads.{plain_read}
use Rattle.soundness_laws.proofs.FieldShapes.{assigned_is_text}
use Rattle.soundness_laws.proofs.FieldsAlone.{fields_promised_alone}
use Rattle.soundness_laws.proofs.Programs.{is_programs}
use Rattle.soundness_laws.proofs.SuperAliases.{super_gives_no_alias}

-- ---- what a call names

known : (o : Option Method) (x : Method) (P : Method → Type 0) → o ≡ Some x → IsSomeAnd o P → P x
known o x P is has = let Q : Option Method → Type 0 = λ y. IsSomeAnd y P in subst Q is has

-- what is called by `super(..)` is a constructor
super_constructs : (p : Program) (x : Body) (m : MethodId) → IsOfSuperClass p x m → constructs (method_at p m) ≡ true
super_constructs p x m place = by_method (method_at p x.method) place
  where
    by_constructor : (y : Option Method) (c : ClassId) → IsSomeAnd y (λ z. (z.kind ≡ methods.Ctor) × (z.class ≡ c)) → constructs y ≡ true
    by_constructor None c has = absurd has
    by_constructor (Some y) c has = ap is_constructor_kind has.0

    by_super : (s : Option ClassId) → IsSomeAnd s (λ c. IsSomeAnd (method_at p m) (λ z. (z.kind ≡ methods.Ctor) × (z.class ≡ c))) → constructs (method_at p m) ≡ true
    by_super None has = absurd has
    by_super (Some c) has = by_constructor (method_at p m) c has

    by_class : (k : Option Class) → IsSomeAnd k (λ z. IsSomeAnd z.sup (λ c. IsSomeAnd (method_at p m) (λ u. (u.kind ≡ methods.Ctor) × (u.class ≡ c)))) → constructs (method_at p m) ≡ true
    by_class None has = absurd has
    by_class (Some k) has = by_super k.sup has

    by_method : (y : Option Method) → IsSomeAnd y (λ z. (z.kind ≡ methods.Ctor)
        × IsSomeAnd (class_at p z.class) (λ k. IsSomeAnd k.sup (λ c. IsSomeAnd (method_at p m) (λ u. (u.kind ≡ methods.Ctor) × (u.class ≡ c))))) → constructs (method_at p m) ≡ true
    by_method None has = absurd has
    by_method (Some y) has = by_class (class_at p y.class) has.1

-- what is called on an object is an instance method
instance_named : (p : Program) (a : Action) (m : MethodId) (n : Method) → NamesInstance p a → called_method a ≡ Some m → is_on_object a ≡ true → method_at p m ≡ Some n → n.kind ≡ methods.Instance
instance_named p actions.Skip m n names calls on at = absurd (true≢false (sym on))
instance_named p (actions.Call k d count forms.Static) m n names calls on at = absurd (true≢false (sym on))
instance_named p (actions.Call k d count form) m n names calls on at =
    let same : k ≡ m = (let both : Some k ≡ Some m = calls in cc) in
    known (method_at p k) n (λ x. x.kind ≡ methods.Instance) (ap (method_at p) same ∙ at) names
instance_named p a m n names calls on at = absurd (true≢false (sym on))

-- ---- programs

module _ (p : Program) (ac : Accept p) (files : MeetsFileConditions p) where
  plain_action : (b : BodyId) (x : Body) (a : Action) → body_at p b ≡ Some x → CallsSuperClass p x a → StandsInBody x a → MovesLocals a → NamesMembers p x a → IsPlainAction p a
  plain_action b x actions.Skip at place stands moves names = tt
  plain_action b x (actions.Copy u v) at place stands moves names = moves
  plain_action b x (actions.Move u v) at place stands moves names = moves.0
  plain_action b x (actions.Plain u v) at place stands moves names = plain_read p ac files x u v names
  plain_action b x (actions.Call m d n form) at place stands moves names = plain_call p ac files.library (fields_promised_alone p ac files) m
  plain_action b x (actions.New m d n) at place stands moves names = plain_call p ac files.library (fields_promised_alone p ac files) m
  plain_action b x (actions.Super m d n) at place stands moves names =
      (plain_call p ac files.library (fields_promised_alone p ac files) m, super_constructs p x m place, super_gives_no_alias p ac b x m stands.0 at stands.1 stands.2)
  plain_action b x a at place stands moves names = tt

  pub plain_steps : (b : BodyId) {k : List Todo} (i : ℕ) (t : Move (List Todo)) → Comes (relation_of p b) k → slice_get ((relation_of p b).next k) i ≡ Some t → IsPlainAction p t.action
  plain_steps b {k = k} i t comes there =
      let x = body_there p b k i t there in
      let typed = ac.well_formed.valid.typed in
      let members = typed_step p typed b x.0 k i t x.1 comes there in
      plain_action b x.0 t.action x.1 (has_its_place p typed b x.0 k i t x.1 comes there).0 (super_stands p typed b x.0 k i t x.1 comes there)
      members.0 members.1

  -- where another operator than `=` stores into an owning field, it is one of `this` of type `String`
  pub text_updates : (b : BodyId) (x : Body) {k : List Todo} (i : ℕ) (t : Move (List Todo)) (f : FieldId) (d : ℕ) (through_this : Bool) → body_at p b ≡ Some x → Comes (relation_of p b) k
      → slice_get ((relation_of p b).next k) i ≡ Some t → t.action ≡ actions.Put f d through_this → is_owning p f ≡ true → IsTextUpdate p x f through_this
  text_updates b x {k = k} i t f d through_this at comes there is owning =
      assigned_is_text p ac b x at f through_this (subst (StoresAssignedField p x) is (stores_assigned p ac.well_formed.valid.typed b x k i t at comes there)) owning

  module _ (b : BodyId) (k : List Todo) (i : ℕ) (t : Move (List Todo)) (named r : MethodId) (n x : Method) (comes : Comes (relation_of p b) k) (there : slice_get ((relation_of p b).next k) i ≡ Some t)
      (calls : called_method t.action ≡ Some named) (may : MayRun p named r) (at_n : method_at p named ≡ Some n) (at_x : method_at p r ≡ Some x) (own : is_library p x.class ≡ false) where
    alike : IsAlike p t.action n x
    alike =
        let body = body_there p b k i t there in
        let names = names_instance p ac.well_formed.valid.typed b body.0 k i t body.1 comes there in
        record {
          kind = λ on. instance_runs p ac files.library named r n x may at_n at_x own (instance_named p t.action named n names calls on at_n);
          none = λ none. no_result_runs p ac files.library named r n x may at_n at_x own none;
          light = λ owning light. light_runs p ac files.library named r n x may at_n at_x own files.results owning light;
        }

  -- what may run at a call is like the named method
  pub plain_runs : HasPlainRuns p
  plain_runs = record {
    alike = λ b {k} i t named r n x comes there calls may at_n at_x own. alike b k i t named r n x comes there calls may at_n at_x own;
  }

  module _ (bound : ClassId) (own : IsNotAboveString p bound) where
    class_results : (named runs : MethodId) (b : BodyId) → MayRun p named runs → body_id p runs ≡ Some b → OfClass p bound (result_of (method_at p named)) → OfClass p bound (result_of (method_at p runs))
    class_results named runs b may body to = by_named (method_at p named) refl to
      where
        by_runs : (n : Method) (o : Option Method) → method_at p named ≡ Some n → method_at p runs ≡ o → OfClass p bound n.sig.result → OfClass p bound (result_of o)
        by_runs n None at_n at_x to' = absurd (let never : None ≡ Some b = sym (ap body_of at_x) ∙ body in cc)
        by_runs n (Some x) at_n at_x to' = class_runs p ac files.library named runs n x may at_n at_x (is_programs p ac runs x b at_x body) bound own to'

        by_named : (o : Option Method) → method_at p named ≡ o → OfClass p bound (result_of o) → OfClass p bound (result_of (method_at p runs))
        by_named None at_n to' = absurd to'
        by_named (Some n) at_n to' = by_runs n (method_at p runs) at_n refl to'

  -- where the named method gives objects of a class, so does what may run
  pub plain_results : KeepsResultClasses p
  plain_results bound own = record { texts = own; results = class_results bound own }
