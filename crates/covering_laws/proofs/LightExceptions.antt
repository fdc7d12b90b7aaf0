-- No class of exceptions has an obligation.
use Rattle.std.proofs.Common.{◌≡◌, ℕ, zero, suc, Bool, true, false, not, ◌&&◌, Option, Some, None, List, [], ◌∷◌, ◌++◌, slice_get, refl, sym, ap, ◌∙◌, subst, true≢false, if◌then◌else◌}
use Rattle.std.specs.List.{flat_map}
use Rattle.rlc_base.specs.declared.code.Code.{Code}
use Rattle.rlc_base.specs.declared.code.Code.TheVariants as refused
use Rattle.rlc_base.specs.declared.faults.Refusal.{Refusal}
use Rattle.rlc_base.specs.declared.place.Pos.{Pos}
use Rattle.rlc_base.proofs.SetLaws.{within_self}
use Rattle.program_model.specs.declared.kinds.ClassId.{ClassId}
use Rattle.program_model.specs.declared.program.Class.{Class}
use Rattle.program_model.specs.declared.program.Program.{Program}
use Rattle.program_model.specs.Lookups.{class_at}
use Rattle.program_model.specs.SuperTests.{classes_above, has_class, is_under}
use Rattle.ledger_obligations.specs.MustCallSets.{is_empty, is_heavy_class, must_in, no_names}
use Rattle.ledger_obligations.specs.Refusals.{where_true}
use Rattle.value_laws.specs.AnnotationCases.{body_cases, class_cases, field_cases, is_heavy_throwable, method_cases}
use Rattle.std.specs.List.{All, find}
use Rattle.std.proofs.lemmas.List.Elements.{All-head, All-nil, All-tail}
use Rattle.program_model.specs.declared.kinds.BinaryOperator.{BinaryOperator}
use Rattle.program_model.specs.declared.kinds.BinaryOperator.TheVariants as binary
use Rattle.program_model.specs.declared.kinds.MethodId.{MethodId}
use Rattle.program_model.specs.declared.program.Method.{Method}
use Rattle.program_model.specs.Hierarchy.{HasClass, IsUnder, above, itself}
use Rattle.program_model.specs.Lookups.{method_at}
use Rattle.program_model.specs.Validity.{IsTypedProgram}
use Rattle.program_model.proofs.HierarchyLaws.{is_under_law}
use Rattle.java_control.specs.Exceptions.{unchecked}
use Rattle.control_actions.specs.declared.action.Action.{Action}
use Rattle.control_actions.specs.declared.action.Action.TheVariants as actions
use Rattle.control_actions.specs.declared.action.Operator.{Operator}
use Rattle.control_actions.specs.declared.action.Operator.TheVariants as operators
use Rattle.ledger_state.specs.Contents.{HeapContents}
use Rattle.ledger_state.specs.Values.{is_null, number_in}
use Rattle.ledger_state.specs.declared.array.ArrayObject.{ArrayObject}
use Rattle.ledger_state.specs.declared.locals.Locals.{Locals}
use Rattle.ledger_state.specs.declared.value.Value.{Value}
use Rattle.ledger_state.specs.Classes.{array_length}
use Rattle.value_laws.specs.Operations.{is_index, operand, thrown_by_index, thrown_by_number, thrown_by_operation, thrown_by_operator, thrown_where}
use Rattle.ledger_steps.specs.LedgerCallsCalls.{leaves_by}
use Rattle.value_laws.specs.Accept.{Accept}

-- both parts of an empty list are empty
left_empty : (xs ys : List Refusal) → xs ++ ys ≡ [] → xs ≡ []
left_empty [] ys none = refl
left_empty (x ∷ xs) ys none = absurd (let never : x ∷ (xs ++ ys) ≡ [] = none in cc)

right_empty : (xs ys : List Refusal) → xs ++ ys ≡ [] → ys ≡ []
right_empty [] ys none = none
right_empty (x ∷ xs) ys none = absurd (let never : x ∷ (xs ++ ys) ≡ [] = none in cc)

each_empty : {X : Type 0} (f : X → List Refusal) (xs : List X) (i : ℕ) (x : X) → flat_map f xs ≡ [] → slice_get xs i ≡ Some x → f x ≡ []
each_empty f [] i x none at = absurd (let never : None ≡ Some x = at in cc)
each_empty f (y ∷ xs) zero x none at = ap f (let same : x ≡ y = (let both : Some y ≡ Some x = at in cc) in same) ∙ left_empty (f y) (flat_map f xs) none
each_empty f (y ∷ xs) (suc i) x none at = each_empty f xs i x (right_empty (f y) (flat_map f xs) none) at

no_case : (b : Bool) (code : Code) (pos : Pos) → where_true b code pos ≡ [] → b ≡ false
no_case true code pos none = absurd (let never : where_true true code pos ≡ [] = none in cc)
no_case false code pos none = refl

-- a class of Throwables asks for no call
pub exceptions_are_light : (p : Program) → Accept p → (c : ClassId) → is_under p c p.core.throwable ≡ true → is_heavy_class p c ≡ false
exceptions_are_light p ac c under = go (class_at p c) refl
  where
    by : (a b : Bool) → a ≡ true → (a && b) ≡ false → b ≡ false
    by true b is none = none
    by false b is none = absurd (true≢false (sym is))

    go : (k : Option Class) → class_at p c ≡ k → is_heavy_class p c ≡ false
    go None at = ap (λ (z : Option Class). not (is_empty (must_in z))) at ∙ ap not (within_self no_names)
    go (Some k) at =
        let classes : flat_map (class_cases p) p.classes.items ≡ [] = left_empty (flat_map (class_cases p) p.classes.items) (flat_map field_cases p.fields.items)
        (left_empty (flat_map (class_cases p) p.classes.items ++ flat_map field_cases p.fields.items) (flat_map (method_cases p) p.methods.items)
        (left_empty (flat_map (class_cases p) p.classes.items ++ flat_map field_cases p.fields.items ++ flat_map (method_cases p) p.methods.items) (flat_map (body_cases p) p.bodies.items) ac.annotations)) in
        let cases : class_cases p k ≡ [] = each_empty (class_cases p) p.classes.items c.0 k classes at in
        let heavy : is_heavy_throwable p k ≡ false = no_case (is_heavy_throwable p k) refused.BadAnno k.pos (right_empty _ _ (left_empty _ _ cases)) in
        let above : has_class k.above.items p.core.throwable ≡ true = ap (λ (z : Option Class). has_class (classes_above c z) p.core.throwable) (sym at) ∙ under in
        ap (λ (z : Option Class). not (is_empty (must_in z))) at ∙ by (has_class k.above.items p.core.throwable) (not (is_empty k.must)) above heavy

-- ---- the exceptions of operations and of calls

under_all : (p : Program) (c d e : ClassId) → IsUnder p c d → IsUnder p d e → IsUnder p c e
under_all p c d e (itself x) rest = rest
under_all p c d e (above x y z direct more) rest = above x y e direct (under_all p y z e more rest)

module _ (p : Program) (ac : Accept p) where
  typed : IsTypedProgram p
  typed = ac.well_formed.valid.typed

  throwable_is_light : (c : ClassId) → IsUnder p c p.core.throwable → is_heavy_class p c ≡ false
  throwable_is_light c under = exceptions_are_light p ac c ((is_under_law p typed.hierarchy c p.core.throwable).1 under)

  runtime_is_light : (c : ClassId) → IsUnder p c p.core.runtime_exception → is_heavy_class p c ≡ false
  runtime_is_light c under = throwable_is_light c (under_all p c p.core.runtime_exception p.core.throwable under typed.exceptions.runtime_exception)

  pub null_pointer_is_light : is_heavy_class p p.core.null_pointer_exception ≡ false
  null_pointer_is_light = runtime_is_light p.core.null_pointer_exception typed.exceptions.null_pointer_exception

  abbrev IsLight : ClassId → Type 0
  IsLight c = is_heavy_class p c ≡ false

  where_light : (b : Bool) (x c : ClassId) → IsLight x → thrown_where b x ≡ Some c → IsLight c
  where_light true x c light is = subst IsLight (let both : Some x ≡ Some c = is in (let one : x ≡ c = cc in one)) light
  where_light false x c light is = absurd (let never : None ≡ Some c = is in cc)

  number_light : (o : BinaryOperator) (v : Value) (c : ClassId) → thrown_by_number p o v ≡ Some c → IsLight c
  number_light binary.Divide v c is = where_light _ p.core.arithmetic_exception c (runtime_is_light p.core.arithmetic_exception typed.exceptions.arithmetic_exception) is
  number_light binary.Remainder v c is = where_light _ p.core.arithmetic_exception c (runtime_is_light p.core.arithmetic_exception typed.exceptions.arithmetic_exception) is
  number_light o v c is = absurd (let never : None ≡ Some c = is in cc)

  index_light : (arrays : List ArrayObject) (a i : Value) (c : ClassId) → thrown_by_index p arrays a i ≡ Some c → IsLight c
  index_light arrays a i c is = go (is_null a) is
    where
      go : (b : Bool) → (if b then Some p.core.null_pointer_exception else thrown_where (not (is_index (number_in i) (array_length arrays a))) p.core.array_index_exception) ≡ Some c → IsLight c
      go true is' = where_light true p.core.null_pointer_exception c null_pointer_is_light is'
      go false is' = where_light _ p.core.array_index_exception c (runtime_is_light p.core.array_index_exception typed.exceptions.array_index_exception) is'

  operator_light : (arrays : List ArrayObject) (l : Locals) (k : Operator) (d : ℕ) (c : ClassId) → thrown_by_operator p arrays l k d ≡ Some c → IsLight c
  operator_light arrays l (operators.Binary o t r) d c is = number_light o (operand l d 1) c is
  operator_light arrays l operators.Element d c is = index_light arrays (operand l d 0) (operand l d 1) c is
  operator_light arrays l operators.StoreElement d c is = index_light arrays (operand l d 0) (operand l d 1) c is
  operator_light arrays l operators.Length d c is = where_light _ p.core.null_pointer_exception c null_pointer_is_light is
  operator_light arrays l (operators.NewArray t) d c is =
      where_light _ p.core.negative_array_size_exception c (runtime_is_light p.core.negative_array_size_exception typed.exceptions.negative_array_size_exception) is
  operator_light arrays l k d c is = absurd (let never : None ≡ Some c = is in cc)

  -- what an operation throws
  pub operation_is_light : (h : HeapContents) (arrays : List ArrayObject) (l : Locals) (a : Action) (c : ClassId) → thrown_by_operation p h arrays l a ≡ Some c → IsLight c
  operation_is_light h arrays l actions.Skip c is = absurd (let never : None ≡ Some c = is in cc)
  operation_is_light h arrays l (actions.Op k d n) c is = operator_light arrays l k d c is
  operation_is_light h arrays l (actions.Get f d this) c is = where_light _ p.core.null_pointer_exception c null_pointer_is_light is
  operation_is_light h arrays l (actions.Put f d this) c is = where_light _ p.core.null_pointer_exception c null_pointer_is_light is
  operation_is_light h arrays l (actions.Cast t d) c is =
      where_light _ p.core.class_cast_exception c (runtime_is_light p.core.class_cast_exception typed.exceptions.class_cast_exception) is
  operation_is_light h arrays l (actions.Raise d s) c is = where_light _ p.core.null_pointer_exception c null_pointer_is_light is
  operation_is_light h arrays l a c is = absurd (let never : None ≡ Some c = is in cc)

  -- what leaves a call as an exception
  abbrev IsThrown : ClassId → Type 0
  IsThrown c = HasClass p c × IsUnder p c p.core.throwable

  under_is_thrown : (e c : ClassId) → is_under p e c ≡ true → IsUnder p c p.core.throwable → IsUnder p e p.core.throwable
  under_is_thrown e c is under = under_all p e c p.core.throwable ((is_under_law p typed.hierarchy e c).0 is) under

  found_is_thrown : (e c : ClassId) (cs : List ClassId) → All IsThrown cs → find (is_under p e) (cs ++ unchecked p) ≡ Some c → IsUnder p e p.core.throwable
  found_is_thrown e c [] all is = go (is_under p e p.core.runtime_exception) refl is
    where
      further : (b : Bool) → is_under p e p.core.error ≡ b → (if b then Some p.core.error else None) ≡ Some c → IsUnder p e p.core.throwable
      further true under same = under_is_thrown e p.core.error under typed.exceptions.error
      further false under same = absurd (let never : None ≡ Some c = same in cc)

      go : (b : Bool) → is_under p e p.core.runtime_exception ≡ b → (if b then Some p.core.runtime_exception else find (is_under p e) (p.core.error ∷ [])) ≡ Some c → IsUnder p e p.core.throwable
      go true under same = under_is_thrown e p.core.runtime_exception under typed.exceptions.runtime_exception
      go false under same = further (is_under p e p.core.error) refl same
  found_is_thrown e c (x ∷ cs) all is = go (is_under p e x) refl is (found_is_thrown e c cs (All-tail IsThrown x cs all))
    where
      go : (b : Bool) → is_under p e x ≡ b → (if b then Some x else find (is_under p e) (cs ++ unchecked p)) ≡ Some c → (find (is_under p e) (cs ++ unchecked p) ≡ Some c → IsUnder p e p.core.throwable) → IsUnder p e p.core.throwable
      go true under same rest = under_is_thrown e x under (All-head IsThrown x cs all).1
      go false under same rest = rest same

  leaving_is_under : (named : MethodId) (e c : ClassId) → leaves_by p (method_at p named) e ≡ Some c → IsUnder p e p.core.throwable
  leaving_is_under named e c is = go (method_at p named) refl is
    where
      go : (m : Option Method) → method_at p named ≡ m → leaves_by p m e ≡ Some c → IsUnder p e p.core.throwable
      go None at is' = found_is_thrown e c [] (All-nil IsThrown) is'
      go (Some m) at is' = found_is_thrown e c m.sig.throws.items (typed.methods named m at).signature.throws is'

  pub leaving_is_light : (named : MethodId) (e c : ClassId) → leaves_by p (method_at p named) e ≡ Some c → IsLight e
  leaving_is_light named e c is = throwable_is_light e (leaving_is_under named e c is)

  -- and it is a Throwable
  pub leaving_is_throwable : (named : MethodId) (e c : ClassId) → leaves_by p (method_at p named) e ≡ Some c → is_under p e p.core.throwable ≡ true
  leaving_is_throwable named e c is = (is_under_law p typed.hierarchy e p.core.throwable).1 (leaving_is_under named e c is)

  pub under_itself : (c : ClassId) → is_under p c c ≡ true
  under_itself c = (is_under_law p typed.hierarchy c c).1 (itself c)
