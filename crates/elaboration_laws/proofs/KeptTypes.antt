-- The bodies of a table keep their types in the program that has bodies.
use Rattle.std.proofs.Common.{◌≡◌, ◌⊎◌, ◌+◌, ◌≤◌, inl, inr, ℕ, zero, suc, false, length, Option, Some, None, List, [], ◌∷◌, All, IsSomeAnd, slice_get, sym, subst}
use Rattle.std.specs.Prelude.{Vec}
use Rattle.std.proofs.Math.Path.{path_j, subst_refl}
use Rattle.std.proofs.lemmas.List.Elements.{All-weaker}
use Rattle.program_model.specs.declared.kinds.BodyId.{BodyId}
use Rattle.program_model.specs.declared.kinds.ClassId.{ClassId}
use Rattle.program_model.specs.declared.kinds.MethodId.{MethodId}
use Rattle.program_model.specs.declared.kinds.FieldId.{FieldId}
use Rattle.program_model.specs.declared.kinds.ExprId.{ExprId}
use Rattle.program_model.specs.declared.kinds.VType.{VType}
use Rattle.program_model.specs.declared.kinds.VType.TheVariants as types
use Rattle.program_model.specs.declared.kinds.MethodKind.TheVariants as methods
use Rattle.program_model.specs.declared.program.Program.{Program}
use Rattle.program_model.specs.declared.program.Class.{Class}
use Rattle.program_model.specs.declared.program.Field.{Field}
use Rattle.program_model.specs.declared.program.Method.{Method}
use Rattle.program_model.specs.declared.program.ParamSig.{ParamSig}
use Rattle.program_model.specs.declared.tree.Body.{Body}
use Rattle.program_model.specs.declared.tree.TExpr.{TExpr}
use Rattle.program_model.specs.declared.tree.Declarator.{Declarator}
use Rattle.program_model.specs.declared.tree.Resource.{Resource}
use Rattle.program_model.specs.declared.tree.CatchClause.{CatchClause}
use Rattle.program_model.specs.declared.tree.SuperCall.{SuperCall}
use Rattle.program_model.specs.declared.tree.OperatorAssignment.{OperatorAssignment}
use Rattle.program_model.specs.declared.tree.CallExpression.{CallExpression}
use Rattle.program_model.specs.declared.tree.NewObject.{NewObject}
use Rattle.program_model.specs.declared.tree.ForInitial.{ForInitial}
use Rattle.program_model.specs.declared.tree.ForInitial.TheVariants as initials
use Rattle.program_model.specs.declared.tree.CallTarget.{CallTarget}
use Rattle.program_model.specs.declared.tree.CallTarget.TheVariants as calls
use Rattle.program_model.specs.declared.tree.AssignmentTarget.{AssignmentTarget}
use Rattle.program_model.specs.declared.tree.AssignmentTarget.TheVariants as targets
use Rattle.program_model.specs.declared.tree.ExpressionKind.{ExpressionKind}
use Rattle.program_model.specs.declared.tree.ExpressionKind.TheVariants as expressions
use Rattle.program_model.specs.declared.tree.StatementKind.{StatementKind}
use Rattle.program_model.specs.declared.tree.StatementKind.TheVariants as statements
use Rattle.program_model.specs.Lookups.{class_at, method_at, field_at, type_at, variable_type}
use Rattle.program_model.specs.Hierarchy.{HasClass, IsDirectSuper, IsUnder, above, itself}
use Rattle.program_model.specs.Typing.{assigned_field, class_of, kind_at, AreArguments, Fits, HasNoType, IsAssignable, IsCall, IsCallTarget, IsCatchClause, IsClose, IsConstruction, IsDeclarable, IsDeclarator, IsFieldInitializer, IsForInitial, IsInitializer, IsInstanceField, IsNewObject, IsOfOptionalType, IsOfType, IsOperatorAssignment, IsOwnPlace, IsResource, IsReturn, IsSuperCall, IsTarget, IsThisType, IsThrowable, IsTypeBelow, IsTypeUnder, IsTypedExpression, IsTypedStatement}
use Rattle.java_elaboration.specs.ProgramBodies.{body_number, methods_from, with_body}

-- ---- a step inside

pub some_so : {X : Type 0} (o : Option X) (P Q : X → Type 0) → ((x : X) → P x → Q x) → IsSomeAnd o P → IsSomeAnd o Q
some_so None P Q step found = found
some_so (Some x) P Q step found = step x found

pub either_so : {A B C : Type 0} → (B → C) → A ⊎ B → A ⊎ C
either_so step (inl a) = inl a
either_so step (inr b) = inr (step b)

-- ---- the program with bodies

-- a list in memory with equal items
abbrev turned : {X A : Type 0} (v : Vec X A) (xs : List X) → v.items ≡ xs → Vec X A
turned v xs e = record v { items = xs; ok = subst (λ l. (v.len ≡ length l) × (v.len ≤ v.cap)) e v.ok }

turned_is : {X A : Type 0} (v : Vec X A) (xs : List X) (e : v.items ≡ xs) → turned v xs e ≡ v
turned_is v xs e =
    path_j (λ ys d. turned v ys d ≡ v) (λ i. record v { ok = subst_refl (λ (l : List _). (v.len ≡ length l) × (v.len ≤ v.cap)) v.ok i }) e

-- the second program has the tables of the first, with the numbers of its own bodies
pub record SameTables (p s : Program) : Type 0 where
  pub classes : s.classes.items ≡ p.classes.items
  pub methods : s.methods.items ≡ methods_from s.bodies.items 0 p.methods.items
  pub fields : s.fields.items ≡ p.fields.items
  pub ignored : s.ignored.items ≡ p.ignored.items
  pub exact : s.exact.items ≡ p.exact.items
  pub core : s.core ≡ p.core

-- the same program, whose tables are by computation those of the first
abbrev pub over : (p s : Program) → SameTables p s → Program
over p s same = record s {
  classes = turned s.classes p.classes.items same.classes;
  methods = turned s.methods (methods_from s.bodies.items 0 p.methods.items) same.methods;
  fields = turned s.fields p.fields.items same.fields;
  ignored = turned s.ignored p.ignored.items same.ignored;
  exact = turned s.exact p.exact.items same.exact;
  core = p.core;
}

pub over_is : (p s : Program) (same : SameTables p s) → over p s same ≡ s
over_is p s same = λ i. record s {
  classes = turned_is s.classes p.classes.items same.classes i;
  methods = turned_is s.methods (methods_from s.bodies.items 0 p.methods.items) same.methods i;
  fields = turned_is s.fields p.fields.items same.fields i;
  ignored = turned_is s.ignored p.ignored.items same.ignored i;
  exact = turned_is s.exact p.exact.items same.exact i;
  core = sym same.core i;
}

-- each method is that of the table, but for its body
at_number : (bodies : List Body) (first i : ℕ) (ms : List Method) (P Q : Method → Type 0) → ((x : Method) (n : Option BodyId) → P x → Q (with_body n x)) → IsSomeAnd (slice_get ms i) P → IsSomeAnd (slice_get (methods_from bodies first ms) i) Q
at_number bodies first i [] P Q step found = found
at_number bodies first zero (m ∷ ms) P Q step found = step m (body_number bodies first) found
at_number bodies first (suc i) (m ∷ ms) P Q step found = at_number bodies (first + 1) i ms P Q step found

module _ (p s : Program) (same : SameTables p s) where
  abbrev q : Program
  q = over p s same

  pub at_method : (m : MethodId) (P Q : Method → Type 0) → ((x : Method) (n : Option BodyId) → P x → Q (with_body n x)) → IsSomeAnd (method_at p m) P → IsSomeAnd (method_at q m) Q
  at_method m P Q step found = at_number s.bodies.items 0 m.0 p.methods.items P Q step found

  pub direct : (c d : ClassId) → IsDirectSuper p c d → IsDirectSuper q c d
  direct c d is = is

  pub direct_before : (c d : ClassId) → IsDirectSuper q c d → IsDirectSuper p c d
  direct_before c d is = is

  pub under : (c d : ClassId) → IsUnder p c d → IsUnder q c d
  under c d (itself e) = itself e
  under c d (above b e f first rest) = above b e f (direct b e first) (under e f rest)

  pub under_before : (c d : ClassId) → IsUnder q c d → IsUnder p c d
  under_before c d (itself e) = itself e
  under_before c d (above b e f first rest) = above b e f (direct_before b e first) (under_before e f rest)

  -- ---- types

  type_under : (c : ClassId) (t : VType) → IsTypeUnder p c t → IsTypeUnder q c t
  type_under c t is = some_so (class_of p t) (λ d. IsUnder p d c) (λ d. IsUnder q d c) (λ d. under d c) is

  type_below : (c : ClassId) (t : VType) → IsTypeBelow p c t → IsTypeBelow q c t
  type_below c t is = (type_under c t is.0, is.1)

  pub declarable : (t : VType) → IsDeclarable p t → IsDeclarable q t
  declarable (types.Obj c) is = is
  declarable t is = is

  assignable : (t from : VType) → IsAssignable p from t → IsAssignable q from t
  assignable (types.Obj c) from is = either_so (type_under c from) is
  assignable t from is = is

  fits : (b : Body) (e : ExprId) (t : VType) → Fits p b e t → Fits q b e t
  fits b e t is = some_so (type_at b e) (λ from. IsAssignable p from t) (λ from. IsAssignable q from t) (assignable t) is

  -- ---- members

  expression_under : (b : Body) (e : ExprId) (c : ClassId) → IsSomeAnd (type_at b e) (IsTypeUnder p c) → IsSomeAnd (type_at b e) (IsTypeUnder q c)
  expression_under b e c is = some_so (type_at b e) (IsTypeUnder p c) (IsTypeUnder q c) (type_under c) is

  expression_below : (b : Body) (e : ExprId) (c : ClassId) → IsSomeAnd (type_at b e) (IsTypeBelow p c) → IsSomeAnd (type_at b e) (IsTypeBelow q c)
  expression_below b e c is = some_so (type_at b e) (IsTypeBelow p c) (IsTypeBelow q c) (type_below c) is

  instance_field : (b : Body) (e : ExprId) (f : FieldId) (t : VType) → IsInstanceField p b e f t → IsInstanceField q b e f t
  instance_field b e f t is =
      some_so (field_at p f) (λ x. (x.is_static ≡ false) × (x.vtype ≡ t) × IsSomeAnd (type_at b e) (IsTypeUnder p x.class))
      (λ x. (x.is_static ≡ false) × (x.vtype ≡ t) × IsSomeAnd (type_at b e) (IsTypeUnder q x.class))
      (λ x w. (w.0, w.1, expression_under b e x.class w.2)) is

  fit : (b : Body) (es : List ExprId) (xs : List ParamSig) → AreArguments p b es xs → AreArguments q b es xs
  fit b [] [] h = tt
  fit b [] (x ∷ xs) h = h
  fit b (e ∷ es) [] h = h
  fit b (e ∷ es) (x ∷ xs) h = (fits b e x.vtype h.0, fit b es xs h.1)

  call_target : (b : Body) (target : CallTarget) (x : Method) (n : Option BodyId) → IsCallTarget p b target x → IsCallTarget q b target (with_body n x)
  call_target b calls.Static x n w = w
  call_target b (calls.This e) x n w = (w.0, w.1, expression_under b e x.class w.2)
  call_target b (calls.Super e) x n w = (w.0, w.1, expression_below b e x.class w.2)
  call_target b (calls.Other e) x n w = (w.0, w.1, expression_under b e x.class w.2)

  call : (b : Body) (c : CallExpression) (t : Option VType) → IsCall p b c t → IsCall q b c t
  call b c t is =
      at_method c.method (λ m. IsCallTarget p b c.target m × AreArguments p b c.arguments.items m.sig.params.items × (m.sig.result ≡ t))
      (λ m. IsCallTarget q b c.target m × AreArguments q b c.arguments.items m.sig.params.items × (m.sig.result ≡ t))
      (λ x n w. (call_target b c.target x n w.0, fit b c.arguments.items x.sig.params.items w.1, w.2)) is

  construction : (b : Body) (c : ClassId) (m : MethodId) (es : List ExprId) → IsConstruction p b c m es → IsConstruction q b c m es
  construction b c m es is =
      at_method m (λ x. (x.kind ≡ methods.Ctor) × (x.class ≡ c) × AreArguments p b es x.sig.params.items)
      (λ x. (x.kind ≡ methods.Ctor) × (x.class ≡ c) × AreArguments q b es x.sig.params.items)
      (λ x n w. (w.0, w.1, fit b es x.sig.params.items w.2)) is

  new_object : (b : Body) (n : NewObject) (t : VType) → IsNewObject p b n t → IsNewObject q b n t
  new_object b n t is =
      (construction b n.class n.constructor n.arguments.items is.0, is.1, is.2, is.3)

  this_type : (b : Body) (t : VType) → IsThisType p b t → IsThisType q b t
  this_type b (types.Obj c) is =
      let has : Method → Type 0 = λ m. (m.class ≡ c) × ((m.kind ≡ methods.Instance) ⊎ (m.kind ≡ methods.Ctor)) in
      at_method b.method has has (λ x n w. w) is
  this_type b t is = is

  constant : (m : MethodId) (t : VType) → IsSomeAnd (method_at p m) (λ x. (x.kind ≡ methods.Constant) × (x.sig.result ≡ Some t)) → IsSomeAnd (method_at q m) (λ x. (x.kind ≡ methods.Constant) × (x.sig.result ≡ Some t))
  constant m t is =
      let has : Method → Type 0 = λ x. (x.kind ≡ methods.Constant) × (x.sig.result ≡ Some t) in
      at_method m has has (λ x n w. w) is

  -- ---- expressions

  target : (b : Body) (x : AssignmentTarget) (t : VType) → IsTarget p b x t → IsTarget q b x t
  target b (targets.Field e f) t is = instance_field b e f t is
  target b x t is = is

  own_place : (b : Body) (k : Option ExpressionKind) (t : VType) → IsOwnPlace p b k t → IsOwnPlace q b k t
  own_place b (Some (expressions.Field e f)) t is = (is.0, instance_field b e f t is.1)
  own_place b k t is = is

  operator_assignment : (b : Body) (a : OperatorAssignment) (t : VType) → IsOperatorAssignment p b a t → IsOperatorAssignment q b a t
  operator_assignment b a t is = (own_place b (kind_at b a.target) t is.0, is.1)

  of_type : (b : Body) (k : ExpressionKind) (t : VType) → IsOfType p b k t → IsOfType q b k t
  of_type b (expressions.This written) t is = this_type b t is
  of_type b (expressions.Field e f) t is = instance_field b e f t is
  of_type b (expressions.LibraryConstant m) t is = constant m t is
  of_type b (expressions.Conditional c x y) t is = (is.0, fits b x t is.1, fits b y t is.2)
  of_type b (expressions.InstanceOf e tested) t is = (is.0, is.1, is.2, declarable tested is.3)
  of_type b (expressions.PrimitiveCast e) t is = (is.0, fits b e t is.1)
  of_type b (expressions.ReferenceCast e) t is = (is.0, declarable t is.1, is.2)
  of_type b (expressions.Assignment x e) t is = (target b x t is.0, fits b e t is.1)
  of_type b (expressions.OperatorAssignment a) t is = operator_assignment b a t is
  of_type b (expressions.PostfixStep a) t is = (is.0, is.1, operator_assignment b a t is.2)
  of_type b (expressions.Call c) t is = call b c (Some t) is
  of_type b (expressions.NewObject n) t is = new_object b n t is
  of_type b k t is = is

  no_type : (b : Body) (k : ExpressionKind) → HasNoType p b k → HasNoType q b k
  no_type b (expressions.Call c) is = call b c None is
  no_type b k is = is

  optional_type : (b : Body) (k : ExpressionKind) (t : Option VType) → IsOfOptionalType p b k t → IsOfOptionalType q b k t
  optional_type b k None is = no_type b k is
  optional_type b k (Some t) is = of_type b k t is

  pub typed_expression : (b : Body) (x : TExpr) → IsTypedExpression p b x → IsTypedExpression q b x
  typed_expression b x is = optional_type b x.kind x.vtype is

  -- ---- statements

  initializer : (b : Body) (e : Option ExprId) (t : VType) → IsInitializer p b e t → IsInitializer q b e t
  initializer b None t is = is
  initializer b (Some e) t is = fits b e t is

  declarator : (b : Body) (x : Declarator) → IsDeclarator p b x → IsDeclarator q b x
  declarator b x is = some_so (variable_type b x.variable) (IsInitializer p b x.initializer) (IsInitializer q b x.initializer) (initializer b x.initializer) is

  declarators : (b : Body) (xs : List Declarator) → All (IsDeclarator p b) xs → All (IsDeclarator q b) xs
  declarators b xs all = All-weaker (IsDeclarator p b) (IsDeclarator q b) (declarator b) xs all

  initial : (b : Body) (x : ForInitial) → IsForInitial p b x → IsForInitial q b x
  initial b (initials.Declaration names) is = declarators b names.items is
  initial b (initials.Expressions es) is = is

  returned : (b : Body) (e : Option ExprId) (t : Option VType) → IsReturn p b e t → IsReturn q b e t
  returned b (Some e) (Some t) is = fits b e t is
  returned b e t is = is

  throwable : (t : VType) → IsThrowable p t → IsThrowable q t
  throwable t is = either_so (type_under p.core.throwable t) is

  close : (t : VType) (x : Method) (n : Option BodyId) → IsClose p t x → IsClose q t (with_body n x)
  close t x n w = (w.0, w.1, w.2, type_under x.class t w.3)

  resource : (b : Body) (r : Resource) → IsResource p b r → IsResource q b r
  resource b r is =
      some_so (variable_type b r.variable) (λ t. Fits p b r.initializer t × IsSomeAnd (method_at p r.close) (IsClose p t))
      (λ t. Fits q b r.initializer t × IsSomeAnd (method_at q r.close) (IsClose q t))
      (λ t w. (fits b r.initializer t w.0, at_method r.close (IsClose p t) (IsClose q t) (close t) w.1)) is

  caught : (t : VType) (d : ClassId) → HasClass p d × IsUnder p d p.core.throwable × IsAssignable p (types.Obj d) t → HasClass q d × IsUnder q d p.core.throwable × IsAssignable q (types.Obj d) t
  caught t d is = (is.0, under d p.core.throwable is.1, assignable t (types.Obj d) is.2)

  catch_clause : (b : Body) (c : CatchClause) → IsCatchClause p b c → IsCatchClause q b c
  catch_clause b c is = (
    is.0,
    some_so (variable_type b c.variable) (λ t. All (λ d. HasClass p d × IsUnder p d p.core.throwable × IsAssignable p (types.Obj d) t) c.classes.items)
        (λ t. All (λ d. HasClass q d × IsUnder q d p.core.throwable × IsAssignable q (types.Obj d) t) c.classes.items)
        (λ t w.
        All-weaker (λ d. HasClass p d × IsUnder p d p.core.throwable × IsAssignable p (types.Obj d) t) (λ d. HasClass q d × IsUnder q d p.core.throwable × IsAssignable q (types.Obj d) t)
        (caught t) c.classes.items w) is.1,
  )

  super_call : (b : Body) (c : SuperCall) → IsSuperCall p b c → IsSuperCall q b c
  super_call b c is =
      let old : Class → Type 0 = λ k. IsSomeAnd k.sup (λ d. IsConstruction p b d c.constructor c.arguments.items) in
      let now : Class → Type 0 = λ k. IsSomeAnd k.sup (λ d. IsConstruction q b d c.constructor c.arguments.items) in
      at_method b.method (λ m. (m.kind ≡ methods.Ctor) × IsSomeAnd (class_at p m.class) old) (λ m. (m.kind ≡ methods.Ctor) × IsSomeAnd (class_at p m.class) now)
      (λ x n w. (w.0, some_so (class_at p x.class) old now (λ k v. some_so k.sup (λ d. IsConstruction p b d c.constructor c.arguments.items) (λ d. IsConstruction q b d c.constructor c.arguments.items) (λ d. construction b d c.constructor c.arguments.items) v) w.1))
      is

  field_initializer : (b : Body) (e : ExprId) → IsFieldInitializer p b e → IsFieldInitializer q b e
  field_initializer b e is =
      let of : Field → Method → Type 0 = λ x m. (m.kind ≡ methods.Ctor) × (m.class ≡ x.class) in
      let old : Field → Type 0 = λ x. IsSomeAnd (method_at p b.method) (of x) in
      let now : Field → Type 0 = λ x. IsSomeAnd (method_at q b.method) (of x) in
      some_so (assigned_field b (kind_at b e)) (λ f. IsSomeAnd (field_at p f) old) (λ f. IsSomeAnd (field_at p f) now)
      (λ f. some_so (field_at p f) old now (λ x. at_method b.method (of x) (of x) (λ m n w. w))) is

  pub typed_statement : (b : Body) (k : StatementKind) → IsTypedStatement p b k → IsTypedStatement q b k
  typed_statement b (statements.LocalDeclaration names) is = declarators b names.items is
  typed_statement b (statements.For l) is = (initial b l.initial is.0, is.1)
  typed_statement b (statements.Return e) is =
      at_method b.method (λ m. IsReturn p b e m.sig.result) (λ m. IsReturn q b e m.sig.result)
      (λ x n w. returned b e x.sig.result w) is
  typed_statement b (statements.Throw e) is = some_so (type_at b e) (IsThrowable p) (IsThrowable q) throwable is
  typed_statement b (statements.Try t) is =
      (All-weaker (IsResource p b) (IsResource q b) (resource b) t.resources.items is.0, All-weaker (IsCatchClause p b) (IsCatchClause q b) (catch_clause b) t.catches.items is.1)
  typed_statement b (statements.SuperCall c) is = super_call b c is
  typed_statement b (statements.FieldInitializer e) is = field_initializer b e is
  typed_statement b k is = is
