-- A statement of a table whose expressions have these types is typed as its tree is.
use Rattle.std.proofs.Common.{◌≡◌, ◌∙◌, ◌+◌, ℕ, cond, Option, Some, None, List, [], ◌∷◌, ◌++◌, All, append_assoc, drop, length, map, length-append, refl, sym, subst, ap}
use Rattle.std.specs.List.{AllZip}
use Rattle.std.specs.Option.{IsSomeAnd, is_some}
use Rattle.std.proofs.Math.Seq.{drop-append_seam}
use Rattle.std.proofs.lemmas.List.{append-nil, length-map, map-append}
use Rattle.std.proofs.lemmas.List.Elements.{All-cons, All-head, All-nil, All-tail}
use Rattle.std.proofs.lemmas.List.Sums.{sum_by-cons}
use Rattle.program_model.specs.declared.kinds.ClassId.{ClassId}
use Rattle.program_model.specs.declared.kinds.ExprId.{ExprId}
use Rattle.program_model.specs.declared.kinds.FieldId.{FieldId}
use Rattle.program_model.specs.declared.kinds.MethodId.{MethodId}
use Rattle.program_model.specs.declared.kinds.MethodKind.TheVariants as methods
use Rattle.program_model.specs.declared.kinds.VType.{VType}
use Rattle.program_model.specs.declared.kinds.VType.TheVariants as types
use Rattle.program_model.specs.declared.program.Class.{Class}
use Rattle.program_model.specs.declared.program.Method.{Method}
use Rattle.program_model.specs.declared.tree.AssignmentTarget.TheVariants as assignment_targets
use Rattle.program_model.specs.declared.tree.Body.{Body}
use Rattle.program_model.specs.declared.tree.CatchClause.{CatchClause}
use Rattle.program_model.specs.declared.tree.Declarator.{Declarator}
use Rattle.program_model.specs.declared.tree.ExpressionKind.{ExpressionKind}
use Rattle.program_model.specs.declared.tree.ExpressionKind.TheVariants as kinds
use Rattle.program_model.specs.declared.tree.ForInitial.{ForInitial}
use Rattle.program_model.specs.declared.tree.ForInitial.TheVariants as initials
use Rattle.program_model.specs.declared.tree.ForLoop.{ForLoop}
use Rattle.program_model.specs.declared.tree.Resource.{Resource}
use Rattle.program_model.specs.declared.tree.StatementKind.{StatementKind}
use Rattle.program_model.specs.declared.tree.StatementKind.TheVariants as statements
use Rattle.program_model.specs.declared.tree.SuperCall.{SuperCall}
use Rattle.program_model.specs.declared.tree.TExpr.{TExpr}
use Rattle.program_model.specs.declared.tree.Var.{Var}
use Rattle.program_model.specs.Hierarchy.{HasClass, IsUnder}
use Rattle.program_model.specs.Lookups.{class_at, expression_at, field_at, method_at, optional, variable_type}
use Rattle.program_model.specs.Trees.{expressions_in, initial_expressions, initializers, operands}
use Rattle.program_model.specs.Typing as typing
use Rattle.program_model.specs.Typing.{Fits, IsAssignable, IsClose, IsCondition, IsDeclarator, IsForInitial, IsInitializer, IsTypedStatement, assigned_field, is_this, is_this_kind, kind_at, kind_in, when_true}
use Rattle.java_typed_trees.specs.declared.statements.DeclaratorShape.{DeclaratorShape}
use Rattle.java_typed_trees.specs.WellFormedStatements.{initial_count, initialized}
use Rattle.java_laying.specs.Cells.{shape_of}
use Rattle.java_laying.specs.StatementCells.{clause_form, declarator_shape, first_part, form_in, resource_shape}
use Rattle.java_typing_laws.specs.TypingContexts.{TypingContext, type_of_number}
use Rattle.java_typing_laws.specs.TypedTrees.{AreArguments, FitsIn, IsConstruction, Part, is_this_shape}
use Rattle.java_typing_laws.proofs.Members.{each_some}
use Rattle.java_typing_laws.proofs.OperatorRules.{has}
use Rattle.java_typing_laws.proofs.TypedKinds.{arguments_law, first_this_at, part_at, part_from}
use Rattle.java_typing_laws.specs.TypedBodies.{IsBodyOfMethod}
use Rattle.java_typing_laws.specs.TypedForms.{AreDeclarators, IfCondition, IfFits, IsCatchClause, IsFieldInitializer, IsInitial, IsResource, IsReturn, IsSuperCall, IsTypedForm, assigned_in, behind_if}

-- ---- `this` in a table

kind_is_this : (k : ExpressionKind) → is_this_shape (shape_of k) ≡ is_this_kind (Some k)
kind_is_this (kinds.Literal l) = refl
kind_is_this (kinds.Local x) = refl
kind_is_this (kinds.This written) = refl
kind_is_this (kinds.Field e f) = refl
kind_is_this (kinds.StaticField f) = refl
kind_is_this (kinds.LibraryConstant m) = refl
kind_is_this (kinds.Unary o e) = refl
kind_is_this (kinds.Binary x) = refl
kind_is_this (kinds.Conditional q x y) = refl
kind_is_this (kinds.InstanceOf e tested) = refl
kind_is_this (kinds.PrimitiveCast e) = refl
kind_is_this (kinds.ReferenceCast e) = refl
kind_is_this (kinds.Assignment x e) = refl
kind_is_this (kinds.OperatorAssignment a) = refl
kind_is_this (kinds.PostfixStep a) = refl
kind_is_this (kinds.Call n) = refl
kind_is_this (kinds.NewObject n) = refl
kind_is_this (kinds.NewArray e) = refl
kind_is_this (kinds.Element a i) = refl
kind_is_this (kinds.Length a) = refl

this_in_table : (b : Body) (x : Option TExpr) → is_this_shape (part_from b x).shape ≡ is_this_kind (kind_in x)
this_in_table b None = refl
this_in_table b (Some x) = kind_is_this x.kind

this_at : (b : Body) (e : ExprId) → is_this_shape (part_at b e).shape ≡ is_this b e
this_at b e = this_in_table b (expression_at b e)

-- ---- the field that an initialiser assigns

assigned_kind : (b : Body) (k : ExpressionKind) → assigned_in (shape_of k) (first_this_at b (operands k)) ≡ assigned_field b (Some k)
assigned_kind b (kinds.Literal l) = refl
assigned_kind b (kinds.Local x) = refl
assigned_kind b (kinds.This written) = refl
assigned_kind b (kinds.Field e f) = refl
assigned_kind b (kinds.StaticField f) = refl
assigned_kind b (kinds.LibraryConstant m) = refl
assigned_kind b (kinds.Unary o e) = refl
assigned_kind b (kinds.Binary x) = refl
assigned_kind b (kinds.Conditional q x y) = refl
assigned_kind b (kinds.InstanceOf e tested) = refl
assigned_kind b (kinds.PrimitiveCast e) = refl
assigned_kind b (kinds.ReferenceCast e) = refl
assigned_kind b (kinds.Assignment (assignment_targets.Local x) e) = refl
assigned_kind b (kinds.Assignment (assignment_targets.Field o f) e) = ap (λ t. when_true t f) (this_at b o)
assigned_kind b (kinds.Assignment (assignment_targets.StaticField f) e) = refl
assigned_kind b (kinds.Assignment (assignment_targets.Element a i) e) = refl
assigned_kind b (kinds.OperatorAssignment a) = refl
assigned_kind b (kinds.PostfixStep a) = refl
assigned_kind b (kinds.Call n) = refl
assigned_kind b (kinds.NewObject n) = refl
assigned_kind b (kinds.NewArray e) = refl
assigned_kind b (kinds.Element a i) = refl
assigned_kind b (kinds.Length a) = refl

assigned_from : (b : Body) (x : Option TExpr) → assigned_in (part_from b x).shape (part_from b x).of_this ≡ assigned_field b (kind_in x)
assigned_from b None = refl
assigned_from b (Some x) = assigned_kind b x.kind

-- ---- how many initialisers there are

optional_length : {X : Type 0} (o : Option X) → length (optional o) ≡ cond (is_some o) 1 0
optional_length None = refl
optional_length (Some x) = refl

initializers_counted : (names : List Declarator) → initialized (map declarator_shape names) ≡ length (initializers names)
initializers_counted [] = refl
initializers_counted (x ∷ xs) =
    sum_by-cons (λ y. cond y.has_initializer 1 0) (declarator_shape x) (map declarator_shape xs)
    ∙ ap (λ k. cond (is_some x.initializer) 1 0 + k) (initializers_counted xs)
    ∙ ap (λ k. k + length (initializers xs)) (sym (optional_length x.initializer))
    ∙ sym (length-append (optional x.initializer) (initializers xs))

initial_counted : (i : ForInitial) → initial_count (first_part i) ≡ length (initial_expressions i)
initial_counted (initials.Declaration names) = initializers_counted names.items
initial_counted (initials.Expressions es) = refl

-- ---- each kind of statement

module _ (c : TypingContext) (m : Method) (b : Body) (is : IsBodyOfMethod c m b) where
  -- the expressions as parts
  abbrev these : List ExprId → List Part
  these es = map (part_at b) es

  same_variable : (x : ℕ) → type_of_number c.variables x ≡ variable_type b x
  same_variable x = ap (λ (vs : List Var). type_of_number vs x) (sym is.body.variables)

  variable_has : (x : ℕ) (P Q : VType → Type 0) → ((t : VType) → P t → Q t) → IsSomeAnd (type_of_number c.variables x) P → IsSomeAnd (variable_type b x) Q
  variable_has x P Q f h = each_some (variable_type b x) P Q f (subst (λ (o : Option VType). IsSomeAnd o P) (same_variable x) h)

  initializer_law : (i : Option ExprId) (rest : List ExprId) (t : VType) → IfFits c.program (is_some i) (these (optional i ++ rest)) t → IsInitializer c.program b i t
  initializer_law None rest t h = tt
  initializer_law (Some e) rest t h = h

  others_law : (i : Option ExprId) (xs : List DeclaratorShape) (rest : List ExprId) → AreDeclarators c xs (behind_if (is_some i) (these (optional i ++ rest))) → AreDeclarators c xs (these rest)
  others_law None xs rest h = h
  others_law (Some e) xs rest h = h

  declarators_law : (names : List Declarator) (rest : List ExprId) → AreDeclarators c (map declarator_shape names) (these (initializers names ++ rest)) → All (IsDeclarator c.program b) names
  declarators_law [] rest h = All-nil (IsDeclarator c.program b)
  declarators_law (x ∷ xs) rest h =
      let more : List ExprId = initializers xs ++ rest in
      let g : AreDeclarators c (map declarator_shape (x ∷ xs)) (these (optional x.initializer ++ more)) = subst (λ (es : List ExprId). AreDeclarators c (map declarator_shape (x ∷ xs)) (these es)) (append_assoc (optional x.initializer) (initializers xs) rest) h in
      All-cons (IsDeclarator c.program b) x xs
      (variable_has x.variable (IfFits c.program (is_some x.initializer) (these (optional x.initializer ++ more))) (IsInitializer c.program b x.initializer) (initializer_law x.initializer more) g.0)
      (declarators_law xs rest (others_law x.initializer (map declarator_shape xs) more g.1))

  initial_law : (i : ForInitial) (rest : List ExprId) → IsInitial c (first_part i) (these (initial_expressions i ++ rest)) → IsForInitial c.program b i
  initial_law (initials.Declaration names) rest h = declarators_law names.items rest h
  initial_law (initials.Expressions es) rest h = tt

  condition_law : (q : Option ExprId) (rest : List ExprId) → IfCondition (is_some q) (these (optional q ++ rest)) → IsCondition b q
  condition_law None rest h = tt
  condition_law (Some e) rest h = h

  -- what stands behind the first part of a `for`
  behind_initial : (i : ForInitial) (rest : List ExprId) → drop (initial_count (first_part i)) (these (initial_expressions i ++ rest)) ≡ these rest
  behind_initial i rest =
      let first : List ExprId = initial_expressions i in
      ap (λ n. drop n (these (first ++ rest))) (initial_counted i ∙ sym (length-map first (part_at b)))
      ∙ ap (λ (xs : List Part). drop (length (these first)) xs) (map-append (part_at b) first rest)
      ∙ drop-append_seam (these first) (these rest)

  for_law : (l : ForLoop) → IsInitial c (first_part l.initial) (these (expressions_in (statements.For l))) × IfCondition (is_some l.condition) (drop (initial_count (first_part l.initial)) (these (expressions_in (statements.For l)))) → IsForInitial c.program b l.initial × IsCondition b l.condition
  for_law l h =
      let rest : List ExprId = optional l.condition ++ l.updates.items in
      let along : expressions_in (statements.For l) ≡ initial_expressions l.initial ++ rest = append_assoc (initial_expressions l.initial) (optional l.condition) l.updates.items in
      let first : IsInitial c (first_part l.initial) (these (initial_expressions l.initial ++ rest)) = subst (λ (es : List ExprId). IsInitial c (first_part l.initial) (these es)) along h.0 in
      let second : IfCondition (is_some l.condition) (drop (initial_count (first_part l.initial)) (these (initial_expressions l.initial ++ rest))) = subst (λ (es : List ExprId). IfCondition (is_some l.condition) (drop (initial_count (first_part l.initial)) (these es))) along h.1 in
      (initial_law l.initial rest first, condition_law l.condition l.updates.items (subst (λ (xs : List Part). IfCondition (is_some l.condition) xs) (behind_initial l.initial rest) second))

  result_law : (e : Option ExprId) (result : Option VType) → IsReturn c.program (is_some e) (these (optional e)) result → typing.IsReturn c.program b e result
  result_law None None h = tt
  result_law None (Some t) h = h
  result_law (Some e) None h = h
  result_law (Some e) (Some t) h = h

  return_law : (e : Option ExprId) → IsReturn c.program (is_some e) (these (optional e)) m.sig.result → IsTypedStatement c.program b (statements.Return e)
  return_law e h = has (method_at c.program b.method) m (λ x. typing.IsReturn c.program b e x.sig.result) is.method (result_law e m.sig.result h)

  resources_law : (rs : List Resource) → AllZip (IsResource c) (map resource_shape rs) (these (map (λ r. r.initializer) rs)) → All (typing.IsResource c.program b) rs
  resources_law [] h = All-nil (typing.IsResource c.program b)
  resources_law (r ∷ rs) h =
      All-cons (typing.IsResource c.program b) r rs
      (variable_has r.variable (λ t. FitsIn c.program (part_at b r.initializer).vtype t × IsSomeAnd (method_at c.program r.close) (IsClose c.program t)) (λ t. Fits c.program b r.initializer t × IsSomeAnd (method_at c.program r.close) (IsClose c.program t)) (λ t g. g) h.0)
      (resources_law rs h.1)

  clause_law : (x : CatchClause) → IsCatchClause c (clause_form x) → typing.IsCatchClause c.program b x
  clause_law x h =
      let Caught : VType → Type 0 = λ t. All (λ d. HasClass c.program d × IsUnder c.program d c.program.core.throwable × IsAssignable c.program (types.Obj d) t) x.classes.items in
      (h.0, variable_has x.variable Caught Caught (λ t g. g) h.1)

  clauses_law : (xs : List CatchClause) → All (IsCatchClause c) (map clause_form xs) → All (typing.IsCatchClause c.program b) xs
  clauses_law [] h = All-nil (typing.IsCatchClause c.program b)
  clauses_law (x ∷ xs) h =
      All-cons (typing.IsCatchClause c.program b) x xs
      (clause_law x (All-head (IsCatchClause c) (clause_form x) (map clause_form xs) h))
      (clauses_law xs (All-tail (IsCatchClause c) (clause_form x) (map clause_form xs) h))

  construction_law : (d : ClassId) (n : MethodId) (es : List ExprId) → IsConstruction c.program d n (these es) → typing.IsConstruction c.program b d n es
  construction_law d n es h =
      each_some (method_at c.program n) (λ x. (x.kind ≡ methods.Ctor) × (x.class ≡ d) × AreArguments c.program (these es) x.sig.params.items) (λ x. (x.kind ≡ methods.Ctor) × (x.class ≡ d) × typing.AreArguments c.program b es x.sig.params.items)
      (λ x g. (g.0, g.1, arguments_law c.program b es x.sig.params.items g.2))
      h

  super_call_law : (x : SuperCall) → IsSuperCall c m x.constructor (these x.arguments.items) → typing.IsSuperCall c.program b x
  super_call_law x h =
      let Before : Class → Type 0 = λ k. IsSomeAnd k.sup (λ d. IsConstruction c.program d x.constructor (these x.arguments.items)) in
      let Behind : Class → Type 0 = λ k. IsSomeAnd k.sup (λ d. typing.IsConstruction c.program b d x.constructor x.arguments.items) in
      let found : IsSomeAnd (class_at c.program m.class) Behind = each_some (class_at c.program m.class) Before Behind (λ k g. each_some k.sup (λ d. IsConstruction c.program d x.constructor (these x.arguments.items)) (λ d. typing.IsConstruction c.program b d x.constructor x.arguments.items) (λ d f. construction_law d x.constructor x.arguments.items f) g) h.1 in
      has (method_at c.program b.method) m (λ y. (y.kind ≡ methods.Ctor) × IsSomeAnd (class_at c.program y.class) Behind) is.method (h.0, found)

  abbrev IsAssigned : FieldId → Type 0
  IsAssigned f = IsSomeAnd (field_at c.program f) (λ y. IsSomeAnd (method_at c.program b.method) (λ x. (x.kind ≡ methods.Ctor) × (x.class ≡ y.class)))

  initialized_law : (f : FieldId) → IsSomeAnd (field_at c.program f) (λ y. (m.kind ≡ methods.Ctor) × (m.class ≡ y.class)) → IsAssigned f
  initialized_law f h = each_some (field_at c.program f) (λ y. (m.kind ≡ methods.Ctor) × (m.class ≡ y.class)) (λ y. IsSomeAnd (method_at c.program b.method) (λ x. (x.kind ≡ methods.Ctor) × (x.class ≡ y.class))) (λ y g. has (method_at c.program b.method) m (λ x. (x.kind ≡ methods.Ctor) × (x.class ≡ y.class)) is.method g) h

  field_law : (e : ExprId) → IsFieldInitializer c m (these (e ∷ [])) → typing.IsFieldInitializer c.program b e
  field_law e h =
      each_some (assigned_field b (kind_at b e)) (λ f. IsSomeAnd (field_at c.program f) (λ y. (m.kind ≡ methods.Ctor) × (m.class ≡ y.class))) IsAssigned initialized_law
      (subst (λ (o : Option FieldId). IsSomeAnd o (λ f. IsSomeAnd (field_at c.program f) (λ y. (m.kind ≡ methods.Ctor) × (m.class ≡ y.class)))) (assigned_from b (expression_at b e)) h)

  pub statement_law : (k : StatementKind) → IsTypedForm c m (form_in k) (these (expressions_in k)) → IsTypedStatement c.program b k
  statement_law (statements.Block ss end) h = tt
  statement_law statements.Empty h = tt
  statement_law (statements.LocalDeclaration names) h = declarators_law names.items [] (subst (λ (es : List ExprId). AreDeclarators c (map declarator_shape names.items) (these es)) (sym (append-nil (initializers names.items))) h)
  statement_law (statements.Expression e) h = tt
  statement_law (statements.If q x y) h = h
  statement_law (statements.While q s) h = h
  statement_law (statements.Do s q) h = h
  statement_law (statements.For l) h = for_law l h
  statement_law (statements.Return e) h = return_law e h
  statement_law (statements.Throw e) h = h
  statement_law statements.Break h = tt
  statement_law statements.Continue h = tt
  statement_law (statements.Try t) h = (resources_law t.resources.items h.0, clauses_law t.catches.items h.1)
  statement_law (statements.SuperCall x) h = super_call_law x h
  statement_law (statements.FieldInitializer e) h = field_law e h
