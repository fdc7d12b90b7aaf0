-- An expression of a table whose parts have these types is typed as its tree is.
use Rattle.std.proofs.Common.{◌≡◌, ◌∙◌, ℕ, Bool, false, Option, Some, None, List, [], ◌∷◌, ◌++◌, map, refl, sym, subst}
use Rattle.std.specs.Option.{IsSomeAnd}
use Rattle.program_model.specs.declared.kinds.ClassId.{ClassId}
use Rattle.program_model.specs.declared.kinds.ExprId.{ExprId}
use Rattle.program_model.specs.declared.kinds.MethodId.{MethodId}
use Rattle.program_model.specs.declared.kinds.MethodKind.TheVariants as methods
use Rattle.program_model.specs.declared.kinds.UnaryOperator.{UnaryOperator}
use Rattle.program_model.specs.declared.kinds.UnaryOperator.TheVariants as unary
use Rattle.program_model.specs.declared.kinds.VType.{VType}
use Rattle.program_model.specs.declared.kinds.VType.TheVariants as types
use Rattle.program_model.specs.declared.program.Program.{Program}
use Rattle.program_model.specs.declared.program.Method.{Method}
use Rattle.program_model.specs.declared.program.ParamSig.{ParamSig}
use Rattle.program_model.specs.declared.tree.Body.{Body}
use Rattle.program_model.specs.declared.tree.TExpr.{TExpr}
use Rattle.program_model.specs.declared.tree.Var.{Var}
use Rattle.program_model.specs.declared.tree.AssignmentTarget.{AssignmentTarget}
use Rattle.program_model.specs.declared.tree.AssignmentTarget.TheVariants as assignment_targets
use Rattle.program_model.specs.declared.tree.CallExpression.{CallExpression}
use Rattle.program_model.specs.declared.tree.CallTarget.{CallTarget}
use Rattle.program_model.specs.declared.tree.CallTarget.TheVariants as call_targets
use Rattle.program_model.specs.declared.tree.ExpressionKind.{ExpressionKind}
use Rattle.program_model.specs.declared.tree.ExpressionKind.TheVariants as kinds
use Rattle.program_model.specs.Lookups.{expression_at, method_at, type_at, type_in, variable_type}
use Rattle.program_model.specs.Trees.{assignment_operands, call_target, operands}
use Rattle.program_model.specs.Typing as typing
use Rattle.program_model.specs.Typing.{Fits, HasThis, IsOfOptionalType, IsOwnPlace, IsTypeBelow, IsTypeUnder, is_this, is_this_kind, kind_at, kind_in}
use Rattle.java_typed_trees.specs.declared.shapes.Shape.{Shape}
use Rattle.java_typed_trees.specs.declared.shapes.Shape.TheVariants as shapes
use Rattle.java_laying.specs.Cells.{call_shape, shape_of, target_shape}
use Rattle.java_typing_laws.specs.TypingContexts.{IsBodyIn, TypingContext, type_of_number}
use Rattle.java_typing_laws.specs.TypedTrees.{AreArguments, FitsIn, IsCall, IsCallTarget, IsOfType, IsPlaceOfShape, IsTarget, IsThis, IsTypedNode, IsUnary, Part, arguments_in, assigned_type, is_this_shape}
use Rattle.java_typing_laws.proofs.Members.{each_some}

-- ---- the expressions of a table as parts

abbrev shape_in : Option TExpr → Shape
shape_in None = shapes.Erroneous
shape_in (Some x) = shape_of x.kind

abbrev pub first_this_at : Body → List ExprId → Bool
first_this_at b [] = false
first_this_at b (e ∷ es) = is_this_shape (shape_in (expression_at b e))

abbrev pub first_type_at : Body → List ExprId → Option VType
first_type_at b [] = None
first_type_at b (e ∷ es) = type_at b e

abbrev this_in : Body → Option TExpr → Bool
this_in b None = false
this_in b (Some x) = first_this_at b (operands x.kind)

abbrev owner_in : Body → Option TExpr → Option VType
owner_in b None = None
owner_in b (Some x) = first_type_at b (operands x.kind)

abbrev pub part_from : Body → Option TExpr → Part
part_from b x = record { shape = shape_in x; vtype = type_in x; of_this = this_in b x; of_type = owner_in b x }

abbrev pub part_at : Body → ExprId → Part
part_at b e = part_from b (expression_at b e)

kind_is_this : (k : ExpressionKind) → is_this_shape (shape_of k) ≡ is_this_kind (Some k)
kind_is_this (kinds.Literal l) = refl
kind_is_this (kinds.Local x) = refl
kind_is_this (kinds.This written) = refl
kind_is_this (kinds.Field e f) = refl
kind_is_this (kinds.StaticField f) = refl
kind_is_this (kinds.LibraryConstant m) = refl
kind_is_this (kinds.Unary o e) = refl
kind_is_this (kinds.Binary x) = refl
kind_is_this (kinds.Conditional q x y) = refl
kind_is_this (kinds.InstanceOf e tested) = refl
kind_is_this (kinds.PrimitiveCast e) = refl
kind_is_this (kinds.ReferenceCast e) = refl
kind_is_this (kinds.Assignment x e) = refl
kind_is_this (kinds.OperatorAssignment a) = refl
kind_is_this (kinds.PostfixStep a) = refl
kind_is_this (kinds.Call n) = refl
kind_is_this (kinds.NewObject n) = refl
kind_is_this (kinds.NewArray e) = refl
kind_is_this (kinds.Element a i) = refl
kind_is_this (kinds.Length a) = refl

this_in_table : (x : Option TExpr) → is_this_shape (shape_in x) ≡ is_this_kind (kind_in x)
this_in_table None = refl
this_in_table (Some x) = kind_is_this x.kind

this_at : (b : Body) (e : ExprId) → is_this_shape (part_at b e).shape ≡ is_this b e
this_at b e = this_in_table (expression_at b e)

-- ---- each kind of expression

pub arguments_law : (p : Program) (b : Body) (es : List ExprId) (params : List ParamSig) → AreArguments p (map (part_at b) es) params → typing.AreArguments p b es params
arguments_law p b [] [] h = tt
arguments_law p b [] (x ∷ xs) h = absurd h
arguments_law p b (e ∷ es) [] h = absurd h
arguments_law p b (e ∷ es) (x ∷ xs) h = (h.0, arguments_law p b es xs h.1)

module _ (c : TypingContext) (b : Body) (is : IsBodyIn c b) where
  variable_law : (x : ℕ) (t : VType) → type_of_number c.variables x ≡ Some t → variable_type b x ≡ Some t
  variable_law x t h = subst (λ (vs : List Var). type_of_number vs x ≡ Some t) (sym is.variables) h

  this_law : (t : VType) → IsThis c t → typing.IsThisType c.program b t
  this_law (types.Obj d) h = is.this_class d h
  this_law (types.Primitive k) h = absurd h
  this_law types.Str h = absurd h
  this_law (types.Arr k) h = absurd h
  this_law types.NullType h = absurd h

  unary_law : (o : UnaryOperator) (e : ExprId) (t : VType) → IsUnary o (type_at b e) t → typing.IsUnary b o e t
  unary_law unary.Plus e t h = h
  unary_law unary.Minus e t h = h
  unary_law unary.Not e t h = h
  unary_law unary.Complement e t h = h

  target_law : (x : AssignmentTarget) (e : ExprId) (t : VType) → IsTarget c (target_shape x) (map (part_at b) (assignment_operands x ++ e ∷ [])) t × FitsIn c.program (assigned_type (target_shape x) (map (part_at b) (assignment_operands x ++ e ∷ []))) t → typing.IsTarget c.program b x t × Fits c.program b e t
  target_law (assignment_targets.Local x) e t h = (variable_law x t h.0, h.1)
  target_law (assignment_targets.Field o f) e t h = h
  target_law (assignment_targets.StaticField f) e t h = h
  target_law (assignment_targets.Element a i) e t h = h

  -- the place that an operator assigns to
  place_kind : (k : ExpressionKind) (t : VType) (v : Option VType) → IsPlaceOfShape c (shape_of k) (record { shape = shape_of k; vtype = v; of_this = first_this_at b (operands k); of_type = first_type_at b (operands k) }) t → IsOwnPlace c.program b (Some k) t
  place_kind (kinds.Literal l) t v h = absurd h
  place_kind (kinds.Local x) t v h = variable_law x t h
  place_kind (kinds.This written) t v h = absurd h
  place_kind (kinds.Field e f) t v h = (sym (this_at b e) ∙ h.0, h.1)
  place_kind (kinds.StaticField f) t v h = h
  place_kind (kinds.LibraryConstant m) t v h = absurd h
  place_kind (kinds.Unary o e) t v h = absurd h
  place_kind (kinds.Binary x) t v h = absurd h
  place_kind (kinds.Conditional q x y) t v h = absurd h
  place_kind (kinds.InstanceOf e tested) t v h = absurd h
  place_kind (kinds.PrimitiveCast e) t v h = absurd h
  place_kind (kinds.ReferenceCast e) t v h = absurd h
  place_kind (kinds.Assignment x e) t v h = absurd h
  place_kind (kinds.OperatorAssignment a) t v h = absurd h
  place_kind (kinds.PostfixStep a) t v h = absurd h
  place_kind (kinds.Call n) t v h = absurd h
  place_kind (kinds.NewObject n) t v h = absurd h
  place_kind (kinds.NewArray e) t v h = absurd h
  place_kind (kinds.Element a i) t v h = absurd h
  place_kind (kinds.Length a) t v h = absurd h

  place_law : (x : Option TExpr) (t : VType) → IsPlaceOfShape c (shape_in x) (part_from b x) t → IsOwnPlace c.program b (kind_in x) t
  place_law None t h = absurd h
  place_law (Some x) t h = place_kind x.kind t x.vtype h

  call_law : (target : CallTarget) (arguments : List ExprId) (m : Method) → IsCallTarget c.program (call_shape target) (map (part_at b) (call_target target ++ arguments)) m → AreArguments c.program (arguments_in (call_shape target) (map (part_at b) (call_target target ++ arguments))) m.sig.params.items → typing.IsCallTarget c.program b target m × typing.AreArguments c.program b arguments m.sig.params.items
  call_law call_targets.Static arguments m h g = (h, arguments_law c.program b arguments m.sig.params.items g)
  call_law (call_targets.This e) arguments m h g = ((h.0, sym (this_at b e) ∙ h.1, h.2), arguments_law c.program b arguments m.sig.params.items g)
  call_law (call_targets.Super e) arguments m h g = ((h.0, sym (this_at b e) ∙ h.1, h.2), arguments_law c.program b arguments m.sig.params.items g)
  call_law (call_targets.Other e) arguments m h g = ((h.0, sym (this_at b e) ∙ h.1, h.2), arguments_law c.program b arguments m.sig.params.items g)

  whole_call : (n : CallExpression) (t : Option VType) → IsCall c.program (call_shape n.target) n.method (map (part_at b) (operands (kinds.Call n))) t → typing.IsCall c.program b n t
  whole_call n t h =
      let parts : List Part = map (part_at b) (operands (kinds.Call n)) in
      each_some (method_at c.program n.method) (λ m. IsCallTarget c.program (call_shape n.target) parts m × AreArguments c.program (arguments_in (call_shape n.target) parts) m.sig.params.items × (m.sig.result ≡ t)) (λ m. typing.IsCallTarget c.program b n.target m × typing.AreArguments c.program b n.arguments.items m.sig.params.items × (m.sig.result ≡ t))
      (λ m g. let both = call_law n.target n.arguments.items m g.0 g.1 in (both.0, both.1, g.2))
      h

  new_law : (m : MethodId) (d : ClassId) (arguments : List ExprId) → IsSomeAnd (method_at c.program m) (λ x. (x.kind ≡ methods.Ctor) × (x.class ≡ d) × AreArguments c.program (map (part_at b) arguments) x.sig.params.items) → typing.IsConstruction c.program b d m arguments
  new_law m d arguments h =
      each_some (method_at c.program m) (λ x. (x.kind ≡ methods.Ctor) × (x.class ≡ d) × AreArguments c.program (map (part_at b) arguments) x.sig.params.items) (λ x. (x.kind ≡ methods.Ctor) × (x.class ≡ d) × typing.AreArguments c.program b arguments x.sig.params.items)
      (λ x g. (g.0, g.1, arguments_law c.program b arguments x.sig.params.items g.2))
      h

  pub kind_law : (k : ExpressionKind) (t : VType) → IsOfType c (shape_of k) (map (part_at b) (operands k)) t → typing.IsOfType c.program b k t
  kind_law (kinds.Literal l) t h = h
  kind_law (kinds.Local x) t h = variable_law x t h
  kind_law (kinds.This written) t h = this_law t h
  kind_law (kinds.Field e f) t h = h
  kind_law (kinds.StaticField f) t h = h
  kind_law (kinds.LibraryConstant m) t h = h
  kind_law (kinds.Unary o e) t h = unary_law o e t h
  kind_law (kinds.Binary x) t h = h
  kind_law (kinds.Conditional q x y) t h = h
  kind_law (kinds.InstanceOf e tested) t h = h
  kind_law (kinds.PrimitiveCast e) t h = h
  kind_law (kinds.ReferenceCast e) t h = h
  kind_law (kinds.Assignment x e) t h = target_law x e t h
  kind_law (kinds.OperatorAssignment a) t h = (place_law (expression_at b a.target) t h.0, h.1)
  kind_law (kinds.PostfixStep a) t h = (h.0, h.1, (place_law (expression_at b a.target) t h.2.0, h.2.1))
  kind_law (kinds.Call n) t h = whole_call n (Some t) h
  kind_law (kinds.NewObject n) t h = (new_law n.constructor n.class n.arguments.items h.0, h.1, h.2, h.3)
  kind_law (kinds.NewArray e) t h = h
  kind_law (kinds.Element a i) t h = h
  kind_law (kinds.Length a) t h = h

  no_type_law : (k : ExpressionKind) → IsTypedNode c (shape_of k) None (map (part_at b) (operands k)) → typing.HasNoType c.program b k
  no_type_law (kinds.Literal l) h = h
  no_type_law (kinds.Local x) h = h
  no_type_law (kinds.This written) h = h
  no_type_law (kinds.Field e f) h = h
  no_type_law (kinds.StaticField f) h = h
  no_type_law (kinds.LibraryConstant m) h = h
  no_type_law (kinds.Unary o e) h = h
  no_type_law (kinds.Binary x) h = h
  no_type_law (kinds.Conditional q x y) h = h
  no_type_law (kinds.InstanceOf e tested) h = h
  no_type_law (kinds.PrimitiveCast e) h = h
  no_type_law (kinds.ReferenceCast e) h = h
  no_type_law (kinds.Assignment x e) h = h
  no_type_law (kinds.OperatorAssignment a) h = h
  no_type_law (kinds.PostfixStep a) h = h
  no_type_law (kinds.Call n) h = whole_call n None h
  no_type_law (kinds.NewObject n) h = h
  no_type_law (kinds.NewArray e) h = h
  no_type_law (kinds.Element a i) h = h
  no_type_law (kinds.Length a) h = h

  pub node_law : (k : ExpressionKind) (t : Option VType) → IsTypedNode c (shape_of k) t (map (part_at b) (operands k)) → IsOfOptionalType c.program b k t
  node_law k None h = no_type_law k h
  node_law k (Some t) h = kind_law k t h
