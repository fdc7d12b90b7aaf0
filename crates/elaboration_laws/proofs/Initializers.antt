-- The fields that a body's initialisers assign are those of its typed statements.
use Rattle.std.proofs.Common.{◌≡◌, ◌∙◌, ap, ap₂, refl, Some, List, [], ◌∷◌, ◌++◌}
use Rattle.std.specs.List.{flat_map}
use Rattle.program_model.specs.declared.kinds.ExprId.{ExprId}
use Rattle.program_model.specs.declared.kinds.FieldId.{FieldId}
use Rattle.program_model.specs.declared.kinds.StmtId.{StmtId}
use Rattle.program_model.specs.declared.tree.Body.{Body}
use Rattle.program_model.specs.declared.tree.AssignmentTarget.TheVariants as targets
use Rattle.program_model.specs.declared.tree.ExpressionKind.{ExpressionKind}
use Rattle.program_model.specs.declared.tree.ExpressionKind.TheVariants as expressions
use Rattle.program_model.specs.declared.tree.StatementKind.{StatementKind}
use Rattle.program_model.specs.declared.tree.StatementKind.TheVariants as kinds
use Rattle.program_model.specs.Heads.{fields_initialized_at, fields_initialized_in, initialized_fields}
use Rattle.program_model.specs.Lookups.{optional, statement_at}
use Rattle.program_model.specs.Trees.{expressions_in, operands}
use Rattle.program_model.specs.Typing.{assigned_field, is_this, is_this_kind, kind_at, kind_in, when_true}
use Rattle.java_typed_trees.specs.ExpressionTrees.{ExprTree, ExprTrees, Node, no_expression, and_expression}
use Rattle.java_typed_trees.specs.StatementTrees.{StmtTree, StmtTrees, Statement, no_statement, and_statement}
use Rattle.java_typing_laws.specs.Bodies.{IsLaid}
use Rattle.java_typing_laws.specs.Cells.{cells_of, shape_of}
use Rattle.java_typing_laws.specs.Forest.{StandAt, StandsAt}
use Rattle.java_typing_laws.specs.StatementCells.{form_in}
use Rattle.java_elaboration.proofs.BodyLaws.{has_statements}
use Rattle.elaboration_laws.specs.OrderedTrees.{assigned_by, field_assigned, fields_initialized, first_assigned, first_is_this, initialized_by, initialized_in, is_this_shape}
use Rattle.elaboration_laws.proofs.Stands.{StandIn, StandsIn, expression_stands, statement_stands}

first_same : {X : Type 0} (x y : X) (xs ys : List X) → x ∷ xs ≡ y ∷ ys → x ≡ y
first_same x y xs ys e = cc

some_is_none : {X : Type 0} (x : X) (xs ys : List X) → x ∷ xs ≡ ys → ys ≡ [] → ⊥
some_is_none x xs ys e d = cc

-- ---- `this`

this_of_kind : (k : ExpressionKind) → is_this_kind (Some k) ≡ is_this_shape (shape_of k)
this_of_kind (expressions.This written) = refl
this_of_kind k = refl

this_stands : (b : Body) (e : ExprId) (t : ExprTree) (ts : ExprTrees) → StandsAt (cells_of b.expressions.items) e t → is_this b e ≡ first_is_this (and_expression t ts)
this_stands b e (Node s v p ps) ts (ids, here, parts) =
    let x = expression_stands b e s v p ids here in
    ap (λ o. is_this_kind (kind_in o)) x.at ∙ this_of_kind x.expression.kind ∙ ap is_this_shape x.shape

first_this : (b : Body) (o e : ExprId) (ids : List ExprId) (ts : ExprTrees) → o ∷ e ∷ [] ≡ ids → StandAt (cells_of b.expressions.items) ids ts → is_this b o ≡ first_is_this ts
first_this b o e ids no_expression is stand = absurd (some_is_none o (e ∷ []) ids is stand)
first_this b o e ids (and_expression t ts) is (first, more, same, one, rest) = ap (is_this b) (first_same o first (e ∷ []) more (is ∙ same)) ∙ this_stands b first t ts one

-- ---- assignments

assigned_of_kind : (b : Body) (k : ExpressionKind) (ids : List ExprId) (ts : ExprTrees) → operands k ≡ ids → StandAt (cells_of b.expressions.items) ids ts → assigned_field b (Some k) ≡ assigned_by (shape_of k) ts
assigned_of_kind b (expressions.Assignment (targets.Field o f) e) ids ts is stand = ap (λ x. when_true x f) (first_this b o e ids ts is stand)
assigned_of_kind b k ids ts is stand = refl

assigned_stands : (b : Body) (e : ExprId) (t : ExprTree) → StandsAt (cells_of b.expressions.items) e t → assigned_field b (kind_at b e) ≡ field_assigned t
assigned_stands b e (Node s v p ts) (ids, here, parts) =
    let x = expression_stands b e s v p ids here in
    ap (λ o. assigned_field b (kind_in o)) x.at ∙ assigned_of_kind b x.expression.kind ids ts x.parts parts ∙ ap (λ z. assigned_by z ts) x.shape

first_stands : (b : Body) (e : ExprId) (ids : List ExprId) (ts : ExprTrees) → e ∷ [] ≡ ids → StandAt (cells_of b.expressions.items) ids ts → assigned_field b (kind_at b e) ≡ first_assigned ts
first_stands b e ids no_expression is stand = absurd (some_is_none e [] ids is stand)
first_stands b e ids (and_expression t ts) is (first, more, same, one, rest) = ap (λ z. assigned_field b (kind_at b z)) (first_same e first [] more (is ∙ same)) ∙ assigned_stands b first t one

-- ---- statements

initialized_of_kind : (b : Body) (k : StatementKind) (ids : List ExprId) (ts : ExprTrees) → expressions_in k ≡ ids → StandAt (cells_of b.expressions.items) ids ts → fields_initialized_in b k ≡ initialized_by (form_in k) ts
initialized_of_kind b (kinds.FieldInitializer e) ids ts is stand = ap optional (first_stands b e ids ts is stand)
initialized_of_kind b k ids ts is stand = refl

initialized_stands : (b : Body) (s : StmtId) (t : StmtTree) → StandsIn b s t → fields_initialized_at b (statement_at b s) ≡ initialized_in t
initialized_stands b s (Statement f p es ss) (ids, inner, here, values, parts) =
    let x = statement_stands b s f p ids inner here in
    ap (fields_initialized_at b) x.at ∙ initialized_of_kind b x.statement.kind ids es x.expressions values ∙ ap (λ z. initialized_by z es) x.form

abbrev initialized_at : Body → StmtId → List FieldId
initialized_at b s = fields_initialized_at b (statement_at b s)

all_initialized : (b : Body) (ids : List StmtId) (ts : StmtTrees) → StandIn b ids ts → flat_map (initialized_at b) ids ≡ fields_initialized ts
all_initialized b ids no_statement is = ap (flat_map (initialized_at b)) is
all_initialized b ids (and_statement t ts) (first, more, is, one, rest) = ap (flat_map (initialized_at b)) is ∙ ap₂ (λ (xs ys : List FieldId). xs ++ ys) (initialized_stands b first t one) (all_initialized b more ts rest)

pub initialized_so : (b : Body) (ts : StmtTrees) → IsLaid b ts → initialized_fields b ≡ fields_initialized ts
initialized_so b ts laid = all_initialized b b.stmts.items ts (has_statements b ts laid)
