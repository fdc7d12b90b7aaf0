-- With what typed statements begin, and where jumps stand in them: of trees what the model asks of the statements of a body.
use Rattle.std.specs.Prelude.{◌≡◌, ◌&&◌, ◌||◌, not, Bool, true, false, Option, None, List, [], ◌++◌, MatchBool}
use Rattle.program_model.specs.declared.kinds.FieldId.{FieldId}
use Rattle.program_model.specs.Lookups.{optional}
use Rattle.program_model.specs.Typing.{when_true}
use Rattle.java_typed_trees.specs.declared.shapes.Shape.{Shape}
use Rattle.java_typed_trees.specs.declared.shapes.Shape.TheVariants as shapes
use Rattle.java_typed_trees.specs.declared.shapes.TargetShape.TheVariants as targets
use Rattle.java_typed_trees.specs.ExpressionTrees.{ExprTree, ExprTrees, Node, no_expression, and_expression}
use Rattle.java_typed_trees.specs.StatementTrees.{StatementForm, StmtTree, StmtTrees, Statement, no_statement, and_statement}
use Rattle.java_typed_trees.specs.StatementTrees as forms

abbrev pub form_at : StmtTree → StatementForm
form_at (Statement f place es ss) = f

-- ---- heads: the super call (JLS 8.8.7.1) and the initialisers of instance fields (JLS 8.3.2)

abbrev pub is_head_form : StatementForm → Bool
is_head_form (forms.SuperCall m written) = true
is_head_form forms.FieldInitializer = true
is_head_form f = false

abbrev pub is_super_call_form : StatementForm → Bool
is_super_call_form (forms.SuperCall m written) = true
is_super_call_form f = false

abbrev mutual
  -- none of the statements in it is a head
  pub HasNoHeadInside : StmtTree → Type 0
  HasNoHeadInside (Statement f place es ss) = HaveNoHeads ss

  -- none of the statements is a head, and none in them
  pub HaveNoHeads : StmtTrees → Type 0
  HaveNoHeads no_statement = Unit {0}
  HaveNoHeads (and_statement t ts) = (is_head_form (form_at t) ≡ false) × HasNoHeadInside t × HaveNoHeads ts

-- the heads come first, and none stands in another statement
abbrev pub HaveHeadsFirst : StmtTrees → Type 0
HaveHeadsFirst no_statement = Unit {0}
HaveHeadsFirst (and_statement t ts) = HasNoHeadInside t × MatchBool (is_head_form (form_at t)) (HaveHeadsFirst ts) (HaveNoHeads ts)

-- none of the statements is a super call
abbrev pub HaveNoSuperCall : StmtTrees → Type 0
HaveNoSuperCall no_statement = Unit {0}
HaveNoSuperCall (and_statement t ts) = (is_super_call_form (form_at t) ≡ false) × HaveNoSuperCall ts

-- the first alone may be one
abbrev pub HaveOneSuperCall : StmtTrees → Type 0
HaveOneSuperCall no_statement = Unit {0}
HaveOneSuperCall (and_statement t ts) = HaveNoSuperCall ts

abbrev pub begin_with_super_call : StmtTrees → Bool
begin_with_super_call no_statement = false
begin_with_super_call (and_statement t ts) = is_super_call_form (form_at t)

-- ---- the fields that initialisers assign

abbrev pub is_this_shape : Shape → Bool
is_this_shape (shapes.This written) = true
is_this_shape s = false

abbrev pub first_is_this : ExprTrees → Bool
first_is_this no_expression = false
first_is_this (and_expression (Node s t place parts) es) = is_this_shape s

abbrev pub assigned_by : Shape → ExprTrees → Option FieldId
assigned_by (shapes.Assignment (targets.Field f)) parts = when_true (first_is_this parts) f
assigned_by s parts = None

-- the field of `this` to which the tree is an assignment
abbrev pub field_assigned : ExprTree → Option FieldId
field_assigned (Node s t place parts) = assigned_by s parts

abbrev pub first_assigned : ExprTrees → Option FieldId
first_assigned no_expression = None
first_assigned (and_expression e es) = field_assigned e

abbrev pub initialized_by : StatementForm → ExprTrees → List FieldId
initialized_by forms.FieldInitializer es = optional (first_assigned es)
initialized_by f es = []

abbrev pub initialized_in : StmtTree → List FieldId
initialized_in (Statement f place es ss) = initialized_by f es

-- the fields that the initialisers among the statements assign, in their order
abbrev pub fields_initialized : StmtTrees → List FieldId
fields_initialized no_statement = []
fields_initialized (and_statement t ts) = initialized_in t ++ fields_initialized ts

-- ---- `break` and `continue` (JLS 14.15, 14.16)

abbrev pub is_jump_form : StatementForm → Bool
is_jump_form forms.Break = true
is_jump_form forms.Continue = true
is_jump_form f = false

abbrev pub is_loop_form : StatementForm → Bool
is_loop_form forms.While = true
is_loop_form forms.Do = true
is_loop_form (forms.For initial has_condition) = true
is_loop_form f = false

abbrev mutual
  -- the statement is one of them, or has one within it that no loop in it encloses
  pub has_free_jump_within : StmtTree → Bool
  has_free_jump_within (Statement f place es ss) = is_jump_form f || (not (is_loop_form f) && have_free_jump ss)

  pub have_free_jump : StmtTrees → Bool
  have_free_jump no_statement = false
  have_free_jump (and_statement t ts) = has_free_jump_within t || have_free_jump ts
