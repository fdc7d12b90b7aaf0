-- A typed statement of a body as a cell: its form and the numbers of its parts.
use Rattle.std.specs.Prelude.{List, is_some, length, map}
use Rattle.rlc_base.specs.declared.place.Pos.{Pos}
use Rattle.program_model.specs.declared.kinds.ExprId.{ExprId}
use Rattle.program_model.specs.declared.kinds.StmtId.{StmtId}
use Rattle.program_model.specs.declared.tree.TStmt.{TStmt}
use Rattle.program_model.specs.declared.tree.Declarator.{Declarator}
use Rattle.program_model.specs.declared.tree.Resource.{Resource}
use Rattle.program_model.specs.declared.tree.CatchClause.{CatchClause}
use Rattle.program_model.specs.declared.tree.ForInitial.{ForInitial}
use Rattle.program_model.specs.declared.tree.ForInitial.TheVariants as initials
use Rattle.program_model.specs.declared.tree.StatementKind.{StatementKind}
use Rattle.program_model.specs.declared.tree.StatementKind.TheVariants as kinds
use Rattle.program_model.specs.Trees.{expressions_in, statements_in}
use Rattle.java_typed_trees.specs.declared.statements.DeclaratorShape.{DeclaratorShape}
use Rattle.java_typed_trees.specs.declared.statements.ResourceShape.{ResourceShape}
use Rattle.java_typed_trees.specs.StatementTrees.{CatchForm, InitialForm, StatementForm}
use Rattle.java_typed_trees.specs.StatementTrees as forms

abbrev pub declarator_shape : Declarator → DeclaratorShape
declarator_shape x = record { variable = x.variable; has_initializer = is_some x.initializer; pos = x.pos }

abbrev pub resource_shape : Resource → ResourceShape
resource_shape r = record { variable = r.variable; close = r.close; pos = r.pos }

abbrev pub clause_form : CatchClause → CatchForm
clause_form c = record { variable = c.variable; classes = c.classes.items }

abbrev pub first_part : ForInitial → InitialForm
first_part (initials.Declaration names) = forms.Declaration (map declarator_shape names.items)
first_part (initials.Expressions es) = forms.Expressions (length es.items)

-- what a statement of a body is, without the numbers of its parts
abbrev pub form_in : StatementKind → StatementForm
form_in (kinds.Block ss end) = forms.Block end
form_in kinds.Empty = forms.Empty
form_in (kinds.LocalDeclaration names) = forms.LocalDeclaration (map declarator_shape names.items)
form_in (kinds.Expression e) = forms.Expression
form_in (kinds.If c a b) = forms.If (is_some b)
form_in (kinds.While c s) = forms.While
form_in (kinds.Do s c) = forms.Do
form_in (kinds.For l) = forms.For (first_part l.initial) (is_some l.condition)
form_in (kinds.Return e) = forms.Return (is_some e)
form_in (kinds.Throw e) = forms.Throw
form_in kinds.Break = forms.Break
form_in kinds.Continue = forms.Continue
form_in (kinds.Try t) = forms.Try (map resource_shape t.resources.items) (map clause_form t.catches.items) (is_some t.finally)
form_in (kinds.SuperCall c) = forms.SuperCall c.constructor c.written
form_in (kinds.FieldInitializer e) = forms.FieldInitializer

-- a typed statement, with the numbers of its parts in lists
pub record StatementCell : Type 0 where
  pub form : StatementForm
  pub pos : Pos
  pub expressions : List ExprId
  pub statements : List StmtId

abbrev pub statement_cell : TStmt → StatementCell
statement_cell x = record { form = form_in x.kind; pos = x.pos; expressions = expressions_in x.kind; statements = statements_in x.kind }

-- a body's table of statements
abbrev pub statement_cells : List TStmt → List StatementCell
statement_cells table = map statement_cell table
