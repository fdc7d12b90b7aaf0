-- The initialisers of fields (JLS 8.3.2). That of an instance field runs in each constructor, as the assignment `this.f = e`; that
-- of a static field is a value which the table keeps.
use Rattle.std.specs.Prelude.{true, false, cond, Option, Some, None, is_some, List, [], ◌∷◌, ◌++◌, option_map}
use Rattle.std.specs.List.{flat_map}
use Rattle.rlc_base.specs.declared.code.Code.TheVariants as codes_of
use Rattle.rlc_base.specs.declared.faults.Refusal.{Refusal}
use Rattle.program_model.specs.declared.kinds.ClassId.{ClassId}
use Rattle.program_model.specs.declared.kinds.FieldId.{FieldId}
use Rattle.program_model.specs.declared.program.Field.{Field}
use Rattle.program_model.specs.declared.program.Program.{Program}
use Rattle.program_model.specs.Lookups.{field_at}
use Rattle.java_syntax.specs.ExpressionTrees.{ExprTree, expr_of}
use Rattle.java_annotations.specs.InitialValues.{value_of}
use Rattle.source_classes.specs.ClassDeclarationsMembers.{WrittenField}
use Rattle.java_typed_trees.specs.declared.facts.Answer.{Answer}
use Rattle.java_typed_trees.specs.declared.shapes.TargetShape.TheVariants as targets
use Rattle.java_typed_trees.specs.Answers.{refused, value_at}
use Rattle.java_typed_trees.specs.ExpressionTrees.{expressions}
use Rattle.java_typed_trees.specs.ExpressionTrees as typed
use Rattle.java_typed_trees.specs.Settling.{own_cases, tree_in}
use Rattle.java_typed_trees.specs.StatementTrees.{Statement, StmtTree, no_statement}
use Rattle.java_typed_trees.specs.StatementTrees as forms
use Rattle.java_member_rules.specs.Assignments.{assignment_by}
use Rattle.java_member_rules.specs.Names.{implied_this}
use Rattle.java_typed_expressions.specs.Surroundings.{Surroundings}
use Rattle.java_typed_expressions.specs.Cases.{value_cases}
use Rattle.java_typed_expressions.specs.Typings.{tree, value_facts}
use Rattle.source_classes.specs.Members.{Environment, numbered_fields, surroundings_in}
use Rattle.source_classes.specs.SourceClasses.{SourceClass}

abbrev pub initializer_of : WrittenField → Option ExprTree
initializer_of w = option_map expr_of w.variable.initializer

-- ---- instance fields

-- where the initialiser stands: there are no variables, and what a constructor declares is covered
abbrev pub initializer_surroundings : Environment → SourceClass → List ClassId → Surroundings
initializer_surroundings e c covered = surroundings_in e c true (Some c.class') [] covered

-- the assignment to the field, at its declared name
abbrev pub initializing_by : Surroundings → FieldId → Field → ExprTree → Answer
initializing_by s f x e = assignment_by s.context.program x.pos (Some (targets.Field f)) (value_at x.pos x.vtype) (value_facts s (Some x.vtype) e)

abbrev pub initializing_tree : Surroundings → FieldId → Field → ExprTree → typed.ExprTree
initializing_tree s f x e = tree_in (initializing_by s f x e) (expressions (implied_this s.context.class' x.pos ∷ tree s (Some x.vtype) e ∷ []))

abbrev pub initializing_statement : Surroundings → FieldId → Field → ExprTree → StmtTree
initializing_statement s f x e = Statement forms.FieldInitializer x.pos (expressions (initializing_tree s f x e ∷ [])) no_statement

abbrev pub initializing_cases : Surroundings → FieldId → Field → ExprTree → List Refusal
initializing_cases s f x e = value_cases s (Some x.vtype) e ++ own_cases s.context.program s.context.covered (initializing_by s f x e)

-- what an instance field with an initialiser gives, and no other field
abbrev pub where_initialized : {X : Type 0} → (FieldId → Field → ExprTree → List X) → FieldId → Option Field → Option ExprTree → List X
where_initialized rule f None e = []
where_initialized rule f (Some x) None = []
where_initialized rule f (Some x) (Some e) = cond x.is_static [] (rule f x e)

-- the statements of a field of the class, and the refusals in them
abbrev pub statements_of_field : Surroundings → FieldId × WrittenField → List StmtTree
statements_of_field s w = where_initialized (λ f x e. initializing_statement s f x e ∷ []) w.0 (field_at s.context.program w.0) (initializer_of w.1)

abbrev pub cases_of_field : Surroundings → FieldId × WrittenField → List Refusal
cases_of_field s w = where_initialized (initializing_cases s) w.0 (field_at s.context.program w.0) (initializer_of w.1)

-- those of all fields of the class in the order of the text, in a constructor that declares these classes
abbrev pub initializer_statements : Environment → SourceClass → List ClassId → List StmtTree
initializer_statements e c covered = flat_map (statements_of_field (initializer_surroundings e c covered)) (numbered_fields e.program c)

abbrev pub initializers_cases : Environment → SourceClass → List ClassId → List Refusal
initializers_cases e c covered = flat_map (cases_of_field (initializer_surroundings e c covered)) (numbered_fields e.program c)

-- ---- static fields

-- where the initialiser of a static field stands
abbrev pub static_surroundings : Environment → SourceClass → Surroundings
static_surroundings e c = surroundings_in e c false None [] []

-- these refusals; and where there is none, that of a field of which the table has no value: so none is lost
abbrev pub or_lost : Field → List Refusal → List Refusal
or_lost x [] = cond (is_some x.initial) [] (refused codes_of.Mismatch x.pos)
or_lost x (r ∷ rs) = r ∷ rs

-- that of a static field is a literal, with `-` before a number allowed, and the field takes it as an instance field does
abbrev pub static_initializer_cases : Surroundings → FieldId → Field → ExprTree → List Refusal
static_initializer_cases s f x e = cond (is_some (value_of e)) (or_lost x (initializing_cases s f x e)) (refused codes_of.Mismatch x.pos)

abbrev pub static_case_of : Surroundings → FieldId → Field → Option ExprTree → List Refusal
static_case_of s f x None = []
static_case_of s f x (Some e) = cond x.is_static (static_initializer_cases s f x e) []

abbrev pub static_case : Surroundings → FieldId → Option Field → Option ExprTree → List Refusal
static_case s f None e = []
static_case s f (Some x) e = static_case_of s f x e

abbrev pub static_cases_of_field : Surroundings → FieldId × WrittenField → List Refusal
static_cases_of_field s w = static_case s w.0 (field_at s.context.program w.0) (initializer_of w.1)

abbrev pub static_cases : Environment → SourceClass → List Refusal
static_cases e c = flat_map (static_cases_of_field (static_surroundings e c)) (numbered_fields e.program c)
