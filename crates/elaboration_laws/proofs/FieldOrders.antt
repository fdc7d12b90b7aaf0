-- The initialisers of a class's instance fields, where nothing of them is refused, assign these fields.
use Rattle.std.proofs.Common.{◌≡◌, ◌∙◌, sym, ap, ap₂, refl, subst, Bool, true, false, cond, Option, Some, None, List, [], ◌∷◌, ◌++◌}
use Rattle.std.specs.Prelude.{MatchBool}
use Rattle.std.specs.List.{flat_map}
use Rattle.std.proofs.lemmas.List.{append-nil, append_assoc}
use Rattle.std.proofs.lemmas.List.Elements.{All-nil}
use Rattle.rlc_base.specs.declared.place.Pos.{Pos}
use Rattle.program_model.specs.declared.kinds.ClassId.{ClassId}
use Rattle.program_model.specs.declared.kinds.FieldId.{FieldId}
use Rattle.program_model.specs.declared.kinds.VType.{VType}
use Rattle.program_model.specs.declared.program.Field.{Field}
use Rattle.program_model.specs.declared.program.Program.{Program}
use Rattle.program_model.specs.Lookups.{field_at, optional}
use Rattle.program_model.specs.Typing.{when_true}
use Rattle.java_syntax.specs.ExpressionTrees as syntax
use Rattle.class_table.specs.ClassDeclarationsMembers.{WrittenField}
use Rattle.java_typed_trees.specs.declared.facts.Facts.{Facts}
use Rattle.java_typed_trees.specs.declared.facts.Answer.{Answer}
use Rattle.java_typed_trees.specs.declared.facts.Answer.TheVariants as answers
use Rattle.java_typed_trees.specs.declared.shapes.Shape.TheVariants as shapes
use Rattle.java_typed_trees.specs.declared.shapes.TargetShape.TheVariants as targets
use Rattle.java_typed_trees.specs.Answers.{mismatch, of_two, type_of, value_at}
use Rattle.java_typed_trees.specs.ExpressionTrees.{ExprTrees, expressions}
use Rattle.java_typed_trees.specs.Settling.{own_cases, tree_in}
use Rattle.java_typed_trees.specs.StatementTrees.{StatementForm, Statement, StmtTree, StmtTrees, no_statement, and_statement, statements}
use Rattle.java_typed_trees.specs.StatementTrees as forms
use Rattle.java_overloads.specs.Conversions.{is_assignable}
use Rattle.java_variable_rules.specs.JavaMemberRulesAssignments.{assignment_of}
use Rattle.java_variable_rules.specs.JavaMemberRulesNames.{implied_this}
use Rattle.java_call_rules.specs.Surroundings.{Surroundings}
use Rattle.java_variable_rules.proofs.VariableLaws.{AreTyped, IsTyped}
use Rattle.java_typing_laws.specs.Cases.{value_cases}
use Rattle.java_typing_laws.specs.Typings.{tree, value_facts}
use Rattle.java_typing_laws.proofs.Goodness.{cons_is_nil, nil_left, nil_right}
use Rattle.java_typing_laws.proofs.WellTyped.{has_type}
use Rattle.java_elaboration.specs.SourceClassesMembers.{Environment, numbered_fields}
use Rattle.java_elaboration.specs.SourceClasses.{SourceClass}
use Rattle.java_typing_laws.specs.FieldInitializers.{cases_of_field, initializer_of, initializer_statements, initializer_surroundings, initializers_cases, initializing_by, initializing_cases, initializing_statement, statements_of_field, where_initialized}
use Rattle.elaboration_laws.specs.OrderedTrees.{HaveHeadsFirst, HaveNoHeads, HaveNoSuperCall, field_assigned, fields_initialized, first_is_this, form_at, have_free_jump, initialized_by, initialized_in, is_head_form, is_super_call_form}
use Rattle.elaboration_laws.specs.BodyOrders.{field_with_initializer, fields_with_initializers}
use Rattle.elaboration_laws.proofs.PlainStatements.{plain_heads_first, plain_no_super_call}

-- ---- lists of initialisers

abbrev pub IsInitializer : StmtTree → Type 0
IsInitializer (Statement f place es ss) = (f ≡ forms.FieldInitializer) × (ss ≡ no_statement)

abbrev pub AreInitializers : List StmtTree → Type 0
AreInitializers [] = Unit {0}
AreInitializers (t ∷ ts) = IsInitializer t × AreInitializers ts

both_are : (xs ys : List StmtTree) → AreInitializers xs → AreInitializers ys → AreInitializers (xs ++ ys)
both_are [] ys first second = second
both_are (x ∷ xs) ys first second = (first.0, both_are xs ys first.1 second)

pub heads_then_plain : (xs ys : List StmtTree) → AreInitializers xs → HaveNoHeads (statements ys) → HaveHeadsFirst (statements (xs ++ ys))
heads_then_plain [] ys first second = plain_heads_first (statements ys) second
heads_then_plain (Statement f place es ss ∷ xs) ys first second =
    (subst HaveNoHeads (sym first.0.1) tt, subst (λ g. MatchBool (is_head_form g) (HaveHeadsFirst (statements (xs ++ ys))) (HaveNoHeads (statements (xs ++ ys)))) (sym first.0.0) (heads_then_plain xs ys first.1 second))

pub no_call_then_plain : (xs ys : List StmtTree) → AreInitializers xs → HaveNoHeads (statements ys) → HaveNoSuperCall (statements (xs ++ ys))
no_call_then_plain [] ys first second = plain_no_super_call (statements ys) second
no_call_then_plain (Statement f place es ss ∷ xs) ys first second = (ap is_super_call_form first.0.0, no_call_then_plain xs ys first.1 second)

pub initializers_enclosed : (xs : List StmtTree) → AreInitializers xs → have_free_jump (statements xs) ≡ false
initializers_enclosed [] are = refl
initializers_enclosed (Statement f place es ss ∷ xs) are =
    ap₂ (λ (g : StatementForm) (inner : StmtTrees). have_free_jump (and_statement (Statement g place es inner) (statements xs))) are.0.0 are.0.1 ∙ initializers_enclosed xs are.1

-- ---- the fields of lists

pub fields_of_both : (xs ys : List StmtTree) → fields_initialized (statements (xs ++ ys)) ≡ fields_initialized (statements xs) ++ fields_initialized (statements ys)
fields_of_both [] ys = refl
fields_of_both (x ∷ xs) ys = ap (λ (fs : List FieldId). initialized_in x ++ fs) (fields_of_both xs ys) ∙ sym (append_assoc (initialized_in x) (fields_initialized (statements xs)) (fields_initialized (statements ys)))

no_field_by : (f : StatementForm) (es : ExprTrees) → is_head_form f ≡ false → initialized_by f es ≡ []
no_field_by forms.FieldInitializer es is = absurd (let wrong : true ≡ false = is in cc)
no_field_by f es is = refl

no_field_in : (t : StmtTree) → is_head_form (form_at t) ≡ false → initialized_in t ≡ []
no_field_in (Statement f place es ss) is = no_field_by f es is

pub plain_no_fields : (ts : StmtTrees) → HaveNoHeads ts → fields_initialized ts ≡ []
plain_no_fields no_statement none = refl
plain_no_fields (and_statement t ts) none = ap₂ (λ (xs ys : List FieldId). xs ++ ys) (no_field_in t none.0) (plain_no_fields ts none.2)

-- ---- the initialiser of one field

abbrev assigning : Program → Pos → VType → FieldId → Facts → Option VType → Answer
assigning p place to f value from = of_two place (Some to) from (assignment_of p place (Some (targets.Field f)) value)

assigned_where : (p : Program) (covered : List ClassId) (place : Pos) (to : VType) (f : FieldId) (parts : ExprTrees) (ok : Bool) → own_cases p covered (cond ok (answers.Is (shapes.Assignment (targets.Field f)) (value_at place to)) (mismatch place)) ≡ [] → field_assigned (tree_in (cond ok (answers.Is (shapes.Assignment (targets.Field f)) (value_at place to)) (mismatch place)) parts) ≡ when_true (first_is_this parts) f
assigned_where p covered place to f parts true none = refl
assigned_where p covered place to f parts false none = absurd (cons_is_nil _ _ none)

assigned_by_type : (p : Program) (covered : List ClassId) (place : Pos) (to : VType) (f : FieldId) (value : Facts) (parts : ExprTrees) (from : Option VType) (t : VType) → from ≡ Some t → own_cases p covered (assigning p place to f value from) ≡ [] → field_assigned (tree_in (assigning p place to f value from) parts) ≡ when_true (first_is_this parts) f
assigned_by_type p covered place to f value parts None t is none = absurd (let wrong : ◌≡◌ {A = Option VType} None (Some t) = is in cc)
assigned_by_type p covered place to f value parts (Some from) t is none = assigned_where p covered place to f parts (is_assignable p value.constant from to) none

initializing_field : (s : Surroundings) → AreTyped s.context.locals → (f : FieldId) (x : Field) (e : syntax.ExprTree) → initializing_cases s f x e ≡ [] → initialized_in (initializing_statement s f x e) ≡ f ∷ []
initializing_field s typed f x e none =
    let p = s.context.program in
    let value = value_facts s (Some x.vtype) e in
    let mine = own_cases p s.context.covered (initializing_by s f x e) in
    let v = has_type s typed (Some x.vtype) e (nil_left (value_cases s (Some x.vtype) e) mine none) in
    let parts = expressions (implied_this s.context.class' x.pos ∷ tree s (Some x.vtype) e ∷ []) in
    ap optional (assigned_by_type p s.context.covered x.pos x.vtype f value parts (type_of value) v.vtype v.has (nil_right (value_cases s (Some x.vtype) e) mine none))

-- ---- the initialisers of a class

abbrev initializing : Surroundings → FieldId → Field → syntax.ExprTree → List StmtTree
initializing s f x e = initializing_statement s f x e ∷ []

abbrev itself : FieldId → Field → syntax.ExprTree → List FieldId
itself f x e = f ∷ []

field_initializes : (s : Surroundings) (f : FieldId) (x : Option Field) (e : Option syntax.ExprTree) → AreInitializers (where_initialized (initializing s) f x e)
field_initializes s f None e = tt
field_initializes s f (Some x) None = tt
field_initializes s f (Some x) (Some e) = by x.is_static
  where
    by : (b : Bool) → AreInitializers (cond b [] (initializing s f x e))
    by true = tt
    by false = ((refl, refl), tt)

fields_initialize : (s : Surroundings) (fs : List (FieldId × WrittenField)) → AreInitializers (flat_map (statements_of_field s) fs)
fields_initialize s [] = tt
fields_initialize s (w ∷ ws) = both_are (statements_of_field s w) (flat_map (statements_of_field s) ws) (field_initializes s w.0 (field_at s.context.program w.0) (initializer_of w.1)) (fields_initialize s ws)

pub are_initializers : (e : Environment) (c : SourceClass) (covered : List ClassId) → AreInitializers (initializer_statements e c covered)
are_initializers e c covered = fields_initialize (initializer_surroundings e c covered) (numbered_fields e.program c)

field_assigns : (s : Surroundings) → AreTyped s.context.locals → (f : FieldId) (x : Option Field) (e : Option syntax.ExprTree) → where_initialized (initializing_cases s) f x e ≡ [] → fields_initialized (statements (where_initialized (initializing s) f x e)) ≡ where_initialized itself f x e
field_assigns s typed f None e none = refl
field_assigns s typed f (Some x) None none = refl
field_assigns s typed f (Some x) (Some e) none = by x.is_static none
  where
    by : (b : Bool) → cond b [] (initializing_cases s f x e) ≡ [] → fields_initialized (statements (cond b [] (initializing s f x e))) ≡ cond b [] (itself f x e)
    by true h = refl
    by false h = append-nil (initialized_in (initializing_statement s f x e)) ∙ initializing_field s typed f x e h

fields_assign : (s : Surroundings) → AreTyped s.context.locals → (fs : List (FieldId × WrittenField)) → flat_map (cases_of_field s) fs ≡ [] → fields_initialized (statements (flat_map (statements_of_field s) fs)) ≡ flat_map (field_with_initializer s.context.program) fs
fields_assign s typed [] none = refl
fields_assign s typed (w ∷ ws) none =
    fields_of_both (statements_of_field s w) (flat_map (statements_of_field s) ws)
    ∙ ap₂ (λ (xs ys : List FieldId). xs ++ ys)
    (field_assigns s typed w.0 (field_at s.context.program w.0) (initializer_of w.1) (nil_left (cases_of_field s w) (flat_map (cases_of_field s) ws) none))
    (fields_assign s typed ws (nil_right (cases_of_field s w) (flat_map (cases_of_field s) ws) none))

pub initializers_assign : (e : Environment) (c : SourceClass) (covered : List ClassId) → initializers_cases e c covered ≡ [] → fields_initialized (statements (initializer_statements e c covered)) ≡ fields_with_initializers e.program c
initializers_assign e c covered none = fields_assign (initializer_surroundings e c covered) (All-nil (λ y. IsTyped y.variable.static_type)) (numbered_fields e.program c) none
