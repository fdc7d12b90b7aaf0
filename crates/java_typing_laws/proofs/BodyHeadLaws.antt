-- The super call and the initialisers of fields with which the body of a constructor begins are well-formed, where nothing of them
-- is refused.
use Rattle.std.proofs.Common.{◌≡◌, Bool, true, false, ◌||◌, cond, Option, Some, None, List, [], ◌∷◌, flat_map, refl, sym, subst}
use Rattle.std.proofs.lemmas.List.Elements.{All-nil}
use Rattle.rlc_base.specs.declared.place.Pos.{Pos}
use Rattle.program_model.specs.declared.kinds.ClassId.{ClassId}
use Rattle.program_model.specs.declared.kinds.FieldId.{FieldId}
use Rattle.program_model.specs.declared.kinds.MethodId.{MethodId}
use Rattle.program_model.specs.declared.kinds.VType.{VType}
use Rattle.program_model.specs.declared.program.Field.{Field}
use Rattle.program_model.specs.declared.program.Program.{Program}
use Rattle.program_model.specs.Lookups.{field_at}
use Rattle.java_syntax.specs.ExpressionTrees as syntax
use Rattle.java_conversions.specs.Conversions.{is_assignable}
use Rattle.java_bodies.specs.ClassDeclarationsMembers.{WrittenField}
use Rattle.java_typed_trees.specs.declared.facts.Answer.{Answer}
use Rattle.java_typed_trees.specs.declared.facts.Answer.TheVariants as answers
use Rattle.java_typed_trees.specs.declared.facts.Facts.{Facts}
use Rattle.java_typed_trees.specs.declared.shapes.Shape.TheVariants as shapes
use Rattle.java_typed_trees.specs.declared.shapes.TargetShape.TheVariants as targets
use Rattle.java_typed_trees.specs.Answers.{mismatch, of_two, type_of, value_at}
use Rattle.java_typed_trees.specs.ExpressionTrees.{ExprTrees, expressions}
use Rattle.java_typed_trees.specs.Settling.{own_cases, tree_in}
use Rattle.java_typed_trees.specs.StatementTrees.{statements}
use Rattle.java_typed_trees.specs.WellFormed.{AreWellFormed, IsWellFormed, count}
use Rattle.java_typed_trees.specs.WellFormedStatements.{AreWellFormedStatements, IsWellFormedStatement}
use Rattle.java_variable_rules.specs.JavaMemberRulesAssignments.{assignment_by, assignment_of}
use Rattle.java_variable_rules.specs.JavaMemberRulesNames.{implied_this}
use Rattle.java_call_rules.specs.CallParts.{method_in, parameters_of}
use Rattle.java_call_rules.specs.Surroundings.{Surroundings}
use Rattle.java_call_rules.specs.TypedParts.{Typing}
use Rattle.java_variable_rules.proofs.VariableLaws.{AreTyped, IsTyped}
use Rattle.java_call_rules.proofs.Whole.{IsWhole, of_both, whole_refusal}
use Rattle.java_statement_parts.specs.Cases.{argument_cases, value_cases}
use Rattle.java_statement_parts.specs.Typings.{tree, typing, typings, value_facts}
use Rattle.java_statement_parts.proofs.Goodness.{AreValues, argument_trees_well, cons_is_nil, nil_left, nil_right, well_formed}
use Rattle.java_statement_parts.proofs.WellTyped.{goods, has_type}
use Rattle.java_typing_laws.proofs.Parts.{append_statements_well}
use Rattle.java_bodies.specs.SourceClassesMembers.{Environment, numbered_fields}
use Rattle.java_bodies.specs.SourceClasses.{SourceClass}
use Rattle.java_bodies.specs.FieldInitializers.{cases_of_field, initializer_of, initializer_statements, initializer_surroundings, initializers_cases, initializing_by, initializing_cases, initializing_statement, statements_of_field, where_initialized}
use Rattle.java_bodies.specs.SuperCalls.{SuperCall, call_cases, is_made, statement_of_call, super_call_by, super_call_cases, super_call_statements, typed_call_cases}

-- ---- the super call

statement_well : (p : Program) (place : Pos) (written : Bool) (m : Option MethodId) (arguments : List Typing) → AreValues arguments → AreWellFormedStatements (statements (statement_of_call p place written m arguments))
statement_well p place written None arguments values = tt
statement_well p place written (Some m) arguments values = ((refl, argument_trees_well (parameters_of p (Some m)) arguments values, tt), tt)

-- a call that is made is typed, also one that is implied
made_well : (s : Surroundings) → AreTyped s.context.locals → (call : SuperCall) (made : Bool) → cond (call.written || made) (typed_call_cases s call) [] ≡ [] → AreWellFormedStatements (statements (cond made (statement_of_call s.context.program call.pos call.written (method_in (super_call_by s call.pos (typings s call.arguments))) (typings s call.arguments)) []))
made_well s typed call false none = tt
made_well s typed call true none =
    let cases = subst (λ b. cond b (typed_call_cases s call) [] ≡ []) (also_true call.written) none in
    let values = goods s typed call.arguments (nil_left (argument_cases s call.arguments) (call_cases s call.pos (typings s call.arguments)) cases) in
    statement_well s.context.program call.pos call.written (method_in (super_call_by s call.pos (typings s call.arguments))) (typings s call.arguments) values
  where
    also_true : (b : Bool) → (b || true) ≡ true
    also_true true = refl
    also_true false = refl

pub super_call_well : (s : Surroundings) → AreTyped s.context.locals → (call : SuperCall) → super_call_cases s call ≡ [] → AreWellFormedStatements (statements (super_call_statements s call))
super_call_well s typed call none = made_well s typed call (is_made s) none

-- ---- the initialiser of a field

whole_assignment : (p : Program) (f : FieldId) (x : Field) (value : Facts) (t : VType) → type_of value ≡ Some t → IsWhole 2 (assignment_by p x.pos (Some (targets.Field f)) (value_at x.pos x.vtype) value)
whole_assignment p f x value t has = subst (λ u. IsWhole 2 (of_two x.pos (Some x.vtype) u (assignment_of p x.pos (Some (targets.Field f)) value))) (sym has) (of_both (IsWhole 2) (is_assignable p value.constant t x.vtype) (answers.Is (shapes.Assignment (targets.Field f)) (value_at x.pos x.vtype)) (mismatch x.pos) (record { takes = refl; decided = tt }) (whole_refusal 2 x.pos))

tree_well : (p : Program) (covered : List ClassId) (a : Answer) (parts : ExprTrees) → IsWhole (count parts) a → own_cases p covered a ≡ [] → AreWellFormed parts → IsWellFormed (tree_in a parts)
tree_well p covered (answers.Is shape facts) parts w none well = (w.takes, well)
tree_well p covered (answers.Wrong code place) parts w none well = absurd (cons_is_nil _ _ none)
tree_well p covered (answers.Silent place) parts w none well = absurd w.decided

initializing_well : (s : Surroundings) → AreTyped s.context.locals → (f : FieldId) (x : Field) (e : syntax.ExprTree) → initializing_cases s f x e ≡ [] → IsWellFormedStatement (initializing_statement s f x e)
initializing_well s typed f x e none =
    let p = s.context.program in
    let given = initializing_by s f x e in
    let mine = own_cases p s.context.covered given in
    let v = has_type s typed (Some x.vtype) e (nil_left (value_cases s (Some x.vtype) e) mine none) in
    let parts = expressions (implied_this s.context.class' x.pos ∷ tree s (Some x.vtype) e ∷ []) in
    let whole = whole_assignment p f x (value_facts s (Some x.vtype) e) v.vtype v.has in
    let well = tree_well p s.context.covered given parts whole (nil_right (value_cases s (Some x.vtype) e) mine none) ((refl, tt), (well_formed (typing s (Some x.vtype) e) v.good, tt)) in
    ((refl, refl), (well, tt), tt)

field_well : (s : Surroundings) → AreTyped s.context.locals → (f : FieldId) (x : Option Field) (e : Option syntax.ExprTree) → where_initialized (initializing_cases s) f x e ≡ [] → AreWellFormedStatements (statements (where_initialized (λ g y v. initializing_statement s g y v ∷ []) f x e))
field_well s typed f None e none = tt
field_well s typed f (Some x) None none = tt
field_well s typed f (Some x) (Some e) none = by x.is_static none
  where
    by : (b : Bool) → cond b [] (initializing_cases s f x e) ≡ [] → AreWellFormedStatements (statements (cond b [] (initializing_statement s f x e ∷ [])))
    by true h = tt
    by false h = (initializing_well s typed f x e h, tt)

fields_well : (s : Surroundings) → AreTyped s.context.locals → (fs : List (FieldId × WrittenField)) → flat_map (cases_of_field s) fs ≡ [] → AreWellFormedStatements (statements (flat_map (statements_of_field s) fs))
fields_well s typed [] none = tt
fields_well s typed (w ∷ ws) none = append_statements_well (statements_of_field s w) (flat_map (statements_of_field s) ws) (field_well s typed w.0 (field_at s.context.program w.0) (initializer_of w.1) (nil_left (cases_of_field s w) (flat_map (cases_of_field s) ws) none)) (fields_well s typed ws (nil_right (cases_of_field s w) (flat_map (cases_of_field s) ws) none))

pub initializers_well : (e : Environment) (c : SourceClass) (covered : List ClassId) → initializers_cases e c covered ≡ [] → AreWellFormedStatements (statements (initializer_statements e c covered))
initializers_well e c covered none = fields_well (initializer_surroundings e c covered) (All-nil (λ y. IsTyped y.variable.static_type)) (numbered_fields e.program c) none
