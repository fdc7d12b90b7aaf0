-- Where nothing is refused in the expressions of a statement, they throw no checked exception that is neither caught nor declared.
use Rattle.std.proofs.Common.{◌≡◌, ◌∙◌, ◌++◌, ◌∷◌, [], List, Bool, true, false, Option, Some, None, refl, sym, ap, append_assoc}
use Rattle.std.specs.Prelude.{cond}
use Rattle.std.specs.List.{list_any}
use Rattle.rlc_base.specs.declared.code.Code.TheVariants as codes_of
use Rattle.std.proofs.lemmas.List.Concat.{flat_map-append}
use Rattle.rlc_base.specs.declared.place.Pos.{Pos}
use Rattle.program_model.specs.declared.kinds.ClassId.{ClassId}
use Rattle.program_model.specs.declared.kinds.MethodId.{MethodId}
use Rattle.program_model.specs.declared.kinds.VType.{VType}
use Rattle.program_model.specs.declared.program.Program.{Program}
use Rattle.program_model.specs.Lookups.{optional}
use Rattle.java_conversions.specs.Types.{is_throwable}
use Rattle.java_syntax.specs.ExpressionTrees as syntax
use Rattle.java_syntax.specs.StatementTrees.{ForStartTree, LocalTree, ResourceTree, VariableTree}
use Rattle.java_syntax.specs.StatementTrees as starts
use Rattle.java_typed_trees.specs.declared.facts.Answer.{Answer}
use Rattle.java_typed_trees.specs.declared.facts.Answer.TheVariants as answers
use Rattle.java_typed_trees.specs.declared.shapes.Shape.{Shape}
use Rattle.java_typed_trees.specs.declared.shapes.Shape.TheVariants as shapes
use Rattle.java_typed_trees.specs.declared.statements.ResourceShape.{ResourceShape}
use Rattle.java_typed_trees.specs.Exceptions.{classes_thrown, is_undeclared, thrown_by, undeclared_cases}
use Rattle.java_typed_trees.specs.ExpressionTrees.{ExprTree, expressions}
use Rattle.java_typed_trees.specs.Answers.{refused}
use Rattle.java_typed_trees.specs.Settling.{own_cases}
use Rattle.java_call_rules.specs.CallParts.{method_in, method_of_shape}
use Rattle.java_call_rules.specs.Surroundings.{Surroundings}
use Rattle.java_statement_rules.specs.Contexts.{StatementContext, locals_of, program_of, with_local}
use Rattle.java_statement_rules.specs.DeclaredVariables.{double_cases}
use Rattle.java_statement_rules.specs.WrittenTypes.{cast_type, type_cases}
use Rattle.java_statement_rules.specs.Resources.{class_type}
use Rattle.java_statement_rules.specs.StatementCases.{condition_cases, return_cases, storing_cases, throw_by}
use Rattle.java_statement_parts.specs.Cases.{cases, value_cases}
use Rattle.java_statement_parts.specs.Declarations.{behind_initializer, declaration_cases, declaration_trees, declared_by, in_initializer, initializer_cases, initializer_tree, initializer_trees, variable_cases, variables_cases}
use Rattle.java_statement_parts.specs.Heads.{expression_trees, expressions_cases, optional_cases, optional_tree, plain_tree, required_cases, returned, returning_cases, start_cases, start_trees}
use Rattle.java_statement_parts.specs.Resources.{behind_resource, closing_cases, closing_of, opening_cases, opening_tree, opening_trees, resource_cases, resource_class_cases, resource_shape, resource_shapes, resource_shapes_by, resources_cases}
use Rattle.java_statement_parts.specs.Typings.{tree, value_facts}
use Rattle.java_statement_parts.specs.declared.declarations.Declared.{Declared}
use Rattle.program_reading.proofs.Goodness.{nil_left, nil_right}
use Rattle.accepted_programs.specs.Exceptions.{class_of_type, throws_clause}
use Rattle.accepted_programs.proofs.Lists.{None', alone, join}
use Rattle.acceptance_laws.proofs.ExpressionExceptions.{needed_quiet, none_undeclared, some_refused, undeclared_in, value_quiet}
use Rattle.acceptance_laws.proofs.Forms.{form_closing}
use Rattle.acceptance_laws.proofs.TableExceptions.{SameThrows}
use Rattle.acceptance_laws.proofs.ThrownTrees.{value_thrown, values_thrown}

-- no expression among these throws what is undeclared there
abbrev pub AreQuiet : Surroundings → List ExprTree → Type 0
AreQuiet s ts = None' (undeclared_in s) (values_thrown s.context.program (expressions ts))

pub quiet_one : (s : Surroundings) (t : ExprTree) → None' (undeclared_in s) (value_thrown s.context.program t) → AreQuiet s (t ∷ [])
quiet_one s t h = alone (undeclared_in s) (value_thrown s.context.program t) h

pub quiet_more : (s : Surroundings) (t : ExprTree) (ts : List ExprTree) → None' (undeclared_in s) (value_thrown s.context.program t) → AreQuiet s ts → AreQuiet s (t ∷ ts)
quiet_more s t ts h g = join (undeclared_in s) (value_thrown s.context.program t) (values_thrown s.context.program (expressions ts)) h g

pub quiet_both : (s : Surroundings) (xs ys : List ExprTree) → AreQuiet s xs → AreQuiet s ys → AreQuiet s (xs ++ ys)
quiet_both s xs ys h g = ap (list_any (undeclared_in s)) (joined xs) ∙ join (undeclared_in s) (values_thrown s.context.program (expressions xs)) (values_thrown s.context.program (expressions ys)) h g
  where
    joined : (zs : List ExprTree) → values_thrown s.context.program (expressions (zs ++ ys)) ≡ values_thrown s.context.program (expressions zs) ++ values_thrown s.context.program (expressions ys)
    joined [] = refl
    joined (z ∷ zs) = ap (λ ws. value_thrown s.context.program z ++ ws) (joined zs) ∙ sym (append_assoc (value_thrown s.context.program z) (values_thrown s.context.program (expressions zs)) (values_thrown s.context.program (expressions ys)))

-- ---- conditions, results, and expressions that are statements

pub required_quiet : (s : Surroundings) (e : syntax.ExprTree) (place : Pos) → required_cases s e place ≡ [] → AreQuiet s (plain_tree s e)
required_quiet s e place none = quiet_one s (tree s None e) (needed_quiet s None e (nil_left (value_cases s None e) (condition_cases place (value_facts s None e)) none))

pub optional_quiet : (s : Surroundings) (e : Option syntax.ExprTree) (place : Pos) → optional_cases s e place ≡ [] → AreQuiet s (optional_tree s e)
optional_quiet s None place none = refl
optional_quiet s (Some e) place none = required_quiet s e place none

pub returned_quiet : (s : Surroundings) (result : Option VType) (e : Option syntax.ExprTree) (place : Pos) → returning_cases s result e place ≡ [] → AreQuiet s (returned s result e)
returned_quiet s result None place none = refl
returned_quiet s result (Some e) place none = quiet_one s (tree s result e) (needed_quiet s result e (nil_left (value_cases s result e) (return_cases s.context.program place result (value_facts s result e)) none))

pub all_quiet : (s : Surroundings) (es : List syntax.ExprTree) → expressions_cases s es ≡ [] → AreQuiet s (expression_trees s es)
all_quiet s [] none = refl
all_quiet s (e ∷ es) none = quiet_more s (tree s None e) (expression_trees s es) (value_quiet s None e (nil_left (cases s None e) (expressions_cases s es) none)) (all_quiet s es (nil_right (cases s None e) (expressions_cases s es) none))

-- ---- `throw`

-- the class of what is thrown
pub throw_none : (p : Program) (covered : List ClassId) (place : Pos) (o : Option VType) → throw_by p covered place o ≡ [] → None' (λ c. is_undeclared p covered c) (optional (class_of_type p o))
throw_none p covered place None none = refl
throw_none p covered place (Some t) none = step (is_throwable p t) none
  where
    step : (b : Bool) → cond b (undeclared_cases p covered (optional (class_of_type p (Some t))) place) (refused codes_of.Mismatch place) ≡ [] → None' (λ c. is_undeclared p covered c) (optional (class_of_type p (Some t)))
    step true h = none_undeclared p covered (optional (class_of_type p (Some t))) place h
    step false h = some_refused _ _ h

-- ---- declarations

initializer_quiet : (s : Surroundings) (d : Declared) (e : Option syntax.ExprTree) → initializer_cases s d e ≡ [] → AreQuiet s (initializer_tree s d e)
initializer_quiet s d None none = refl
initializer_quiet s d (Some e) none = quiet_one s (tree s d.vtype e) (needed_quiet s d.vtype e (nil_left (value_cases s d.vtype e) (storing_cases s.context.program d.pos d.vtype (value_facts s d.vtype e)) none))

variables_quiet : (c : StatementContext) (d : Declared) (vs : List VariableTree) → variables_cases c d vs ≡ [] → AreQuiet c.surroundings (initializer_trees c d vs)
variables_quiet c d [] none = refl
variables_quiet c d (v ∷ vs) none =
    let after : StatementContext = with_local c (behind_initializer c d v) in
    let s : Surroundings = (in_initializer c d v).surroundings in
    let first = nil_left (variable_cases c d v) (variables_cases after d vs) none in
    quiet_both c.surroundings (initializer_tree s d v.initializer) (initializer_trees after d vs)
    (initializer_quiet s d v.initializer (nil_right (double_cases d.pos (locals_of c) v.name.text) (initializer_cases s d v.initializer) first))
    (variables_quiet after d vs (nil_right (variable_cases c d v) (variables_cases after d vs) none))

pub declaration_quiet : (c : StatementContext) (l : LocalTree) (place : Pos) → declaration_cases c l place ≡ [] → AreQuiet c.surroundings (declaration_trees c l place)
declaration_quiet c l place none = variables_quiet c (declared_by c.surroundings l place) l.variables (nil_right (type_cases (cast_type c.surroundings l.typ) l.typ) (variables_cases c (declared_by c.surroundings l place) l.variables) none)

-- ---- the first part of `for`

pub start_quiet : (c : StatementContext) (start : ForStartTree) (place : Pos) → start_cases c start place ≡ [] → AreQuiet c.surroundings (start_trees c start place)
start_quiet c (starts.Declaration l) place none = declaration_quiet c l place none
start_quiet c (starts.Expressions es) place none = all_quiet c.surroundings es none

-- ---- resources

pub openings_quiet : (c : StatementContext) (rs : List ResourceTree) (place : Pos) → resources_cases c rs place ≡ [] → AreQuiet c.surroundings (opening_trees c rs)
openings_quiet c [] place none = refl
openings_quiet c (r ∷ rs) place none =
    let s : Surroundings = (behind_resource c r).surroundings in
    let t : Option VType = class_type c.surroundings r.class' in
    let own = nil_left (resource_cases c r place) (resources_cases (behind_resource c r) rs place) none in
    let opening = nil_right (double_cases place (locals_of c) r.name.text ++ resource_class_cases c.surroundings r place ++ closing_cases c.surroundings r) (opening_cases s t r.value place) own in
    quiet_more c.surroundings (opening_tree c r) (opening_trees (behind_resource c r) rs)
    (needed_quiet s t r.value (nil_left (value_cases s t r.value) (storing_cases s.context.program place t (value_facts s t r.value)) opening))
    (openings_quiet (behind_resource c r) rs place (nil_right (resource_cases c r place) (resources_cases (behind_resource c r) rs place) none))

-- the method or constructor that an answer means throws what the answer's shape throws
method_thrown : (p : Program) (shape : Shape) (m : MethodId) → method_of_shape shape ≡ Some m → classes_thrown p shape ≡ thrown_by p m
method_thrown p (shapes.Call form n) m is = let same : n ≡ m = cc in ap (thrown_by p) same
method_thrown p (shapes.NewObject c n) m is = let same : n ≡ m = cc in ap (thrown_by p) same
method_thrown p shape m is = absurd (let no : None ≡ Some m = is in cc)

pub answer_none : (p : Program) (covered : List ClassId) (given : Answer) → own_cases p covered given ≡ [] → (m : MethodId) → method_in given ≡ Some m → None' (λ c. is_undeclared p covered c) (thrown_by p m)
answer_none p covered (answers.Is shape facts) none m is = ap (list_any (λ c. is_undeclared p covered c)) (sym (method_thrown p shape m is)) ∙ none_undeclared p covered (classes_thrown p shape) facts.pos none
answer_none p covered (answers.Wrong code place) none m is = absurd (let no : None ≡ Some m = is in cc)
answer_none p covered (answers.Silent place) none m is = absurd (let no : None ≡ Some m = is in cc)

-- the closing of the resources throws nothing that is undeclared
pub closing_quiet : (q : Program) (c : StatementContext) → SameThrows q (program_of c) → (rs : List ResourceTree) (place : Pos) → resources_cases c rs place ≡ [] → None' (undeclared_in c.surroundings) (form_closing q (resource_shapes c rs))
closing_quiet q c same [] place none = refl
closing_quiet q c same (r ∷ rs) place none =
    let s : Surroundings = c.surroundings in
    let own = nil_left (resource_cases c r place) (resources_cases (behind_resource c r) rs place) none in
    let opening = opening_cases (behind_resource c r).surroundings (class_type s r.class') r.value place in
    let front = nil_left (double_cases place (locals_of c) r.name.text ++ resource_class_cases s r place ++ closing_cases s r) opening own in
    let closing : own_cases s.context.program s.context.covered (closing_of s r) ≡ [] = nil_right (double_cases place (locals_of c) r.name.text ++ resource_class_cases s r place) (closing_cases s r) front in
    ap (list_any (undeclared_in s)) (flat_map-append (λ (z : ResourceShape). throws_clause q z.close) (resource_shape c r) (resource_shapes (behind_resource c r) rs))
    ∙ join (undeclared_in s) (form_closing q (resource_shape c r)) (form_closing q (resource_shapes (behind_resource c r) rs))
    (one (method_in (closing_of s r)) refl closing)
    (closing_quiet q (behind_resource c r) same rs place (nil_right (resource_cases c r place) (resources_cases (behind_resource c r) rs place) none))
  where
    one : (o : Option MethodId) → method_in (closing_of c.surroundings r) ≡ o → own_cases (program_of c) c.surroundings.context.covered (closing_of c.surroundings r) ≡ [] → None' (undeclared_in c.surroundings) (form_closing q (resource_shapes_by c.next_variable r.name.pos o))
    one None is h = refl
    one (Some m) is h = alone (undeclared_in c.surroundings) (throws_clause q m) (ap (list_any (undeclared_in c.surroundings)) (same.clause m) ∙ answer_none (program_of c) c.surroundings.context.covered (closing_of c.surroundings r) h m is)
