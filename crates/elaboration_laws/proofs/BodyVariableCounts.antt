-- The table of a body's variables has as many as its statements declare, where nothing is refused.
use Rattle.std.proofs.Common.{◌≡◌, ◌∙◌, ap, refl, arith, ℕ, suc, ◌+◌, Option, Some, None, List, [], ◌∷◌, ◌++◌, length, length-append}
use Rattle.std.specs.Prelude.{false}
use Rattle.std.specs.List.{flat_map}
use Rattle.rlc_base.specs.declared.place.Pos.{Pos}
use Rattle.program_model.specs.declared.kinds.VType.{VType}
use Rattle.java_syntax.specs.declared.names.Name.{Name}
use Rattle.java_syntax.specs.AnnotationTrees.{ModifierTree}
use Rattle.java_syntax.specs.StatementTrees.{BlockTree, Braces, CatchTrees, ForStartTree, LocalTree, MaybeBlock, MaybeStmt, ResourceTree, StmtTree, StmtTrees, VariableTree, no_catch, and_catch, no_else, some_else, no_finally, some_finally, no_statement, and_statement}
use Rattle.java_syntax.specs.StatementTrees as syntax
use Rattle.java_call_rules.specs.WrittenTypes.{cast_type, type_cases}
use Rattle.java_call_rules.specs.Surroundings.{Surroundings}
use Rattle.java_typing_laws.proofs.Goodness.{known_type, nil_first, nil_left, nil_right, nil_second}
use Rattle.java_statement_rules.specs.declared.completion.Completion.{Completion}
use Rattle.java_statement_rules.specs.CatchClauses.{alternatives_cases, parameter_type}
use Rattle.java_statement_rules.specs.Contexts.{StatementContext, in_a_loop, locals_of}
use Rattle.java_statement_rules.specs.DeclaredVariables.{double_cases}
use Rattle.java_statement_rules.specs.Resources.{class_type, class_type_cases, closeable_cases}
use Rattle.java_typing_laws.specs.Clauses.{clause_cases}
use Rattle.java_typing_laws.specs.Declarations.{declaration_cases, declared_by, variables_cases}
use Rattle.java_typing_laws.specs.Heads.{expressions_cases, optional_cases, required_cases, start_cases, start_count}
use Rattle.java_typing_laws.specs.Resources.{behind_resource, closing_cases, opening_cases, resource_cases, resource_class_cases, resources_cases}
use Rattle.java_typing_laws.specs.StatementCases.{block_cases, catches_cases, else_cases, finally_cases, statement_cases, statements_cases}
use Rattle.java_typing_laws.specs.StatementCompletions.{finally_completion}
use Rattle.java_typing_laws.specs.StatementContexts.{after, behind_start, catch_context, catches_context, else_context, finally_context, for_body_context, next_catch_context, resources_context, try_block_context}
use Rattle.java_typing_laws.specs.VariableCounts.{block_count, catches_count, else_count, finally_count, statements_count, variable_count}
use Rattle.java_typing_laws.specs.CatchParameters.{HasCatchTypes}
use Rattle.java_typing_laws.proofs.CatchLaws.{parameter_known}
use Rattle.java_typing_laws.specs.BodyVariables.{all_variables, block_variables, catch_variable, catch_variables, else_variables, finally_variables, local_variables, resource_variable, resource_variables, start_variables, variables_of}
use Rattle.java_elaboration.specs.Declarations.{BodyVariable, declared}

-- what the types of variables depend on: the program, the class and the compilation unit
abbrev pub declaring : Surroundings → Surroundings
declaring s = record { context = record { program = s.context.program; class' = s.context.class'; has_this = false; locals = []; covered = [] }; classes = s.classes; unit = s.unit; initialized = None; constants = s.constants }

both_long : (n k : ℕ) (xs ys : List BodyVariable) → length xs ≡ n → length ys ≡ k → length (xs ++ ys) ≡ n + k
both_long n k xs ys h g = length-append xs ys ∙ ap (λ j. j + length ys) h ∙ ap (λ j. n + j) g

one_declared : (modifiers : List ModifierTree) (name : Name) (u : Option VType) (t : VType) → u ≡ Some t → length (declared modifiers name u) ≡ 1
one_declared modifiers name u t is = ap (λ (o : Option VType). length (declared modifiers name o)) is

each_declared : (modifiers : List ModifierTree) (u : Option VType) (t : VType) → u ≡ Some t → (vs : List VariableTree) → length (flat_map (λ v. declared modifiers v.name u) vs) ≡ length vs
each_declared modifiers u t is [] = refl
each_declared modifiers u t is (v ∷ vs) =
    let next : 1 + length vs ≡ suc (length vs) = omega arith in
    both_long 1 (length vs) (declared modifiers v.name u) (flat_map (λ w. declared modifiers w.name u) vs) (one_declared modifiers v.name u t is) (each_declared modifiers u t is vs) ∙ next

locals_long : (c : StatementContext) (l : LocalTree) (place : Pos) → declaration_cases c l place ≡ [] → length (local_variables (declaring c.surroundings) l) ≡ length l.variables
locals_long c l place none =
    let k = known_type (cast_type c.surroundings l.typ) l.typ.pos (nil_left (type_cases (cast_type c.surroundings l.typ) l.typ) (variables_cases c (declared_by c.surroundings l place) l.variables) none) in
    each_declared l.modifiers (cast_type c.surroundings l.typ) k.vtype k.is l.variables

starts_long : (c : StatementContext) (start : ForStartTree) (place : Pos) → start_cases c start place ≡ [] → length (start_variables (declaring c.surroundings) start) ≡ start_count start
starts_long c (syntax.Declaration l) place none = locals_long c l place none
starts_long c (syntax.Expressions es) place none = refl

resource_long : (c : StatementContext) (r : ResourceTree) (place : Pos) → resource_cases c r place ≡ [] → length (resource_variable (declaring c.surroundings) r) ≡ 1
resource_long c r place none =
    let s = c.surroundings in
    let t = class_type s r.class' in
    let double = double_cases place (locals_of c) r.name.text in
    let of_class = resource_class_cases s r place in
    let closing = closing_cases s r in
    let opening = opening_cases (behind_resource c r).surroundings t r.value place in
    let class_none = nil_second double of_class closing (nil_left (double ++ of_class ++ closing) opening none) in
    let k = known_type t r.class'.pos (nil_left (class_type_cases t r.class') (closeable_cases s place t) class_none) in
    one_declared r.modifiers r.name t k.vtype k.is

resources_long : (c : StatementContext) (rs : List ResourceTree) (place : Pos) → resources_cases c rs place ≡ [] → length (resource_variables (declaring c.surroundings) rs) ≡ length rs
resources_long c [] place none = refl
resources_long c (r ∷ rs) place none =
    let behind = behind_resource c r in
    let next : 1 + length rs ≡ suc (length rs) = omega arith in
    both_long 1 (length rs) (resource_variable (declaring c.surroundings) r) (resource_variables (declaring c.surroundings) rs)
    (resource_long c r place (nil_left (resource_cases c r place) (resources_cases behind rs place) none))
    (resources_long behind rs place (nil_right (resource_cases c r place) (resources_cases behind rs place) none)) ∙ next

catch_long : (c : StatementContext) → HasCatchTypes c.surroundings.context.program → (modifiers : List ModifierTree) (names : List Name) (name : Name) (place : Pos) → clause_cases c names name place ≡ [] → length (catch_variable (declaring c.surroundings) modifiers names name) ≡ 1
catch_long c has modifiers names name place none =
    let k = parameter_known c.surroundings has place names (nil_left (alternatives_cases c.surroundings place names) (double_cases place (locals_of c) name.text) none) in
    one_declared modifiers name (parameter_type c.surroundings names) k.vtype k.is

-- ---- all statements

mutual
  statement_long : (c : StatementContext) → HasCatchTypes c.surroundings.context.program → (t : StmtTree) → statement_cases c t ≡ [] → length (variables_of (declaring c.surroundings) t) ≡ variable_count t
  statement_long c has (syntax.BlockOf b) none = block_long c has b none
  statement_long c has (syntax.Empty place) none = refl
  statement_long c has (syntax.LocalOf l place) none = locals_long c l place none
  statement_long c has (syntax.ExpressionOf e place) none = refl
  statement_long c has (syntax.If e a b place) none =
      let s : Surroundings = declaring c.surroundings in
      let condition = required_cases c.surroundings e place in
      let then' = statement_cases c a in
      let otherwise = else_cases (else_context c a) b in
      both_long (variable_count a) (else_count b) (variables_of s a) (else_variables s b)
      (statement_long c has a (nil_second condition then' otherwise none))
      (else_long (else_context c a) has b (nil_right (condition ++ then') otherwise none))
  statement_long c has (syntax.While e body place) none = statement_long (in_a_loop c) has body (nil_right (required_cases c.surroundings e place) (statement_cases (in_a_loop c) body) none)
  statement_long c has (syntax.DoWhile body e place) none = statement_long (in_a_loop c) has body (nil_right (required_cases c.surroundings e place) (statement_cases (in_a_loop c) body) none)
  statement_long c has (syntax.For start e updates body place) none =
      let d : Surroundings = declaring c.surroundings in
      let s : Surroundings = (behind_start c start place).surroundings in
      let first = start_cases c start place in
      let condition = optional_cases s e place in
      let steps = expressions_cases s updates in
      let inner = statement_cases (for_body_context c start place) body in
      both_long (start_count start) (variable_count body) (start_variables d start) (variables_of d body)
      (starts_long c start place (nil_first first condition steps (nil_left (first ++ condition ++ steps) inner none)))
      (statement_long (for_body_context c start place) has body (nil_right (first ++ condition ++ steps) inner none))
  statement_long c has (syntax.Try rs b cs last place) none =
      let d : Surroundings = declaring c.surroundings in
      let f : Completion = finally_completion (finally_context c rs b cs) last in
      let of_finally = finally_cases (finally_context c rs b cs) last in
      let of_resources = resources_cases (resources_context c f cs) rs place in
      let of_block = block_cases (try_block_context c f rs cs) b in
      let of_catches = catches_cases (catches_context c f rs b) cs place in
      let front = nil_left (of_finally ++ of_resources ++ of_block) of_catches none in
      let r : List BodyVariable = resource_variables d rs in
      let x : List BodyVariable = block_variables d b in
      let y : List BodyVariable = catch_variables d cs in
      both_long (length rs + block_count b + catches_count cs) (finally_count last) (r ++ x ++ y) (finally_variables d last)
      (both_long (length rs + block_count b) (catches_count cs) (r ++ x) y
      (both_long (length rs) (block_count b) r x
      (resources_long (resources_context c f cs) rs place (nil_second of_finally of_resources of_block front))
      (block_long (try_block_context c f rs cs) has b (nil_right (of_finally ++ of_resources) of_block front)))
      (catches_long (catches_context c f rs b) has cs place (nil_right (of_finally ++ of_resources ++ of_block) of_catches none)))
      (finally_long (finally_context c rs b cs) has last (nil_first of_finally of_resources of_block front))
  statement_long c has (syntax.Return e place) none = refl
  statement_long c has (syntax.Throw e place) none = refl
  statement_long c has (syntax.Break place) none = refl
  statement_long c has (syntax.Continue place) none = refl

  block_long : (c : StatementContext) → HasCatchTypes c.surroundings.context.program → (b : BlockTree) → block_cases c b ≡ [] → length (block_variables (declaring c.surroundings) b) ≡ block_count b
  block_long c has (Braces ts place end) none = statements_long c has ts none

  pub statements_long : (c : StatementContext) → HasCatchTypes c.surroundings.context.program → (ts : StmtTrees) → statements_cases c ts ≡ [] → length (all_variables (declaring c.surroundings) ts) ≡ statements_count ts
  statements_long c has no_statement none = refl
  statements_long c has (and_statement t ts) none =
      let d : Surroundings = declaring c.surroundings in
      both_long (variable_count t) (statements_count ts) (variables_of d t) (all_variables d ts)
      (statement_long c has t (nil_left (statement_cases c t) (statements_cases (after c t) ts) none))
      (statements_long (after c t) has ts (nil_right (statement_cases c t) (statements_cases (after c t) ts) none))

  catches_long : (c : StatementContext) → HasCatchTypes c.surroundings.context.program → (cs : CatchTrees) (place : Pos) → catches_cases c cs place ≡ [] → length (catch_variables (declaring c.surroundings) cs) ≡ catches_count cs
  catches_long c has no_catch place none = refl
  catches_long c has (and_catch modifiers names name b more) place none =
      let d : Surroundings = declaring c.surroundings in
      let clause = clause_cases c names name place in
      let inner = block_cases (catch_context c modifiers names name) b in
      let rest = catches_cases (next_catch_context c b) more place in
      let x : List BodyVariable = catch_variable d modifiers names name in
      let y : List BodyVariable = block_variables d b in
      both_long (1 + block_count b) (catches_count more) (x ++ y) (catch_variables d more)
      (both_long 1 (block_count b) x y (catch_long c has modifiers names name place (nil_first clause inner rest none)) (block_long (catch_context c modifiers names name) has b (nil_second clause inner rest none)))
      (catches_long (next_catch_context c b) has more place (nil_right (clause ++ inner) rest none))

  else_long : (c : StatementContext) → HasCatchTypes c.surroundings.context.program → (b : MaybeStmt) → else_cases c b ≡ [] → length (else_variables (declaring c.surroundings) b) ≡ else_count b
  else_long c has no_else none = refl
  else_long c has (some_else t) none = statement_long c has t none

  finally_long : (c : StatementContext) → HasCatchTypes c.surroundings.context.program → (b : MaybeBlock) → finally_cases c b ≡ [] → length (finally_variables (declaring c.surroundings) b) ≡ finally_count b
  finally_long c has no_finally none = refl
  finally_long c has (some_finally b) none = block_long c has b none
