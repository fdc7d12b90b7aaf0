-- The variables that statements declare, where nothing is refused: there are as many as are counted, of types that may be declared.
use Rattle.std.proofs.Common.{◌≡◌, ◌∙◌, ◌+◌, ℕ, Option, Some, None, List, [], ◌∷◌, ◌++◌, All, length, length-append, option_map, refl, sym, subst, ap, arith}
use Rattle.std.specs.List.{flat_map}
use Rattle.std.proofs.lemmas.List.Elements.{All-append, All-cons, All-nil}
use Rattle.rlc_base.specs.declared.place.Pos.{Pos}
use Rattle.program_model.specs.declared.kinds.ClassId.{ClassId}
use Rattle.program_model.specs.declared.kinds.VType.{VType}
use Rattle.program_model.specs.declared.program.Program.{Program}
use Rattle.program_model.specs.SuperTests.{is_class}
use Rattle.program_model.specs.Typing.{IsDeclarable}
use Rattle.java_syntax.specs.declared.names.Name.{Name}
use Rattle.java_syntax.specs.AnnotationTrees.{ModifierTree}
use Rattle.java_syntax.specs.StatementTrees.{BlockTree, Braces, CatchTrees, ForStartTree, LocalTree, MaybeBlock, MaybeStmt, ResourceTree, StmtTree, StmtTrees, VariableTree, no_catch, and_catch, no_else, some_else, no_finally, some_finally, no_statement, and_statement}
use Rattle.java_syntax.specs.StatementTrees as syntax
use Rattle.java_conversions.specs.Types.{type_of_class}
use Rattle.java_call_rules.specs.WrittenTypes.{cast_type, class_of_name, type_cases}
use Rattle.java_call_rules.specs.Surroundings.{Surroundings}
use Rattle.java_statement_parts.proofs.Goodness.{known_type, nil_first, nil_left, nil_right, nil_second}
use Rattle.java_statement_rules.specs.declared.completion.Completion.{Completion}
use Rattle.java_statement_rules.specs.CatchClauses.{alternatives_cases, parameter_type}
use Rattle.java_statement_rules.specs.Contexts.{StatementContext, in_a_loop, locals_of}
use Rattle.java_statement_rules.specs.DeclaredVariables.{double_cases}
use Rattle.java_statement_rules.specs.Resources.{class_type}
use Rattle.java_statement_parts.specs.Clauses.{clause_cases}
use Rattle.java_statement_parts.specs.Declarations.{declaration_cases, declared_by, variables_cases}
use Rattle.java_statement_parts.specs.Heads.{expressions_cases, optional_cases, required_cases, start_cases, start_count}
use Rattle.java_statement_parts.specs.Resources.{behind_resource, resource_cases, resources_cases}
use Rattle.java_bodies.specs.StatementCases.{block_cases, catches_cases, else_cases, finally_cases, statement_cases, statements_cases}
use Rattle.java_bodies.specs.StatementCompletions.{finally_completion}
use Rattle.java_bodies.specs.StatementContexts.{after, behind_start, catch_context, catches_context, else_context, finally_context, for_body_context, next_catch_context, resources_context, try_block_context}
use Rattle.java_bodies.specs.VariableCounts.{block_count, catches_count, else_count, finally_count, statements_count, variable_count}
use Rattle.java_bodies.specs.BodyVariables.{all_variables, block_variables, catch_variable, catch_variables, else_variables, finally_variables, local_variables, resource_variables, start_variables, variables_of}
use Rattle.java_bodies.specs.Declarations.{BodyVariable, declared, variable_with}
use Rattle.java_typing_laws.proofs.Conversions.{none_is_some, same_in}
use Rattle.java_typing_laws.specs.Scopes.{HasDeclarableTypes, declaring}
use Rattle.java_typing_laws.proofs.CatchTyping.{declarable_class, parameter_typed}
use Rattle.java_typing_laws.proofs.ResourceTyping.{accepted}

-- ---- lists of variables

abbrev HasDeclarableType : Program → BodyVariable → Type 0
HasDeclarableType p x = IsDeclarable p x.vtype

-- so many variables, each of a type that may be declared
pub record AreDeclared (p : Program) (n : ℕ) (xs : List BodyVariable) : Type 0 where
  pub count : length xs ≡ n
  pub declarable : All (HasDeclarableType p) xs

no_variable : (p : Program) → AreDeclared p 0 []
no_variable p = record { count = refl; declarable = All-nil (HasDeclarableType p) }

one_variable : (p : Program) (modifiers : List ModifierTree) (name : Name) (u : Option VType) (t : VType) → u ≡ Some t → IsDeclarable p t → AreDeclared p 1 (declared modifiers name u)
one_variable p modifiers name u t is h = subst (λ (o : Option VType). AreDeclared p 1 (declared modifiers name o)) (sym is) (record { count = refl; declarable = All-cons (HasDeclarableType p) (variable_with modifiers name t) [] h (All-nil (HasDeclarableType p)) })

pub both : (p : Program) (n k : ℕ) (xs ys : List BodyVariable) → AreDeclared p n xs → AreDeclared p k ys → AreDeclared p (n + k) (xs ++ ys)
both p n k xs ys h g = record { count = length-append xs ys ∙ ap (λ j. j + length ys) h.count ∙ ap (λ j. n + j) g.count; declarable = All-append (HasDeclarableType p) xs ys h.declarable g.declarable }

counted_as : (p : Program) (n k : ℕ) (xs : List BodyVariable) → n ≡ k → AreDeclared p n xs → AreDeclared p k xs
counted_as p n k xs same h = record { count = h.count ∙ same; declarable = h.declarable }

-- ---- declarations

abbrev HasTypes : Surroundings → Type 0
HasTypes s = HasDeclarableTypes s.context.program s.classes s.unit

each_declared : (p : Program) (modifiers : List ModifierTree) (u : Option VType) (t : VType) → u ≡ Some t → IsDeclarable p t → (vs : List VariableTree) → AreDeclared p (length vs) (flat_map (λ v. declared modifiers v.name u) vs)
each_declared p modifiers u t is h [] = no_variable p
each_declared p modifiers u t is h (v ∷ vs) =
    let rest : List BodyVariable = flat_map (λ w. declared modifiers w.name u) vs in
    let next : 1 + length vs ≡ length (v ∷ vs) = omega arith in
    counted_as p (1 + length vs) (length (v ∷ vs)) (declared modifiers v.name u ++ rest) next (both p 1 (length vs) (declared modifiers v.name u) rest (one_variable p modifiers v.name u t is h) (each_declared p modifiers u t is h vs))

pub locals_declared : (c : StatementContext) → HasTypes c.surroundings → (l : LocalTree) (place : Pos) → declaration_cases c l place ≡ [] → AreDeclared c.surroundings.context.program (length l.variables) (local_variables (declaring c.surroundings) l)
locals_declared c h l place none =
    let k = known_type (cast_type c.surroundings l.typ) l.typ.pos (nil_left (type_cases (cast_type c.surroundings l.typ) l.typ) (variables_cases c (declared_by c.surroundings l place) l.variables) none) in
    each_declared c.surroundings.context.program l.modifiers (cast_type c.surroundings l.typ) k.vtype k.is (h.written l.typ k.vtype k.is) l.variables

pub starts_declared : (c : StatementContext) → HasTypes c.surroundings → (start : ForStartTree) (place : Pos) → start_cases c start place ≡ [] → AreDeclared c.surroundings.context.program (start_count start) (start_variables (declaring c.surroundings) start)
starts_declared c h (syntax.Declaration l) place none = locals_declared c h l place none
starts_declared c h (syntax.Expressions es) place none = no_variable c.surroundings.context.program

-- the type of a class that is named
class_declarable : (s : Surroundings) → HasTypes s → (name : List ℕ) (o : Option ClassId) → class_of_name s name ≡ o → (t : VType) → option_map (type_of_class s.context.program) o ≡ Some t → IsDeclarable s.context.program t
class_declarable s h name None is t e = absurd (none_is_some t e)
class_declarable s h name (Some c) is t e =
    let p : Program = s.context.program in
    subst (IsDeclarable p) (same_in (type_of_class p c) t e) (declarable_class p c (h.named name c is) (is_class c p.core.string) refl)

pub resources_declared : (c : StatementContext) → HasTypes c.surroundings → (rs : List ResourceTree) (place : Pos) → resources_cases c rs place ≡ [] → AreDeclared c.surroundings.context.program (length rs) (resource_variables (declaring c.surroundings) rs)
resources_declared c h [] place none = no_variable c.surroundings.context.program
resources_declared c h (r ∷ rs) place none =
    let p : Program = c.surroundings.context.program in
    let t : Option VType = class_type c.surroundings r.class' in
    let behind = behind_resource c r in
    let a = accepted c r place (nil_left (resource_cases c r place) (resources_cases behind rs place) none) in
    let rest : List BodyVariable = resource_variables (declaring c.surroundings) rs in
    let next : 1 + length rs ≡ length (r ∷ rs) = omega arith in
    counted_as p (1 + length rs) (length (r ∷ rs)) (declared r.modifiers r.name t ++ rest) next
    (both p 1 (length rs) (declared r.modifiers r.name t) rest
    (one_variable p r.modifiers r.name t a.vtype a.is (class_declarable c.surroundings h r.class'.text (class_of_name c.surroundings r.class'.text) refl a.vtype a.is))
    (resources_declared behind h rs place (nil_right (resource_cases c r place) (resources_cases behind rs place) none)))

-- ---- all statements

abbrev Declares : StatementContext → ℕ → List BodyVariable → Type 0
Declares c n xs = AreDeclared c.surroundings.context.program n xs

mutual
  pub statement_declares : (c : StatementContext) → HasTypes c.surroundings → (t : StmtTree) → statement_cases c t ≡ [] → Declares c (variable_count t) (variables_of (declaring c.surroundings) t)
  statement_declares c h (syntax.BlockOf b) none = block_declares c h b none
  statement_declares c h (syntax.Empty place) none = no_variable c.surroundings.context.program
  statement_declares c h (syntax.LocalOf l place) none = locals_declared c h l place none
  statement_declares c h (syntax.ExpressionOf e place) none = no_variable c.surroundings.context.program
  statement_declares c h (syntax.If e a b place) none =
      let s : Surroundings = declaring c.surroundings in
      let condition = required_cases c.surroundings e place in
      let then' = statement_cases c a in
      let otherwise = else_cases (else_context c a) b in
      both c.surroundings.context.program (variable_count a) (else_count b) (variables_of s a) (else_variables s b)
      (statement_declares c h a (nil_second condition then' otherwise none))
      (else_declares (else_context c a) h b (nil_right (condition ++ then') otherwise none))
  statement_declares c h (syntax.While e body place) none = statement_declares (in_a_loop c) h body (nil_right (required_cases c.surroundings e place) (statement_cases (in_a_loop c) body) none)
  statement_declares c h (syntax.DoWhile body e place) none = statement_declares (in_a_loop c) h body (nil_right (required_cases c.surroundings e place) (statement_cases (in_a_loop c) body) none)
  statement_declares c h (syntax.For start e updates body place) none =
      let d : Surroundings = declaring c.surroundings in
      let s : Surroundings = (behind_start c start place).surroundings in
      let first = start_cases c start place in
      let condition = optional_cases s e place in
      let steps = expressions_cases s updates in
      let inner = statement_cases (for_body_context c start place) body in
      both c.surroundings.context.program (start_count start) (variable_count body) (start_variables d start) (variables_of d body)
      (starts_declared c h start place (nil_first first condition steps (nil_left (first ++ condition ++ steps) inner none)))
      (statement_declares (for_body_context c start place) h body (nil_right (first ++ condition ++ steps) inner none))
  statement_declares c h (syntax.Try rs b cs last place) none =
      let p : Program = c.surroundings.context.program in
      let d : Surroundings = declaring c.surroundings in
      let f : Completion = finally_completion (finally_context c rs b cs) last in
      let of_finally = finally_cases (finally_context c rs b cs) last in
      let of_resources = resources_cases (resources_context c f cs) rs place in
      let of_block = block_cases (try_block_context c f rs cs) b in
      let of_catches = catches_cases (catches_context c f rs b) cs place in
      let front = nil_left (of_finally ++ of_resources ++ of_block) of_catches none in
      let resources = resources_declared (resources_context c f cs) h rs place (nil_second of_finally of_resources of_block front) in
      let block = block_declares (try_block_context c f rs cs) h b (nil_right (of_finally ++ of_resources) of_block front) in
      let catches = catches_declare (catches_context c f rs b) h cs place (nil_right (of_finally ++ of_resources ++ of_block) of_catches none) in
      let final = finally_declares (finally_context c rs b cs) h last (nil_first of_finally of_resources of_block front) in
      let r : List BodyVariable = resource_variables d rs in
      let x : List BodyVariable = block_variables d b in
      let y : List BodyVariable = catch_variables d cs in
      both p (length rs + block_count b + catches_count cs) (finally_count last) (r ++ x ++ y) (finally_variables d last)
      (both p (length rs + block_count b) (catches_count cs) (r ++ x) y (both p (length rs) (block_count b) r x resources block) catches)
      final
  statement_declares c h (syntax.Return e place) none = no_variable c.surroundings.context.program
  statement_declares c h (syntax.Throw e place) none = no_variable c.surroundings.context.program
  statement_declares c h (syntax.Break place) none = no_variable c.surroundings.context.program
  statement_declares c h (syntax.Continue place) none = no_variable c.surroundings.context.program

  pub block_declares : (c : StatementContext) → HasTypes c.surroundings → (b : BlockTree) → block_cases c b ≡ [] → Declares c (block_count b) (block_variables (declaring c.surroundings) b)
  block_declares c h (Braces ts place end) none = statements_declare c h ts none

  pub statements_declare : (c : StatementContext) → HasTypes c.surroundings → (ts : StmtTrees) → statements_cases c ts ≡ [] → Declares c (statements_count ts) (all_variables (declaring c.surroundings) ts)
  statements_declare c h no_statement none = no_variable c.surroundings.context.program
  statements_declare c h (and_statement t ts) none =
      let s : Surroundings = declaring c.surroundings in
      both c.surroundings.context.program (variable_count t) (statements_count ts) (variables_of s t) (all_variables s ts)
      (statement_declares c h t (nil_left (statement_cases c t) (statements_cases (after c t) ts) none))
      (statements_declare (after c t) h ts (nil_right (statement_cases c t) (statements_cases (after c t) ts) none))

  pub catches_declare : (c : StatementContext) → HasTypes c.surroundings → (cs : CatchTrees) (place : Pos) → catches_cases c cs place ≡ [] → Declares c (catches_count cs) (catch_variables (declaring c.surroundings) cs)
  catches_declare c h no_catch place none = no_variable c.surroundings.context.program
  catches_declare c h (and_catch modifiers names name b more) place none =
      let p : Program = c.surroundings.context.program in
      let d : Surroundings = declaring c.surroundings in
      let clause = clause_cases c names name place in
      let inner = block_cases (catch_context c modifiers names name) b in
      let rest = catches_cases (next_catch_context c b) more place in
      let k = parameter_typed c.surroundings h place names (nil_left (alternatives_cases c.surroundings place names) (double_cases place (locals_of c) name.text) (nil_first clause inner rest none)) in
      let own : List BodyVariable = catch_variable d modifiers names name in
      both p (1 + block_count b) (catches_count more) (own ++ block_variables d b) (catch_variables d more)
      (both p 1 (block_count b) own (block_variables d b) (one_variable p modifiers name (parameter_type c.surroundings names) k.vtype k.is k.declarable) (block_declares (catch_context c modifiers names name) h b (nil_second clause inner rest none)))
      (catches_declare (next_catch_context c b) h more place (nil_right (clause ++ inner) rest none))

  else_declares : (c : StatementContext) → HasTypes c.surroundings → (b : MaybeStmt) → else_cases c b ≡ [] → Declares c (else_count b) (else_variables (declaring c.surroundings) b)
  else_declares c h no_else none = no_variable c.surroundings.context.program
  else_declares c h (some_else t) none = statement_declares c h t none

  finally_declares : (c : StatementContext) → HasTypes c.surroundings → (b : MaybeBlock) → finally_cases c b ≡ [] → Declares c (finally_count b) (finally_variables (declaring c.surroundings) b)
  finally_declares c h no_finally none = no_variable c.surroundings.context.program
  finally_declares c h (some_finally b) none = block_declares c h b none
