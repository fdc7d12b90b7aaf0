-- Where nothing is refused in a statement, what is laid from it ends in no way but those that its typing says, and throws no checked
-- exception that is neither caught nor declared.
use Rattle.std.proofs.Common.{◌≡◌, ◌∙◌, ◌+◌, ◌++◌, ◌∷◌, [], ℕ, List, Bool, true, false, Option, Some, None, drop, map, slice_get, refl, sym, ap, subst, append_assoc}
use Rattle.std.specs.Prelude.{cond, filter, flat_map, not}
use Rattle.std.specs.Option.{is_some}
use Rattle.std.proofs.Math.Seq.{drop-append-add}
use Rattle.std.specs.List.{list_any}
use Rattle.rlc_base.specs.declared.place.Pos.{Pos}
use Rattle.program_model.specs.declared.kinds.ClassId.{ClassId}
use Rattle.program_model.specs.declared.kinds.ExprId.{ExprId}
use Rattle.program_model.specs.declared.kinds.StmtId.{StmtId}
use Rattle.program_model.specs.declared.kinds.VType.{VType}
use Rattle.program_model.specs.declared.program.Program.{Program}
use Rattle.program_model.specs.declared.tree.Body.{Body}
use Rattle.program_model.specs.Lookups.{optional, type_at}
use Rattle.java_syntax.specs.ExpressionTrees as syntax_of
use Rattle.java_syntax.specs.StatementTrees.{BlockTree, Braces, CatchTrees, MaybeBlock, MaybeStmt, StmtTree, StmtTrees, no_catch, and_catch, no_else, some_else, no_finally, some_finally, no_statement, and_statement}
use Rattle.java_syntax.specs.StatementTrees as syntax
use Rattle.java_typed_trees.specs.Answers.{type_of}
use Rattle.java_typed_trees.specs.Exceptions.{is_undeclared}
use Rattle.java_typed_trees.specs.ExpressionTrees.{ExprTree, expressions}
use Rattle.java_typed_trees.specs.StatementTrees.{StatementForm, statements}
use Rattle.java_typed_trees.specs.StatementTrees as forms
use Rattle.java_typed_trees.specs.WellFormed.{count}
use Rattle.java_typed_trees.specs.WellFormedStatements.{initial_count}
use Rattle.java_laying.specs.Cells.{Cell, cells_of}
use Rattle.java_laying.specs.Forest.{StandAt}
use Rattle.java_laying.specs.StatementCells.{StatementCell, statement_cells}
use Rattle.java_laying.specs.StatementForest.{StatementsStandAt, StatementStandsAt}
use Rattle.java_call_rules.specs.Surroundings.{Surroundings}
use Rattle.java_statement_rules.specs.declared.completion.Completion as rules
use Rattle.java_statement_rules.specs.Completions as rules_of
use Rattle.java_statement_rules.specs.Contexts.{StatementContext, covered_of, in_a_loop, program_of}
use Rattle.java_statement_rules.specs.StatementCases.{throw_cases}
use Rattle.java_statement_parts.specs.Cases.{value_cases}
use Rattle.java_statement_parts.specs.Clauses.{caught_by_all, clause_cases, swallowed}
use Rattle.java_statement_parts.specs.Declarations.{declaration_trees}
use Rattle.java_statement_parts.specs.Heads.{expression_trees, expressions_cases, goes_on, is_always, optional_cases, optional_tree, plain_tree, required_cases, returned, start_cases, start_form, start_trees, throwing_cases}
use Rattle.java_statement_parts.specs.Resources.{opening_trees, resource_shapes, resources_cases}
use Rattle.program_reading.specs.StatementCases.{block_cases, catches_cases, else_cases, finally_cases, statement_cases, statements_cases}
use Rattle.program_reading.specs.StatementCompletions.{block_completion, catches_completion, else_completion, finally_completion, statements_completion}
use Rattle.program_reading.specs.StatementCompletions as typed
use Rattle.program_reading.specs.StatementContexts.{after, behind_start, catch_context, catches_context, else_context, finally_context, for_body_context, next_catch_context, resources_context, try_block_context}
use Rattle.program_reading.specs.StatementTrees.{block_tree, catch_forms, catch_trees, else_tree, finally_tree, has_else, has_finally, statement_tree, statement_trees}
use Rattle.java_statement_parts.specs.Typings.{tree, value_facts}
use Rattle.program_reading.proofs.Goodness.{nil_first, nil_left, nil_right, nil_second}
use Rattle.program_reading.proofs.StatementHeadLaws.{start_count}
use Rattle.accepted_programs.specs.Completions.{Completion, completion, in_sequence, is_true_literal, one_among, one_of}
use Rattle.accepted_programs.specs.Exceptions.{class_of_type, expression_exceptions, let_through, statement_exceptions}
use Rattle.accepted_programs.specs.TreeOrder.{PartsComeFirst}
use Rattle.accepted_programs.proofs.Lists.{None', join}
use Rattle.acceptance_laws.proofs.CaughtClasses.{caught_is, past_clauses}
use Rattle.acceptance_laws.proofs.ExpressionExceptions.{needed_quiet, undeclared_in, value_quiet}
use Rattle.acceptance_laws.proofs.Forms.{behind_clauses, clause_blocks, first_always, first_completion, first_goes_on, form_before_finally, form_caught, form_completion, form_own, form_protected, form_thrown}
use Rattle.acceptance_laws.proofs.HeadExceptions.{AreQuiet, all_quiet, closing_quiet, declaration_quiet, openings_quiet, optional_quiet, quiet_both, quiet_one, required_quiet, returned_quiet, start_quiet, throw_none}
use Rattle.acceptance_laws.proofs.Standing.{standing_completion, standing_exceptions}
use Rattle.acceptance_laws.proofs.TableExceptions.{SameThrows, literal_same, trees_same, type_same}
use Rattle.acceptance_laws.proofs.TreeTypes.{always_true, tree_type}
use Rattle.acceptance_laws.proofs.Within.{IsWithin, false_is_true, within_abrupt, within_and_then, within_breaking, within_continuing, within_do, within_loop, within_normal, within_one_of}

module _ (q : Program) (x : Body) (order : PartsComeFirst x) where
  abbrev pub own : List StatementCell
  own = statement_cells x.statements.items

  abbrev pub values : List Cell
  values = cells_of x.expressions.items

  abbrev ends : StmtId → Completion
  ends = completion x

  abbrev pub thrown : StmtId → List ClassId
  thrown = statement_exceptions q x

  abbrev pub of_value : ExprId → List ClassId
  of_value = expression_exceptions q x

  abbrev always : ExprId → Bool
  always = is_true_literal x

  abbrev pub Quiet : StatementContext → List ClassId → Type 0
  Quiet c cs = None' (undeclared_in c.surroundings) cs

  -- the program of the tables throws as that of the context
  abbrev pub Same : StatementContext → Type 0
  Same c = SameThrows q (program_of c)

  -- the statement ends as its typing says, and throws nothing that is undeclared in the context
  pub record IsGood (c : StatementContext) (s : StmtId) (k : rules.Completion) : Type 0 where
    pub ends : IsWithin (completion x s) k
    pub quiet : Quiet c (statement_exceptions q x s)

  -- those of a list, one after the other
  pub record AreGood (c : StatementContext) (ss : List StmtId) (k : rules.Completion) : Type 0 where
    pub ends : IsWithin (in_sequence (map (completion x) ss)) k
    pub quiet : Quiet c (flat_map (statement_exceptions q x) ss)

  -- the blocks of clauses, of which one is run
  pub record AreGoodBlocks (c : StatementContext) (ss : List StmtId) (k : rules.Completion) : Type 0 where
    pub ends : IsWithin (one_among (map (completion x) ss)) k
    pub quiet : Quiet c (flat_map (statement_exceptions q x) ss)

  -- one that may be absent
  pub record IsGoodIfThere (c : StatementContext) (ss : List StmtId) (k : rules.Completion) : Type 0 where
    pub ends : IsWithin (first_completion (completion x) ss) k
    pub quiet : Quiet c (flat_map (statement_exceptions q x) ss)

  abbrev cell : StatementForm → Pos → List ExprId → List StmtId → StatementCell
  cell form place es ss = record { form = form; pos = place; expressions = es; statements = ss }

  abbrev IsAt : StmtId → StatementForm → Pos → List ExprId → List StmtId → Type 0
  IsAt s form place es ss = slice_get own s.0 ≡ Some (cell form place es ss)

  -- ---- by the form and the parts

  pub good_by : (c : StatementContext) (s : StmtId) (form : StatementForm) (place : Pos) (es : List ExprId) (ss : List StmtId) (k : rules.Completion) → IsAt s form place es ss → IsWithin (form_completion form always ends es ss) k → Quiet c (form_thrown q x form of_value thrown ends es ss) → IsGood c s k
  good_by c s form place es ss k here within quiet = record {
    ends = subst (λ (z : Completion). IsWithin z k) (sym (standing_completion q x order s form place es ss here)) within;
    quiet = ap (list_any (undeclared_in c.surroundings)) (standing_exceptions q x order s form place es ss here) ∙ quiet;
  }

  -- what the expressions of a statement throw
  pub values_quiet : (c : StatementContext) → Same c → (es : List ExprId) (ts : List ExprTree) → StandAt values es (expressions ts) → AreQuiet c.surroundings ts → Quiet c (flat_map of_value es)
  values_quiet c same es ts stand quiet = ap (list_any (undeclared_in c.surroundings)) (trees_same q (program_of c) same x order es (expressions ts) stand) ∙ quiet

  pub all_parts : (c : StatementContext) (mine of_values of_statements : List ClassId) → Quiet c mine → Quiet c of_values → Quiet c of_statements → Quiet c (mine ++ of_values ++ of_statements)
  all_parts c mine of_values of_statements h g k = join (undeclared_in c.surroundings) (mine ++ of_values) of_statements (join (undeclared_in c.surroundings) mine of_values h g) k

  pub none_there : (c : StatementContext) (ss : List StmtId) → ss ≡ [] → Quiet c (flat_map thrown ss)
  none_there c ss is = ap (λ (zs : List StmtId). list_any (undeclared_in c.surroundings) (flat_map thrown zs)) is

  one_there : (c : StatementContext) (s : StmtId) (more : List StmtId) → more ≡ [] → Quiet c (thrown s) → Quiet c (flat_map thrown (s ∷ more))
  one_there c s more is quiet = join (undeclared_in c.surroundings) (thrown s) (flat_map thrown more) quiet (none_there c more is)

  -- the condition of a loop
  always_first : (s : Surroundings) (e : syntax_of.ExprTree) (es : List ExprId) → StandAt values es (expressions (plain_tree s e)) → is_always s e ≡ true → first_always always es ≡ true
  always_first s e es (first, more, is, one, rest) h = ap (first_always always) is ∙ literal_same x first (tree s None e) one ∙ always_true s e h

  behind_trees : (ts us : List ExprTree) (es : List ExprId) → StandAt values es (expressions (ts ++ us)) → StandAt values (drop (count (expressions ts)) es) (expressions us)
  behind_trees [] us es stand = stand
  behind_trees (t ∷ ts) us es (first, more, is, one, rest) = subst (λ (zs : List ExprId). StandAt values (drop (count (expressions (t ∷ ts))) zs) (expressions us)) (sym is) (subst (λ (zs : List ExprId). StandAt values zs (expressions us)) (one_less (count (expressions ts)) first more) (behind_trees ts us more rest))
    where
      one_less : (n : ℕ) (e : ExprId) (zs : List ExprId) → drop n zs ≡ drop (1 + n) (e ∷ zs)
      one_less n e zs = sym (drop-append-add (e ∷ []) zs n)

  goes_on_first : (s : Surroundings) (e : Option syntax_of.ExprTree) (us : List ExprTree) (es : List ExprId) → StandAt values es (expressions (optional_tree s e ++ us)) → goes_on s e ≡ true → first_goes_on always (is_some e) es ≡ true
  goes_on_first s None us es stand h = refl
  goes_on_first s (Some e) us es (first, more, is, one, rest) h = ap (first_goes_on always true) is ∙ literal_same x first (tree s None e) one ∙ always_true s e h

  -- ---- the parts of `try`

  -- the blocks of the clauses, and what stands behind them
  record AreApart (c : StatementContext) (cs : CatchTrees) (us : List forms.StmtTree) (ss : List StmtId) : Type 0 where
    blocks : StatementsStandAt own values (clause_blocks (catch_forms c cs) ss) (statements (catch_trees c cs))
    rest : StatementsStandAt own values (behind_clauses (catch_forms c cs) ss) (statements us)

  apart : (c : StatementContext) (cs : CatchTrees) (us : List forms.StmtTree) (ss : List StmtId) → StatementsStandAt own values ss (statements (catch_trees c cs ++ us)) → AreApart c cs us ss
  apart c no_catch us ss stand = record { blocks = refl; rest = stand }
  apart c (and_catch modifiers names name b more) us ss (first, behind', is, one, stand) =
      let later = apart (next_catch_context c b) more us behind' stand in
      subst (AreApart c (and_catch modifiers names name b more) us) (sym is) (record { blocks = (first, clause_blocks (catch_forms (next_catch_context c b) more) behind', refl, one, later.blocks); rest = later.rest })

  -- a `finally` that cannot complete normally lets nothing through
  through : (c : StatementContext) (typed_last : Bool) (last : Completion) → (last.completes ≡ true → typed_last ≡ true) → (cs : List ClassId) → None' (λ k. is_undeclared (program_of c) (swallowed (program_of c) typed_last ++ covered_of c) k) cs → Quiet c (let_through last cs)
  through c true last within cs h = step last.completes
    where
      step : (b : Bool) → Quiet c (cond b cs [])
      step true = h
      step false = refl
  through c false last within cs h = step last.completes refl
    where
      step : (b : Bool) → last.completes ≡ b → Quiet c (cond b cs [])
      step true is = false_is_true (within is)
      step false is = refl

  -- ---- `throw`

  class_same : (p : Program) → SameThrows q p → (o : Option VType) → class_of_type q o ≡ class_of_type p o
  class_same p same None = refl
  class_same p same (Some t) = same.types t

  throw_good : (c : StatementContext) → Same c → (e : syntax_of.ExprTree) (place : Pos) (s : StmtId) (es : List ExprId) (ss : List StmtId) → IsAt s forms.Throw place es ss → StandAt values es (expressions (plain_tree c.surroundings e)) → ss ≡ [] → throwing_cases c.surroundings e place ≡ [] → IsGood c s rules_of.abrupt
  throw_good c same e place s es ss here (first, more, is, one, rest) inner none =
      let t = tree c.surroundings None e in
      let value = value_cases c.surroundings None e in
      let throwing = throw_cases (program_of c) (covered_of c) place (value_facts c.surroundings None e) in
      let stand : StandAt values es (expressions (t ∷ [])) = (first, more, is, one, rest) in
      let class_is : class_of_type q (type_at x first) ≡ class_of_type (program_of c) (type_of (value_facts c.surroundings None e)) = ap (class_of_type q) (type_same x first t one ∙ tree_type c.surroundings None e) ∙ class_same (program_of c) same (type_of (value_facts c.surroundings None e)) in
      let mine : Quiet c (form_own q x forms.Throw es) =
      ap (λ (zs : List ExprId). list_any (undeclared_in c.surroundings) (form_own q x forms.Throw zs)) is
      ∙ ap (λ (o : Option ClassId). list_any (undeclared_in c.surroundings) (optional o)) class_is
      ∙ throw_none (program_of c) (covered_of c) place (type_of (value_facts c.surroundings None e)) (nil_right value throwing none) in
      good_by c s forms.Throw place es ss rules_of.abrupt here within_abrupt
      (all_parts c (form_own q x forms.Throw es) (flat_map of_value es) (flat_map thrown ss) mine (values_quiet c same es (t ∷ []) stand (quiet_one c.surroundings t (needed_quiet c.surroundings None e (nil_left value throwing none)))) (none_there c ss inner))

  -- ---- all statements

  mutual
    statement_good : (c : StatementContext) → Same c → (t : StmtTree) (s : StmtId) → StatementStandsAt own values s (statement_tree c t) → statement_cases c t ≡ [] → IsGood c s (typed.completion c t)
    statement_good c same (syntax.BlockOf b) s stand none = block_good c same b s stand none
    statement_good c same (syntax.Empty place) s (es, ss, here, stand, inner) none =
        good_by c s forms.Empty place es ss rules_of.normal here within_normal (all_parts c [] (flat_map of_value es) (flat_map thrown ss) refl (values_quiet c same es [] stand refl) (none_there c ss inner))
    statement_good c same (syntax.LocalOf l place) s (es, ss, here, stand, inner) none =
        good_by c s _ place es ss rules_of.normal here within_normal (all_parts c [] (flat_map of_value es) (flat_map thrown ss) refl (values_quiet c same es (declaration_trees c l place) stand (declaration_quiet c l place none)) (none_there c ss inner))
    statement_good c same (syntax.ExpressionOf e place) s (es, ss, here, stand, inner) none =
        good_by c s forms.Expression place es ss rules_of.normal here within_normal (all_parts c [] (flat_map of_value es) (flat_map thrown ss) refl (values_quiet c same es (plain_tree c.surroundings e) stand (quiet_one c.surroundings (tree c.surroundings None e) (value_quiet c.surroundings None e none))) (none_there c ss inner))
    statement_good c same (syntax.If e a b place) s (es, ss, here, stand, (first, more, is, one, rest)) none =
        let condition = required_cases c.surroundings e place in
        let then' = statement_cases c a in
        let otherwise = else_cases (else_context c a) b in
        let x = statement_good c same a first one (nil_second condition then' otherwise none) in
        let y = else_good (else_context c a) same b more rest (nil_right (condition ++ then') otherwise none) in
        let here' = subst (λ (zs : List StmtId). IsAt s (forms.If (has_else b)) place es zs) is here in
        good_by c s _ place es (first ∷ more) _ here' (within_one_of (ends first) (first_completion ends more) (typed.completion c a) (else_completion (else_context c a) b) x.ends y.ends)
        (all_parts c [] (flat_map of_value es) (flat_map thrown (first ∷ more)) refl (values_quiet c same es (plain_tree c.surroundings e) stand (required_quiet c.surroundings e place (nil_first condition then' otherwise none))) (join (undeclared_in c.surroundings) (thrown first) (flat_map thrown more) x.quiet y.quiet))
    statement_good c same (syntax.While e body place) s (es, ss, here, stand, (first, more, is, one, rest)) none =
        let condition = required_cases c.surroundings e place in
        let inner = statement_cases (in_a_loop c) body in
        let x = statement_good (in_a_loop c) same body first one (nil_right condition inner none) in
        let here' = subst (λ (zs : List StmtId). IsAt s forms.While place es zs) is here in
        good_by c s forms.While place es (first ∷ more) _ here' (within_loop (first_always always es) (is_always c.surroundings e) (ends first) (typed.completion (in_a_loop c) body) (always_first c.surroundings e es stand) x.ends)
        (all_parts c [] (flat_map of_value es) (flat_map thrown (first ∷ more)) refl (values_quiet c same es (plain_tree c.surroundings e) stand (required_quiet c.surroundings e place (nil_left condition inner none))) (one_there c first more rest x.quiet))
    statement_good c same (syntax.DoWhile body e place) s (es, ss, here, stand, (first, more, is, one, rest)) none =
        let condition = required_cases c.surroundings e place in
        let inner = statement_cases (in_a_loop c) body in
        let x = statement_good (in_a_loop c) same body first one (nil_right condition inner none) in
        let here' = subst (λ (zs : List StmtId). IsAt s forms.Do place es zs) is here in
        good_by c s forms.Do place es (first ∷ more) _ here' (within_do (first_always always es) (is_always c.surroundings e) (ends first) (typed.completion (in_a_loop c) body) (always_first c.surroundings e es stand) x.ends)
        (all_parts c [] (flat_map of_value es) (flat_map thrown (first ∷ more)) refl (values_quiet c same es (plain_tree c.surroundings e) stand (required_quiet c.surroundings e place (nil_left condition inner none))) (one_there c first more rest x.quiet))
    statement_good c same (syntax.For start e updates body place) s (es, ss, here, stand, (first, more, is, one, rest)) none =
        let in' : Surroundings = (behind_start c start place).surroundings in
        let first_part = start_cases c start place in
        let condition = optional_cases in' e place in
        let steps = expressions_cases in' updates in
        let inner = statement_cases (for_body_context c start place) body in
        let heads = nil_left (first_part ++ condition ++ steps) inner none in
        let fronts = nil_left (first_part ++ condition) steps heads in
        let ts = start_trees c start place in
        let us = optional_tree in' e in
        let vs = expression_trees in' updates in
        let x = statement_good (for_body_context c start place) same body first one (nil_right (first_part ++ condition ++ steps) inner none) in
        let here' = subst (λ (zs : List StmtId). IsAt s (forms.For (start_form c.next_variable start) (is_some e)) place es zs) is here in
        let apart' = subst (λ (zs : List ExprTree). StandAt values es (expressions zs)) (append_assoc ts us vs) stand in
        let behind' = subst (λ n. StandAt values (drop n es) (expressions (us ++ vs))) (start_count c.next_variable c start place) (behind_trees ts (us ++ vs) es apart') in
        let quiet = quiet_both c.surroundings (ts ++ us) vs (quiet_both c.surroundings ts us (start_quiet c start place (nil_left first_part condition fronts)) (optional_quiet in' e place (nil_right first_part condition fronts))) (all_quiet in' updates (nil_right (first_part ++ condition) steps heads)) in
        good_by c s _ place es (first ∷ more) _ here'
        (within_loop (first_goes_on always (is_some e) (drop (initial_count (start_form c.next_variable start)) es)) (goes_on in' e) (ends first) (typed.completion (for_body_context c start place) body) (goes_on_first in' e vs (drop (initial_count (start_form c.next_variable start)) es) behind') x.ends)
        (all_parts c [] (flat_map of_value es) (flat_map thrown (first ∷ more)) refl (values_quiet c same es (ts ++ us ++ vs) stand quiet) (one_there c first more rest x.quiet))
    statement_good c same (syntax.Try rs b cs last place) s (es, ss, here, stand, (first, more, is, one, rest)) none =
        let f : rules.Completion = finally_completion (finally_context c rs b cs) last in
        let d : StatementContext = resources_context c f cs in
        let within : StatementContext = catches_context c f rs b in
        let of_finally = finally_cases (finally_context c rs b cs) last in
        let of_resources = resources_cases d rs place in
        let of_block = block_cases (try_block_context c f rs cs) b in
        let of_catches = catches_cases within cs place in
        let front = nil_left (of_finally ++ of_resources ++ of_block) of_catches none in
        let none_resources = nil_second of_finally of_resources of_block front in
        let none_catches = nil_right (of_finally ++ of_resources ++ of_block) of_catches none in
        let parts = apart within cs (finally_tree (finally_context c rs b cs) last) more rest in
        let block = block_good (try_block_context c f rs cs) same b first one (nil_right (of_finally ++ of_resources) of_block front) in
        let clauses = catches_good within same cs place (clause_blocks (catch_forms within cs) more) parts.blocks none_catches in
        let end = finally_good (finally_context c rs b cs) same last (behind_clauses (catch_forms within cs) more) parts.rest (nil_first of_finally of_resources of_block front) in
        let here' = subst (λ (zs : List StmtId). IsAt s (forms.Try (resource_shapes d rs) (catch_forms within cs) (has_finally last)) place es zs) is here in
        let opened : Quiet d (flat_map of_value es) = values_quiet d same es (opening_trees d rs) stand (openings_quiet d rs place none_resources) in
        let closed = closing_quiet q d same rs place none_resources in
        let protected : Quiet d (form_protected q (resource_shapes d rs) of_value thrown es (first ∷ more)) = all_parts d (flat_map of_value es) _ (thrown first) opened closed block.quiet in
        let past : Quiet within (filter (λ k. not (form_caught q (catch_forms within cs) k)) (form_protected q (resource_shapes d rs) of_value thrown es (first ∷ more))) =
        past_clauses (program_of c) (caught_by_all c.surroundings cs) (swallowed (program_of c) f.completes ++ covered_of c) (form_caught q (catch_forms within cs)) (λ k. (λ i. list_any (λ z. sym (same.under k z) i) (caught_by_all c.surroundings cs)) ∙ caught_is q c.surroundings within (λ names. refl) cs place none_catches k) _ protected in
        let before : Quiet within (form_before_finally q (resource_shapes d rs) (catch_forms within cs) of_value thrown es (first ∷ more)) = join (undeclared_in within.surroundings) _ (flat_map thrown (clause_blocks (catch_forms within cs) more)) past clauses.quiet in
        good_by c s _ place es (first ∷ more) _ here'
        (within_and_then (first_completion ends (behind_clauses (catch_forms within cs) more)) (one_of (ends first) (one_among (map ends (clause_blocks (catch_forms within cs) more)))) f (rules_of.one_of (block_completion (try_block_context c f rs cs) b) (catches_completion within cs)) end.ends
        (within_one_of (ends first) (one_among (map ends (clause_blocks (catch_forms within cs) more))) (block_completion (try_block_context c f rs cs) b) (catches_completion within cs) block.ends clauses.ends))
        (join (undeclared_in c.surroundings) (let_through (first_completion ends (behind_clauses (catch_forms within cs) more)) _) (flat_map thrown (behind_clauses (catch_forms within cs) more)) (through c f.completes (first_completion ends (behind_clauses (catch_forms within cs) more)) end.ends.completes _ before) end.quiet)
    statement_good c same (syntax.Return e place) s (es, ss, here, stand, inner) none =
        good_by c s _ place es ss rules_of.abrupt here within_abrupt (all_parts c [] (flat_map of_value es) (flat_map thrown ss) refl (values_quiet c same es (returned c.surroundings c.result e) stand (returned_quiet c.surroundings c.result e place none)) (none_there c ss inner))
    statement_good c same (syntax.Throw e place) s (es, ss, here, stand, inner) none = throw_good c same e place s es ss here stand inner none
    statement_good c same (syntax.Break place) s (es, ss, here, stand, inner) none =
        good_by c s forms.Break place es ss rules_of.breaking here within_breaking (all_parts c [] (flat_map of_value es) (flat_map thrown ss) refl (values_quiet c same es [] stand refl) (none_there c ss inner))
    statement_good c same (syntax.Continue place) s (es, ss, here, stand, inner) none =
        good_by c s forms.Continue place es ss rules_of.continuing here within_continuing (all_parts c [] (flat_map of_value es) (flat_map thrown ss) refl (values_quiet c same es [] stand refl) (none_there c ss inner))

    block_good : (c : StatementContext) → Same c → (b : BlockTree) (s : StmtId) → StatementStandsAt own values s (block_tree c b) → block_cases c b ≡ [] → IsGood c s (block_completion c b)
    block_good c same (Braces ts place end) s (es, ss, here, stand, inner) none =
        let all = statements_good c same ts ss inner none in
        good_by c s (forms.Block end) place es ss (statements_completion c ts) here all.ends (all_parts c [] (flat_map of_value es) (flat_map thrown ss) refl (values_quiet c same es [] stand refl) all.quiet)

    pub statements_good : (c : StatementContext) → Same c → (ts : StmtTrees) (ss : List StmtId) → StatementsStandAt own values ss (statements (statement_trees c ts)) → statements_cases c ts ≡ [] → AreGood c ss (statements_completion c ts)
    statements_good c same no_statement ss stand none = subst (λ (zs : List StmtId). AreGood c zs rules_of.normal) (sym stand) (record { ends = within_normal; quiet = refl })
    statements_good c same (and_statement t ts) ss (first, more, is, one, rest) none =
        let x = statement_good c same t first one (nil_left (statement_cases c t) (statements_cases (after c t) ts) none) in
        let xs = statements_good (after c t) same ts more rest (nil_right (statement_cases c t) (statements_cases (after c t) ts) none) in
        subst (λ (zs : List StmtId). AreGood c zs (statements_completion c (and_statement t ts))) (sym is) (record {
          ends = within_and_then (ends first) (in_sequence (map ends more)) (typed.completion c t) (statements_completion (after c t) ts) x.ends xs.ends;
          quiet = join (undeclared_in c.surroundings) (thrown first) (flat_map thrown more) x.quiet xs.quiet;
        })

    catches_good : (c : StatementContext) → Same c → (cs : CatchTrees) (place : Pos) (ss : List StmtId) → StatementsStandAt own values ss (statements (catch_trees c cs)) → catches_cases c cs place ≡ [] → AreGoodBlocks c ss (catches_completion c cs)
    catches_good c same no_catch place ss stand none = subst (λ (zs : List StmtId). AreGoodBlocks c zs rules_of.abrupt) (sym stand) (record { ends = within_abrupt; quiet = refl })
    catches_good c same (and_catch modifiers names name b more) place ss (first, behind', is, one, rest) none =
        let clause = clause_cases c names name place in
        let inner = block_cases (catch_context c modifiers names name) b in
        let later = catches_cases (next_catch_context c b) more place in
        let x = block_good (catch_context c modifiers names name) same b first one (nil_second clause inner later none) in
        let xs = catches_good (next_catch_context c b) same more place behind' rest (nil_right (clause ++ inner) later none) in
        subst (λ (zs : List StmtId). AreGoodBlocks c zs (catches_completion c (and_catch modifiers names name b more))) (sym is) (record {
          ends = within_one_of (ends first) (one_among (map ends behind')) (block_completion (catch_context c modifiers names name) b) (catches_completion (next_catch_context c b) more) x.ends xs.ends;
          quiet = join (undeclared_in c.surroundings) (thrown first) (flat_map thrown behind') x.quiet xs.quiet;
        })

    else_good : (c : StatementContext) → Same c → (b : MaybeStmt) (ss : List StmtId) → StatementsStandAt own values ss (statements (else_tree c b)) → else_cases c b ≡ [] → IsGoodIfThere c ss (else_completion c b)
    else_good c same no_else ss stand none = subst (λ (zs : List StmtId). IsGoodIfThere c zs rules_of.normal) (sym stand) (record { ends = within_normal; quiet = refl })
    else_good c same (some_else t) ss (first, more, is, one, rest) none =
        let x = statement_good c same t first one none in
        subst (λ (zs : List StmtId). IsGoodIfThere c zs (typed.completion c t)) (sym is) (record { ends = x.ends; quiet = one_there c first more rest x.quiet })

    finally_good : (c : StatementContext) → Same c → (b : MaybeBlock) (ss : List StmtId) → StatementsStandAt own values ss (statements (finally_tree c b)) → finally_cases c b ≡ [] → IsGoodIfThere c ss (finally_completion c b)
    finally_good c same no_finally ss stand none = subst (λ (zs : List StmtId). IsGoodIfThere c zs rules_of.normal) (sym stand) (record { ends = within_normal; quiet = refl })
    finally_good c same (some_finally b) ss (first, more, is, one, rest) none =
        let x = block_good c same b first one none in
        subst (λ (zs : List StmtId). IsGoodIfThere c zs (block_completion c b)) (sym is) (record { ends = x.ends; quiet = one_there c first more rest x.quiet })
