-- What statements become, none of which is a super call: behind the call of the super constructor.
use Rattle.std.proofs.Common.{◌≡◌, ℕ, Bool, false, Option, Some, None, List, [], ◌∷◌, ◌++◌, map, reverse, flat_map, refl, sym, ◌∙◌, true≢false}
use Rattle.std.specs.List.{AllByRecursion}
use Rattle.program_model.specs.declared.kinds.ExprId.{ExprId}
use Rattle.program_model.specs.declared.kinds.StmtId.{StmtId}
use Rattle.program_model.specs.declared.tree.Body.{Body}
use Rattle.program_model.specs.declared.tree.CatchClause.{CatchClause}
use Rattle.program_model.specs.declared.tree.Declarator.{Declarator}
use Rattle.program_model.specs.declared.tree.ForInitial.{ForInitial}
use Rattle.program_model.specs.declared.tree.ForInitial.TheVariants as initials
use Rattle.program_model.specs.declared.tree.Resource.{Resource}
use Rattle.program_model.specs.declared.tree.StatementKind.{StatementKind}
use Rattle.program_model.specs.declared.tree.StatementKind.TheVariants as statements
use Rattle.program_model.specs.declared.tree.TStmt.{TStmt}
use Rattle.program_model.specs.declared.tree.TryStatement.{TryStatement}
use Rattle.program_model.specs.Heads.{is_head, is_head_kind, is_in, is_super_call, is_super_call_kind}
use Rattle.program_model.specs.Lookups.{optional, statement_at}
use Rattle.program_model.specs.Trees.{statements_in}
use Rattle.rlc_base.specs.declared.place.Pos.{Pos}
use Rattle.java_control.specs.Remaining.{Do, Leave, For}
use Rattle.java_control.specs.Exceptions.{clauses_of_kind}
use Rattle.java_control.specs.Statements.{clauses_front, closes, declaration_front, declarator_front, declarator_with, finally_front, for_condition, for_turn, head_front, initial_front, list_of_branch, loop_turn, opens, resources_front, return_front, statement_front, try_front}
use Rattle.control_actions.specs.declared.action.Scope.TheVariants as scopes
use Rattle.step_laws.proofs.StartItems.{AllGood, AreGood, IsFree, IsFreeCondition, good_both, good_flat}

-- ---- no head, and so no super call

no_super_kind : (k : StatementKind) → is_head_kind k ≡ false → is_super_call_kind k ≡ false
no_super_kind (statements.SuperCall c) headless = absurd (true≢false headless)
no_super_kind k headless = refl

no_super_in : (x : Option TStmt) → is_in is_head_kind x ≡ false → is_in is_super_call_kind x ≡ false
no_super_in None headless = refl
no_super_in (Some x) headless = no_super_kind x.kind headless

no_super : (b : Body) (s : StmtId) → is_head b s ≡ false → is_super_call b s ≡ false
no_super b s headless = no_super_in (statement_at b s) headless

abbrev pub HaveNoHead : Body → List StmtId → Type 0
HaveNoHead b ss = AllByRecursion (λ s. is_head b s ≡ false) ss

first_of_both : (b : Body) (xs ys : List StmtId) → HaveNoHead b (xs ++ ys) → HaveNoHead b xs
first_of_both b [] ys all = tt
first_of_both b (x ∷ xs) ys all = (all.0, first_of_both b xs ys all.1)

second_of_both : (b : Body) (xs ys : List StmtId) → HaveNoHead b (xs ++ ys) → HaveNoHead b ys
second_of_both b [] ys all = all
second_of_both b (x ∷ xs) ys all = second_of_both b xs ys all.1

-- the blocks of catch clauses are no super calls
abbrev pub HavePlainBlocks : Body → List CatchClause → Type 0
HavePlainBlocks b cs = AllByRecursion (λ c. is_super_call b c.block ≡ false) cs

plain_blocks : (b : Body) (cs : List CatchClause) → HaveNoHead b (map (λ c. c.block) cs) → HavePlainBlocks b cs
plain_blocks b [] all = tt
plain_blocks b (c ∷ cs) all = (no_super b c.block all.0, plain_blocks b cs all.1)

pub clauses_plain : (b : Body) (k : StatementKind) → HaveNoHead b (statements_in k) → HavePlainBlocks b (clauses_of_kind k)
clauses_plain b (statements.Block ss end) all = tt
clauses_plain b (statements.Try t) all = plain_blocks b t.catches.items (first_of_both b (map (λ c. c.block) t.catches.items) (optional t.finally) all.1)
clauses_plain b k all = tt

module _ (b : Body) (early : Bool) (late : early ≡ false) where
  freely : (e : ExprId) → IsFree early b e
  freely e is = absurd (true≢false (sym is ∙ late))

  good_declarator : (d : ℕ) (x : Declarator) → AllGood early b (declarator_front b d x)
  good_declarator d x = go x.initializer
    where
      go : (e : Option ExprId) → AllGood early b (declarator_with b x.variable e d x.pos)
      go None = (tt, tt)
      go (Some e) = (freely e, (tt, tt))

  good_declaration : (d : ℕ) (names : List Declarator) → AllGood early b (declaration_front b d names)
  good_declaration d names = good_flat early b (declarator_front b d) (good_declarator d) names

  good_head : (d : ℕ) (es : List ExprId) → AllGood early b (head_front b d es)
  good_head d [] = tt
  good_head d (e ∷ es) = (freely e, (tt, good_head d es))

  good_initial : (d : ℕ) (x : ForInitial) → AllGood early b (initial_front b d x)
  good_initial d (initials.Declaration names) = good_declaration d names.items
  good_initial d (initials.Expressions es) = good_head d es.items

  good_opens : (d : ℕ) (r : Resource) → AllGood early b (opens d r)
  good_opens d r = (freely r.initializer, (tt, tt))

  good_closes : (s : StmtId) (d : ℕ) (r : Resource) → AllGood early b (closes s d r)
  good_closes s d r = (tt, (tt, tt))

  good_resources : (s : StmtId) (t : TryStatement) (d : ℕ) → is_super_call b t.block ≡ false → AllGood early b (resources_front s t d)
  good_resources s t d headless =
      good_both early b (flat_map (opens d) t.resources.items) (Do t.block d ∷ flat_map (closes s d) (reverse t.resources.items)) (good_flat early b (opens d) (good_opens d) t.resources.items)
      ((late, headless), good_flat early b (closes s d) (good_closes s d) (reverse t.resources.items))

  good_clauses : (s : StmtId) (cs : List CatchClause) (d : ℕ) → AllGood early b (clauses_front s cs d)
  good_clauses s [] d = tt
  good_clauses s (c ∷ cs) d = (late, tt)

  good_finally : (f : Option StmtId) (d : ℕ) → HaveNoHead b (optional f) → AllGood early b (finally_front f d)
  good_finally None d headless = tt
  good_finally (Some f) d headless = ((late, no_super b f headless.0), tt)

  good_try : (s : StmtId) (t : TryStatement) (d : ℕ) → HaveNoHead b (statements_in (statements.Try t)) → AllGood early b (try_front s t d)
  good_try s t d headless =
      good_both early b (resources_front s t d ++ clauses_front s t.catches.items d) (finally_front t.finally d)
      (good_both early b (resources_front s t d) (clauses_front s t.catches.items d) (good_resources s t d (no_super b t.block headless.0)) (good_clauses s t.catches.items d))
      (good_finally t.finally d (second_of_both b (map (λ c. c.block) t.catches.items) (optional t.finally) headless.1))

  good_dos : (d : ℕ) (ss : List StmtId) → HaveNoHead b ss → AllGood early b (map (λ x. Do x d) ss)
  good_dos d [] headless = tt
  good_dos d (s ∷ ss) headless = ((late, no_super b s headless.0), good_dos d ss headless.1)

  good_branch : (y : Option StmtId) (d : ℕ) → HaveNoHead b (optional y) → AreGood early b (list_of_branch y d)
  good_branch None d headless = tt
  good_branch (Some s) d headless = ((late, no_super b s headless.0), tt)

  good_return : (e : Option ExprId) (d : ℕ) (pos : Pos) → AllGood early b (return_front e d pos)
  good_return None d pos = (tt, tt)
  good_return (Some e) d pos = (freely e, (tt, tt))

  pub good_statement : (k : StatementKind) (s : StmtId) (d : ℕ) (pos : Pos) → is_super_call_kind k ≡ false → HaveNoHead b (statements_in k) → AllGood early b (statement_front k b s d pos)
  good_statement (statements.Block ss end) s d pos other headless = good_both early b (map (λ x. Do x d) ss.items) (Leave (scopes.Declared s) pos ∷ []) (good_dos d ss.items headless) (tt, tt)
  good_statement statements.Empty s d pos other headless = tt
  good_statement (statements.LocalDeclaration names) s d pos other headless = good_declaration d names.items
  good_statement (statements.Expression e) s d pos other headless = (freely e, (tt, tt))
  good_statement (statements.If c x y) s d pos other headless = ((freely c, ((late, no_super b x headless.0), tt), good_branch y d headless.1), tt)
  good_statement (statements.While c x) s d pos other headless = ((freely c, ((late, no_super b x headless.0), (late, tt)), tt), tt)
  good_statement (statements.Do x c) s d pos other headless = ((late, no_super b x headless.0), (late, tt))
  good_statement (statements.For l) s d pos other headless =
      good_both early b (initial_front b d l.initial) (For s d ∷ Leave (scopes.Declared s) pos ∷ []) (good_initial d l.initial) (late, (tt, tt))
  good_statement (statements.Return e) s d pos other headless = good_return e d pos
  good_statement (statements.Throw e) s d pos other headless = (freely e, (tt, tt))
  good_statement statements.Break s d pos other headless = (tt, tt)
  good_statement statements.Continue s d pos other headless = (tt, tt)
  good_statement (statements.Try t) s d pos other headless = good_try s t d headless
  good_statement (statements.SuperCall c) s d pos other headless = absurd (true≢false other)
  good_statement (statements.FieldInitializer e) s d pos other headless = (freely e, (tt, tt))

  free_condition : (e : Option ExprId) (pos : Pos) → IsFreeCondition early b (for_condition e pos)
  free_condition None pos = tt
  free_condition (Some e) pos = freely e

  pub good_for_turn : (k : StatementKind) (w : StmtId) (d : ℕ) (pos : Pos) → HaveNoHead b (statements_in k) → AllGood early b (for_turn k w d pos)
  good_for_turn (statements.Block ss end) w d pos headless = tt
  good_for_turn (statements.For l) w d pos headless = ((free_condition l.condition pos, ((late, no_super b l.body headless.0), (late, tt)), tt), tt)
  good_for_turn k w d pos headless = tt

  pub good_loop_turn : (k : StatementKind) (w : StmtId) (d : ℕ) → is_super_call b w ≡ is_super_call_kind k → AllGood early b (loop_turn k b w d)
  good_loop_turn (statements.Block ss end) w d same = tt
  good_loop_turn (statements.While c x) w d same = ((late, same), tt)
  good_loop_turn (statements.Do x c) w d same = ((freely c, ((late, same), tt), tt), tt)
  good_loop_turn (statements.For l) w d same = good_both early b (head_front b d l.updates.items) (For w d ∷ []) (good_head d l.updates.items) (late, tt)
  good_loop_turn k w d same = tt
