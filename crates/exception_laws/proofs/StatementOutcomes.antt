-- What a statement becomes comes to its end no other way than the statement does.
use Rattle.std.proofs.Common.{◌≡◌, ◌∙◌, ◌⊎◌, ◌++◌, ◌∷◌, [], ℕ, List, Bool, true, false, Option, Some, None, map, inl, inr, refl, sym, ap, subst}
use Rattle.std.proofs.lemmas.Bool.{or_left, or_right}
use Rattle.std.specs.Prelude.{◌&&◌, ◌||◌, flat_map, not, reverse}
use Rattle.std.specs.List.{list_all}
use Rattle.program_model.specs.declared.kinds.ExprId.{ExprId}
use Rattle.program_model.specs.declared.kinds.StmtId.{StmtId}
use Rattle.program_model.specs.declared.program.Program.{Program}
use Rattle.program_model.specs.declared.tree.Body.{Body}
use Rattle.program_model.specs.declared.tree.CatchClause.{CatchClause}
use Rattle.program_model.specs.declared.tree.ForLoop.{ForLoop}
use Rattle.program_model.specs.declared.tree.Resource.{Resource}
use Rattle.program_model.specs.declared.tree.StatementKind.{StatementKind}
use Rattle.program_model.specs.declared.tree.StatementKind.TheVariants as statements
use Rattle.program_model.specs.declared.tree.TryStatement.{TryStatement}
use Rattle.program_model.specs.declared.tree.TStmt.{TStmt}
use Rattle.program_model.specs.Lookups.{statement_at, type_at}
use Rattle.program_model.specs.Trees.{initial_expressions, initializers}
use Rattle.rlc_base.specs.declared.place.Pos.{Pos}
use Rattle.control_actions.specs.declared.action.Action.TheVariants as actions
use Rattle.control_actions.specs.declared.action.Scope.TheVariants as scopes
use Rattle.control_actions.specs.declared.item.Condition.{Condition}
use Rattle.control_actions.specs.declared.item.Condition.TheVariants as conditions
use Rattle.java_control.specs.Exceptions.{clauses_in, clauses_of_kind}
use Rattle.java_control.specs.Statements.{class_of_type, clauses_front, closes, declaration_front, expression_statement, finally_front, head_front, loop_turn, for_turn, return_front, super_front, for_condition, initial_front, list_of_branch, opens, resources_front, statement_front, try_front}
use Rattle.java_control.specs.Remaining.{Todo, nil, Do, Ev, Act, Cond, LoopEnd, For, Leave, Catch, one, two}
use Rattle.accepted_programs.specs.Completions.{Completion, abrupt, and_then, completion, completion_in, do_completion, else_completion, finally_completion, goes_on, in_sequence, is_true_literal, loop_completion, normal, one_among, one_of, protected_completion}
use Rattle.accepted_programs.specs.Exceptions.{throws_clause}
use Rattle.accepted_programs.specs.TreeOrder.{PartsComeFirst}
use Rattle.accepted_programs.proofs.Depths.{completion_law}
use Rattle.exception_laws.proofs.ExpressionFronts.{values}
use Rattle.exception_laws.proofs.Handlers.{fits}
use Rattle.accepted_programs.proofs.Lists.{and_both}
use Rattle.exception_laws.proofs.Outcomes.{Arrival, ForEnds, ForOf, OneClause, Plainly, Through, TurnEnds, TurnOf, Via, abruptly, after, after_all, after_in, after_joined, breaking, breaks, continues, continuing, goes, may_fail, normally, once, plainly, throws}
use Rattle.exception_laws.proofs.StatementFronts.{nothing, quiet_declaration, quiet_head, quiet_initial, quiet_super}

abbrev breaking_completion : Completion
breaking_completion = record { completes = false; breaks = true; continues = false }

abbrev continuing_completion : Completion
continuing_completion = record { completes = false; breaks = false; continues = true }

-- ---- ways of completing

via_plain : (q : Arrival → Type 0) → Plainly q → Via normal q
via_plain q (inl r) = goes refl r
via_plain q (inr r) = throws r

via_left : (c e : Completion) (q : Arrival → Type 0) → Via c q → Via (one_of c e) q
via_left c e q (goes h r) = goes (or_left c.completes e.completes h) r
via_left c e q (breaks h r) = breaks (or_left c.breaks e.breaks h) r
via_left c e q (continues h r) = continues (or_left c.continues e.continues h) r
via_left c e q (throws r) = throws r

via_right : (c e : Completion) (q : Arrival → Type 0) → Via e q → Via (one_of c e) q
via_right c e q (goes h r) = goes (or_right c.completes e.completes h) r
via_right c e q (breaks h r) = breaks (or_right c.breaks e.breaks h) r
via_right c e q (continues h r) = continues (or_right c.continues e.continues h) r
via_right c e q (throws r) = throws r

-- what is behind `c`, where that completes normally
via_then : (c e : Completion) (q : Arrival → Type 0) → c.completes ≡ true → Via e q → Via (and_then c e) q
via_then c e q h (goes h' r) = goes (and_both c.completes e.completes h h') r
via_then c e q h (breaks h' r) = breaks (or_right c.breaks (c.completes && e.breaks) (and_both c.completes e.breaks h h')) r
via_then c e q h (continues h' r) = continues (or_right c.continues (c.completes && e.continues) (and_both c.completes e.continues h h')) r
via_then c e q h (throws r) = throws r

via_same : (c e : Completion) (q : Arrival → Type 0) → e ≡ c → Via c q → Via e q
via_same c e q is r = subst (λ (x : Completion). Via x q) (sym is) r

-- the end is reached from the first of two lists
pub at_front : (b : Body) (xs ys : List Todo) (q : Arrival → Type 0) (a : Arrival) → after_all b (xs ++ ys) q a → after_all b xs (after_all b ys q) a
at_front b xs ys q a r = subst (λ (f : Arrival → Type 0). f a) (after_joined b xs ys q) r

-- ---- blocks

-- a list of statements lets pass what is on its way out
pass_statements : (b : Body) (d : ℕ) (ss : List StmtId) (q : Arrival → Type 0) → (after_all b (map (λ x. Do x d) ss) q breaking → q breaking) × (after_all b (map (λ x. Do x d) ss) q continuing → q continuing) × (after_all b (map (λ x. Do x d) ss) q abruptly → q abruptly)
pass_statements b d [] q = (λ r. r, λ r. r, λ r. r)
pass_statements b d (s ∷ ss) q = pass_statements b d ss q

via_statements : (b : Body) (d : ℕ) (ss : List StmtId) (q : Arrival → Type 0) → after_all b (map (λ x. Do x d) ss) q normally → Via (in_sequence (map (completion b) ss)) q
via_statements b d [] q r = goes refl r
via_statements b d (s ∷ ss) q (goes h r) = via_then (completion b s) (in_sequence (map (completion b) ss)) q h (via_statements b d ss q r)
via_statements b d (s ∷ ss) q (breaks h r) =
    let rest : Completion = in_sequence (map (completion b) ss) in
    breaks (or_left (completion b s).breaks ((completion b s).completes && rest.breaks) h) ((pass_statements b d ss q).0 r)
via_statements b d (s ∷ ss) q (continues h r) =
    let rest : Completion = in_sequence (map (completion b) ss) in
    continues (or_left (completion b s).continues ((completion b s).completes && rest.continues) h) ((pass_statements b d ss q).1 r)
via_statements b d (s ∷ ss) q (throws r) = throws ((pass_statements b d ss q).2 r)

-- ---- loops

-- where the loop stands at the number
turn_of : (b : Body) (w : StmtId) (x : TStmt) → statement_at b w ≡ Some x → (kind : StatementKind) → x.kind ≡ kind → (X Y : Type 0) → TurnEnds b (statement_at b w) X Y → TurnOf b kind X Y
turn_of b w x here kind k X Y r = subst (λ (z : StatementKind). TurnOf b z X Y) k (subst (λ (o : Option TStmt). TurnEnds b o X Y) here r)

for_of : (b : Body) (w : StmtId) (x : TStmt) → statement_at b w ≡ Some x → (kind : StatementKind) → x.kind ≡ kind → (X Y : Type 0) → ForEnds (statement_at b w) X Y → ForOf kind X Y
for_of b w x here kind k X Y r = subst (λ (z : StatementKind). ForOf z X Y) k (subst (λ (o : Option TStmt). ForEnds o X Y) here r)

-- one turn of a `while` or `for` whose body is `x`
via_turn : (b : Body) (c : Condition) (always : Bool) → (may_fail b c ≡ true → not always ≡ true) → (x w : StmtId) (d : ℕ) (q : Arrival → Type 0) → completion b w ≡ loop_completion always (completion b x) → (TurnEnds b (statement_at b w) (Via (completion b w) q) (q normally) → Via (completion b w) q) → after_all b (Cond c d (two (Do x d) (LoopEnd w d)) nil ∷ []) q normally → Via (completion b w) q
via_turn b c always fails x w d q is end (inl (goes h r)) = end r
via_turn b c always fails x w d q is end (inl (breaks h r)) = via_same (loop_completion always (completion b x)) (completion b w) q is (goes (or_right (not always) (completion b x).breaks h) r)
via_turn b c always fails x w d q is end (inl (continues h r)) = end r
via_turn b c always fails x w d q is end (inl (throws r)) = throws r
via_turn b c always fails x w d q is end (inr (inl (h, r))) = via_same (loop_completion always (completion b x)) (completion b w) q is (goes (or_left (not always) (completion b x).breaks (fails h)) r)
via_turn b c always fails x w d q is end (inr (inr r)) = throws r

for_fails : (b : Body) (e : Option ExprId) (pos : Pos) → may_fail b (for_condition e pos) ≡ true → not (goes_on b e) ≡ true
for_fails b None pos h = h
for_fails b (Some e) pos h = h

-- a turn of a `do` whose body is `x`
via_do : (b : Body) (x w : StmtId) (c : ExprId) (d : ℕ) (q : Arrival → Type 0) → completion b w ≡ do_completion (is_true_literal b c) (completion b x) → (TurnEnds b (statement_at b w) (Via (completion b w) q) (q normally) → (not (is_true_literal b c) ≡ true × q normally) ⊎ Via (completion b w) q) → after_all b (Do x d ∷ LoopEnd w d ∷ []) q normally → Via (completion b w) q
via_do b x w c d q is end r = step r
  where
    whole : Completion
    whole = do_completion (is_true_literal b c) (completion b x)

    body : Completion
    body = completion b x

    -- the condition is reached
    turn : (body.completes || body.continues) ≡ true → (not (is_true_literal b c) ≡ true × q normally) ⊎ Via (completion b w) q → Via (completion b w) q
    turn reached (inl (h, z)) = via_same whole (completion b w) q is (goes (or_left ((body.completes || body.continues) && not (is_true_literal b c)) body.breaks (and_both (body.completes || body.continues) (not (is_true_literal b c)) reached h)) z)
    turn reached (inr z) = z

    step : after_all b (Do x d ∷ LoopEnd w d ∷ []) q normally → Via (completion b w) q
    step (goes h z) = turn (or_left body.completes body.continues h) (end z)
    step (breaks h z) = via_same whole (completion b w) q is (goes (or_right ((body.completes || body.continues) && not (is_true_literal b c)) body.breaks h) z)
    step (continues h z) = turn (or_right body.completes body.continues h) (end z)
    step (throws z) = throws z

-- ---- try

-- behind the `finally`
abbrev behind_finally : Body → Option StmtId → ℕ → (Arrival → Type 0) → Arrival → Type 0
behind_finally b f d q = after_all b (finally_front f d) q

-- what comes to the `finally` from what is before it, and goes on
through_finally : (c e : Completion) (q : Arrival → Type 0) → Via e (λ a. Through c q (q a)) → Via (and_then c e) q
through_finally c e q (goes h (goes h' r)) = goes (and_both c.completes e.completes h' h) r
through_finally c e q (goes h (breaks h' r)) = breaks (or_left c.breaks (c.completes && e.breaks) h') r
through_finally c e q (goes h (continues h' r)) = continues (or_left c.continues (c.completes && e.continues) h') r
through_finally c e q (goes h (throws r)) = throws r
through_finally c e q (breaks h (goes h' r)) = breaks (or_right c.breaks (c.completes && e.breaks) (and_both c.completes e.breaks h' h)) r
through_finally c e q (breaks h (breaks h' r)) = breaks (or_left c.breaks (c.completes && e.breaks) h') r
through_finally c e q (breaks h (continues h' r)) = continues (or_left c.continues (c.completes && e.continues) h') r
through_finally c e q (breaks h (throws r)) = throws r
through_finally c e q (continues h (goes h' r)) = continues (or_right c.continues (c.completes && e.continues) (and_both c.completes e.continues h' h)) r
through_finally c e q (continues h (breaks h' r)) = breaks (or_left c.breaks (c.completes && e.breaks) h') r
through_finally c e q (continues h (continues h' r)) = continues (or_left c.continues (c.completes && e.continues) h') r
through_finally c e q (continues h (throws r)) = throws r
through_finally c e q (throws (goes h' r)) = throws r
through_finally c e q (throws (breaks h' r)) = breaks (or_left c.breaks (c.completes && e.breaks) h') r
through_finally c e q (throws (continues h' r)) = continues (or_left c.continues (c.completes && e.continues) h') r
through_finally c e q (throws (throws r)) = throws r

via_finally : (b : Body) (f : Option StmtId) (d : ℕ) (e : Completion) (q : Arrival → Type 0) → Via e (behind_finally b f d q) → Via (and_then (finally_completion (completion b) f) e) q
via_finally b None d e q r = r
via_finally b (Some f) d e q r = through_finally (completion b f) e q r

clause_via : (b : Body) (cs : List CatchClause) (q : Arrival → Type 0) → OneClause b cs q → Via (one_among (map (λ c. completion b c.block) cs)) q
clause_via b [] q r = absurd r
clause_via b (c ∷ cs) q (inl r) = via_left (completion b c.block) (one_among (map (λ c. completion b c.block) cs)) q r
clause_via b (c ∷ cs) q (inr r) = via_right (completion b c.block) (one_among (map (λ c. completion b c.block) cs)) q (clause_via b cs q r)

-- what comes to the clauses from the block
via_clauses : (b : Body) (s : StmtId) (cs : List CatchClause) → clauses_in (statement_at b s) ≡ cs → (d : ℕ) (e : Completion) (q : Arrival → Type 0) → Via e (after_all b (clauses_front s cs d) q) → Via (one_of e (one_among (map (λ c. completion b c.block) cs))) q
via_clauses b s [] is d e q r = via_left e abrupt q r
via_clauses b s (c ∷ cs) is d e q r = step r
  where
    others : Completion
    others = one_among (map (λ c. completion b c.block) (c ∷ cs))

    step : Via e (after_all b (Catch s d ∷ []) q) → Via (one_of e others) q
    step (goes h z) = via_left e others q (goes h z)
    step (breaks h z) = via_left e others q (breaks h z)
    step (continues h z) = via_left e others q (continues h z)
    step (throws (inl z)) = via_right e others q (clause_via b (c ∷ cs) q (subst (λ (xs : List CatchClause). OneClause b xs q) is z))
    step (throws (inr z)) = throws z

-- the closing of resources lets pass what is on its way out, or throws
pass_closes : (b : Body) (s : StmtId) (d : ℕ) (rs : List Resource) (q : Arrival → Type 0) (a : Arrival) → after_all b (flat_map (closes s d) rs) q a → q a ⊎ q abruptly
pass_closes b s d [] q a r = inl r
pass_closes b s d (x ∷ rs) q a (inl r) = pass_closes b s d rs q a r
pass_closes b s d (x ∷ rs) q a (inr r) = elim (pass_closes b s d rs q abruptly r) [ inl z ↦ inr z | inr z ↦ inr z ]

via_block : (b : Body) (s : StmtId) (d : ℕ) (rs : List Resource) (e : Completion) (q : Arrival → Type 0) → Via e (after_all b (flat_map (closes s d) rs) q) → Via e q
via_block b s d rs e q (goes h r) = elim (pass_closes b s d rs q normally r) [ inl z ↦ goes h z | inr z ↦ throws z ]
via_block b s d rs e q (breaks h r) = elim (pass_closes b s d rs q breaking r) [ inl z ↦ breaks h z | inr z ↦ throws z ]
via_block b s d rs e q (continues h r) = elim (pass_closes b s d rs q continuing r) [ inl z ↦ continues h z | inr z ↦ throws z ]
via_block b s d rs e q (throws r) = elim (pass_closes b s d rs q abruptly r) [ inl z ↦ throws z | inr z ↦ throws z ]

opening_fits : (b : Body) (d : ℕ) (rs : List Resource) → list_all (fits true) (flat_map (opens d) rs) ≡ true
opening_fits b d [] = refl
opening_fits b d (r ∷ rs) = opening_fits b d rs

via_resources : (b : Body) (s : StmtId) (t : TryStatement) (d : ℕ) (q : Arrival → Type 0) → after_all b (resources_front s t d) q normally → Via (completion b t.block) q
via_resources b s t d q r = step (plainly b opening (after_all b rest q) (opening_fits b d t.resources.items) (along r))
  where
    opening : List Todo
    opening = flat_map (opens d) t.resources.items

    rest : List Todo
    rest = Do t.block d ∷ flat_map (closes s d) (reverse t.resources.items)

    along : after_all b (opening ++ rest) q normally → after_all b opening (after_all b rest q) normally
    along z = at_front b opening rest q normally z

    step : Plainly (after_all b rest q) → Via (completion b t.block) q
    step (inl z) = via_block b s d (reverse t.resources.items) (completion b t.block) q z
    step (inr z) = elim (pass_closes b s d (reverse t.resources.items) q abruptly z) [ inl y ↦ throws y | inr y ↦ throws y ]

via_try : (b : Body) (s : StmtId) (t : TryStatement) → clauses_in (statement_at b s) ≡ t.catches.items → (d : ℕ) (q : Arrival → Type 0) → after_all b (try_front s t d) q normally → Via (completion_in (completion b) b (statements.Try t)) q
via_try b s t is d q r =
    let cs : List CatchClause = t.catches.items in
    let end : Arrival → Type 0 = behind_finally b t.finally d q in
    let middle : Arrival → Type 0 = after_all b (clauses_front s cs d) end in
    let first : after_all b (resources_front s t d ++ clauses_front s cs d) end normally = at_front b (resources_front s t d ++ clauses_front s cs d) (finally_front t.finally d) q normally r in
    let block : Via (completion b t.block) middle = via_resources b s t d middle (at_front b (resources_front s t d) (clauses_front s cs d) end normally first) in
    via_finally b t.finally d (protected_completion (completion b) t.block cs) q (via_clauses b s cs is d (completion b t.block) end block)

-- ---- all statements

via_return : (b : Body) (e : Option ExprId) (d : ℕ) (pos : Pos) (q : Arrival → Type 0) → after_all b (return_front e d pos) q normally → Via abrupt q
via_return b None d pos q r = throws r
via_return b (Some e) d pos q r = throws (once r)

-- a part of expressions, and what is behind it
pub plain_front : (b : Body) (xs ys : List Todo) (q : Arrival → Type 0) → list_all (fits true) xs ≡ true → after_all b (xs ++ ys) q normally → Plainly (after_all b ys q)
plain_front b xs ys q h r = plainly b xs (after_all b ys q) h (at_front b xs ys q normally r)

via_branch : (b : Body) (y : Option StmtId) (d : ℕ) (q : Arrival → Type 0) → after_in b (list_of_branch y d) q normally → Via (else_completion (completion b) y) q
via_branch b None d q r = goes refl r
via_branch b (Some s) d q r = r

via_if : (b : Body) (c : ExprId) (x : StmtId) (y : Option StmtId) (d : ℕ) (q : Arrival → Type 0) → after_all b (Cond (conditions.Of c) d (one (Do x d)) (list_of_branch y d) ∷ []) q normally → Via (one_of (completion b x) (else_completion (completion b) y)) q
via_if b c x y d q (inl r) = via_left (completion b x) (else_completion (completion b) y) q r
via_if b c x y d q (inr (inl (h, r))) = via_right (completion b x) (else_completion (completion b) y) q (via_branch b y d q r)
via_if b c x y d q (inr (inr r)) = throws r

via_for : (p : Program) (b : Body) (l : ForLoop) (s : StmtId) (d : ℕ) (pos : Pos) (q : Arrival → Type 0) → (ForEnds (statement_at b s) (Via (completion b s) q) (q normally) → Via (completion b s) q) → after_all b (initial_front b d l.initial ++ For s d ∷ Leave (scopes.Declared s) pos ∷ []) q normally → Via (completion b s) q
via_for p b l s d pos q end r = elim (plain_front b (initial_front b d l.initial) (For s d ∷ Leave (scopes.Declared s) pos ∷ []) q ((quiet_initial true p b (λ c. false) d l.initial (nothing (values p b (initial_expressions l.initial)))).1) r) [
  | inl z ↦ end z
  | inr z ↦ throws z
]

-- what a statement becomes. `is` is how it completes, and `here` that it stands at the number
via_kind : (p : Program) (b : Body) (kind : StatementKind) (s : StmtId) (x : TStmt) → statement_at b s ≡ Some x → x.kind ≡ kind → completion b s ≡ completion_in (completion b) b kind → (d : ℕ) (pos : Pos) (q : Arrival → Type 0) → after_all b (statement_front kind b s d pos) q normally → Via (completion b s) q
via_kind p b (statements.Block ss end) s x here k is d pos q r = via_same _ (completion b s) q is (via_statements b d ss.items q (at_front b (map (λ x. Do x d) ss.items) (Leave (scopes.Declared s) pos ∷ []) q normally r))
via_kind p b statements.Empty s x here k is d pos q r = via_same normal (completion b s) q is (goes refl r)
via_kind p b (statements.LocalDeclaration names) s x here k is d pos q r = via_same normal (completion b s) q is (via_plain q (plainly b (declaration_front b d names.items) q ((quiet_declaration true p b (λ c. false) d names.items (nothing (values p b (initializers names.items)))).1) r))
via_kind p b (statements.Expression e) s x here k is d pos q r = via_same normal (completion b s) q is (via_plain q (plainly b (expression_statement e d pos) q refl r))
via_kind p b (statements.If c y z) s x here k is d pos q r = via_same _ (completion b s) q is (via_if b c y z d q r)
via_kind p b (statements.While c y) s x here k is d pos q r = via_turn b (conditions.Of c) (is_true_literal b c) (λ h. h) y s d q is (turn_of b s x here (statements.While c y) k (Via (completion b s) q) (q normally)) r
via_kind p b (statements.Do y c) s x here k is d pos q r = via_do b y s c d q is (turn_of b s x here (statements.Do y c) k (Via (completion b s) q) (q normally)) r
via_kind p b (statements.For l) s x here k is d pos q r = via_for p b l s d pos q (for_of b s x here (statements.For l) k (Via (completion b s) q) (q normally)) r
via_kind p b (statements.Return e) s x here k is d pos q r = via_same abrupt (completion b s) q is (via_return b e d pos q r)
via_kind p b (statements.Throw e) s x here k is d pos q r = via_same abrupt (completion b s) q is (via_throw r)
  where
    via_throw : after_all b (Ev e d ∷ Act (actions.Raise d (class_of_type (type_at b e))) pos ∷ []) q normally → Via abrupt q
    via_throw (inl z) = throws z
    via_throw (inr (inl z)) = throws z
    via_throw (inr (inr z)) = throws z
via_kind p b statements.Break s x here k is d pos q r = via_same breaking_completion (completion b s) q is (breaks refl r)
via_kind p b statements.Continue s x here k is d pos q r = via_same continuing_completion (completion b s) q is (continues refl r)
via_kind p b (statements.Try t) s x here k is d pos q r = via_same _ (completion b s) q is (via_try b s t (ap clauses_in here ∙ ap clauses_of_kind k) d q r)
via_kind p b (statements.SuperCall c) s x here k is d pos q r = via_same normal (completion b s) q is (via_plain q (plainly b (super_front c d pos) q ((quiet_super true p b (λ c. false) c d pos (nothing (throws_clause p c.constructor ++ values p b c.arguments.items))).1) r))
via_kind p b (statements.FieldInitializer e) s x here k is d pos q r = via_same normal (completion b s) q is (via_plain q (plainly b (expression_statement e d pos) q refl r))

-- how a statement that stands at the number comes to its end
pub via_statement : (p : Program) (b : Body) → PartsComeFirst b → (s : StmtId) (x : TStmt) → statement_at b s ≡ Some x → (d : ℕ) (q : Arrival → Type 0) → after_all b (statement_front x.kind b s d x.pos) q normally → after b (Do s d) q normally
via_statement p b first s x here d q r = via_kind p b x.kind s x here refl (completion_law b first s x here) d x.pos q r

-- ---- the next turns of loops

turn_kind : (p : Program) (b : Body) → PartsComeFirst b → (kind : StatementKind) (w : StmtId) (x : TStmt) → statement_at b w ≡ Some x → x.kind ≡ kind → (d : ℕ) (q : Arrival → Type 0) → after_all b (loop_turn kind b w d) q normally → TurnOf b kind (Via (completion b w) q) (q normally)
turn_kind p b first (statements.While c y) w x here k d q r = r
turn_kind p b first (statements.Do y c) w x here k d q (inl r) = inr r
turn_kind p b first (statements.Do y c) w x here k d q (inr (inl (h, r))) = inl (h, r)
turn_kind p b first (statements.Do y c) w x here k d q (inr (inr r)) = inr (throws r)
turn_kind p b first (statements.For l) w x here k d q r = elim (plain_front b (head_front b d l.updates.items) (For w d ∷ []) q ((quiet_head true p b (λ c. false) d l.updates.items (nothing (values p b l.updates.items))).1) r) [
  | inl z ↦ for_of b w x here (statements.For l) k (Via (completion b w) q) (q normally) z
  | inr z ↦ throws z
]
turn_kind p b first (statements.Block ss end) w x here k d q r = inl r
turn_kind p b first statements.Empty w x here k d q r = inl r
turn_kind p b first (statements.LocalDeclaration names) w x here k d q r = inl r
turn_kind p b first (statements.Expression e) w x here k d q r = inl r
turn_kind p b first (statements.If c y z) w x here k d q r = inl r
turn_kind p b first (statements.Return e) w x here k d q r = inl r
turn_kind p b first (statements.Throw e) w x here k d q r = inl r
turn_kind p b first statements.Break w x here k d q r = inl r
turn_kind p b first statements.Continue w x here k d q r = inl r
turn_kind p b first (statements.Try t) w x here k d q r = inl r
turn_kind p b first (statements.SuperCall c) w x here k d q r = inl r
turn_kind p b first (statements.FieldInitializer e) w x here k d q r = inl r

pub turn_ends : (p : Program) (b : Body) → PartsComeFirst b → (w : StmtId) (x : TStmt) → statement_at b w ≡ Some x → (d : ℕ) (q : Arrival → Type 0) → after_all b (loop_turn x.kind b w d) q normally → after b (LoopEnd w d) q normally
turn_ends p b first w x here d q r = subst (λ (o : Option TStmt). TurnEnds b o (Via (completion b w) q) (q normally)) (sym here) (turn_kind p b first x.kind w x here refl d q r)

for_kind : (b : Body) → PartsComeFirst b → (kind : StatementKind) (w : StmtId) (x : TStmt) → statement_at b w ≡ Some x → x.kind ≡ kind → completion b w ≡ completion_in (completion b) b kind → (d : ℕ) (pos : Pos) (q : Arrival → Type 0) → after_all b (for_turn kind w d pos) q normally → ForOf kind (Via (completion b w) q) (q normally)
for_kind b first (statements.For l) w x here k is d pos q r = via_turn b (for_condition l.condition pos) (goes_on b l.condition) (for_fails b l.condition pos) l.body w d q is (turn_of b w x here (statements.For l) k (Via (completion b w) q) (q normally)) r
for_kind b first (statements.While c y) w x here k is d pos q r = inl r
for_kind b first (statements.Do y c) w x here k is d pos q r = inl r
for_kind b first (statements.Block ss end) w x here k is d pos q r = inl r
for_kind b first statements.Empty w x here k is d pos q r = inl r
for_kind b first (statements.LocalDeclaration names) w x here k is d pos q r = inl r
for_kind b first (statements.Expression e) w x here k is d pos q r = inl r
for_kind b first (statements.If c y z) w x here k is d pos q r = inl r
for_kind b first (statements.Return e) w x here k is d pos q r = inl r
for_kind b first (statements.Throw e) w x here k is d pos q r = inl r
for_kind b first statements.Break w x here k is d pos q r = inl r
for_kind b first statements.Continue w x here k is d pos q r = inl r
for_kind b first (statements.Try t) w x here k is d pos q r = inl r
for_kind b first (statements.SuperCall c) w x here k is d pos q r = inl r
for_kind b first (statements.FieldInitializer e) w x here k is d pos q r = inl r

pub for_ends : (b : Body) → PartsComeFirst b → (w : StmtId) (x : TStmt) → statement_at b w ≡ Some x → (d : ℕ) (q : Arrival → Type 0) → after_all b (for_turn x.kind w d x.pos) q normally → after b (For w d) q normally
for_ends b first w x here d q r = subst (λ (o : Option TStmt). ForEnds o (Via (completion b w) q) (q normally)) (sym here) (for_kind b first x.kind w x here refl (completion_law b first w x here) d x.pos q r)
