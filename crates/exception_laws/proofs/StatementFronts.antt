-- What a statement becomes throws no more than the statement.
use Rattle.std.proofs.Common.{◌≡◌, ◌∙◌, ◌+◌, ◌++◌, ◌∷◌, [], ℕ, List, Bool, true, false, Option, Some, None, length, map, append_assoc, refl, sym, ap, subst}
use Rattle.std.proofs.lemmas.List.{reverse-append}
use Rattle.std.specs.Prelude.{◌&&◌, not, cond, flat_map, reverse}
use Rattle.std.specs.List.{list_any}
use Rattle.program_model.specs.declared.kinds.ClassId.{ClassId}
use Rattle.program_model.specs.declared.kinds.ExprId.{ExprId}
use Rattle.program_model.specs.declared.kinds.StmtId.{StmtId}
use Rattle.program_model.specs.declared.kinds.VType.{VType}
use Rattle.program_model.specs.declared.kinds.VType.TheVariants as types
use Rattle.program_model.specs.declared.program.Program.{Program}
use Rattle.program_model.specs.declared.tree.Body.{Body}
use Rattle.program_model.specs.declared.tree.CatchClause.{CatchClause}
use Rattle.program_model.specs.declared.tree.Declarator.{Declarator}
use Rattle.program_model.specs.declared.tree.ForInitial.{ForInitial}
use Rattle.program_model.specs.declared.tree.ForInitial.TheVariants as initials
use Rattle.program_model.specs.declared.tree.ForLoop.{ForLoop}
use Rattle.program_model.specs.declared.tree.SuperCall.{SuperCall}
use Rattle.program_model.specs.declared.tree.Resource.{Resource}
use Rattle.program_model.specs.declared.tree.StatementKind.{StatementKind}
use Rattle.program_model.specs.declared.tree.StatementKind.TheVariants as statements
use Rattle.program_model.specs.declared.tree.TryStatement.{TryStatement}
use Rattle.program_model.specs.Lookups.{optional, statement_at, type_at}
use Rattle.program_model.specs.Trees.{expressions_in, initial_expressions, initializers, statements_in}
use Rattle.rlc_base.specs.declared.place.Pos.{Pos}
use Rattle.control_actions.specs.declared.action.Action.TheVariants as actions
use Rattle.control_actions.specs.declared.action.Scope.TheVariants as scopes
use Rattle.control_actions.specs.declared.item.Condition.{Condition}
use Rattle.control_actions.specs.declared.item.Condition.TheVariants as conditions
use Rattle.control_actions.specs.declared.place.Place.TheVariants as places
use Rattle.java_control.specs.Expressions.{evaluations}
use Rattle.java_control.specs.Statements.{class_of_type, clauses_front, closes, declaration_front, declarator_front, declarator_with, expression_statement, finally_front, head_front, initial_front, list_of_branch, opens, resources_front, return_front, statement_front, super_front, try_front, turn_front}
use Rattle.java_control.specs.Exceptions.{clauses_in}
use Rattle.java_control.specs.Remaining.{Todo, Todos, nil, Do, Ev, Act, Cond, LoopEnd, For, Leave, one, two, expression_place}
use Rattle.accepted_programs.specs.Completions.{Completion, completion, finally_completion}
use Rattle.accepted_programs.specs.Exceptions.{exceptions_in, expression_exceptions, is_caught, let_through, protected_exceptions, statement_exceptions, throws_clause, thrown_by_closing, thrown_by_statement, uncaught}
use Rattle.accepted_programs.specs.Exceptions as thrown_classes
use Rattle.exception_laws.proofs.ExpressionFronts.{AreQuiet, Quiet, evaluates_all, quiet_first, quiet_joined, values}
use Rattle.exception_laws.proofs.Handlers.{IsSafe, condition_exceptions, fit, gets_out, in_front, thrown_in}
use Rattle.accepted_programs.proofs.Lists.{None', alone, and_both, and_first_false, and_second_false, filtered, join, left, right, weaker}

abbrev pub inner : Program → Body → List StmtId → List ClassId
inner p b ss = flat_map (statement_exceptions p b) ss

-- ---- lists of statements

pub quiet_statements : (p : Program) (b : Body) (v : ClassId → Bool) (d : ℕ) (ss : List StmtId) → None' v (inner p b ss) → Quiet false p b v (map (λ x. Do x d) ss)
quiet_statements p b v d [] h = (refl, refl)
quiet_statements p b v d (s ∷ ss) h = quiet_first false p b v (Do s d) (map (λ x. Do x d) ss) (left v (statement_exceptions p b s) (inner p b ss) h) refl (quiet_statements p b v d ss (right v (statement_exceptions p b s) (inner p b ss) h))

-- ---- expressions that are statements, and declarations

pub quiet_expression : (z : Bool) (p : Program) (b : Body) (v : ClassId → Bool) (e : ExprId) (d : ℕ) (pos : Pos) → None' v (expression_exceptions p b e) → Quiet z p b v (expression_statement e d pos)
quiet_expression z p b v e d pos h = (alone v (expression_exceptions p b e) h, refl)

pub quiet_head : (z : Bool) (p : Program) (b : Body) (v : ClassId → Bool) (d : ℕ) (es : List ExprId) → None' v (values p b es) → Quiet z p b v (head_front b d es)
quiet_head z p b v d [] h = (refl, refl)
quiet_head z p b v d (e ∷ es) h =
    quiet_joined z p b v (expression_statement e d (expression_place b e)) (head_front b d es) (quiet_expression z p b v e d (expression_place b e) (left v (expression_exceptions p b e) (values p b es) h)) (quiet_head z p b v d es (right v (expression_exceptions p b e) (values p b es) h))

quiet_declarator : (z : Bool) (p : Program) (b : Body) (v : ClassId → Bool) (d : ℕ) (x : Declarator) (o : Option ExprId) → None' v (values p b (optional o)) → Quiet z p b v (declarator_with b x.variable o d x.pos)
quiet_declarator z p b v d x None h = (refl, refl)
quiet_declarator z p b v d x (Some e) h = (h, refl)

values_joined : (p : Program) (b : Body) (v : ClassId → Bool) (es fs : List ExprId) → None' v (values p b (es ++ fs)) → None' v (values p b es) × None' v (values p b fs)
values_joined p b v [] fs h = (refl, h)
values_joined p b v (e ∷ es) fs h =
    let rest = values_joined p b v es fs (right v (expression_exceptions p b e) (values p b (es ++ fs)) h) in
    (join v (expression_exceptions p b e) (values p b es) (left v (expression_exceptions p b e) (values p b (es ++ fs)) h) rest.0, rest.1)

pub quiet_declaration : (z : Bool) (p : Program) (b : Body) (v : ClassId → Bool) (d : ℕ) (names : List Declarator) → None' v (values p b (initializers names)) → Quiet z p b v (declaration_front b d names)
quiet_declaration z p b v d [] h = (refl, refl)
quiet_declaration z p b v d (x ∷ xs) h =
    let parts = values_joined p b v (optional x.initializer) (initializers xs) h in
    quiet_joined z p b v (declarator_front b d x) (declaration_front b d xs) (quiet_declarator z p b v d x x.initializer parts.0) (quiet_declaration z p b v d xs parts.1)

pub quiet_initial : (z : Bool) (p : Program) (b : Body) (v : ClassId → Bool) (d : ℕ) (l : ForInitial) → None' v (values p b (initial_expressions l)) → Quiet z p b v (initial_front b d l)
quiet_initial z p b v d (initials.Declaration names) h = quiet_declaration z p b v d names.items h
quiet_initial z p b v d (initials.Expressions es) h = quiet_head z p b v d es.items h

-- ---- conditions and loops

quiet_branch : (p : Program) (b : Body) (v : ClassId → Bool) (d : ℕ) (s : Option StmtId) → None' v (inner p b (optional s)) → AreQuiet false p b v (list_of_branch s d)
quiet_branch p b v d None h = (refl, refl)
quiet_branch p b v d (Some s) h = (h, refl)

pub quiet_choice : (p : Program) (b : Body) (v : ClassId → Bool) (c : Condition) (d : ℕ) (x y : Todos) → None' v (condition_exceptions p b c) → AreQuiet false p b v x → AreQuiet false p b v y → Quiet false p b v (Cond c d x y ∷ [])
quiet_choice p b v c d x y h hx hy =
    let both : List ClassId = thrown_in p b x ++ thrown_in p b y in
    (alone v (condition_exceptions p b c ++ both) (join v (condition_exceptions p b c) both h (join v (thrown_in p b x) (thrown_in p b y) hx.0 hy.0)), and_both (fit false x && fit false y) true (and_both (fit false x) (fit false y) hx.1 hy.1) refl)

-- one turn of the loop `w`, whose body is `x`
pub quiet_turn : (p : Program) (b : Body) (v : ClassId → Bool) (c : Condition) (x w : StmtId) (d : ℕ) → None' v (condition_exceptions p b c) → None' v (statement_exceptions p b x) → None' v (statement_exceptions p b w) → Quiet false p b v (turn_front c x w d)
quiet_turn p b v c x w d h hx hw = quiet_choice p b v c d (two (Do x d) (LoopEnd w d)) nil h (join v (statement_exceptions p b x) (statement_exceptions p b w ++ []) hx (alone v (statement_exceptions p b w) hw), refl) (refl, refl)

-- ---- return, throw and super calls

quiet_return : (p : Program) (b : Body) (v : ClassId → Bool) (e : Option ExprId) (d : ℕ) (pos : Pos) → None' v (values p b (optional e)) → Quiet false p b v (return_front e d pos)
quiet_return p b v None d pos h = (refl, refl)
quiet_return p b v (Some e) d pos h = (h, refl)

-- the class of an explicit `throw`
quiet_raise : (p : Program) (v : ClassId → Bool) (t : Option VType) → None' v (optional (thrown_classes.class_of_type p t)) → None' v (optional (class_of_type t))
quiet_raise p v None h = refl
quiet_raise p v (Some (types.Obj c)) h = h
quiet_raise p v (Some (types.Primitive k)) h = refl
quiet_raise p v (Some types.Str) h = refl
quiet_raise p v (Some (types.Arr k)) h = refl
quiet_raise p v (Some types.NullType) h = refl

pub quiet_super : (z : Bool) (p : Program) (b : Body) (v : ClassId → Bool) (c : SuperCall) (d : ℕ) (pos : Pos) → None' v (throws_clause p c.constructor ++ values p b c.arguments.items) → Quiet z p b v (super_front c d pos)
quiet_super z p b v c d pos h =
    let es : List ExprId = c.arguments.items in
    let own : List ClassId = throws_clause p c.constructor in
    let first : List Todo = Act (actions.Copy (places.Temp d) places.This) pos ∷ evaluations es (d + 1) in
    let last : List Todo = Act (actions.Super c.constructor d (length es + 1)) pos ∷ Act (actions.Drop (scopes.Temp d)) pos ∷ [] in
    quiet_joined z p b v first last (quiet_first z p b v (Act (actions.Copy (places.Temp d) places.This) pos) (evaluations es (d + 1)) refl refl (evaluates_all z p b v es (d + 1) (right v own (values p b es) h))) (alone v own (left v own (values p b es) h), refl)

-- ---- all kinds but `try`

-- what a statement itself throws, its expressions and the statements in it
abbrev PartsQuiet : Program → Body → (ClassId → Bool) → StatementKind → Type 0
PartsQuiet p b v kind = None' v (thrown_by_statement p b kind ++ values p b (expressions_in kind) ++ inner p b (statements_in kind))

abbrev of_values : (p : Program) (b : Body) (v : ClassId → Bool) (es : List ExprId) (ss : List StmtId) → None' v (values p b es ++ inner p b ss) → None' v (values p b es)
of_values p b v es ss h = left v (values p b es) (inner p b ss) h

abbrev of_inner : (p : Program) (b : Body) (v : ClassId → Bool) (es : List ExprId) (ss : List StmtId) → None' v (values p b es ++ inner p b ss) → None' v (inner p b ss)
of_inner p b v es ss h = right v (values p b es) (inner p b ss) h

quiet_throw : (p : Program) (b : Body) (v : ClassId → Bool) (e : ExprId) (d : ℕ) (pos : Pos) → PartsQuiet p b v (statements.Throw e) → Quiet false p b v (Ev e d ∷ Act (actions.Raise d (class_of_type (type_at b e))) pos ∷ [])
quiet_throw p b v e d pos h =
    let own : List ClassId = optional (thrown_classes.class_of_type p (type_at b e)) in
    let both : None' v (own ++ values p b (e ∷ [])) = left v (own ++ values p b (e ∷ [])) [] h in
    let es : List ClassId = expression_exceptions p b e in
    (join v es (optional (class_of_type (type_at b e)) ++ []) (left v es [] (right v own (values p b (e ∷ [])) both)) (alone v (optional (class_of_type (type_at b e))) (quiet_raise p v (type_at b e) (left v own (values p b (e ∷ [])) both))), refl)

quiet_if : (p : Program) (b : Body) (v : ClassId → Bool) (c : ExprId) (x : StmtId) (y : Option StmtId) (d : ℕ) → PartsQuiet p b v (statements.If c x y) → Quiet false p b v (Cond (conditions.Of c) d (one (Do x d)) (list_of_branch y d) ∷ [])
quiet_if p b v c x y d h =
    let ss : List StmtId = x ∷ optional y in
    let those : None' v (inner p b ss) = of_inner p b v (c ∷ []) ss h in
    quiet_choice p b v (conditions.Of c) d (one (Do x d)) (list_of_branch y d) (left v (expression_exceptions p b c) [] (of_values p b v (c ∷ []) ss h)) (alone v (statement_exceptions p b x) (left v (statement_exceptions p b x) (inner p b (optional y)) those), refl) (quiet_branch p b v d y (right v (statement_exceptions p b x) (inner p b (optional y)) those))

-- the head, the condition and the updates of a `for`, and its body
pub for_parts : (p : Program) (b : Body) (v : ClassId → Bool) (l : ForLoop) → PartsQuiet p b v (statements.For l) → None' v (values p b (initial_expressions l.initial)) × None' v (values p b (optional l.condition)) × None' v (values p b l.updates.items) × None' v (statement_exceptions p b l.body)
for_parts p b v l h =
    let es : List ExprId = expressions_in (statements.For l) in
    let heads : List ExprId = initial_expressions l.initial ++ optional l.condition in
    let all = values_joined p b v heads l.updates.items (of_values p b v es (l.body ∷ []) h) in
    let two' = values_joined p b v (initial_expressions l.initial) (optional l.condition) all.0 in
    (two'.0, two'.1, all.1, left v (statement_exceptions p b l.body) [] (of_inner p b v es (l.body ∷ []) h))

quiet_for : (p : Program) (b : Body) (v : ClassId → Bool) (l : ForLoop) (s : StmtId) (d : ℕ) (pos : Pos) → None' v (statement_exceptions p b s) → PartsQuiet p b v (statements.For l) → Quiet false p b v (initial_front b d l.initial ++ For s d ∷ Leave (scopes.Declared s) pos ∷ [])
quiet_for p b v l s d pos hs h = quiet_joined false p b v (initial_front b d l.initial) (For s d ∷ Leave (scopes.Declared s) pos ∷ []) (quiet_initial false p b v d l.initial (for_parts p b v l h).0) (alone v (statement_exceptions p b s) hs, refl)

-- what the statement becomes; `h` is of the statement itself
pub quiet_kind : (p : Program) (b : Body) (v : ClassId → Bool) (kind : StatementKind) (s : StmtId) (d : ℕ) (pos : Pos) → ((t : TryStatement) → kind ≡ statements.Try t → Quiet false p b v (statement_front kind b s d pos)) → None' v (statement_exceptions p b s) → PartsQuiet p b v kind → Quiet false p b v (statement_front kind b s d pos)
quiet_kind p b v (statements.Block ss end) s d pos other hs h = quiet_joined false p b v (map (λ x. Do x d) ss.items) (Leave (scopes.Declared s) pos ∷ []) (quiet_statements p b v d ss.items h) (refl, refl)
quiet_kind p b v statements.Empty s d pos other hs h = (refl, refl)
quiet_kind p b v (statements.LocalDeclaration names) s d pos other hs h = quiet_declaration false p b v d names.items (of_values p b v (initializers names.items) [] h)
quiet_kind p b v (statements.Expression e) s d pos other hs h = quiet_expression false p b v e d pos (left v (expression_exceptions p b e) [] (of_values p b v (e ∷ []) [] h))
quiet_kind p b v (statements.If c x y) s d pos other hs h = quiet_if p b v c x y d h
quiet_kind p b v (statements.While c x) s d pos other hs h = quiet_turn p b v (conditions.Of c) x s d (left v (expression_exceptions p b c) [] (of_values p b v (c ∷ []) (x ∷ []) h)) (left v (statement_exceptions p b x) [] (of_inner p b v (c ∷ []) (x ∷ []) h)) hs
quiet_kind p b v (statements.Do x c) s d pos other hs h = (join v (statement_exceptions p b x) (statement_exceptions p b s ++ []) (left v (statement_exceptions p b x) [] (of_inner p b v (c ∷ []) (x ∷ []) h)) (alone v (statement_exceptions p b s) hs), refl)
quiet_kind p b v (statements.For l) s d pos other hs h = quiet_for p b v l s d pos hs h
quiet_kind p b v (statements.Return e) s d pos other hs h = quiet_return p b v e d pos (of_values p b v (optional e) [] h)
quiet_kind p b v (statements.Throw e) s d pos other hs h = quiet_throw p b v e d pos h
quiet_kind p b v statements.Break s d pos other hs h = (refl, refl)
quiet_kind p b v statements.Continue s d pos other hs h = (refl, refl)
quiet_kind p b v (statements.Try t) s d pos other hs h = other t refl
quiet_kind p b v (statements.SuperCall c) s d pos other hs h = quiet_super false p b v c d pos (of_super h)
  where
    own : List ClassId
    own = throws_clause p c.constructor

    of_super : PartsQuiet p b v (statements.SuperCall c) → None' v (own ++ values p b c.arguments.items)
    of_super all = left v (own ++ values p b c.arguments.items) [] all
quiet_kind p b v (statements.FieldInitializer e) s d pos other hs h = quiet_expression false p b v e d pos (left v (expression_exceptions p b e) [] (of_values p b v (e ∷ []) [] h))

-- ---- try

quiet_opening : (p : Program) (b : Body) (v : ClassId → Bool) (d : ℕ) (rs : List Resource) → None' v (values p b (map (λ r. r.initializer) rs)) → Quiet false p b v (flat_map (opens d) rs)
quiet_opening p b v d [] h = (refl, refl)
quiet_opening p b v d (r ∷ rs) h =
    let es : List ClassId = expression_exceptions p b r.initializer in
    let rest : List ClassId = values p b (map (λ r. r.initializer) rs) in
    quiet_joined false p b v (opens d r) (flat_map (opens d) rs) (alone v es (left v es rest h), refl) (quiet_opening p b v d rs (right v es rest h))

closing_joined : (p : Program) (v : ClassId → Bool) (rs qs : List Resource) → None' v (thrown_by_closing p rs) → None' v (thrown_by_closing p qs) → None' v (thrown_by_closing p (rs ++ qs))
closing_joined p v [] qs h h' = h'
closing_joined p v (r ∷ rs) qs h h' =
    let own : List ClassId = throws_clause p r.close in
    join v own (thrown_by_closing p (rs ++ qs)) (left v own (thrown_by_closing p rs) h) (closing_joined p v rs qs (right v own (thrown_by_closing p rs) h) h')

closing_reversed : (p : Program) (v : ClassId → Bool) (rs : List Resource) → None' v (thrown_by_closing p rs) → None' v (thrown_by_closing p (reverse rs))
closing_reversed p v [] h = refl
closing_reversed p v (r ∷ rs) h =
    let own : List ClassId = throws_clause p r.close in
    subst (λ (qs : List Resource). None' v (thrown_by_closing p qs)) (sym (reverse-append (r ∷ []) rs))
    (closing_joined p v (reverse rs) (r ∷ []) (closing_reversed p v rs (right v own (thrown_by_closing p rs) h)) (alone v own (left v own (thrown_by_closing p rs) h)))

quiet_closes : (p : Program) (b : Body) (v : ClassId → Bool) (s : StmtId) (d : ℕ) (rs : List Resource) → None' v (thrown_by_closing p rs) → Quiet false p b v (flat_map (closes s d) rs)
quiet_closes p b v s d [] h = (refl, refl)
quiet_closes p b v s d (r ∷ rs) h =
    let own : List ClassId = throws_clause p r.close in
    quiet_joined false p b v (closes s d r) (flat_map (closes s d) rs) (alone v own (left v own (thrown_by_closing p rs) h), refl) (quiet_closes p b v s d rs (right v own (thrown_by_closing p rs) h))

-- the resources and the block
pub quiet_protected : (p : Program) (b : Body) (v : ClassId → Bool) (s : StmtId) (t : TryStatement) (d : ℕ) → None' v (protected_exceptions (expression_exceptions p b) (statement_exceptions p b) p t) → Quiet false p b v (resources_front s t d)
quiet_protected p b v s t d h =
    let rs : List Resource = t.resources.items in
    let opening : List ClassId = values p b (map (λ r. r.initializer) rs) in
    let closing : List ClassId = thrown_by_closing p rs in
    let block : List ClassId = statement_exceptions p b t.block in
    let both : None' v (opening ++ closing) = left v (opening ++ closing) block h in
    let behind : List Todo = flat_map (closes s d) (reverse rs) in
    quiet_joined false p b v (flat_map (opens d) rs) (Do t.block d ∷ behind) (quiet_opening p b v d rs (left v opening closing both))
    (quiet_first false p b v (Do t.block d) behind (right v (opening ++ closing) block h) refl (quiet_closes p b v s d (reverse rs) (closing_reversed p v rs (right v opening closing both))))

pub nothing : (zs : List ClassId) → None' (λ c. false) zs
nothing [] = refl
nothing (z ∷ zs) = nothing zs

-- what gets past the clauses and the `finally`, where the test is of what gets out behind the `try`
past_all : (p : Program) (b : Body) (u : ClassId → Bool) (cs : List CatchClause) (last : Completion) (k : List Todo) (xs ys : List ClassId) → None' (gets_out p b u k) (let_through last (uncaught p cs xs ++ ys)) → None' (λ c. not (is_caught p cs c) && (last.completes && gets_out p b u k c)) xs × None' (λ c. last.completes && gets_out p b u k c) ys
past_all p b u cs last k xs ys h = step last.completes refl
  where
    v : ClassId → Bool
    v = gets_out p b u k

    step : (z : Bool) → last.completes ≡ z → None' (λ c. not (is_caught p cs c) && (last.completes && gets_out p b u k c)) xs × None' (λ c. last.completes && gets_out p b u k c) ys
    step true is =
        let here : None' v (uncaught p cs xs ++ ys) = ap (λ z. list_any v (cond z (uncaught p cs xs ++ ys) [])) (sym is) ∙ h in
        let past : None' (λ c. not (is_caught p cs c) && v c) xs = filtered (λ c. not (is_caught p cs c)) v xs (left v (uncaught p cs xs) ys here) in
        (subst (λ (z : Bool). None' (λ c. not (is_caught p cs c) && (z && v c)) xs) (sym is) past, subst (λ (z : Bool). None' (λ c. z && v c) ys) (sym is) (right v (uncaught p cs xs) ys here))
    step false is =
        (weaker (λ c. false) (λ c. not (is_caught p cs c) && (last.completes && v c)) (λ c no. and_second_false (not (is_caught p cs c)) (last.completes && v c) (and_first_false last.completes (v c) is)) xs (nothing xs), weaker (λ c. false) (λ c. last.completes && v c) (λ c no. and_first_false last.completes (v c) is) ys (nothing ys))

safe_finally : (p : Program) (b : Body) (u : ClassId → Bool) (f : Option StmtId) (d : ℕ) (k : List Todo) → None' (gets_out p b u k) (inner p b (optional f)) → IsSafe p b u k → IsSafe p b u (finally_front f d ++ k)
safe_finally p b u None d k h safe = safe
safe_finally p b u (Some f) d k h safe = ((left (gets_out p b u k) (statement_exceptions p b f) [] h, refl), safe)

-- an exception that stands before the `finally`
before_finally : (p : Program) (b : Body) (u : ClassId → Bool) (f : Option StmtId) (d : ℕ) (k : List Todo) (xs : List ClassId) → None' (λ c. (finally_completion (completion b) f).completes && gets_out p b u k c) xs → None' (gets_out p b u (finally_front f d ++ k)) xs
before_finally p b u None d k xs h = h
before_finally p b u (Some f) d k xs h = h

-- and before the clauses
before_clauses : (p : Program) (b : Body) (u : ClassId → Bool) (s : StmtId) (cs : List CatchClause) → clauses_in (statement_at b s) ≡ cs → (f : Option StmtId) (d : ℕ) (k : List Todo) (xs : List ClassId) → None' (λ c. not (is_caught p cs c) && ((finally_completion (completion b) f).completes && gets_out p b u k c)) xs → None' (gets_out p b u (clauses_front s cs d ++ (finally_front f d ++ k))) xs
before_clauses p b u s [] is f d k xs h = before_finally p b u f d k xs h
before_clauses p b u s (c ∷ cs) is None d k xs h = subst (λ (qs : List CatchClause). None' (λ x. not (is_caught p qs x) && gets_out p b u k x) xs) (sym is) h
before_clauses p b u s (c ∷ cs) is (Some f) d k xs h = subst (λ (qs : List CatchClause). None' (λ x. not (is_caught p qs x) && ((completion b f).completes && gets_out p b u k x)) xs) (sym is) h

safe_clauses : (p : Program) (b : Body) (u : ClassId → Bool) (s : StmtId) (cs : List CatchClause) → clauses_in (statement_at b s) ≡ cs → (d : ℕ) (k : List Todo) → None' (gets_out p b u k) (flat_map (λ c. statement_exceptions p b c.block) cs) → IsSafe p b u k → IsSafe p b u (clauses_front s cs d ++ k)
safe_clauses p b u s [] is d k h safe = safe
safe_clauses p b u s (c ∷ cs) is d k h safe = ((subst (λ (qs : List CatchClause). None' (gets_out p b u k) (flat_map (λ c. statement_exceptions p b c.block) qs)) (sym is) h, refl), safe)

pub safe_try : (p : Program) (b : Body) (u : ClassId → Bool) (s : StmtId) (t : TryStatement) → clauses_in (statement_at b s) ≡ t.catches.items → (d : ℕ) (k : List Todo) → None' (gets_out p b u k) (exceptions_in (expression_exceptions p b) (statement_exceptions p b) (completion b) p b (statements.Try t)) → IsSafe p b u k → IsSafe p b u (try_front s t d ++ k)
safe_try p b u s t is d k h safe =
    let v : ClassId → Bool = gets_out p b u k in
    let cs : List CatchClause = t.catches.items in
    let last : Completion = finally_completion (completion b) t.finally in
    let protected : List ClassId = protected_exceptions (expression_exceptions p b) (statement_exceptions p b) p t in
    let blocks : List ClassId = flat_map (λ c. statement_exceptions p b c.block) cs in
    let before : List ClassId = let_through last (uncaught p cs protected ++ blocks) in
    let past = past_all p b u cs last k protected blocks (left v before (inner p b (optional t.finally)) h) in
    let end : List Todo = finally_front t.finally d ++ k in
    let middle : List Todo = clauses_front s cs d ++ end in
    let last_safe : IsSafe p b u end = safe_finally p b u t.finally d k (right v before (inner p b (optional t.finally)) h) safe in
    let middle_safe : IsSafe p b u middle = safe_clauses p b u s cs is d end (before_finally p b u t.finally d k blocks past.1) last_safe in
    let all : IsSafe p b u (resources_front s t d ++ middle) = in_front p b u (resources_front s t d) middle (quiet_protected p b (gets_out p b u middle) s t d (before_clauses p b u s cs is t.finally d k protected past.0)) middle_safe in
    subst (λ (xs : List Todo). IsSafe p b u xs) (sym (three_parts (resources_front s t d) (clauses_front s cs d) (finally_front t.finally d) k)) all
  where
    three_parts : (xs ys zs ws : List Todo) → ((xs ++ ys) ++ zs) ++ ws ≡ xs ++ (ys ++ (zs ++ ws))
    three_parts xs ys zs ws = simp append_assoc
