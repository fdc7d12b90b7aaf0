-- How a statement of a form completes and what it throws, by the numbers of its parts in lists.
use Rattle.std.proofs.Common.{◌≡◌, ◌∙◌, ◌+◌, ◌++◌, ◌∷◌, [], ℕ, List, Bool, true, false, Option, Some, None, drop, length, map, refl, sym, ap, append_assoc}
use Rattle.std.specs.Prelude.{cond, filter, flat_map, is_some, not, ◌||◌}
use Rattle.std.specs.List.{list_any}
use Rattle.std.proofs.Math.Seq.{drop-append-add}
use Rattle.std.proofs.lemmas.List.Sums.{sum_by-cons}
use Rattle.program_model.specs.declared.kinds.ClassId.{ClassId}
use Rattle.program_model.specs.declared.kinds.ExprId.{ExprId}
use Rattle.program_model.specs.declared.kinds.StmtId.{StmtId}
use Rattle.program_model.specs.declared.program.Program.{Program}
use Rattle.program_model.specs.declared.tree.Body.{Body}
use Rattle.program_model.specs.declared.tree.CatchClause.{CatchClause}
use Rattle.program_model.specs.declared.tree.Declarator.{Declarator}
use Rattle.program_model.specs.declared.tree.ForInitial.{ForInitial}
use Rattle.program_model.specs.declared.tree.ForInitial.TheVariants as initials
use Rattle.program_model.specs.declared.tree.Resource.{Resource}
use Rattle.program_model.specs.declared.tree.StatementKind.{StatementKind}
use Rattle.program_model.specs.declared.tree.StatementKind.TheVariants as statements
use Rattle.program_model.specs.Lookups.{optional, type_at}
use Rattle.program_model.specs.SuperTests.{is_under}
use Rattle.program_model.specs.Trees.{expressions_in, initial_expressions, initializers, statements_in}
use Rattle.java_typed_trees.specs.declared.statements.DeclaratorShape.{DeclaratorShape}
use Rattle.java_typed_trees.specs.declared.statements.ResourceShape.{ResourceShape}
use Rattle.java_typed_trees.specs.StatementTrees.{CatchForm, StatementForm}
use Rattle.java_typed_trees.specs.StatementTrees as forms
use Rattle.java_typed_trees.specs.WellFormedStatements.{initial_count}
use Rattle.java_laying.specs.StatementCells.{clause_form, declarator_shape, first_part, form_in, resource_shape}
use Rattle.accepted_programs.specs.Exceptions.{class_of_type, exceptions_in, is_caught, let_through, throws_clause, thrown_by_closing}
use Rattle.accepted_programs.specs.Completions.{Completion, abrupt, and_then, breaking, completion_in, continuing, do_completion, else_completion, finally_completion, goes_on, in_sequence, is_true_literal, loop_completion, normal, one_among, one_of}

-- ---- parts in lists

abbrev pub first_completion : (StmtId → Completion) → List StmtId → Completion
first_completion inner [] = normal
first_completion inner (s ∷ ss) = inner s

abbrev pub behind : List StmtId → List StmtId
behind [] = []
behind (s ∷ ss) = ss

-- the blocks of the clauses, and what is behind them
abbrev pub clause_blocks : List CatchForm → List StmtId → List StmtId
clause_blocks [] ss = []
clause_blocks (c ∷ cs) [] = []
clause_blocks (c ∷ cs) (s ∷ ss) = s ∷ clause_blocks cs ss

abbrev pub behind_clauses : List CatchForm → List StmtId → List StmtId
behind_clauses [] ss = ss
behind_clauses (c ∷ cs) [] = []
behind_clauses (c ∷ cs) (s ∷ ss) = behind_clauses cs ss

-- the condition, if the form has one, is the literal `true`
abbrev pub first_goes_on : (ExprId → Bool) → Bool → List ExprId → Bool
first_goes_on always false es = true
first_goes_on always true [] = true
first_goes_on always true (e ∷ es) = always e

abbrev pub first_always : (ExprId → Bool) → List ExprId → Bool
first_always always [] = true
first_always always (e ∷ es) = always e

-- ---- completions

abbrev pub form_completion : StatementForm → (ExprId → Bool) → (StmtId → Completion) → List ExprId → List StmtId → Completion
form_completion (forms.Block end) always inner es ss = in_sequence (map inner ss)
form_completion forms.Empty always inner es ss = normal
form_completion (forms.LocalDeclaration names) always inner es ss = normal
form_completion forms.Expression always inner es ss = normal
form_completion (forms.If has_else) always inner es ss = one_of (first_completion inner ss) (first_completion inner (behind ss))
form_completion forms.While always inner es ss = loop_completion (first_always always es) (first_completion inner ss)
form_completion forms.Do always inner es ss = do_completion (first_always always es) (first_completion inner ss)
form_completion (forms.For initial has_condition) always inner es ss = loop_completion (first_goes_on always has_condition (drop (initial_count initial) es)) (first_completion inner ss)
form_completion (forms.Return has_value) always inner es ss = abrupt
form_completion forms.Throw always inner es ss = abrupt
form_completion forms.Break always inner es ss = breaking
form_completion forms.Continue always inner es ss = continuing
form_completion (forms.Try resources catches has_finally) always inner es ss = and_then (first_completion inner (behind_clauses catches (behind ss))) (one_of (first_completion inner ss) (one_among (map inner (clause_blocks catches (behind ss)))))
form_completion (forms.SuperCall m written) always inner es ss = normal
form_completion forms.FieldInitializer always inner es ss = normal
form_completion forms.Erroneous always inner es ss = normal

else_same : (inner : StmtId → Completion) (o : Option StmtId) → else_completion inner o ≡ first_completion inner (optional o)
else_same inner None = refl
else_same inner (Some s) = refl

finally_same : (inner : StmtId → Completion) (o : Option StmtId) → finally_completion inner o ≡ first_completion inner (optional o)
finally_same inner None = refl
finally_same inner (Some s) = refl

pub blocks_same : (cs : List CatchClause) (ss : List StmtId) → clause_blocks (map clause_form cs) (map (λ c. c.block) cs ++ ss) ≡ map (λ c. c.block) cs
blocks_same [] ss = refl
blocks_same (c ∷ cs) ss = ap (λ xs. c.block ∷ xs) (blocks_same cs ss)

pub behind_same : (cs : List CatchClause) (ss : List StmtId) → behind_clauses (map clause_form cs) (map (λ c. c.block) cs ++ ss) ≡ ss
behind_same [] ss = refl
behind_same (c ∷ cs) ss = behind_same cs ss

map_blocks : (inner : StmtId → Completion) (cs : List CatchClause) → map (λ c. inner c.block) cs ≡ map inner (map (λ c. c.block) cs)
map_blocks inner [] = refl
map_blocks inner (c ∷ cs) = ap (λ xs. inner c.block ∷ xs) (map_blocks inner cs)

length_optional : {X : Type 0} (o : Option X) → cond (is_some o) 1 0 ≡ length (optional o)
length_optional None = refl
length_optional (Some x) = refl

count_initializers : (names : List Declarator) (es : List ExprId) → drop (initial_count (forms.Declaration (map declarator_shape names))) (initializers names ++ es) ≡ es
count_initializers [] es = refl
count_initializers (x ∷ xs) es =
    let n : ℕ = initial_count (forms.Declaration (map declarator_shape xs)) in
    let first : List ExprId = optional x.initializer in
    ap (λ k. drop k ((first ++ initializers xs) ++ es)) (sum_by-cons (λ (d : DeclaratorShape). cond d.has_initializer 1 0) (declarator_shape x) (map declarator_shape xs))
    ∙ ap (λ k. drop (k + n) ((first ++ initializers xs) ++ es)) (length_optional x.initializer)
    ∙ ap (drop (length first + n)) (append_assoc first (initializers xs) es)
    ∙ drop-append-add first (initializers xs ++ es) n
    ∙ count_initializers xs es

count_expressions : (xs es : List ExprId) → drop (length xs) (xs ++ es) ≡ es
count_expressions [] es = refl
count_expressions (x ∷ xs) es = count_expressions xs es

initial_dropped : (i : ForInitial) (es : List ExprId) → drop (initial_count (first_part i)) (initial_expressions i ++ es) ≡ es
initial_dropped (initials.Declaration names) es = count_initializers names.items es
initial_dropped (initials.Expressions xs) es = count_expressions xs.items es

condition_same : (x : Body) (o : Option ExprId) (es : List ExprId) → goes_on x o ≡ first_goes_on (is_true_literal x) (is_some o) (optional o ++ es)
condition_same x None es = refl
condition_same x (Some e) es = refl

-- of the `finally` of a `try`, and of the blocks of its clauses
last_same : (inner : StmtId → Completion) (cs : List CatchClause) (o : Option StmtId) → finally_completion inner o ≡ first_completion inner (behind_clauses (map clause_form cs) (map (λ c. c.block) cs ++ optional o))
last_same inner cs o = finally_same inner o ∙ ap (first_completion inner) (sym (behind_same cs (optional o)))

blocks_done : (inner : StmtId → Completion) (cs : List CatchClause) (o : Option StmtId) → map (λ c. inner c.block) cs ≡ map inner (clause_blocks (map clause_form cs) (map (λ c. c.block) cs ++ optional o))
blocks_done inner cs o = map_blocks inner cs ∙ ap (map inner) (sym (blocks_same cs (optional o)))

-- how a statement completes, by its form and its parts
pub completion_same : (x : Body) (inner : StmtId → Completion) (kind : StatementKind) → completion_in inner x kind ≡ form_completion (form_in kind) (is_true_literal x) inner (expressions_in kind) (statements_in kind)
completion_same x inner (statements.Block ss end) = refl
completion_same x inner statements.Empty = refl
completion_same x inner (statements.LocalDeclaration names) = refl
completion_same x inner (statements.Expression e) = refl
completion_same x inner (statements.If c a b) = ap (λ z. one_of (inner a) z) (else_same inner b)
completion_same x inner (statements.While c s) = refl
completion_same x inner (statements.Do s c) = refl
completion_same x inner (statements.For l) =
    let es : List ExprId = optional l.condition ++ l.updates.items in
    ap (λ z. loop_completion z (inner l.body)) (condition_same x l.condition l.updates.items ∙ ap (first_goes_on (is_true_literal x) (is_some l.condition)) (sym (ap (λ zs. drop (initial_count (first_part l.initial)) zs) (append_assoc (initial_expressions l.initial) (optional l.condition) l.updates.items) ∙ initial_dropped l.initial es)))
completion_same x inner (statements.Return e) = refl
completion_same x inner (statements.Throw e) = refl
completion_same x inner statements.Break = refl
completion_same x inner statements.Continue = refl
completion_same x inner (statements.Try t) =
    let last = last_same inner t.catches.items t.finally in
    let blocks = blocks_done inner t.catches.items t.finally in
    λ i. and_then (last i) (one_of (inner t.block) (one_among (blocks i)))
completion_same x inner (statements.SuperCall c) = refl
completion_same x inner (statements.FieldInitializer e) = refl

-- ---- exceptions

-- what a statement of the form throws itself
abbrev pub form_own : Program → Body → StatementForm → List ExprId → List ClassId
form_own q x forms.Throw (e ∷ es) = optional (class_of_type q (type_at x e))
form_own q x (forms.SuperCall m written) es = throws_clause q m
form_own q x form es = []

abbrev pub form_caught : Program → List CatchForm → ClassId → Bool
form_caught q catches c = list_any (λ k. list_any (is_under q c) k.classes) catches

abbrev pub first_thrown : (StmtId → List ClassId) → List StmtId → List ClassId
first_thrown inner [] = []
first_thrown inner (s ∷ ss) = inner s

abbrev pub form_closing : Program → List ResourceShape → List ClassId
form_closing q resources = flat_map (λ r. throws_clause q r.close) resources

-- what the clauses are over: the values of the resources, their closing, and the block
abbrev pub form_protected : Program → List ResourceShape → (ExprId → List ClassId) → (StmtId → List ClassId) → List ExprId → List StmtId → List ClassId
form_protected q resources values inner es ss = flat_map values es ++ form_closing q resources ++ first_thrown inner ss

abbrev pub form_before_finally : Program → List ResourceShape → List CatchForm → (ExprId → List ClassId) → (StmtId → List ClassId) → List ExprId → List StmtId → List ClassId
form_before_finally q resources catches values inner es ss = filter (λ c. not (form_caught q catches c)) (form_protected q resources values inner es ss) ++ flat_map inner (clause_blocks catches (behind ss))

abbrev pub form_thrown : Program → Body → StatementForm → (ExprId → List ClassId) → (StmtId → List ClassId) → (StmtId → Completion) → List ExprId → List StmtId → List ClassId
form_thrown q x (forms.Try resources catches has_finally) values inner ends es ss = let_through (first_completion ends (behind_clauses catches (behind ss))) (form_before_finally q resources catches values inner es ss) ++ flat_map inner (behind_clauses catches (behind ss))
form_thrown q x form values inner ends es ss = form_own q x form es ++ flat_map values es ++ flat_map inner ss

closing_same : (q : Program) (rs : List Resource) → thrown_by_closing q rs ≡ form_closing q (map resource_shape rs)
closing_same q [] = refl
closing_same q (r ∷ rs) = ap (λ xs. throws_clause q r.close ++ xs) (closing_same q rs)

caught_same : (q : Program) (cs : List CatchClause) (c : ClassId) → is_caught q cs c ≡ form_caught q (map clause_form cs) c
caught_same q [] c = refl
caught_same q (k ∷ cs) c = ap (λ b. list_any (is_under q c) k.classes.items || b) (caught_same q cs c)

flat_blocks : (inner : StmtId → List ClassId) (cs : List CatchClause) → flat_map (λ c. inner c.block) cs ≡ flat_map inner (map (λ c. c.block) cs)
flat_blocks inner [] = refl
flat_blocks inner (c ∷ cs) = ap (λ xs. inner c.block ++ xs) (flat_blocks inner cs)

blocks_thrown : (inner : StmtId → List ClassId) (cs : List CatchClause) (o : Option StmtId) → flat_map (λ c. inner c.block) cs ≡ flat_map inner (clause_blocks (map clause_form cs) (map (λ c. c.block) cs ++ optional o))
blocks_thrown inner cs o = flat_blocks inner cs ∙ ap (flat_map inner) (sym (blocks_same cs (optional o)))

-- what a statement throws, by its form and its parts
pub exceptions_same : (q : Program) (x : Body) (values : ExprId → List ClassId) (inner : StmtId → List ClassId) (ends : StmtId → Completion) (kind : StatementKind) → exceptions_in values inner ends q x kind ≡ form_thrown q x (form_in kind) values inner ends (expressions_in kind) (statements_in kind)
exceptions_same q x values inner ends (statements.Try t) =
    let last = last_same ends t.catches.items t.finally in
    let closing = closing_same q t.resources.items in
    let blocks = blocks_thrown inner t.catches.items t.finally in
    let rest = ap (flat_map inner) (sym (behind_same t.catches.items (optional t.finally))) in
    λ i. let_through (last i) (filter (λ c. not (caught_same q t.catches.items c i)) (flat_map values (map (λ r. r.initializer) t.resources.items) ++ closing i ++ inner t.block) ++ blocks i) ++ rest i
exceptions_same q x values inner ends kind = refl
