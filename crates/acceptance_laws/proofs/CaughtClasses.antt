-- What gets past the clauses of a `try`: of exceptions that are covered where the classes of the clauses are caught too, those that the clauses
-- do not catch are covered without them.
use Rattle.std.proofs.Common.{◌≡◌, ◌∙◌, ◌++◌, ◌∷◌, [], List, Bool, true, false, Option, Some, None, refl, sym, ap}
use Rattle.std.specs.Prelude.{◌&&◌, ◌||◌, not, cond, filter}
use Rattle.std.specs.Option.{is_some}
use Rattle.std.specs.List.{list_any}
use Rattle.std.proofs.lemmas.List.Folds.{list_any-append}
use Rattle.rlc_base.specs.declared.place.Pos.{Pos}
use Rattle.program_model.specs.declared.kinds.ClassId.{ClassId}
use Rattle.program_model.specs.declared.program.Program.{Program}
use Rattle.program_model.specs.Lookups.{optional}
use Rattle.program_model.specs.SuperTests.{is_under}
use Rattle.java_syntax.specs.declared.names.Name.{Name}
use Rattle.java_syntax.specs.StatementTrees.{CatchTrees, no_catch, and_catch}
use Rattle.java_typed_trees.specs.Exceptions.{is_checked, is_undeclared}
use Rattle.java_call_rules.specs.WrittenTypes.{class_of_name, unknown_name_cases}
use Rattle.java_call_rules.specs.Surroundings.{Surroundings}
use Rattle.java_statement_rules.specs.CatchClauses.{alternative_cases, alternatives_cases, are_apart, caught_by, caught_class, classes_named, each_alternative_cases, exception_cases, has_alternative, if_exception, is_exception_class, or_throwable}
use Rattle.java_statement_rules.specs.Contexts.{StatementContext, locals_of}
use Rattle.java_statement_rules.specs.DeclaredVariables.{double_cases}
use Rattle.java_statement_rules.specs.StatementCases.{unless}
use Rattle.java_statement_parts.specs.Clauses.{caught_by_all, clause_cases}
use Rattle.program_reading.specs.StatementCases.{block_cases, catches_cases}
use Rattle.program_reading.specs.StatementContexts.{catch_context, next_catch_context}
use Rattle.program_reading.specs.StatementTrees.{catch_forms}
use Rattle.program_reading.proofs.Goodness.{cons_is_nil, nil_first, nil_left, nil_right}
use Rattle.accepted_programs.proofs.Lists.{None', or_first, or_second, or_neither}
use Rattle.acceptance_laws.proofs.Forms.{form_caught}

-- ---- the alternatives of a clause that is not refused

-- what is named is what is caught
named_once : (p : Program) (place other : Pos) (o : Option ClassId) → unknown_name_cases (is_some o) other ++ exception_cases p place o ≡ [] → optional (if_exception p o) ≡ or_throwable p (if_exception p o) ∷ []
named_once p place other None none = absurd (cons_is_nil _ _ none)
named_once p place other (Some c) none = step (is_exception_class p c) none
  where
    step : (b : Bool) → unless b place ≡ [] → optional (cond b (Some c) None) ≡ or_throwable p (cond b (Some c) None) ∷ []
    step true h = refl
    step false h = absurd (cons_is_nil _ _ h)

classes_same : (s : Surroundings) (place : Pos) (names : List Name) → each_alternative_cases s place names ≡ [] → classes_named s names ≡ caught_by s names
classes_same s place [] none = refl
classes_same s place (n ∷ ns) none =
    let first = alternative_cases s place n in
    let rest = each_alternative_cases s place ns in
    ap (λ xs. xs ++ classes_named s ns) (named_once s.context.program place n.pos (class_of_name s n.text) (nil_left first rest none))
    ∙ ap (λ xs. or_throwable s.context.program (caught_class s n) ∷ xs) (classes_same s place ns (nil_right first rest none))

-- the two catch the same by names
abbrev CatchAlike : Surroundings → Surroundings → Type 0
CatchAlike s s' = (names : List Name) → caught_by s names ≡ caught_by s' names

-- the classes of all clauses are those that the typed clauses name
pub caught_is : (q : Program) (s : Surroundings) (c : StatementContext) → CatchAlike s c.surroundings → (cs : CatchTrees) (place : Pos) → catches_cases c cs place ≡ [] → (k : ClassId) → list_any (is_under q k) (caught_by_all s cs) ≡ form_caught q (catch_forms c cs) k
caught_is q s c alike no_catch place none k = refl
caught_is q s c alike (and_catch modifiers names name b more) place none k =
    let clause = clause_cases c names name place in
    let inner = block_cases (catch_context c modifiers names name) b in
    let rest = catches_cases (next_catch_context c b) more place in
    let named = nil_right (unless (has_alternative names && are_apart c.surroundings names) place) (each_alternative_cases c.surroundings place names) (nil_left (alternatives_cases c.surroundings place names) (double_cases place (locals_of c) name.text) (nil_first clause inner rest none)) in
    let same = alike names ∙ sym (classes_same c.surroundings place names named) in
    list_any-append (is_under q k) (caught_by s names) (caught_by_all s more)
    ∙ ap (λ xs. list_any (is_under q k) xs || list_any (is_under q k) (caught_by_all s more)) same
    ∙ ap (λ b'. list_any (is_under q k) (classes_named c.surroundings names) || b') (caught_is q s (next_catch_context c b) alike more place (nil_right (clause ++ inner) rest none) k)

-- ---- what gets past them

one_kept : (checked caught other : Bool) → caught ≡ false → (checked && not (caught || other)) ≡ false → (checked && not other) ≡ false
one_kept checked true other is h = absurd (let no : true ≡ false = is in cc)
one_kept checked false other is h = h

-- where `caught` are those that the clauses catch
pub past_clauses : (p : Program) (caught covered : List ClassId) (by : ClassId → Bool) → ((k : ClassId) → list_any (is_under p k) caught ≡ by k) → (thrown : List ClassId) → None' (λ c. is_undeclared p (caught ++ covered) c) thrown → None' (λ c. is_undeclared p covered c) (filter (λ c. not (by c)) thrown)
past_clauses p caught covered by are [] h = refl
past_clauses p caught covered by are (k ∷ ks) h = step (by k) refl (past_clauses p caught covered by are ks (or_second (is_undeclared p (caught ++ covered) k) (list_any (λ c. is_undeclared p (caught ++ covered) c) ks) h))
  where
    step : (b : Bool) → by k ≡ b → None' (λ c. is_undeclared p covered c) (filter (λ c. not (by c)) ks) → None' (λ c. is_undeclared p covered c) (cond (not b) (k ∷ filter (λ c. not (by c)) ks) (filter (λ c. not (by c)) ks))
    step true is later = later
    step false is later =
        let here : is_undeclared p (caught ++ covered) k ≡ false = or_first (is_undeclared p (caught ++ covered) k) (list_any (λ c. is_undeclared p (caught ++ covered) c) ks) h in
        let apart : (is_checked p k && not (list_any (is_under p k) caught || list_any (is_under p k) covered)) ≡ false = ap (λ z. is_checked p k && not z) (sym (list_any-append (is_under p k) caught covered)) ∙ here in
        or_neither (is_undeclared p covered k) (list_any (λ c. is_undeclared p covered c) (filter (λ c. not (by c)) ks)) (one_kept (is_checked p k) (list_any (is_under p k) caught) (list_any (is_under p k) covered) (are k ∙ is) apart) later
