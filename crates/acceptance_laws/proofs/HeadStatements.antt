-- Where nothing is refused of the super call and of the initialisers of fields with which a constructor begins, what is laid from them throws
-- no checked exception that is not declared.
use Rattle.std.proofs.Common.{◌≡◌, ◌∙◌, ◌++◌, ◌∷◌, [], List, Bool, true, false, Option, Some, None, flat_map, refl, ap}
use Rattle.std.specs.Prelude.{◌||◌, cond}
use Rattle.std.specs.List.{list_any}
use Rattle.std.proofs.lemmas.List.Concat.{flat_map-append}
use Rattle.rlc_base.specs.declared.place.Pos.{Pos}
use Rattle.rlc_base.specs.declared.faults.Refusal.{Refusal}
use Rattle.program_model.specs.declared.kinds.ClassId.{ClassId}
use Rattle.program_model.specs.declared.kinds.FieldId.{FieldId}
use Rattle.program_model.specs.declared.kinds.MethodId.{MethodId}
use Rattle.program_model.specs.declared.kinds.StmtId.{StmtId}
use Rattle.program_model.specs.declared.program.Field.{Field}
use Rattle.program_model.specs.declared.program.Program.{Program}
use Rattle.program_model.specs.declared.tree.Body.{Body}
use Rattle.program_model.specs.Lookups.{field_at}
use Rattle.java_syntax.specs.ExpressionTrees as syntax
use Rattle.program_reading.specs.ClassDeclarationsMembers.{WrittenField}
use Rattle.java_typed_trees.specs.declared.facts.Answer.{Answer}
use Rattle.java_typed_trees.specs.Exceptions.{thrown_by}
use Rattle.java_typed_trees.specs.ExpressionTrees.{ExprTree, expressions}
use Rattle.java_typed_trees.specs.Settling.{own_cases}
use Rattle.java_typed_trees.specs.StatementTrees.{Statement, StmtTree, statements}
use Rattle.java_typed_trees.specs.StatementTrees as forms
use Rattle.java_laying.specs.StatementForest.{StatementsStandAt, StatementStandsAt}
use Rattle.java_call_rules.specs.CallParts.{method_in, parameters_of}
use Rattle.java_call_rules.specs.Arguments.{in_contexts}
use Rattle.java_variable_rules.specs.JavaMemberRulesNames.{implied_this}
use Rattle.java_call_rules.specs.Surroundings.{Surroundings}
use Rattle.java_call_rules.specs.TypedParts.{trees_in}
use Rattle.java_statement_rules.specs.Completions as rules_of
use Rattle.java_statement_rules.specs.Contexts.{StatementContext}
use Rattle.java_statement_parts.specs.Cases.{argument_cases, value_cases}
use Rattle.program_reading.specs.FieldInitializers.{cases_of_field, initializer_of, initializing_by, initializing_cases, initializing_statement, initializing_tree, statements_of_field, where_initialized}
use Rattle.program_reading.specs.SuperCalls.{SuperCall, call_cases, is_made, statement_of_call, super_call_by, super_call_cases, super_call_statements, typed_call_cases}
use Rattle.java_statement_parts.specs.Typings.{tree, typings}
use Rattle.program_reading.proofs.Goodness.{nil_left, nil_right}
use Rattle.accepted_programs.specs.Exceptions.{throws_clause}
use Rattle.accepted_programs.specs.TreeOrder.{PartsComeFirst}
use Rattle.accepted_programs.proofs.Lists.{None', join}
use Rattle.acceptance_laws.proofs.ExpressionExceptions.{arguments_quiet, by_answer, contexts_same, needed_quiet, undeclared_in}
use Rattle.acceptance_laws.proofs.HeadExceptions.{AreQuiet, answer_none, quiet_more, quiet_one}
use Rattle.acceptance_laws.proofs.StatementExceptions.{all_parts, good_by, none_there, of_value, own, thrown, values, values_quiet}
use Rattle.acceptance_laws.proofs.TableExceptions.{SameThrows}
use Rattle.acceptance_laws.proofs.Within.{within_normal}

-- a statement of these surroundings that stands at the head of a body
abbrev head_in : Surroundings → StatementContext
head_in s = record { surroundings = s; result = None; in_loop = false; next_variable = 0 }

module _ (q : Program) (x : Body) (order : PartsComeFirst x) where
  -- where the statements stand, they throw nothing that passes the test
  abbrev pub AreQuietWhereTheyStand : (ClassId → Bool) → List StmtTree → Type 0
  AreQuietWhereTheyStand u ts = (ss : List StmtId) → StatementsStandAt (own q x order) (values q x order) ss (statements ts) → None' u (flat_map (thrown q x order) ss)

  -- ---- lists of statements

  record Parts (xs ys : List StmtTree) (ss : List StmtId) : Type 0 where
    front : List StmtId
    back : List StmtId
    is : ss ≡ front ++ back
    first : StatementsStandAt (own q x order) (values q x order) front (statements xs)
    second : StatementsStandAt (own q x order) (values q x order) back (statements ys)

  parts : (xs ys : List StmtTree) (ss : List StmtId) → StatementsStandAt (own q x order) (values q x order) ss (statements (xs ++ ys)) → Parts xs ys ss
  parts [] ys ss stand = record { front = []; back = ss; is = refl; first = refl; second = stand }
  parts (t ∷ ts) ys ss (s, more, is, one, rest) =
      let later = parts ts ys more rest in
      record { front = s ∷ later.front; back = later.back; is = is ∙ ap (λ zs. s ∷ zs) later.is; first = (s, later.front, refl, one, later.first); second = later.second }

  pub none_stands : (u : ClassId → Bool) → AreQuietWhereTheyStand u []
  none_stands u ss stand = ap (λ (zs : List StmtId). list_any u (flat_map (thrown q x order) zs)) stand

  pub both_stand : (u : ClassId → Bool) (xs ys : List StmtTree) → AreQuietWhereTheyStand u xs → AreQuietWhereTheyStand u ys → AreQuietWhereTheyStand u (xs ++ ys)
  both_stand u xs ys h g ss stand =
      let two = parts xs ys ss stand in
      ap (λ (zs : List StmtId). list_any u (flat_map (thrown q x order) zs)) two.is
      ∙ ap (list_any u) (flat_map-append (thrown q x order) two.front two.back)
      ∙ join u (flat_map (thrown q x order) two.front) (flat_map (thrown q x order) two.back) (h two.front two.first) (g two.back two.second)

  one_stands : (u : ClassId → Bool) (t : StmtTree) → ((s : StmtId) → StatementStandsAt (own q x order) (values q x order) s t → None' u (thrown q x order s)) → AreQuietWhereTheyStand u (t ∷ [])
  one_stands u t h ss (s, more, is, one, rest) =
      ap (λ (zs : List StmtId). list_any u (flat_map (thrown q x order) zs)) is
      ∙ join u (thrown q x order s) (flat_map (thrown q x order) more) (h s one) (none_stands u more rest)

  module _ (s : Surroundings) (same : SameThrows q s.context.program) where
    abbrev p : Program
    p = s.context.program

    abbrev u : ClassId → Bool
    u = undeclared_in s

    -- ---- the super call

    call_stands : (place : Pos) (written : Bool) (m : MethodId) (ts : List ExprTree) → None' u (thrown_by p m) → AreQuiet s ts → (n : StmtId) → StatementStandsAt (own q x order) (values q x order) n (Statement (forms.SuperCall m written) place (expressions ts) forms.no_statement) → None' u (thrown q x order n)
    call_stands place written m ts mine quiet n (es, ss, here, stand, inner) =
        (good_by q x order (head_in s) n (forms.SuperCall m written) place es ss rules_of.normal here within_normal
        (all_parts q x order (head_in s) (throws_clause q m) (flat_map (of_value q x order) es) (flat_map (thrown q x order) ss) (ap (list_any u) (same.clause m) ∙ mine) (values_quiet q x order (head_in s) same es ts stand quiet) (none_there q x order (head_in s) ss inner))).quiet

    call_quiet : (place : Pos) (written : Bool) (es : syntax.ExprTrees) → argument_cases s es ≡ [] → (given : Answer) → own_cases p s.context.covered given ≡ [] → (o : Option MethodId) → method_in given ≡ o → AreQuietWhereTheyStand u (statement_of_call p place written o (typings s es))
    call_quiet place written es none given none_given None is = none_stands u
    call_quiet place written es none given none_given (Some m) is =
        let ts : List ExprTree = in_contexts (parameters_of p (Some m)) (trees_in (typings s es)) in
        one_stands u (Statement (forms.SuperCall m written) place (expressions ts) forms.no_statement)
        (call_stands place written m ts (answer_none p s.context.covered given none_given m is) (contexts_same p (parameters_of p (Some m)) u (trees_in (typings s es)) (arguments_quiet s es none)))

    super_none : (written : Bool) (those : List Refusal) → cond (written || true) those [] ≡ [] → those ≡ []
    super_none true those h = h
    super_none false those h = h

    pub super_quiet : (call : SuperCall) → super_call_cases s call ≡ [] → AreQuietWhereTheyStand u (super_call_statements s call)
    super_quiet call none = step (is_made s) none
      where
        step : (made : Bool) → cond (call.written || made) (typed_call_cases s call) [] ≡ [] → AreQuietWhereTheyStand u (cond made (statement_of_call p call.pos call.written (method_in (super_call_by s call.pos (typings s call.arguments))) (typings s call.arguments)) [])
        step true h =
            let all = super_none call.written (typed_call_cases s call) h in
            let mine = call_cases s call.pos (typings s call.arguments) in
            call_quiet call.pos call.written call.arguments (nil_left (argument_cases s call.arguments) mine all) (super_call_by s call.pos (typings s call.arguments)) (nil_right (argument_cases s call.arguments) mine all) (method_in (super_call_by s call.pos (typings s call.arguments))) refl
        step false h = none_stands u

    -- ---- the initialisers of fields

    initializing_stands : (place : Pos) (t : ExprTree) → AreQuiet s (t ∷ []) → (n : StmtId) → StatementStandsAt (own q x order) (values q x order) n (Statement forms.FieldInitializer place (expressions (t ∷ [])) forms.no_statement) → None' u (thrown q x order n)
    initializing_stands place t quiet n (es, ss, here, stand, inner) =
        (good_by q x order (head_in s) n forms.FieldInitializer place es ss rules_of.normal here within_normal
        (all_parts q x order (head_in s) [] (flat_map (of_value q x order) es) (flat_map (thrown q x order) ss) refl (values_quiet q x order (head_in s) same es (t ∷ []) stand quiet) (none_there q x order (head_in s) ss inner))).quiet

    initializing_quiet : (f : FieldId) (y : Field) (e : syntax.ExprTree) → initializing_cases s f y e ≡ [] → AreQuietWhereTheyStand u (initializing_statement s f y e ∷ [])
    initializing_quiet f y e none =
        let value = value_cases s (Some y.vtype) e in
        let mine = own_cases p s.context.covered (initializing_by s f y e) in
        let v : ExprTree = tree s (Some y.vtype) e in
        let this : ExprTree = implied_this s.context.class' y.pos in
        let of_parts : AreQuiet s (this ∷ v ∷ []) = quiet_more s this (v ∷ []) refl (quiet_one s v (needed_quiet s (Some y.vtype) e (nil_left value mine none))) in
        let whole : AreQuiet s (initializing_tree s f y e ∷ []) = quiet_one s (initializing_tree s f y e) (by_answer s (initializing_by s f y e) (expressions (this ∷ v ∷ [])) (nil_right value mine none) of_parts) in
        one_stands u (initializing_statement s f y e) (initializing_stands y.pos (initializing_tree s f y e) whole)

    field_quiet : (f : FieldId) (o : Option Field) (e : Option syntax.ExprTree) → where_initialized (initializing_cases s) f o e ≡ [] → AreQuietWhereTheyStand u (where_initialized (λ g y v. initializing_statement s g y v ∷ []) f o e)
    field_quiet f None e none = none_stands u
    field_quiet f (Some y) None none = none_stands u
    field_quiet f (Some y) (Some e) none = step y.is_static none
      where
        step : (static : Bool) → cond static [] (initializing_cases s f y e) ≡ [] → AreQuietWhereTheyStand u (cond static [] (initializing_statement s f y e ∷ []))
        step true h = none_stands u
        step false h = initializing_quiet f y e h

    pub fields_quiet : (ws : List (FieldId × WrittenField)) → flat_map (cases_of_field s) ws ≡ [] → AreQuietWhereTheyStand u (flat_map (statements_of_field s) ws)
    fields_quiet [] none = none_stands u
    fields_quiet (w ∷ ws) none =
        both_stand u (statements_of_field s w) (flat_map (statements_of_field s) ws)
        (field_quiet w.0 (field_at p w.0) (initializer_of w.1) (nil_left (cases_of_field s w) (flat_map (cases_of_field s) ws) none))
        (fields_quiet ws (nil_right (cases_of_field s w) (flat_map (cases_of_field s) ws) none))
