-- The expressions of statements in which nothing is refused: they are typed, and have the types that the form asks for.
use Rattle.std.proofs.Common.{◌≡◌, ◌∙◌, ◌+◌, inl, inr, ℕ, suc, Bool, true, false, cond, Option, Some, None, List, [], ◌∷◌, ◌++◌, append_assoc, arith, drop, length, refl, sym, subst, ap}
use Rattle.std.specs.Option.{IsSomeAnd, is_some}
use Rattle.std.proofs.Math.Seq.{drop-append_seam}
use Rattle.std.proofs.lemmas.List.Elements.{All-nil}
use Rattle.rlc_base.specs.declared.place.Pos.{Pos}
use Rattle.rlc_base.specs.declared.code.Code.TheVariants as codes_of
use Rattle.program_model.specs.declared.kinds.ClassId.{ClassId}
use Rattle.program_model.specs.declared.kinds.VType.{VType}
use Rattle.program_model.specs.declared.kinds.VType.TheVariants as types
use Rattle.program_model.specs.declared.program.Method.{Method}
use Rattle.program_model.specs.declared.program.Program.{Program}
use Rattle.program_model.specs.declared.tree.Var.{Var}
use Rattle.program_model.specs.Hierarchy.{IsHierarchy}
use Rattle.program_model.specs.Lookups.{optional}
use Rattle.program_model.specs.Typing.{IsThrowable, class_of}
use Rattle.program_model.specs.Validity.{IsResult}
use Rattle.program_model.proofs.HierarchyLaws.{is_under_law}
use Rattle.java_syntax.specs.ExpressionTrees as syntax
use Rattle.java_syntax.specs.StatementTrees.{ForStartTree}
use Rattle.java_syntax.specs.StatementTrees as starts
use Rattle.java_conversions.specs.Types.{is_throwable}
use Rattle.java_typed_trees.specs.Answers.{refused}
use Rattle.java_typed_trees.specs.Exceptions.{undeclared_cases}
use Rattle.java_typed_trees.specs.ExpressionTrees.{ExprTree, expressions}
use Rattle.java_typed_trees.specs.WellFormed.{count}
use Rattle.java_typed_trees.specs.WellFormedStatements.{initial_count}
use Rattle.java_call_rules.specs.Surroundings.{Surroundings}
use Rattle.java_variable_rules.proofs.VariableLaws.{IsTyped}
use Rattle.java_statement_parts.specs.Cases.{value_cases}
use Rattle.java_statement_parts.specs.Typings.{tree, value_facts}
use Rattle.java_statement_parts.proofs.Goodness.{cons_is_nil, nil_left, nil_right}
use Rattle.java_statement_rules.specs.Contexts.{StatementContext}
use Rattle.java_statement_rules.specs.StatementCases.{condition_cases, needless_result, return_cases, throw_by, throw_cases}
use Rattle.java_statement_parts.specs.Heads as heads
use Rattle.java_statement_parts.specs.Heads.{expression_trees, expressions_cases, optional_cases, optional_tree, plain_tree, required_cases, returned, returning_cases, start_cases, start_form, start_trees, started_locals, throwing_cases}
use Rattle.java_bodies.specs.StatementContexts.{behind_start}
use Rattle.java_bodies.specs.BodyVariables.{start_variables}
use Rattle.java_typing_laws.proofs.StatementHeadLaws.{start_count}
use Rattle.java_typing_laws.specs.TypingContexts.{IfDeclarable, IsVariableOf, TypingContext}
use Rattle.java_typing_laws.specs.TypedTrees.{AreTypedTrees, Part, first_type, part_of, parts_in}
use Rattle.java_typing_laws.proofs.Conversions.{no_test}
use Rattle.java_typing_laws.proofs.OperatorRules.{has}
use Rattle.java_typing_laws.proofs.TypedExpressions.{tree_is_typed}
use Rattle.java_typing_laws.specs.Scopes.{HaveTypesFrom, declaring}
use Rattle.java_typing_laws.specs.TypedForms.{IfCondition, IsCondition, IsInitial, IsReturn}
use Rattle.java_typing_laws.proofs.DeclarationTyping.{AreInScope, declaration_in_scope, declaration_typed}
use Rattle.java_typing_laws.proofs.Values.{IsHere, append_typed, context_of, value_fits, value_is_truth, value_typed, with_more}

-- ---- what is thrown

under_law : (p : Program) → IsHierarchy p → (t : VType) → is_throwable p t ≡ true → IsThrowable p t
under_law p hierarchy (types.Primitive k) h = no_test h
under_law p hierarchy types.Str h = inr ((is_under_law p hierarchy p.core.string p.core.throwable).0 h)
under_law p hierarchy (types.Arr k) h = no_test h
under_law p hierarchy (types.Obj c) h = inr ((is_under_law p hierarchy c p.core.throwable).0 h)
under_law p hierarchy types.NullType h = inl refl

throwable_by : (b : Bool) (p : Program) (covered classes : List ClassId) (place : Pos) → cond b (undeclared_cases p covered classes place) (refused codes_of.Mismatch place) ≡ [] → b ≡ true
throwable_by true p covered classes place none = refl
throwable_by false p covered classes place none = absurd (cons_is_nil _ _ none)

-- ---- behind the first trees

counted_length : (xs : List ExprTree) → length (parts_in (expressions xs)) ≡ count (expressions xs)
counted_length [] = refl
counted_length (x ∷ xs) = ap (λ n. suc n) (counted_length xs) ∙ omega arith

parts_append : (xs ys : List ExprTree) → parts_in (expressions (xs ++ ys)) ≡ parts_in (expressions xs) ++ parts_in (expressions ys)
parts_append [] ys = refl
parts_append (x ∷ xs) ys = ap (λ (ps : List Part). part_of x ∷ ps) (parts_append xs ys)

behind : (n : ℕ) (xs ys : List ExprTree) → count (expressions xs) ≡ n → drop n (parts_in (expressions (xs ++ ys))) ≡ parts_in (expressions ys)
behind n xs ys e =
    ap (λ (ps : List Part). drop n ps) (parts_append xs ys)
    ∙ ap (λ k. drop k (parts_in (expressions xs) ++ parts_in (expressions ys))) (sym e ∙ sym (counted_length xs))
    ∙ drop-append_seam (parts_in (expressions xs)) (parts_in (expressions ys))

module _ (variables : List Var) (owner : Option ClassId) (m : Method) where
  abbrev AllTyped : Surroundings → List ExprTree → Type 0
  AllTyped s ts = AreTypedTrees (context_of variables owner m s) (expressions ts)

  -- ---- conditions

  pub record IsTypedCondition (s : Surroundings) (ts : List ExprTree) : Type 0 where
    pub typed : AllTyped s ts
    pub is : IsCondition (parts_in (expressions ts))

  pub condition_typed : (s : Surroundings) → IsHere variables owner m s → (e : syntax.ExprTree) (place : Pos) → required_cases s e place ≡ [] → IsTypedCondition s (plain_tree s e)
  condition_typed s h e place none =
      let first = value_cases s None e in
      let second = condition_cases place (value_facts s None e) in
      let v = value_typed variables owner m s h None tt e (nil_left first second none) in
      record { typed = (v.typed, tt); is = value_is_truth variables owner m s None e v place (nil_right first second none) }

  pub record IsTypedIfThere (s : Surroundings) (e : Option syntax.ExprTree) (rest : List ExprTree) : Type 0 where
    pub typed : AllTyped s (optional_tree s e)
    pub is : IfCondition (is_some e) (parts_in (expressions (optional_tree s e ++ rest)))

  pub optional_typed : (s : Surroundings) → IsHere variables owner m s → (e : Option syntax.ExprTree) (place : Pos) → optional_cases s e place ≡ [] → (rest : List ExprTree) → IsTypedIfThere s e rest
  optional_typed s h None place none rest = record { typed = tt; is = tt }
  optional_typed s h (Some e) place none rest = let q = condition_typed s h e place none in record { typed = q.typed; is = q.is }

  -- ---- `return` and `throw`

  if_result : (s : Surroundings) (result : Option VType) → IsResult s.context.program result → IfDeclarable s.context.program result
  if_result s None h = tt
  if_result s (Some t) h = h

  pub record IsTypedReturn (s : Surroundings) (result : Option VType) (e : Option syntax.ExprTree) : Type 0 where
    pub typed : AllTyped s (returned s result e)
    pub is : IsReturn s.context.program (is_some e) (parts_in (expressions (returned s result e))) result

  -- a value where none is given
  needless : (s : Surroundings) → IsHere variables owner m s → (e : syntax.ExprTree) (place : Pos) → returning_cases s None (Some e) place ≡ [] → ⊥
  needless s h e place none =
      let first = value_cases s None e in
      let second = return_cases s.context.program place None (value_facts s None e) in
      let v = value_typed variables owner m s h None tt e (nil_left first second none) in
      cons_is_nil _ _ (subst (λ (o : Option VType). needless_result place o ≡ []) v.gives (nil_right first second none))

  pub return_typed : (s : Surroundings) → IsHere variables owner m s → (result : Option VType) → IsResult s.context.program result → (e : Option syntax.ExprTree) (place : Pos) → returning_cases s result e place ≡ [] → IsTypedReturn s result e
  return_typed s h None declarable None place none = record { typed = tt; is = tt }
  return_typed s h (Some t) declarable None place none = absurd (cons_is_nil _ _ none)
  return_typed s h None declarable (Some e) place none = absurd (needless s h e place none)
  return_typed s h (Some t) declarable (Some e) place none =
      let first = value_cases s (Some t) e in
      let second = return_cases s.context.program place (Some t) (value_facts s (Some t) e) in
      let v = value_typed variables owner m s h (Some t) declarable e (nil_left first second none) in
      record { typed = (v.typed, tt); is = value_fits variables owner m s h (Some t) e v place t (nil_right first second none) }

  pub record IsTypedThrow (s : Surroundings) (e : syntax.ExprTree) : Type 0 where
    pub typed : AllTyped s (plain_tree s e)
    pub is : IsSomeAnd (first_type (parts_in (expressions (plain_tree s e)))) (IsThrowable s.context.program)

  pub throw_typed : (s : Surroundings) → IsHere variables owner m s → (e : syntax.ExprTree) (place : Pos) → throwing_cases s e place ≡ [] → IsTypedThrow s e
  throw_typed s h e place none =
      let p : Program = s.context.program in
      let covered : List ClassId = s.context.covered in
      let first = value_cases s None e in
      let second = throw_cases p covered place (value_facts s None e) in
      let v = value_typed variables owner m s h None tt e (nil_left first second none) in
      let test = throwable_by (is_throwable p v.vtype) p covered (optional (class_of p v.vtype)) place (subst (λ (o : Option VType). throw_by p covered place o ≡ []) v.gives (nil_right first second none)) in
      record { typed = (v.typed, tt); is = has (part_of (tree s None e)).vtype v.vtype (IsThrowable p) v.is (under_law p h.types.members.hierarchy v.vtype test) }

  -- ---- expressions that are statements

  pub all_typed : (s : Surroundings) → IsHere variables owner m s → (es : List syntax.ExprTree) → AllTyped s (expression_trees s es)
  all_typed s h [] = tt
  all_typed s h (e ∷ es) = (tree_is_typed s variables owner h.scope None tt e, all_typed s h es)

  -- ---- `for`

  pub start_in_scope : (c : StatementContext) (start : ForStartTree) (place : Pos) → HaveTypesFrom variables c.next_variable (start_variables (declaring c.surroundings) start) → start_cases c start place ≡ [] → AreInScope variables owner m (started_locals c start place)
  start_in_scope c (starts.Declaration l) place at none = declaration_in_scope variables owner m c l place at none
  start_in_scope c (starts.Expressions es) place at none = record { variables_of = All-nil (IsVariableOf variables); typed = All-nil (λ y. IsTyped y.variable.static_type) }

  pub start_here : (c : StatementContext) → IsHere variables owner m c.surroundings → (start : ForStartTree) (place : Pos) → HaveTypesFrom variables c.next_variable (start_variables (declaring c.surroundings) start) → start_cases c start place ≡ [] → IsHere variables owner m (behind_start c start place).surroundings
  start_here c h start place at none =
      let x = start_in_scope c start place at none in
      with_more variables owner m c (started_locals c start place) (c.next_variable + heads.start_count start) h x.variables_of x.typed

  record IsTypedStart (c : StatementContext) (start : ForStartTree) (place : Pos) (rest : List ExprTree) : Type 0 where
    typed : AllTyped c.surroundings (start_trees c start place)
    is : IsInitial (context_of variables owner m c.surroundings) (start_form c.next_variable start) (parts_in (expressions (start_trees c start place ++ rest)))

  start_typed : (c : StatementContext) → IsHere variables owner m c.surroundings → (start : ForStartTree) (place : Pos) → HaveTypesFrom variables c.next_variable (start_variables (declaring c.surroundings) start) → start_cases c start place ≡ [] → (rest : List ExprTree) → IsTypedStart c start place rest
  start_typed c h (starts.Declaration l) place at none rest = let d = declaration_typed variables owner m c h l place at none rest in record { typed = d.typed; is = d.fit }
  start_typed c h (starts.Expressions es) place at none rest = record { typed = all_typed c.surroundings h es; is = tt }

  -- the expressions of a `for`
  abbrev for_trees : StatementContext → ForStartTree → Pos → Option syntax.ExprTree → List syntax.ExprTree → List ExprTree
  for_trees c start place e updates = start_trees c start place ++ optional_tree (behind_start c start place).surroundings e ++ expression_trees (behind_start c start place).surroundings updates

  pub record IsTypedFor (c : StatementContext) (start : ForStartTree) (place : Pos) (e : Option syntax.ExprTree) (updates : List syntax.ExprTree) : Type 0 where
    pub typed : AllTyped c.surroundings (for_trees c start place e updates)
    pub is : IsInitial (context_of variables owner m c.surroundings) (start_form c.next_variable start) (parts_in (expressions (for_trees c start place e updates)))
    pub condition : IfCondition (is_some e) (drop (initial_count (start_form c.next_variable start)) (parts_in (expressions (for_trees c start place e updates))))

  pub for_typed : (c : StatementContext) → IsHere variables owner m c.surroundings → (start : ForStartTree) (place : Pos) (e : Option syntax.ExprTree) (updates : List syntax.ExprTree) → HaveTypesFrom variables c.next_variable (start_variables (declaring c.surroundings) start) → start_cases c start place ≡ [] → optional_cases (behind_start c start place).surroundings e place ≡ [] → IsTypedFor c start place e updates
  for_typed c h start place e updates at none_start none_condition =
      let scope : TypingContext = context_of variables owner m c.surroundings in
      let s : Surroundings = (behind_start c start place).surroundings in
      let here = start_here c h start place at none_start in
      let first : List ExprTree = start_trees c start place in
      let second : List ExprTree = optional_tree s e in
      let third : List ExprTree = expression_trees s updates in
      let a = start_typed c h start place at none_start (second ++ third) in
      let b = optional_typed s here e place none_condition third in
      let joined : first ++ (second ++ third) ≡ first ++ second ++ third = sym (append_assoc first second third) in
      let form = start_form c.next_variable start in
      let q : IfCondition (is_some e) (drop (initial_count form) (parts_in (expressions (first ++ (second ++ third))))) = subst (λ (ps : List Part). IfCondition (is_some e) ps) (sym (behind (initial_count form) first (second ++ third) (start_count c.next_variable c start place))) b.is in
      record {
        typed = append_typed scope (first ++ second) third (append_typed scope first second a.typed b.typed) (all_typed s here updates);
        is = subst (λ (ts : List ExprTree). IsInitial scope form (parts_in (expressions ts))) joined a.is;
        condition = subst (λ (ts : List ExprTree). IfCondition (is_some e) (drop (initial_count form) (parts_in (expressions ts)))) joined q;
      }
