-- Declarations of local variables in which nothing is refused: their variables are those of the body, and their initialisers fit.
use Rattle.std.proofs.Common.{◌≡◌, ◌∙◌, ◌+◌, ℕ, ℤ, Bool, Option, Some, None, List, [], ◌∷◌, ◌++◌, All, append_assoc, sym, subst}
use Rattle.std.specs.List.{flat_map}
use Rattle.std.specs.Option.{is_some}
use Rattle.std.proofs.lemmas.List.Elements.{All-cons, All-nil}
use Rattle.rlc_base.specs.declared.place.Pos.{Pos}
use Rattle.program_model.specs.declared.kinds.ClassId.{ClassId}
use Rattle.program_model.specs.declared.kinds.VType.{VType}
use Rattle.program_model.specs.declared.program.Method.{Method}
use Rattle.program_model.specs.declared.tree.Var.{Var}
use Rattle.program_model.specs.Typing.{IsDeclarable}
use Rattle.java_syntax.specs.AnnotationTrees.{ModifierTree}
use Rattle.java_syntax.specs.ExpressionTrees as syntax
use Rattle.java_syntax.specs.StatementTrees.{LocalTree, VariableTree}
use Rattle.java_typed_trees.specs.declared.scope.Local.{Local}
use Rattle.java_typed_trees.specs.declared.statements.DeclaratorShape.{DeclaratorShape}
use Rattle.java_typed_trees.specs.ExpressionTrees.{ExprTree, expressions}
use Rattle.java_call_rules.specs.WrittenTypes.{cast_type, type_cases}
use Rattle.java_call_rules.specs.Surroundings.{Surroundings}
use Rattle.java_variable_rules.proofs.VariableLaws.{AreTyped, IsTyped}
use Rattle.java_statement_parts.specs.Cases.{value_cases}
use Rattle.java_statement_parts.specs.Typings.{value_facts}
use Rattle.java_statement_parts.proofs.Goodness.{IsKnown, known_type, nil_left, nil_right}
use Rattle.java_statement_rules.specs.Contexts.{StatementContext, locals_of, with_local}
use Rattle.java_statement_rules.specs.DeclaredVariables.{double_cases, local_variable}
use Rattle.java_statement_rules.specs.StatementCases.{storing_cases}
use Rattle.java_statement_parts.specs.declared.declarations.Declared.{Declared}
use Rattle.java_statement_parts.specs.Declarations.{behind_initializer, declaration_cases, declaration_trees, declarators, declared_by, declared_local, declared_locals, in_initializer, initial_constant, initializer_cases, initializer_tree, initializer_trees, is_never_assigned, locals_declared, variable_cases, variables_cases}
use Rattle.java_bodies.specs.BodyVariables.{local_variables}
use Rattle.java_bodies.specs.Declarations.{declared}
use Rattle.java_typing_laws.proofs.Parts.{known_is_typed}
use Rattle.java_typing_laws.specs.TypingContexts.{IfDeclarable, IsVariableOf, TypingContext, type_of_number}
use Rattle.java_typing_laws.specs.TypedTrees.{AreTypedTrees, parts_in}
use Rattle.java_typing_laws.proofs.Conversions.{none_is_some}
use Rattle.java_typing_laws.proofs.OperatorRules.{has}
use Rattle.java_typing_laws.specs.Scopes.{HaveTypesFrom, declaring}
use Rattle.java_typing_laws.specs.TypedForms.{AreDeclarators, IfFits, behind_if}
use Rattle.java_typing_laws.proofs.Values.{IsHere, append_typed, context_of, value_fits, value_typed, with_more}

-- ---- one variable in scope

-- a variable of the body with this number, where that has its type
pub is_variable_of : (variables : List Var) (n : ℕ) (name : List ℕ) (t : Option VType) (is_final : Bool) (constant : Option ℤ) → type_of_number variables n ≡ t → IsVariableOf variables (local_variable n name t is_final constant)
is_variable_of variables n name None is_final constant is u e = absurd (none_is_some u e)
is_variable_of variables n name (Some t) is_final constant is u e = is ∙ e

pub known_by : (t : Option VType) (u : VType) → t ≡ Some u → IsKnown t
known_by t u is = record { vtype = u; is = is }

-- ---- all variables of a declaration

-- from this number on, as many variables of the body have the type
abbrev pub AreNumbered : List Var → VType → ℕ → List VariableTree → Type 0
AreNumbered variables t n [] = Unit {0}
AreNumbered variables t n (v ∷ vs) = (type_of_number variables n ≡ Some t) × AreNumbered variables t (n + 1) vs

numbered_some : (variables : List Var) (modifiers : List ModifierTree) (t : VType) (n : ℕ) (vs : List VariableTree) → HaveTypesFrom variables n (flat_map (λ v. declared modifiers v.name (Some t)) vs) → AreNumbered variables t n vs
numbered_some variables modifiers t n [] h = tt
numbered_some variables modifiers t n (v ∷ vs) h = (h.0, numbered_some variables modifiers t (n + 1) vs h.1)

numbered : (variables : List Var) (s : Surroundings) (l : LocalTree) (t : VType) (n : ℕ) → cast_type s l.typ ≡ Some t → HaveTypesFrom variables n (local_variables (declaring s) l) → AreNumbered variables t n l.variables
numbered variables s l t n is h = numbered_some variables l.modifiers t n l.variables (subst (λ (u : Option VType). HaveTypesFrom variables n (flat_map (λ v. declared l.modifiers v.name u) l.variables)) is h)

module _ (variables : List Var) (owner : Option ClassId) (m : Method) where
  -- in scope, and typed
  pub record AreInScope (xs : List Local) : Type 0 where
    pub variables_of : All (IsVariableOf variables) xs
    pub typed : AreTyped xs

  declared_in_scope : (c : StatementContext) (d : Declared) (t : VType) → d.vtype ≡ Some t → (vs : List VariableTree) → AreNumbered variables t c.next_variable vs → AreInScope (declared_locals c d vs)
  declared_in_scope c d t is [] h = record { variables_of = All-nil (IsVariableOf variables); typed = All-nil (λ y. IsTyped y.variable.static_type) }
  declared_in_scope c d t is (v ∷ vs) h =
      let x : Local = behind_initializer c d v in
      let rest = declared_in_scope (with_local c x) d t is vs h.1 in
      record {
        variables_of = All-cons (IsVariableOf variables) x (declared_locals (with_local c x) d vs) (is_variable_of variables c.next_variable v.name.text d.vtype (is_never_assigned d v) (initial_constant (in_initializer c d v).surroundings d v.initializer) (h.0 ∙ sym is)) rest.variables_of;
        typed = All-cons (λ y. IsTyped y.variable.static_type) x (declared_locals (with_local c x) d vs) (known_is_typed d.vtype (known_by d.vtype t is)) rest.typed;
      }

  -- ---- initialisers

  -- an initialiser, where there is one, is typed and fits
  record IsInitialized (s : Surroundings) (d : Declared) (t : VType) (e : Option syntax.ExprTree) (rest : List ExprTree) : Type 0 where
    typed : AreTypedTrees (context_of variables owner m s) (expressions (initializer_tree s d e))
    fits : IfFits s.context.program (is_some e) (parts_in (expressions (initializer_tree s d e ++ rest))) t

  initializer_typed : (s : Surroundings) → IsHere variables owner m s → (d : Declared) (t : VType) → d.vtype ≡ Some t → IsDeclarable s.context.program t → (e : Option syntax.ExprTree) → initializer_cases s d e ≡ [] → (rest : List ExprTree) → IsInitialized s d t e rest
  initializer_typed s h d t is declarable None none rest = record { typed = tt; fits = tt }
  initializer_typed s h d t is declarable (Some e) none rest =
      let first = value_cases s d.vtype e in
      let second = storing_cases s.context.program d.pos d.vtype (value_facts s d.vtype e) in
      let wanted : IfDeclarable s.context.program d.vtype = subst (λ (o : Option VType). IfDeclarable s.context.program o) (sym is) declarable in
      let v = value_typed variables owner m s h d.vtype wanted e (nil_left first second none) in
      let store : storing_cases s.context.program d.pos (Some t) (value_facts s d.vtype e) ≡ [] = subst (λ (o : Option VType). storing_cases s.context.program d.pos o (value_facts s d.vtype e) ≡ []) is (nil_right first second none) in
      record { typed = (v.typed, tt); fits = value_fits variables owner m s h d.vtype e v d.pos t store }

  others : (c : TypingContext) (s : Surroundings) (d : Declared) (e : Option syntax.ExprTree) (xs : List DeclaratorShape) (rest : List ExprTree) → AreDeclarators c xs (parts_in (expressions rest)) → AreDeclarators c xs (behind_if (is_some e) (parts_in (expressions (initializer_tree s d e ++ rest))))
  others c s d None xs rest h = h
  others c s d (Some e) xs rest h = h

  -- those of all variables are typed, and fit
  record AreInitialized (c : StatementContext) (d : Declared) (vs : List VariableTree) (rest : List ExprTree) : Type 0 where
    typed : AreTypedTrees (context_of variables owner m c.surroundings) (expressions (initializer_trees c d vs))
    fit : AreDeclarators (context_of variables owner m c.surroundings) (declarators c.next_variable vs) (parts_in (expressions (initializer_trees c d vs ++ rest)))

  variables_typed : (c : StatementContext) → IsHere variables owner m c.surroundings → (d : Declared) (t : VType) → d.vtype ≡ Some t → (vs : List VariableTree) → AreNumbered variables t c.next_variable vs → variables_cases c d vs ≡ [] → (rest : List ExprTree) → AreInitialized c d vs rest
  variables_typed c h d t is [] at none rest = record { typed = tt; fit = tt }
  variables_typed c h d t is (v ∷ vs) at none rest =
      let scope : TypingContext = context_of variables owner m c.surroundings in
      let x : Local = declared_local c.next_variable d v None in
      let inside : Surroundings = (in_initializer c d v).surroundings in
      let y : Local = behind_initializer c d v in
      let behind : StatementContext = with_local c y in
      let typed = known_is_typed d.vtype (known_by d.vtype t is) in
      let one = λ (z : Local) (is_z : IsVariableOf variables z) (typed_z : IsTyped z.variable.static_type). with_more variables owner m c (z ∷ []) (c.next_variable + 1) h (All-cons (IsVariableOf variables) z [] is_z (All-nil (IsVariableOf variables))) (All-cons (λ w. IsTyped w.variable.static_type) z [] typed_z (All-nil (λ w. IsTyped w.variable.static_type))) in
      let there = at.0 ∙ sym is in
      let here = nil_right (double_cases d.pos (locals_of c) v.name.text) (initializer_cases inside d v.initializer) (nil_left (variable_cases c d v) (variables_cases behind d vs) none) in
      let first : List ExprTree = initializer_tree inside d v.initializer in
      let more : List ExprTree = initializer_trees behind d vs in
      let declarable : IsDeclarable c.surroundings.context.program t = h.scope.declarable c.next_variable t at.0 in
      let a = initializer_typed inside (one x (is_variable_of variables c.next_variable v.name.text d.vtype (is_never_assigned d v) None there) typed) d t is declarable v.initializer here (more ++ rest) in
      let b = variables_typed behind (one y (is_variable_of variables c.next_variable v.name.text d.vtype (is_never_assigned d v) (initial_constant inside d v.initializer) there) typed) d t is vs at.1 (nil_right (variable_cases c d v) (variables_cases behind d vs) none) rest in
      let fit : AreDeclarators scope (declarators c.next_variable (v ∷ vs)) (parts_in (expressions (first ++ (more ++ rest)))) =
      (has (type_of_number variables c.next_variable) t (IfFits c.surroundings.context.program (is_some v.initializer) (parts_in (expressions (first ++ (more ++ rest))))) at.0 a.fits, others scope inside d v.initializer (declarators (c.next_variable + 1) vs) (more ++ rest) b.fit) in
      record {
        typed = append_typed scope first more a.typed b.typed;
        fit = subst (λ (ts : List ExprTree). AreDeclarators scope (declarators c.next_variable (v ∷ vs)) (parts_in (expressions ts))) (sym (append_assoc first more rest)) fit;
      }

  -- ---- a declaration

  type_known : (c : StatementContext) (l : LocalTree) (place : Pos) → declaration_cases c l place ≡ [] → IsKnown (cast_type c.surroundings l.typ)
  type_known c l place none = known_type (cast_type c.surroundings l.typ) l.typ.pos (nil_left (type_cases (cast_type c.surroundings l.typ) l.typ) (variables_cases c (declared_by c.surroundings l place) l.variables) none)

  pub declaration_in_scope : (c : StatementContext) (l : LocalTree) (place : Pos) → HaveTypesFrom variables c.next_variable (local_variables (declaring c.surroundings) l) → declaration_cases c l place ≡ [] → AreInScope (locals_declared c l place)
  declaration_in_scope c l place at none =
      let k = type_known c l place none in
      declared_in_scope c (declared_by c.surroundings l place) k.vtype k.is l.variables (numbered variables c.surroundings l k.vtype c.next_variable k.is at)

  -- the initialisers are typed and fit, whatever stands behind them
  pub record IsDeclared (c : StatementContext) (l : LocalTree) (place : Pos) (rest : List ExprTree) : Type 0 where
    pub typed : AreTypedTrees (context_of variables owner m c.surroundings) (expressions (declaration_trees c l place))
    pub fit : AreDeclarators (context_of variables owner m c.surroundings) (declarators c.next_variable l.variables) (parts_in (expressions (declaration_trees c l place ++ rest)))

  pub declaration_typed : (c : StatementContext) → IsHere variables owner m c.surroundings → (l : LocalTree) (place : Pos) → HaveTypesFrom variables c.next_variable (local_variables (declaring c.surroundings) l) → declaration_cases c l place ≡ [] → (rest : List ExprTree) → IsDeclared c l place rest
  declaration_typed c h l place at none rest =
      let k = type_known c l place none in
      let d : Declared = declared_by c.surroundings l place in
      let r = variables_typed c h d k.vtype k.is l.variables (numbered variables c.surroundings l k.vtype c.next_variable k.is at) (nil_right (type_cases (cast_type c.surroundings l.typ) l.typ) (variables_cases c d l.variables) none) rest in
      record { typed = r.typed; fit = r.fit }
