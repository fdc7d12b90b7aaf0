-- Resources of which nothing is refused: their variables are those of the body, their initialisers fit, and each has its `close()`.
use Rattle.std.proofs.Common.{◌≡◌, ◌∙◌, ◌+◌, ℕ, true, Option, Some, None, List, [], ◌∷◌, ◌++◌, length, refl, sym, subst, arith}
use Rattle.std.specs.List.{AllZip}
use Rattle.std.specs.Option.{IsSomeAnd}
use Rattle.std.proofs.lemmas.List.{append-nil}
use Rattle.std.proofs.lemmas.List.Elements.{All-cons, All-nil}
use Rattle.rlc_base.specs.declared.place.Pos.{Pos}
use Rattle.program_model.specs.declared.kinds.ClassId.{ClassId}
use Rattle.program_model.specs.declared.kinds.MethodId.{MethodId}
use Rattle.program_model.specs.declared.kinds.VType.{VType}
use Rattle.program_model.specs.declared.program.Method.{Method}
use Rattle.program_model.specs.declared.program.Program.{Program}
use Rattle.program_model.specs.declared.tree.Var.{Var}
use Rattle.program_model.specs.Lookups.{method_at}
use Rattle.program_model.specs.Typing.{IsClose}
use Rattle.java_syntax.specs.StatementTrees.{ResourceTree}
use Rattle.java_typed_trees.specs.ExpressionTrees.{expressions}
use Rattle.java_call_rules.specs.CallParts.{method_in}
use Rattle.java_call_rules.specs.Surroundings.{Surroundings}
use Rattle.java_variable_rules.proofs.VariableLaws.{IsTyped}
use Rattle.java_statement_parts.specs.Cases.{value_cases}
use Rattle.java_statement_parts.specs.Typings.{value_facts}
use Rattle.java_statement_parts.proofs.Goodness.{known_type, nil_left, nil_right}
use Rattle.java_statement_rules.specs.Contexts.{StatementContext, locals_of}
use Rattle.java_statement_rules.specs.DeclaredVariables.{double_cases}
use Rattle.java_statement_rules.specs.Resources.{class_type, class_type_cases, closeable_cases, closing_by}
use Rattle.java_statement_rules.specs.StatementCases.{storing_cases}
use Rattle.java_statement_parts.specs.Resources.{behind_resource, closing_cases, closing_of, opening_cases, opening_tree, opening_trees, resource_cases, resource_class_cases, resource_local, resource_locals, resource_shapes, resource_shapes_by, resources_cases}
use Rattle.java_typing_laws.proofs.Parts.{known_is_typed}
use Rattle.java_typing_laws.proofs.ResourceLaws.{IsMethod, resources_count}
use Rattle.java_bodies.specs.BodyVariables.{resource_variables}
use Rattle.java_bodies.specs.Declarations.{declared}
use Rattle.java_typing_laws.specs.TypingContexts.{IfDeclarable, IsVariableOf, TypingContext, type_of_number}
use Rattle.java_typing_laws.specs.TypedTrees.{AreTypedTrees, FitsIn, part_of, parts_in}
use Rattle.java_typing_laws.proofs.OperatorRules.{has}
use Rattle.java_typing_laws.specs.Scopes.{HaveTypesFrom, declaring}
use Rattle.java_typing_laws.specs.TypedForms.{IsResource}
use Rattle.java_typing_laws.proofs.ClosingMethods.{closing_law}
use Rattle.java_typing_laws.proofs.DeclarationTyping.{AreInScope, is_variable_of}
use Rattle.java_typing_laws.proofs.Values.{IsHere, IsTypedValue, context_of, value_fits, value_typed, with_more}

-- ---- one resource

-- nothing of the resource is refused
pub record IsAccepted (c : StatementContext) (r : ResourceTree) (place : Pos) : Type 0 where
  pub vtype : VType
  pub is : class_type c.surroundings r.class' ≡ Some vtype
  pub opening : opening_cases (behind_resource c r).surroundings (class_type c.surroundings r.class') r.value place ≡ []
  pub method : MethodId
  pub means : method_in (closing_of c.surroundings r) ≡ Some method

shape_means : (n : ℕ) (place : Pos) (o : Option MethodId) → length (resource_shapes_by n place o ++ []) ≡ 1 → IsMethod o
shape_means n place None h = absurd (omega arith)
shape_means n place (Some m) h = record { method = m; is = refl }

pub accepted : (c : StatementContext) (r : ResourceTree) (place : Pos) → resource_cases c r place ≡ [] → IsAccepted c r place
accepted c r place none =
    let t = class_type c.surroundings r.class' in
    let double = double_cases place (locals_of c) r.name.text in
    let of_class = resource_class_cases c.surroundings r place in
    let closing = closing_cases c.surroundings r in
    let opening = opening_cases (behind_resource c r).surroundings t r.value place in
    let before = nil_left (double ++ of_class ++ closing) opening none in
    let known = known_type t r.class'.pos (nil_left (class_type_cases t r.class') (closeable_cases c.surroundings place t) (nil_right double of_class (nil_left (double ++ of_class) closing before))) in
    let alone : resources_cases c (r ∷ []) place ≡ [] = append-nil (resource_cases c r place) ∙ none in
    let found = shape_means c.next_variable r.name.pos (method_in (closing_of c.surroundings r)) (sym (resources_count c (r ∷ []) place alone)) in
    record { vtype = known.vtype; is = known.is; opening = nil_right (double ++ of_class ++ closing) opening none; method = found.method; means = found.is }

module _ (variables : List Var) (owner : Option ClassId) (m : Method) where
  record IsNumbered (c : StatementContext) (rs : List ResourceTree) (t : VType) : Type 0 where
    here : type_of_number variables c.next_variable ≡ Some t
    more : HaveTypesFrom variables (c.next_variable + 1) (resource_variables (declaring c.surroundings) rs)

  numbered : (c : StatementContext) (r : ResourceTree) (rs : List ResourceTree) (t : VType) → class_type c.surroundings r.class' ≡ Some t → HaveTypesFrom variables c.next_variable (resource_variables (declaring c.surroundings) (r ∷ rs)) → IsNumbered c rs t
  numbered c r rs t is at =
      let both = subst (λ (u : Option VType). HaveTypesFrom variables c.next_variable (declared r.modifiers r.name u ++ resource_variables (declaring c.surroundings) rs)) is at in
      record { here = both.0; more = both.1 }

  local_of : (c : StatementContext) (r : ResourceTree) (t : VType) → class_type c.surroundings r.class' ≡ Some t → type_of_number variables c.next_variable ≡ Some t → IsVariableOf variables (resource_local c r)
  local_of c r t is at = is_variable_of variables c.next_variable r.name.text (class_type c.surroundings r.class') true None (at ∙ sym is)

  local_typed : (c : StatementContext) (r : ResourceTree) (t : VType) → class_type c.surroundings r.class' ≡ Some t → IsTyped (resource_local c r).variable.static_type
  local_typed c r t is = known_is_typed (class_type c.surroundings r.class') (record { vtype = t; is = is })

  -- where its initialiser stands
  inside : (c : StatementContext) → IsHere variables owner m c.surroundings → (r : ResourceTree) (t : VType) → class_type c.surroundings r.class' ≡ Some t → type_of_number variables c.next_variable ≡ Some t → IsHere variables owner m (behind_resource c r).surroundings
  inside c h r t is at = with_more variables owner m c (resource_local c r ∷ []) (c.next_variable + 1) h (All-cons (IsVariableOf variables) (resource_local c r) [] (local_of c r t is at) (All-nil (IsVariableOf variables))) (All-cons (λ w. IsTyped w.variable.static_type) (resource_local c r) [] (local_typed c r t is) (All-nil (λ w. IsTyped w.variable.static_type)))

  -- ---- all of a `try`

  pub resources_in_scope : (c : StatementContext) (rs : List ResourceTree) (place : Pos) → HaveTypesFrom variables c.next_variable (resource_variables (declaring c.surroundings) rs) → resources_cases c rs place ≡ [] → AreInScope variables owner m (resource_locals c rs)
  resources_in_scope c [] place at none = record { variables_of = All-nil (IsVariableOf variables); typed = All-nil (λ y. IsTyped y.variable.static_type) }
  resources_in_scope c (r ∷ rs) place at none =
      let behind = behind_resource c r in
      let a = accepted c r place (nil_left (resource_cases c r place) (resources_cases behind rs place) none) in
      let n = numbered c r rs a.vtype a.is at in
      let rest = resources_in_scope behind rs place n.more (nil_right (resource_cases c r place) (resources_cases behind rs place) none) in
      record {
        variables_of = All-cons (IsVariableOf variables) (resource_local c r) (resource_locals behind rs) (local_of c r a.vtype a.is n.here) rest.variables_of;
        typed = All-cons (λ y. IsTyped y.variable.static_type) (resource_local c r) (resource_locals behind rs) (local_typed c r a.vtype a.is) rest.typed;
      }

  -- the initialisers are typed, and fit
  pub record AreResources (c : StatementContext) (rs : List ResourceTree) : Type 0 where
    pub typed : AreTypedTrees (context_of variables owner m c.surroundings) (expressions (opening_trees c rs))
    pub are : AllZip (IsResource (context_of variables owner m c.surroundings)) (resource_shapes c rs) (parts_in (expressions (opening_trees c rs)))

  opening_typed : (c : StatementContext) → IsHere variables owner m c.surroundings → (r : ResourceTree) (t : VType) → class_type c.surroundings r.class' ≡ Some t → type_of_number variables c.next_variable ≡ Some t → (place : Pos) → opening_cases (behind_resource c r).surroundings (class_type c.surroundings r.class') r.value place ≡ [] → IsTypedValue variables owner m (behind_resource c r).surroundings (class_type c.surroundings r.class') r.value
  opening_typed c h r t is at place none =
      let s : Surroundings = (behind_resource c r).surroundings in
      let u : Option VType = class_type c.surroundings r.class' in
      let wanted : IfDeclarable s.context.program u = subst (λ (o : Option VType). IfDeclarable s.context.program o) (sym is) (h.scope.declarable c.next_variable t at) in
      value_typed variables owner m s (inside c h r t is at) u wanted r.value (nil_left (value_cases s u r.value) (storing_cases s.context.program place u (value_facts s u r.value)) none)

  resource_typed : (c : StatementContext) → IsHere variables owner m c.surroundings → (r : ResourceTree) (place : Pos) (a : IsAccepted c r place) → type_of_number variables c.next_variable ≡ Some a.vtype → IsResource (context_of variables owner m c.surroundings) (record { variable = c.next_variable; close = a.method; pos = r.name.pos }) (part_of (opening_tree c r))
  resource_typed c h r place a at =
      let p : Program = c.surroundings.context.program in
      let s : Surroundings = (behind_resource c r).surroundings in
      let u : Option VType = class_type c.surroundings r.class' in
      let v = opening_typed c h r a.vtype a.is at place a.opening in
      let store : storing_cases p place (Some a.vtype) (value_facts s u r.value) ≡ [] = subst (λ (o : Option VType). storing_cases p place o (value_facts s u r.value) ≡ []) a.is (nil_right (value_cases s u r.value) (storing_cases p place u (value_facts s u r.value)) a.opening) in
      let fits = value_fits variables owner m s (inside c h r a.vtype a.is at) u r.value v place a.vtype store in
      let means = subst (λ (o : Option VType). method_in (closing_by c.surroundings r.name.pos o) ≡ Some a.method) a.is a.means in
      let closes = closing_law c.surroundings h.scope.members r.name.pos a.vtype a.method means in
      has (type_of_number variables c.next_variable) a.vtype (λ t. FitsIn p (part_of (opening_tree c r)).vtype t × IsSomeAnd (method_at p a.method) (IsClose p t)) at (fits, closes)

  pub resources_typed : (c : StatementContext) → IsHere variables owner m c.surroundings → (rs : List ResourceTree) (place : Pos) → HaveTypesFrom variables c.next_variable (resource_variables (declaring c.surroundings) rs) → resources_cases c rs place ≡ [] → AreResources c rs
  resources_typed c h [] place at none = record { typed = tt; are = tt }
  resources_typed c h (r ∷ rs) place at none =
      let behind = behind_resource c r in
      let scope : TypingContext = context_of variables owner m c.surroundings in
      let a = accepted c r place (nil_left (resource_cases c r place) (resources_cases behind rs place) none) in
      let n = numbered c r rs a.vtype a.is at in
      let v = opening_typed c h r a.vtype a.is n.here place a.opening in
      let rest = resources_typed behind (inside c h r a.vtype a.is n.here) rs place n.more (nil_right (resource_cases c r place) (resources_cases behind rs place) none) in
      record {
        typed = (v.typed, rest.typed);
        are = subst (λ (o : Option MethodId). AllZip (IsResource scope) (resource_shapes_by c.next_variable r.name.pos o ++ resource_shapes behind rs) (parts_in (expressions (opening_trees c (r ∷ rs))))) (sym a.means) (resource_typed c h r place a n.here, rest.are);
      }
