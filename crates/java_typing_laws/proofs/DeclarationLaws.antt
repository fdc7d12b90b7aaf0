-- Declarations of local variables in which nothing is refused: their variables have types, and their trees are well-formed.
use Rattle.std.proofs.Common.{◌≡◌, ℕ, ◌+◌, cond, Option, Some, None, List, [], ◌∷◌, ◌++◌, refl, sym, ap, ◌∙◌}
use Rattle.std.specs.Option.{is_some}
use Rattle.std.proofs.lemmas.List.Elements.{All-append, All-cons, All-nil}
use Rattle.std.proofs.lemmas.List.Sums.{sum_by-cons}
use Rattle.rlc_base.specs.declared.place.Pos.{Pos}
use Rattle.java_syntax.specs.ExpressionTrees as syntax
use Rattle.java_syntax.specs.StatementTrees.{LocalTree, VariableTree}
use Rattle.java_typed_trees.specs.ExpressionTrees.{expressions}
use Rattle.java_typed_trees.specs.WellFormed.{AreWellFormed, count}
use Rattle.java_typed_trees.specs.WellFormedStatements.{initialized}
use Rattle.java_call_rules.specs.WrittenTypes.{cast_type, type_cases}
use Rattle.java_call_rules.specs.Surroundings.{Surroundings}
use Rattle.java_variable_rules.proofs.VariableLaws.{AreTyped, IsTyped}
use Rattle.java_statement_parts.specs.Cases.{value_cases}
use Rattle.java_statement_parts.specs.Typings.{value_facts}
use Rattle.java_statement_parts.proofs.Goodness.{IsKnown, known_type, nil_left, nil_right}
use Rattle.java_statement_rules.specs.Contexts.{StatementContext, locals_of, with_local}
use Rattle.java_statement_rules.specs.DeclaredVariables.{double_cases}
use Rattle.java_statement_rules.specs.StatementCases.{storing_cases}
use Rattle.java_statement_parts.specs.declared.declarations.Declared.{Declared}
use Rattle.java_statement_parts.specs.Declarations.{behind_initializer, declaration_cases, declaration_trees, declarators, declared_by, declared_local, declared_locals, in_initializer, initializer_cases, initializer_tree, initializer_trees, locals_declared, variable_cases, variables_cases}
use Rattle.java_typing_laws.proofs.Parts.{append_well, count_append, known_is_typed, value_well, with_one_typed}

-- ---- the variables

declared_are_typed : (c : StatementContext) (d : Declared) → IsKnown d.vtype → (vs : List VariableTree) → AreTyped (declared_locals c d vs)
declared_are_typed c d k [] = All-nil (λ y. IsTyped y.variable.static_type)
declared_are_typed c d k (v ∷ vs) = All-cons (λ y. IsTyped y.variable.static_type) (behind_initializer c d v) (declared_locals (with_local c (behind_initializer c d v)) d vs) (known_is_typed d.vtype k) (declared_are_typed (with_local c (behind_initializer c d v)) d k vs)

type_known : (c : StatementContext) (l : LocalTree) (place : Pos) → declaration_cases c l place ≡ [] → IsKnown (cast_type c.surroundings l.typ)
type_known c l place none = known_type (cast_type c.surroundings l.typ) l.typ.pos (nil_left (type_cases (cast_type c.surroundings l.typ) l.typ) (variables_cases c (declared_by c.surroundings l place) l.variables) none)

pub declaration_typed : (c : StatementContext) → AreTyped (locals_of c) → (l : LocalTree) (place : Pos) → declaration_cases c l place ≡ [] → AreTyped (locals_of c ++ locals_declared c l place)
declaration_typed c typed l place none = All-append (λ y. IsTyped y.variable.static_type) (locals_of c) (locals_declared c l place) typed (declared_are_typed c (declared_by c.surroundings l place) (type_known c l place none) l.variables)

-- ---- the initialisers

initializer_well : (s : Surroundings) → AreTyped s.context.locals → (d : Declared) (e : Option syntax.ExprTree) → initializer_cases s d e ≡ [] → AreWellFormed (expressions (initializer_tree s d e))
initializer_well s typed d None none = tt
initializer_well s typed d (Some e) none = (value_well s typed d.vtype e (nil_left (value_cases s d.vtype e) (storing_cases s.context.program d.pos d.vtype (value_facts s d.vtype e)) none), tt)

variables_well : (c : StatementContext) → AreTyped (locals_of c) → (d : Declared) → IsKnown d.vtype → (vs : List VariableTree) → variables_cases c d vs ≡ [] → AreWellFormed (expressions (initializer_trees c d vs))
variables_well c typed d k [] none = tt
variables_well c typed d k (v ∷ vs) none =
    let behind = with_local c (behind_initializer c d v) in
    let inside = in_initializer c d v in
    let here = nil_right (double_cases d.pos (locals_of c) v.name.text) (initializer_cases inside.surroundings d v.initializer) (nil_left (variable_cases c d v) (variables_cases behind d vs) none) in
    let first = initializer_well inside.surroundings (with_one_typed (locals_of c) (declared_local c.next_variable d v None) typed (known_is_typed d.vtype k)) d v.initializer here in
    let rest = variables_well behind (with_one_typed (locals_of c) (behind_initializer c d v) typed (known_is_typed d.vtype k)) d k vs (nil_right (variable_cases c d v) (variables_cases behind d vs) none) in
    append_well (initializer_tree inside.surroundings d v.initializer) (initializer_trees behind d vs) first rest

pub declaration_well : (c : StatementContext) → AreTyped (locals_of c) → (l : LocalTree) (place : Pos) → declaration_cases c l place ≡ [] → AreWellFormed (expressions (declaration_trees c l place))
declaration_well c typed l place none = variables_well c typed (declared_by c.surroundings l place) (type_known c l place none) l.variables (nil_right (type_cases (cast_type c.surroundings l.typ) l.typ) (variables_cases c (declared_by c.surroundings l place) l.variables) none)

-- ---- how many there are

initializer_count : (s : Surroundings) (d : Declared) (e : Option syntax.ExprTree) → count (expressions (initializer_tree s d e)) ≡ cond (is_some e) 1 0
initializer_count s d None = refl
initializer_count s d (Some e) = refl

initializers_count : (n : ℕ) (c : StatementContext) (d : Declared) (vs : List VariableTree) → count (expressions (initializer_trees c d vs)) ≡ initialized (declarators n vs)
initializers_count n c d [] = refl
initializers_count n c d (v ∷ vs) =
    let behind = with_local c (behind_initializer c d v) in
    let inside = (in_initializer c d v).surroundings in
    count_append (initializer_tree inside d v.initializer) (initializer_trees behind d vs)
    ∙ ap (λ k. k + count (expressions (initializer_trees behind d vs))) (initializer_count inside d v.initializer)
    ∙ ap (λ k. cond (is_some v.initializer) 1 0 + k) (initializers_count (n + 1) behind d vs)
    ∙ sym (sum_by-cons (λ x. cond x.has_initializer 1 0) (record { variable = n; has_initializer = is_some v.initializer; pos = v.name.pos }) (declarators (n + 1) vs))

pub declaration_count : (n : ℕ) (c : StatementContext) (l : LocalTree) (place : Pos) → count (expressions (declaration_trees c l place)) ≡ initialized (declarators n l.variables)
declaration_count n c l place = initializers_count n c (declared_by c.surroundings l place) l.variables
