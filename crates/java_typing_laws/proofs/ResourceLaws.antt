-- Resources of which nothing is refused: their variables have types, each has a method that closes it, and their initialisers are
-- well-formed.
use Rattle.std.proofs.Common.{◌≡◌, ◌+◌, false, cond, Option, Some, None, List, [], ◌∷◌, ◌++◌, length, length-append, refl, sym, subst, ap, ◌∙◌}
use Rattle.std.proofs.lemmas.List.Elements.{All-append, All-cons, All-nil}
use Rattle.rlc_base.specs.declared.place.Pos.{Pos}
use Rattle.program_model.specs.declared.kinds.ClassId.{ClassId}
use Rattle.program_model.specs.declared.kinds.MethodId.{MethodId}
use Rattle.program_model.specs.declared.kinds.VType.{VType}
use Rattle.program_model.specs.declared.program.Program.{Program}
use Rattle.program_model.specs.Lookups.{method_at}
use Rattle.program_model.specs.Typing.{class_of}
use Rattle.java_syntax.specs.declared.names.Name.{Name}
use Rattle.java_syntax.specs.StatementTrees.{ResourceTree}
use Rattle.java_overloads.specs.declared.choices.Choice.{Choice}
use Rattle.java_overloads.specs.declared.choices.Choice.TheVariants as choices
use Rattle.java_typed_trees.specs.declared.facts.Answer.{Answer}
use Rattle.java_typed_trees.specs.declared.facts.Answer.TheVariants as answers
use Rattle.java_typed_trees.specs.declared.shapes.CallShape.TheVariants as calls
use Rattle.java_typed_trees.specs.Answers.{mismatch, value_at}
use Rattle.java_typed_trees.specs.ExpressionTrees.{expressions}
use Rattle.java_typed_trees.specs.Settling.{own_cases}
use Rattle.java_typed_trees.specs.WellFormed.{AreWellFormed, count}
use Rattle.java_call_rules.specs.JavaMemberRulesCalls.{call_as, is_static_method, object_call_by}
use Rattle.java_call_rules.specs.Arguments.{argument_types}
use Rattle.java_call_rules.specs.Calls.{choice_for, by_resolution, members_named, object_call, resolution_in}
use Rattle.java_call_rules.specs.CallParts.{method_in, method_of_shape}
use Rattle.java_call_rules.specs.Surroundings.{Surroundings}
use Rattle.java_variable_rules.proofs.VariableLaws.{AreTyped, IsTyped}
use Rattle.java_call_rules.proofs.Whole.{of_both}
use Rattle.java_statement_parts.specs.Cases.{value_cases}
use Rattle.java_statement_parts.specs.Typings.{value_facts}
use Rattle.java_statement_parts.proofs.Goodness.{IsKnown, cons_is_nil, known_type, nil_left, nil_right, nil_second}
use Rattle.java_statement_rules.specs.Contexts.{StatementContext, locals_of}
use Rattle.java_statement_rules.specs.DeclaredVariables.{double_cases}
use Rattle.java_statement_rules.specs.Resources.{class_type, class_type_cases, close_name, closeable_cases, closing_by, is_closeable}
use Rattle.java_statement_rules.specs.StatementCases.{storing_cases}
use Rattle.java_statement_parts.specs.Resources.{behind_resource, closing_cases, closing_of, opening_cases, opening_trees, resource_cases, resource_class_cases, resource_local, resource_locals, resource_shape, resource_shapes, resource_shapes_by, resources_cases}
use Rattle.java_typing_laws.proofs.Parts.{holds, known_is_typed, value_well, with_one_typed}

-- ---- the method that closes a resource

pub record IsMethod (m : Option MethodId) : Type 0 where
  pub method : MethodId
  pub is : m ≡ Some method

-- a refusal, or a node that means a method
abbrev pub IsMeant : Answer → Type 0
IsMeant (answers.Is shape facts) = IsMethod (method_of_shape shape)
IsMeant (answers.Wrong code place) = Unit {0}
IsMeant (answers.Silent place) = ⊥

pub meant : (p : Program) (covered : List ClassId) (a : Answer) → IsMeant a → own_cases p covered a ≡ [] → IsMethod (method_in a)
meant p covered (answers.Is shape facts) h none = h
meant p covered (answers.Wrong code place) h none = absurd (cons_is_nil _ _ none)
meant p covered (answers.Silent place) h none = absurd h

chosen : (p : Program) (place : Pos) (t : VType) (x : Choice) → IsMeant (by_resolution (resolution_in place x) (λ m. object_call_by p false place m (value_at place t)))
chosen p place t choices.NotApplicable = tt
chosen p place t choices.NotSpecific = tt
chosen p place t (choices.Chosen m) = of_both IsMeant (is_static_method (method_at p m)) (mismatch place) (call_as p place calls.Other m) tt (record { method = m; is = refl })

close_is_meant : (s : Surroundings) (place : Pos) (t : VType) → IsMeant (object_call s false place close_name (value_at place t) [])
close_is_meant s place t = chosen s.context.program place t (choice_for s.context.program (members_named s close_name (class_of s.context.program t)) (argument_types []))

closing_is_meant : (s : Surroundings) (place at : Pos) (t : Option VType) (n : Name) → class_type_cases t n ++ closeable_cases s at t ≡ [] → IsMeant (closing_by s place t)
closing_is_meant s place at None n none = absurd (cons_is_nil _ _ none)
closing_is_meant s place at (Some t) n none =
    let is = holds (is_closeable s t) at (nil_right (class_type_cases (Some t) n) (closeable_cases s at (Some t)) none) in
    subst (λ b. IsMeant (cond b (object_call s false place close_name (value_at place t) []) (answers.Silent place))) (sym is) (close_is_meant s place t)

-- ---- one resource

-- nothing of the resource is refused
record IsAccepted (c : StatementContext) (r : ResourceTree) (place : Pos) : Type 0 where
  class_none : resource_class_cases c.surroundings r place ≡ []
  closing_none : closing_cases c.surroundings r ≡ []
  opening_none : opening_cases (behind_resource c r).surroundings (class_type c.surroundings r.class') r.value place ≡ []

accepted : (c : StatementContext) (r : ResourceTree) (rs : List ResourceTree) (place : Pos) → resources_cases c (r ∷ rs) place ≡ [] → IsAccepted c r place
accepted c r rs place none =
    let double = double_cases place (locals_of c) r.name.text in
    let of_class = resource_class_cases c.surroundings r place in
    let closing = closing_cases c.surroundings r in
    let opening = opening_cases (behind_resource c r).surroundings (class_type c.surroundings r.class') r.value place in
    let here = nil_left (resource_cases c r place) (resources_cases (behind_resource c r) rs place) none in
    let before = nil_left (double ++ of_class ++ closing) opening here in
    record { class_none = nil_second double of_class closing before; closing_none = nil_right (double ++ of_class) closing before; opening_none = nil_right (double ++ of_class ++ closing) opening here }

others : (c : StatementContext) (r : ResourceTree) (rs : List ResourceTree) (place : Pos) → resources_cases c (r ∷ rs) place ≡ [] → resources_cases (behind_resource c r) rs place ≡ []
others c r rs place none = nil_right (resource_cases c r place) (resources_cases (behind_resource c r) rs place) none

class_known : (c : StatementContext) (r : ResourceTree) (place : Pos) → IsAccepted c r place → IsKnown (class_type c.surroundings r.class')
class_known c r place a =
    let t = class_type c.surroundings r.class' in
    known_type t r.class'.pos (nil_left (class_type_cases t r.class') (closeable_cases c.surroundings place t) a.class_none)

local_typed : (c : StatementContext) (r : ResourceTree) (place : Pos) → IsAccepted c r place → IsTyped (resource_local c r).variable.static_type
local_typed c r place a = known_is_typed (class_type c.surroundings r.class') (class_known c r place a)

behind_typed : (c : StatementContext) → AreTyped (locals_of c) → (r : ResourceTree) (place : Pos) → IsAccepted c r place → AreTyped (locals_of (behind_resource c r))
behind_typed c typed r place a = with_one_typed (locals_of c) (resource_local c r) typed (local_typed c r place a)

one_shape : (c : StatementContext) (r : ResourceTree) (place : Pos) → IsAccepted c r place → length (resource_shape c r) ≡ 1
one_shape c r place a =
    let s = c.surroundings in
    let t = class_type s r.class' in
    let m = meant s.context.program s.context.covered (closing_of s r) (closing_is_meant s r.name.pos place t r.class' a.class_none) a.closing_none in
    ap (λ x. length (resource_shapes_by c.next_variable r.name.pos x)) m.is

-- ---- all of a `try`

locals_typed : (c : StatementContext) (rs : List ResourceTree) (place : Pos) → resources_cases c rs place ≡ [] → AreTyped (resource_locals c rs)
locals_typed c [] place none = All-nil (λ y. IsTyped y.variable.static_type)
locals_typed c (r ∷ rs) place none = All-cons (λ y. IsTyped y.variable.static_type) (resource_local c r) (resource_locals (behind_resource c r) rs) (local_typed c r place (accepted c r rs place none)) (locals_typed (behind_resource c r) rs place (others c r rs place none))

pub resources_typed : (c : StatementContext) → AreTyped (locals_of c) → (rs : List ResourceTree) (place : Pos) → resources_cases c rs place ≡ [] → AreTyped (locals_of c ++ resource_locals c rs)
resources_typed c typed rs place none = All-append (λ y. IsTyped y.variable.static_type) (locals_of c) (resource_locals c rs) typed (locals_typed c rs place none)

pub resources_well : (c : StatementContext) → AreTyped (locals_of c) → (rs : List ResourceTree) (place : Pos) → resources_cases c rs place ≡ [] → AreWellFormed (expressions (opening_trees c rs))
resources_well c typed [] place none = tt
resources_well c typed (r ∷ rs) place none =
    let a = accepted c r rs place none in
    let behind = behind_typed c typed r place a in
    let inside = (behind_resource c r).surroundings in
    let t = class_type c.surroundings r.class' in
    (value_well inside behind t r.value (nil_left (value_cases inside t r.value) (storing_cases inside.context.program place t (value_facts inside t r.value)) a.opening_none), resources_well (behind_resource c r) behind rs place (others c r rs place none))

pub resources_count : (c : StatementContext) (rs : List ResourceTree) (place : Pos) → resources_cases c rs place ≡ [] → count (expressions (opening_trees c rs)) ≡ length (resource_shapes c rs)
resources_count c [] place none = refl
resources_count c (r ∷ rs) place none =
    let behind = behind_resource c r in
    ap (λ n. 1 + n) (resources_count behind rs place (others c r rs place none))
    ∙ ap (λ n. n + length (resource_shapes behind rs)) (sym (one_shape c r place (accepted c r rs place none)))
    ∙ sym (length-append (resource_shape c r) (resource_shapes behind rs))
