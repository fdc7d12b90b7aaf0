-- The resources of `try` (JLS 14.20.3). Each is in scope in its own initialiser, in those behind it and in the block (JLS 6.3),
-- and is never assigned again.
use Rattle.std.specs.Prelude.{ℕ, true, Option, Some, None, List, [], ◌∷◌, ◌++◌}
use Rattle.rlc_base.specs.declared.place.Pos.{Pos}
use Rattle.rlc_base.specs.declared.faults.Refusal.{Refusal}
use Rattle.program_model.specs.declared.kinds.MethodId.{MethodId}
use Rattle.program_model.specs.declared.kinds.VType.{VType}
use Rattle.java_syntax.specs.ExpressionTrees.{ExprTree}
use Rattle.java_syntax.specs.StatementTrees.{ResourceTree}
use Rattle.java_typed_trees.specs.declared.facts.Answer.{Answer}
use Rattle.java_typed_trees.specs.declared.scope.Local.{Local}
use Rattle.java_typed_trees.specs.declared.statements.ResourceShape.{ResourceShape}
use Rattle.java_typed_trees.specs.ExpressionTrees as typed
use Rattle.java_typed_trees.specs.Settling.{own_cases}
use Rattle.java_statement_rules.specs.CallParts.{method_in}
use Rattle.java_statement_rules.specs.Surroundings.{Surroundings}
use Rattle.java_typed_expressions.specs.Cases.{value_cases}
use Rattle.java_typed_expressions.specs.Typings.{tree, value_facts}
use Rattle.java_statement_rules.specs.Contexts.{StatementContext, locals_of, with_local}
use Rattle.java_statement_rules.specs.DeclaredVariables.{double_cases, local_variable}
use Rattle.java_statement_rules.specs.Resources.{class_type, class_type_cases, closeable_cases, closing_by}
use Rattle.java_statement_rules.specs.StatementCases.{storing_cases}

abbrev pub resource_local : StatementContext → ResourceTree → Local
resource_local c r = local_variable c.next_variable r.name.text (class_type c.surroundings r.class') true None

-- where its initialiser stands, and what is behind it
abbrev pub behind_resource : StatementContext → ResourceTree → StatementContext
behind_resource c r = with_local c (resource_local c r)

-- its closing, as the call of `close()` at its name
abbrev pub closing_of : Surroundings → ResourceTree → Answer
closing_of s r = closing_by s r.name.pos (class_type s r.class')

-- the initialiser, where these are its surroundings
abbrev pub opening_cases : Surroundings → Option VType → ExprTree → Pos → List Refusal
opening_cases s t e place = value_cases s t e ++ storing_cases s.context.program place t (value_facts s t e)

-- the refusals of its class: the name, or that it is no resource's
abbrev pub resource_class_cases : Surroundings → ResourceTree → Pos → List Refusal
resource_class_cases s r place = class_type_cases (class_type s r.class') r.class' ++ closeable_cases s place (class_type s r.class')

abbrev pub closing_cases : Surroundings → ResourceTree → List Refusal
closing_cases s r = own_cases s.context.program s.context.covered (closing_of s r)

-- the refusals of a resource; `place` is that of the `try`
abbrev pub resource_cases : StatementContext → ResourceTree → Pos → List Refusal
resource_cases c r place = double_cases place (locals_of c) r.name.text ++ resource_class_cases c.surroundings r place ++ closing_cases c.surroundings r ++ opening_cases (behind_resource c r).surroundings (class_type c.surroundings r.class') r.value place

abbrev pub opening_tree : StatementContext → ResourceTree → typed.ExprTree
opening_tree c r = tree (behind_resource c r).surroundings (class_type c.surroundings r.class') r.value

abbrev pub resource_shapes_by : ℕ → Pos → Option MethodId → List ResourceShape
resource_shapes_by n place None = []
resource_shapes_by n place (Some m) = record { variable = n; close = m; pos = place } ∷ []

-- the resource as a typed statement keeps it, where it is not refused
abbrev pub resource_shape : StatementContext → ResourceTree → List ResourceShape
resource_shape c r = resource_shapes_by c.next_variable r.name.pos (method_in (closing_of c.surroundings r))

-- ---- all of a `try`

abbrev pub resource_locals : StatementContext → List ResourceTree → List Local
resource_locals c [] = []
resource_locals c (r ∷ rs) = resource_local c r ∷ resource_locals (behind_resource c r) rs

abbrev pub resources_cases : StatementContext → List ResourceTree → Pos → List Refusal
resources_cases c [] place = []
resources_cases c (r ∷ rs) place = resource_cases c r place ++ resources_cases (behind_resource c r) rs place

abbrev pub opening_trees : StatementContext → List ResourceTree → List typed.ExprTree
opening_trees c [] = []
opening_trees c (r ∷ rs) = opening_tree c r ∷ opening_trees (behind_resource c r) rs

abbrev pub resource_shapes : StatementContext → List ResourceTree → List ResourceShape
resource_shapes c [] = []
resource_shapes c (r ∷ rs) = resource_shape c r ++ resource_shapes (behind_resource c r) rs
