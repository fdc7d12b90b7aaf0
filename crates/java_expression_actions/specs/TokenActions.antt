-- The actions at a token, the last one that was taken: the kinds of the values that each takes, the top first, those that it leaves, and what it makes.
use Rattle.std.specs.Prelude.{ℕ, Bool, true, false, List, [], ◌∷◌}
use Rattle.java_syntax.specs.Derives.{Lexeme}
use Rattle.java_syntax.specs.StatementTrees as tree
use Rattle.java_syntax.specs.declared.actions.TokenAction.{TokenAction}
use Rattle.java_syntax.specs.declared.actions.TokenAction.TheVariants as action
use Rattle.java_values.specs.Values as kinds
use Rattle.java_values.specs.Values.{Kind, ValueTree}
use Rattle.java_values.specs.Kinds.{Values, ◌▷◌, bottom, taken, resume}
use Rattle.java_values.specs.Outcomes.{Outcome, Made, ◌>>=◌, node}
use Rattle.java_nodes.specs.Nodes.{literal_node, this_node, postfix_step_node}
use Rattle.java_nodes.specs.Operators.{infix_operator, step_operator}
use Rattle.java_nodes.specs.Parts.{name_at, extended, with_identifier, primitive_at, level_of, closed, comparison}

abbrev pub takes_token : TokenAction → List Kind
takes_token action.Place = []
takes_token action.Keep = []
takes_token action.Name = []
takes_token action.ExtendName = kinds.name ∷ []
takes_token action.FirstIdentifier = []
takes_token action.NextIdentifier = kinds.identifiers ∷ []
takes_token action.PrimitiveType = []
takes_token action.Literal = []
takes_token action.This = []
takes_token action.Increment = kinds.expression ∷ []
takes_token action.Operator = kinds.expression ∷ kinds.operations ∷ []
takes_token action.InstanceOperator = kinds.expression ∷ kinds.operations ∷ []
takes_token action.EmptyStatement = []
takes_token action.Break = []
takes_token action.Continue = []
takes_token action.Block = kinds.statements ∷ kinds.place ∷ []
takes_token action.ConstructorBody = kinds.statements ∷ kinds.super_call ∷ kinds.place ∷ []

abbrev pub leaves_token : TokenAction → List Kind
leaves_token action.Place = kinds.place ∷ []
leaves_token action.Keep = kinds.token ∷ []
leaves_token action.Name = kinds.name ∷ []
leaves_token action.ExtendName = kinds.name ∷ []
leaves_token action.FirstIdentifier = kinds.identifiers ∷ []
leaves_token action.NextIdentifier = kinds.identifiers ∷ []
leaves_token action.PrimitiveType = kinds.typ ∷ []
leaves_token action.Literal = kinds.expression ∷ []
leaves_token action.This = kinds.expression ∷ []
leaves_token action.Increment = kinds.expression ∷ []
leaves_token action.Operator = kinds.operations ∷ []
leaves_token action.InstanceOperator = kinds.place ∷ kinds.expression ∷ kinds.operations ∷ []
leaves_token action.EmptyStatement = kinds.statement ∷ []
leaves_token action.Break = kinds.statement ∷ []
leaves_token action.Continue = kinds.statement ∷ []
leaves_token action.Block = kinds.block ∷ []
leaves_token action.ConstructorBody = kinds.constructor_body ∷ []

abbrev pub act_token : ℕ → Lexeme → (a : TokenAction) → Values (takes_token a) → Outcome (Values (leaves_token a))
act_token limit t action.Place bottom = Made (t.pos ▷ bottom)
act_token limit t action.Keep bottom = Made (t ▷ bottom)
act_token limit t action.Name bottom = Made ((name_at t) ▷ bottom)
act_token limit t action.ExtendName (name ▷ bottom) = Made ((extended name t) ▷ bottom)
act_token limit t action.FirstIdentifier bottom = Made ((record { first = name_at t; more = [] }) ▷ bottom)
act_token limit t action.NextIdentifier (names ▷ bottom) = Made ((with_identifier names (name_at t)) ▷ bottom)
act_token limit t action.PrimitiveType bottom = Made ((primitive_at t) ▷ bottom)
act_token limit t action.Literal bottom = do
  e ← literal_node limit t.text t.pos
  Made (e ▷ bottom)
act_token limit t action.This bottom = do
  e ← this_node limit t.pos
  Made (e ▷ bottom)
act_token limit t action.Increment (operand ▷ bottom) = do
  e ← postfix_step_node limit (step_operator t.text) operand t.pos
  Made (e ▷ bottom)
act_token limit t action.Operator (right ▷ waiting ▷ bottom) = do
  c ← closed limit (level_of (infix_operator t.text)) right waiting
  Made ((record { left = c.operand; operator = infix_operator t.text; pos = t.pos } ∷ c.waiting) ▷ bottom)
act_token limit t action.InstanceOperator (right ▷ waiting ▷ bottom) = do
  c ← closed limit comparison right waiting
  Made (t.pos ▷ c.operand ▷ c.waiting ▷ bottom)
act_token limit t action.EmptyStatement bottom = do
  e ← node limit 0 (tree.Empty t.pos)
  Made (e ▷ bottom)
act_token limit t action.Break bottom = do
  e ← node limit 0 (tree.Break t.pos)
  Made (e ▷ bottom)
act_token limit t action.Continue bottom = do
  e ← node limit 0 (tree.Continue t.pos)
  Made (e ▷ bottom)
act_token limit t action.Block (all ▷ opened ▷ bottom) = Made ((record { tree = tree.Braces (tree.statements all.tree) opened t.pos; depth = all.depth }) ▷ bottom)
act_token limit t action.ConstructorBody (all ▷ call ▷ opened ▷ bottom) = Made ((record { super_call = call; block = tree.Braces (tree.statements all.tree) opened t.pos }) ▷ bottom)

-- what an action does on a stack
unfoldable pub perform_token : ℕ → Lexeme → TokenAction → List ValueTree → Outcome (List ValueTree)
perform_token limit t a s = resume (takes_token a) (leaves_token a) (act_token limit t a) (taken (takes_token a) s)

-- the actions of the token, its place, names and primitive types
abbrev pub is_of_names : TokenAction → Bool
is_of_names action.Place = true
is_of_names action.Keep = true
is_of_names action.Name = true
is_of_names action.ExtendName = true
is_of_names action.FirstIdentifier = true
is_of_names action.NextIdentifier = true
is_of_names action.PrimitiveType = true
is_of_names _ = false

-- the actions of operands and operators
abbrev pub is_of_operands : TokenAction → Bool
is_of_operands action.Literal = true
is_of_operands action.This = true
is_of_operands action.Increment = true
is_of_operands action.Operator = true
is_of_operands action.InstanceOperator = true
is_of_operands _ = false

-- the actions with which statements and bodies end
abbrev pub is_of_ends : TokenAction → Bool
is_of_ends action.EmptyStatement = true
is_of_ends action.Break = true
is_of_ends action.Continue = true
is_of_ends action.Block = true
is_of_ends action.ConstructorBody = true
is_of_ends _ = false
