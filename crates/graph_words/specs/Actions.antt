-- The words of actions: the name, and in parentheses the arguments.
use Rattle.std.specs.Prelude.{ℕ, Bool, true, false, Option, Some, None, List, [], ◌++◌, codes, decimal}
use Rattle.program_model.specs.declared.kinds.ClassId.{ClassId}
use Rattle.program_model.specs.declared.program.Program.{Program}
use Rattle.program_model.specs.declared.tree.Body.{Body}
use Rattle.program_texts.specs.Texts.{field_text}
use Rattle.control_actions.specs.declared.action.Action.{Action}
use Rattle.control_actions.specs.declared.action.Action.TheVariants as actions
use Rattle.control_actions.specs.declared.action.ClauseId.{ClauseId}
use Rattle.graph_words.specs.Names.{class_word, method_word, statement_word, type_word, variable_word}
use Rattle.graph_words.specs.Operators.{form_word, operator_word}
use Rattle.graph_words.specs.Places.{completion_word, place_word, plain_word, scope_word}

abbrev pub action_name : Action → List ℕ
action_name actions.Skip = codes "Skip"
action_name (actions.Copy x y) = codes "Copy"
action_name (actions.Move x y) = codes "Move"
action_name (actions.Plain x v) = codes "Plain"
action_name (actions.Drop s) = codes "Drop"
action_name (actions.Settle b c) = codes "Settle"
action_name (actions.Enter k x b d) = codes "Enter"
action_name (actions.Test d) = codes "Test"
action_name (actions.Op o d n) = codes "Op"
action_name (actions.Get f d this) = codes "Get"
action_name (actions.Put f d this) = codes "Put"
action_name (actions.Cast t d) = codes "Cast"
action_name (actions.PutOwn f d) = codes "PutOwn"
action_name (actions.Call m d n form) = codes "Call"
action_name (actions.New m d n) = codes "New"
action_name (actions.Super m d n) = codes "Super"
action_name (actions.Raise d c) = codes "Raise"
action_name (actions.End c) = codes "End"

-- a further argument
abbrev pub further : List ℕ → List ℕ
further word = codes "," ++ word

-- the clause of a `try` statement
abbrev pub clause_word : Body → ClauseId → List ℕ
clause_word b k = decimal k.index ++ (codes " of " ++ statement_word b k.statement)

-- behind the depth of a field access: whether its object is `this`
abbrev pub through_word : Bool → List ℕ
through_word true = codes ",this"
through_word false = []

-- of a `throw`: the class by which the exception is known, where there is one
abbrev pub known_word : Program → Option ClassId → List ℕ
known_word p None = []
known_word p (Some c) = further (class_word p c)

-- the depth and the number of operands
abbrev pub operands_word : ℕ → ℕ → List ℕ
operands_word d n = further (decimal d) ++ further (decimal n)

abbrev pub arguments : Program → Body → Action → List ℕ
arguments p b actions.Skip = []
arguments p b (actions.Copy x y) = place_word b x ++ further (place_word b y)
arguments p b (actions.Move x y) = place_word b x ++ further (place_word b y)
arguments p b (actions.Plain x v) = place_word b x ++ further (plain_word p v)
arguments p b (actions.Drop s) = scope_word b s
arguments p b (actions.Settle base c) = decimal base ++ further (completion_word p c)
arguments p b (actions.Enter k x base d) = clause_word b k ++ (further (variable_word b x) ++ operands_word base d)
arguments p b (actions.Test d) = decimal d
arguments p b (actions.Op o d n) = operator_word p o ++ operands_word d n
arguments p b (actions.Get f d this) = field_text p f ++ (further (decimal d) ++ through_word this)
arguments p b (actions.Put f d this) = field_text p f ++ (further (decimal d) ++ through_word this)
arguments p b (actions.Cast t d) = type_word p t ++ further (decimal d)
arguments p b (actions.PutOwn f d) = field_text p f ++ further (decimal d)
arguments p b (actions.Call m d n form) = method_word p m ++ (operands_word d n ++ further (form_word form))
arguments p b (actions.New m d n) = method_word p m ++ operands_word d n
arguments p b (actions.Super m d n) = method_word p m ++ operands_word d n
arguments p b (actions.Raise d c) = decimal d ++ known_word p c
arguments p b (actions.End c) = completion_word p c

-- the arguments in parentheses; `Skip` has none
abbrev pub argument_list : Program → Body → Action → List ℕ
argument_list p b actions.Skip = []
argument_list p b a = codes "(" ++ (arguments p b a ++ codes ")")

abbrev pub action_word : Program → Body → Action → List ℕ
action_word p b a = action_name a ++ argument_list p b a
