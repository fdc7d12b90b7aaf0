-- The words of places, of what is emptied, of values without an object, and of completions.
use Rattle.std.specs.Prelude.{ℕ, true, false, List, ◌++◌, codes, decimal}
use Rattle.std.specs.Fmt.{signed_decimal}
use Rattle.program_model.specs.declared.kinds.Literal.{Literal}
use Rattle.program_model.specs.declared.kinds.Literal.TheVariants as literals
use Rattle.program_model.specs.declared.program.Program.{Program}
use Rattle.program_model.specs.declared.tree.Body.{Body}
use Rattle.program_texts.specs.Texts.{field_text, line_text}
use Rattle.rlc_base.specs.declared.place.Pos.{Pos}
use Rattle.control_actions.specs.declared.action.Completion.{Completion}
use Rattle.control_actions.specs.declared.action.Completion.TheVariants as completions
use Rattle.control_actions.specs.declared.action.PlainValue.{PlainValue}
use Rattle.control_actions.specs.declared.action.PlainValue.TheVariants as plain
use Rattle.control_actions.specs.declared.action.Scope.{Scope}
use Rattle.control_actions.specs.declared.action.Scope.TheVariants as scopes
use Rattle.control_actions.specs.declared.place.Place.{Place}
use Rattle.control_actions.specs.declared.place.Place.TheVariants as places
use Rattle.graph_words.specs.Names.{class_word, method_word, statement_word, type_word, variable_word}

-- the temp of a depth
abbrev pub temp_word : ℕ → List ℕ
temp_word d = codes "t" ++ decimal d

abbrev pub place_word : Body → Place → List ℕ
place_word b (places.Var x) = variable_word b x
place_word b places.This = codes "this"
place_word b (places.Field k) = codes "this." ++ decimal k
place_word b (places.Temp d) = temp_word d
place_word b places.Super = codes "super"

abbrev pub scope_word : Body → Scope → List ℕ
scope_word b (scopes.Declared s) = codes "of " ++ statement_word b s
scope_word b (scopes.Variable x) = variable_word b x
scope_word b (scopes.Temp d) = temp_word d
scope_word b (scopes.TempsAbove d) = codes "above " ++ temp_word d

-- a character by its UTF-16 code unit (JLS 3.10.4), and a text by this word alone
abbrev pub literal_word : Literal → List ℕ
literal_word (literals.Number z) = signed_decimal z
literal_word (literals.Character u) = codes "'" ++ (decimal u ++ codes "'")
literal_word (literals.Boolean true) = codes "true"
literal_word (literals.Boolean false) = codes "false"
literal_word literals.Text = codes "text"
literal_word literals.Null = codes "null"

abbrev pub plain_word : Program → PlainValue → List ℕ
plain_word p (plain.Literal l) = literal_word l
plain_word p (plain.Default t) = codes "default " ++ type_word p t
plain_word p (plain.StaticField f) = field_text p f
plain_word p (plain.LibraryConstant m) = method_word p m

-- the place where a completion began
abbrev pub at_place : Pos → List ℕ
at_place pos = codes "@" ++ line_text pos

-- a completion, with the depth of its value's temp where it has one
abbrev pub completion_word : Program → Completion → List ℕ
completion_word p (completions.Break pos) = codes "Break" ++ at_place pos
completion_word p (completions.Continue pos) = codes "Continue" ++ at_place pos
completion_word p (completions.Return pos) = codes "Return" ++ at_place pos
completion_word p (completions.ReturnValue d pos) = codes "Return(" ++ (decimal d ++ (codes ")" ++ at_place pos))
completion_word p (completions.Throw d c pos) = codes "Throw(" ++ (decimal d ++ (codes "," ++ (class_word p c ++ (codes ")" ++ at_place pos))))
