-- The words of a report.
use Rattle.std.specs.Prelude.{ℕ, Option, Some, None, List, ◌++◌, codes}
use Rattle.program_model.specs.declared.program.Program.{Program}
use Rattle.program_texts.specs.Texts.{class_text}
use Rattle.control_actions.specs.declared.action.Action.{Action}
use Rattle.control_actions.specs.declared.action.Action.TheVariants as actions
use Rattle.control_actions.specs.declared.action.Edge.{Edge}
use Rattle.control_actions.specs.declared.action.Edge.TheVariants as edges
use Rattle.control_actions.specs.declared.fact.OriginKind.{OriginKind}
use Rattle.control_actions.specs.declared.fact.OriginKind.TheVariants as origins
use Rattle.control_actions.specs.declared.fact.Rule.{Rule}
use Rattle.control_actions.specs.declared.fact.Rule.TheVariants as rules_of

-- the name of a rule
abbrev pub rule_word : Rule → List ℕ
rule_word rules_of.Lost = codes "lost"
rule_word rules_of.Exit = codes "exit"
rule_word rules_of.Throw = codes "throw"
rule_word rules_of.Overwritten = codes "overwritten"
rule_word rules_of.NotOwned = codes "not.owned"
rule_word rules_of.ResetNotOwned = codes "reset.not.owned"
rule_word rules_of.Narrow = codes "narrow"
rule_word rules_of.Ensures = codes "ensures"
rule_word rules_of.AliasKept = codes "alias.kept"
rule_word rules_of.Twice = codes "twice"
rule_word rules_of.CalledMissing = codes "called.missing"
rule_word rules_of.CtorThrow = codes "ctor.throw"
rule_word rules_of.ResetMissing = codes "reset.missing"

-- how an obligation began
abbrev pub origin_word : OriginKind → List ℕ
origin_word (origins.Param n) = codes "param"
origin_word origins.ThisRef = codes "this"
origin_word (origins.FieldAt f) = codes "field"
origin_word origins.New = codes "new"
origin_word origins.Result = codes "result"
origin_word origins.Read = codes "read"
origin_word origins.SuperPart = codes "super"

-- the word of a step; a step that does nothing has none
abbrev pub action_word : Action → Option (List ℕ)
action_word actions.Skip = None
action_word (actions.Copy x y) = Some (codes "set")
action_word (actions.Move x y) = Some (codes "set")
action_word (actions.Plain x v) = Some (codes "plain")
action_word (actions.Drop s) = Some (codes "drop")
action_word (actions.Settle b c) = Some (codes "settle")
action_word (actions.Enter k x b d) = Some (codes "catch")
action_word (actions.Test d) = Some (codes "test")
action_word (actions.Op o d n) = Some (codes "op")
action_word (actions.Get f d t) = Some (codes "get")
action_word (actions.Put f d t) = Some (codes "put")
action_word (actions.Cast t d) = Some (codes "cast")
action_word (actions.PutOwn f d) = Some (codes "own")
action_word (actions.Call m d n form) = Some (codes "call")
action_word (actions.New m d n) = Some (codes "new")
action_word (actions.Super m d n) = Some (codes "super")
action_word (actions.Raise d c) = Some (codes "raise")
action_word (actions.End c) = Some (codes "end")

-- the way by which a step goes on
abbrev pub edge_text : Program → Edge → List ℕ
edge_text p edges.Go = codes "go"
edge_text p edges.Null = codes "null"
edge_text p edges.NonNull = codes "nonnull"
edge_text p edges.True = codes "true"
edge_text p edges.False = codes "false"
edge_text p (edges.Throws c) = codes "throws " ++ class_text p c
