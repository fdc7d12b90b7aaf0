-- The order of faults: by place, then by rule, and then by the place and the kind of the origin.
use Rattle.std.specs.Prelude.{ℕ, ◌+◌, ◌*◌, ◌^◌}
use Rattle.rlc_base.specs.declared.place.Pos.{Pos}
use Rattle.control_actions.specs.declared.fact.OriginKind.{OriginKind}
use Rattle.control_actions.specs.declared.fact.OriginKind.TheVariants as kinds
use Rattle.control_actions.specs.declared.fact.Rule.{Rule}
use Rattle.control_actions.specs.declared.fact.Rule.TheVariants as rules
use Rattle.fault_order.specs.declared.fault.FaultAt.{FaultAt}

-- places in the order of files, lines and columns
abbrev pub place_number : Pos → ℕ
place_number pos = (pos.file * 2 ^ 32 + pos.line) * 2 ^ 32 + pos.col

-- the rules in their order
abbrev pub rule_number : Rule → ℕ
rule_number rules.Lost = 0
rule_number rules.Exit = 1
rule_number rules.Throw = 2
rule_number rules.Overwritten = 3
rule_number rules.NotOwned = 4
rule_number rules.ResetNotOwned = 5
rule_number rules.Narrow = 6
rule_number rules.Ensures = 7
rule_number rules.AliasKept = 8
rule_number rules.Twice = 9
rule_number rules.CalledMissing = 10
rule_number rules.CtorThrow = 11
rule_number rules.ResetMissing = 12

-- the kinds of origins in their order, parameters and fields by their numbers
abbrev pub kind_number : OriginKind → ℕ
kind_number (kinds.Param k) = k
kind_number kinds.ThisRef = 2 ^ 32
kind_number (kinds.FieldAt f) = 2 * 2 ^ 32 + f.0
kind_number kinds.New = 3 * 2 ^ 32
kind_number kinds.Result = 4 * 2 ^ 32
kind_number kinds.Read = 5 * 2 ^ 32
kind_number kinds.SuperPart = 6 * 2 ^ 32

-- faults by place, then by rule
abbrev pub step_number : FaultAt → ℕ
step_number x = place_number x.at * 16 + rule_number x.rule

-- faults by place, then by rule, and then by the place and the kind of the origin
unfoldable pub order_number : FaultAt → ℕ
order_number x = (step_number x * 2 ^ 96 + place_number x.origin.pos) * 2 ^ 35 + kind_number x.origin.kind
