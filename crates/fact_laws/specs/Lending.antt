-- What is lent to a method: its caller has it back when the method ends.
use Rattle.std.specs.Prelude.{◌+◌, Bool, false, ◌||◌}
use Rattle.program_model.specs.declared.program.Method.{Method}
use Rattle.control_actions.specs.declared.fact.OriginKind.{OriginKind}
use Rattle.control_actions.specs.declared.fact.OriginKind.TheVariants as kinds
use Rattle.ownership_rules.specs.Bodies.{is_constructor_kind}
use Rattle.ownership_rules.specs.Signatures.{is_position}

-- what has this origin may be lent to the method: it is the argument, or `this`, whose obligation the method creates anew, or `this` of a constructor
abbrev pub may_be_lent : Method → OriginKind → Bool
may_be_lent m (kinds.Param k) = is_position m.sig.reset (k + 1)
may_be_lent m kinds.ThisRef = is_constructor_kind m.kind || is_position m.sig.reset 0
may_be_lent m kind = false
