use Rattle.std.proofs.Common.{◌≡◌, take}
use Rattle.std.specs.List.{flat_map}
use Rattle.refusal_order.specs.Refusals.{least}
use Rattle.program_model.specs.declared.tree.Var.{Var}
use Rattle.annotation_rules.specs.declared.declaration.Declaration.TheVariants as declarations
use Rattle.annotation_rules.specs.Declarations.{declaration_cases}
use Rattle.annotation_rules.proofs.body_cases.variable_refusal.Given as goal

abbrev pub invariant-loop-variable : goal.invariant-loop-variable
invariant-loop-variable l = l.least ≡ least (flat_map (λ (v : Var). declaration_cases declarations.Variable v.annos.items) (take l.variable-index l.variables))
