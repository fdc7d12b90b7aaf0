use Rattle.std.proofs.Common.{◌≡◌, take}
use Rattle.std.specs.List.{flat_map}
use Rattle.refusal_order.specs.Refusals.{least}
use Rattle.program_model.specs.declared.program.ParamSig.{ParamSig}
use Rattle.annotation_rules.specs.declared.declaration.Declaration.TheVariants as declarations
use Rattle.annotation_rules.specs.Declarations.{declaration_cases}
use Rattle.annotation_rules.proofs.cases.parameter_refusal.Given as goal

abbrev pub invariant-loop-parameter : goal.invariant-loop-parameter
invariant-loop-parameter l = l.least ≡ least (flat_map (λ (x : ParamSig). declaration_cases declarations.Parameter x.annos.items) (take l.parameter-index l.parameters))
