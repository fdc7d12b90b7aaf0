-- A text stands at one of the arguments.
use Rattle.std.proofs.Common.{◌∙◌, ap}
use Rattle.std.specs.List.{list_any}
use Rattle.program_model.specs.declared.program.RawArg.{RawArg}
use Rattle.super_obligations.specs.Obligations.{has_text}
use Rattle.super_obligations.proofs.ObligationLemmas.{any_text}
use Rattle.super_obligations.proofs.own_sets.has_text.Goals as goal

pub returns : goal.returns
returns c =
    c.any_value.ensures ∙ ap (list_any (λ (x : RawArg). has_text x.values.items)) c.deref.ensures.value ∙ any_text c.args.annotation.now.args.items
