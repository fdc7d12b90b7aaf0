-- A class stands under those that are found.
use Rattle.std.proofs.Common.{◌∙◌, ap}
use Rattle.program_model.specs.SuperTests.{has_class}
use Rattle.class_names.specs.ClassNames.{rows_in}
use Rattle.class_headers.proofs.CycleLemmas.{found_under}
use Rattle.class_headers.proofs.cyclic.is_under.Goals as goal

pub returns-clause-under : goal.returns-clause-under
returns-clause-under c =
    found_under (rows_in c.args.direct.now) c.in_ok-found.found.items c.args.class c.args.other c.has_class.result
    (c.has_class.ensures ∙ ap (λ cs. has_class cs c.args.other) c.deref.ensures.value) c.in_ok-found.ensures.found
