-- One class more.
use Rattle.std.proofs.Common.{◌∙◌, sym, map}
use Rattle.refusal_order.specs.Refusals.{lesser_of}
use Rattle.class_headers.specs.Cases.{bad_super_case}
use Rattle.class_order.specs.Declarations.{declaration_of}
use Rattle.class_headers.specs.SuperTypes.{supers_of}
use Rattle.class_order.proofs.CaseLemmas.{least_next}
use Rattle.class_headers.proofs.kinds.bad_supers.Goals as goal

pub loop-number-preserved : goal.loop-number-preserved
loop-number-preserved c =
    c.lesser_of-found.ensures ∙ (λ j. lesser_of (c.loop-number.invariant j) (c.bad_super_case.ensures j))
    ∙ sym (least_next (bad_super_case (map declaration_of c.args.order.now) (map supers_of c.args.supers.now)) c.loop-number.number)
