-- The pass over names refuses, or those behind it.
use Rattle.std.proofs.Common.{◌≡◌, ◌∙◌, ap, subst, map, List}
use Rattle.class_order.specs.Declarations.{Declaration, declaration_of}
use Rattle.class_table.specs.Passes.{IsTableStop}
use Rattle.class_table.proofs.BuiltLemmas.{names_stop}
use Rattle.class_table.proofs.build.build_table.Goals as goal

pub returns-in-Err-clause-cause : goal.returns-in-Err-clause-cause
returns-in-Err-clause-cause c =
    let order : map declaration_of c.deref.result.now ≡ map declaration_of c.in_ok-order.order.items = ap (map declaration_of) c.deref.ensures.value in
    let T : List Declaration → Type 0 = λ o. IsTableStop o c.in-Err.stop in
    subst T (order ∙ c.in_ok-order.ensures) (names_stop (map declaration_of c.deref.result.now) c.in-Err.stop c.in-Err.ensures.cause)
