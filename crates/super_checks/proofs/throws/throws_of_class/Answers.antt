-- The clauses of the methods and constructors of the class.
use Rattle.std.proofs.Common.{◌∙◌, ap, subst, map, List}
use Rattle.std.specs.Prelude.{IfOk}
use Rattle.class_names.specs.ClassNames.{rows_in}
use Rattle.class_names.specs.Meanings.{unit_of}
use Rattle.class_order.specs.Cases.{IsAmong, IsLeast}
use Rattle.class_declarations.specs.Members.{Written, written_of}
use Rattle.super_checks.specs.SuperCases.{IsThrowsIn}
use Rattle.super_checks.proofs.throws.throws_of_class.Goals as goal

pub returns-clause-least : goal.returns-clause-least
returns-clause-least c =
    let hierarchy = c.args.hierarchy.now in
    let L : List Written → Type 0 = λ all. IfOk c.throws_among.result (λ r. IsLeast (IsAmong (IsThrowsIn hierarchy.names.now (rows_in hierarchy.direct.now) hierarchy.throwable (unit_of c.args.class.now.scope)) all) r) in
    subst L (ap (map written_of) c.deref.ensures.value ∙ c.in_ok-trees.ensures) c.throws_among.ensures.least
