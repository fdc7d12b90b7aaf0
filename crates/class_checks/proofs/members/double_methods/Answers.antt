-- Methods and constructors are double where their signatures are one.
use Rattle.std.proofs.Common.{◌≡◌, ◌∙◌, ap, subst, map, List, []}
use Rattle.std.specs.Prelude.{IfOk}
use Rattle.rlc_base.specs.declared.faults.Refusal.{Refusal}
use Rattle.refusal_order.specs.Refusals.{least}
use Rattle.class_order.specs.Declarations.{declaration_of}
use Rattle.class_declarations.specs.Members.{written_in, written_of}
use Rattle.class_checks.specs.DoubleMembers.{invocable}
use Rattle.class_checks.specs.MemberKeys.{double_keys, keyed_method, keyed_of}
use Rattle.class_checks.proofs.DoubleLemmas.{repeated_signatures}
use Rattle.class_checks.proofs.members.double_methods.Goals as goal

pub returns : goal.returns
returns c =
    let names = c.args.names.now in
    let d = declaration_of c.args.class.now in
    let trees = ap (map written_of) c.deref.ensures.value ∙ c.in_ok-trees.ensures in
    let L : List Refusal → Type 0 = λ cases. IfOk c.double_keys.result (λ r. r ≡ least cases) in
    let keys = ap (map keyed_of) c.deref-2.ensures.value ∙ c.in_ok-keys.ensures ∙ ap (λ ws. map (keyed_method names d.unit) (invocable ws)) trees in
    subst L (ap (double_keys []) keys ∙ repeated_signatures names d.unit (invocable (written_in names d))) c.double_keys.ensures
