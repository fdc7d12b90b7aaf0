-- The type of a field of a program class.
use Rattle.std.proofs.Common.{◌≡◌, sym, subst, Bool, [], ◌++◌}
use Rattle.std.specs.Prelude.{if◌then◌else◌}
use Rattle.refusal_order.specs.Refusals.{least}
use Rattle.class_names.specs.Meanings.{unit_of}
use Rattle.class_order.proofs.LeastLemmas.{least_parts}
use Rattle.class_checks.specs.TypeCases.{bad_static, is_read_in_stub, unknown_type}
use Rattle.class_checks.proofs.types.unknown_in_field.Goals as goal

pub returns-else-scope : goal.returns-else-scope
returns-else-scope c =
    let names = c.args.names.now in
    let u = unit_of c.args.scope.now in
    let f = c.args.field.now in
    let P : Bool → Type 0 = λ library. c.lesser_of.result ≡ least (if library then (if is_read_in_stub f then unknown_type names u f.typ else []) else unknown_type names u f.typ ++ bad_static names u f) in
    subst P (sym c.if-scope.false) (least_parts (unknown_type names u f.typ) (bad_static names u f) c.lesser_of.ensures c.unknown_type-unknown.ensures c.bad_static.ensures)
