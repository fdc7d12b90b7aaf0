-- The four parts.
use Rattle.std.proofs.Common.{◌↔◌, ◌&&◌, sym, subst, map, Bool, IsTrue}
use Rattle.class_names.specs.ClassNames.{rows_in}
use Rattle.class_order.specs.Declarations.{declaration_of}
use Rattle.super_checks.specs.SuperCases.{IsCoreLibrary}
use Rattle.super_checks.proofs.CoreLemmas.{library_told}
use Rattle.super_checks.proofs.core_library.is_core_library.Goals as goal

pub returns : goal.returns
returns c =
    let order = map declaration_of c.args.order.now in
    let direct = rows_in c.args.direct.now in
    let core = c.args.core in
    let B : Bool → Type 0 = λ b. IsTrue b ↔ IsCoreLibrary order direct core in
    let e = c.in_ok-ordered.ordered in
    let t = c.has_library_exceptions-thrown.result in
    let s = c.in_ok-string.string in
    let o = c.is_library_at-object.result in
    let Q : Bool → Type 0 = λ b. IsTrue (c.both-exceptions.result && b) ↔ IsCoreLibrary order direct core in
    let R : Bool → Type 0 = λ b. IsTrue (b && (o && s)) ↔ IsCoreLibrary order direct core in
    let told = library_told order direct core e t o s c.in_ok-ordered.ensures c.has_library_exceptions-thrown.ensures c.is_library_at-object.ensures c.in_ok-string.ensures in
    subst B (sym c.both.ensures) (subst Q (sym c.both-named_classes.ensures) (subst R (sym c.both-exceptions.ensures) told))
