-- One class more.
use Rattle.std.proofs.Common.{◌≡◌, ◌↔◌, ◌+◌, sym, subst, refl, true, Bool, IsTrue, List, map, slice_get, take}
use Rattle.std.proofs.lemmas.List.{take_all}
use Rattle.std.proofs.lemmas.List.Elements.{All-nil}
use Rattle.program_model.specs.declared.kinds.ClassId.{ClassId}
use Rattle.class_order.specs.Declarations.{declaration_of}
use Rattle.super_checks.specs.SuperCases.{AreOfLibrary, is_library_at}
use Rattle.super_checks.proofs.CoreLemmas.{test_told}
use Rattle.super_checks.proofs.ExceptionLemmas.{all_more}
use Rattle.super_checks.proofs.core_library.are_library.Goals as goal

pub loop-class-init : goal.loop-class-init
loop-class-init c = ((λ h. All-nil (λ (k : ClassId). is_library_at (slice_get (map declaration_of c.args.order.now) k.0) ≡ true)), (λ all. refl))

pub loop-class-preserved : goal.loop-class-preserved
loop-class-preserved c =
    let P : ClassId → Type 0 = λ k. is_library_at (slice_get (map declaration_of c.args.order.now) k.0) ≡ true in
    let classes = c.args.classes.now in
    let i = c.loop-class.class-index in
    let none : ClassId = record { 0 = 0 } in
    let B : Bool → Type 0 = λ b. IsTrue b ↔ AreOfLibrary (map declaration_of c.args.order.now) (take (i + 1) classes) in
    subst B (sym c.both-all.ensures) (all_more P classes i none c.loop-class.all c.is_library_at-fits.result c.loop-class-test.true c.loop-class.invariant (test_told _ _ c.is_library_at-fits.ensures))

pub returns : goal.returns
returns c =
    let L : List ClassId → Type 0 = λ ks. IsTrue c.loop-class.all ↔ AreOfLibrary (map declaration_of c.args.order.now) ks in
    subst L (take_all c.loop-class.class-index c.args.classes.now c.loop-class-test.false) c.loop-class.invariant
