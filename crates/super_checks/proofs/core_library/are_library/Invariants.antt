use Rattle.std.proofs.Common.{◌↔◌, IsTrue, map, take}
use Rattle.class_order.specs.Declarations.{declaration_of}
use Rattle.super_checks.specs.SuperCases.{AreOfLibrary}
use Rattle.super_checks.proofs.core_library.are_library.Given as goal

abbrev pub invariant-loop-class : goal.invariant-loop-class
invariant-loop-class l = IsTrue l.all ↔ AreOfLibrary (map declaration_of l.order) (take l.class-index l.classes)
