use Rattle.rlc_base.specs.Names.{texts}
use Rattle.class_names.specs.ClassNames.{names_of}
use Rattle.class_names.proofs.NameLemmas.{AreNamed}
use Rattle.class_names.proofs.doubles.qualified_names.Given as goal

abbrev pub invariant-loop-i : goal.invariant-loop-i
invariant-loop-i l = AreNamed (names_of l.classes) l.i (texts l.names.keys) l.found.items
