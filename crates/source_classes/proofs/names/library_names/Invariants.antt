use Rattle.std.proofs.Common.{◌≡◌, map, take}
use Rattle.std.specs.Prelude.{filter}
use Rattle.source_classes.specs.SourceClasses.{library_name}
use Rattle.source_classes.proofs.names.library_names.Given as goal

abbrev pub invariant-loop-class : goal.invariant-loop-class
invariant-loop-class l = l.names.items ≡ map (library_name l.unit) (filter (λ k. k.library) (take l.class-index l.p.classes.items))
