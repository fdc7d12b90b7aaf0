use Rattle.std.proofs.Common.{◌≡◌, map, take}
use Rattle.field_initializers.specs.SourceClassesMembers.{environment_in}
use Rattle.field_initializers.specs.SourceClasses.{source_class_of}
use Rattle.declared_bodies.specs.Bodies.{all_bodies, source_body_of}
use Rattle.declared_bodies.proofs.declared_bodies.all_bodies.Given as goal

abbrev pub invariant-loop-class : goal.invariant-loop-class
invariant-loop-class l = map source_body_of l.all.items ≡ all_bodies (environment_in l.scope) (map source_class_of (take l.class-index l.classes))
