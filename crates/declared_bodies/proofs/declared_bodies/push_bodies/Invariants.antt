use Rattle.std.proofs.Common.{◌≡◌, ◌++◌, map, take}
use Rattle.field_initializers.specs.SourceClassesMembers.{environment_in, numbered_method_of}
use Rattle.field_initializers.specs.SourceClasses.{source_class_of}
use Rattle.declared_bodies.specs.Bodies.{bodies_among, source_body_of}
use Rattle.declared_bodies.proofs.declared_bodies.push_bodies.Given as goal

abbrev pub invariant-loop-m : goal.invariant-loop-m
invariant-loop-m l =
    map source_body_of l.all.items ≡ map source_body_of l.fn.all.items ++ bodies_among (environment_in l.scope) (source_class_of l.class) (map numbered_method_of (take l.m-index l.methods))
