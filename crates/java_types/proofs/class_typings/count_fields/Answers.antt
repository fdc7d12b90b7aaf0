use Rattle.source_classes.specs.Members.{environment_in}
use Rattle.source_classes.specs.SourceClasses.{source_class_of}
use Rattle.java_bodies.specs.FieldInitializers.{static_cases}
use Rattle.java_types.proofs.ListSteps.{flat_step}
use Rattle.java_types.proofs.class_typings.count_fields.Goals as goal

pub loop-class-preserved : goal.loop-class-preserved
loop-class-preserved c =
    flat_step (static_cases (environment_in c.args.scope.now)) source_class_of c.args.classes.now c.loop-class.class-index c.class-item.result c.args.refusals.now.items c.loop-class.refusals.items c.count_static_initializers.new.refusals.items c.loop-class-test.true c.class-item.is c.loop-class.invariant
    c.in_ok-count_static_initializers.ensures
