-- The pass over types refuses, or those behind it.
use Rattle.std.proofs.Common.{map}
use Rattle.class_order.specs.Declarations.{declaration_of}
use Rattle.class_table.proofs.BuiltLemmas.{built_if, types_stop}
use Rattle.class_table.proofs.build.build_named.Goals as goal

pub returns-in-Err-clause-cause : goal.returns-in-Err-clause-cause
returns-in-Err-clause-cause c = types_stop (map declaration_of c.args.order.now) c.in-Err.refusal c.requires.single c.in-Err.ensures.least

pub returns-in-Ok-clause-built : goal.returns-in-Ok-clause-built
returns-in-Ok-clause-built c =
    let of = c.build_behind_types.ensures in
    built_if (map declaration_of c.args.order.now) c.args.settings.now c.args.names.now c.in-Ok.core c.build_behind_types.result c.requires.names c.in-Ok.ensures.core c.requires.single c.in-Ok.ensures.none of.core of.fit of.few of.made
