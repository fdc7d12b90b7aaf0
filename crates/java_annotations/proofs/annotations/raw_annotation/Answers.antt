use Rattle.std.proofs.Common.{map}
use Rattle.java_annotations.specs.Annotations.{argument_in}
use Rattle.java_annotations.proofs.Nodes.{node_made}
use Rattle.java_annotations.proofs.annotations.raw_annotation.Goals as goal

pub returns-in-Ok : goal.returns-in-Ok
returns-in-Ok c =
    node_made c.args.annotation.now c.in_ok-name.name c.last_identifier-last.result.now c.bytes.result.now c.in_ok-shaped.shaped (map argument_in c.in-Ok.args.items) c.deref.result.now c.deref-2.result.now
    c.in_ok-name.ensures c.last_identifier-last.ensures c.bytes.ensures c.in_ok-shaped.ensures c.in-Ok.ensures c.deref.ensures.value c.deref-2.ensures.value
