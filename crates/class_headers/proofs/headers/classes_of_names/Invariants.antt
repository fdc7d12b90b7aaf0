use Rattle.std.proofs.Common.{◌≡◌, take}
use Rattle.class_headers.specs.Headers.{classes_of_names}
use Rattle.class_headers.proofs.headers.classes_of_names.Given as goal

abbrev pub invariant-loop-text : goal.invariant-loop-text
invariant-loop-text l = l.classes.items ≡ classes_of_names l.names (take l.text-index l.texts)
