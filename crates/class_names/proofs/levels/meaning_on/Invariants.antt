use Rattle.std.proofs.Common.{◌≡◌, take}
use Rattle.class_names.specs.Meanings.{is_seen_on, sole, those, unit_of}
use Rattle.class_names.proofs.levels.meaning_on.Given as goal

abbrev pub invariant-loop-class : goal.invariant-loop-class
invariant-loop-class l = l.meaning ≡ sole (those l.names (is_seen_on (unit_of l.scope) l.level) (take l.class-index l.classes))
