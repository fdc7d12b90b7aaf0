use Rattle.std.proofs.Common.{◌≡◌, drop}
use Rattle.std.specs.List.{filter_map}
use Rattle.must_call_sets.specs.Bodies.{fields_of}
use Rattle.ownership_rules.specs.Births.{field_birth}
use Rattle.ownership_rules.specs.Picks.{pick}
use Rattle.ownership_rules.proofs.field_births.pick_field.Given as goal

abbrev pub invariant-loop-f : goal.invariant-loop-f
invariant-loop-f l =
    pick (filter_map (field_birth l.p l.b l.pos) (drop l.f-index (fields_of l.p l.b))) l.left
    ≡ pick (filter_map (field_birth l.p l.b l.pos) (fields_of l.p l.b)) l.k
