use Rattle.std.proofs.Common.{◌≡◌, drop}
use Rattle.std.specs.Prelude.{filter, slice_get}
use Rattle.control_actions.specs.Owned.{is_owning}
use Rattle.ledger_operations.proofs.places.owning_among.Given as goal

-- what stands at the place stands at `left` among the owning fields that are still to come
abbrev pub invariant-fields : goal.invariant-fields
invariant-fields l = slice_get (filter (is_owning l.p) (drop l.field-index l.fields)) l.left ≡ slice_get (filter (is_owning l.p) l.fields) l.place
