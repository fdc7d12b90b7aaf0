use Rattle.std.proofs.Common.{◌≡◌, ◌≤◌, slice_get}
use Rattle.stub_conduct.specs.Conducts.{is_stand_in, stand_ins}
use Rattle.stub_conduct.proofs.NumberSearch.{passing}
use Rattle.stub_conduct.proofs.classes.stand_in.Given as goal

-- what stands at the place stands at `left` among those that are still to come
abbrev pub invariant-numbers : goal.invariant-numbers
invariant-numbers l = record {
  small : l.count ≤ 4294967296;
  same : slice_get (passing (is_stand_in l.p l.declared) l.number l.count) l.left ≡ slice_get (stand_ins l.p l.declared) l.place;
}
