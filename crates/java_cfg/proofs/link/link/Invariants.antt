use Rattle.std.proofs.Common.{◌≤◌, length, take}
use Rattle.java_cfg.proofs.LinkLemmas.{AreLinked}
use Rattle.java_cfg.proofs.link.link.Given as goal

abbrev pub invariant-loop-step : goal.invariant-loop-step
invariant-loop-step l = record {
  linked : AreLinked l.fn.numbers.keys l.numbers.keys l.row.items (take l.step-index l.steps);
  few : length l.numbers.keys ≤ 65536;
}
