use Rattle.std.proofs.Common.{◌≡◌, ◌+◌, ◌-◌, ◌≤◌, length, take}
use Rattle.std.specs.Io.KnownBytes.{append_known}
use Rattle.outside.proofs.sink.send_all.Given as goal

-- a front of `sent` bytes was appended with no fault, and a sink that was sure of all is sure of the rest
abbrev pub invariant-loop-sent : goal.invariant-loop-sent
invariant-loop-sent g l = record {
  within : l.sent ≤ length l.bytes;
  front : g.O.Sink.bytes l.out ≡ append_known (g.O.Sink.bytes l.initial.out) (take l.sent l.bytes);
  no_fault : g.O.Sink.faults l.out ≡ g.O.Sink.faults l.initial.out;
  sure : length l.bytes ≤ g.O.Sink.sure l.initial.out → g.O.Sink.sure l.initial.out ≤ g.O.Sink.sure l.out + l.sent;
}

abbrev pub decreases-loop-sent : goal.decreases-loop-sent
decreases-loop-sent g l = length l.bytes - l.sent
