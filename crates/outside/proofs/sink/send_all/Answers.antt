use Rattle.std.proofs.Common.{◌≡◌, ℕ, List, length, ◌-◌, take, drop, arith, length-drop, ap, ◌∙◌}
use Rattle.std.proofs.lemmas.List.{take_rest}
use Rattle.outside.proofs.Known.{appended_more}
use Rattle.outside.proofs.sink.send_all.Goals as goal

-- what is left of the bytes
rest_length : (bytes : List ℕ) (sent : ℕ) → length (take (length bytes - sent) (drop sent bytes)) ≡ length bytes - sent
rest_length bytes sent = ap length (take_rest bytes sent) ∙ length-drop sent bytes

pub loop-sent-preserved : goal.loop-sent-preserved
loop-sent-preserved g c =
    let bytes = c.args.bytes.now in
    let sent = c.loop-sent.sent in
    let left = rest_length bytes sent in
    record {
      within = omega (arith, c.in_ok-sent.ensures.bound, left);
      front = appended_more _ _ _ bytes sent _ c.loop-sent.invariant.front (rw take_rest at c.in_ok-sent.ensures.takes);
      no_fault = c.in_ok-sent.ensures.cause ∙ c.loop-sent.invariant.no_fault;
      sure = λ all.
          let before = c.loop-sent.invariant.sure all in
          let now = c.in_ok-sent.ensures.holds (omega (arith, left)) (omega (arith, left, before)) in
          omega (arith, before, now);
    }
