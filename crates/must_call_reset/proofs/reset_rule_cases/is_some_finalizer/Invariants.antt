use Rattle.std.proofs.Common.{◌≡◌}
use Rattle.must_call_sets.specs.ResetCases.{is_finalizer_below, is_some_finalizer}
use Rattle.must_call_reset.proofs.ResetLaws.{any_class}
use Rattle.must_call_reset.proofs.reset_rule_cases.is_some_finalizer.Given as goal

abbrev pub invariant-loop-class : goal.invariant-loop-class
invariant-loop-class l = any_class (is_finalizer_below l.p l.method) l.class l.count ≡ is_some_finalizer l.p l.method
