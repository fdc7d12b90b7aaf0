-- Faults compare as the numbers of their order do.
use Rattle.std.proofs.Common.{rules}
use Rattle.fault_order.proofs.OrderLaws.{faults_ordered}
use Rattle.fault_order.proofs.order.compare_faults.Goals as goal

pub returns : goal.returns
returns c =
    let ordered = faults_ordered c.args.one.now c.args.other.now in
    search (rules, ordered)
