-- The row of the class has one number more.
use Rattle.std.proofs.Common.{arith, refl}
use Rattle.class_table.proofs.NumberLemmas.{row_put}
use Rattle.class_table.proofs.numbers.put_number.Goals as goal

pub returns-in_ok-push-clause-row : goal.returns-in_ok-push-clause-row
returns-in_ok-push-clause-row c n within =
    row_put c.args.rows.now.items _ c.index_mut.result.now c.push.new.self c.args.class.0 n c.args.number (omega arith) c.index_mut.ensures.value c.in_ok-push.ensures.items refl
