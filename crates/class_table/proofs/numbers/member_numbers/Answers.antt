-- One member more.
use Rattle.std.proofs.Common.{◌∙◌, refl, get_or}
use Rattle.std.proofs.lemmas.List.{get_or_default}
use Rattle.program_model.specs.declared.kinds.ClassId.{ClassId}
use Rattle.class_table.proofs.NumberLemmas.{numbers_more}
use Rattle.class_table.proofs.numbers.member_numbers.Goals as goal

pub loop-i-preserved : goal.loop-i-preserved
loop-i-preserved c =
    let owners = c.args.owners.now in
    let i = c.loop-i.i in
    let none : ClassId = record { 0 = 0 } in
    let o = get_or owners i none in
    record {
      length = c.in_ok-put_number.ensures.length ∙ c.loop-i.invariant.length;
      numbers = numbers_more c.args.count c.loop-i.rows.items c.put_number.new.rows.items owners i i o c.loop-i.invariant.length c.loop-i-test.true (get_or_default owners i none o c.loop-i-test.true) refl c.in_ok-put_number.ensures.row c.loop-i.invariant.numbers;
    }
