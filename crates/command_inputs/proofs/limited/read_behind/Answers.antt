use Rattle.std.proofs.Common.{◌≡◌, ◌++◌, ◌∙◌, ap, arith}
use Rattle.input_files.specs.Reading.{total_of}
use Rattle.command_inputs.proofs.LimitedLaws.{total_append}
use Rattle.command_inputs.proofs.limited.read_behind.Goals as goal

pub returns-in-Ok-clause-total : goal.returns-in-Ok-clause-total
returns-in-Ok-clause-total g c =
    let grown : c.append.new.self.items ≡ c.args.texts.items ++ c.in_ok-more.more.items = c.in-Ok.ensures.items in
    let sum = ap total_of grown ∙ total_append c.args.texts.items c.in_ok-more.more.items in
    let first = ap total_of c.deref.ensures.value in
    omega (arith, sum, first, c.in_ok-more.ensures.total, c.total_of.ensures)
