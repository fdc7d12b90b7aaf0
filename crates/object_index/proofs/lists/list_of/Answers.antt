use Rattle.std.proofs.Common.{◌≡◌, ◌∙◌, ◌-◌, suc, arith}
use Rattle.std.proofs.lemmas.Grind.{common_steps}
use Rattle.object_index.proofs.RowLaws.{row_at}
use Rattle.object_index.proofs.lists.list_of.Goals as goal

pub returns-in-Some : goal.returns-in-Some
returns-in-Some c =
    let lookup = c.in-Some.ensures.lookup in
    let some = c.if-number-eq0.false in
    let next : suc (c.args.number - 1) ≡ c.args.number = grind (arith, common_steps, some) in
    c.as_slice.ensures.value ∙ row_at c.args.lists.now (c.args.number - 1) c.args.number c.in-Some.list.now next lookup.3.0 lookup.1
