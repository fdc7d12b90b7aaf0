use Rattle.std.proofs.Common.{◌∙◌, ap}
use Rattle.ledger_state.specs.Heaps.{has_number}
use Rattle.draft_stages.proofs.AliasLaws.{joined_has}
use Rattle.draft_stages.proofs.aliases.with_aliases.Goals as goal

pub returns-clause-all : goal.returns-clause-all
returns-clause-all c = λ k e.
    ap (λ js. has_number js k) (c.in_ok-all.ensures.items ∙ c.as_slice.ensures.keys)
    ∙ c.in_ok-add_aliases.ensures.all k (joined_has c.new-among.result.keys c.args.numbers.now c.add_numbers.new.among.keys c.in_ok-add_numbers.ensures k e)
