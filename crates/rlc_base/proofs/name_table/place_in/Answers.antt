use Rattle.std.proofs.Common.{sym, ◌∙◌, Some, None}
use Rattle.rlc_base.proofs.TableLemmas.{found_place, found_text}
use Rattle.rlc_base.proofs.name_table.place_in.Goals as goal

pub returns-in_default-clause-found : goal.returns-in_default-clause-found
returns-in_default-clause-found c = found_place c.args.table.now.keys c.args.name.now None (sym c.in_default.is ∙ c.get_index_of.ensures.index)

pub returns-clause-found : goal.returns-clause-found
returns-clause-found c = found_place c.args.table.now.keys c.args.name.now (Some c.in-Some.place) (sym c.in-Some.is ∙ c.get_index_of.ensures.index)

pub returns-clause-stored : goal.returns-clause-stored
returns-clause-stored c = found_text c.args.table.now.keys c.args.name.now c.in-Some.place (returns-clause-found c)
