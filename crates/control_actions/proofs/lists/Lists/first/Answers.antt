-- The list of a number begins with the cell before it.
use Rattle.std.proofs.Common.{◌∙◌}
use Rattle.control_actions.proofs.TableLemmas.{first_earlier, first_of_list}
use Rattle.control_actions.proofs.lists.Lists.first.Goals as goal

pub returns-else-id-eq0-clause-first : goal.returns-else-id-eq0-clause-first
returns-else-id-eq0-clause-first c = first_of_list _ _ _ c.args.self.now.ordered c.if-id-eq0.false c.requires (c.copied.ensures ∙ c.get_index.ensures.key)

pub returns-else-id-eq0-clause-earlier : goal.returns-else-id-eq0-clause-earlier
returns-else-id-eq0-clause-earlier c = first_earlier _ _ _ c.args.self.now.ordered c.if-id-eq0.false (c.copied.ensures ∙ c.get_index.ensures.key)
