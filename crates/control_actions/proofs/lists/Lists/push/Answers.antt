-- The table grows by one cell, or holds it already.
use Rattle.control_actions.specs.declared.cell.Cell.{Cell}
use Rattle.control_actions.specs.contracts.cell.CellPartialEq.TheImpl as cell_eq
use Rattle.control_actions.proofs.EqLemmas.{exact}
use Rattle.control_actions.proofs.TableLemmas.{inserted_list, kept_after, ordered_after}
use Rattle.control_actions.proofs.lists.Lists.push.Goals as goal

pub invariant_of-self : goal.invariant_of-self
invariant_of-self c =
    let cell : Cell = record { item = c.args.item; tail = c.args.tail } in
    record { ordered = ordered_after _ (cell_eq.ghosts).eq _ _ cell c.args.self.now.ordered c.requires c.insert_full.ensures.keys c.insert_full.ensures.err }

pub returns-clause-list : goal.returns-clause-list
returns-clause-list c =
    let cell : Cell = record { item = c.args.item; tail = c.args.tail } in
    let at = c.in_ok-index.ensures.stored in
    inserted_list (cell_eq.ghosts).eq _ _ cell at.0 _ c.args.self.now.ordered c.requires c.in_ok-index.ensures.keys at.1 (exact cell at.0 at.2)

pub returns-clause-kept : goal.returns-clause-kept
returns-clause-kept c =
    let cell : Cell = record { item = c.args.item; tail = c.args.tail } in
    kept_after _ (cell_eq.ghosts).eq _ _ cell c.args.self.now.ordered c.insert_full.ensures.keys c.insert_full.ensures.err
