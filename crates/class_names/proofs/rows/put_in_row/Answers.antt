-- A class goes to the end of the row of its simple name, or begins a row.
use Rattle.std.proofs.Common.{◌∙◌, sym, ap, Some, None, ◌++◌, ◌∷◌, []}
use Rattle.rlc_base.proofs.TableLemmas.{found_place}
use Rattle.class_names.proofs.RowLemmas.{grown_row, new_row, still_beside}
use Rattle.class_names.proofs.rows.put_in_row.Goals as goal

pub returns-in-Some-clause-rows : goal.returns-in-Some-clause-rows
returns-in-Some-clause-rows c = λ n. grown_row c.args.names.now.keys c.args.rows.now.items c.args.name.now n c.args.class c.in-Some.place c.index_mut-row.result.now c.push.new.self c.requires
    (found_place c.args.names.now.keys c.args.name.now (Some c.in-Some.place) (sym c.in-Some.is ∙ c.get_index_of.ensures.index)) c.index_mut-row.ensures.value c.in_ok-push.ensures.items

pub returns-clause-rows : goal.returns-clause-rows
returns-clause-rows c = λ n. new_row c.args.names.now.keys c.insert.new.self.keys c.args.rows.now.items c.push-3.new.self.items c.in_ok-key.key c.args.name.now n c.args.class c.push-2.new.self c.requires
    (found_place c.args.names.now.keys c.args.name.now None (sym c.in_default.is ∙ c.get_index_of.ensures.index)) (c.in_ok-key.ensures.items_if_clones_equal (λ x y same. same)) c.in_ok-insert.ensures.keys
    (c.in_ok-push-2.ensures.items ∙ ap (λ xs. xs ++ c.args.class ∷ []) c.new-row.ensures.items) c.in_ok-push-3.ensures.items

pub returns-clause-lengths : goal.returns-clause-lengths
returns-clause-lengths c = still_beside c.args.names.now.keys c.insert.new.self.keys c.args.rows.now.items c.push-3.new.self.items c.in_ok-key.key c.args.name.now c.push-2.new.self c.requires
    (found_place c.args.names.now.keys c.args.name.now None (sym c.in_default.is ∙ c.get_index_of.ensures.index)) (c.in_ok-key.ensures.items_if_clones_equal (λ x y same. same)) c.in_ok-insert.ensures.keys c.in_ok-push-3.ensures.items
