-- The row of a simple name has its classes.
use Rattle.std.proofs.Common.{◌∙◌, sym, ap, Some, None}
use Rattle.rlc_base.proofs.TableLemmas.{found_place}
use Rattle.rlc_base.specs.Names.{texts}
use Rattle.class_names.specs.ClassNames.{rows_in, simply_named}
use Rattle.class_names.proofs.RowLemmas.{row_found, row_missing}
use Rattle.class_names.proofs.names.ClassNames.simply_named.Goals as goal

pub returns-in-None : goal.returns-in-None
returns-in-None c = row_missing (texts c.self.inside.rows.names.keys) (rows_in c.self.inside.rows.classes.items) c.args.name.now
    (found_place c.self.inside.rows.names.keys c.args.name.now None (sym c.in-None.is ∙ c.get_index_of.ensures.index))
    ∙ c.self.invariant.rows_are c.args.name.now ∙ ap (λ classes. simply_named classes c.args.name.now) c.self.view_is

pub returns-in-Some : goal.returns-in-Some
returns-in-Some c = c.as_slice.ensures.value ∙ row_found c.self.inside.rows.names.keys c.self.inside.rows.classes.items c.args.name.now c.in-Some.place c.index.result.now c.self.invariant.beside
    (found_place c.self.inside.rows.names.keys c.args.name.now (Some c.in-Some.place) (sym c.in-Some.is ∙ c.get_index_of.ensures.index)) c.index.ensures
    ∙ c.self.invariant.rows_are c.args.name.now ∙ ap (λ classes. simply_named classes c.args.name.now) c.self.view_is
