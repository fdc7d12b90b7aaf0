-- What holds of the table holds of it with its bodies, and the first that refuses stops it.
use Rattle.program_reading.specs.TypedPrograms.{IsTypingStop, by_table, by_types}
use Rattle.program_elaboration.specs.Elaborations.{IsElaborationStop}
use Rattle.command_trees.proofs.Results.{if_err}
use Rattle.signed_programs.proofs.Results.{passed_on}
use Rattle.program_reading.proofs.TypedTables.{parameters_if, typed_if}
use Rattle.program_reading.proofs.typing.typed.Goals as goal

pub returns-in_err-table-clause-stopped : goal.returns-in_err-table-clause-stopped
returns-in_err-table-clause-stopped c =
    passed_on c.from_residual.result c.in_err-table.field-0.0 (IsTypingStop c.args.settings.now c.args.sections.now c.args.sources.now) c.from_residual.ensures.1 (by_table c.in_err-table.ensures.cause)

pub elaborate-requires : goal.elaborate-requires
elaborate-requires c = record { stubs = c.args.sections.now; settings = c.args.settings.now; built = c.in_ok-table.ensures.built }

pub returns-clause-typed : goal.returns-clause-typed
returns-clause-typed c =
    typed_if c.args.settings.now c.args.sections.now c.args.sources.now c.in_ok-table.table c.elaborate.result c.in_ok-table.ensures.built c.elaborate.ensures.due c.elaborate.ensures.right c.elaborate.ensures.program

pub returns-clause-parameters : goal.returns-clause-parameters
returns-clause-parameters c = parameters_if c.args.sources.now c.in_ok-table.table c.elaborate.result c.in_ok-table.ensures.parameters c.elaborate.ensures.program

pub returns-clause-stopped : goal.returns-clause-stopped
returns-clause-stopped c =
    if_err (IsElaborationStop c.in_ok-table.table c.args.sources.now) (IsTypingStop c.args.settings.now c.args.sections.now c.args.sources.now) c.elaborate.result
    (λ stop stopped. by_types c.in_ok-table.table c.in_ok-table.ensures.built stopped) c.elaborate.ensures.cause
