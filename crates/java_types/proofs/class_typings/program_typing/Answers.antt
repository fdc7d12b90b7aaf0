use Rattle.std.proofs.Common.{rules}
use Rattle.java_types.proofs.Environments.{typed_by}
use Rattle.java_types.proofs.class_typings.program_typing.Goals as goal

pub returns-clause-typed : goal.returns-clause-typed
returns-clause-typed c = search (rules, typed_by)
