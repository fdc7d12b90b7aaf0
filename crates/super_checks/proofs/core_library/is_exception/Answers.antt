-- The class of strings is a class of the program.
use Rattle.std.proofs.Common.{length}
use Rattle.super_checks.proofs.CoreLemmas.{string_within}
use Rattle.super_checks.proofs.core_library.is_exception.Goals as goal

pub is_under-requires-clause-within : goal.is_under-requires-clause-within
is_under-requires-clause-within c = string_within c.args.names.now c.args.core (length c.args.direct.now) c.requires.long c.requires.core
