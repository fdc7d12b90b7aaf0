-- The seven pairs.
use Rattle.std.proofs.Common.{length}
use Rattle.class_names.specs.ClassNames.{rows_in}
use Rattle.super_checks.proofs.ExceptionLemmas.{pairs_are_exceptions, pairs_within}
use Rattle.super_checks.proofs.exceptions.has_exceptions.Goals as goal

pub are_under-requires-clause-within : goal.are_under-requires-clause-within
are_under-requires-clause-within c = pairs_within c.args.names.now c.args.core (length c.args.direct.now) c.requires.long c.requires.core

pub returns : goal.returns
returns c =
    let pairs = pairs_are_exceptions (rows_in c.args.direct.now) c.args.core in
    ((λ passes. pairs.0 (c.in_ok-all.ensures.0 passes)), (λ h. c.in_ok-all.ensures.1 (pairs.1 h)))
