-- Where a part is missing, the whole is.
use Rattle.class_order.specs.Core.{roots_of, thrown_of}
use Rattle.class_order.proofs.core_library.core_classes.Goals as goal

pub returns-in-Err-clause-missing : goal.returns-in-Err-clause-missing
returns-in-Err-clause-missing c = (c.in-Err.ensures.missing.0, λ k core. c.in-Err.ensures.missing.1 (roots_of k) core.roots)

pub returns-in-Err-operator_exceptions-clause-missing : goal.returns-in-Err-operator_exceptions-clause-missing
returns-in-Err-operator_exceptions-clause-missing c = (c.in-Err-operator_exceptions.ensures.missing.0, λ k core. c.in-Err-operator_exceptions.ensures.missing.1 (thrown_of k) core.thrown)
