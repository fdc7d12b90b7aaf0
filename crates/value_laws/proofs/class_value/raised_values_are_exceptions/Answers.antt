use Rattle.value_laws.proofs.ClassLaws.{raised_values_are_exceptions}
use Rattle.value_laws.proofs.class_value.raised_values_are_exceptions.Goals as goal

pub returns : goal.returns
returns c = raised_values_are_exceptions
