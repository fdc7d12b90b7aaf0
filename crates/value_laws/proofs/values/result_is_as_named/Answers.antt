use Rattle.value_laws.proofs.values.result_is_as_named.Goals as goal

pub returns : goal.returns
returns c = λ p fr caller frs given i t named here called. (given.0 i t named here called).0
