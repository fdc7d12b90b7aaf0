use Rattle.std.proofs.Common.{◌≡◌, take}
use Rattle.program_model.specs.Lookups.{method_at}
use Rattle.program_model.specs.NameSets.{names_of_all}
use Rattle.must_call_sets.specs.OwningCases.{finalized_by}
use Rattle.owning_fields.proofs.finalized.finalized_by_all.Given as goal

abbrev pub invariant-loop-m : goal.invariant-loop-m
invariant-loop-m l = l.names ≡ names_of_all (λ m. finalized_by l.p l.class l.f (method_at l.p m)) (take l.m-index l.methods)
