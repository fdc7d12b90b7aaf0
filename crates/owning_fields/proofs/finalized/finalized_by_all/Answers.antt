use Rattle.std.proofs.Common.{get_or}
use Rattle.std.proofs.lemmas.List.{get_or_default}
use Rattle.program_model.specs.declared.kinds.MethodId.{MethodId}
use Rattle.program_model.specs.Lookups.{method_at}
use Rattle.program_model.specs.NameSets.{Names}
use Rattle.program_model.proofs.NameLaws.{names_more}
use Rattle.must_call_sets.specs.OwningCases.{finalized_by}
use Rattle.owning_fields.proofs.finalized.finalized_by_all.Goals as goal

pub loop-m-preserved : goal.loop-m-preserved
loop-m-preserved c =
    let f : MethodId → Names = λ m. finalized_by c.args.p.now c.args.class c.args.f (method_at c.args.p.now m) in
    let methods = c.args.methods.now in
    let i = c.loop-m.m-index in
    let m : MethodId = get_or methods i record { 0 = 0 } in
    let more = names_more f methods i m c.loop-m-test.true (get_or_default methods i record { 0 = 0 } m c.loop-m-test.true) in
    cc
