use Rattle.std.proofs.Common.{◌∙◌, ◌<◌, map, subst, sym, refl, length, ap, Err, Bor}
use Rattle.std.proofs.lemmas.List.{length-map}
use Rattle.program_model.specs.declared.program.RawAnno.{RawAnno}
use Rattle.must_call_types.specs.NameTable.{IsPastStop}
use Rattle.must_call_types.proofs.NameLaws.{at_map, past_here, past_later, table_later}
use Rattle.must_call_types.proofs.names.table_of.Goals as goal

pub returns-in-Err-TooManyNames-clause-stopped : goal.returns-in-Err-TooManyNames-clause-stopped
returns-in-Err-TooManyNames-clause-stopped c =
    let seen = λ (a : Bor RawAnno). a.now in
    let xs = map seen c.args.annotations.now in
    let within : c.loop-annotation.annotation-index < length xs = simp length-map c.loop-annotation-test.true in
    let at = at_map seen c.args.annotations.now c.loop-annotation.annotation-index c.annotation-item.result c.loop-annotation-test.true c.annotation-item.is in
    let full = c.in-Err-TooManyNames.ensures.full in
    subst (IsPastStop xs) (sym c.too_many_names.ensures)
    (refl, c.loop-annotation.invariant.past ∙ past_here c.loop-annotation.table xs c.loop-annotation.annotation-index c.annotation-item.result.now within at (full (ap (λ e. Err e) c.in-Err-TooManyNames.field-0-is)))

pub loop-annotation-preserved : goal.loop-annotation-preserved
loop-annotation-preserved c =
    let seen = λ (a : Bor RawAnno). a.now in
    let xs = map seen c.args.annotations.now in
    let i = c.loop-annotation.annotation-index in
    let within : i < length xs = simp length-map c.loop-annotation-test.true in
    let at = at_map seen c.args.annotations.now i c.annotation-item.result c.loop-annotation-test.true c.annotation-item.is in
    record {
      table = table_later c.loop-annotation.table c.put_names.new.table xs i c.annotation-item.result.now within at c.loop-annotation.invariant.table c.in-Ok.ensures.taken;
      past = c.loop-annotation.invariant.past ∙ past_later c.loop-annotation.table c.put_names.new.table xs i c.annotation-item.result.now within at c.in-Ok.ensures.taken c.in-Ok.ensures.few;
      few = c.in-Ok.ensures.few;
    }
