use Rattle.std.proofs.Common.{◌∙◌, ap, sym, refl, string_bytes, arith, length, Global}
use Rattle.source_files.proofs.ReadingLaws.{contents_more, here, stopped, total_push}
use Rattle.source_files.proofs.reading.read_all.Goals as goal

pub returns-in-Err-clause-cause : goal.returns-in-Err-clause-cause
returns-in-Err-clause-cause g c =
    stopped Global _ _ c.args.held string_bytes c.args.names.now c.each.name-index c.name-item.result c.deref.result.now c.each.texts.items c.len.result c.each.total _ _ c.in-Err.stop
    c.each.invariant.told c.deref.ensures (omega (arith, c.len.ensures)) c.each.invariant.total c.each.invariant.no_fault refl c.each.invariant.taken refl
    (record { inside = c.each-test.true; at = c.name-item.is; read = c.each.invariant.texts; few = omega (arith, c.each.invariant.total, c.each.invariant.few) })
    c.in-Err.ensures.cause

pub returns-in-Err-clause-holds : goal.returns-in-Err-clause-holds
returns-in-Err-clause-holds g c sound all =
    let there = here (g.F.Files.contents c.args.files.now) string_bytes c.args.names.now c.each.name-index c.name-item.result c.each-test.true c.name-item.is all in
    c.in-Err.ensures.holds (c.each.invariant.sound sound) (rw c.each.invariant.told (rw c.deref.ensures there)) ∙ c.each.invariant.no_fault

pub each-preserved : goal.each-preserved
each-preserved g c =
    let push = c.in-Ok-push.ensures.items in
    let sum = total_push c.each.texts.items c.in-Ok.text in
    let long = ap length c.bytes.ensures in
    record {
      told = c.read_one.ensures.told ∙ c.each.invariant.told;
      texts = rw push (contents_more _ string_bytes c.args.names.now c.each.name-index c.name-item.result c.each.texts.items c.in-Ok.text c.each-test.true c.name-item.is c.each.invariant.texts (rw (sym c.each.invariant.told) (rw (sym c.deref.ensures) c.in-Ok.ensures.cause.0)) c.in-Ok.ensures.cause.1);
      total = rw push (omega (arith, sum, long, c.each.invariant.total));
      few = omega (arith, long, c.in-Ok.ensures.cause.2);
      no_fault = c.in-Ok.ensures.cause.3 ∙ c.each.invariant.no_fault;
      taken = omega (arith, c.each.invariant.taken, c.read_one.ensures.never_falls);
      sound = λ s. c.read_one.ensures.stays_sound (c.each.invariant.sound s);
    }
