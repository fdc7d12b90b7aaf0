use Rattle.std.proofs.Common.{◌≡◌, ◌∙◌, ap, sym, arith, [], ◌∷◌, ◌++◌, length}
use Rattle.machine_calls.proofs.CallLaws.{main_went}
use Rattle.machine_calls.proofs.returning.run_main_end.Goals as goal

pub returns-in_ok-append_lines-clause-went : goal.returns-in_ok-append_lines-clause-went
returns-in_ok-append_lines-clause-went c =
    let m = c.args.m.now in
    let top = c.in-Some.top.now in
    let below = c.in-Some._below.now in
    let split : m.frames.items ≡ below ++ top ∷ [] = sym c.deref.ensures.value ∙ c.in-Some.ensures.cases.0 in
    let one = c.requires.alone in
    let count = c.deref.ensures.len in
    let more = c.in-Some.ensures.cases.1 in
    let alone : length below ≡ 0 = omega (arith, one, count, more) in
    let entries = c.in_ok-append_lines.ensures.entries ∙ ap (λ xs. m.entries.items ++ xs) (c.deref-in-Some.ensures.value ∙ c.in_ok-effect.ensures.lines) in
    main_went c.args.p.now m top below c.args.pos c.args.completion c.clear.new.self.items c.in_ok-effect.effect.heap c.exception_class-ended.result c.append_lines.new.entries.items
    split alone c.clear.ensures.items c.in_ok-effect.ensures.heap c.exception_class-ended.ensures entries
