use Rattle.std.proofs.Common.{◌≡◌, ◌∙◌, ap, List, ◌∷◌, [], ◌++◌, length, true, arith}
use Rattle.program_model.specs.Lookups.{method_at}
use Rattle.draft_lines.specs.declared.change.ObjectChange.{ObjectChange}
use Rattle.ledger_state.specs.declared.object.Object.{Object}
use Rattle.ledger_state.specs.Heaps.{change_one}
use Rattle.ledger_steps.specs.Ends.{object_finished}
use Rattle.draft_lines.specs.DraftLines.{birth_changes}
use Rattle.heap_drafts.specs.Drafts.{ChangesAmong, numbers_rise}
use Rattle.heap_drafts.proofs.DraftLaws.{drafted_by}
use Rattle.draft_returns.proofs.ResultLaws.{birth_among, birth_is, births_after, numbers_as}
use Rattle.draft_returns.proofs.births.put_finished.Goals as goal

pub returns-in_err-rows-clause-drafted : goal.returns-in_err-rows-clause-drafted
returns-in_err-rows-clause-drafted c =
    let m = method_at c.args.p.now c.args.named in
    let h = c.args.heap.now in
    let is : c.put.new.self ≡ change_one c.args.number (λ _. object_finished c.args.p.now c.args.position m c.args.alias c.args.x) h = c.put.ensures ∙ ap (λ (y : Object). change_one c.args.number (λ _. y) h) c.object_finished-made.ensures in
    let has = numbers_as (c.args.number ∷ []) c.deref.result.now c.in_ok-numbers.numbers.items c.deref.ensures.value c.in_ok-numbers.ensures.all in
    let among : ChangesAmong c.deref.result.now h c.put.new.self = birth_among c.args.p.now c.args.position m c.args.alias h c.put.new.self c.args.number c.args.x c.deref.result.now c.requires.found c.requires.alone has is in
    drafted_by c.args.saved.now.items c.save.new.saved.items h c.put.new.self c.deref.result.now c.in_ok-save.ensures.ok among

pub returns-in_err-add_birth_lines-clause-drafted : goal.returns-in_err-add_birth_lines-clause-drafted
returns-in_err-add_birth_lines-clause-drafted c =
    let m = method_at c.args.p.now c.args.named in
    let h = c.args.heap.now in
    let is : c.put.new.self ≡ change_one c.args.number (λ _. object_finished c.args.p.now c.args.position m c.args.alias c.args.x) h = c.put.ensures ∙ ap (λ (y : Object). change_one c.args.number (λ _. y) h) c.object_finished-made.ensures in
    let has = numbers_as (c.args.number ∷ []) c.deref.result.now c.in_ok-numbers.numbers.items c.deref.ensures.value c.in_ok-numbers.ensures.all in
    let among : ChangesAmong c.deref.result.now h c.put.new.self = birth_among c.args.p.now c.args.position m c.args.alias h c.put.new.self c.args.number c.args.x c.deref.result.now c.requires.found c.requires.alone has is in
    drafted_by c.args.saved.now.items c.save.new.saved.items h c.put.new.self c.deref.result.now c.in_ok-save.ensures.ok among

pub returns-clause-drafted : goal.returns-clause-drafted
returns-clause-drafted c =
    let m = method_at c.args.p.now c.args.named in
    let h = c.args.heap.now in
    let is : c.put.new.self ≡ change_one c.args.number (λ _. object_finished c.args.p.now c.args.position m c.args.alias c.args.x) h = c.put.ensures ∙ ap (λ (y : Object). change_one c.args.number (λ _. y) h) c.object_finished-made.ensures in
    let has = numbers_as (c.args.number ∷ []) c.deref.result.now c.in_ok-numbers.numbers.items c.deref.ensures.value c.in_ok-numbers.ensures.all in
    let among : ChangesAmong c.deref.result.now h c.put.new.self = birth_among c.args.p.now c.args.position m c.args.alias h c.put.new.self c.args.number c.args.x c.deref.result.now c.requires.found c.requires.alone has is in
    drafted_by c.args.saved.now.items c.save.new.saved.items h c.put.new.self c.deref.result.now c.in_ok-save.ensures.ok among

pub returns-clause-heap : goal.returns-clause-heap
returns-clause-heap c =
    let m = method_at c.args.p.now c.args.named in
    let h = c.args.heap.now in
    let is : c.put.new.self ≡ change_one c.args.number (λ _. object_finished c.args.p.now c.args.position m c.args.alias c.args.x) h = c.put.ensures ∙ ap (λ (y : Object). change_one c.args.number (λ _. y) h) c.object_finished-made.ensures in
    let has = numbers_as (c.args.number ∷ []) c.deref.result.now c.in_ok-numbers.numbers.items c.deref.ensures.value c.in_ok-numbers.ensures.all in
    let among : ChangesAmong c.deref.result.now h c.put.new.self = birth_among c.args.p.now c.args.position m c.args.alias h c.put.new.self c.args.number c.args.x c.deref.result.now c.requires.found c.requires.alone has is in
    birth_is c.args.p.now c.args.position m c.args.alias h c.put.new.self c.args.number c.args.x c.requires.found is

pub returns-clause-lines : goal.returns-clause-lines
returns-clause-lines c =
    let m = method_at c.args.p.now c.args.named in
    let h = c.args.heap.now in
    let is : c.put.new.self ≡ change_one c.args.number (λ _. object_finished c.args.p.now c.args.position m c.args.alias c.args.x) h = c.put.ensures ∙ ap (λ (y : Object). change_one c.args.number (λ _. y) h) c.object_finished-made.ensures in
    let has = numbers_as (c.args.number ∷ []) c.deref.result.now c.in_ok-numbers.numbers.items c.deref.ensures.value c.in_ok-numbers.ensures.all in
    let among : ChangesAmong c.deref.result.now h c.put.new.self = birth_among c.args.p.now c.args.position m c.args.alias h c.put.new.self c.args.number c.args.x c.deref.result.now c.requires.found c.requires.alone has is in
    let rise : numbers_rise 0 c.deref.result.now ≡ true = ap (numbers_rise 0) c.deref.ensures.value ∙ c.in_ok-numbers.ensures.rise in
    let start : c.len-from.result ≡ length c.args.saved.now.items = omega arith in
    births_after c.args.p.now c.args.pos c.args.saved.now.items c.save.new.saved.items h c.put.new.self (change_one c.args.number (object_finished c.args.p.now c.args.position m c.args.alias) h) c.deref.result.now c.in_ok-rows.rows.items c.len-from.result c.in_ok-save.ensures.ok start c.in_ok-rows.ensures rise among
    (birth_is c.args.p.now c.args.position m c.args.alias h c.put.new.self c.args.number c.args.x c.requires.found is) c.args.lines.now.items c.add_birth_lines.new.into.items
    (c.in_ok-add_birth_lines.ensures ∙ ap (λ (rs : List ObjectChange). c.args.lines.now.items ++ birth_changes c.args.p.now c.args.pos rs) c.deref-2.ensures.value)
