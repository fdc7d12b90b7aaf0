use Rattle.std.proofs.Common.{reverse, map, subst, ap, ◌∙◌, None}
use Rattle.java_syntax.specs.declared.symbols.Item.TheVariants.{Take}
use Rattle.java_syntax.specs.Derives.{step_of}
use Rattle.java_grammar.specs.Reached.{StartsWith, Reached, surroundings_of}
use Rattle.java_grammar.proofs.Steps.{kept, top, narrows, nothing_left, too_short, ends_here}
use Rattle.java_grammar.proofs.machine.finish.Goals as goal

pub returns-in-Some : goal.returns-in-Some
returns-in-Some c = λ o start used h ts fs n d.
    let b = c.args.bytes.now in
    let s = surroundings_of b c.settle.new.machine.context in
    let es = map (step_of b) c.settle.new.machine.events.items in
    let a = kept b None c.args.machine.now c.settle.new.machine c.in_ok-settle.field-0 c.in_ok-settle.ensures c.if-not-branch.false in
    too_short o start used s (reverse c.pop_word.new.stack.items) es c.in-Some.field-0.0 c.in-Some.field-0.1
    (subst (λ is. Reached o start used (StartsWith None) s is es)
    (ap reverse c.in-Some.ensures ∙ top c.pop_word.new.stack.items (Take c.in-Some.field-0.0 c.in-Some.field-0.1)) (a.1 o start used (narrows None h))) ts fs n d

pub returns-in-None : goal.returns-in-None
returns-in-None c = λ o start used h.
    let b = c.args.bytes.now in
    let s = surroundings_of b c.settle.new.machine.context in
    let es = map (step_of b) c.settle.new.machine.events.items in
    let a = kept b None c.args.machine.now c.settle.new.machine c.in_ok-settle.field-0 c.in_ok-settle.ensures c.if-not-branch.false in
    ends_here o start used s es
    (subst (λ is. Reached o start used (StartsWith None) s is es)
    (nothing_left (reverse c.settle.new.machine.stack.items) a.0 c.in-None.ensures) (a.1 o start used (narrows None h)))
