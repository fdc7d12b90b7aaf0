use Rattle.std.proofs.Common.{◌∷◌, [], reverse, map, sym, subst, ap, ◌∙◌, Some}
use Rattle.std.proofs.lemmas.List.{map-append}
use Rattle.java_syntax.specs.declared.symbols.Item.TheVariants.{Take}
use Rattle.java_syntax.specs.declared.tokens.Event.TheVariants as event
use Rattle.java_syntax.specs.Derives.{lexeme_of, step_of}
use Rattle.java_grammar.specs.Reached.{StartsWith, Reached, surroundings_of}
use Rattle.java_grammar.proofs.Words.{same_is, differs}
use Rattle.java_grammar.proofs.Steps.{kept, top, narrows, nothing_left, goes_over, other_word, too_long}
use Rattle.java_grammar.proofs.machine.take.Goals as goal

pub returns-in_default : goal.returns-in_default
returns-in_default c = λ o start used h ts fs n d.
    let b = c.args.bytes.now in
    let w = c.args.token.word in
    let s = surroundings_of b c.settle.new.machine.context in
    let es = map (step_of b) c.settle.new.machine.events.items in
    let a = kept b (Some w) c.args.machine.now c.settle.new.machine c.in_ok-settle.field-0 c.in_ok-settle.ensures c.if-not-branch.false in
    too_long o start used s es w
    (subst (λ is. Reached o start used (StartsWith (Some w)) s is es)
    (nothing_left (reverse c.settle.new.machine.stack.items) a.0 c.in_default.ensures) (a.1 o start used (narrows (Some w) h))) ts fs n d

pub returns-then-not-is_same : goal.returns-then-not-is_same
returns-then-not-is_same c = λ o start used h ts fs n d.
    let b = c.args.bytes.now in
    let w = c.args.token.word in
    let s = surroundings_of b c.settle.new.machine.context in
    let es = map (step_of b) c.settle.new.machine.events.items in
    let a = kept b (Some w) c.args.machine.now c.settle.new.machine c.in_ok-settle.field-0 c.in_ok-settle.ensures c.if-not-branch.false in
    other_word o start used s (reverse c.pop_word.new.stack.items) es w c.in-Some.word c.in-Some.effect
    (subst (λ is. Reached o start used (StartsWith (Some w)) s is es)
    (ap reverse c.in-Some.ensures ∙ top c.pop_word.new.stack.items (Take c.in-Some.word c.in-Some.effect)) (a.1 o start used (narrows (Some w) h)))
    (differs c.in-Some.word w (sym c.is_same.ensures ∙ c.if-not-is_same.true)) ts fs n d

pub returns : goal.returns
returns c = λ o start used h.
    let b = c.args.bytes.now in
    let t = c.args.token in
    let s = surroundings_of b c.settle.new.machine.context in
    let es = map (step_of b) c.settle.new.machine.events.items in
    let a = kept b (Some t.word) c.args.machine.now c.settle.new.machine c.in_ok-settle.field-0 c.in_ok-settle.ensures c.if-not-branch.false in
    let w = same_is c.in-Some.word t.word (sym c.is_same.ensures ∙ c.if-not-is_same.false) in
    rw (c.in_ok-append.ensures, map-append (step_of b) c.settle.new.machine.events.items (event.Took t ∷ []), c.advance-machine.ensures b)
    (goes_over o start used s (reverse c.pop_word.new.stack.items) es c.in-Some.word c.in-Some.effect (lexeme_of b t)
    (subst (λ v. Reached o start used (StartsWith (Some v)) s (Take c.in-Some.word c.in-Some.effect ∷ reverse c.pop_word.new.stack.items) es) (sym w)
    (subst (λ is. Reached o start used (StartsWith (Some t.word)) s is es)
    (ap reverse c.in-Some.ensures ∙ top c.pop_word.new.stack.items (Take c.in-Some.word c.in-Some.effect)) (a.1 o start used (narrows (Some t.word) h))))
    (sym w))
