use Rattle.std.proofs.Common.{◌++◌, ◌∷◌, [], ap, ◌∙◌}
use Rattle.java_syntax.specs.declared.symbols.Item.TheVariants.{Read}
use Rattle.java_grammar.specs.Reached.{lexemes_of}
use Rattle.java_grammar.proofs.Runs.{ended_at, the_only, wrong_here, wrong_end, took_one, starts_at}
use Rattle.java_grammar.proofs.machine.derive.Goals as goal

pub returns-then-not-branch-clause-refused : goal.returns-then-not-branch-clause-refused
returns-then-not-branch-clause-refused c = wrong_here c.args.bytes.now c.args.is_stub c.args.start c.args.tokens.now c.loop-at.at _ c.loop-at.machine c.take.new.machine c.in_ok-take.field-0 c.loop-at.invariant c.in_ok-take.ensures c.if-not-branch.true c.loop-at-test.true

pub returns-then-not-branch-2-clause-refused : goal.returns-then-not-branch-2-clause-refused
returns-then-not-branch-2-clause-refused c = wrong_end c.args.bytes.now c.args.is_stub c.args.start c.args.tokens.now c.loop-at.at c.loop-at.machine c.finish.new.machine c.in_ok-finish.field-0 c.loop-at.invariant c.in_ok-finish.ensures c.if-not-branch-2.true c.loop-at-test.false

pub returns-clause-derived : goal.returns-clause-derived
returns-clause-derived c = ended_at c.args.bytes.now c.args.is_stub c.args.start c.args.tokens.now c.loop-at.at c.loop-at.machine c.finish.new.machine c.in_ok-finish.field-0 c.loop-at.invariant c.in_ok-finish.ensures c.if-not-branch-2.false c.loop-at-test.false

pub returns-clause-one_derivation : goal.returns-clause-one_derivation
returns-clause-one_derivation c = λ steps d. the_only c.args.is_stub c.args.start (lexemes_of c.args.bytes.now c.args.tokens.now) _ steps
    (ended_at c.args.bytes.now c.args.is_stub c.args.start c.args.tokens.now c.loop-at.at c.loop-at.machine c.finish.new.machine c.in_ok-finish.field-0 c.loop-at.invariant c.in_ok-finish.ensures c.if-not-branch-2.false c.loop-at-test.false) d

pub loop-at-init : goal.loop-at-init
loop-at-init c = starts_at c.args.bytes.now c.args.is_stub c.args.start (record { stack = c.put.new.stack; context = c.new_context.result; events = c.new-2.result }) (c.in_ok-put.ensures ∙ ap (λ x. x ++ Read c.args.start ∷ []) c.new.ensures.items) (c.new_context.ensures c.args.bytes.now) c.new-2.ensures.items

pub loop-at-preserved : goal.loop-at-preserved
loop-at-preserved c = took_one c.args.bytes.now c.args.is_stub c.args.start c.args.tokens.now c.loop-at.at _ c.loop-at.machine c.take.new.machine c.in_ok-take.field-0 c.loop-at.invariant c.in_ok-take.ensures c.if-not-branch.false c.loop-at-test.true
