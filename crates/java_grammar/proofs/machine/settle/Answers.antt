use Rattle.std.proofs.Common.{◌≡◌, ◌++◌, ◌∷◌, [], List, reverse, map, ◌<◌, sym, subst, ap, ◌∙◌, Some}
use Rattle.java_syntax.specs.Table.{body_of}
use Rattle.java_syntax.specs.declared.symbols.Item.{Item}
use Rattle.java_syntax.specs.declared.symbols.Item.TheVariants.{Read}
use Rattle.java_syntax.specs.Derives.{step_of}
use Rattle.java_grammar.specs.Lookahead.{candidate, choice}
use Rattle.java_grammar.specs.Reached.{StartsWith, Reached, surroundings_of, to_come}
use Rattle.java_grammar.proofs.Steps.{top, no_choice, permitted_is}
use Rattle.java_grammar.proofs.ActionSteps.{acted, replaced, effort_of}
use Rattle.java_grammar.proofs.SymbolTests.{candidate_is_of}
use Rattle.java_grammar.proofs.Effort.{effort, less_effort}
use Rattle.java_grammar.proofs.machine.settle.Goals as goal

pub loop-symbol-init : goal.loop-symbol-init
loop-symbol-init c = record {
  none = c.in_ok-act.ensures.none;
  held = λ o start used h. acted c.args.bytes.now o start used (StartsWith c.args.next) _ _ c.in_ok-act.ensures h;
}

pub returns-in_default-choose_allowed : goal.returns-in_default-choose_allowed
returns-in_default-choose_allowed c = λ o start used h.
    let b = c.args.bytes.now in
    let s = surroundings_of b c.loop-symbol.machine.context in
    let es = map (step_of b) c.loop-symbol.machine.events.items in
    let e : reverse c.loop-symbol.machine.stack.items ≡ Read c.in-Some.symbol ∷ reverse c.pop_symbol.new.stack.items = ap reverse c.in-Some.ensures ∙ top c.pop_symbol.new.stack.items (Read c.in-Some.symbol) in
    no_choice o start used s (reverse c.pop_symbol.new.stack.items) es c.args.next c.in-Some.symbol
    (subst (λ is. Reached o start used (StartsWith c.args.next) s is es) e (c.loop-symbol.invariant.held o start used h))
    (sym c.choose_allowed.ensures ∙ c.in_default-choose_allowed.is)

was : (c : goal.In_ok-replace) → reverse c.loop-symbol.machine.stack.items ≡ Read c.in-Some.symbol ∷ reverse c.pop_symbol.new.stack.items
was c = ap reverse c.in-Some.ensures ∙ top c.pop_symbol.new.stack.items (Read c.in-Some.symbol)

chose : (c : goal.In_ok-replace) → choice c.in-Some.symbol (surroundings_of c.args.bytes.now c.loop-symbol.machine.context) c.args.next ≡ Some c.in-Some-choose_allowed.production
chose c = sym c.choose_allowed.ensures ∙ c.in-Some-choose_allowed.is

pub loop-symbol-smaller : goal.loop-symbol-smaller
loop-symbol-smaller c =
    let P : List Item → List Item → Type 0 = λ x y. effort x < effort y in
    let s = surroundings_of c.args.bytes.now c.loop-symbol.machine.context in
    let p = c.in-Some-choose_allowed.production in
    let r = c.in_ok-replace.ensures in
    let below = reverse c.pop_symbol.new.stack.items in
    let h = candidate_is_of c.in-Some.symbol c.args.next p (permitted_is s (candidate c.in-Some.symbol c.args.next) p (chose c)).0 in
    let k : P (body_of p ++ below) (Read c.in-Some.symbol ∷ below) = subst (λ x. P (body_of p ++ below) (Read x ∷ below)) h (less_effort p below) in
    let e : effort (body_of p ++ below) ≡ effort (to_come c.replace.new.machine) = ap effort r.came ∙ effort_of r.actions (to_come c.replace.new.machine) in
    subst (λ n. n < effort (reverse c.loop-symbol.machine.stack.items)) e (subst (λ y. P (body_of p ++ below) y) (sym (was c)) k)

pub loop-symbol-preserved : goal.loop-symbol-preserved
loop-symbol-preserved c = record {
  none = c.in_ok-replace.ensures.none;
  held = λ o start used h.
      let b = c.args.bytes.now in
      let s = surroundings_of b c.loop-symbol.machine.context in
      let es = map (step_of b) c.loop-symbol.machine.events.items in
      replaced b o start used c.args.next c.in-Some.symbol c.in-Some-choose_allowed.production _ _ c.in_ok-replace.ensures
      (subst (λ is. Reached o start used (StartsWith c.args.next) s is es) (was c) (c.loop-symbol.invariant.held o start used h)) (chose c);
}

pub returns : goal.returns
returns c = rw c.in_default.ensures.1 (c.in_default.ensures.0, c.loop-symbol.invariant.held)
