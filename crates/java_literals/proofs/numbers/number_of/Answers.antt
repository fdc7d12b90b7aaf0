use Rattle.std.proofs.Common.{◌≡◌, ◌∙◌, ap, sym, ◌^◌, Some, None}
use Rattle.std.specs.Prelude.{nat_lt}
use Rattle.std.proofs.lemmas.Bool.{cond-true, lt-ltb}
use Rattle.std.proofs.lemmas.List.{drop_all}
use Rattle.java_lexer.specs.Literals.{value_from}
use Rattle.java_literals.specs.Numbers.{below}
use Rattle.java_literals.proofs.NumberLaws.{no_number}
use Rattle.java_literals.proofs.numbers.number_of.Goals as goal

pub returns-in-None : goal.returns-in-None
returns-in-None c =
    no_number c.args.base c.each.number c.each.byte-index c.args.digits.now c.requires c.each-test.true c.each.invariant.spelled c.in-None.ensures

pub returns : goal.returns
returns c =
    let n = c.each.number in
    let spelled : n ≡ value_from c.args.base 0 c.args.digits.now =
    ap (value_from c.args.base n) (sym (drop_all c.each.byte-index c.args.digits.now c.each-test.false)) ∙ c.each.invariant.spelled in
    sym (cond-true (nat_lt n (2 ^ 64)) (Some n) None (lt-ltb n (2 ^ 64) c.each.invariant.fits)) ∙ ap (below (2 ^ 64)) spelled
