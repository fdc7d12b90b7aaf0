-- The number goes last, or stands there already.
use Rattle.std.proofs.Common.{◌∙◌, ◌+◌, ap, eqb, length, max, sym}
use Rattle.java_cfg.proofs.LinkLemmas.{numbers_once, placed}
use Rattle.java_cfg.proofs.link.link_one.Goals as goal

pub returns-in_err-index-clause-once : goal.returns-in_err-index-clause-once
returns-in_err-index-clause-once c = numbers_once _ c.insert_full.ensures.unique

pub returns-then-len-gt-MAX_NODES-clause-once : goal.returns-then-len-gt-MAX_NODES-clause-once
returns-then-len-gt-MAX_NODES-clause-once c = numbers_once _ c.insert_full.ensures.unique

pub returns-clause-once : goal.returns-clause-once
returns-clause-once c = numbers_once _ c.insert_full.ensures.unique

pub returns-clause-count : goal.returns-clause-count
returns-clause-count c =
    let old = c.args.numbers.now.keys in
    let to = c.args.step.now.to in
    ap length c.in_ok-index.ensures.keys ∙ placed (eqb to) old to ∙ sym (ap (λ i. max (length old) (i + 1)) c.in_ok-index.ensures.index)
