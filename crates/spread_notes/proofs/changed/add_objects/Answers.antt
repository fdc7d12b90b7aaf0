use Rattle.std.proofs.Common.{◌∙◌, ap, sym, subst, ℕ, ◌<◌, List, ◌∷◌, ◌++◌, [], arith}
use Rattle.spread_notes.specs.declared.numbered.Numbered.{Numbered}
use Rattle.spread_notes.specs.SpreadNotes.{AllMadeOf, rises_beyond}
use Rattle.spread_notes.proofs.ObjectLists.{AllWithin, made_more, rises_more, within_more}
use Rattle.spread_notes.proofs.changed.add_objects.Goals as goal

pub each-preserved : goal.each-preserved
each-preserved c =
    let h = c.args.heap.now in
    let ns = c.args.notes.now in
    let inv = c.each.invariant in
    let found = c.in-Some-made_of.made in
    let pushed = c.in_ok-push-in-Some-made_of.ensures.items in
    let less : c.each.last < found.number = omega (arith, c.in-Some.ensures, c.in-Some-made_of.ensures.number) in
    record {
      made = subst (λ (xs : List Numbered). AllMadeOf h ns xs) (sym pushed) (made_more h ns c.each.into.items found inv.made c.in-Some-made_of.ensures.made);
      within = subst (λ (xs : List Numbered). AllWithin c.in-Some.number xs) (sym pushed) (subst (λ (k : ℕ). AllWithin k (c.each.into.items ++ found ∷ [])) c.in-Some-made_of.ensures.number (within_more c.each.last c.each.into.items found inv.within less));
      rises = ap (rises_beyond 0) pushed ∙ rises_more 0 c.each.last c.each.into.items found (omega arith) inv.within less inv.rises;
    }
