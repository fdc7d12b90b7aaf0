use Rattle.std.proofs.Common.{◌≡◌, ◌≤◌, ◌∙◌, sym, arith, length, min}
use Rattle.std.proofs.lemmas.List.{length-take}
use Rattle.leak_report.proofs.steps.put_ends.Goals as goal

pub slice_bounds-put_steps-end : goal.slice_bounds-put_steps-end
slice_bounds-put_steps-end c = let is = length-take 100 c.args.shown.now in omega (arith, is, c.requires)
