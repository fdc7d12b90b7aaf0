-- The arcs of a row are small.
use Rattle.std.proofs.Common.{◌∙◌, ap, sym, List}
use Rattle.std.specs.Prelude.{slice_get}
use Rattle.java_cfg.specs.declared.arc.Arc.{Arc}
use Rattle.fault_paths.proofs.path.breaks.Goals as goal

pub can_break-requires-clause-small : goal.can_break-requires-clause-small
can_break-requires-clause-small c i a here = c.requires.fits.small c.args.step.now.node i a (ap (λ (row : List Arc). slice_get row i) (sym c.arcs_at.ensures) ∙ here)
