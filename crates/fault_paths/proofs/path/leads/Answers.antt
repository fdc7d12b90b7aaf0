-- The arcs of a row are small, and bear few facts.
use Rattle.std.proofs.Common.{◌∙◌, ap, sym, List}
use Rattle.std.specs.Prelude.{slice_get}
use Rattle.java_cfg.specs.declared.arc.Arc.{Arc}
use Rattle.fault_paths.proofs.path.leads.Goals as goal

pub can_lead-requires-clause-small : goal.can_lead-requires-clause-small
can_lead-requires-clause-small c i a here = c.requires.fits.small c.args.step.now.node i a (ap (λ (row : List Arc). slice_get row i) (sym c.arcs_at.ensures) ∙ here)

pub can_lead-requires-clause-few : goal.can_lead-requires-clause-few
can_lead-requires-clause-few c i a here = c.requires.fits.few c.args.step.now.node i a (ap (λ (row : List Arc). slice_get row i) (sym c.arcs_at.ensures) ∙ here)
