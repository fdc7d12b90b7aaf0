-- What is computed is the relation where the hierarchy is valid.
use Rattle.std.proofs.Common.{◌≡◌, rules}
use Rattle.program_model.specs.SuperTests.{is_under}
use Rattle.program_model.proofs.HierarchyLaws.{is_under_along}
use Rattle.program_model.proofs.hierarchy.under.Goals as goal

pub returns-in-None-clause-relation : goal.returns-in-None-clause-relation
returns-in-None-clause-relation c = let same : c.eq.result ≡ is_under c.args.p.now c.args.class c.args.other = search rules in is_under_along _ _ _ _ same

pub returns-in-Some-clause-relation : goal.returns-in-Some-clause-relation
returns-in-Some-clause-relation c = let same : c.has_class.result ≡ is_under c.args.p.now c.args.class c.args.other = search rules in is_under_along _ _ _ _ same
