-- What is computed is the relation where the hierarchy is valid.
use Rattle.std.proofs.Common.{◌≡◌, rules}
use Rattle.program_model.specs.SuperTests.{is_ignored}
use Rattle.program_model.proofs.HierarchyLaws.{is_ignored_along}
use Rattle.program_model.proofs.hierarchy.is_ignored.Goals as goal

pub returns-then-is_under_any-clause-relation : goal.returns-then-is_under_any-clause-relation
returns-then-is_under_any-clause-relation c = let same : c.is_under_any.result ≡ is_ignored c.args.p.now c.args.class = search rules in is_ignored_along _ _ _ same

pub returns-else-is_under_any-clause-relation : goal.returns-else-is_under_any-clause-relation
returns-else-is_under_any-clause-relation c = let same : c.has_class.result ≡ is_ignored c.args.p.now c.args.class = search rules in is_ignored_along _ _ _ same
