use Rattle.draft_stages.proofs.AliasLaws.{AliasesSoFar}
use Rattle.draft_stages.proofs.aliases.add_aliases.Given as goal

abbrev pub invariant-places : goal.invariant-places
invariant-places l = AliasesSoFar l.index l.fn.among.keys l.among.keys l.place
