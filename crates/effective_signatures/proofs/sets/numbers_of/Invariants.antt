use Rattle.std.proofs.Common.{◌≡◌, fold, take}
use Rattle.program_model.specs.NameSets.{no_names}
use Rattle.effective_signatures.specs.Sets.{with_number}
use Rattle.effective_signatures.proofs.sets.numbers_of.Given as goal

abbrev pub invariant-loop-text : goal.invariant-loop-text
invariant-loop-text l = l.set ≡ fold (with_number l.names) no_names (take l.text-index l.texts)
