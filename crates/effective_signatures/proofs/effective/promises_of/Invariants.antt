use Rattle.std.proofs.Common.{◌≡◌, ℕ, List, take, filter_map}
use Rattle.effective_signatures.specs.Effective.{promise}
use Rattle.effective_signatures.specs.Targets.{target_of}
use Rattle.effective_signatures.proofs.effective.promises_of.Given as goal

abbrev pub invariant-loop-text : goal.invariant-loop-text
invariant-loop-text l =
    l.list.items ≡ filter_map (λ (text : List ℕ). promise l.names (target_of l.with_object l.count l.fields l.own text)) (take l.text-index l.texts)
