-- There are no more stub files than words, and the core stub.
use Rattle.std.proofs.Common.{arith, map, ℕ, List, Bor}
use Rattle.std.proofs.lemmas.List.{length-map}
use Rattle.command_trees.proofs.InputNumbers.{few_stubs}
use Rattle.command_trees.proofs.inputs.source_inputs.Goals as goal

pub overflow_cast-stubs : goal.overflow_cast-stubs
overflow_cast-stubs c =
    let long = length-map c.args.words.now (λ (word : Bor (List ℕ)). word.now) in
    let few = few_stubs (map (λ (word : Bor (List ℕ)). word.now) c.args.words.now) c.args.texts.now c.args.stubs.now c.requires.stubs in
    omega (arith, long, few, c.requires.few)

pub files_of_kind-requires : goal.files_of_kind-requires
files_of_kind-requires c =
    let long = length-map c.args.words.now (λ (word : Bor (List ℕ)). word.now) in
    let few = few_stubs (map (λ (word : Bor (List ℕ)). word.now) c.args.words.now) c.args.texts.now c.args.stubs.now c.requires.stubs in
    omega (arith, long, few, c.requires.few)
