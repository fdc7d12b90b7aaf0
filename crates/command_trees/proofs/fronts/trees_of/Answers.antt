-- The files are short, and the first without a tree refuses.
use Rattle.std.proofs.Common.{◌∙◌, ap, map, ℕ, List, Bor}
use Rattle.program_front.specs.Trees.{IsTreesStop}
use Rattle.file_numbers.specs.Numbering.{number_and_bytes}
use Rattle.command_trees.specs.Fronts.{IsFilesStop, refused}
use Rattle.command_trees.proofs.InputNumbers.{short_sources, short_stubs}
use Rattle.command_trees.proofs.Results.{if_err}
use Rattle.command_trees.proofs.fronts.trees_of.Goals as goal

pub read_trees-requires-clause-stubs : goal.read_trees-requires-clause-stubs
read_trees-requires-clause-stubs c =
    short_stubs (map (λ (word : Bor (List ℕ)). word.now) c.args.words.now) c.args.texts.now c.deref-2.result.now c.requires.short (ap (map number_and_bytes) c.deref-2.ensures.value ∙ c.in_ok-stubs.ensures)

pub read_trees-requires-clause-sources : goal.read_trees-requires-clause-sources
read_trees-requires-clause-sources c =
    short_sources (map (λ (word : Bor (List ℕ)). word.now) c.args.words.now) c.args.texts.now c.deref-3.result.now c.requires.short (ap (map number_and_bytes) c.deref-3.ensures.value ∙ c.in_ok-sources.ensures)

pub returns-clause-stopped : goal.returns-clause-stopped
returns-clause-stopped c =
    let words = map (λ (word : Bor (List ℕ)). word.now) c.args.words.now in
    let stubs = c.deref-2.result.now in
    let sources = c.deref-3.result.now in
    if_err (IsTreesStop stubs sources) (IsFilesStop words c.args.texts.now) c.read_trees.result
    (λ stop stopped. refused stubs sources (record {
      numbered_stubs = ap (map number_and_bytes) c.deref-2.ensures.value ∙ c.in_ok-stubs.ensures;
      numbered_sources = ap (map number_and_bytes) c.deref-3.ensures.value ∙ c.in_ok-sources.ensures;
    }) stopped)
    c.read_trees.ensures.stopped
