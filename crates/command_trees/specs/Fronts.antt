-- The trees of the files of a command, and why they have none.
use Rattle.std.specs.Prelude.{◌≡◌, ℕ, List, flat_map}
use Rattle.rlc_base.specs.declared.faults.Stop.{Stop}
use Rattle.rlc_base.specs.declared.faults.Stop.TheVariants as stops
use Rattle.java_syntax.specs.declared.declaration_trees.Unit as tree
use Rattle.program_front.specs.declared.files.InputFile.{InputFile}
use Rattle.program_front.specs.declared.trees.Trees as trees
use Rattle.program_front.specs.Trees.{AreTrees, IsTreesStop}
use Rattle.command_trees.specs.Inputs.{AreFiles}

-- the files of the words have these trees
pub record HasTrees (words texts : List (List ℕ)) (t : trees.Trees) : Type 0 where
  pub stubs : List InputFile
  pub sources : List InputFile
  pub files : AreFiles words texts stubs sources
  pub are_trees : AreTrees stubs sources t

-- the sections of all stub files, in their order
abbrev pub sections_of : trees.Trees → List tree.Unit
sections_of t = flat_map (λ sections. sections.items) t.stubs.items

-- the stub files of the words have these sections, and the Java sources these trees
pub record IsFront (words texts : List (List ℕ)) (sections sources : List tree.Unit) : Type 0 where
  pub trees : trees.Trees
  pub has_trees : HasTrees words texts trees
  pub sections_are : sections ≡ sections_of trees
  pub sources_are : sources ≡ trees.sources.items

-- The first file refuses whose bytes are not cut into tokens, and else the first that has no tree. Or memory ran out.
pub data IsFilesStop (words texts : List (List ℕ)) (stop : Stop) : Type 0 where
  refused : (stubs sources : List InputFile) → AreFiles words texts stubs sources → IsTreesStop stubs sources stop → IsFilesStop words texts stop
  no_memory : stop ≡ stops.NoMemory → IsFilesStop words texts stop
