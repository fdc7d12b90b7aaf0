-- The trees of the stub files and the Java sources, and why there are none.
use Rattle.std.specs.Prelude.{List, Vec}
use Rattle.std.specs.declared.alloc.Global.{Global}
use Rattle.rlc_base.specs.declared.faults.Stop.{Stop}
use Rattle.java_syntax.specs.declared.declaration_trees.Unit as tree
use Rattle.program_front.specs.declared.files.CutFile.{CutFile}
use Rattle.program_front.specs.declared.files.InputFile.{InputFile}
use Rattle.program_front.specs.declared.trees.Trees as trees
use Rattle.program_front.specs.Files.{AreSectionsOf, IsCutOf, IsSectionless, IsUncut, IsUnitOf, IsUnitless}
use Rattle.program_front.specs.InTurn.{AreDone, IsStopInTurn}

-- all files are cut into tokens, of which each stub file has its sections and each source file its tree
pub record AreTrees (stubs sources : List InputFile) (t : trees.Trees) : Type 0 where
  pub cut_stubs : List CutFile
  pub cut_sources : List CutFile
  pub stubs_cut : AreDone IsCutOf stubs cut_stubs
  pub sources_cut : AreDone IsCutOf sources cut_sources
  pub sections : AreDone AreSectionsOf cut_stubs t.stubs.items
  pub units : AreDone IsUnitOf cut_sources t.sources.items

-- The first file that has no cut stops it, and else the first that has no tree. Stubs come before sources.
pub data IsTreesStop (stubs sources : List InputFile) (stop : Stop) : Type 0 where
  uncut_stub : IsStopInTurn IsCutOf IsUncut stubs stop → IsTreesStop stubs sources stop
  uncut_source : (cut_stubs : List CutFile) → AreDone IsCutOf stubs cut_stubs → IsStopInTurn IsCutOf IsUncut sources stop → IsTreesStop stubs sources stop
  no_stub : (cut_stubs cut_sources : List CutFile) → AreDone IsCutOf stubs cut_stubs → AreDone IsCutOf sources cut_sources
      → IsStopInTurn AreSectionsOf IsSectionless cut_stubs stop → IsTreesStop stubs sources stop
  no_unit : (cut_stubs cut_sources : List CutFile) (sections : List (Vec tree.Unit Global)) → AreDone IsCutOf stubs cut_stubs → AreDone IsCutOf sources cut_sources
      → AreDone AreSectionsOf cut_stubs sections → IsStopInTurn IsUnitOf IsUnitless cut_sources stop → IsTreesStop stubs sources stop
