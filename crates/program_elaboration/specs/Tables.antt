-- Which tables are completed with the bodies of source files.
use Rattle.std.specs.Prelude.{List}
use Rattle.java_syntax.specs.declared.declaration_trees.Unit as tree
use Rattle.java_syntax.specs.declared.settings.Settings.{Settings}
use Rattle.program_model.specs.declared.program.Program.{Program}
use Rattle.elaboration_laws.specs.Passes.{IsBuilt, classes_of}

-- the table of the classes of these source files and of some stubs, under some settings
pub record IsTableOf (p : Program) (units : List tree.Unit) : Type 0 where
  pub stubs : List tree.Unit
  pub settings : Settings
  pub built : IsBuilt (classes_of units stubs settings) settings p
