-- What a body of the source files has to do with the table: its method, and its class.
use Rattle.std.specs.Prelude.{◌≡◌, ◌-◌, ℕ, Option, Some, List, length, slice_get}
use Rattle.std.specs.Option.{is_some}
use Rattle.java_syntax.specs.declared.declaration_trees.Unit as tree
use Rattle.java_syntax.specs.declared.settings.Settings.{Settings}
use Rattle.program_model.specs.declared.program.Program.{Program}
use Rattle.program_model.specs.Heads.{is_constructor}
use Rattle.program_model.specs.Lookups.{method_at}
use Rattle.class_table.specs.ClassOrderDeclarations.{Declaration}
use Rattle.class_table.specs.Passes.{classes_of}
use Rattle.java_elaboration.specs.SourceClasses.{declarations, library_classes}
use Rattle.java_elaboration.specs.Bodies.{SourceBody}

-- the declaration of the class with this number, as the table is made of it
abbrev pub table_declaration : List tree.Unit → List tree.Unit → Settings → ℕ → Option Declaration
table_declaration units stubs settings n = slice_get (classes_of units stubs settings) n

-- the declaration of the class with this number in the source files
abbrev pub source_declaration : Program → List tree.Unit → ℕ → Option Declaration
source_declaration p units n = slice_get (declarations units) (n - length (library_classes p))

-- the body of a method or constructor of its class, with its parameters. That of a constructor, and no other, says which constructor
-- of the super class it calls
pub record IsSourceBody (p : Program) (source : ℕ → Option Declaration) (b : SourceBody) : Type 0 where
  pub method : method_at p b.method ≡ Some b.signature
  pub class' : b.signature.class ≡ b.class'.class'
  pub kind : is_constructor b.signature.kind ≡ is_some b.body.super_call
  pub parameters : length b.body.parameters ≡ length b.signature.sig.params.items
  pub declared : source b.class'.class'.0 ≡ Some b.class'.declaration
