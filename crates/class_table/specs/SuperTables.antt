-- The super types of all classes as they are held while the table is made.
use Rattle.std.specs.Prelude.{◌≡◌, ◌≤◌, ◌^◌, List, length, map}
use Rattle.program_model.specs.declared.program.CoreClasses.{CoreClasses}
use Rattle.class_names.specs.ClassNames.{rows_in}
use Rattle.class_order.specs.Declarations.{Declaration}
use Rattle.class_headers.specs.declared.super_table.SuperTable.{SuperTable}
use Rattle.class_headers.specs.SuperTypes.{AreKnown, supers_of}
use Rattle.super_obligations.specs.SuperCases.{direct_in, supers_in}

-- these are the super types of the classes, and each of them is a class
pub record AreSupers (order : List Declaration) (core : CoreClasses) (t : SuperTable) : Type 0 where
  pub supers : map supers_of t.supers.items ≡ supers_in order core
  pub direct : rows_in t.direct.items ≡ direct_in order core
  pub known : AreKnown (direct_in order core)
  pub long : length order ≡ length t.direct.items
  pub few : length order ≤ 2 ^ 32
