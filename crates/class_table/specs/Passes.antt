-- In which order the table of classes is refused: two classes of one name, types that are none, classes above themselves, members
-- of one name, super types of a wrong kind, and too many classes. Each pass refuses by the least of its cases, and where a pass has
-- none the next one decides.
use Rattle.std.specs.Prelude.{◌≡◌, ◌<◌, ◌^◌, ◌⊎◌, Some, None, List, [], Contains, length}
use Rattle.rlc_base.specs.declared.faults.Refusal.{Refusal}
use Rattle.rlc_base.specs.declared.faults.Stop.{Stop}
use Rattle.rlc_base.specs.declared.faults.Stop.TheVariants as stops
use Rattle.java_syntax.specs.declared.declaration_trees.Unit as tree
use Rattle.java_syntax.specs.declared.settings.Settings.{Settings}
use Rattle.program_model.specs.declared.program.CoreClasses.{CoreClasses}
use Rattle.program_model.specs.declared.program.Program.{Program}
use Rattle.program_model.specs.Validity.{IsValid}
use Rattle.class_headers.specs.Cases.{IsCycleCase}
use Rattle.class_order.specs.Cases.{IsLeast, double_cases, too_many_cases}
use Rattle.class_order.specs.Core.{AreCore}
use Rattle.class_order.specs.Declarations.{Declaration, class_names, class_order}
use Rattle.class_checks.specs.DoubleMembers.{double_member_cases}
use Rattle.super_obligations.specs.SuperCases.{direct_in}
use Rattle.super_obligations.specs.SuperPass.{IsSuperCase}
use Rattle.class_table.specs.Table.{IsTable}
use Rattle.class_checks.specs.TypeCases.{IsTypeCase}

-- the classes of the stubs and of the source files, in class order
abbrev pub classes_of : List tree.Unit → List tree.Unit → Settings → List Declaration
classes_of units stubs settings = class_order settings.core stubs units

-- ---- the cases of each pass, in the order of the passes

abbrev pub IsDoubleCase : List Declaration → Refusal → Type 0
IsDoubleCase order r = Contains (double_cases order) r

abbrev pub IsCycle : List Declaration → CoreClasses → Refusal → Type 0
IsCycle order core r = IsCycleCase order (direct_in order core) r

abbrev pub IsMemberCase : List Declaration → Refusal → Type 0
IsMemberCase order r = Contains (double_member_cases (class_names order) order) r

-- ---- the passes

-- a pass refuses by the least of its cases, or has none and the passes behind it refuse
abbrev pub IsFirstOr : (Refusal → Type 0) → Refusal → Type 0 → Type 0
IsFirstOr P r behind = IsLeast P (Some r) ⊎ (IsLeast P None × behind)

-- the refusal of the passes over classes above themselves, members and super types
abbrev pub IsLaterRefusal : List Declaration → CoreClasses → Refusal → Type 0
IsLaterRefusal order core r = IsFirstOr (IsCycle order core) r (IsFirstOr (IsMemberCase order) r (IsLeast (IsSuperCase order core) (Some r)))

-- the classes that the language names are there where no type is refused
pub record IsBehindTypes (order : List Declaration) (r : Refusal) : Type 0 where
  pub core : CoreClasses
  pub named : AreCore (class_names order) core
  pub refused : IsLaterRefusal order core r

-- the refusal of the table
abbrev pub IsTableRefusal : List Declaration → Refusal → Type 0
IsTableRefusal order r = IsFirstOr (IsDoubleCase order) r (IsFirstOr (IsTypeCase order) r (IsBehindTypes order r))

-- no class stands above itself, no two members have one name, and all super types are of the right kinds
pub record AreFit (order : List Declaration) (core : CoreClasses) : Type 0 where
  pub cycles : IsLeast (IsCycle order core) None
  pub members : IsLeast (IsMemberCase order) None
  pub supers : IsLeast (IsSuperCase order core) None

-- no pass but that over the number of classes has a case
pub record IsRight (order : List Declaration) (core : CoreClasses) : Type 0 where
  pub named : AreCore (class_names order) core
  pub doubles : IsLeast (IsDoubleCase order) None
  pub types : IsLeast (IsTypeCase order) None
  pub fit : AreFit order core

-- no other pass has a case, and there are too many classes
pub record IsTooMany (order : List Declaration) (r : Refusal) : Type 0 where
  pub core : CoreClasses
  pub right : IsRight order core
  pub least : IsLeast (Contains (too_many_cases order)) (Some r)

-- ---- what the passes answer

-- why the passes over classes above themselves, members and super types stop
abbrev pub IsLaterStop : List Declaration → CoreClasses → Stop → Type 0
IsLaterStop order core (stops.Refused r) = IsLaterRefusal order core r
IsLaterStop order core (stops.TooMuch r) = ⊥
IsLaterStop order core stops.NoMemory = Unit {0}

-- why there is no table where the types are known: one of those passes refuses, there are too many classes, or memory ran out
abbrev pub IsBehindStop : List Declaration → CoreClasses → Stop → Type 0
IsBehindStop order core (stops.Refused r) = IsLaterRefusal order core r
IsBehindStop order core (stops.TooMuch r) = AreFit order core × IsLeast (Contains (too_many_cases order)) (Some r)
IsBehindStop order core stops.NoMemory = Unit {0}

-- ---- what making the table answers

-- why there is no table: a pass refuses, there are too many classes, or memory ran out
abbrev pub IsTableStop : List Declaration → Stop → Type 0
IsTableStop order (stops.Refused r) = IsTableRefusal order r
IsTableStop order (stops.TooMuch r) = IsTooMany order r
IsTableStop order stops.NoMemory = Unit {0}

-- the table of the classes, whose members' numbers are in range
pub record IsMade (order : List Declaration) (settings : Settings) (p : Program) : Type 0 where
  pub table : IsTable order settings p
  pub fields : length p.fields.items < 2 ^ 32
  pub methods : length p.methods.items < 2 ^ 32

-- the table of the classes: no pass has a case, and the table is valid
pub record IsBuilt (order : List Declaration) (settings : Settings) (p : Program) : Type 0 where
  pub right : IsRight order p.core
  pub few : too_many_cases order ≡ []
  pub table : IsTable order settings p
  pub valid : IsValid p
