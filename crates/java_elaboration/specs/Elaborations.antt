-- The program that a table is with the bodies of its source files.
use Rattle.std.specs.Prelude.{◌≡◌, Some, List, [], map, All}
use Rattle.std.specs.List.{AllZip}
use Rattle.rlc_base.specs.declared.faults.Stop.{Stop}
use Rattle.rlc_base.specs.declared.faults.Stop.TheVariants as stops
use Rattle.java_syntax.specs.declared.declaration_trees.Unit as tree
use Rattle.program_model.specs.declared.program.Program.{Program}
use Rattle.program_model.specs.declared.tree.Body.{Body}
use Rattle.program_model.specs.Trees.{IsForest}
use Rattle.java_types.specs.Refusals.{least}
use Rattle.java_laying.specs.WellFormedStatements.{AreWellFormedStatements}
use Rattle.java_laying.specs.Bodies.{IsLaid}
use Rattle.java_types.specs.Declarations.{variable_in}
use Rattle.program_bodies.specs.ProgramBodies.{HasBodies}
use Rattle.java_types.specs.SourceClasses.{source_classes}
use Rattle.java_types.specs.SourceClassesMembers.{Environment}
use Rattle.java_types.specs.Bodies.{SourceBody, all_bodies, body_cases}
use Rattle.java_types.specs.ProgramCases.{environment_of, program_cases}
use Rattle.java_types.specs.TypedBodies.{TypedBody, typed_body}

-- ---- what is asked

-- what a body must have to be laid into its tables: each of its nodes has as many parts as its form takes, and none is refused
abbrev pub HasWellFormedStatements : TypedBody → Type 0
HasWellFormedStatements t = AreWellFormedStatements t.statements

-- where nothing in the body is refused, it has well-formed statements
abbrev pub IsWellFormedUnlessRefused : Environment → SourceBody → Type 0
IsWellFormedUnlessRefused e b = body_cases e b ≡ [] → HasWellFormedStatements (typed_body e b)

-- that of all bodies of the source files
abbrev pub AreWellFormedUnlessRefused : Program → List tree.Unit → Type 0
AreWellFormedUnlessRefused p units = All (IsWellFormedUnlessRefused (environment_of p units)) (all_bodies (environment_of p units) (source_classes p units))

-- ---- the program

-- a typed body in its two tables, in which each node has one parent or is a statement of the body itself
pub record IsBodyOf (t : TypedBody) (x : Body) : Type 0 where
  pub method : x.method ≡ t.method
  pub variables : map variable_in x.vars.items ≡ t.variables
  pub laid : IsLaid x t.statements
  pub forest : IsForest x
  pub end : x.end ≡ t.end

-- the program of the table and of typed bodies: its bodies are these, laid, and each method has the number of its body
pub record IsProgramOf (p : Program) (bodies : List TypedBody) (q : Program) : Type 0 where
  pub laid : AllZip IsBodyOf bodies q.bodies.items
  pub table : HasBodies p q.bodies.items q

-- why there is no program: the least of its refusals, or memory ran out
abbrev pub IsElaborationStop : Program → List tree.Unit → Stop → Type 0
IsElaborationStop p units (stops.Refused r) = least (program_cases p units) ≡ Some r
IsElaborationStop p units (stops.TooMuch r) = ⊥
IsElaborationStop p units stops.NoMemory = Unit {0}
