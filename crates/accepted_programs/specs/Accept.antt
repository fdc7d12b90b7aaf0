-- What it is to accept a program.
use Rattle.std.specs.Prelude.{◌≡◌, []}
use Rattle.rlc_base.specs.declared.place.Pos.{Pos}
use Rattle.program_model.specs.declared.kinds.ClassId.{ClassId}
use Rattle.program_model.specs.declared.kinds.BodyId.{BodyId}
use Rattle.program_model.specs.declared.program.Program.{Program}
use Rattle.control_actions.specs.declared.fact.Origin.{Origin}
use Rattle.control_actions.specs.declared.fact.Rule.{Rule}
use Rattle.flow_rules.specs.Facts.{Names}
use Rattle.flow_rules.specs.Cases.{class_cases}
use Rattle.must_call_types.specs.AnnotationCases.{annotation_cases}
use Rattle.must_call_types.specs.Signed.{IsSigned}
use Rattle.flow_rules.specs.WellFormed.{IsWellFormed}
use Rattle.accepted_programs.specs.Conditions.{DeclaresOnce}
use Rattle.accepted_programs.specs.Coverage.{CoversItsExceptions}
use Rattle.flow_rules.specs.Paths.{Faulty, FitsPlaces, relation_of}

-- A program is accepted: it is well formed, no class declares two methods of one signature, what its classes override and leave
-- without a body is as Java asks, its annotations are right, and its sets and signatures are what they say; its bodies catch or declare
-- the checked exceptions that they throw, none of them passes the limits on places, and no path in one breaks a rule.
pub record Accept (p : Program) : Type 0 where
  -- its tables belong together, its bodies are typed trees, and no case of the rules on signatures holds
  pub well_formed : IsWellFormed p
  -- no class declares two methods of one signature (JLS 8.4.2)
  pub declares_once : DeclaresOnce p
  -- what overrides may override, and what a class leaves without a body it may leave so (JLS 8.4.8, 8.1.1.1)
  pub overriding : (c : ClassId) → class_cases p c ≡ []
  -- no annotation is refused
  pub annotations : annotation_cases p ≡ []
  -- the must-call sets and the effective signatures are those that the annotations say
  pub signatures : IsSigned p p
  -- no body throws a checked exception that is neither caught nor declared (JLS 11.2)
  pub covers : CoversItsExceptions p
  -- no body passes the limits on places
  pub fits : (b : BodyId) → FitsPlaces p b (relation_of p b)
  -- no path from an origin in a body comes to a fault
  pub no_fault : (b : BodyId) (o : Origin) (rule : Rule) (at : Pos) (names : Names) → Faulty p b (relation_of p b) o rule at names → ⊥
