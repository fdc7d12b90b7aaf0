-- Bodies in which nothing is refused have well-formed statements.
use Rattle.std.proofs.Common.{List, [], ◌∷◌, All}
use Rattle.std.proofs.lemmas.List.Elements.{All-cons, All-nil}
use Rattle.java_syntax.specs.declared.declaration_trees.Unit as tree
use Rattle.program_model.specs.declared.program.Program.{Program}
use Rattle.elaboration_laws.specs.CatchParameters.{HasCatchTypes}
use Rattle.elaboration_laws.proofs.LeastClasses.{valid_has_catch_types}
use Rattle.java_elaboration.specs.SourceClassesMembers.{Environment}
use Rattle.java_elaboration.specs.SourceClasses.{source_classes}
use Rattle.java_elaboration.specs.Bodies.{SourceBody, all_bodies}
use Rattle.elaboration_laws.proofs.BodyLaws.{body_well}
use Rattle.java_elaboration.specs.ProgramCases.{environment_of}
use Rattle.java_elaboration.specs.Elaborations.{AreWellFormedUnlessRefused, IsWellFormedUnlessRefused}
use Rattle.program_elaboration.specs.Tables.{IsTableOf}

each_well_formed : (e : Environment) → HasCatchTypes e.program → (bodies : List SourceBody) → All (IsWellFormedUnlessRefused e) bodies
each_well_formed e exceptions [] = All-nil (IsWellFormedUnlessRefused e)
each_well_formed e exceptions (b ∷ bodies) = All-cons (IsWellFormedUnlessRefused e) b bodies (λ none. body_well e exceptions b none) (each_well_formed e exceptions bodies)

pub well_formed_bodies : (p : Program) (units : List tree.Unit) → IsTableOf p units → AreWellFormedUnlessRefused p units
well_formed_bodies p units t = each_well_formed (environment_of p units) (valid_has_catch_types p t.built.valid.typed) (all_bodies (environment_of p units) (source_classes p units))
