-- Where no body is missing or stands where none may, the members and bodies decide.
use Rattle.std.proofs.Common.{◌≡◌, inl, sym, []}
use Rattle.method_bodies.specs.MethodBodies.{body_cases}
use Rattle.elaboration_laws.proofs.TableNames.{built_names}
use Rattle.program_elaboration.proofs.Outcomes.{bodies_if, none_is_least, on_ok, stopped_if, valid_if}
use Rattle.program_elaboration.proofs.WellFormedBodies.{well_formed_bodies}
use Rattle.program_elaboration.proofs.elaborations.elaborate.Goals as goal

pub elaborate_bodies-requires-clause-names : goal.elaborate_bodies-requires-clause-names
elaborate_bodies-requires-clause-names c = built_names c.args.units.now c.requires.stubs c.requires.settings c.args.table c.requires.built

pub elaborate_bodies-requires-clause-well_formed : goal.elaborate_bodies-requires-clause-well_formed
elaborate_bodies-requires-clause-well_formed c = well_formed_bodies c.args.table c.args.units.now c.requires

pub returns-in-Some-clause-cause : goal.returns-in-Some-clause-cause
returns-in-Some-clause-cause c = inl (sym c.in-Some.ensures)

pub returns-in-None-clause-due : goal.returns-in-None-clause-due
returns-in-None-clause-due c = on_ok c.elaborate_bodies.result (body_cases c.args.units.now ≡ []) (none_is_least (body_cases c.args.units.now) (sym c.in-None.ensures))

pub returns-in-None-clause-valid : goal.returns-in-None-clause-valid
returns-in-None-clause-valid c = valid_if c.args.units.now c.args.table c.elaborate_bodies.result c.requires (none_is_least (body_cases c.args.units.now) (sym c.in-None.ensures)) c.elaborate_bodies.ensures.right c.elaborate_bodies.ensures.program

pub returns-in-None-clause-bodies : goal.returns-in-None-clause-bodies
returns-in-None-clause-bodies c = bodies_if c.args.units.now c.args.table c.elaborate_bodies.result c.requires (none_is_least (body_cases c.args.units.now) (sym c.in-None.ensures)) c.elaborate_bodies.ensures.program

pub returns-in-None-clause-cause : goal.returns-in-None-clause-cause
returns-in-None-clause-cause c = stopped_if c.args.units.now c.args.table c.elaborate_bodies.result (none_is_least (body_cases c.args.units.now) (sym c.in-None.ensures)) c.elaborate_bodies.ensures.cause
