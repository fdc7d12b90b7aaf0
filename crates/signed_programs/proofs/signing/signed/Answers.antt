-- What holds of the typed program holds of the signed one, and the first that refuses stops it.
use Rattle.well_formed_programs.proofs.WellFormedLaws.{well_formed}
use Rattle.signed_programs.specs.SignedPrograms.{IsSigningStop, by_annotations, by_rules}
use Rattle.signed_programs.proofs.Results.{passed_on}
use Rattle.signed_programs.proofs.SignedProgram.{interests_signed, parameters_signed}
use Rattle.signed_programs.proofs.signing.signed.Goals as goal

pub returns-in_err-read_signatures-clause-stopped : goal.returns-in_err-read_signatures-clause-stopped
returns-in_err-read_signatures-clause-stopped c =
    passed_on c.from_residual.result c.in_err-read_signatures.field-0.0 (IsSigningStop c.args.typed) c.from_residual.ensures.1 (by_annotations c.read_signatures.new.p c.in_err-read_signatures.ensures.stopped)

pub check_rules-requires : goal.check_rules-requires
check_rules-requires c = (c.in_ok-read_signatures.ensures.valid c.requires.valid).typed.numbered

pub returns-in_err-check_rules-clause-stopped : goal.returns-in_err-check_rules-clause-stopped
returns-in_err-check_rules-clause-stopped c =
    passed_on c.from_residual-in_err-check_rules.result c.in_err-check_rules.field-0.0 (IsSigningStop c.args.typed) c.from_residual-in_err-check_rules.ensures.1
    (by_rules c.read_signatures.new.p (record { signed = c.in_ok-read_signatures.ensures.signed; right = c.in_ok-read_signatures.ensures.right }) c.in_err-check_rules.ensures.stopped)

pub read_signatures-requires-clause-hierarchy : goal.read_signatures-requires-clause-hierarchy
read_signatures-requires-clause-hierarchy c = c.requires.valid.typed.hierarchy

pub returns-clause-well_formed : goal.returns-clause-well_formed
returns-clause-well_formed c =
    let s = c.in_ok-read_signatures.ensures in
    well_formed c.args.typed c.read_signatures.new.p s.signed s.right c.in_ok-check_rules.ensures.right (s.valid c.requires.valid) (s.bodies c.requires.bodies)

pub returns-clause-parameters : goal.returns-clause-parameters
returns-clause-parameters c = parameters_signed c.args.typed c.read_signatures.new.p c.in_ok-read_signatures.ensures.signed c.requires.parameters

pub returns-clause-interests : goal.returns-clause-interests
returns-clause-interests c = interests_signed c.args.typed c.read_signatures.new.p c.in_ok-read_signatures.ensures.signed
