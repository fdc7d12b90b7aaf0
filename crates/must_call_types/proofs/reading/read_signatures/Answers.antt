use Rattle.annotation_rules.specs.AnnotationCases.{annotation_cases}
use Rattle.must_call_types.proofs.SignedValidity.{signed_has_bodies, signed_is_valid}
use Rattle.must_call_types.proofs.Signing.{no_cases}
use Rattle.must_call_types.proofs.reading.read_signatures.Goals as goal

pub returns-in-Ok-clause-right : goal.returns-in-Ok-clause-right
returns-in-Ok-clause-right c = no_cases (annotation_cases c.sign_program.new.p) c.in-Ok.field-0 c.in-Ok.ensures

pub returns-in-Ok-clause-valid : goal.returns-in-Ok-clause-valid
returns-in-Ok-clause-valid c valid = signed_is_valid c.args.p.now c.sign_program.new.p valid c.in_ok-sign_program.ensures.signed

pub returns-in-Ok-clause-bodies : goal.returns-in-Ok-clause-bodies
returns-in-Ok-clause-bodies c has = signed_has_bodies c.args.p.now c.sign_program.new.p has c.in_ok-sign_program.ensures.signed
