use Rattle.command_inputs.proofs.HaltLaws.{answers_too, halts_too}
use Rattle.command_inputs.proofs.ReadLaws.{read_as_many}
use Rattle.command_inputs.specs.Inputs.{texts_of}
use Rattle.command_programs.proofs.ShortLaws.{read_short}
use Rattle.check_command.specs.Certificates as certificates
use Rattle.check_command.proofs.verifying.verify_files.Goals as goal

pub returns-in-Err-clause-answer : goal.returns-in-Err-clause-answer
returns-in-Err-clause-answer g c = halts_too c.in-Err.halt _ _ (λ answer why. certificates.unread why) c.in-Err.ensures.unread

pub texts_of-requires : goal.texts_of-requires
texts_of-requires g c = rw c.deref.ensures.value (read_as_many _ _ _ _ c.in-Ok.ensures.read.are)

pub verify_texts-requires-clause-short : goal.verify_texts-requires-clause-short
verify_texts-requires-clause-short g c = read_short _ _ _ (c.texts_of.ensures _ _ (rw (← c.deref.ensures.value) at c.in-Ok.ensures.read.are))

pub returns-clause-answer : goal.returns-clause-answer
returns-clause-answer g c =
    let are = c.texts_of.ensures _ _ (rw (← c.deref.ensures.value) at c.in-Ok.ensures.read.are) in
    answers_too c.verify_texts.result _ _
    (λ answer said. certificates.read (texts_of c.texts_of.result) c.bytes.result.now are (rw c.bytes.ensures c.in-Ok.ensures.read.limited) c.in-Ok.ensures.read.are.no_fault said)
    c.verify_texts.ensures
