use Rattle.command_inputs.proofs.HaltLaws.{answers_too}
use Rattle.command_inputs.proofs.ReadLaws.{read_as_many}
use Rattle.command_inputs.specs.Inputs.{texts_of}
use Rattle.command_programs.proofs.ShortLaws.{read_short}
use Rattle.check_command.specs.Certificates as certificates
use Rattle.check_command.proofs.certifying.certify_files.Goals as goal

pub texts_of-requires : goal.texts_of-requires
texts_of-requires g c = rw c.deref.ensures.value (read_as_many _ _ _ _ c.in_ok-texts.ensures.read)

pub certify_texts-requires : goal.certify_texts-requires
certify_texts-requires g c = read_short _ _ _ (c.texts_of.ensures _ _ (rw (← c.deref.ensures.value) at c.in_ok-texts.ensures.read))

pub returns-clause-answer : goal.returns-clause-answer
returns-clause-answer g c =
    let are = c.texts_of.ensures _ _ (rw (← c.deref.ensures.value) at c.in_ok-texts.ensures.read) in
    answers_too c.certify_texts.result _ _ (λ answer said. certificates.read (texts_of c.texts_of.result) are c.in_ok-texts.ensures.read.no_fault said) c.certify_texts.ensures
