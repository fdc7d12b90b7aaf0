use Rattle.command_inputs.proofs.HaltLaws.{answers_too}
use Rattle.command_inputs.proofs.ReadLaws.{read_as_many}
use Rattle.command_inputs.specs.Inputs.{texts_of}
use Rattle.command_programs.proofs.ShortLaws.{read_short}
use Rattle.run_inputs.specs.Runs.{read}
use Rattle.run_inputs.proofs.ChoicesLaws.{short_choices}
use Rattle.run_inputs.proofs.runs.run_files.Goals as goal

pub texts_of-requires : goal.texts_of-requires
texts_of-requires g c = rw c.deref.ensures.value (read_as_many _ _ _ _ c.in_ok-texts.ensures.read)

pub run_texts-requires-clause-short : goal.run_texts-requires-clause-short
run_texts-requires-clause-short g c = read_short _ _ _ (c.texts_of.ensures _ _ (rw (← c.deref.ensures.value) at c.in_ok-texts.ensures.read))

pub run_texts-requires-clause-choices : goal.run_texts-requires-clause-choices
run_texts-requires-clause-choices g c = short_choices _ _ _ (c.texts_of.ensures _ _ (rw (← c.deref.ensures.value) at c.in_ok-texts.ensures.read))

pub returns-clause-answer : goal.returns-clause-answer
returns-clause-answer g c =
    let are = c.texts_of.ensures _ _ (rw (← c.deref.ensures.value) at c.in_ok-texts.ensures.read) in
    answers_too c.run_texts.result _ _ (λ answer ran. read (texts_of c.texts_of.result) are c.in_ok-texts.ensures.read.no_fault ran) c.run_texts.ensures
