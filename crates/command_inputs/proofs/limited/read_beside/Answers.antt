use Rattle.std.proofs.Common.{◌∙◌, refl, arith}
use Rattle.input_files.proofs.LaterStops.{stopped_from}
use Rattle.command_inputs.specs.Inputs.{names_of}
use Rattle.command_inputs.specs.Limited.{at, behind, limited_of}
use Rattle.command_inputs.proofs.HaltLaws.{halts_too}
use Rattle.command_inputs.proofs.LimitedLaws.{limited_from, read_all_parts}
use Rattle.command_inputs.proofs.limited.read_beside.Goals as goal

pub returns-in-Err-clause-unread : goal.returns-in-Err-clause-unread
returns-in-Err-clause-unread g c =
    halts_too c.in-Err.halt _ _
    (λ answer stopped. at c.in_ok-few_files.ensures.few c.in_ok-texts.texts.items
    (rw (c.deref.ensures.value, c.in_ok-list.ensures) at c.in_ok-texts.ensures.contents)
    (limited_from _ _ _ _ answer (record { before = c.in_ok-texts.ensures.no_fault; now = refl; taken = c.read_texts.ensures.never_falls; taken_now = refl }) (rw c.read_texts.ensures.told at stopped)))
    c.in-Err.ensures.stopped

pub returns-in-Ok-read_behind-clause-read : goal.returns-in-Ok-read_behind-clause-read
returns-in-Ok-read_behind-clause-read g c =
    let found = c.in-Ok-read_behind.ensures.contents in
    read_all_parts (g.F.Files.contents c.args.files.now) (names_of c.args.names) (limited_of c.args.file) _ c.in_ok-texts.texts.items found.0 c.in-Ok-read_behind.all.items c.in-Ok.text
    c.in_ok-few_files.ensures.few
    (rw (c.deref.ensures.value, c.in_ok-list.ensures) at c.in_ok-texts.ensures.contents)
    (rw c.read_texts.ensures.told at c.in-Ok.ensures.text)
    (rw (c.read_limited.ensures.told, c.read_texts.ensures.told) at found.1.1)
    found.1.0
    c.in-Ok-read_behind.ensures.total
    (c.in-Ok-read_behind.ensures.no_fault ∙ c.in-Ok.ensures.no_fault ∙ c.in_ok-texts.ensures.no_fault)

pub returns-clause-unread : goal.returns-clause-unread
returns-clause-unread g c =
    halts_too c.in-Err-read_behind.halt _ _
    (λ answer stopped. behind c.in_ok-few_files.ensures.few c.in_ok-texts.texts.items c.in-Ok.text
    (rw (c.deref.ensures.value, c.in_ok-list.ensures) at c.in_ok-texts.ensures.contents)
    (rw c.read_texts.ensures.told at c.in-Ok.ensures.text)
    (stopped_from _ _ _ _ _ answer
    (record {
      before = c.in-Ok.ensures.no_fault ∙ c.in_ok-texts.ensures.no_fault;
      now = refl;
      taken = omega (arith, c.read_texts.ensures.never_falls, c.read_limited.ensures.never_falls);
      taken_now = refl;
    })
    (rw (c.read_limited.ensures.told, c.read_texts.ensures.told) at stopped)))
    c.in-Err-read_behind.ensures.stopped
