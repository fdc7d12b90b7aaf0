use Rattle.std.proofs.Common.{refl, [], get_or}
use Rattle.program_front.specs.Files.{IsCutOf, IsUncut}
use Rattle.program_front.specs.declared.files.InputFile.{InputFile}
use Rattle.program_front.proofs.InTurnLaws.{done_more, same_element, stopped_at}
use Rattle.program_front.proofs.lexing.lex_files.Goals as goal

-- what an element is where there is none
abbrev no_file : InputFile
no_file = record { number = 0; bytes = record { ref_ptr = (0, 0); now = [] } }

pub returns-in-Err : goal.returns-in-Err
returns-in-Err c =
    let file : InputFile = get_or c.args.files.now c.each.file-index no_file in
    stopped_at IsCutOf IsUncut c.args.files.now c.each.file-index file c.each.cut.items c.in-Err.stop c.each-test.true
    (same_element c.args.files.now c.each.file-index no_file file c.each-test.true) c.each.invariant (c.in-Err.ensures.refused, c.in-Err.ensures.no_cut)

pub each-preserved : goal.each-preserved
each-preserved c =
    let file : InputFile = get_or c.args.files.now c.each.file-index no_file in
    rw c.in-Ok-push.ensures.items
    (done_more IsCutOf c.args.files.now c.each.file-index file c.each.cut.items (record { file = file; tokens = c.in-Ok.tokens }) c.each-test.true
    (same_element c.args.files.now c.each.file-index no_file file c.each-test.true) c.each.invariant (refl, c.in-Ok.ensures.cut))
