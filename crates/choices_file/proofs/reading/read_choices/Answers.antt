use Rattle.std.proofs.Common.{◌<◌, ◌^◌, ◌∙◌, length, sym, subst}
use Rattle.choices_file.proofs.LineLaws.{lines_fit}
use Rattle.choices_file.proofs.reading.read_choices.Goals as goal

pub first_wrong-requires : goal.first_wrong-requires
first_wrong-requires c =
    subst (λ xs. length xs < 2 ^ 32) (sym (c.deref.ensures.value ∙ c.in_ok-lines.ensures)) (lines_fit c.args.bytes.now c.requires)
