use Rattle.std.proofs.Common.{refl}
use Rattle.input_files.proofs.stops.limit_line.Goals as goal

pub returns : goal.returns
returns c = (c.name_at-name.result.now, c.name_at-name.ensures, refl, c.in_ok-text.ensures)
