-- The text for words that the command does not take.
use Rattle.std.specs.Prelude.{ℕ, List, codes}

-- how the command is to be called: a line for each mode
unfoldable pub usage_text : List ℕ
usage_text = codes "usage: rlc check [--config FILE] FILE..\nusage: rlc run --main CLASS [--choices FILE] [--steps N] [--config FILE] FILE..\nusage: rlc gen --seed K --methods M\nusage: rlc settings --config FILE\nusage: rlc certify [--config FILE] FILE..\nusage: rlc verify --cert FILE [--config FILE] FILE..\n"
