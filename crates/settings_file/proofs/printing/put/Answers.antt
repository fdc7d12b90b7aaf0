use Rattle.std.proofs.Common.{ap, ◌∙◌}
use Rattle.toml.specs.View.{table_view, view}
use Rattle.settings_file.specs.Members.{put_member}
use Rattle.settings_file.proofs.Members.{put_view}
use Rattle.settings_file.proofs.printing.put.Goals as goal

pub returns-in-Ok : goal.returns-in-Ok
returns-in-Ok c =
    rw c.in-Ok.ensures.entries
    (put_view c.in_ok-key.key c.args.value c.args.table.now.entries
    ∙ ap (λ k. put_member k (view c.args.value) (table_view c.args.table.now)) c.in_ok-key.ensures.ok)
