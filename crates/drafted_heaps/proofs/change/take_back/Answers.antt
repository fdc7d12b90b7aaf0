use Rattle.std.proofs.Common.{◌≡◌, ◌∙◌, Option, None, Some}
use Rattle.std.specs.Prelude.{is_some}
use Rattle.ledger_state.specs.declared.object.Object.{Object}
use Rattle.ledger_state.specs.Contents.{HeapContents}
use Rattle.spread_notes.specs.SpreadNotes.{add_made}
use Rattle.drafted_heaps.proofs.StoredLaws.{taken_back}
use Rattle.drafted_heaps.proofs.change.take_back.Goals as goal

pub returns-then-added : goal.returns-then-added
returns-then-added c = λ g made is added. go made is g added
  where
    go : (made : Option Object) → c.args.added ≡ is_some made → (g : HeapContents) → c.args.heap.now ≡ add_made made g → c.drop_last.new.heap ≡ g
    go None is g added = absurd (cc)
    go (Some x) is g added = c.drop_last.ensures ∙ taken_back c.args.heap.now g x added
