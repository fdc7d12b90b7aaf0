use Rattle.std.proofs.Common.{◌≡◌, ◌∙◌, ap, subst, List, ◌∷◌, ◌++◌, map, reverse, IfSome}
use Rattle.program_model.specs.Lookups.{method_at}
use Rattle.draft_lines.specs.declared.leaks.Leak.{Leak}
use Rattle.draft_lines.specs.DraftLines.{leak_entries_of}
use Rattle.heap_drafts.proofs.DraftLaws.{drafted_on}
use Rattle.draft_stages.specs.LedgerCallsCalls.{arguments_moved}
use Rattle.draft_lines.specs.Entries.{owner_entries}
use Rattle.ledger_obligations.specs.Obligations.{held_in}
use Rattle.ledger_state.specs.declared.entry.Entry.{Entry}
use Rattle.ledger_state.specs.declared.entry.Owner.TheVariants as owners
use Rattle.ledger_state.specs.Locals.{held}
use Rattle.draft_starts.proofs.StartLaws.{no_leaks, start_lines, start_rest}
use Rattle.draft_starts.proofs.starts.start_in_place.Goals as goal

pub draft_end-requires-clause-rest : goal.draft_end-requires-clause-rest
draft_end-requires-clause-rest c k x there unsaved none =
    start_rest c.args.saved.now.items c.draft_arguments.new.saved.items c.args.heap.now c.draft_arguments.new.heap (held c.args.top.now) (map held_in (reverse c.args.below.now)) c.requires
    (drafted_on c.args.saved.now.items c.args.heap.now c.begin.new.saved.items c.begin.new.heap c.draft_arguments.new.saved.items c.draft_arguments.new.heap c.begin.ensures.drafted c.draft_arguments.ensures.drafted) k x there unsaved

pub draft_end-requires-clause-leaks : goal.draft_end-requires-clause-leaks
draft_end-requires-clause-leaks c = no_leaks c.draft_arguments.new.heap c.new-leaks.result.items c.new-leaks.ensures.items

pub returns-clause-lines : goal.returns-clause-lines
returns-clause-lines c =
    let p = c.args.p.now in
    let l = c.args.locals.now in
    let a = c.args.action in
    let named = method_at p c.args.named in
    let list = held c.args.top.now ∷ map held_in (reverse c.args.below.now) in
    let b = c.begin.new.heap in
    let moved = owner_entries p c.args.pos b (arguments_moved p (owners.Frame c.args.position) l a named b) in
    let lines : c.draft_arguments.new.lines.items ≡ moved = c.in_ok-draft_arguments.ensures.lines ∙ ap (λ (es : List Entry). es ++ moved) c.new-lines.ensures.items in
    let same = start_lines p c.args.pos l a named c.args.position c.args.heap.now b c.draft_arguments.new.heap list c.draft_arguments.new.lines.items (leak_entries_of c.new-leaks.result.items) c.in_ok-begin.ensures.heap c.in_ok-draft_arguments.ensures.heap lines
    (ap (λ (ks : List Leak). leak_entries_of ks) c.new-leaks.ensures.items) in
    subst (λ (es : List Entry). IfSome c.in_ok-all.all (λ v. v.items ≡ es)) same c.in_ok-all.ensures.lines

pub returns-in_err-draft_arguments-clause-drafted : goal.returns-in_err-draft_arguments-clause-drafted
returns-in_err-draft_arguments-clause-drafted c =
    drafted_on c.args.saved.now.items c.args.heap.now c.begin.new.saved.items c.begin.new.heap c.draft_arguments.new.saved.items c.draft_arguments.new.heap c.begin.ensures.drafted c.draft_arguments.ensures.drafted

pub returns-in_err-all-clause-drafted : goal.returns-in_err-all-clause-drafted
returns-in_err-all-clause-drafted c =
    drafted_on c.args.saved.now.items c.args.heap.now c.begin.new.saved.items c.begin.new.heap c.draft_end.new.saved.items c.draft_end.new.heap c.begin.ensures.drafted
    (drafted_on c.begin.new.saved.items c.begin.new.heap c.draft_arguments.new.saved.items c.draft_arguments.new.heap c.draft_end.new.saved.items c.draft_end.new.heap c.draft_arguments.ensures.drafted c.draft_end.ensures.drafted)

pub returns-clause-drafted : goal.returns-clause-drafted
returns-clause-drafted c =
    drafted_on c.args.saved.now.items c.args.heap.now c.begin.new.saved.items c.begin.new.heap c.draft_end.new.saved.items c.draft_end.new.heap c.begin.ensures.drafted
    (drafted_on c.begin.new.saved.items c.begin.new.heap c.draft_arguments.new.saved.items c.draft_arguments.new.heap c.draft_end.new.saved.items c.draft_end.new.heap c.draft_arguments.ensures.drafted c.draft_end.ensures.drafted)
