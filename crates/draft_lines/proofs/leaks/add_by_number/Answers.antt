use Rattle.std.proofs.Common.{◌≡◌, ◌∙◌, ap, sym, rules, List, ◌++◌}
use Rattle.std.proofs.lemmas.List.Sorted.{IsNonDecreasingBy-from_sort_by_key}
use Rattle.draft_lines.specs.declared.leaks.Leak.{Leak}
use Rattle.draft_lines.specs.DraftLines.{leak_entries_of}
use Rattle.draft_lines.proofs.LeakLaws.{by_number_sorted, stable_from_sort}
use Rattle.draft_lines.proofs.leaks.add_by_number.Goals as goal

pub returns : goal.returns
returns c h all =
    let ls = c.args.leaks.items in
    let ms = c.sort_by_key.new.self.items in
    let sorted = IsNonDecreasingBy-from_sort_by_key (λ (l : Leak). l.number) ms c.in_ok-sort_by_key.ensures.sorted (λ a r f' k. search rules) in
    let stable = stable_from_sort ls ms c.sort_by_key.ensures.stable (λ a r f' k. search rules) in
    let same : c.deref.result.now ≡ ms = search rules in
    c.in_ok-add_leak_lines.ensures ∙ ap (λ (ns : List Leak). c.args.into.now.items ++ leak_entries_of ns) same ∙ ap (λ es. c.args.into.now.items ++ es) (sym (by_number_sorted h ls ms c.sort_by_key.ensures.permutation sorted stable all))
