use Rattle.std.proofs.Common.{◌≡◌, ◌∙◌, ◌<◌, sym, subst, false, ℕ, List, vec_len, arith}
use Rattle.std.proofs.lemmas.List.{length-map}
use Rattle.std.specs.List.{list_any}
use Rattle.ledger_state.specs.Heaps.{object_at}
use Rattle.frame_owners.specs.FrameOwners.{Listed, list_at, lists_in}
use Rattle.drafted_heaps.specs.DraftedHeaps.{belongs_to}
use Rattle.drafted_heaps.proofs.EndLaws.{list_ended}
use Rattle.drafted_heaps.proofs.ending.end_list.Goals as goal

pub returns : goal.returns
returns c =
    let h = c.args.heap.now in
    let all = c.args.lists.now.items in
    let n = vec_len c.args.lists.now in
    let value = c.deref.ensures.value in
    let number = c.len-2.ensures in
    let numbers : c.last_list.result.now ≡ list_at (lists_in all) n = c.last_list.ensures ∙ (λ t. list_at (lists_in (value t)) (c.deref.ensures.len t)) in
    let none : list_any (λ k. belongs_to n (object_at h k)) (list_at (lists_in all) n) ≡ false =
    (λ t. list_any (λ k. belongs_to (sym number t) (object_at h k)) (sym numbers t)) ∙ sym c.owns_any.ensures ∙ c.if-owns_any.false in
    let one = c.len.ensures in
    let two = c.if-len-eq0.false in
    let three = c.args.lists.now.ok.0 in
    let some : 0 < n = omega (arith, one, two) in
    λ _. subst (λ (lists : List (List ℕ)). Listed lists h) (sym c.drop_list.ensures) (list_ended (lists_in all) n h (omega (arith, length-map all (λ v. v.items), three)) some c.requires none)
