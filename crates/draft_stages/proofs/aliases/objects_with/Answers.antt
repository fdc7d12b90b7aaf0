use Rattle.std.proofs.Common.{◌≡◌, ◌∙◌, ◌++◌, ap, filter, subst, ℕ, true, Option, Vec}
use Rattle.std.specs.Global.{Global}
use Rattle.std.specs.Prelude.{IfSome}
use Rattle.ledger_state.specs.Heaps.{has_number, is_reached}
use Rattle.draft_stages.specs.Stages.{AliasesAmong, saved_numbers}
use Rattle.draft_stages.proofs.AliasLaws.{has_first, has_second, saved_has, with_roots}
use Rattle.draft_stages.proofs.aliases.objects_with.Goals as goal

pub returns : goal.returns
returns c =
    let there = subst (λ (o : Option (Vec ℕ Global)). IfSome o (λ v. (k : ℕ) → has_number c.deref.result.now k ≡ true → has_number v.items k ≡ true)) c.in-Some.is c.in_ok-all.ensures.all in
    let closed = subst (λ (o : Option (Vec ℕ Global)). IfSome o (λ v. AliasesAmong c.args.index.now v.items)) c.in-Some.is c.in_ok-all.ensures.closed in
    let all : (k : ℕ) → has_number (c.in_ok-first.first.items ++ saved_numbers c.args.saved.now) k ≡ true → has_number c.in-Some.numbers.items k ≡ true =
    λ k e. there k (ap (λ js. has_number js k) (c.deref.ensures.value ∙ c.in_ok-add_saved.ensures) ∙ e)
    in
    with_roots c.args.heap.now c.args.index.now c.args.saved.now c.args.roots.now c.in-Some.numbers.items c.in_ok-once-in-Some.once.items c.in_ok-found-in-Some.found.items c.requires
    (λ k e. all k (has_first c.in_ok-first.first.items (saved_numbers c.args.saved.now) k (ap (λ js. has_number js k) c.in_ok-first.ensures.items ∙ e)))
    (λ k e. all k (has_second c.in_ok-first.first.items (saved_numbers c.args.saved.now) k (saved_has c.args.saved.now k ∙ e)))
    closed c.in_ok-once-in-Some.ensures.rises c.in_ok-once-in-Some.ensures.all
    (c.in_ok-found-in-Some.ensures ∙ ap (filter (is_reached c.args.heap.now c.args.roots.now)) c.deref-in-Some.ensures.value)
