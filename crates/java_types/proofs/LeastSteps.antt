-- The least of the first refusals, and of one more.
use Rattle.std.proofs.Common.{◌≡◌, ◌∙◌, sym, ap, ℕ, ◌+◌, ◌<◌, Option, Some, List, [], ◌∷◌, get_or, length, take}
use Rattle.std.proofs.lemmas.List.{take_more}
use Rattle.rlc_base.specs.declared.faults.Refusal.{Refusal}
use Rattle.refusal_order.specs.Refusals.{least, lesser_of}
use Rattle.refusal_order.proofs.LeastLaws.{least-append}

pub least_step : (xs : List Refusal) (i : ℕ) (d : Refusal) (found next : Option Refusal) → i < length xs → next ≡ lesser_of found (Some (get_or xs i d)) → found ≡ least (take i xs) → next ≡ least (take (i + 1) xs)
least_step xs i d found next below is before =
    is ∙ ap (λ least_so_far. lesser_of least_so_far (Some (get_or xs i d))) before
    ∙ sym (ap least (take_more xs i d below) ∙ least-append (take i xs) (get_or xs i d ∷ []))
